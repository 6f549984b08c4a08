use Rattle.std.proofs.Common.{rules, ◌≡◌, ◌%◌, ◌==◌, true, false}
use Rattle.snapshot_restore.proofs.Asking.{asks_none, asks_all, up_asked}
use Rattle.snapshot_restore.proofs.fetching.ask_again.Goals as goal

pub returns-then-made-ne0-clause-asked : goal.returns-then-made-ne0-clause-asked
returns-then-made-ne0-clause-asked g c =
    let k : (c.args.made % 8 == 0) ≡ false = search rules in
    asks_none g.L.Log.holds g.L.Log.stands g.L.Log.is_broken g.met.L.Log.holds_stands c.args.node.now (g.S.Disk.view c.args.station.now) c.args.reference.now.name c.args.made k

pub returns-in-Ok-clause-asked : goal.returns-in-Ok-clause-asked
returns-in-Ok-clause-asked g c =
    let k : (c.args.made % 8 == 0) ≡ true = search rules in
    asks_all g.L.Log.holds g.L.Log.stands g.L.Log.is_broken g.met.L.Log.holds_stands c.args.node.now (g.S.Disk.view c.args.station.now) (g.S.Disk.view c.ask.new.station) c.args.reference.now.name c.args.made c.in-Ok.field-0 k c.in-Ok.ensures.only_sends c.in-Ok.ensures.tells c.in-Ok.ensures.counts (λ told n st knows present stored. c.in-Ok.ensures.asked told n st knows present stored)

pub returns-in-Ok-clause-up : goal.returns-in-Ok-clause-up
returns-in-Ok-clause-up g c =
    up_asked g.L.Log.holds g.L.Log.stands g.L.Log.is_broken g.met.L.Log.holds_stands g.L.Log.size g.L.Log.keeps_body c.args.node.now (g.S.Disk.view c.args.station.now) (g.S.Disk.view c.ask.new.station) c.args.reference.now.name c.args.made c.requires.up (returns-in-Ok-clause-asked g c)
