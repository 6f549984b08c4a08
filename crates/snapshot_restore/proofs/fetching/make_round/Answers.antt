use Rattle.std.proofs.Common.{sym, subst}
use Rattle.node_history.proofs.Presence.{err_is}
use Rattle.snapshot_restore.specs.Fetching.{StopsRound}
use Rattle.snapshot_restore.proofs.Rounds.{makes_round, stops_round, unbegun_round}
use Rattle.snapshot_restore.proofs.fetching.make_round.Goals as goal

pub returns-in-Err-clause-stopped : goal.returns-in-Err-clause-stopped
returns-in-Err-clause-stopped g c =
    let w = c.args.waiting.now in
    let node = c.args.node.now in
    subst (λ station. StopsRound g.L.Log.holds g.L.Log.stands g.L.Log.is_broken w w node node (g.S.Disk.view c.args.station.now) (g.S.Disk.view station) c.args.reference.now c.args.made c.in-Err.fault) (sym c.in-Err.ensures.untouched)
    (unbegun_round g.L.Log.holds g.L.Log.stands g.L.Log.is_broken g.met.L.Log.holds_stands w node (g.S.Disk.view c.args.station.now) c.args.reference.now c.args.made c.in-Err.fault c.requires.up.whole (err_is _ _ c.in-Err.ensures.only))

pub returns-in-Ok-listen-clause-made : goal.returns-in-Ok-listen-clause-made
returns-in-Ok-listen-clause-made g c =
    makes_round g.L.Log.holds g.L.Log.stands g.L.Log.is_broken g.met.L.Log.holds_stands c.args.waiting.now c.listen.new.waiting c.args.node.now c.listen.new.node (g.S.Disk.view c.args.station.now) (g.S.Disk.view c.ask_again.new.station) (g.S.Disk.view c.listen.new.station) c.args.reference.now c.args.made c.in-Ok-listen.came
    c.requires.up.whole c.in-Ok.ensures.asked c.in-Ok-listen.ensures.heard

pub returns-in-Err-listen-clause-stopped : goal.returns-in-Err-listen-clause-stopped
returns-in-Err-listen-clause-stopped g c =
    stops_round g.L.Log.holds g.L.Log.stands g.L.Log.is_broken g.met.L.Log.holds_stands c.args.waiting.now c.listen.new.waiting c.args.node.now c.listen.new.node (g.S.Disk.view c.args.station.now) (g.S.Disk.view c.ask_again.new.station) (g.S.Disk.view c.listen.new.station) c.args.reference.now c.args.made c.in-Err-listen.fault
    c.requires.up.whole c.in-Ok.ensures.asked c.in-Err-listen.ensures.stopped
