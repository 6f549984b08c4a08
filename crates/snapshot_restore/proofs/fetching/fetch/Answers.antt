use Rattle.std.proofs.Common.{◌≡◌, [], ◌∷◌, option_map, sym, subst}
use Rattle.convergent_seal.specs.Sealing.{opened}
use Rattle.snapshot_restore.specs.Fetching.{IsOwn, Awaits, StopsAwaiting, Takes, Stops}
use Rattle.snapshot_restore.specs.Taken.{Taken}
use Rattle.snapshot_restore.proofs.Fetches.{read_of_place, own_taken, awaited_taken, own_stopped, awaited_stopped}
use Rattle.snapshot_restore.proofs.fetching.fetch.Goals as goal

pub returns-in-Ok-Some-clause-taken : goal.returns-in-Ok-Some-clause-taken
returns-in-Ok-Some-clause-taken g c =
    let w = c.args.waiting.now in
    subst (λ node. (t : Taken) × (t.reference ≡ c.args.reference.now) × (c.in-Ok-Some.plain.items ≡ opened t.reference t.body) × Takes g.L.Log.holds g.L.Log.stands g.L.Log.is_broken w w c.args.node.now node (g.S.Disk.view c.args.station.now) (g.S.Disk.view c.own_plain.new.station) (t ∷ [])) (sym c.own_plain.ensures.same)
    (own_taken g.L.Log.holds g.L.Log.stands g.L.Log.is_broken g.met.L.Log.holds_stands w c.args.node.now (g.S.Disk.view c.args.station.now) (g.S.Disk.view c.own_plain.new.station) c.args.reference.now c.in-Ok-Some.plain.items
    c.requires.up.whole c.own_plain.ensures.keeps (subst (λ o. IsOwn g.L.Log.holds c.args.node.now (g.S.Disk.view c.args.station.now) (g.S.Disk.view c.own_plain.new.station) c.args.reference.now (option_map (λ plain. plain.items) o)) c.in-Ok-Some.field-0-is c.in-Ok-Some.ensures.own))

pub returns-in-Err-clause-stopped : goal.returns-in-Err-clause-stopped
returns-in-Err-clause-stopped g c =
    let w = c.args.waiting.now in
    subst (λ node. Stops g.L.Log.holds g.L.Log.stands g.L.Log.is_broken w w c.args.node.now node (g.S.Disk.view c.args.station.now) (g.S.Disk.view c.own_plain.new.station) [] (c.args.reference.now ∷ []) c.in-Err.fault) (sym c.own_plain.ensures.same)
    (own_stopped g.L.Log.holds g.L.Log.stands g.L.Log.is_broken g.met.L.Log.holds_stands w c.args.node.now (g.S.Disk.view c.args.station.now) (g.S.Disk.view c.own_plain.new.station) c.args.reference.now c.in-Err.fault
    c.requires.up.whole c.own_plain.ensures.keeps c.in-Err.ensures.only)

pub returns-in-Err-clause-only : goal.returns-in-Err-clause-only
returns-in-Err-clause-only g c = read_of_place c.in-Err.fault c.in-Err.ensures.only

pub returns-in-Ok-clause-taken : goal.returns-in-Ok-clause-taken
returns-in-Ok-clause-taken g c =
    awaited_taken g.L.Log.holds g.L.Log.stands g.L.Log.is_broken g.met.L.Log.holds_stands c.args.waiting.now c.await_plain.new.waiting c.args.node.now c.await_plain.new.node (g.S.Disk.view c.args.station.now) (g.S.Disk.view c.own_plain.new.station) (g.S.Disk.view c.await_plain.new.station) c.args.reference.now c.in-Ok.plain.items
    c.requires.up.whole c.in-Ok.ensures.up.whole c.own_plain.ensures.keeps (subst (λ o. IsOwn g.L.Log.holds c.args.node.now (g.S.Disk.view c.args.station.now) (g.S.Disk.view c.own_plain.new.station) c.args.reference.now (option_map (λ plain. plain.items) o)) c.in-Ok-None.field-0-is c.in-Ok-None.ensures.own)
    (subst (λ node. Awaits g.L.Log.holds g.L.Log.stands g.L.Log.is_broken c.args.waiting.now c.await_plain.new.waiting node c.await_plain.new.node (g.S.Disk.view c.own_plain.new.station) (g.S.Disk.view c.await_plain.new.station) c.args.reference.now c.in-Ok.plain.items) c.own_plain.ensures.same c.in-Ok.ensures.came)

pub returns-in-Err-await_plain-clause-stopped : goal.returns-in-Err-await_plain-clause-stopped
returns-in-Err-await_plain-clause-stopped g c =
    awaited_stopped g.L.Log.holds g.L.Log.stands g.L.Log.is_broken g.met.L.Log.holds_stands c.args.waiting.now c.await_plain.new.waiting c.args.node.now c.await_plain.new.node (g.S.Disk.view c.args.station.now) (g.S.Disk.view c.own_plain.new.station) (g.S.Disk.view c.await_plain.new.station) c.args.reference.now c.in-Err-await_plain.fault
    c.requires.up.whole c.in-Err-await_plain.ensures.only c.own_plain.ensures.keeps (subst (λ o. IsOwn g.L.Log.holds c.args.node.now (g.S.Disk.view c.args.station.now) (g.S.Disk.view c.own_plain.new.station) c.args.reference.now (option_map (λ plain. plain.items) o)) c.in-Ok-None.field-0-is c.in-Ok-None.ensures.own)
    (subst (λ node. StopsAwaiting g.L.Log.holds g.L.Log.stands g.L.Log.is_broken c.args.waiting.now c.await_plain.new.waiting node c.await_plain.new.node (g.S.Disk.view c.own_plain.new.station) (g.S.Disk.view c.await_plain.new.station) c.args.reference.now c.in-Err-await_plain.fault) c.own_plain.ensures.same c.in-Err-await_plain.ensures.stopped)
