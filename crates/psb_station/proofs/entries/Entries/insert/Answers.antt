use Rattle.psb_station.proofs.Places.{set_kept, set_shows}
use Rattle.psb_station.proofs.entries.Entries.insert.Goals as goal

pub invariant_of-self : goal.invariant_of-self
invariant_of-self c =
    let m = c.args.self.now in
    let at = c.in-Ok.ensures.place in
    let kept = set_kept m.paths.items m.list.items c.in-Ok.place c.index_mut.result.now c.args.node c.args.path.now at.0 (m.within, m.names, m.ascend) c.index_mut.ensures.value at.1 in
    record { within = kept.0; names = kept.1; ascend = kept.2 }

pub returns-in-Ok-clause-ok : goal.returns-in-Ok-clause-ok
returns-in-Ok-clause-ok c =
    let m = c.args.self.now in
    let at = c.in-Ok.ensures.place in
    set_shows m.paths.items m.list.items c.in-Ok.place c.index_mut.result.now c.args.node c.args.path.now at.0 m.ascend c.index_mut.ensures.value at.1
