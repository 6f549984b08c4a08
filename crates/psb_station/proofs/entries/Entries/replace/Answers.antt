use Rattle.psb_station.specs.Entries.{entries_of}
use Rattle.psb_station.proofs.Places.{set_kept, set_shows, found_gap}
use Rattle.psb_station.proofs.entries.Entries.replace.Goals as goal

pub invariant_of-self : goal.invariant_of-self
invariant_of-self c =
    let m = c.args.self.now in
    let at = c.in-Ok.ensures.place in
    let kept = set_kept m.paths.items m.list.items c.in-Ok.place c.index_mut.result.now c.args.node c.args.path.now at.0 (m.within, m.names, m.ascend) c.index_mut.ensures.value at.1 in
    record { within = kept.0; names = kept.1; ascend = kept.2 }

pub returns-in-Ok : goal.returns-in-Ok
returns-in-Ok c =
    let m = c.args.self.now in
    let at = c.in-Ok.ensures.place in
    set_shows m.paths.items m.list.items c.in-Ok.place c.index_mut.result.now c.args.node c.args.path.now at.0 m.ascend c.index_mut.ensures.value at.1

pub returns-in_default : goal.returns-in_default
returns-in_default c =
    let m = c.args.self.now in
    let gap = c.in_default.ensures.place in
    absurd (c.requires (found_gap (entries_of m) c.in_default.field-0 c.args.path.now m.ascend gap.1 gap.2))
