use Rattle.psb_station.specs.Entries.{entries_of}
use Rattle.psb_station.proofs.Places.{taken_kept, taken_shows, none_taken, found_gap}
use Rattle.psb_station.proofs.entries.Entries.remove.Goals as goal

pub invariant_of-self : goal.invariant_of-self
invariant_of-self c =
    let m = c.args.self.now in
    let kept = taken_kept m.paths.items m.list.items c.remove.new.self.items c.in-Ok.place (m.within, m.names, m.ascend) c.remove.ensures.items in
    record { within = kept.0; names = kept.1; ascend = kept.2 }

pub returns-in-Ok : goal.returns-in-Ok
returns-in-Ok c =
    let m = c.args.self.now in
    let at = c.in-Ok.ensures.place in
    taken_shows m.paths.items m.list.items c.remove.new.self.items c.in-Ok.place c.args.path.now at.0 m.ascend at.1 c.remove.ensures.items

pub returns-in_default : goal.returns-in_default
returns-in_default c =
    let m = c.args.self.now in
    let gap = c.in_default.ensures.place in
    none_taken (entries_of m) c.args.path.now (found_gap (entries_of m) c.in_default.field-0 c.args.path.now m.ascend gap.1 gap.2)
