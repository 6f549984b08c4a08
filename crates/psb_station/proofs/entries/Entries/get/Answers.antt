use Rattle.std.proofs.Common.{sym}
use Rattle.psb_station.specs.Entries.{entries_of}
use Rattle.psb_station.proofs.Places.{found_node, found_gap}
use Rattle.psb_station.proofs.entries.Entries.get.Goals as goal

pub returns-in-Ok : goal.returns-in-Ok
returns-in-Ok c =
    let m = c.args.self.now in
    let at = c.in-Ok.ensures.place in
    found_node m.paths.items m.list.items c.in-Ok.place c.index.result.now c.args.path.now at.0 m.ascend c.index.ensures at.1

pub returns-in-Err : goal.returns-in-Err
returns-in-Err c =
    let m = c.args.self.now in
    let gap = c.in-Err.ensures.place in
    sym (found_gap (entries_of m) c.in-Err.field-0 c.args.path.now m.ascend gap.1 gap.2)
