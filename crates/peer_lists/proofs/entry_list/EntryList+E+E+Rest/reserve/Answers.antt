use Rattle.std.proofs.Common.{◌++◌}
use Rattle.slot_runs.specs.SlotRuns.{runs}
use Rattle.peer_lists.proofs.Tables.{same_slots}
use Rattle.peer_lists.proofs.entry_list.EntryList+E+E+Rest.reserve.Goals as goal

pub returns-clause-items : goal.returns-clause-items
returns-clause-items g c =
    let key = g.E.Entry.key in
    let joined = g.E.Entry.joined in
    let t = c.args.self.now in
    (λ i. c.reserve.ensures.items i ++ same_slots key joined g.met.E.Entry.key_joined (runs t.slots) (runs c.reserve-2.new.self) c.requires.slots.are c.reserve-2.ensures.kept.are c.reserve-2.ensures.rest i)
