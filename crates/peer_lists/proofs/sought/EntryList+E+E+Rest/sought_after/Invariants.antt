use Rattle.std.proofs.Common.{◌≡◌, ◌≤◌, ◌^◌, ◌-◌}
use Rattle.std.specs.Option.{option_map}
use Rattle.psb_bytes.specs.declared.ids.Object.TheVariants.{Slot}
use Rattle.peer_lists.specs.Entries.{from_object}
use Rattle.peer_lists.specs.EntryLists.{items}
use Rattle.peer_lists.specs.Walks.{entry_after}
use Rattle.peer_lists.specs.Sought.{sought}
use Rattle.peer_lists.proofs.Next.{first_of}
use Rattle.peer_lists.proofs.sought.EntryList+E+E+Rest.sought_after.Given as goal

abbrev pub invariant-loop-part : goal.invariant-loop-part
invariant-loop-part g l =
    let all = items g.E.Entry.key g.E.Entry.joined l.self in
    record {
      same : first_of (sought g.E.Entry.key (g.E.Entry.passes l.test) l.but (from_object g.E.Entry.key (Slot l.from) all)) ≡ entry_after g.E.Entry.key (option_map Slot l.fn.place) (sought g.E.Entry.key (g.E.Entry.passes l.test) l.but all);
      from : l.from ≤ 2 ^ 32;
    }

abbrev pub decreases-loop-part : goal.decreases-loop-part
decreases-loop-part g l = 2 ^ 32 - l.from
