use Rattle.std.proofs.Common.{◌≡◌, ◌≤◌, ◌^◌, ◌-◌, ◌++◌, length, take, map}
use Rattle.psb_bytes.specs.declared.ids.Object.TheVariants.{Slot}
use Rattle.psb_model.specs.Words.{slots}
use Rattle.peer_lists.specs.Entries.{from_object}
use Rattle.peer_lists.specs.EntryLists.{items}
use Rattle.peer_lists.specs.Sought.{sought}
use Rattle.peer_lists.proofs.sought.EntryList+E+E+Rest.least_sought.Given as goal

abbrev pub invariant-loop-part : goal.invariant-loop-part
invariant-loop-part g l =
    let all = items g.E.Entry.key g.E.Entry.joined l.self in
    record {
      same : slots l.numbers.items ++ take (l.most - length l.numbers.items) (map g.E.Entry.key (sought g.E.Entry.key (g.E.Entry.passes l.test) l.but (from_object g.E.Entry.key (Slot l.from) all))) ≡ take l.most (map g.E.Entry.key (sought g.E.Entry.key (g.E.Entry.passes l.test) l.but all));
      from : l.from ≤ 2 ^ 32;
    }

abbrev pub decreases-loop-part : goal.decreases-loop-part
decreases-loop-part g l = 2 ^ 32 - l.from
