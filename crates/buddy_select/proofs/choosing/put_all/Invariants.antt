use Rattle.std.proofs.Common.{◌≡◌, [], take}
use Rattle.std.specs.List.Sorted.{IsPermutation}
use Rattle.buddy_select.specs.Order.{put_all}
use Rattle.buddy_select.proofs.choosing.put_all.Given as goal

abbrev pub invariant-loop-candidate : goal.invariant-loop-candidate
invariant-loop-candidate l = record {
  order : l.ordered.items ≡ put_all [] (take l.candidate-index l.candidates);
  all : IsPermutation (take l.candidate-index l.candidates) l.ordered.items;
}
