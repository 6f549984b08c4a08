use Rattle.std.proofs.Common.{◌≡◌, List, ◌++◌, map, drop}
use Rattle.psb_model.specs.declared.entries.InEntry.{InEntry}
use Rattle.psb_model.specs.State.{in_key}
use Rattle.psb_model.specs.Discards.{picks}
use Rattle.discard_policy.specs.Grades.{every}
use Rattle.discard_policy.specs.Drawing.{past, drawn}
use Rattle.discard_policy.specs.Choices.{weighed}
use Rattle.discard_policy.proofs.choosing.choose.Given as goal

abbrev pub invariant-loop-object : goal.invariant-loop-object
invariant-loop-object l = record {
  words : l.words ≡ past l.fn.words l.object-index;
  grade : l.picker.grade ≡ l.fn.grade;
  picks : (es : List InEntry) → map weighed es ≡ l.entries
      → map in_key (picks (drawn l.fn.words) (every l.fn.grade) 0 l.debt 1048576 es)
      ≡ l.chosen.items ++ map in_key (picks (drawn l.fn.words) (every l.fn.grade) l.object-index l.picker.left l.picker.room (drop l.object-index es));
}
