use Rattle.std.proofs.Common.{◌≡◌, ◌≤◌, length, map, drop}
use Rattle.psb_model.specs.State.{in_key}
use Rattle.psb_model.specs.Discards.{picks}
use Rattle.psb_model.specs.Conditions.{same_objects}
use Rattle.discard_policy.specs.Grades.{every}
use Rattle.discard_policy.specs.Drawing.{drawn}
use Rattle.peer_lists.proofs.Next.{behind}
use Rattle.accounts.specs.Table.{untied}
use Rattle.accounts.proofs.Taken.{to_take}
use Rattle.accounts.proofs.discards.are_taken.Given as goal

abbrev pub invariant-loop-entry : goal.invariant-loop-entry
invariant-loop-entry l = record {
  same : same_objects l.objects (map in_key (picks (drawn l.fn.words) (every l.fn.picker.grade) 0 l.fn.picker.left l.fn.picker.room (untied l.accounts l.peer l.ins.items))) ≡ same_objects (drop l.count l.objects) (to_take l.accounts l.peer l.words (every l.picker.grade) l.picker.left l.picker.room l.place l.ins.items);
  within : l.count ≤ length l.objects;
}

abbrev pub decreases-loop-entry : goal.decreases-loop-entry
decreases-loop-entry l = length (behind in_key l.place l.ins.items)
