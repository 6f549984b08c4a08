use Rattle.std.proofs.Common.{length, map}
use Rattle.psb_model.specs.State.{in_key}
use Rattle.psb_model.specs.Discards.{picks}
use Rattle.discard_policy.specs.Grades.{every}
use Rattle.discard_policy.specs.Drawing.{drawn}
use Rattle.peer_lists.proofs.Next.{behind}
use Rattle.due_discards.specs.Offers.{untied}
use Rattle.due_discards.proofs.Offered.{IsWalk}
use Rattle.due_discards.proofs.walk.taken.Given as goal

abbrev pub invariant-loop-entry : goal.invariant-loop-entry
invariant-loop-entry l = IsWalk (map in_key (picks (drawn l.fn.words) (every l.fn.picker.grade) 0 l.fn.picker.left l.fn.picker.room (untied l.ledger.state l.peer l.ins.items))) l.objects.items l.ledger.state l.peer l.words (every l.picker.grade) l.picker.left l.picker.room l.place l.ins.items

abbrev pub decreases-loop-entry : goal.decreases-loop-entry
decreases-loop-entry l = length (behind in_key l.place l.ins.items)
