use Rattle.std.proofs.Common.{length}
use Rattle.asked_objects.specs.Parts.{is_listed_chunk}
use Rattle.asked_objects.proofs.Walking.{IsGathered, left, all}
use Rattle.asked_objects.proofs.listing.chunks_there.Given as goal

abbrev pub invariant-loop-entry : goal.invariant-loop-entry
invariant-loop-entry l = IsGathered (is_listed_chunk l.account.row) l.account.row.outs l.passed l.chunks.items

abbrev pub decreases-loop-entry : goal.decreases-loop-entry
decreases-loop-entry l = length (left all l.passed l.account.row.outs)
