use Rattle.std.specs.Prelude.{length}
use Rattle.change_codec.proofs.Distinct.{AreSeen}
use Rattle.change_codec.proofs.grammar.are_distinct.Given as goal

abbrev pub invariant-loop-last : goal.invariant-loop-last
invariant-loop-last l = AreSeen l.fn.objects l.rest l.seen

abbrev pub decreases-loop-last : goal.decreases-loop-last
decreases-loop-last l = length l.rest
