use Rattle.std.specs.Prelude.{◌≡◌, length}
use Rattle.psb_model.specs.Grammar.{ascend}
use Rattle.change_codec.proofs.grammar.places_ascend.Given as goal

abbrev pub invariant-loop-rest : goal.invariant-loop-rest
invariant-loop-rest l = ascend l.rest ≡ ascend l.fn.places

abbrev pub decreases-loop-rest : goal.decreases-loop-rest
decreases-loop-rest l = length l.rest
