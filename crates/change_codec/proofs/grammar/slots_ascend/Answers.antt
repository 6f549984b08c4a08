use Rattle.std.proofs.Common.{sym, ◌∙◌, arith}
use Rattle.change_codec.proofs.Listed.{short}
use Rattle.change_codec.proofs.grammar.slots_ascend.Goals as goal

pub returns : goal.returns
returns c = sym (short c.loop-rest.rest.now (omega (arith, c.in_default.len_below))) ∙ c.loop-rest.invariant
