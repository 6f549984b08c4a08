use Rattle.std.proofs.Common.{◌∙◌, arith}
use Rattle.own_chunks.proofs.Listed.{ordered_all, pair_tested}
use Rattle.psb_model.specs.Candidates.{comes_before}
use Rattle.psb_ledger.proofs.Choosing.{order_pairs}
use Rattle.psb_ledger.proofs.ledger.choosing.in_select_order.Goals as goal

pub returns-then-not-comes_before : goal.returns-then-not-comes_before
returns-then-not-comes_before c = (pair_tested comes_before c.args.candidates.now c.loop-i.i c.index-candidates-i.result c.index-candidates-i-in-loop-i.result c.comes_before.result (omega arith) (omega arith) (c.comes_before.ensures ∙ (λ j. comes_before (c.index-candidates-i.is j) (c.index-candidates-i-in-loop-i.is j))) c.loop-i.invariant).0 c.if-not-comes_before.true ∙ order_pairs c.args.candidates.now

pub loop-i-preserved : goal.loop-i-preserved
loop-i-preserved c = (pair_tested comes_before c.args.candidates.now c.loop-i.i c.index-candidates-i.result c.index-candidates-i-in-loop-i.result c.comes_before.result (omega arith) (omega arith) (c.comes_before.ensures ∙ (λ j. comes_before (c.index-candidates-i.is j) (c.index-candidates-i-in-loop-i.is j))) c.loop-i.invariant).1 c.if-not-comes_before.false

pub returns : goal.returns
returns c = ordered_all comes_before c.args.candidates.now c.loop-i.i (omega arith) c.loop-i.invariant ∙ order_pairs c.args.candidates.now
