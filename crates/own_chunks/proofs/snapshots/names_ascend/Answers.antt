use Rattle.std.proofs.Common.{◌∙◌, arith}
use Rattle.own_chunks.proofs.Listed.{name_lt, names_pairs, ordered_all, pair_tested}
use Rattle.own_chunks.proofs.snapshots.names_ascend.Goals as goal

pub returns-then-not-is_below : goal.returns-then-not-is_below
returns-then-not-is_below c = (pair_tested name_lt c.args.names.now c.loop-i.i c.index-names-i.result c.index-names-i-in-loop-i.result c.is_below.result (omega arith) (omega arith) (c.is_below.ensures ∙ (λ j. name_lt (c.index-names-i.is j) (c.index-names-i-in-loop-i.is j))) c.loop-i.invariant).0 c.if-not-is_below.true ∙ names_pairs c.args.names.now

pub loop-i-preserved : goal.loop-i-preserved
loop-i-preserved c = (pair_tested name_lt c.args.names.now c.loop-i.i c.index-names-i.result c.index-names-i-in-loop-i.result c.is_below.result (omega arith) (omega arith) (c.is_below.ensures ∙ (λ j. name_lt (c.index-names-i.is j) (c.index-names-i-in-loop-i.is j))) c.loop-i.invariant).1 c.if-not-is_below.false

pub returns : goal.returns
returns c = ordered_all name_lt c.args.names.now c.loop-i.i (omega arith) c.loop-i.invariant ∙ names_pairs c.args.names.now
