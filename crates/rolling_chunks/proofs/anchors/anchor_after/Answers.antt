use Rattle.std.proofs.Common.{◌≡◌, ℕ, ◌+◌, false, ◌∙◌, subst, inl, inr, arith}
use Rattle.std.proofs.lemmas.Bool.{cases_eq}
use Rattle.rolling_chunks.specs.Cuts.{is_anchor}
use Rattle.rolling_chunks.proofs.Loose.{StandsFor-next, anchor-is}
use Rattle.rolling_chunks.proofs.anchors.anchor_after.Goals as goal

pub returns-then-is_at_anchor-clause-some : goal.returns-then-is_at_anchor-clause-some
returns-then-is_at_anchor-clause-some c =
    let bytes = c.args.bytes.now in
    let i = c.loop-i.i in
    let next = StandsFor-next bytes i (c.loop-i.moved + c.loop-i.change) c.folded-moved.result c.change_by-change.result (omega arith) (omega arith) c.loop-i.invariant.stands c.folded-moved.ensures c.change_by-change.ensures.below c.change_by-change.ensures.leaves in
    record {
      after = omega arith;
      within = omega arith;
      ends = anchor-is bytes (i + 1) (c.folded-moved.result + c.change_by-change.result) c.is_at_anchor.result (omega arith) next c.is_at_anchor.ensures ∙ c.if-is_at_anchor.true;
      least = λ k from to. c.loop-i.invariant.none k from (omega arith);
    }

pub loop-i-preserved : goal.loop-i-preserved
loop-i-preserved c =
    let bytes = c.args.bytes.now in
    let i = c.loop-i.i in
    let next = StandsFor-next bytes i (c.loop-i.moved + c.loop-i.change) c.folded-moved.result c.change_by-change.result (omega arith) (omega arith) c.loop-i.invariant.stands c.folded-moved.ensures c.change_by-change.ensures.below c.change_by-change.ensures.leaves in
    let here : is_anchor bytes (i + 1) ≡ false = anchor-is bytes (i + 1) (c.folded-moved.result + c.change_by-change.result) c.is_at_anchor.result (omega arith) next c.is_at_anchor.ensures ∙ c.if-is_at_anchor.false in
    record {
      stands = next;
      none = λ k from to. elim (cases_eq (i + 1) k) [ inl same ↦ subst (λ (e : ℕ). is_anchor bytes e ≡ false) same here | inr ne ↦ c.loop-i.invariant.none k from (omega arith) ];
    }
