use Rattle.std.proofs.Common.{◌∙◌, List, [], ◌∷◌, ◌++◌, map, take, sym, ap, rules}
use Rattle.std.proofs.lemmas.List.{take_all}
use Rattle.psb_bytes.specs.declared.ids.Ref.{Ref}
use Rattle.convergent_seal.specs.Sealing.{sealed_ref}
use Rattle.rolling_chunks.specs.declared.spans.Span.{Span}
use Rattle.rolling_chunks.specs.Laws.{part}
use Rattle.snapshots.proofs.Tickets.{span_is_piece, refs_more}
use Rattle.snapshots.proofs.sealing.refs_of_text.Goals as goal

pub loop-span-init : goal.loop-span-init
loop-span-init c = record { refs = c.new-refs.ensures.items }

pub ref_of-requires-clause-inside : goal.ref_of-requires-clause-inside
ref_of-requires-clause-inside c = (span_is_piece c.args.text.now c.as_slice-span-items.result.now (c.as_slice-span-items.ensures.value ∙ c.in_ok-spans.ensures) c.loop-span.span-index _ c.loop-span-test.true).inside

pub ref_of-requires-clause-some : goal.ref_of-requires-clause-some
ref_of-requires-clause-some c = (span_is_piece c.args.text.now c.as_slice-span-items.result.now (c.as_slice-span-items.ensures.value ∙ c.in_ok-spans.ensures) c.loop-span.span-index _ c.loop-span-test.true).some

pub ref_of-requires-clause-short : goal.ref_of-requires-clause-short
ref_of-requires-clause-short c = (span_is_piece c.args.text.now c.as_slice-span-items.result.now (c.as_slice-span-items.ensures.value ∙ c.in_ok-spans.ensures) c.loop-span.span-index _ c.loop-span-test.true).short

pub loop-span-preserved : goal.loop-span-preserved
loop-span-preserved c = record {
  refs =
      c.in_ok-push.ensures.items
      ∙ ap (λ (l : List Ref). l ++ c.in_ok-ref_of.field-0 ∷ []) c.loop-span.invariant.refs
      ∙ ap (λ (r : Ref). map sealed_ref (map (part c.args.text.now) (take c.loop-span.span-index c.as_slice-span-items.result.now)) ++ r ∷ []) c.in_ok-ref_of.ensures
      ∙ sym (refs_more c.args.text.now c.as_slice-span-items.result.now c.loop-span.span-index _ c.loop-span-test.true);
}

pub returns : goal.returns
returns c =
    c.from_vec.ensures
    ∙ c.loop-span.invariant.refs
    ∙ ap (λ (l : List Span). map sealed_ref (map (part c.args.text.now) l)) (take_all c.loop-span.span-index c.as_slice-span-items.result.now (search rules) ∙ c.as_slice-span-items.ensures.value ∙ c.in_ok-spans.ensures)
