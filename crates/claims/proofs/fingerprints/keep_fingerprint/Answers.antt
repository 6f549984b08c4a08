use Rattle.std.proofs.Common.{◌≡◌, ℕ, ◌+◌, List, [], ◌∷◌, ◌++◌, length, get_or, ⊎_elim, sym, ap, ◌∙◌, arith, length-append}
use Rattle.std.proofs.lemmas.Bool.Decides.{leb_tells}
use Rattle.std.proofs.lemmas.List.{get_or_append_left}
use Rattle.std.proofs.Math.Seq.{get_or-append_seam}
use Rattle.std.proofs.lemmas.Result.{on_ok_weaker}
use Rattle.psb_digest.specs.Claims.{claim}
use Rattle.claims.specs.Fingerprints.{fingerprint, AreFingerprints}
use Rattle.claims.proofs.fingerprints.keep_fingerprint.Goals as goal

one_more : (seed list : List ℕ) (first count : ℕ) → first ≡ fingerprint (claim seed count) → AreFingerprints seed list count → AreFingerprints seed (list ++ first ∷ []) (count + 1)
one_more seed list first count is known = record {
  all = length-append list (first ∷ []) ∙ ap (λ n. n + 1) known.all;
  right = λ i lt. ⊎_elim
      (λ last.
      let at : i ≡ length list = omega (arith, lt, last.1, known.all) in
      let here : i ≡ count = at ∙ known.all in
      ap (λ k. get_or (list ++ first ∷ []) k 0) at ∙ get_or-append_seam list first [] 0 ∙ is ∙ ap (λ k. fingerprint (claim seed k)) (sym here))
      (λ below. get_or_append_left list (first ∷ []) 0 i (omega (arith, below.1, known.all)) ∙ known.right i below.1)
      (leb_tells count i);
}

pub returns-clause-kept : goal.returns-clause-kept
returns-clause-kept c = on_ok_weaker c.push_tight.result
    (λ added seed count is known. rw added (one_more seed c.args.list.now.items c.args.next count is known))
    c.push_tight.ensures.added
