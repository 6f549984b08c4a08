-- A list without repeats, candidate by candidate.
use Rattle.std.proofs.Common.{◌≡◌, ℕ, zero, suc, ◌+◌, ◌<◌, ◌≤◌, Bool, true, false, not, ◌&&◌, List, [], ◌∷◌, length, drop, get_or, refl, sym, ap, ◌∙◌, arith}
use Rattle.std.specs.Prelude.{◌==◌}
use Rattle.std.specs.List.{list_any}
use Rattle.psb_model.specs.declared.entries.Candidate.{Candidate}
use Rattle.psb_model.specs.Candidates.{distinct_peers}

-- the candidates before place i are listed once
abbrev pub AreDistinctTo : List Candidate → ℕ → Type 0
AreDistinctTo cs i = distinct_peers cs ≡ distinct_peers (drop i cs)

distinct_from : (cs : List Candidate) (i : ℕ) (d : Candidate) → i < length cs → distinct_peers (drop i cs) ≡ (not (list_any (λ (y : Candidate). (get_or cs i d).peer == y.peer) (drop (i + 1) cs)) && distinct_peers (drop (i + 1) cs))
distinct_from [] i d lt = absurd (omega (arith, lt))
distinct_from (x ∷ xs) zero d lt = refl
distinct_from (x ∷ xs) (suc i) d lt =
    let more : suc i + 1 ≡ suc (i + 1) = omega arith in
    rw more (distinct_from xs i d (omega (arith, lt)))

pub one_distinct : (cs : List Candidate) (i : ℕ) (d : Candidate) (b : Bool) → i < length cs → b ≡ list_any (λ (y : Candidate). (get_or cs i d).peer == y.peer) (drop (i + 1) cs) → AreDistinctTo cs i → (b ≡ true → false ≡ distinct_peers cs) × (b ≡ false → AreDistinctTo cs (i + 1))
one_distinct cs i d b lt is before =
    let step = before ∙ distinct_from cs i d lt ∙ ap (λ x. not x && distinct_peers (drop (i + 1) cs)) (sym is) in
    ((λ k. sym (step ∙ ap (λ x. not x && distinct_peers (drop (i + 1) cs)) k)), (λ k. step ∙ ap (λ x. not x && distinct_peers (drop (i + 1) cs)) k))

pub all_distinct : (cs : List Candidate) (i : ℕ) → length cs ≤ i → AreDistinctTo cs i → true ≡ distinct_peers cs
all_distinct cs i past before = sym (before ∙ ap distinct_peers (none_left cs i past))
  where
    none_left : (cs : List Candidate) (i : ℕ) → length cs ≤ i → drop i cs ≡ []
    none_left [] zero h = refl
    none_left [] (suc i) h = refl
    none_left (x ∷ xs) zero h = absurd (omega (arith, h))
    none_left (x ∷ xs) (suc i) h = none_left xs i (omega (arith, h))
