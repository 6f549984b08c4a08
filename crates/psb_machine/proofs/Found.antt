-- What is found of a peer in what a restart forgets, after it was changed.
use Rattle.std.proofs.Common.{◌≡◌, ℕ, Bool, false, ◌==◌, cond, List, [], ◌∷◌, map, refl, sym, ap, ◌∙◌}
use Rattle.std.proofs.lemmas.Bool.{eqb-true, eq-eqb}
use Rattle.psb_model.proofs.ByObject.{by_cases}
use Rattle.psb_machine.specs.Volatile.{PeerState, unsampled, found_in, changed_in}

pub changed_here : (l : List (ℕ × PeerState)) (f : PeerState → PeerState) (p : ℕ) → found_in (changed_in p f l) p ≡ f (found_in l p)
changed_here [] f p = rw (eq-eqb p p refl) refl
changed_here (x ∷ xs) f p =
    let put = (p, f x.1) ∷ xs in
    let kept_on = x ∷ changed_in p f xs in
    by_cases (x.0 == p)
    (λ k. rw (k, eq-eqb p p refl) refl)
    (λ k. ap (λ (b : Bool). found_in (cond b put kept_on) p) k
    ∙ ap (λ (b : Bool). cond b x.1 (found_in (changed_in p f xs) p)) k
    ∙ changed_here xs f p
    ∙ sym (ap (λ (b : Bool). f (cond b x.1 (found_in xs p))) k))

pub changed_there : (l : List (ℕ × PeerState)) (f : PeerState → PeerState) (q p : ℕ) → (q == p) ≡ false → found_in (changed_in q f l) p ≡ found_in l p
changed_there [] f q p apart = rw apart refl
changed_there (x ∷ xs) f q p apart =
    by_cases (x.0 == q)
    (λ k. let away : (x.0 == p) ≡ false = ap (λ (n : ℕ). n == p) (eqb-true x.0 q k) ∙ apart in rw (k, apart, away) refl)
    (λ k. by_cases (x.0 == p) (λ j. rw (k, j) refl) (λ j. rw (k, j) (changed_there xs f q p apart)))

pub each_found : (l : List (ℕ × PeerState)) (p : ℕ) → found_in (map (λ (x : ℕ × PeerState). (x.0, unsampled x.1)) l) p ≡ unsampled (found_in l p)
each_found [] p = refl
each_found (x ∷ xs) p = by_cases (x.0 == p) (λ k. rw k refl) (λ k. rw k (each_found xs p))
