-- The own claim that the bytes of a slot are, as a source of claims finds it.
use Rattle.std.proofs.Common.{◌≡◌, ◌≢◌, ℕ, zero, suc, ◌+◌, ◌<◌, ◌≤◌, true, false, ◌==◌, nat_lt, List, length, Some, None, refl, sym, ap, ◌∙◌, subst, arith}
use Rattle.std.proofs.lemmas.Bool.{false≢true, eqb-true, eq-eqb, ltb-true, ltb-false}
use Rattle.psb_bytes.specs.Objects.{name_eq}
use Rattle.psb_digest.specs.Claims.{claim}
use Rattle.psb_digest.proofs.Chains.{length-claim}
use Rattle.claims.specs.Source.{HasNone, IsHome}
use Rattle.psb_model.proofs.ByObject.{by_cases}
use Rattle.psb_model.proofs.Own.{name_same, name_refl}
use Rattle.psb_machine.specs.Deals.{claim_from}

-- the first of the numbers has the claim: it is the least
least_is : (seed bytes : List ℕ) (first end i : ℕ) → IsHome seed bytes first end i → name_eq (claim seed first) bytes ≡ true → i ≡ first
least_is seed bytes first end i h k = by_cases (nat_lt first i)
    (λ less. absurd (h.first first (omega arith) (ltb-true first i less) (name_same (claim seed first) bytes k)))
    (λ more. omega (arith, h.lower, ltb-false first i more))

-- it does not have it: the least comes later
comes_later : (seed bytes : List ℕ) (first end i : ℕ) → IsHome seed bytes first end i → name_eq (claim seed first) bytes ≡ false → first + 1 ≤ i
comes_later seed bytes first end i h k = by_cases (i == first)
    (λ same.
    let is : claim seed first ≡ bytes = subst (λ (j : ℕ). claim seed j ≡ bytes) (eqb-true i first same) h.equal in
    absurd (false≢true (sym k ∙ ap (λ (l : List ℕ). name_eq l bytes) is ∙ name_refl bytes)))
    (λ other. by_cases (nat_lt first i)
    (λ less. omega (arith, ltb-true first i less))
    (λ more. absurd (false≢true (sym other ∙ eq-eqb i first (omega (arith, h.lower, ltb-false first i more))))))

pub home_is : (seed bytes : List ℕ) (first n i : ℕ) → IsHome seed bytes first (first + n) i → claim_from seed bytes first n ≡ Some i
home_is seed bytes first zero i h = absurd (omega (arith, h.lower, h.upper))
home_is seed bytes first (suc n) i h = by_cases (name_eq (claim seed first) bytes)
    (λ k. rw k (ap Some (sym (least_is seed bytes first (first + suc n) i h k))))
    (λ k. rw k (home_is seed bytes (first + 1) n i (record {
      lower = comes_later seed bytes first (first + suc n) i h k;
      upper = omega (arith, h.upper);
      equal = h.equal;
      first = λ j a b. h.first j (omega (arith, a)) b;
    })))

pub none_is : (seed bytes : List ℕ) (first n : ℕ) → HasNone seed bytes first (first + n) → claim_from seed bytes first n ≡ None
none_is seed bytes first zero h = refl
none_is seed bytes first (suc n) h = by_cases (name_eq (claim seed first) bytes)
    (λ k. absurd (h first (omega arith) (omega arith) (name_same (claim seed first) bytes k)))
    (λ k. rw k (none_is seed bytes (first + 1) n (λ j a b. h j (omega (arith, a)) (omega (arith, b)))))

-- what is found is one of them, and has the bytes
pub home_found : (seed bytes : List ℕ) (first n i : ℕ) → claim_from seed bytes first n ≡ Some i → (i < first + n) × (claim seed i ≡ bytes)
home_found seed bytes first zero i h = absurd (cc)
home_found seed bytes first (suc n) i h = by_cases (name_eq (claim seed first) bytes)
    (λ k.
    let found : Some first ≡ Some i = rw k at h in
    let same : first ≡ i = number_is first i found in
    (omega (arith, same), ap (claim seed) (sym same) ∙ name_same (claim seed first) bytes k))
    (λ k. let later = home_found seed bytes (first + 1) n i (rw k at h) in (omega (arith, later.0), later.1))
  where
    number_is : (a b : ℕ) → Some a ≡ Some b → a ≡ b
    number_is a b e = cc (e)

-- ---- a source that issued more: what it finds counts where it is one of so many

pub home_below : (seed bytes : List ℕ) (issued end i : ℕ) → IsHome seed bytes 0 end i → i < issued → claim_from seed bytes 0 issued ≡ Some i
home_below seed bytes issued end i h less = home_is seed bytes 0 issued i (record { lower = h.lower; upper = omega (arith, less); equal = h.equal; first = h.first })

pub home_past : (seed bytes : List ℕ) (issued end i : ℕ) → IsHome seed bytes 0 end i → issued ≤ i → claim_from seed bytes 0 issued ≡ None
home_past seed bytes issued end i h past = none_is seed bytes 0 issued (λ j a b. h.first j a (omega (arith, b, past)))

pub none_below : (seed bytes : List ℕ) (issued end : ℕ) → HasNone seed bytes 0 end → issued ≤ end → claim_from seed bytes 0 issued ≡ None
none_below seed bytes issued end h few = none_is seed bytes 0 issued (λ j a b. h j a (omega (arith, b, few)))

-- bytes of another width are no claim
pub none_wide : (seed bytes : List ℕ) (issued : ℕ) → length bytes ≢ 512 → claim_from seed bytes 0 issued ≡ None
none_wide seed bytes issued other = none_is seed bytes 0 issued (λ j a b same. other (ap length (sym same) ∙ length-claim seed j))
