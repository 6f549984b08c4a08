-- Places that a rule picks, each the least after the one before it.
use Rattle.std.proofs.Common.{◌≡◌, ℕ, zero, suc, ◌+◌, ◌-◌, ◌<◌, ◌≤◌, Bool, true, false, cond, ◌||◌, ◌==◌, eq-eqb, List, [], ◌∷◌, ◌++◌, Option, Some, None, All, refl, sym, ap, ◌∙◌, subst, inl, inr, arith}
use Rattle.std.specs.Option.{option_map_or}
use Rattle.std.proofs.lemmas.Bool.{cases_lt, cases_eq, cases_order, both_ways, or_from, or_left, or_right, ne_eqb}
use Rattle.std.proofs.lemmas.List.Elements.{All-nil, All-cons}
use Rattle.rolling_chunks.specs.Cuts.{least, cuts_after, last_after, lengths_after}
use Rattle.rolling_chunks.specs.Laws.{IsNextCut, AreCuts}

abbrev pub Rule : Type 0
Rule = ℕ → ℕ → Bool

-- ---- the definition picks such places

-- what the least place is, or that there is none
abbrev Picks : (ℕ → Bool) → ℕ → ℕ → Option ℕ → Type 0
Picks test k n None = (j : ℕ) → k ≤ j → j < k + n → test j ≡ false
Picks test k n (Some e) = (k ≤ e) × (e < k + n) × (test e ≡ true) × ((j : ℕ) → k ≤ j → j < e → test j ≡ false)

-- a place that fails the test goes before the others
picks_later : (test : ℕ → Bool) (k n : ℕ) → test k ≡ false → (o : Option ℕ) → Picks test (k + 1) n o → Picks test k (suc n) o
picks_later test k n fails None h = λ j from to.
    elim (cases_eq k j) [ inl same ↦ subst (λ i. test i ≡ false) same fails | inr ne ↦ h j (omega arith) (omega arith) ]
picks_later test k n fails (Some e) h =
    (omega (arith, h.0), omega (arith, h.1), h.2, λ j from to. elim (cases_eq k j) [ inl same ↦ subst (λ i. test i ≡ false) same fails | inr ne ↦ h.3 j (omega arith) to ])

picks_first : (test : ℕ → Bool) (k n : ℕ) (o : Option ℕ) → Picks test (k + 1) n o → (b : Bool) → test k ≡ b → Picks test k (suc n) (cond b (Some k) o)
picks_first test k n o h true passes = (omega arith, omega arith, passes, λ j from to. absurd (omega arith))
picks_first test k n o h false fails = picks_later test k n fails o h

least_picks : (test : ℕ → Bool) (k n : ℕ) → Picks test k n (least test k n)
unfolding least
least_picks test k zero = λ j from to. absurd (omega arith)
least_picks test k (suc n) = picks_first test k n (least test (k + 1) n) (least_picks test (k + 1) n) (test k) refl

-- the least place goes before those after it
AreCuts-least : (rule : Rule) (n c : ℕ) (more : ℕ → List ℕ) (o : Option ℕ) → Picks (rule c) (c + 1) (n - c) o → ((e : ℕ) → c < e → AreCuts rule n e (more e)) → AreCuts rule n c (option_map_or (λ e. e ∷ more e) o [])
unfolding AreCuts
AreCuts-least rule n c more None h rest = λ k from to. h k (omega arith) (omega arith)
AreCuts-least rule n c more (Some e) h rest =
    let after : c < e = omega (arith, h.0) in
    (record { after = after; within = omega (arith, h.1); ends = h.2; least = λ k from to. h.3 k (omega arith) to }, rest e after)

-- the cuts after c are such places, where there are turns enough
pub AreCuts-cuts_after : (rule : Rule) (n turns c : ℕ) → n ≤ c + turns → AreCuts rule n c (cuts_after rule n turns c)
unfolding cuts_after AreCuts
AreCuts-cuts_after rule n zero c enough = λ k from to. absurd (omega arith)
AreCuts-cuts_after rule n (suc turns) c enough =
    AreCuts-least rule n c (cuts_after rule n turns) (least (rule c) (c + 1) (n - c)) (least_picks (rule c) (c + 1) (n - c))
    (λ e after. AreCuts-cuts_after rule n turns e (omega arith))

-- ---- there is one such list

pub AreCuts-same : (rule : Rule) (n c : ℕ) (xs ys : List ℕ) → AreCuts rule n c xs → AreCuts rule n c ys → xs ≡ ys
unfolding AreCuts
AreCuts-same rule n c [] [] h g = refl
AreCuts-same rule n c [] (y ∷ ys) h g = absurd (both_ways (rule c y) (h y g.0.after g.0.within) g.0.ends)
AreCuts-same rule n c (x ∷ xs) [] h g = absurd (both_ways (rule c x) (g x h.0.after h.0.within) h.0.ends)
AreCuts-same rule n c (x ∷ xs) (y ∷ ys) h g =
    elim (cases_order x y) [
      | inl same ↦ ap (λ (e : ℕ). e ∷ xs) same ∙ ap (λ (es : List ℕ). y ∷ es) (AreCuts-same rule n x xs ys h.1 (subst (λ (e : ℕ). AreCuts rule n e ys) (sym same) g.1))
      | inr (inl lt) ↦ absurd (both_ways (rule c x) (g.0.least x h.0.after lt) h.0.ends)
      | inr (inr gt) ↦ absurd (both_ways (rule c y) (h.0.least y g.0.after gt) g.0.ends)
    ]

-- ---- another rule

-- two rules that agree up to n
abbrev pub Agree : Rule → Rule → ℕ → Type 0
Agree rule rule' n = (c e : ℕ) → e ≤ n → rule c e ≡ rule' c e

pub AreCuts-agree : (rule rule' : Rule) (n c : ℕ) (xs : List ℕ) → Agree rule rule' n → AreCuts rule n c xs → AreCuts rule' n c xs
unfolding AreCuts
AreCuts-agree rule rule' n c [] same h = λ k from to. sym (same c k to) ∙ h k from to
AreCuts-agree rule rule' n c (x ∷ xs) same h =
    let within : x ≤ n = h.0.within in (
      record { after = h.0.after; within = within; ends = sym (same c x within) ∙ h.0.ends; least = λ k from to. sym (same c k (omega arith)) ∙ h.0.least k from to },
      AreCuts-agree rule rule' n x xs same h.1,
    )

-- the rule with an end at n
abbrev pub or_at : ℕ → Rule → Rule
or_at n rule c e = (e == n) || rule c e

-- the end is no place before it
or_at-before : (rule : Rule) (n c k : ℕ) → k < n → rule c k ≡ false → or_at n rule c k ≡ false
or_at-before rule n c k lt fails = or_from (k == n) (rule c k) (ne_eqb k n (λ e. absurd (omega arith))) fails

-- a next cut stays one, where an end is added
IsNextCut-or_at : (rule : Rule) (n c e : ℕ) → IsNextCut rule n c e → IsNextCut (or_at n rule) n c e
IsNextCut-or_at rule n c e h =
    let within : e ≤ n = h.within in
    record { after = h.after; within = within; ends = or_right (e == n) (rule c e) h.ends; least = λ k from to. or_at-before rule n c k (omega arith) (h.least k from to) }

-- where places are left behind the last, the end is one more
pub AreCuts-end : (rule : Rule) (n c : ℕ) (xs : List ℕ) → AreCuts rule n c xs → last_after c xs < n → AreCuts (or_at n rule) n c (xs ++ n ∷ [])
unfolding AreCuts last_after
AreCuts-end rule n c [] h left = (
  record { after = left; within = omega arith; ends = or_left (n == n) (rule c n) (eq-eqb n n refl); least = λ k from to. or_at-before rule n c k to (h k from (omega arith)) },
  λ k from to. absurd (omega arith),
)
AreCuts-end rule n c (x ∷ xs) h left = (IsNextCut-or_at rule n c x h.0, AreCuts-end rule n x xs h.1 left)

-- where none are left, it is there
pub AreCuts-ended : (rule : Rule) (n c : ℕ) (xs : List ℕ) → AreCuts rule n c xs → n ≤ last_after c xs → AreCuts (or_at n rule) n c xs
unfolding AreCuts last_after
AreCuts-ended rule n c [] h none = λ k from to. absurd (omega arith)
AreCuts-ended rule n c (x ∷ xs) h none = (IsNextCut-or_at rule n c x h.0, AreCuts-ended rule n x xs h.1 none)

-- ---- one place more

pub last_after-within : (rule : Rule) (n c : ℕ) (xs : List ℕ) → AreCuts rule n c xs → c ≤ n → last_after c xs ≤ n
unfolding AreCuts last_after
last_after-within rule n c [] h within = within
last_after-within rule n c (x ∷ xs) h within = last_after-within rule n x xs h.1 h.0.within

-- a next cut stays one, where places are added
IsNextCut-more : (rule : Rule) (n c e : ℕ) → IsNextCut rule n c e → IsNextCut rule (n + 1) c e
IsNextCut-more rule n c e h = record { after = h.after; within = omega (arith, h.within); ends = h.ends; least = h.least }

pub AreCuts-cut : (rule : Rule) (n c : ℕ) (xs : List ℕ) → AreCuts rule n c xs → c ≤ n → rule (last_after c xs) (n + 1) ≡ true → AreCuts rule (n + 1) c (xs ++ (n + 1) ∷ [])
unfolding AreCuts last_after
AreCuts-cut rule n c [] h within ends =
    (record { after = omega arith; within = omega arith; ends = ends; least = λ k from to. h k from (omega arith) }, λ k from to. absurd (omega arith))
AreCuts-cut rule n c (x ∷ xs) h within ends = (IsNextCut-more rule n c x h.0, AreCuts-cut rule n x xs h.1 h.0.within ends)

pub AreCuts-no_cut : (rule : Rule) (n c : ℕ) (xs : List ℕ) → AreCuts rule n c xs → rule (last_after c xs) (n + 1) ≡ false → AreCuts rule (n + 1) c xs
unfolding AreCuts last_after
AreCuts-no_cut rule n c [] h fails = λ k from to.
    elim (cases_eq (n + 1) k) [ inl same ↦ subst (λ (i : ℕ). rule c i ≡ false) same fails | inr ne ↦ h k from (omega arith) ]
AreCuts-no_cut rule n c (x ∷ xs) h fails = (IsNextCut-more rule n c x h.0, AreCuts-no_cut rule n x xs h.1 fails)

-- many places more, of which none passes
pub AreCuts-further : (rule : Rule) (n n' c : ℕ) (xs : List ℕ) → AreCuts rule n c xs → n ≤ n' → ((k : ℕ) → n < k → k ≤ n' → rule (last_after c xs) k ≡ false) → AreCuts rule n' c xs
unfolding AreCuts last_after
AreCuts-further rule n n' c [] h longer none = λ k from to. elim (cases_lt n k) [ inl past ↦ none k past to | inr within ↦ h k from within ]
AreCuts-further rule n n' c (x ∷ xs) h longer none =
    (record { after = h.0.after; within = omega (arith, h.0.within); ends = h.0.ends; least = h.0.least }, AreCuts-further rule n n' x xs h.1 longer none)

-- ---- more places

-- the places lie behind the first
AreCuts-above : (rule : Rule) (n c b : ℕ) (xs : List ℕ) → b ≤ c → AreCuts rule n c xs → All (λ e. b < e) xs
unfolding AreCuts
AreCuts-above rule n c b [] low h = All-nil (λ e. b < e)
AreCuts-above rule n c b (x ∷ xs) low h =
    let above : b < x = omega (arith, h.0.after) in
    All-cons (λ e. b < e) x xs above (AreCuts-above rule n x b xs (omega arith) h.1)

-- no place up to n passes, so all are behind it
AreCuts-past : (rule rule' : Rule) (n n' c : ℕ) (ys : List ℕ) → Agree rule rule' n → ((k : ℕ) → c < k → k ≤ n → rule c k ≡ false) → AreCuts rule' n' c ys → All (λ e. n < e) ys
unfolding AreCuts
AreCuts-past rule rule' n n' c [] same none h = All-nil (λ e. n < e)
AreCuts-past rule rule' n n' c (y ∷ ys) same none h =
    let past : n < y = elim (cases_lt n y) [ inl lt ↦ lt | inr low ↦ absurd (both_ways (rule' c y) (sym (same c y low) ∙ none y h.0.after low) h.0.ends) ] in
    All-cons (λ e. n < e) y ys past (AreCuts-above rule' n' y n ys (omega arith) h.1)

-- the places among more of them are the same, as far as n
pub AreCuts-longer : (rule rule' : Rule) (n n' c : ℕ) (xs ys : List ℕ) → n ≤ n' → Agree rule rule' n → AreCuts rule n c xs → AreCuts rule' n' c ys
    → (rest : List ℕ) × (ys ≡ xs ++ rest) × All (λ e. n < e) rest
unfolding AreCuts
AreCuts-longer rule rule' n n' c [] ys longer same h g = (ys, refl, AreCuts-past rule rule' n n' c ys same h g)
AreCuts-longer rule rule' n n' c (x ∷ xs) [] longer same h g =
    absurd (both_ways (rule' c x) (g x h.0.after (omega (arith, h.0.within))) (sym (same c x h.0.within) ∙ h.0.ends))
AreCuts-longer rule rule' n n' c (x ∷ xs) (y ∷ ys) longer same h g =
    elim (cases_order x y) [
      | inl e ↦
          let r = AreCuts-longer rule rule' n n' x xs ys longer same h.1 (subst (λ (e : ℕ). AreCuts rule' n' e ys) (sym e) g.1) in
          (r.0, ap (λ (i : ℕ). i ∷ ys) (sym e) ∙ ap (λ (es : List ℕ). x ∷ es) r.1, r.2)
      | inr (inl lt) ↦ absurd (both_ways (rule' c x) (g.0.least x h.0.after lt) (sym (same c x h.0.within) ∙ h.0.ends))
      | inr (inr gt) ↦ absurd (both_ways (rule c y) (h.0.least y g.0.after gt) (same c y (omega (arith, h.0.within)) ∙ g.0.ends))
    ]

-- each of the places is within n
pub AreCuts-within : (rule : Rule) (n c : ℕ) (xs : List ℕ) → AreCuts rule n c xs → All (λ e. e ≤ n) xs
unfolding AreCuts
AreCuts-within rule n c [] h = All-nil (λ e. e ≤ n)
AreCuts-within rule n c (x ∷ xs) h = All-cons (λ e. e ≤ n) x xs h.0.within (AreCuts-within rule n x xs h.1)

-- ---- lengths

pub last_after-push : (c : ℕ) (xs : List ℕ) (e : ℕ) → last_after c (xs ++ e ∷ []) ≡ e
unfolding last_after
last_after-push c [] e = refl
last_after-push c (x ∷ xs) e = last_after-push x xs e

pub lengths_after-push : (c : ℕ) (xs : List ℕ) (e : ℕ) → lengths_after c (xs ++ e ∷ []) ≡ lengths_after c xs ++ (e - last_after c xs) ∷ []
unfolding last_after lengths_after
lengths_after-push c [] e = refl
lengths_after-push c (x ∷ xs) e = ap (λ (ns : List ℕ). (x - c) ∷ ns) (lengths_after-push x xs e)
