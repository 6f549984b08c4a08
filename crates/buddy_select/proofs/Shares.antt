-- Shares of samples in order: what is greater than one is greater than those that are not greater than that.
use Rattle.std.proofs.Common.{◌≡◌, ◌⊎◌, inl, inr, ⊎_elim, ℕ, ◌*◌, ◌<◌, Bool, true, false, ◌==◌, refl, sym, ◌∙◌, ap, arith}
use Rattle.std.specs.Prelude.{nat_lt}
use Rattle.std.proofs.lemmas.Bool.{eqb-true, eq-eqb, lt-ltb, ltb-true, ltb-false, true≢false}
use Rattle.std.proofs.Math.Nat.{lt_of_mul-lt-mul_right, mul-lt-mul_of_pos_right, mul_right_comm, eq_of_mul-eq-mul_right}
use Rattle.psb_model.specs.declared.entries.Candidate.{Candidate}
use Rattle.psb_model.specs.Candidates.{comes_before}

pub by_test : {A : Type 0} (b : Bool) → (b ≡ true → A) → (b ≡ false → A) → A
by_test true f g = f refl
by_test false f g = g refl

-- the share of one against that of another
abbrev pub against : Candidate → Candidate → ℕ
against x y = x.got * y.of

-- two cross products over a third share
crossed : (x y z : Candidate) → against x z * y.of ≡ against x y * z.of
crossed x y z = mul_right_comm x.got z.of y.of

-- what comes before another, by cases
pub record Ties (x y : Candidate) : Type 0 where
  pub same : against x y ≡ against y x
  pub rest : (x.hops < y.hops) ⊎ ((x.hops ≡ y.hops) × (x.peer < y.peer))

abbrev pub Before : Candidate → Candidate → Type 0
Before x y = (against y x < against x y) ⊎ Ties x y

-- it is what the test says
pub before_is : (x y : Candidate) → comes_before x y ≡ true → Before x y
before_is x y h =
    by_test (against x y == against y x)
    (λ k. by_test (x.hops == y.hops)
    (λ j. let id : nat_lt x.peer y.peer ≡ true = rw (k, j) at h in inr (record { same = eqb-true (against x y) (against y x) k; rest = inr (eqb-true x.hops y.hops j, ltb-true x.peer y.peer id) }))
    (λ j. let near : nat_lt x.hops y.hops ≡ true = rw (k, j) at h in inr (record { same = eqb-true (against x y) (against y x) k; rest = inl (ltb-true x.hops y.hops near) })))
    (λ k. let more : nat_lt (against y x) (against x y) ≡ true = rw k at h in inl (ltb-true (against y x) (against x y) more))

not_equal : (a b : ℕ) → a < b → (b == a) ≡ false
not_equal a b lt = by_test (b == a) (λ k. absurd (omega (arith, lt, eqb-true b a k))) (λ k. k)

pub is_before : (x y : Candidate) → Before x y → comes_before x y ≡ true
is_before x y (inl more) = rw (not_equal (against y x) (against x y) more) (lt-ltb (against y x) (against x y) more)
is_before x y (inr t) =
    let same = eq-eqb (against x y) (against y x) t.same in
    ⊎_elim
    (λ near. rw same (rw (not_hops near) (lt-ltb x.hops y.hops near)))
    (λ id. rw same (rw (eq-eqb x.hops y.hops id.0) (lt-ltb x.peer y.peer id.1)))
    t.rest
  where
    not_hops : x.hops < y.hops → (x.hops == y.hops) ≡ false
    not_hops lt = by_test (x.hops == y.hops) (λ k. absurd (omega (arith, lt, eqb-true x.hops y.hops k))) (λ k. k)

-- ---- one after another

same_same : (x y z : Candidate) → 0 < y.of → against x y ≡ against y x → against y z ≡ against z y → against x z ≡ against z x
same_same x y z some h k =
    eq_of_mul-eq-mul_right y.of some (against x z) (against z x)
    (crossed x y z ∙ ap (λ (n : ℕ). n * z.of) h ∙ crossed y z x ∙ ap (λ (n : ℕ). n * x.of) k ∙ sym (crossed z y x))

both_less : (a b c d e f : ℕ) → a ≡ b → b < c → d ≡ c → d < e → f ≡ e → a < f
both_less a b c d e f h k i j l = omega (arith, h, k, i, j, l)

first_less : (a b c d e f : ℕ) → a ≡ b → b < c → d ≡ c → e ≡ d → f ≡ e → a < f
first_less a b c d e f h k i j l = omega (arith, h, k, i, j, l)

then_less : (a b c d e f : ℕ) → a ≡ b → c ≡ b → d ≡ c → d < e → f ≡ e → a < f
then_less a b c d e f h k i j l = omega (arith, h, k, i, j, l)

more_more : (x y z : Candidate) → 0 < x.of → 0 < z.of → against y x < against x y → against z y < against y z → against z x < against x z
more_more x y z one other h k =
    lt_of_mul-lt-mul_right y.of
    (both_less (against z x * y.of) (against z y * x.of) (against y z * x.of) (against y x * z.of) (against x y * z.of) (against x z * y.of)
    (crossed z y x) (mul-lt-mul_of_pos_right k one) (crossed y z x) (mul-lt-mul_of_pos_right h other) (crossed x y z))

same_more : (x y z : Candidate) → 0 < x.of → against x y ≡ against y x → against z y < against y z → against z x < against x z
same_more x y z one h k =
    lt_of_mul-lt-mul_right y.of
    (first_less (against z x * y.of) (against z y * x.of) (against y z * x.of) (against y x * z.of) (against x y * z.of) (against x z * y.of)
    (crossed z y x) (mul-lt-mul_of_pos_right k one) (crossed y z x) (ap (λ (n : ℕ). n * z.of) h) (crossed x y z))

more_same : (x y z : Candidate) → 0 < z.of → against y x < against x y → against y z ≡ against z y → against z x < against x z
more_same x y z other h k =
    lt_of_mul-lt-mul_right y.of
    (then_less (against z x * y.of) (against z y * x.of) (against y z * x.of) (against y x * z.of) (against x y * z.of) (against x z * y.of)
    (crossed z y x) (ap (λ (n : ℕ). n * x.of) k) (crossed y z x) (mul-lt-mul_of_pos_right h other) (crossed x y z))

ties_then : (x y z : Candidate) → Ties x y → Ties y z → (x.hops < z.hops) ⊎ ((x.hops ≡ z.hops) × (x.peer < z.peer))
ties_then x y z s t =
    ⊎_elim
    (λ near. inl (⊎_elim (λ further. omega (arith, near, further)) (λ id. omega (arith, near, id.0)) t.rest))
    (λ id. ⊎_elim (λ further. inl (omega (arith, id.0, further))) (λ next. inr (id.0 ∙ next.0, omega (arith, id.1, next.1))) t.rest)
    s.rest

before_then : (x y z : Candidate) → 0 < x.of → 0 < y.of → 0 < z.of → Before x y → Before y z → Before x z
before_then x y z a b c (inl h) (inl k) = inl (more_more x y z a c h k)
before_then x y z a b c (inl h) (inr t) = inl (more_same x y z c h t.same)
before_then x y z a b c (inr s) (inl k) = inl (same_more x y z a s.same k)
before_then x y z a b c (inr s) (inr t) = inr (record { same = same_same x y z b s.same t.same; rest = ties_then x y z s t })

pub comes_then : (x y z : Candidate) → 0 < x.of → 0 < y.of → 0 < z.of → comes_before x y ≡ true → comes_before y z ≡ true → comes_before x z ≡ true
comes_then x y z a b c h k = is_before x z (before_then x y z a b c (before_is x y h) (before_is y z k))

-- of two with other ids one comes first
pub one_first : (x y : Candidate) → (x.peer == y.peer) ≡ false → comes_before x y ≡ false → comes_before y x ≡ true
one_first x y other late =
    by_test (nat_lt (against x y) (against y x))
    (λ k. is_before y x (inl (ltb-true (against x y) (against y x) k)))
    (λ k. by_test (nat_lt (against y x) (against x y))
    (λ j. absurd (true≢false (sym (is_before x y (inl (ltb-true (against y x) (against x y) j))) ∙ late)))
    (λ j. is_before y x (inr (tied (even (against x y) (against y x) k j)))))
  where
    even : (a b : ℕ) → nat_lt a b ≡ false → nat_lt b a ≡ false → a ≡ b
    even a b h k = omega (arith, ltb-false a b h, ltb-false b a k)

    tied : against x y ≡ against y x → Ties y x
    tied same =
        by_test (nat_lt y.hops x.hops)
        (λ k. record { same = sym same; rest = inl (ltb-true y.hops x.hops k) })
        (λ k. by_test (nat_lt x.hops y.hops)
        (λ j. absurd (true≢false (sym (is_before x y (inr (record { same = same; rest = inl (ltb-true x.hops y.hops j) }))) ∙ late)))
        (λ j. by_test (nat_lt y.peer x.peer)
        (λ i. record { same = sym same; rest = inr (even y.hops x.hops k j, ltb-true y.peer x.peer i) })
        (λ i. by_test (nat_lt x.peer y.peer)
        (λ l. absurd (true≢false (sym (is_before x y (inr (record { same = same; rest = inr (even x.hops y.hops j k, ltb-true x.peer y.peer l) }))) ∙ late)))
        (λ l. absurd (true≢false (sym (eq-eqb x.peer y.peer (even x.peer y.peer l i)) ∙ other))))))
