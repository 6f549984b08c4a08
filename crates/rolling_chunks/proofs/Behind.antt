-- Behind a cut a text is cut as if it began there.
use Rattle.std.proofs.Common.{◌≡◌, ℕ, ◌+◌, ◌-◌, ◌%◌, ◌<◌, ◌≤◌, Bool, false, nat_le, ◌&&◌, ◌||◌, ◌==◌, List, [], ◌∷◌, ◌++◌, length, take, drop, map, refl, sym, ap, ◌∙◌, subst, inl, inr, arith, eq-eqb, le-leb, drop-drop, length-drop}
use Rattle.std.proofs.lemmas.Bool.{cases_lt, cases_eq, and_left, lt-leb, ne_eqb}
use Rattle.rolling_chunks.specs.Fingerprints.{fingerprint}
use Rattle.rolling_chunks.specs.Cuts.{window_before, is_anchor, may_end, may_end_or_stop, cuts, last_after, lengths_after}
use Rattle.rolling_chunks.specs.Laws.{AreCuts, CutsBehind}
use Rattle.rolling_chunks.proofs.Places.{Rule}
use Rattle.rolling_chunks.proofs.TextCuts.{cuts_are, cuts_are_least}

-- ---- the rule looks at no byte in front of the chunk

pub is_anchor-drop : (text : List ℕ) (k e : ℕ) → k + 48 ≤ e → is_anchor (drop k text) (e - k) ≡ is_anchor text e
unfolding is_anchor
is_anchor-drop text k e full =
    let place : k + (e - k - 48) ≡ e - 48 = omega arith in
    let same : drop (e - k - 48) (drop k text) ≡ drop (e - 48) text = drop-drop (e - k - 48) k text ∙ ap (λ (n : ℕ). drop n text) place in
    ap (λ (b : Bool). b && (fingerprint (window_before (drop k text) (e - k)) % 8192 == 4095)) (le-leb 48 (e - k) (omega arith) ∙ sym (le-leb 48 e (omega arith)))
    ∙ ap (λ (w : List ℕ). nat_le 48 e && (fingerprint (take 48 w) % 8192 == 4095)) same

may_end-drop : (m : ℕ) (text : List ℕ) (k c e : ℕ) → k ≤ c → c < e → may_end m (drop k text) (c - k) (e - k) ≡ may_end m text c e
unfolding may_end
may_end-drop m text k c e low after =
    let len : e - k - (c - k) ≡ e - c = omega arith in
    let there : Bool = is_anchor (drop k text) (e - k) in
    ap (λ (n : ℕ). nat_le 2048 n && ((n == m) || there)) len ∙
    elim (cases_lt (e - c) 2048) [
      | inl short ↦
          let no : nat_le 2048 (e - c) ≡ false = lt-leb 2048 (e - c) short in
          and_left (nat_le 2048 (e - c)) ((e - c == m) || there) no ∙ sym (and_left (nat_le 2048 (e - c)) ((e - c == m) || is_anchor text e) no)
      | inr long ↦ ap (λ (a : Bool). nat_le 2048 (e - c) && ((e - c == m) || a)) (is_anchor-drop text k e (omega arith))
    ]

at_end-drop : (text : List ℕ) (k e : ℕ) → k < e → e ≤ length text → (e - k == length (drop k text)) ≡ (e == length text)
at_end-drop text k e after within =
    elim (cases_eq e (length text)) [
      | inl last ↦ eq-eqb (e - k) (length (drop k text)) (omega (arith, length-drop k text)) ∙ sym (eq-eqb e (length text) last)
      | inr ne ↦
          let ne' : e - k ≡ length (drop k text) → ⊥ = λ (same : e - k ≡ length (drop k text)). ne (omega (arith, length-drop k text)) in
          ne_eqb (e - k) (length (drop k text)) ne' ∙ sym (ne_eqb e (length text) ne)
    ]

stop-drop : (m : ℕ) (text : List ℕ) (k c e : ℕ) → k ≤ c → c < e → e ≤ length text → may_end_or_stop m (drop k text) (c - k) (e - k) ≡ may_end_or_stop m text c e
unfolding may_end_or_stop
stop-drop m text k c e low after within =
    ap (λ (b : Bool). b || may_end m (drop k text) (c - k) (e - k)) (at_end-drop text k e (omega arith) within)
    ∙ ap (λ (b : Bool). (e == length text) || b) (may_end-drop m text k c e low after)

-- ---- the places behind a cut

-- those behind some of the places
AreCuts-behind : (rule : Rule) (n c : ℕ) (xs ys : List ℕ) → AreCuts rule n c (xs ++ ys) → AreCuts rule n (last_after c xs) ys
unfolding AreCuts last_after
AreCuts-behind rule n c [] ys h = h
AreCuts-behind rule n c (x ∷ xs) ys h = AreCuts-behind rule n x xs ys h.1

-- a place that the rule passes over, counted from k on
passed_over : (m : ℕ) (text : List ℕ) (k c : ℕ) → k ≤ c → (j : ℕ) → c - k < j → j + k ≤ length text → may_end_or_stop m text c (j + k) ≡ false → may_end_or_stop m (drop k text) (c - k) j ≡ false
passed_over m text k c low j from to fails =
    let place : j + k - k ≡ j = omega arith in
    ap (may_end_or_stop m (drop k text) (c - k)) (sym place) ∙ stop-drop m text k c (j + k) low (omega arith) to ∙ fails

-- the places counted from k on
AreCuts-drop : (m : ℕ) (text : List ℕ) (k c : ℕ) (ys : List ℕ) → k ≤ c → AreCuts (may_end_or_stop m text) (length text) c ys
    → AreCuts (may_end_or_stop m (drop k text)) (length (drop k text)) (c - k) (map (λ e. e - k) ys)
unfolding AreCuts
AreCuts-drop m text k c [] low h = λ j from to.
    let within : j + k ≤ length text = omega (arith, length-drop k text) in
    passed_over m text k c low j from within (h (j + k) (omega arith) within)
AreCuts-drop m text k c (y ∷ ys) low h =
    let after : c < y = h.0.after in
    let within : y ≤ length text = h.0.within in (
      record {
        after = omega arith;
        within = omega (arith, length-drop k text);
        ends = stop-drop m text k c y low after within ∙ h.0.ends;
        least = λ j from to. passed_over m text k c low j from (omega arith) (h.0.least (j + k) (omega arith) (omega arith));
      },
      AreCuts-drop m text k y ys (omega arith) h.1,
    )

-- their lengths are the same
lengths_after-drop : (rule : Rule) (n k c : ℕ) (ys : List ℕ) → k ≤ c → AreCuts rule n c ys → lengths_after (c - k) (map (λ e. e - k) ys) ≡ lengths_after c ys
unfolding AreCuts lengths_after
lengths_after-drop rule n k c [] low h = refl
lengths_after-drop rule n k c (y ∷ ys) low h =
    let len : y - k - (c - k) ≡ y - c = omega (arith, h.0.after) in
    let low' : k ≤ y = omega (arith, h.0.after) in
    ap (λ (n : ℕ). n ∷ lengths_after (y - k) (map (λ e. e - k) ys)) len ∙ ap (λ (ns : List ℕ). (y - c) ∷ ns) (lengths_after-drop rule n k y ys low' h.1)

pub cuts_behind : CutsBehind
cuts_behind m text front behind split =
    let rule : Rule = may_end_or_stop m text in
    let n : ℕ = length text in
    let c : ℕ = last_after 0 front in
    let rest : List ℕ = map (λ e. e - c) behind in
    let zeroed : c - c ≡ 0 = omega arith in
    let all : AreCuts rule n 0 (front ++ behind) = subst (λ (xs : List ℕ). AreCuts rule n 0 xs) split (cuts_are m text) in
    let from_cut : AreCuts rule n c behind = AreCuts-behind rule n 0 front behind all in
    let there : AreCuts (may_end_or_stop m (drop c text)) (length (drop c text)) (c - c) rest = AreCuts-drop m text c c behind (omega arith) from_cut in
    let same : rest ≡ cuts m (drop c text) = (cuts_are_least m (drop c text) rest).0 (subst (λ (i : ℕ). AreCuts (may_end_or_stop m (drop c text)) (length (drop c text)) i rest) zeroed there) in
    sym (lengths_after-drop rule n c c behind (omega arith) from_cut) ∙ ap (λ (i : ℕ). lengths_after i rest) zeroed ∙ ap (lengths_after 0) same
