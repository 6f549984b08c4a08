-- The cuts of a text, as it grows and as it ends.
use Rattle.std.proofs.Common.{◌≡◌, ℕ, ◌+◌, ◌-◌, ◌%◌, ◌<◌, ◌≤◌, Bool, true, false, nat_le, ◌&&◌, ◌||◌, ◌==◌, if◌then◌else◌, List, [], ◌∷◌, ◌++◌, length, take, drop, append-nil, refl, sym, ap, ◌∙◌, subst, inl, inr, arith, le-leb, length-drop, length-append}
use Rattle.std.proofs.lemmas.Bool.{cases_lt, and_left, lt-leb, ne_eqb}
use Rattle.std.proofs.lemmas.List.{length_push, take-append-le, drop-append-le, take_all}
use Rattle.circular_buffer.specs.Buffer.{keep_last}
use Rattle.rolling_chunks.specs.Fingerprints.{fingerprint}
use Rattle.rolling_chunks.specs.Cuts.{window_before, is_anchor, may_end, may_end_or_stop, cuts, standing_cuts, last_after}
use Rattle.rolling_chunks.specs.Laws.{AreCuts, CutsAreLeast, CutsStand}
use Rattle.rolling_chunks.proofs.Places.{Agree, or_at, AreCuts-cuts_after, AreCuts-same, AreCuts-agree, AreCuts-end, AreCuts-ended, AreCuts-cut, AreCuts-no_cut, AreCuts-further, AreCuts-longer, last_after-within}

-- ---- the rule looks at no byte behind the place

window_before-append : (text more : List ℕ) (e : ℕ) → 48 ≤ e → e ≤ length text → window_before (text ++ more) e ≡ window_before text e
window_before-append text more e full within =
    let low : e - 48 ≤ length text = omega arith in
    let long : 48 ≤ length (drop (e - 48) text) = omega (arith, length-drop (e - 48) text) in
    ap (take 48) (drop-append-le (e - 48) text more low) ∙ take-append-le 48 (drop (e - 48) text) more long

pub is_anchor-append : (text more : List ℕ) (e : ℕ) → e ≤ length text → is_anchor (text ++ more) e ≡ is_anchor text e
unfolding is_anchor
is_anchor-append text more e within =
    elim (cases_lt e 48) [
      | inl short ↦
          let no : nat_le 48 e ≡ false = lt-leb 48 e short in
          and_left (nat_le 48 e) (fingerprint (window_before (text ++ more) e) % 8192 == 4095) no ∙ sym (and_left (nat_le 48 e) (fingerprint (window_before text e) % 8192 == 4095) no)
      | inr full ↦ ap (λ (w : List ℕ). nat_le 48 e && (fingerprint w % 8192 == 4095)) (window_before-append text more e full within)
    ]

pub may_end-append : (m : ℕ) (text more : List ℕ) → Agree (may_end m text) (may_end m (text ++ more)) (length text)
unfolding may_end
may_end-append m text more c e within =
    ap (λ (a : Bool). nat_le 2048 (e - c) && ((e - c == m) || a)) (sym (is_anchor-append text more e within))

-- the last window of a text
is_anchor-last : (text : List ℕ) → 48 ≤ length text → is_anchor text (length text) ≡ (fingerprint (keep_last 48 text) % 8192 == 4095)
unfolding is_anchor
is_anchor-last text full =
    let whole : length (keep_last 48 text) ≤ 48 = omega (arith, length-drop (length text - 48) text) in
    ap (λ (b : Bool). b && (fingerprint (window_before text (length text)) % 8192 == 4095)) (le-leb 48 (length text) full)
    ∙ ap (λ (w : List ℕ). fingerprint w % 8192 == 4095) (take_all 48 (keep_last 48 text) whole)

-- ---- what the cuts are

or_at-stop : (m : ℕ) (text : List ℕ) (c e : ℕ) → or_at (length text) (may_end m text) c e ≡ may_end_or_stop m text c e
unfolding may_end_or_stop
or_at-stop m text c e = refl

pub cuts_are : (m : ℕ) (text : List ℕ) → AreCuts (may_end_or_stop m text) (length text) 0 (cuts m text)
unfolding cuts
cuts_are m text = AreCuts-cuts_after (may_end_or_stop m text) (length text) (length text) 0 (omega arith)

pub standing_are : (m : ℕ) (text : List ℕ) → AreCuts (may_end m text) (length text) 0 (standing_cuts m text)
unfolding standing_cuts
standing_are m text = AreCuts-cuts_after (may_end m text) (length text) (length text) 0 (omega arith)

pub cuts_are_least : CutsAreLeast
cuts_are_least m text places = (
  λ h. AreCuts-same (may_end_or_stop m text) (length text) 0 places (cuts m text) h (cuts_are m text),
  λ same. subst (λ (xs : List ℕ). AreCuts (may_end_or_stop m text) (length text) 0 xs) (sym same) (cuts_are m text),
)

is_cuts : (m : ℕ) (text places : List ℕ) → AreCuts (or_at (length text) (may_end m text)) (length text) 0 places → cuts m text ≡ places
is_cuts m text places h =
    sym ((cuts_are_least m text places).0 (AreCuts-agree (or_at (length text) (may_end m text)) (may_end_or_stop m text) (length text) 0 places (λ c e within. or_at-stop m text c e) h))

-- the last of them that stands
abbrev pub last_standing : ℕ → List ℕ → ℕ
last_standing m text = last_after 0 (standing_cuts m text)

pub last_standing-within : (m : ℕ) (text : List ℕ) → last_standing m text ≤ length text
last_standing-within m text = last_after-within (may_end m text) (length text) 0 (standing_cuts m text) (standing_are m text) (omega arith)

-- the end of the text cuts off what is left over
pub cuts-left : (m : ℕ) (text : List ℕ) → last_standing m text < length text → cuts m text ≡ standing_cuts m text ++ length text ∷ []
cuts-left m text left =
    is_cuts m text (standing_cuts m text ++ length text ∷ []) (AreCuts-end (may_end m text) (length text) 0 (standing_cuts m text) (standing_are m text) left)

pub cuts-whole : (m : ℕ) (text : List ℕ) → length text ≤ last_standing m text → cuts m text ≡ standing_cuts m text
cuts-whole m text none =
    is_cuts m text (standing_cuts m text) (AreCuts-ended (may_end m text) (length text) 0 (standing_cuts m text) (standing_are m text) none)

-- ---- the cuts of a text that goes on

-- before the end of a text the rule does not ask for it
stop-before : (m : ℕ) (text : List ℕ) (c e : ℕ) → e < length text → may_end m text c e ≡ may_end_or_stop m text c e
unfolding may_end_or_stop
stop-before m text c e before = sym (ap (λ (b : Bool). b || may_end m text c e) (ne_eqb e (length text) (λ same. absurd (omega arith))))

pub cuts_stand : CutsStand
cuts_stand m text more some =
    let n : ℕ = length text in
    let n' : ℕ = length (text ++ more) in
    let longer : n < n' = omega (arith, length-append text more) in
    let before : Agree (may_end m text) (may_end_or_stop m (text ++ more)) n = λ c e within. may_end-append m text more c e within ∙ stop-before m (text ++ more) c e (omega arith) in
    AreCuts-longer (may_end m text) (may_end_or_stop m (text ++ more)) n n' 0 (standing_cuts m text) (cuts m (text ++ more)) (omega arith) before (standing_are m text) (cuts_are m (text ++ more))

-- ---- one byte more

-- the same places in the longer text
standing-grown : (m : ℕ) (text : List ℕ) (byte : ℕ) → AreCuts (may_end m (text ++ byte ∷ [])) (length text) 0 (standing_cuts m text)
standing-grown m text byte =
    AreCuts-agree (may_end m text) (may_end m (text ++ byte ∷ [])) (length text) 0 (standing_cuts m text) (may_end-append m text (byte ∷ [])) (standing_are m text)

is_standing : (m : ℕ) (text : List ℕ) (byte : ℕ) (places : List ℕ) → AreCuts (may_end m (text ++ byte ∷ [])) (length text + 1) 0 places → standing_cuts m (text ++ byte ∷ []) ≡ places
is_standing m text byte places h =
    let grown : List ℕ = text ++ byte ∷ [] in
    AreCuts-same (may_end m grown) (length grown) 0 (standing_cuts m grown) places (standing_are m grown)
    (subst (λ (n : ℕ). AreCuts (may_end m grown) n 0 places) (sym (length_push text byte)) h)

pub standing-cut : (m : ℕ) (text : List ℕ) (byte : ℕ) → may_end m (text ++ byte ∷ []) (last_standing m text) (length text + 1) ≡ true
    → standing_cuts m (text ++ byte ∷ []) ≡ standing_cuts m text ++ (length text + 1) ∷ []
standing-cut m text byte ends =
    is_standing m text byte (standing_cuts m text ++ (length text + 1) ∷ [])
    (AreCuts-cut (may_end m (text ++ byte ∷ [])) (length text) 0 (standing_cuts m text) (standing-grown m text byte) (omega arith) ends)

pub standing-no_cut : (m : ℕ) (text : List ℕ) (byte : ℕ) → may_end m (text ++ byte ∷ []) (last_standing m text) (length text + 1) ≡ false
    → standing_cuts m (text ++ byte ∷ []) ≡ standing_cuts m text
standing-no_cut m text byte fails =
    is_standing m text byte (standing_cuts m text) (AreCuts-no_cut (may_end m (text ++ byte ∷ [])) (length text) 0 (standing_cuts m text) (standing-grown m text byte) fails)

-- the rule at the last byte, by the length of the chunk and the last window
pub may_end-last : (m : ℕ) (text : List ℕ) (byte len : ℕ) → len ≡ length text + 1 - last_standing m text
    → (nat_le 2048 len && ((len == m) || (fingerprint (keep_last 48 (text ++ byte ∷ [])) % 8192 == 4095))) ≡ may_end m (text ++ byte ∷ []) (last_standing m text) (length text + 1)
unfolding may_end
may_end-last m text byte len e =
    let c : ℕ = last_standing m text in
    let grown : List ℕ = text ++ byte ∷ [] in
    let test : Bool = fingerprint (keep_last 48 grown) % 8192 == 4095 in
    let at_len : (nat_le 2048 len && ((len == m) || test)) ≡ (nat_le 2048 (length text + 1 - c) && ((length text + 1 - c == m) || test)) = ap (λ (n : ℕ). nat_le 2048 n && ((n == m) || test)) e in
    at_len ∙
    elim (cases_lt (length text + 1 - c) 2048) [
      | inl short ↦
          let no : nat_le 2048 (length text + 1 - c) ≡ false = lt-leb 2048 (length text + 1 - c) short in
          and_left (nat_le 2048 (length text + 1 - c)) ((length text + 1 - c == m) || test) no ∙ sym (and_left (nat_le 2048 (length text + 1 - c)) ((length text + 1 - c == m) || is_anchor grown (length text + 1)) no)
      | inr long ↦
          let full : 48 ≤ length grown = omega (arith, length_push text byte) in
          let anchor : test ≡ is_anchor grown (length text + 1) = sym (is_anchor-last grown full) ∙ ap (is_anchor grown) (length_push text byte) in
          ap (λ (a : Bool). nat_le 2048 (length text + 1 - c) && ((length text + 1 - c == m) || a)) anchor
    ]

-- ---- many bytes more

-- None of the places behind a text passes but the last, if that does.
pub standing-run : (m : ℕ) (text rest : List ℕ) (ends : Bool) → 0 < length rest → ((j : ℕ) → 0 < j → j < length rest → may_end m (text ++ rest) (last_standing m text) (length text + j) ≡ false)
    → may_end m (text ++ rest) (last_standing m text) (length text + length rest) ≡ ends
    → standing_cuts m (text ++ rest) ≡ standing_cuts m text ++ (if ends then (length text + length rest) ∷ [] else [])
standing-run m text rest ends some none last =
    let whole : List ℕ = text ++ rest in
    let rule = may_end m whole in
    let xs : List ℕ = standing_cuts m text in
    let n : ℕ = length text + (length rest - 1) in
    let next : n + 1 ≡ length text + length rest = omega arith in
    let long : length whole ≡ n + 1 = omega (arith, length-append text rest) in
    let near : AreCuts rule (length text) 0 xs = AreCuts-agree (may_end m text) rule (length text) 0 xs (may_end-append m text rest) (standing_are m text) in
    let there : (k : ℕ) → length text < k → k ≤ n → rule (last_after 0 xs) k ≡ false = λ k from to.
    let place : length text + (k - length text) ≡ k = omega arith in
    subst (λ (e : ℕ). rule (last_after 0 xs) e ≡ false) place (none (k - length text) (omega arith) (omega arith)) in
    let far : AreCuts rule n 0 xs = AreCuts-further rule (length text) n 0 xs near (omega arith) there in
    let at : rule (last_after 0 xs) (n + 1) ≡ ends = ap (rule (last_after 0 xs)) next ∙ last in
    let are : AreCuts rule (n + 1) 0 (xs ++ (if ends then (n + 1) ∷ [] else [])) = by_ends rule n xs ends far (omega arith) at in
    AreCuts-same rule (length whole) 0 (standing_cuts m whole) (xs ++ (if ends then (length text + length rest) ∷ [] else [])) (standing_are m whole)
    (subst (λ (i : ℕ). AreCuts rule i 0 (xs ++ (if ends then (length text + length rest) ∷ [] else []))) (sym long)
    (subst (λ (i : ℕ). AreCuts rule (n + 1) 0 (xs ++ (if ends then i ∷ [] else []))) next are))
  where
    by_ends : (rule : ℕ → ℕ → Bool) (n : ℕ) (xs : List ℕ) (ends : Bool) → AreCuts rule n 0 xs → 0 ≤ n → rule (last_after 0 xs) (n + 1) ≡ ends → AreCuts rule (n + 1) 0 (xs ++ (if ends then (n + 1) ∷ [] else []))
    by_ends rule n xs true far low at = AreCuts-cut rule n 0 xs far low at
    by_ends rule n xs false far low at = subst (λ (ys : List ℕ). AreCuts rule (n + 1) 0 ys) (sym (append-nil xs)) (AreCuts-no_cut rule n 0 xs far at)
