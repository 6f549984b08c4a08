-- The last 48 bytes of a text that grows.
use Rattle.std.proofs.Common.{◌≡◌, ℕ, ◌+◌, ◌-◌, ◌<◌, ◌≤◌, List, [], ◌∷◌, ◌++◌, length, take, drop, get_or, sym, ap, ◌∙◌, inl, inr, arith, length-append, length-drop, drop-drop, append_assoc}
use Rattle.std.proofs.Math.Seq.{drop-append-add}
use Rattle.std.proofs.lemmas.Bool.{cases_lt}
use Rattle.std.proofs.lemmas.List.{take_more, drop-append-le}
use Rattle.circular_buffer.specs.Buffer.{keep_last}

-- what lies in front of the last bytes has no say
pub keep_last-more : (text more : List ℕ) → keep_last 48 (keep_last 48 text ++ more) ≡ keep_last 48 (text ++ more)
keep_last-more text more =
    let k : ℕ = length text - 48 in
    let low : k ≤ length text = omega arith in
    let inside : drop k text ++ more ≡ drop k (text ++ more) = sym (drop-append-le k text more low) in
    let place : k + (length (drop k (text ++ more)) - 48) ≡ length (text ++ more) - 48 = omega (arith, length-drop k (text ++ more), length-append text more) in
    ap (keep_last 48) inside ∙ drop-drop (length (drop k (text ++ more)) - 48) k (text ++ more) ∙ ap (λ (n : ℕ). drop n (text ++ more)) place

-- one byte more of those behind a text
pub keep_last-byte : (text bytes window window' : List ℕ) (i : ℕ) → i < length bytes → window ≡ keep_last 48 (text ++ take i bytes) → window' ≡ keep_last 48 (window ++ get_or bytes i 0 ∷ [])
    → window' ≡ keep_last 48 (text ++ take (i + 1) bytes)
keep_last-byte text bytes window window' i within at pushed =
    let byte : ℕ = get_or bytes i 0 in
    pushed ∙ ap (λ (w : List ℕ). keep_last 48 (w ++ byte ∷ [])) at ∙ keep_last-more (text ++ take i bytes) (byte ∷ [])
    ∙ ap (keep_last 48) (append_assoc text (take i bytes) (byte ∷ []) ∙ ap (λ (l : List ℕ). text ++ l) (sym (take_more bytes i 0 within)))

-- of the bytes behind a text the last do
pub keep_last-last : (text bytes : List ℕ) → keep_last 48 (text ++ keep_last 48 bytes) ≡ keep_last 48 (text ++ bytes)
keep_last-last text bytes =
    elim (cases_lt (length bytes) 48) [
      | inl few ↦
          let none : length bytes - 48 ≡ 0 = omega arith in
          ap (λ (n : ℕ). keep_last 48 (text ++ drop n bytes)) none
      | inr many ↦
          let k : ℕ = length bytes - 48 in
          let last : List ℕ = drop k bytes in
          let short : length (text ++ last) - 48 ≡ length text + 0 = omega (arith, length-append text last, length-drop k bytes) in
          let long : length (text ++ bytes) - 48 ≡ length text + k = omega (arith, length-append text bytes) in
          ap (λ (n : ℕ). drop n (text ++ last)) short ∙ drop-append-add text last 0 ∙ sym (drop-append-add text bytes k) ∙ ap (λ (n : ℕ). drop n (text ++ bytes)) (sym long)
    ]
