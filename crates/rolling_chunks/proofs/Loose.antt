-- Numbers that stand for fingerprints, and the windows before places.
use Rattle.std.proofs.Common.{◌≡◌, ℕ, ◌+◌, ◌-◌, ◌*◌, ◌/◌, ◌%◌, ◌^◌, ◌<◌, ◌≤◌, Bool, true, nat_le, ◌&&◌, ◌==◌, List, [], ◌∷◌, ◌++◌, length, take, drop, get_or, sym, ap, ◌∙◌, subst, arith, le-leb, length-drop}
use Rattle.std.proofs.lemmas.List.{take_more, drop_more, get_or-drop, length-take-le}
use Rattle.rolling_chunks.specs.Fingerprints.{modulus, base, fingerprint}
use Rattle.rolling_chunks.specs.Cuts.{window_before, is_anchor}
use Rattle.rolling_chunks.specs.Steps.{StandsFor}
use Rattle.rolling_chunks.proofs.Rolling.{mod_factor, fingerprint-push, fingerprint-roll, fingerprint-nil}

-- ---- on plain numbers

-- what eight times a number has above and below 2^64
pub apart : (w p : ℕ) → p ≡ w * 8 → p / 18446744073709551616 + p % 18446744073709551616 / 8 ≡ w / 2305843009213693952 + w % 2305843009213693952
apart w p e = omega arith

pub eight_times : (value factor a b : ℕ) → a ≡ value → b ≡ factor * 8 → a * b ≡ value * factor * 8
eight_times value factor a b is times = ap (λ (n : ℕ). n * b) is ∙ ap (λ (n : ℕ). value * n) times ∙ omega arith

-- a product taken apart at 2^61
abbrev pub parts_of : ℕ → ℕ
parts_of w = w / 2305843009213693952 + w % 2305843009213693952

-- ---- on windows

-- no byte
pub StandsFor-nil : StandsFor 0 []
StandsFor-nil = record { below = omega arith; leaves = fingerprint-nil }

-- a byte more
pub StandsFor-push : (value value' byte : ℕ) (window : List ℕ) → StandsFor value window → byte < 256 → value' ≡ parts_of (value * 1099511628211) + byte + 1 → StandsFor value' (window ++ byte ∷ [])
StandsFor-push value value' byte window h small is =
    let same : value' % modulus ≡ (value * base + (byte + 1)) % modulus = omega (arith, is) in
    let order : fingerprint window * base + (byte + 1) ≡ fingerprint window * base + 0 + (byte + 1) = omega arith in
    record {
      below = omega (arith, is, h.below);
      leaves = same ∙ sym (mod_factor value base (byte + 1) modulus) ∙ ap (λ (n : ℕ). (n * base + (byte + 1)) % modulus) h.leaves ∙ ap (λ (n : ℕ). n % modulus) order ∙ fingerprint-push window byte;
    }

-- the oldest byte out, and one in
pub StandsFor-moved : (value value' x byte : ℕ) (window : List ℕ) → length window ≡ 47 → StandsFor value (x ∷ window) → value' < 2 ^ 63
    → value' % modulus ≡ (value * base + (x + 1) * (modulus - 1113966321923690073) + (byte + 1)) % modulus → StandsFor value' (window ++ byte ∷ [])
StandsFor-moved value value' x byte window len h below is =
    let more : ℕ = (x + 1) * (modulus - 1113966321923690073) + (byte + 1) in
    let order : value * base + (x + 1) * (modulus - 1113966321923690073) + (byte + 1) ≡ value * base + more = omega arith in
    let order' : fingerprint (x ∷ window) * base + more ≡ fingerprint (x ∷ window) * base + (x + 1) * (modulus - 1113966321923690073) + (byte + 1) = omega arith in
    record {
      below = below;
      leaves = is ∙ ap (λ (n : ℕ). n % modulus) order ∙ sym (mod_factor value base more modulus) ∙ ap (λ (n : ℕ). (n * base + more) % modulus) h.leaves ∙ ap (λ (n : ℕ). n % modulus) order' ∙ fingerprint-roll x window byte len;
    }

-- ---- before places

-- the window before a place, by the bytes that the next lacks and has
window_before-oldest : (bytes : List ℕ) (i : ℕ) → 48 ≤ i → i < length bytes → window_before bytes i ≡ get_or bytes (i - 48) 0 ∷ take 47 (drop (i - 47) bytes)
window_before-oldest bytes i full within =
    let low : i - 48 < length bytes = omega arith in
    let next : i - 48 + 1 ≡ i - 47 = omega arith in
    ap (take 48) (drop_more bytes (i - 48) 0 low) ∙ ap (λ (n : ℕ). get_or bytes (i - 48) 0 ∷ take 47 (drop n bytes)) next

window_before-newest : (bytes : List ℕ) (i : ℕ) → 48 ≤ i → i < length bytes → window_before bytes (i + 1) ≡ take 47 (drop (i - 47) bytes) ++ get_or bytes i 0 ∷ []
window_before-newest bytes i full within =
    let start : i + 1 - 48 ≡ i - 47 = omega arith in
    let place : i - 47 + 47 ≡ i = omega arith in
    let long : 47 < length (drop (i - 47) bytes) = omega (arith, length-drop (i - 47) bytes) in
    ap (λ (n : ℕ). take 48 (drop n bytes)) start ∙ take_more (drop (i - 47) bytes) 47 0 long
    ∙ ap (λ (b : ℕ). take 47 (drop (i - 47) bytes) ++ b ∷ []) (get_or-drop (i - 47) bytes 47 0 ∙ ap (λ (n : ℕ). get_or bytes n 0) place)

pub StandsFor-next : (bytes : List ℕ) (i value moved change : ℕ) → 48 ≤ i → i < length bytes → StandsFor value (window_before bytes i) → moved ≡ parts_of (value * 1099511628211) → change < 2 ^ 62
    → change % modulus ≡ ((get_or bytes (i - 48) 0 + 1) * (modulus - 1113966321923690073) + (get_or bytes i 0 + 1)) % modulus → StandsFor (moved + change) (window_before bytes (i + 1))
StandsFor-next bytes i value moved change full within h is below leaves =
    let x : ℕ = get_or bytes (i - 48) 0 in
    let byte : ℕ = get_or bytes i 0 in
    let len : length (take 47 (drop (i - 47) bytes)) ≡ 47 = length-take-le 47 (drop (i - 47) bytes) (omega (arith, length-drop (i - 47) bytes)) in
    subst (λ (w : List ℕ). StandsFor (moved + change) w) (sym (window_before-newest bytes i full within))
    (StandsFor-moved value (moved + change) x byte (take 47 (drop (i - 47) bytes)) len
    (subst (λ (w : List ℕ). StandsFor value w) (window_before-oldest bytes i full within) h) (omega (arith, is, below, h.below)) (sums x byte leaves))
  where
    sums : (x byte : ℕ) → change % modulus ≡ ((x + 1) * (modulus - 1113966321923690073) + (byte + 1)) % modulus → (moved + change) % modulus ≡ (value * base + (x + 1) * (modulus - 1113966321923690073) + (byte + 1)) % modulus
    sums x byte leaves = omega (arith, is, leaves)

-- a place is an anchor where a number that stands for its window says so
pub anchor-is : (bytes : List ℕ) (e value : ℕ) (there : Bool) → 48 ≤ e → StandsFor value (window_before bytes e) → there ≡ (value % modulus % 8192 == 4095) → is_anchor bytes e ≡ there
unfolding is_anchor
anchor-is bytes e value there full h is =
    let passes : nat_le 48 e ≡ true = le-leb 48 e full in
    ap (λ (b : Bool). b && (fingerprint (window_before bytes e) % 8192 == 4095)) passes ∙ ap (λ (n : ℕ). n % 8192 == 4095) (sym h.leaves) ∙ sym is
