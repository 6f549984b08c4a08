-- A fingerprint that rolls: one byte out, one byte in.
use Rattle.std.proofs.Common.{◌≡◌, ℕ, suc, ◌+◌, ◌-◌, ◌*◌, ◌/◌, ◌%◌, ◌^◌, ◌<◌, ◌≤◌, nat_lt, if◌then◌else◌, List, [], ◌∷◌, ◌++◌, length, drop, Option, None, slice_get, refl, sym, ap, ◌∙◌, arith, subst, inl, inr, length-drop, pow-suc, lt-ltb, le-ltb}
use Rattle.std.specs.Option.{option_map_or}
use Rattle.std.proofs.Math.Nat.{add-mul-mod_self_right, mod-add-mod}
use Rattle.std.proofs.lemmas.Nat.{mul-mod_first, mod_below}
use Rattle.std.proofs.lemmas.List.{length_push}
use Rattle.std.proofs.lemmas.Bool.{cases_lt}
use Rattle.circular_buffer.specs.Buffer.{Buffer, buffer, keep_last}
use Rattle.rolling_chunks.specs.Fingerprints.{modulus, base, power_sum, fingerprint, IsRolling}

-- ---- on plain numbers

-- one more byte behind the others: each power grows by one
one_more : (x p s b y : ℕ) → (x + 1) * (p * b) + (s * b + y) ≡ ((x + 1) * p + s) * b + y
one_more x p s b y = omega arith

-- the remainder of a factor does for the factor
pub mod_factor : (x b y m : ℕ) → (x % m * b + y) % m ≡ (x * b + y) % m
mod_factor x b y m = sym (mod-add-mod (x % m * b) m y) ∙ ap (λ r. (r + y) % m) (mul-mod_first x b m) ∙ mod-add-mod (x * b) m y

-- The oldest of the bytes goes: its weight and what that lacks to the modulus make a multiple of it.
dropped : (x p s b y m q weight lack : ℕ) → p * b ≡ q * m + weight → weight + lack ≡ m
    → (((x + 1) * p + s) % m * b + (x + 1) * lack + y) % m ≡ (s * b + y) % m
dropped x p s b y m q weight lack power whole =
    let at_power : ((x + 1) * p + s) * b + ((x + 1) * lack + y) ≡ (x + 1) * (p * b) + s * b + (x + 1) * lack + y = omega arith in
    let split : (x + 1) * (q * m + weight) + s * b + (x + 1) * lack + y ≡ (s * b + y) + ((x + 1) * q * m + (x + 1) * (weight + lack)) = omega arith in
    let joined : (s * b + y) + ((x + 1) * q * m + (x + 1) * m) ≡ (s * b + y) + ((x + 1) * (q + 1)) * m = omega arith in
    let same : ((x + 1) * p + s) * b + ((x + 1) * lack + y) ≡ (s * b + y) + ((x + 1) * (q + 1)) * m =
    at_power ∙ ap (λ (n : ℕ). (x + 1) * n + s * b + (x + 1) * lack + y) power ∙ split ∙ ap (λ (n : ℕ). (s * b + y) + ((x + 1) * q * m + (x + 1) * n)) whole ∙ joined in
    let order : ((x + 1) * p + s) % m * b + (x + 1) * lack + y ≡ ((x + 1) * p + s) % m * b + ((x + 1) * lack + y) = omega arith in
    ap (λ (n : ℕ). n % m) order ∙ mod_factor ((x + 1) * p + s) b ((x + 1) * lack + y) m ∙ ap (λ (n : ℕ). n % m) same ∙ add-mul-mod_self_right (s * b + y) ((x + 1) * (q + 1)) m

-- ---- on windows

-- one more byte
pub power_sum-push : (window : List ℕ) (byte : ℕ) → power_sum (window ++ byte ∷ []) ≡ power_sum window * base + (byte + 1)
unfolding power_sum
power_sum-push [] byte = omega arith
power_sum-push (x ∷ window) byte =
    let longer : length (window ++ byte ∷ []) ≡ suc (length window) = omega (arith, length_push window byte) in
    ap (λ (n : ℕ). (x + 1) * base ^ n + power_sum (window ++ byte ∷ [])) longer
    ∙ ap (λ (n : ℕ). (x + 1) * n + power_sum (window ++ byte ∷ [])) (pow-suc base (length window))
    ∙ ap (λ (n : ℕ). (x + 1) * (base ^ length window * base) + n) (power_sum-push window byte)
    ∙ one_more x (base ^ length window) (power_sum window) base (byte + 1)

-- the window is not full: nothing falls out
pub fingerprint-push : (window : List ℕ) (byte : ℕ) → (fingerprint window * base + 0 + (byte + 1)) % modulus ≡ fingerprint (window ++ byte ∷ [])
unfolding fingerprint
fingerprint-push window byte =
    let order : power_sum window % modulus * base + 0 + (byte + 1) ≡ power_sum window % modulus * base + (byte + 1) = omega arith in
    ap (λ (n : ℕ). n % modulus) order ∙ mod_factor (power_sum window) base (byte + 1) modulus ∙ ap (λ (n : ℕ). n % modulus) (sym (power_sum-push window byte))

-- the window is full: the oldest byte falls out
pub fingerprint-roll : (x : ℕ) (window : List ℕ) (byte : ℕ) → length window ≡ 47
    → (fingerprint (x ∷ window) * base + (x + 1) * (modulus - 1113966321923690073) + (byte + 1)) % modulus ≡ fingerprint (window ++ byte ∷ [])
unfolding fingerprint power_sum
fingerprint-roll x window byte len =
    ap (λ (n : ℕ). (((x + 1) * base ^ n + power_sum window) % modulus * base + (x + 1) * (modulus - 1113966321923690073) + (byte + 1)) % modulus) len
    ∙ dropped x (base ^ 47) (power_sum window) base (byte + 1) modulus (base ^ 48 / modulus) 1113966321923690073 (modulus - 1113966321923690073) refl refl
    ∙ ap (λ (n : ℕ). n % modulus) (sym (power_sum-push window byte))

-- the value after a push
abbrev next_value : List ℕ → ℕ → ℕ → ℕ → ℕ
next_value old capacity value byte =
    (value * base + option_map_or (λ b. (b + 1) * (modulus - 1113966321923690073)) (if nat_lt (length old) capacity then None else slice_get (old ++ byte ∷ []) 0) 0 + (byte + 1)) % modulus

value-full : (old : List ℕ) (byte : ℕ) → length old ≡ 48 → next_value old 48 (fingerprint old) byte ≡ fingerprint (keep_last 48 (old ++ byte ∷ []))
value-full [] byte full = absurd (omega arith)
value-full (x ∷ window) byte full =
    let len : length window ≡ 47 = omega arith in
    let past : length (x ∷ (window ++ byte ∷ [])) - 48 ≡ 1 = omega (arith, length_push window byte) in
    rw (le-ltb (length (x ∷ window)) 48 (omega arith)) (fingerprint-roll x window byte len ∙ ap (λ (n : ℕ). fingerprint (drop n (x ∷ (window ++ byte ∷ [])))) (sym past))

value-room : (old : List ℕ) (byte : ℕ) → length old < 48 → next_value old 48 (fingerprint old) byte ≡ fingerprint (keep_last 48 (old ++ byte ∷ []))
value-room old byte room =
    let none : length (old ++ byte ∷ []) - 48 ≡ 0 = omega (arith, length_push old byte) in
    rw (lt-ltb (length old) 48 room) (fingerprint-push old byte ∙ ap (λ (n : ℕ). fingerprint (drop n (old ++ byte ∷ []))) (sym none))

value-push : (old : List ℕ) (byte : ℕ) → length old ≤ 48 → next_value old 48 (fingerprint old) byte ≡ fingerprint (keep_last 48 (old ++ byte ∷ []))
value-push old byte within =
    elim (cases_lt (length old) 48) [ inl room ↦ value-room old byte room | inr full ↦ value-full old byte (omega arith) ]

-- what a push of a byte leaves
pub IsRolling-push : (old : List ℕ) (capacity value byte : ℕ) → IsRolling old capacity value → IsRolling (keep_last capacity (old ++ byte ∷ [])) capacity (next_value old capacity value byte)
IsRolling-push old capacity value byte r =
    let last : ℕ → List ℕ = λ (n : ℕ). keep_last n (old ++ byte ∷ []) in
    let within : length (last 48) ≤ 48 = omega (arith, length-drop (length (old ++ byte ∷ []) - 48) (old ++ byte ∷ [])) in
    subst (λ (n : ℕ). IsRolling (keep_last n (old ++ byte ∷ [])) n (next_value old n value byte)) (sym r.room)
    (record { room = refl; within = within; value_is = ap (λ (v : ℕ). next_value old 48 v byte) r.value_is ∙ value-push old byte r.within })

pub fingerprint-nil : 0 ≡ fingerprint []
unfolding fingerprint power_sum
fingerprint-nil = refl

pub fingerprint-below : (bytes : List ℕ) → fingerprint bytes < modulus
unfolding fingerprint
fingerprint-below bytes = mod_below (power_sum bytes) modulus (omega arith)

-- a window without bytes
pub IsRolling-empty : (ring : Buffer ℕ) (capacity : ℕ) → ring ≡ buffer [] capacity → capacity ≡ 48 → IsRolling ring.items ring.capacity 0
IsRolling-empty ring capacity empty room =
    subst (λ (b : Buffer ℕ). IsRolling b.items b.capacity 0) (sym empty)
    (record { room = room; within = omega arith; value_is = fingerprint-nil })

-- a window with a byte pushed
pub IsRolling-pushed : (ring ring' : Buffer ℕ) (value byte value' : ℕ) (oldest : Option ℕ) → IsRolling ring.items ring.capacity value
    → ring' ≡ buffer (keep_last ring.capacity (ring.items ++ byte ∷ [])) ring.capacity
    → oldest ≡ (if nat_lt (length ring.items) ring.capacity then None else slice_get (ring.items ++ byte ∷ []) 0)
    → value' ≡ (value * base + option_map_or (λ b. (b + 1) * (modulus - 1113966321923690073)) oldest 0 + (byte + 1)) % modulus
    → IsRolling ring'.items ring'.capacity value'
IsRolling-pushed ring ring' value byte value' oldest r moved fell rolled =
    let at_oldest : Option ℕ → ℕ = λ (o : Option ℕ). (value * base + option_map_or (λ b. (b + 1) * (modulus - 1113966321923690073)) o 0 + (byte + 1)) % modulus in
    subst (λ (v : ℕ). IsRolling ring'.items ring'.capacity v) (sym (rolled ∙ ap at_oldest fell))
    (subst (λ (b : Buffer ℕ). IsRolling b.items b.capacity (next_value ring.items ring.capacity value byte)) (sym moved) (IsRolling-push ring.items ring.capacity value byte r))
