-- Facts on lists of bytes.
use Rattle.std.proofs.Common.{◌≡◌, ℕ, zero, suc, ◌<◌, List, [], ◌∷◌, ◌++◌, length, get_or, refl, arith}
use Rattle.std.specs.Int.{w32, to_le_bytes, to_be_bytes, bytes_low_first, bytes_high_first, byte_at}
use Rattle.psb_bytes.specs.Numbers.{AreBytes}

-- lists of one length that agree at each place
pub same_list : (xs ys : List ℕ) → length xs ≡ length ys → ((k : ℕ) → k < length ys → get_or xs k 0 ≡ get_or ys k 0) → xs ≡ ys
same_list [] [] e h = refl
same_list [] (y ∷ ys) e h = absurd (omega arith)
same_list (x ∷ xs) [] e h = absurd (omega arith)
same_list (x ∷ xs) (y ∷ ys) e h =
    let first : x ≡ y = h 0 (omega arith) in
    let rest = same_list xs ys (omega arith) (λ k lt. h (suc k) (omega arith)) in
    rw (first, rest) refl

pub AreBytes-append : (xs ys : List ℕ) → AreBytes xs → AreBytes ys → AreBytes (xs ++ ys)
AreBytes-append [] ys h k i = k i
AreBytes-append (x ∷ xs) ys h k zero = h 0
AreBytes-append (x ∷ xs) ys h k (suc i) = AreBytes-append xs ys (λ j. h (suc j)) k i

byte_at-fits : (i n : ℕ) → byte_at i n < 256
byte_at-fits zero n = omega arith
byte_at-fits (suc i) n = omega arith

AreBytes-low : (i k n : ℕ) → AreBytes (bytes_low_first i k n)
AreBytes-low i zero n j = omega arith
AreBytes-low i (suc k) n zero = byte_at-fits i n
AreBytes-low i (suc k) n (suc j) = AreBytes-low (suc i) k n j

AreBytes-high : (k n : ℕ) → AreBytes (bytes_high_first k n)
AreBytes-high zero n j = omega arith
AreBytes-high (suc k) n zero = byte_at-fits k n
AreBytes-high (suc k) n (suc j) = AreBytes-high k n j

pub AreBytes-to_le_bytes : (n : ℕ) → AreBytes (to_le_bytes w32 n)
AreBytes-to_le_bytes n = AreBytes-low 0 4 n

pub AreBytes-to_be_bytes : (n : ℕ) → AreBytes (to_be_bytes w32 n)
AreBytes-to_be_bytes n = AreBytes-high 4 n
