-- Numbers in bytes, the high byte first.
use Rattle.std.specs.Prelude.{◌≡◌, ℕ, ◌<◌, List, [], ◌∷◌, length, slice_index}
use Rattle.std.specs.Int.{w16, w32, w64, to_be_bytes, from_be_bytes}

-- a number in one, two, four and eight bytes
abbrev pub u8_bytes : ℕ → List ℕ
u8_bytes n = n ∷ []

abbrev pub u16_bytes : ℕ → List ℕ
u16_bytes n = to_be_bytes w16 n

abbrev pub u32_bytes : ℕ → List ℕ
u32_bytes n = to_be_bytes w32 n

abbrev pub u64_bytes : ℕ → List ℕ
u64_bytes n = to_be_bytes w64 n

-- the number that one, two, four and eight bytes spell
abbrev pub u8_of : List ℕ → ℕ
u8_of bytes = slice_index bytes 0

abbrev pub u16_of : List ℕ → ℕ
u16_of bytes = from_be_bytes w16 bytes

abbrev pub u32_of : List ℕ → ℕ
u32_of bytes = from_be_bytes w32 bytes

abbrev pub u64_of : List ℕ → ℕ
u64_of bytes = from_be_bytes w64 bytes

-- each number of the list is below 256
abbrev pub AreBytes : List ℕ → Type 0
AreBytes bytes = (i : ℕ) → slice_index bytes i < 256

-- each number below the bound reads back from its bytes, and no other bytes of their length spell it
abbrev pub IsSpelling : (ℕ → List ℕ) → (List ℕ → ℕ) → ℕ → ℕ → Type 0
IsSpelling bytes_of number_of len bound =
    ((n : ℕ) → n < bound → number_of (bytes_of n) ≡ n)
    × ((n : ℕ) (bytes : List ℕ) → length bytes ≡ len → AreBytes bytes → number_of bytes ≡ n → bytes ≡ bytes_of n)
