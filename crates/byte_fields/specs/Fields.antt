-- The fields that frames and records have alike: what fits, and how each is read from the front of some bytes.
use Rattle.std.specs.Prelude.{◌≡◌, ℕ, zero, suc, ◌^◌, Bool, ◌&&◌, ◌==◌, nat_lt, if◌then◌else◌, List, [], ◌∷◌, length, take, drop, Option, Some, None, Result, Ok, Err}
use Rattle.std.specs.List.{list_all}
use Rattle.psb_bytes.specs.Numbers.{u16_of, u32_of, u64_of}
use Rattle.psb_bytes.specs.declared.ids.Object.{Object}
use Rattle.psb_bytes.specs.declared.ids.Object.TheVariants.{Chunk, Slot}

-- ---- what fits

-- each is below 256
abbrev pub are_bytes : List ℕ → Bool
are_bytes bytes = list_all (λ b. nat_lt b 256) bytes

abbrev pub is_digest : List ℕ → Bool
is_digest bytes = (length bytes == 32) && are_bytes bytes

abbrev pub is_u32 : ℕ → Bool
is_u32 n = nat_lt n (2 ^ 32)

abbrev pub is_object : Object → Bool
is_object (Chunk name) = is_digest name
is_object (Slot slot) = is_u32 slot

-- ---- how a field is read: its value and the bytes behind it, or None

infixl 10 ◌>>=◌
abbrev pub ◌>>=◌ : {A B : Type 0} → Option A → (A → Option B) → Option B
(Some x) >>= f = f x
None >>= f = None

-- what a reader of the code returned, seen by view, is what reading gives
abbrev pub Gives : {X Y : Type 0} → (X → Y) → Option X → Option Y → Type 0
Gives view (Some x) read = read ≡ Some (view x)
Gives view None read = read ≡ None

-- what a reader of the code took from the front, and what it left, is what reading gives
abbrev pub Takes : {X E : Type 0} → Result X E → List ℕ → Option (X × List ℕ) → Type 0
Takes (Ok x) left read = read ≡ Some (x, left)
Takes (Err e) left read = read ≡ None

-- so many bytes
unfoldable pub bytes_at : ℕ → List ℕ → Option (List ℕ × List ℕ)
bytes_at n bytes = if nat_lt (length bytes) n then None else Some (take n bytes, drop n bytes)

unfoldable pub u8_at : List ℕ → Option (ℕ × List ℕ)
u8_at [] = None
u8_at (b ∷ rest) = Some (b, rest)

unfoldable pub u16_at : List ℕ → Option (ℕ × List ℕ)
u16_at bytes = do
  front ← bytes_at 2 bytes
  Some (u16_of front.0, front.1)

unfoldable pub u32_at : List ℕ → Option (ℕ × List ℕ)
u32_at bytes = do
  front ← bytes_at 4 bytes
  Some (u32_of front.0, front.1)

unfoldable pub u64_at : List ℕ → Option (ℕ × List ℕ)
u64_at bytes = do
  front ← bytes_at 8 bytes
  Some (u64_of front.0, front.1)

unfoldable pub digest_at : List ℕ → Option (List ℕ × List ℕ)
digest_at bytes = bytes_at 32 bytes

-- an object by the byte before it
unfoldable pub object_by : ℕ → List ℕ → Option (Object × List ℕ)
object_by kind bytes =
    if kind == 0 then bytes_at 32 bytes >>= (λ name. Some (Chunk name.0, name.1))
    else if kind == 1 then u32_at bytes >>= (λ slot. Some (Slot slot.0, slot.1))
    else None

-- 0 and a name, or 1 and a slot
unfoldable pub object_at : List ℕ → Option (Object × List ℕ)
object_at bytes = do
  kind ← u8_at bytes
  object_by kind.0 kind.1

-- so many items, one after another
unfoldable pub items_at : {A : Type 0} → (List ℕ → Option (A × List ℕ)) → ℕ → List ℕ → Option (List A × List ℕ)
items_at item zero bytes = Some ([], bytes)
items_at item (suc n) bytes = do
  first ← item bytes
  others ← items_at item n first.1
  Some (first.0 ∷ others.0, others.1)

-- a value, where nothing stands behind it
abbrev pub ended : {A : Type 0} → A → List ℕ → Option A
ended value [] = Some value
ended value (b ∷ rest) = None
