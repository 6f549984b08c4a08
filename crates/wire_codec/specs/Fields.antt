-- The fields of a body: how each is spelled, what fits, and how it is read from the front of some bytes.
use Rattle.std.specs.Prelude.{◌≡◌, ℕ, zero, suc, ◌+◌, ◌*◌, Bool, true, ◌&&◌, ◌==◌, nat_lt, nat_le, if◌then◌else◌, List, [], ◌∷◌, ◌++◌, length, map, take, drop, flat_map, Option, Some, None, option_map, slice_index, slice_get, ◌<◌, ◌≤◌}
use Rattle.std.specs.List.{list_all}
use Rattle.psb_bytes.specs.Numbers.{u16_bytes, u32_bytes, u16_of, u32_of}
use Rattle.psb_bytes.specs.declared.ids.Object.{Object}
use Rattle.psb_bytes.specs.declared.ids.Object.TheVariants.{Chunk, Slot}
use Rattle.psb_bytes.specs.declared.lists.SlotClaim.{SlotClaim}
use Rattle.wire_codec.specs.declared.limits.TheConstants.{DIGEST_BYTES, CLAIM_BYTES, MOST_SLOTS, MOST_OBJECTS, MOST_BYTES}
pub use Rattle.byte_fields.specs.Fields.{◌>>=◌, Gives, are_bytes, is_digest, is_u32, is_object, ended}
unfoldable pub use Rattle.byte_fields.specs.Fields.{bytes_at, u8_at, u16_at, u32_at, u64_at, object_by, object_at}

-- ---- how a field is spelled

-- a list: its length in two bytes, and the items
abbrev pub list_bytes : {A : Type 0} → (A → List ℕ) → List A → List ℕ
list_bytes item items = u16_bytes (length items) ++ flat_map item items

-- bytes behind their length in four bytes
abbrev pub text_bytes : List ℕ → List ℕ
text_bytes bytes = u32_bytes (length bytes) ++ bytes

-- a claim behind its slot
abbrev pub claim_bytes : SlotClaim → List ℕ
claim_bytes claim = u32_bytes claim.slot ++ claim.bytes

-- 0 and a name, or 1 and a slot
abbrev pub object_bytes : Object → List ℕ
object_bytes (Chunk name) = 0 ∷ name
object_bytes (Slot slot) = 1 ∷ u32_bytes slot

abbrev pub slots_bytes : List ℕ → List ℕ
slots_bytes slots = list_bytes u32_bytes slots

abbrev pub claims_bytes : List SlotClaim → List ℕ
claims_bytes claims = list_bytes claim_bytes claims

abbrev pub places_bytes : List ℕ → List ℕ
places_bytes places = list_bytes u16_bytes places

abbrev pub objects_bytes : List Object → List ℕ
objects_bytes objects = list_bytes object_bytes objects

abbrev pub names_bytes : List (List ℕ) → List ℕ
names_bytes names = list_bytes (λ name. name) names

-- ---- what fits

-- each is below the next
abbrev pub ascends : List ℕ → Bool
ascends [] = true
ascends (a ∷ []) = true
ascends (a ∷ b ∷ rest) = nat_lt a b && ascends (b ∷ rest)

-- from the least to the most
abbrev pub within : ℕ → ℕ → ℕ → Bool
within least most n = nat_le least n && nat_le n most

abbrev pub is_claim : SlotClaim → Bool
is_claim claim = is_u32 claim.slot && ((length claim.bytes == CLAIM_BYTES) && are_bytes claim.bytes)

-- slots, at least so many
abbrev pub are_slots : ℕ → List ℕ → Bool
are_slots least slots = within least MOST_SLOTS (length slots) && (list_all is_u32 slots && ascends slots)

abbrev pub are_claims : ℕ → List SlotClaim → Bool
are_claims least claims = within least MOST_SLOTS (length claims) && (list_all is_claim claims && ascends (map (λ c. c.slot) claims))

abbrev pub are_places : List ℕ → Bool
are_places places = within 1 MOST_OBJECTS (length places) && (list_all (λ place. nat_lt place MOST_OBJECTS) places && ascends places)

abbrev pub are_objects : List Object → Bool
are_objects objects = within 1 MOST_OBJECTS (length objects) && list_all is_object objects

abbrev pub are_names : List (List ℕ) → Bool
are_names names = within 1 MOST_OBJECTS (length names) && list_all is_digest names

-- a chunk's sealed bytes, at least so many
abbrev pub is_text : ℕ → List ℕ → Bool
is_text least bytes = within least MOST_BYTES (length bytes) && are_bytes bytes

-- ---- how a field is read: its value and the bytes behind it, or None

-- n cells, each of this many bytes
abbrev pub cells : {A : Type 0} → ℕ → (List ℕ → A) → ℕ → List ℕ → List A
cells width cell zero bytes = []
cells width cell (suc n) bytes = cell (take width bytes) ∷ cells width cell n (drop width bytes)

abbrev pub claim_of : List ℕ → SlotClaim
claim_of bytes = record { slot = u32_of (take 4 bytes); bytes = drop 4 bytes }

abbrev pub slots_in : ℕ → List ℕ → List ℕ
slots_in n bytes = cells 4 u32_of n bytes

abbrev pub claims_in : ℕ → List ℕ → List SlotClaim
claims_in n bytes = cells (4 + CLAIM_BYTES) claim_of n bytes

abbrev pub places_in : ℕ → List ℕ → List ℕ
places_in n bytes = cells 2 u16_of n bytes

abbrev pub names_in : ℕ → List ℕ → List (List ℕ)
names_in n bytes = cells DIGEST_BYTES (λ name. name) n bytes

-- a count from the least to the most
unfoldable pub count_at : ℕ → ℕ → List ℕ → Option (ℕ × List ℕ)
count_at least most bytes = do
  n ← u16_at bytes
  if within least most n.0 then Some n else None

unfoldable pub slots_at : ℕ → List ℕ → Option (List ℕ × List ℕ)
slots_at least bytes = do
  n ← count_at least MOST_SLOTS bytes
  span ← bytes_at (4 * n.0) n.1
  if ascends (slots_in n.0 span.0) then Some (slots_in n.0 span.0, span.1) else None

unfoldable pub claims_at : ℕ → List ℕ → Option (List SlotClaim × List ℕ)
claims_at least bytes = do
  n ← count_at least MOST_SLOTS bytes
  span ← bytes_at ((4 + CLAIM_BYTES) * n.0) n.1
  if ascends (map (λ c. c.slot) (claims_in n.0 span.0)) then Some (claims_in n.0 span.0, span.1) else None

unfoldable pub places_at : List ℕ → Option (List ℕ × List ℕ)
places_at bytes = do
  n ← count_at 1 MOST_OBJECTS bytes
  span ← bytes_at (2 * n.0) n.1
  if list_all (λ place. nat_lt place MOST_OBJECTS) (places_in n.0 span.0) && ascends (places_in n.0 span.0) then Some (places_in n.0 span.0, span.1) else None

unfoldable pub names_at : List ℕ → Option (List (List ℕ) × List ℕ)
names_at bytes = do
  n ← count_at 1 MOST_OBJECTS bytes
  span ← bytes_at (DIGEST_BYTES * n.0) n.1
  Some (names_in n.0 span.0, span.1)

-- n objects, one after another
unfoldable pub objects_from : ℕ → List ℕ → Option (List Object × List ℕ)
objects_from zero bytes = Some ([], bytes)
objects_from (suc n) bytes = do
  first ← object_at bytes
  others ← objects_from n first.1
  Some (first.0 ∷ others.0, others.1)

-- the objects, where there are as many
abbrev pub found_objects : Option (List Object × List ℕ) → List Object
found_objects None = []
found_objects (Some found) = found.0

abbrev pub objects_in : ℕ → List ℕ → List Object
objects_in n bytes = found_objects (objects_from n bytes)

abbrev pub object_in : List ℕ → Option Object
object_in bytes = option_map (λ x. x.0) (object_at bytes)

-- there are n objects, and object j begins at start j
pub record AreStarts (n : ℕ) (bytes starts : List ℕ) : Type 0 where
  pub all : length (objects_in n bytes) ≡ n
  pub few : n ≤ MOST_OBJECTS
  pub room : length starts ≡ MOST_OBJECTS
  pub inside : (j : ℕ) → j < n → slice_index starts j ≤ length bytes
  pub each : (j : ℕ) → j < n → object_in (drop (slice_index starts j) bytes) ≡ slice_get (objects_in n bytes) j

unfoldable pub objects_at : List ℕ → Option (List Object × List ℕ)
objects_at bytes = do
  n ← count_at 1 MOST_OBJECTS bytes
  objects_from n.0 n.1

unfoldable pub text_at : ℕ → List ℕ → Option (List ℕ × List ℕ)
text_at least bytes = do
  len ← u32_at bytes
  if within least MOST_BYTES len.0 then bytes_at len.0 len.1 else None
