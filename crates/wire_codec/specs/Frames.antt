-- The frame grammar: the one datagram of each frame, and how a datagram is read.
use Rattle.std.specs.Prelude.{ℕ, ◌+◌, ◌-◌, ◌^◌, Bool, not, ◌&&◌, ◌==◌, nat_lt, if◌then◌else◌, List, [], ◌∷◌, ◌++◌, length, take, drop, slice_index, bytes_eq, Option, Some, None, Result, Ok, Err}
use Rattle.psb_bytes.specs.Numbers.{u32_bytes, u64_bytes, u32_of, u64_of}
use Rattle.psb_bytes.specs.declared.limits.TheConstants.{LAST_REASON}
use Rattle.psb_digest.specs.Hashes.{hmac}
use Rattle.wire_codec.specs.declared.frame.Frame.{Frame}
use Rattle.wire_codec.specs.declared.frame.Frame.TheVariants.{Store, Cancel, PutBack, Replace, Accepted, Refused, Declined, Get, Here, Probe, Proof, Ask, Sample}
use Rattle.wire_codec.specs.declared.frame.Dropped.{Dropped}
use Rattle.wire_codec.specs.declared.frame.Dropped.TheVariants.{Short, BadMagic, BadKind, NotForMe, Stranger, BadTag, BadBody}
use Rattle.wire_codec.specs.declared.limits.TheConstants.{MAGIC, HEADER_BYTES, TAG_BYTES, LAST_KIND, DIGEST_BYTES, CLAIM_BYTES}
use Rattle.wire_codec.specs.Fields.{◌>>=◌, ended, within, is_digest, is_u32, are_bytes, are_slots, are_claims, are_places, are_objects, are_names, is_text, text_bytes, slots_bytes, claims_bytes, places_bytes, objects_bytes, names_bytes, bytes_at, u8_at, u32_at, u64_at, slots_at, claims_at, places_at, objects_at, names_at, text_at}

-- ---- how a frame is spelled

-- the byte that stands for a frame's kind
abbrev pub kind_of : Frame → ℕ
kind_of (Store name slots bytes) = 1
kind_of (Cancel name slots) = 2
kind_of (PutBack name claims) = 2
kind_of (Replace slot bytes) = 3
kind_of (Accepted claims) = 4
kind_of (Refused why detail) = 5
kind_of (Declined nonce places) = 6
kind_of (Get name) = 7
kind_of (Here name bytes) = 8
kind_of (Probe nonce objects) = 9
kind_of (Proof nonce value) = 10
kind_of (Ask salt names) = 11
kind_of (Sample salt bits) = 12

-- a release has a mode behind the name: 0 to cancel, 1 to put back
abbrev pub body_of : Frame → List ℕ
body_of (Store name slots bytes) = name ++ slots_bytes slots ++ text_bytes bytes
body_of (Cancel name slots) = name ++ 0 ∷ slots_bytes slots
body_of (PutBack name claims) = name ++ 1 ∷ claims_bytes claims
body_of (Replace slot bytes) = u32_bytes slot ++ bytes
body_of (Accepted claims) = claims_bytes claims
body_of (Refused why detail) = why ∷ u64_bytes detail
body_of (Declined nonce places) = nonce ++ places_bytes places
body_of (Get name) = name
body_of (Here name bytes) = name ++ text_bytes bytes
body_of (Probe nonce objects) = nonce ++ objects_bytes objects
body_of (Proof nonce value) = nonce ++ value
body_of (Ask salt names) = salt ++ names_bytes names
body_of (Sample salt bits) = salt ++ u32_bytes bits

-- what has a spelling: each number in its width, each count and length in its bounds, each order kept
abbrev pub fits : Frame → Bool
fits (Store name slots bytes) = is_digest name && (are_slots 0 slots && is_text 1 bytes)
fits (Cancel name slots) = is_digest name && are_slots 1 slots
fits (PutBack name claims) = is_digest name && are_claims 1 claims
fits (Replace slot bytes) = is_u32 slot && ((length bytes == CLAIM_BYTES) && are_bytes bytes)
fits (Accepted claims) = are_claims 0 claims
fits (Refused why detail) = within 1 LAST_REASON why && nat_lt detail (2 ^ 64)
fits (Declined nonce places) = is_digest nonce && are_places places
fits (Get name) = is_digest name
fits (Here name bytes) = is_digest name && is_text 0 bytes
fits (Probe nonce objects) = is_digest nonce && are_objects objects
fits (Proof nonce value) = is_digest nonce && is_digest value
fits (Ask salt names) = is_digest salt && are_names names
fits (Sample salt bits) = is_digest salt && is_u32 bits

-- magic, kind, three zero bytes, sender, receiver, number and the body's length
unfoldable pub header : ℕ → ℕ → ℕ → ℕ → ℕ → List ℕ
header kind from to number len = MAGIC ++ kind ∷ 0 ∷ 0 ∷ 0 ∷ [] ++ u32_bytes from ++ u32_bytes to ++ u64_bytes number ++ u32_bytes len

-- all that the tag is over
abbrev pub signed : ℕ → ℕ → ℕ → Frame → List ℕ
signed from to number frame = header (kind_of frame) from to number (length (body_of frame)) ++ body_of frame

-- the one datagram of a frame from a sender to a receiver, under the pair's key
abbrev pub datagram : List ℕ → ℕ → ℕ → ℕ → Frame → List ℕ
datagram key from to number frame = signed from to number frame ++ hmac key (signed from to number frame)

-- ---- how a body is read, by its kind

unfoldable pub store_at : List ℕ → Option Frame
store_at body = do
  name ← bytes_at DIGEST_BYTES body
  slots ← slots_at 0 name.1
  bytes ← text_at 1 slots.1
  ended (Store name.0 slots.0 bytes.0) bytes.1

unfoldable pub cancel_at : List ℕ → List ℕ → Option Frame
cancel_at name rest = do
  slots ← slots_at 1 rest
  ended (Cancel name slots.0) slots.1

unfoldable pub put_back_at : List ℕ → List ℕ → Option Frame
put_back_at name rest = do
  claims ← claims_at 1 rest
  ended (PutBack name claims.0) claims.1

unfoldable pub release_at : List ℕ → Option Frame
release_at body = do
  name ← bytes_at DIGEST_BYTES body
  mode ← u8_at name.1
  if mode.0 == 0 then cancel_at name.0 mode.1 else if mode.0 == 1 then put_back_at name.0 mode.1 else None

unfoldable pub replace_at : List ℕ → Option Frame
replace_at body = do
  slot ← u32_at body
  bytes ← bytes_at CLAIM_BYTES slot.1
  ended (Replace slot.0 bytes.0) bytes.1

unfoldable pub accepted_at : List ℕ → Option Frame
accepted_at body = do
  claims ← claims_at 0 body
  ended (Accepted claims.0) claims.1

unfoldable pub refused_at : List ℕ → Option Frame
refused_at body = do
  why ← u8_at body
  detail ← u64_at why.1
  if within 1 LAST_REASON why.0 then ended (Refused why.0 detail.0) detail.1 else None

unfoldable pub declined_at : List ℕ → Option Frame
declined_at body = do
  nonce ← bytes_at DIGEST_BYTES body
  places ← places_at nonce.1
  ended (Declined nonce.0 places.0) places.1

unfoldable pub get_at : List ℕ → Option Frame
get_at body = do
  name ← bytes_at DIGEST_BYTES body
  ended (Get name.0) name.1

unfoldable pub here_at : List ℕ → Option Frame
here_at body = do
  name ← bytes_at DIGEST_BYTES body
  bytes ← text_at 0 name.1
  ended (Here name.0 bytes.0) bytes.1

unfoldable pub probe_at : List ℕ → Option Frame
probe_at body = do
  nonce ← bytes_at DIGEST_BYTES body
  objects ← objects_at nonce.1
  ended (Probe nonce.0 objects.0) objects.1

unfoldable pub proof_at : List ℕ → Option Frame
proof_at body = do
  nonce ← bytes_at DIGEST_BYTES body
  value ← bytes_at DIGEST_BYTES nonce.1
  ended (Proof nonce.0 value.0) value.1

unfoldable pub ask_at : List ℕ → Option Frame
ask_at body = do
  salt ← bytes_at DIGEST_BYTES body
  names ← names_at salt.1
  ended (Ask salt.0 names.0) names.1

unfoldable pub sample_at : List ℕ → Option Frame
sample_at body = do
  salt ← bytes_at DIGEST_BYTES body
  bits ← u32_at salt.1
  ended (Sample salt.0 bits.0) bits.1

-- the frame of this kind that a body spells
unfoldable pub read_body : ℕ → List ℕ → Option Frame
read_body kind body =
    if kind == 1 then store_at body
    else if kind == 2 then release_at body
    else if kind == 3 then replace_at body
    else if kind == 4 then accepted_at body
    else if kind == 5 then refused_at body
    else if kind == 6 then declined_at body
    else if kind == 7 then get_at body
    else if kind == 8 then here_at body
    else if kind == 9 then probe_at body
    else if kind == 10 then proof_at body
    else if kind == 11 then ask_at body
    else if kind == 12 then sample_at body
    else None

-- ---- how a datagram is read

-- what a node takes in
pub record Incoming : Type 0 where
  pub from : ℕ
  pub number : ℕ
  pub frame : Frame

-- n bytes from a place on
abbrev pub part : ℕ → ℕ → List ℕ → List ℕ
part place n bytes = take n (drop place bytes)

abbrev pub has_magic : List ℕ → Bool
has_magic bytes = bytes_eq (part 0 4 bytes) MAGIC && bytes_eq (part 5 3 bytes) (0 ∷ 0 ∷ 0 ∷ [])

abbrev pub kind_in : List ℕ → ℕ
kind_in bytes = slice_index bytes 4

abbrev pub sender_in : List ℕ → ℕ
sender_in bytes = u32_of (part 8 4 bytes)

abbrev pub receiver_in : List ℕ → ℕ
receiver_in bytes = u32_of (part 12 4 bytes)

abbrev pub number_in : List ℕ → ℕ
number_in bytes = u64_of (part 16 8 bytes)

abbrev pub length_in : List ℕ → ℕ
length_in bytes = u32_of (part 24 4 bytes)

-- all but the tag, and the tag
abbrev pub signed_in : List ℕ → List ℕ
signed_in bytes = take (length bytes - TAG_BYTES) bytes

abbrev pub tag_in : List ℕ → List ℕ
tag_in bytes = drop (length bytes - TAG_BYTES) bytes

abbrev pub body_in : List ℕ → List ℕ
body_in bytes = drop HEADER_BYTES (signed_in bytes)

-- the key of a peer, in a table of peers and keys
abbrev pub key_in : List (ℕ × List ℕ) → ℕ → Option (List ℕ)
key_in [] peer = None
key_in (row ∷ rows) peer = if row.0 == peer then Some row.1 else key_in rows peer

-- the body against its length field and the grammar of its kind
abbrev pub framed : List ℕ → Option Frame → Result Incoming Dropped
framed bytes None = Err BadBody
framed bytes (Some frame) = Ok (record { from = sender_in bytes; number = number_in bytes; frame = frame })

unfoldable pub read_tagged : List ℕ → Result Incoming Dropped
read_tagged bytes = if length_in bytes == length (body_in bytes) then framed bytes (read_body (kind_in bytes) (body_in bytes)) else Err BadBody

-- the tag against the sender's key
unfoldable pub read_keyed : Option (List ℕ) → List ℕ → Result Incoming Dropped
read_keyed None bytes = Err Stranger
read_keyed (Some key) bytes = if bytes_eq (tag_in bytes) (hmac key (signed_in bytes)) then read_tagged bytes else Err BadTag

-- the seven tests in their order: the frame that the datagram is for the node `own`, or the first that fails
unfoldable pub read_frame : ℕ → List (ℕ × List ℕ) → List ℕ → Result Incoming Dropped
read_frame own keys bytes =
    if nat_lt (length bytes) (HEADER_BYTES + TAG_BYTES) then Err Short
    else if not (has_magic bytes) then Err BadMagic
    else if not (within 1 LAST_KIND (kind_in bytes)) then Err BadKind
    else if not (receiver_in bytes == own) then Err NotForMe
    else read_keyed (key_in keys (sender_in bytes)) bytes
