-- No frame is long, so the length of its body has a spelling.
use Rattle.std.proofs.Common.{◌≡◌, ℕ, ◌+◌, ◌*◌, ◌≤◌, true, ◌&&◌, List, [], ◌∷◌, ◌++◌, length, map, length-append, arith}
use Rattle.std.specs.Prelude.{◌==◌, flat_map}
use Rattle.std.specs.List.{list_all}
use Rattle.std.proofs.lemmas.Bool.{and_parts, eqb-true}
use Rattle.std.proofs.lemmas.List.Concat.{flat_map-cons}
use Rattle.std.proofs.Math.Nat.{mul-suc}
use Rattle.psb_bytes.specs.Numbers.{u16_bytes, u32_bytes, u16_of, u32_of}
use Rattle.psb_bytes.specs.declared.ids.Object.{Object}
use Rattle.psb_bytes.specs.declared.ids.Object.TheVariants.{Chunk, Slot}
use Rattle.psb_bytes.specs.declared.lists.SlotClaim.{SlotClaim}
use Rattle.wire_codec.specs.declared.frame.Frame.{Frame}
use Rattle.wire_codec.specs.declared.frame.Frame.TheVariants.{Store, Cancel, PutBack, Replace, Accepted, Refused, Declined, Get, Here, Probe, Proof, Ask, Sample}
use Rattle.wire_codec.specs.declared.limits.TheConstants.{DIGEST_BYTES, CLAIM_BYTES, MOST_SLOTS, MOST_OBJECTS, MOST_BYTES, HEADER_BYTES, TAG_BYTES, MOST_FRAME_BYTES}
use Rattle.wire_codec.specs.Fields.{within, text_bytes, claim_bytes, object_bytes, slots_bytes, claims_bytes, places_bytes, objects_bytes, names_bytes, are_bytes, ascends, claim_of, is_digest, is_u32, is_claim, is_object, are_slots, are_claims, are_places, are_objects, are_names, is_text}
use Rattle.wire_codec.specs.Frames.{body_of, fits}
use Rattle.byte_fields.proofs.FieldLaws.{as_they_are}
use Rattle.wire_codec.proofs.FieldLaws.{cells_same, within_most}
use Rattle.wire_codec.proofs.ListLaws.{slot_cell, claim_cell, place_cell, name_cell, places_small, is_u16, is_place}

digest_size : (d : List ℕ) → is_digest d ≡ true → length d ≡ 32
digest_size d e = eqb-true (length d) DIGEST_BYTES (and_parts (length d == DIGEST_BYTES) (are_bytes d) e).0

text_size : (least : ℕ) (t : List ℕ) → is_text least t ≡ true → length (text_bytes t) ≤ 4 + MOST_BYTES
text_size least t e = omega (arith, within_most least MOST_BYTES (length t) (and_parts (within least MOST_BYTES (length t)) (are_bytes t) e).0)

slots_size : (least : ℕ) (s : List ℕ) → are_slots least s ≡ true → length (slots_bytes s) ≤ 2 + 4 * MOST_SLOTS
slots_size least s e =
    let p = and_parts (within least MOST_SLOTS (length s)) (list_all is_u32 s && ascends s) e in
    let q = and_parts (list_all is_u32 s) (ascends s) p.1 in
    omega (arith, within_most least MOST_SLOTS (length s) p.0, (cells_same 4 u32_of u32_bytes is_u32 slot_cell s q.0).1)

claims_size : (least : ℕ) (s : List SlotClaim) → are_claims least s ≡ true → length (claims_bytes s) ≤ 2 + (4 + CLAIM_BYTES) * MOST_SLOTS
claims_size least s e =
    let p = and_parts (within least MOST_SLOTS (length s)) (list_all is_claim s && ascends (map (λ c. c.slot) s)) e in
    let q = and_parts (list_all is_claim s) (ascends (map (λ c. c.slot) s)) p.1 in
    omega (arith, within_most least MOST_SLOTS (length s) p.0, (cells_same (4 + CLAIM_BYTES) claim_of claim_bytes is_claim claim_cell s q.0).1)

places_size : (s : List ℕ) → are_places s ≡ true → length (places_bytes s) ≤ 2 + 2 * MOST_OBJECTS
places_size s e =
    let p = and_parts (within 1 MOST_OBJECTS (length s)) (list_all is_place s && ascends s) e in
    let q = and_parts (list_all is_place s) (ascends s) p.1 in
    omega (arith, within_most 1 MOST_OBJECTS (length s) p.0, (cells_same 2 u16_of u16_bytes is_u16 place_cell s (places_small s q.0)).1)

names_size : (s : List (List ℕ)) → are_names s ≡ true → length (names_bytes s) ≤ 2 + DIGEST_BYTES * MOST_OBJECTS
names_size s e =
    let p = and_parts (within 1 MOST_OBJECTS (length s)) (list_all is_digest s) e in
    omega (arith, within_most 1 MOST_OBJECTS (length s) p.0, (cells_same DIGEST_BYTES as_they_are as_they_are is_digest name_cell s p.1).1)

object_size : (o : Object) → is_object o ≡ true → length (object_bytes o) ≤ 33
object_size (Chunk name) e = omega (arith, digest_size name e)
object_size (Slot slot) e = omega arith

each_size : (os : List Object) → list_all is_object os ≡ true → length (flat_map object_bytes os) ≤ 33 * length os
each_size [] e = omega arith
each_size (o ∷ os) e =
    let p = and_parts (is_object o) (list_all is_object os) e in
    rw (flat_map-cons object_bytes o os) (omega (arith, length-append (object_bytes o) (flat_map object_bytes os), object_size o p.0, each_size os p.1, mul-suc 33 (length os)))

objects_size : (s : List Object) → are_objects s ≡ true → length (objects_bytes s) ≤ 2 + (1 + DIGEST_BYTES) * MOST_OBJECTS
objects_size s e =
    let p = and_parts (within 1 MOST_OBJECTS (length s)) (list_all is_object s) e in
    omega (arith, within_most 1 MOST_OBJECTS (length s) p.0, each_size s p.1)

-- the longest is a Store of the most slots and the most bytes
pub body_size : (f : Frame) → fits f ≡ true → HEADER_BYTES + length (body_of f) + TAG_BYTES ≤ MOST_FRAME_BYTES
body_size (Store name slots bytes) e =
    let p = and_parts (is_digest name) (are_slots 0 slots && is_text 1 bytes) e in
    let q = and_parts (are_slots 0 slots) (is_text 1 bytes) p.1 in
    omega (arith, length-append (name ++ slots_bytes slots) (text_bytes bytes), length-append name (slots_bytes slots), digest_size name p.0, slots_size 0 slots q.0, text_size 1 bytes q.1)
body_size (Cancel name slots) e =
    let p = and_parts (is_digest name) (are_slots 1 slots) e in
    omega (arith, length-append name (0 ∷ slots_bytes slots), digest_size name p.0, slots_size 1 slots p.1)
body_size (PutBack name claims) e =
    let p = and_parts (is_digest name) (are_claims 1 claims) e in
    omega (arith, length-append name (1 ∷ claims_bytes claims), digest_size name p.0, claims_size 1 claims p.1)
body_size (Replace slot bytes) e =
    let p = and_parts (is_u32 slot) ((length bytes == CLAIM_BYTES) && are_bytes bytes) e in
    let q = and_parts (length bytes == CLAIM_BYTES) (are_bytes bytes) p.1 in
    omega (arith, eqb-true (length bytes) CLAIM_BYTES q.0)
body_size (Accepted claims) e = omega (arith, claims_size 0 claims e)
body_size (Refused why detail) e = omega arith
body_size (Declined nonce places) e =
    let p = and_parts (is_digest nonce) (are_places places) e in
    omega (arith, length-append nonce (places_bytes places), digest_size nonce p.0, places_size places p.1)
body_size (Get name) e = omega (arith, digest_size name e)
body_size (Here name bytes) e =
    let p = and_parts (is_digest name) (is_text 0 bytes) e in
    omega (arith, length-append name (text_bytes bytes), digest_size name p.0, text_size 0 bytes p.1)
body_size (Probe nonce objects) e =
    let p = and_parts (is_digest nonce) (are_objects objects) e in
    omega (arith, length-append nonce (objects_bytes objects), digest_size nonce p.0, objects_size objects p.1)
body_size (Proof nonce value) e =
    let p = and_parts (is_digest nonce) (is_digest value) e in
    omega (arith, length-append nonce value, digest_size nonce p.0, digest_size value p.1)
body_size (Ask salt names) e =
    let p = and_parts (is_digest salt) (are_names names) e in
    omega (arith, length-append salt (names_bytes names), digest_size salt p.0, names_size names p.1)
body_size (Sample salt bits) e =
    let p = and_parts (is_digest salt) (is_u32 bits) e in
    omega (arith, length-append salt (u32_bytes bits), digest_size salt p.0)
