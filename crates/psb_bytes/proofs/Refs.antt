-- Refs and tickets in bytes: the parts that are written in turn, and the way back.
use Rattle.std.proofs.Common.{◌≡◌, ◌≤◌, ℕ, ◌+◌, ◌^◌, ◌<◌, List, [], ◌∷◌, ◌++◌, length, get_or, take, drop, set, refl, sym, ap, ◌∙◌, arith, replicate, append_assoc, length-append, length-take, length-drop, inl, inr}
use Rattle.std.proofs.Math.Seq.{take-length, take-append_seam, drop-append_seam, take-add, set-append_seam, get_or-append_seam}
use Rattle.std.proofs.lemmas.Bool.{cases_lt}
use Rattle.std.proofs.lemmas.List.{take-append-le, drop-append-le, take_more, get_or-take, get_or-drop, get_or_past}
use Rattle.std.proofs.lemmas.Slice.{take-put_mid}
use Rattle.std.proofs.lemmas.Nat.{be_bytes_4, from_be_bytes-to_be_bytes_4}
use borrow.Rule.Slice.PartMut.{put_mid}
use Rattle.psb_bytes.specs.Numbers.{AreBytes, u32_bytes, u32_of}
use Rattle.psb_bytes.specs.Tickets.{ref_bytes, ref_of, ticket_bytes, ticket_of}
use Rattle.psb_bytes.specs.declared.ids.Ref.{Ref}
use Rattle.psb_bytes.specs.declared.ids.Ticket.{Ticket}

-- a part that is written at place a
length-put_mid : (a k : ℕ) (xs ys : List ℕ) → a + k ≤ length xs → length ys ≡ k → length (put_mid a k xs ys) ≡ length xs
length-put_mid a k xs ys room long = simp (length-append, length-take, length-drop) (omega arith)

-- what is copied into the k places from a on has their length
copied : (a k : ℕ) (xs ys : List ℕ) → a + k ≤ length xs → length ys ≡ length (take k (drop a xs)) → length ys ≡ k
copied a k xs ys room e = omega (arith, length-take k (drop a xs), length-drop a xs)

-- a name, a handle and a length that were copied in turn into 68 zeros
pub record Copied (name handle len : List ℕ) : Type 0 where
  pub name_long : length name ≡ 32
  pub handle_long : length handle ≡ length (take 32 (drop 32 (name ++ replicate 36 0)))
  pub len_long : length len ≡ length (take 4 (drop 64 (put_mid 32 32 (name ++ replicate 36 0) handle)))

pub handle_copied : (name handle : List ℕ) → length name ≡ 32 → length handle ≡ length (take 32 (drop 32 (name ++ replicate 36 0))) → length handle ≡ 32
handle_copied name handle n h = copied 32 32 (name ++ replicate 36 0) handle (omega (arith, length-append name (replicate 36 0))) h

pub two_copied : (name handle : List ℕ) → length name ≡ 32 → length handle ≡ length (take 32 (drop 32 (name ++ replicate 36 0))) → length (put_mid 32 32 (name ++ replicate 36 0) handle) ≡ 68
two_copied name handle n h =
    let long : length (name ++ replicate 36 0) ≡ 68 = omega (arith, length-append name (replicate 36 0)) in
    length-put_mid 32 32 (name ++ replicate 36 0) handle (omega arith) (handle_copied name handle n h) ∙ long

pub three_copied : (name handle len : List ℕ) → Copied name handle len → put_mid 64 4 (put_mid 32 32 (name ++ replicate 36 0) handle) len ≡ name ++ handle ++ len
three_copied name handle len c =
    let two = put_mid 32 32 (name ++ replicate 36 0) handle in
    let three = put_mid 64 4 two len in
    let two_long : length two ≡ 68 = two_copied name handle c.name_long c.handle_long in
    let handle_32 : length handle ≡ 32 = handle_copied name handle c.name_long c.handle_long in
    let len_4 : length len ≡ 4 = copied 64 4 two len (omega arith) c.len_long in
    let three_long : length three ≡ 68 = length-put_mid 64 4 two len (omega arith) len_4 ∙ two_long in
    let first : take 32 (name ++ replicate 36 0) ≡ name = rw (← c.name_long) (take-append_seam name (replicate 36 0)) in
    let second : take 64 two ≡ name ++ handle = take-put_mid 32 32 (name ++ replicate 36 0) handle 64 (omega arith) (omega (arith, length-append name (replicate 36 0))) ∙ ap (λ x. x ++ handle) first in
    let third : take 68 three ≡ take 64 two ++ len = take-put_mid 64 4 two len 68 (omega arith) (omega arith) in
    sym (rw (← three_long) (take-length three)) ∙ third ∙ ap (λ x. x ++ len) second

-- the ref that is spelled so
pub ref_of-ref_bytes : (r : Ref) → length r.name ≡ 32 → length r.handle ≡ 32 → r.len < 2 ^ 32 → ref_of (ref_bytes r) ≡ r
ref_of-ref_bytes r n h fits =
    let two : length (r.name ++ r.handle) ≡ 64 = length-append r.name r.handle ∙ omega arith in
    let first : take 32 (ref_bytes r) ≡ r.name = rw (← n) (ap (take (length r.name)) (append_assoc r.name r.handle (u32_bytes r.len)) ∙ take-append_seam r.name (r.handle ++ u32_bytes r.len)) in
    let rest : drop 32 (ref_bytes r) ≡ r.handle ++ u32_bytes r.len = rw (← n) (ap (drop (length r.name)) (append_assoc r.name r.handle (u32_bytes r.len)) ∙ drop-append_seam r.name (r.handle ++ u32_bytes r.len)) in
    let second : take 32 (drop 32 (ref_bytes r)) ≡ r.handle = ap (take 32) rest ∙ rw (← h) (take-append_seam r.handle (u32_bytes r.len)) in
    let third : take 4 (drop 64 (ref_bytes r)) ≡ u32_bytes r.len = rw (← two) (ap (take 4) (drop-append_seam (r.name ++ r.handle) (u32_bytes r.len))) in
    let number : u32_of (take 4 (drop 64 (ref_bytes r))) ≡ r.len = ap u32_of third ∙ from_be_bytes-to_be_bytes_4 r.len fits in
    rw (first, second, number) refl

-- ---- a ticket

-- the byte of the levels, behind the ref
pub levels_written : (bytes : List ℕ) (levels : ℕ) → length bytes ≡ 68 → set (bytes ++ 0 ∷ []) 68 levels ≡ bytes ++ levels ∷ []
levels_written bytes levels long = rw (← long) (set-append_seam bytes 0 [] levels)

-- the ref in front of it reads as before
ref_of-append : (bytes rest : List ℕ) → length bytes ≡ 68 → ref_of (bytes ++ rest) ≡ ref_of bytes
ref_of-append bytes rest long =
    let name : take 32 (bytes ++ rest) ≡ take 32 bytes = take-append-le 32 bytes rest (omega arith) in
    let behind : drop 32 (bytes ++ rest) ≡ drop 32 bytes ++ rest = drop-append-le 32 bytes rest (omega arith) in
    let handle : take 32 (drop 32 (bytes ++ rest)) ≡ take 32 (drop 32 bytes) = ap (take 32) behind ∙ take-append-le 32 (drop 32 bytes) rest (omega (arith, length-drop 32 bytes)) in
    let last : drop 64 (bytes ++ rest) ≡ drop 64 bytes ++ rest = drop-append-le 64 bytes rest (omega arith) in
    let len : take 4 (drop 64 (bytes ++ rest)) ≡ take 4 (drop 64 bytes) = ap (take 4) last ∙ take-append-le 4 (drop 64 bytes) rest (omega (arith, length-drop 64 bytes)) in
    rw (name, handle, len) refl

pub ticket_of-ticket_bytes : (t : Ticket) → length (ref_bytes t.reference) ≡ 68 → ref_of (ref_bytes t.reference) ≡ t.reference → ticket_of (ticket_bytes t) ≡ t
ticket_of-ticket_bytes t long back =
    let front : ref_of (ticket_bytes t) ≡ t.reference = ref_of-append (ref_bytes t.reference) (t.levels ∷ []) long ∙ back in
    let levels : get_or (ticket_bytes t) 68 0 ≡ t.levels = rw (← long) (get_or-append_seam (ref_bytes t.reference) t.levels [] 0) in
    rw (front, levels) refl

AreBytes-part : (n k : ℕ) (bytes : List ℕ) → AreBytes bytes → AreBytes (take k (drop n bytes))
AreBytes-part n k bytes ok i =
    elim (cases_lt i k) [
      | inl lt ↦ rw (get_or-take k (drop n bytes) i 0 lt, get_or-drop n bytes i 0) (ok (n + i))
      | inr le ↦ rw (get_or_past (take k (drop n bytes)) i 0 (omega (arith, length-take k (drop n bytes)))) (omega arith)
    ]

-- what is read is written again as the same bytes
pub ticket_bytes-ticket_of : (bytes : List ℕ) → length bytes ≡ 69 → AreBytes bytes → ticket_bytes (ticket_of bytes) ≡ bytes
ticket_bytes-ticket_of bytes long ok =
    let part = take 4 (drop 64 bytes) in
    let part_long : length part ≡ 4 = omega (arith, length-take 4 (drop 64 bytes), length-drop 64 bytes) in
    let number : u32_bytes (u32_of part) ≡ part = be_bytes_4 part (u32_of part) part_long (AreBytes-part 64 4 bytes ok) refl in
    let two : take 64 bytes ≡ take 32 bytes ++ take 32 (drop 32 bytes) = take-add 32 32 bytes in
    let three : take 68 bytes ≡ take 64 bytes ++ part = take-add 64 4 bytes in
    let four : take 69 bytes ≡ take 68 bytes ++ get_or bytes 68 0 ∷ [] = take_more bytes 68 0 (omega arith) in
    let whole : take 69 bytes ≡ bytes = rw (← long) (take-length bytes) in
    rw (number, ← two, ← three, ← four) whole
