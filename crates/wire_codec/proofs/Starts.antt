-- Objects of two sizes, one after another: where each begins.
use Rattle.std.proofs.Common.{◌≡◌, ℕ, false, zero, suc, ◌+◌, ◌-◌, ◌<◌, ◌≤◌, List, [], ◌∷◌, ◌++◌, length, set, take, drop, Option, Some, None, refl, ap, sym, ◌∙◌, subst, inl, inr, append_assoc, length-append, length-drop, arith}
use Rattle.std.specs.Prelude.{slice_get, slice_index, option_map, IsSome, is_some}
use Rattle.std.proofs.lemmas.Bool.{cases_lt}
use Rattle.std.proofs.lemmas.List.{drop-drop, append-nil, get_or-set_same, get_or-set_other, length-set, take_all}
use Rattle.psb_bytes.specs.declared.ids.Object.{Object}
use Rattle.psb_bytes.specs.declared.ids.Object.TheVariants.{Chunk, Slot}
use Rattle.wire_codec.specs.declared.limits.TheConstants.{DIGEST_BYTES, MOST_OBJECTS}
use Rattle.wire_codec.specs.Fields.{◌>>=◌, Gives, bytes_at, u8_at, u32_at, object_by, object_at, objects_from, objects_in, object_in, objects_at, count_at, AreStarts}
use Rattle.byte_fields.proofs.Found.{bytes_found, u8_found, u32_found}

-- one object

pub chunk_found : (bytes rest name after : List ℕ) → u8_at bytes ≡ Some (0, rest) → bytes_at DIGEST_BYTES rest ≡ Some (name, after) → (1 + DIGEST_BYTES ≤ length bytes) × (object_at bytes ≡ Some (Chunk name, drop (1 + DIGEST_BYTES) bytes))
unfolding object_at object_by
chunk_found bytes rest name after h e =
    let whole = u8_found bytes 0 rest h in
    let t = bytes_found DIGEST_BYTES rest name after e in
    let size : length bytes ≡ suc (length rest) = ap length whole in
    let last : drop (1 + DIGEST_BYTES) bytes ≡ after = rw whole t.2 in
    (omega (arith, t.0), rw (h, e, last) refl)

pub slot_found : (bytes rest : List ℕ) (slot : ℕ) (after : List ℕ) → u8_at bytes ≡ Some (1, rest) → u32_at rest ≡ Some (slot, after) → (5 ≤ length bytes) × (object_at bytes ≡ Some (Slot slot, drop 5 bytes))
unfolding object_at object_by
slot_found bytes rest slot after h e =
    let whole = u8_found bytes 1 rest h in
    let t = u32_found rest slot after e in
    let size : length bytes ≡ suc (length rest) = ap length whole in
    let last : drop 5 bytes ≡ after = rw whole t.2 in
    (omega (arith, t.0), rw (h, e, last) refl)

-- many, as a loop reads them

-- what was read before, and what is still read
abbrev pub with_front : List Object → Option (List Object × List ℕ) → Option (List Object × List ℕ)
with_front front read = read >>= λ x. Some (front ++ x.0, x.1)

-- after j of n objects, up to a place
pub record IsReadTo (n j place : ℕ) (bytes starts : List ℕ) : Type 0 where
  pub front : List Object
  pub len : length front ≡ j
  pub room : length starts ≡ MOST_OBJECTS
  pub before : place ≤ length bytes
  pub so_far : with_front front (objects_from (n - j) (drop place bytes)) ≡ objects_from n bytes
  pub inside : (i : ℕ) → i < j → slice_index starts i ≤ length bytes
  pub each : (i : ℕ) → i < j → object_in (drop (slice_index starts i) bytes) ≡ slice_get front i

regroup : (front : List Object) (o : Object) (read : Option (List Object × List ℕ)) → with_front front (read >>= λ x. Some (o ∷ x.0, x.1)) ≡ with_front (front ++ o ∷ []) read
regroup front o (Some x) = ap (λ (l : List Object). Some (l, x.1)) (simp append_assoc)
regroup front o None = refl

with_nil : (read : Option (List Object × List ℕ)) → with_front [] read ≡ read
with_nil (Some x) = refl
with_nil None = refl

slice_get_left : (xs ys : List Object) (i : ℕ) → i < length xs → slice_get (xs ++ ys) i ≡ slice_get xs i
slice_get_left [] ys i lt = absurd (omega (arith, lt))
slice_get_left (x ∷ xs) ys zero lt = refl
slice_get_left (x ∷ xs) ys (suc i) lt = slice_get_left xs ys i (omega (arith, lt))

slice_get_push : (xs : List Object) (x : Object) → slice_get (xs ++ x ∷ []) (length xs) ≡ Some x
slice_get_push [] x = refl
slice_get_push (y ∷ xs) x = slice_get_push xs x

pub begins : (n : ℕ) (bytes starts : List ℕ) → length starts ≡ MOST_OBJECTS → IsReadTo n 0 0 bytes starts
begins n bytes starts room = record {
  room = room;
  front = [];
  len = refl;
  before = omega arith;
  so_far = let e : n - 0 ≡ n = omega arith in rw e (with_nil (objects_from n bytes));
  inside = λ i lt. absurd (omega (arith, lt));
  each = λ i lt. absurd (omega (arith, lt));
}

-- what a slice from a place on is
abbrev pub from_place : ℕ → List ℕ → List ℕ
from_place place bytes = take (length bytes - place) (drop place bytes)

pub from_place_is : (place : ℕ) (bytes : List ℕ) → from_place place bytes ≡ drop place bytes
from_place_is place bytes = take_all (length bytes - place) (drop place bytes) (omega (arith, length-drop place bytes))

pub goes_on : (n j place len : ℕ) (bytes starts : List ℕ) (o : Object) → j < n → n ≤ MOST_OBJECTS → len ≤ length (from_place place bytes) → object_at (from_place place bytes) ≡ Some (o, drop len (from_place place bytes)) → IsReadTo n j place bytes starts → IsReadTo n (j + 1) (place + len) bytes (set starts j place)
unfolding objects_from
goes_on n j place len bytes starts o lt few fits' found' h =
    let fits : len ≤ length (drop place bytes) = subst (λ (l : List ℕ). len ≤ length l) (from_place_is place bytes) fits' in
    let found : object_at (drop place bytes) ≡ Some (o, drop len (drop place bytes)) = subst (λ (l : List ℕ). object_at l ≡ Some (o, drop len l)) (from_place_is place bytes) found' in
    let room : j < length starts = omega (arith, h.room, few, lt) in
    let k : n - j ≡ suc (n - (j + 1)) = omega arith in
    let next : drop len (drop place bytes) ≡ drop (place + len) bytes = drop-drop len place bytes in
    let one : with_front h.front (objects_from (n - j) (drop place bytes)) ≡ with_front (h.front ++ o ∷ []) (objects_from (n - (j + 1)) (drop (place + len) bytes)) = rw (k, found, next) (regroup h.front o (objects_from (n - (j + 1)) (drop (place + len) bytes))) in
    let here : object_in (drop place bytes) ≡ Some o = rw found refl in
    record {
      front = h.front ++ o ∷ [];
      len = length-append h.front (o ∷ []) ∙ omega (arith, h.len);
      room = length-set starts j place ∙ h.room;
      before = omega (arith, h.before, length-drop place bytes);
      so_far = sym one ∙ h.so_far;
      inside = λ i below. elim (cases_lt i j) [
        | inl less ↦ rw (get_or-set_other starts j i place 0 (λ e. absurd (omega arith))) (h.inside i less)
        | inr more ↦ let e : i ≡ j = omega arith in rw (e, get_or-set_same starts j place 0 room) h.before
      ];
      each = λ i below. elim (cases_lt i j) [
        | inl less ↦ rw (get_or-set_other starts j i place 0 (λ e. absurd (omega arith))) (h.each i less ∙ sym (slice_get_left h.front (o ∷ []) i (omega (arith, h.len))))
        | inr more ↦ let e : i ≡ length h.front = omega (arith, h.len) in let f : i ≡ j = omega arith in rw (f, get_or-set_same starts j place 0 room) (here ∙ sym (subst (λ (m : ℕ). slice_get (h.front ++ o ∷ []) m ≡ Some o) (h.len) (slice_get_push h.front o)))
      ];
    }

pub fails : (n j place : ℕ) (bytes starts : List ℕ) → j < n → object_at (from_place place bytes) ≡ None → IsReadTo n j place bytes starts → objects_from n bytes ≡ None
unfolding objects_from
fails n j place bytes starts lt none' h =
    let none : object_at (drop place bytes) ≡ None = subst (λ (l : List ℕ). object_at l ≡ None) (from_place_is place bytes) none' in
    let k : n - j ≡ suc (n - (j + 1)) = omega arith in
    let one : with_front h.front (objects_from (n - j) (drop place bytes)) ≡ None = rw (k, none) refl in
    sym h.so_far ∙ one

pub all_read : (n place : ℕ) (bytes starts : List ℕ) (h : IsReadTo n n place bytes starts) → (objects_from n bytes ≡ Some (h.front, drop place bytes)) × (objects_in n bytes ≡ h.front)
unfolding objects_from
all_read n place bytes starts h =
    let k : n - n ≡ 0 = omega arith in
    let one : with_front h.front (objects_from (n - n) (drop place bytes)) ≡ Some (h.front, drop place bytes) = rw k (ap (λ (l : List Object). Some (l, drop place bytes)) (append-nil h.front)) in
    let e = sym h.so_far ∙ one in
    (e, rw e refl)

pub are_starts : (n j place : ℕ) (bytes starts : List ℕ) → n ≤ MOST_OBJECTS → n ≤ j → j ≤ n → IsReadTo n j place bytes starts → AreStarts n bytes starts
are_starts n j place bytes starts few low high h' =
    let h : IsReadTo n n place bytes starts = let e : j ≡ n = omega arith in subst (λ (k : ℕ). IsReadTo n k place bytes starts) e h' in
    let a = all_read n place bytes starts h in
    record {
      all = rw a.1 h.len;
      few = few;
      room = h.room;
      inside = h.inside;
      each = λ j lt. h.each j lt ∙ ap (λ (l : List Object). slice_get l j) (sym a.1);
    }

-- the whole field: a count and that many objects
pub ends : (n j place : ℕ) (bytes whole starts : List ℕ) → count_at 1 MOST_OBJECTS whole ≡ Some (n, bytes) → n ≤ j → j ≤ n → IsReadTo n j place bytes starts → objects_at whole ≡ Some (objects_in n bytes, from_place place bytes)
unfolding objects_at
ends n j place bytes whole starts counted low high h' =
    let h : IsReadTo n n place bytes starts = let e : j ≡ n = omega arith in subst (λ (k : ℕ). IsReadTo n k place bytes starts) e h' in
    let a = all_read n place bytes starts h in
    rw (counted, from_place_is place bytes) (a.0 ∙ ap (λ (l : List Object). Some (l, drop place bytes)) (sym a.1))

pub stops : (n j place : ℕ) (bytes whole starts : List ℕ) → count_at 1 MOST_OBJECTS whole ≡ Some (n, bytes) → j < n → object_at (from_place place bytes) ≡ None → IsReadTo n j place bytes starts → objects_at whole ≡ None
unfolding objects_at
stops n j place bytes whole starts counted lt none h = rw counted (fails n j place bytes starts lt none h)

-- ---- the object at a place

abbrev pub IsRead : ℕ → List ℕ → Option (Object × ℕ) → Type 0
IsRead place bytes r = Gives (λ x. (x.0, drop x.1 (from_place place bytes))) r (object_at (from_place place bytes))

read_is : (place : ℕ) (bytes : List ℕ) (r : Option (Object × ℕ)) → IsRead place bytes r → object_in (drop place bytes) ≡ option_map (λ x. x.0) r
read_is place bytes None e = ap object_in (sym (from_place_is place bytes)) ∙ rw e refl
read_is place bytes (Some x) e = ap object_in (sym (from_place_is place bytes)) ∙ rw e refl

pub read_some : (place : ℕ) (bytes : List ℕ) (r : Option (Object × ℕ)) → IsRead place bytes r → IsSome (object_in (drop place bytes)) → IsSome r
read_some place bytes None e there = let h : is_some (object_in (drop place bytes)) ≡ false = ap is_some (read_is place bytes None e) in absurd cc
read_some place bytes (Some x) e there = refl

pub read_gives : (place : ℕ) (bytes : List ℕ) (r : Option (Object × ℕ)) (x : Object × ℕ) → IsRead place bytes r → r ≡ Some x → object_in (drop place bytes) ≡ Some x.0
read_gives place bytes r x e same = read_is place bytes r e ∙ rw same refl

pub object_there : (n : ℕ) (bytes starts : List ℕ) (j : ℕ) (objects : List Object) → objects_in n bytes ≡ objects → j < length objects → AreStarts n bytes starts
    → (j < length starts) × (slice_index starts j ≤ length bytes) × (object_in (drop (slice_index starts j) bytes) ≡ slice_get objects j) × IsSome (slice_get objects j)
object_there n bytes starts j objects view lt h =
    let below : j < n = subst (λ (k : ℕ). j < k) (ap length (sym view) ∙ h.all) lt in
    (omega (arith, below, h.few, h.room), h.inside j below, h.each j below ∙ ap (λ (l : List Object). slice_get l j) view, there objects j lt)
  where
    there : (l : List Object) (k : ℕ) → k < length l → IsSome (slice_get l k)
    there [] k lt = absurd (omega (arith, lt))
    there (o ∷ l) zero lt = refl
    there (o ∷ l) (suc k) lt = there l k (omega (arith, lt))
