-- Each field: what is read is spelled so and fits, and what fits and is spelled so is read.
use Rattle.std.proofs.Common.{◌≡◌, ℕ, zero, suc, ◌+◌, ◌^◌, ◌<◌, Bool, true, false, ◌&&◌, eqb, ltb, List, [], ◌∷◌, ◌++◌, length, take, drop, Option, Some, None, refl, ap, sym, ◌∙◌, subst, inl, inr, append_assoc, length-append, length-take, arith}
use Rattle.std.specs.Prelude.{nat_lt, ◌==◌, flat_map}
use Rattle.std.specs.List.{list_all}
use Rattle.std.proofs.lemmas.Bool.{cases_lt, and_parts, ltb-true, lt-ltb, le-ltb, eqb-true, eq-eqb, ne_eqb}
use Rattle.std.proofs.lemmas.List.{take_at, drop_at, take-append-drop, get_or-drop, get_or-take, get_or_past}
use Rattle.std.proofs.lemmas.List.Concat.{flat_map-cons}
use Rattle.std.proofs.lemmas.Nat.{be_bytes_2, be_bytes_4, be_bytes_8, from_be_bytes-to_be_bytes_2, from_be_bytes-to_be_bytes_4, from_be_bytes-to_be_bytes_8}
use Rattle.psb_bytes.specs.Numbers.{AreBytes, u16_bytes, u32_bytes, u64_bytes, u16_of, u32_of, u64_of}
use Rattle.byte_fields.specs.Fields.{◌>>=◌, are_bytes, is_digest, is_u32, is_object, bytes_at, u8_at, u16_at, u32_at, u64_at, digest_at, object_by, object_at, items_at}
use Rattle.psb_bytes.specs.declared.ids.Object.{Object}
use Rattle.psb_bytes.specs.declared.ids.Object.TheVariants.{Chunk, Slot}
use Rattle.byte_fields.proofs.Found.{bind_some, some_is, bytes_found, u8_found}

-- ---- bytes

pub AreBytes-drop : (n : ℕ) (bytes : List ℕ) → AreBytes bytes → AreBytes (drop n bytes)
AreBytes-drop n bytes h i = rw get_or-drop (h (n + i))

pub AreBytes-take : (n : ℕ) (bytes : List ℕ) → AreBytes bytes → AreBytes (take n bytes)
AreBytes-take n bytes h i =
    elim (cases_lt i n) [
      | inl lt ↦ rw (get_or-take n bytes i 0 lt) (h i)
      | inr le ↦ rw (get_or_past (take n bytes) i 0 (omega (arith, length-take n bytes))) (omega arith)
    ]

pub are_bytes_is : (bytes : List ℕ) → AreBytes bytes → are_bytes bytes ≡ true
are_bytes_is [] h = refl
are_bytes_is (b ∷ bytes) h = rw (lt-ltb b 256 (h 0)) (are_bytes_is bytes (λ i. h (suc i)))

pub and_both : (x y : Bool) → x ≡ true → y ≡ true → (x && y) ≡ true
and_both x y e f = rw (e, f) refl

-- ---- a field

pub record IsField {A : Type 0} (spell : A → List ℕ) (fit : A → Bool) (read : List ℕ → Option (A × List ℕ)) : Type 0 where
  pub takes : (bytes : List ℕ) (x : A) (rest : List ℕ) → AreBytes bytes → read bytes ≡ Some (x, rest) → (bytes ≡ spell x ++ rest) × (fit x ≡ true) × AreBytes rest
  pub again : (x : A) (rest : List ℕ) → fit x ≡ true → read (spell x ++ rest) ≡ Some (x, rest)

-- the same under another test that passes where this one does
pub same_fit : {A : Type 0} (spell : A → List ℕ) (fit other : A → Bool) (read : List ℕ → Option (A × List ℕ)) → ((x : A) → fit x ≡ true → other x ≡ true) → ((x : A) → other x ≡ true → fit x ≡ true) → IsField spell fit read → IsField spell other read
same_fit spell fit other read to back h = record {
  takes = λ bytes x rest ok e. let t = h.takes bytes x rest ok e in (t.0, to x t.1, t.2);
  again = λ x rest e. h.again x rest (back x e);
}

abbrev pub many_bytes : ℕ → List ℕ → Bool
many_bytes n bytes = (length bytes == n) && are_bytes bytes

abbrev pub as_they_are : List ℕ → List ℕ
as_they_are bytes = bytes

pub bytes_again : (n : ℕ) (x rest : List ℕ) → length x ≡ n → bytes_at n (x ++ rest) ≡ Some (x, rest)
unfolding bytes_at
bytes_again n x rest len =
    let long : ltb (length (x ++ rest)) n ≡ false = le-ltb _ _ (omega (arith, length-append x rest, len)) in
    rw (long, take_at x rest n len, drop_at x rest n len) refl

pub bytes_field : (n : ℕ) → IsField as_they_are (many_bytes n) (bytes_at n)
bytes_field n = record {
  takes = λ bytes x rest ok e.
      let t = bytes_found n bytes x rest e in
      let len : length x ≡ n = ap (λ (l : List ℕ). length l) (sym t.1) ∙ omega (arith, length-take n bytes, t.0) in
      let whole : bytes ≡ x ++ rest = rw (← t.1, ← t.2) (sym (take-append-drop n bytes)) in
      let each : AreBytes x = subst AreBytes t.1 (AreBytes-take n bytes ok) in
      (whole, and_both (eqb (length x) n) (are_bytes x) (eq-eqb (length x) n len) (are_bytes_is x each), subst AreBytes t.2 (AreBytes-drop n bytes ok));
  again = λ x rest fit. bytes_again n x rest (eqb-true (length x) n (and_parts (eqb (length x) n) (are_bytes x) fit).0);
}

-- ---- numbers

pub record IsNumber (len limit : ℕ) (bytes_of : ℕ → List ℕ) (number_of : List ℕ → ℕ) : Type 0 where
  pub size : (n : ℕ) → length (bytes_of n) ≡ len
  pub back : (bytes : List ℕ) → length bytes ≡ len → AreBytes bytes → bytes_of (number_of bytes) ≡ bytes
  pub same : (n : ℕ) → n < limit → number_of (bytes_of n) ≡ n
  pub below : (bytes : List ℕ) → AreBytes bytes → number_of bytes < limit

pub u16_number : IsNumber 2 (2 ^ 16) u16_bytes u16_of
u16_number = record {
  size = λ n. refl;
  back = λ bytes len ok. be_bytes_2 bytes _ len ok refl;
  same = λ n lt. from_be_bytes-to_be_bytes_2 n lt;
  below = λ bytes ok. omega (arith, ok 0, ok 1);
}

pub u32_number : IsNumber 4 (2 ^ 32) u32_bytes u32_of
u32_number = record {
  size = λ n. refl;
  back = λ bytes len ok. be_bytes_4 bytes _ len ok refl;
  same = λ n lt. from_be_bytes-to_be_bytes_4 n lt;
  below = λ bytes ok. omega (arith, ok 0, ok 1, ok 2, ok 3);
}

pub u64_number : IsNumber 8 (2 ^ 64) u64_bytes u64_of
u64_number = record {
  size = λ n. refl;
  back = λ bytes len ok. be_bytes_8 bytes _ len ok refl;
  same = λ n lt. from_be_bytes-to_be_bytes_8 n lt;
  below = λ bytes ok. omega (arith, ok 0, ok 1, ok 2, ok 3, ok 4, ok 5, ok 6, ok 7);
}

abbrev pub number_from : ℕ → (List ℕ → ℕ) → List ℕ → Option (ℕ × List ℕ)
number_from len number_of bytes = bytes_at len bytes >>= λ front. Some (number_of front.0, front.1)

number_step : (len limit : ℕ) (bytes_of : ℕ → List ℕ) (number_of : List ℕ → ℕ) → IsNumber len limit bytes_of number_of → (bytes front after : List ℕ) (n : ℕ) (rest : List ℕ) → AreBytes bytes → bytes_at len bytes ≡ Some (front, after) → number_of front ≡ n → after ≡ rest
    → (bytes ≡ bytes_of n ++ rest) × (nat_lt n limit ≡ true) × AreBytes rest
number_step len limit bytes_of number_of h bytes front after n rest ok e is-n is-rest =
    let t = bytes_found len bytes front after e in
    let f = (bytes_field len).takes bytes front after ok e in
    let each : AreBytes front = subst AreBytes t.1 (AreBytes-take len bytes ok) in
    let size : length front ≡ len = ap (λ (l : List ℕ). length l) (sym t.1) ∙ omega (arith, length-take len bytes, t.0) in
    let spelled : bytes_of n ≡ front = ap bytes_of (sym is-n) ∙ h.back front size each in
    (f.0 ∙ rw (spelled, is-rest) refl, subst (λ (m : ℕ). ltb m limit ≡ true) is-n (lt-ltb _ _ (h.below front each)), subst AreBytes is-rest f.2)

number_field : (len limit : ℕ) (bytes_of : ℕ → List ℕ) (number_of : List ℕ → ℕ) → IsNumber len limit bytes_of number_of → IsField bytes_of (λ n. nat_lt n limit) (number_from len number_of)
number_field len limit bytes_of number_of h = record {
  takes = λ bytes n rest ok e.
      let b = bind_some (bytes_at len bytes) (λ front. Some (number_of front.0, front.1)) (n, rest) e in
      let p = some_is (number_of b.0.0, b.0.1) (n, rest) b.2 in
      number_step len limit bytes_of number_of h bytes b.0.0 b.0.1 n rest ok b.1 (ap (λ (x : ℕ × List ℕ). x.0) p) (ap (λ (x : ℕ × List ℕ). x.1) p);
  again = λ n rest fit. rw (bytes_again len (bytes_of n) rest (h.size n), h.same n (ltb-true n limit fit)) refl;
}

pub u16_field : IsField u16_bytes (λ n. nat_lt n (2 ^ 16)) u16_at
unfolding u16_at
u16_field = number_field 2 (2 ^ 16) u16_bytes u16_of u16_number

pub u32_field : IsField u32_bytes is_u32 u32_at
unfolding u32_at
u32_field = number_field 4 (2 ^ 32) u32_bytes u32_of u32_number

pub u64_field : IsField u64_bytes (λ n. nat_lt n (2 ^ 64)) u64_at
unfolding u64_at
u64_field = number_field 8 (2 ^ 64) u64_bytes u64_of u64_number

abbrev pub one_byte : ℕ → List ℕ
one_byte b = b ∷ []

pub u8_field : IsField one_byte (λ b. nat_lt b 256) u8_at
unfolding u8_at
u8_field = record {
  takes = λ bytes b rest ok e.
      let whole = u8_found bytes b rest e in
      let ok' : AreBytes (b ∷ rest) = subst AreBytes whole ok in
      (whole, lt-ltb b 256 (ok' 0), λ i. ok' (suc i));
  again = λ b rest fit. refl;
}

pub digest_field : IsField as_they_are is_digest digest_at
unfolding digest_at
digest_field = bytes_field 32

pub digest_again : (x rest : List ℕ) → length x ≡ 32 → digest_at (x ++ rest) ≡ Some (x, rest)
unfolding digest_at
digest_again x rest len = bytes_again 32 x rest len

-- ---- objects

-- 0 and a name, or 1 and a slot
abbrev pub object_spelled : Object → List ℕ
object_spelled (Chunk name) = 0 ∷ name
object_spelled (Slot slot) = 1 ∷ u32_bytes slot

object_step : (kind : ℕ) (bytes : List ℕ) (o : Object) (rest : List ℕ) → AreBytes bytes → object_by kind bytes ≡ Some (o, rest) → (kind ∷ bytes ≡ object_spelled o ++ rest) × (is_object o ≡ true) × AreBytes rest
unfolding object_by
object_step zero bytes o rest ok e =
    let b = bind_some (bytes_at 32 bytes) (λ name. Some (Chunk name.0, name.1)) (o, rest) e in
    let t = (bytes_field 32).takes bytes b.0.0 b.0.1 ok b.1 in
    subst (λ (x : Object × List ℕ). (0 ∷ bytes ≡ object_spelled x.0 ++ x.1) × (is_object x.0 ≡ true) × AreBytes x.1) (some_is (Chunk b.0.0, b.0.1) (o, rest) b.2) (ap (λ (l : List ℕ). 0 ∷ l) t.0, t.1, t.2)
object_step (suc zero) bytes o rest ok e =
    let b = bind_some (u32_at bytes) (λ slot. Some (Slot slot.0, slot.1)) (o, rest) e in
    let t = u32_field.takes bytes b.0.0 b.0.1 ok b.1 in
    subst (λ (x : Object × List ℕ). (1 ∷ bytes ≡ object_spelled x.0 ++ x.1) × (is_object x.0 ≡ true) × AreBytes x.1) (some_is (Slot b.0.0, b.0.1) (o, rest) b.2) (ap (λ (l : List ℕ). 1 ∷ l) t.0, t.1, t.2)
object_step (suc (suc kind)) bytes o rest ok e =
    let no_chunk : eqb (suc (suc kind)) 0 ≡ false = ne_eqb (suc (suc kind)) 0 (λ h. absurd (omega arith)) in
    let no_slot : eqb (suc (suc kind)) 1 ≡ false = ne_eqb (suc (suc kind)) 1 (λ h. absurd (omega arith)) in
    let none : object_by (suc (suc kind)) bytes ≡ None = rw (no_chunk, no_slot) refl in
    absurd cc

pub object_field : IsField object_spelled is_object object_at
unfolding object_at object_by u8_at
object_field = record {
  takes = λ bytes o rest ok e.
      let b = bind_some (u8_at bytes) (λ kind. object_by kind.0 kind.1) (o, rest) e in
      let t = u8_field.takes bytes b.0.0 b.0.1 ok b.1 in
      let s = object_step b.0.0 b.0.1 o rest t.2 b.2 in
      (t.0 ∙ s.0, s.1, s.2);
  again = spelled;
}
  where
    spelled : (o : Object) (rest : List ℕ) → is_object o ≡ true → object_at (object_spelled o ++ rest) ≡ Some (o, rest)
    spelled (Chunk name) rest fit = rw ((bytes_field 32).again name rest fit) refl
    spelled (Slot slot) rest fit = rw (u32_field.again slot rest fit) refl

-- ---- many items, one after another

items_take : {A : Type 0} (spell : A → List ℕ) (fit : A → Bool) (read : List ℕ → Option (A × List ℕ)) → IsField spell fit read → (n : ℕ) (bytes : List ℕ) (xs : List A) (rest : List ℕ) → AreBytes bytes → items_at read n bytes ≡ Some (xs, rest)
    → (bytes ≡ flat_map spell xs ++ rest) × (length xs ≡ n) × (list_all fit xs ≡ true) × AreBytes rest
unfolding items_at
items_take {A} spell fit read h zero bytes xs rest ok e =
    subst (λ (x : List A × List ℕ). (bytes ≡ flat_map spell x.0 ++ x.1) × (length x.0 ≡ 0) × (list_all fit x.0 ≡ true) × AreBytes x.1) (some_is ([], bytes) (xs, rest) e) (refl, refl, refl, ok)
items_take {A} spell fit read h (suc n) bytes xs rest ok e =
    let b = bind_some (read bytes) (λ first. items_at read n first.1 >>= λ others. Some (first.0 ∷ others.0, others.1)) (xs, rest) e in
    let c = bind_some (items_at read n b.0.1) (λ others. Some (b.0.0 ∷ others.0, others.1)) (xs, rest) b.2 in
    let first = h.takes bytes b.0.0 b.0.1 ok b.1 in
    let others = items_take spell fit read h n b.0.1 c.0.0 c.0.1 first.2 c.1 in
    let whole : bytes ≡ flat_map spell (b.0.0 ∷ c.0.0) ++ c.0.1 = joined bytes b.0.1 c.0.1 b.0.0 c.0.0 first.0 others.0 in
    let len : length (b.0.0 ∷ c.0.0) ≡ suc n = ap suc others.1 in
    subst (λ (x : List A × List ℕ). (bytes ≡ flat_map spell x.0 ++ x.1) × (length x.0 ≡ suc n) × (list_all fit x.0 ≡ true) × AreBytes x.1) (some_is (b.0.0 ∷ c.0.0, c.0.1) (xs, rest) c.2) (whole, len, and_both _ _ first.1 others.2, others.3)
  where
    joined : (bytes tail rest : List ℕ) (x : A) (xs : List A) → bytes ≡ spell x ++ tail → tail ≡ flat_map spell xs ++ rest → bytes ≡ flat_map spell (x ∷ xs) ++ rest
    joined bytes tail rest x xs first others = first ∙ rw (others, flat_map-cons spell x xs) (sym (append_assoc (spell x) (flat_map spell xs) rest))

items_again : {A : Type 0} (spell : A → List ℕ) (fit : A → Bool) (read : List ℕ → Option (A × List ℕ)) → IsField spell fit read → (xs : List A) (rest : List ℕ) → list_all fit xs ≡ true → items_at read (length xs) (flat_map spell xs ++ rest) ≡ Some (xs, rest)
unfolding items_at
items_again spell fit read h [] rest e = refl
items_again spell fit read h (x ∷ xs) rest e =
    let p = and_parts (fit x) (list_all fit xs) e in
    let whole : flat_map spell (x ∷ xs) ++ rest ≡ spell x ++ (flat_map spell xs ++ rest) = ap (λ (l : List ℕ). l ++ rest) (flat_map-cons spell x xs) ∙ append_assoc (spell x) (flat_map spell xs) rest in
    rw (whole, h.again x (flat_map spell xs ++ rest) p.0, items_again spell fit read h xs rest p.1) refl

-- as many as a number in front of them says
pub counted_field : {A : Type 0} (spell : A → List ℕ) (fit : A → Bool) (read : List ℕ → Option (A × List ℕ)) → IsField spell fit read → IsField (λ xs. u32_bytes (length xs) ++ flat_map spell xs) (λ xs. is_u32 (length xs) && list_all fit xs) (λ bytes. u32_at bytes >>= λ n. items_at read n.0 n.1)
counted_field spell fit read h = record {
  takes = λ bytes xs rest ok e.
      let b = bind_some (u32_at bytes) (λ n. items_at read n.0 n.1) (xs, rest) e in
      let n = u32_field.takes bytes b.0.0 b.0.1 ok b.1 in
      let t = items_take spell fit read h b.0.0 b.0.1 xs rest n.2 b.2 in
      (n.0 ∙ rw (t.0, ← t.1) (sym (append_assoc (u32_bytes (length xs)) (flat_map spell xs) rest)), rw t.1 (and_both _ _ n.1 t.2), t.3);
  again = λ xs rest e.
      let p = and_parts (is_u32 (length xs)) (list_all fit xs) e in
      rw (append_assoc (u32_bytes (length xs)) (flat_map spell xs) rest, u32_field.again (length xs) (flat_map spell xs ++ rest) p.0) (items_again spell fit read h xs rest p.1);
}
