-- The lists of a body, and its sealed bytes: what is read is spelled so, and what is spelled so is read.
use Rattle.std.proofs.Common.{◌≡◌, ℕ, zero, suc, ◌+◌, ◌^◌, Bool, true, ◌&&◌, cond, List, [], ◌∷◌, ◌++◌, length, map, take, drop, Some, None, refl, ap, sym, ◌∙◌, subst, append_assoc, length-take, length-drop, arith}
use Rattle.std.specs.Prelude.{nat_lt, ◌==◌, flat_map}
use Rattle.std.specs.List.{list_all}
use Rattle.std.proofs.lemmas.Bool.{and_parts, ltb-true, lt-ltb, eqb-true, eq-eqb}
use Rattle.std.proofs.lemmas.List.{take-append-drop}
use Rattle.std.proofs.lemmas.List.Concat.{flat_map-cons}
use Rattle.psb_bytes.specs.Numbers.{AreBytes, u16_bytes, u32_bytes, u16_of, u32_of}
use Rattle.psb_bytes.specs.declared.ids.Object.{Object}
use Rattle.wire_codec.specs.declared.limits.TheConstants.{DIGEST_BYTES, CLAIM_BYTES, MOST_SLOTS, MOST_OBJECTS, MOST_BYTES}
use Rattle.wire_codec.specs.Fields.{◌>>=◌, text_bytes, claim_bytes, object_bytes, slots_bytes, claims_bytes, places_bytes, objects_bytes, names_bytes, are_bytes, ascends, within, is_digest, is_u32, is_claim, is_object, are_slots, are_claims, are_places, are_objects, are_names, is_text, bytes_at, u32_at, claim_of, count_at, slots_at, claims_at, places_at, names_at, object_at, objects_from, objects_at, text_at}
use Rattle.byte_fields.proofs.Found.{bind_some, then_some, some_is}
use Rattle.byte_fields.proofs.FieldLaws.{object_field, IsField, same_fit, as_they_are, many_bytes, bytes_field, bytes_again, u32_field, u16_number, u32_number, AreBytes-take, AreBytes-drop, are_bytes_is, and_both}
use Rattle.wire_codec.proofs.FieldLaws.{IsCell, list_field, list_fits, count_field, within_most}

pub slot_cell : IsCell 4 u32_of u32_bytes is_u32
slot_cell = record {
  back = λ c len ok. (u32_number.back c len ok, lt-ltb _ _ (u32_number.below c ok));
  same = λ n fit. (refl, u32_number.same n (ltb-true n (2 ^ 32) fit));
}

pub slots_field : (least : ℕ) → IsField slots_bytes (are_slots least) (slots_at least)
unfolding slots_at
slots_field least = list_field 4 u32_of u32_bytes is_u32 slot_cell ascends least MOST_SLOTS (omega arith)

pub claim_cell : IsCell (4 + CLAIM_BYTES) claim_of claim_bytes is_claim
claim_cell = record {
  back = λ c len ok.
      let front : length (take 4 c) ≡ 4 = omega (arith, length-take 4 c, len) in
      let rest : length (drop 4 c) ≡ CLAIM_BYTES = omega (arith, length-drop 4 c, len) in
      let slot = slot_cell.back (take 4 c) front (AreBytes-take 4 c ok) in
      (ap (λ (l : List ℕ). l ++ drop 4 c) slot.0 ∙ take-append-drop 4 c, and_both _ _ slot.1 (and_both _ _ (eq-eqb _ _ rest) (are_bytes_is (drop 4 c) (AreBytes-drop 4 c ok))));
  same = λ claim fit.
      let p = and_parts (is_u32 claim.slot) (many_bytes CLAIM_BYTES claim.bytes) fit in
      let q = and_parts (length claim.bytes == CLAIM_BYTES) (are_bytes claim.bytes) p.1 in
      let slot = slot_cell.same claim.slot p.0 in
      (omega (arith, eqb-true (length claim.bytes) CLAIM_BYTES q.0), rw slot.1 refl);
}

pub claims_field : (least : ℕ) → IsField claims_bytes (are_claims least) (claims_at least)
unfolding claims_at
claims_field least = list_field (4 + CLAIM_BYTES) claim_of claim_bytes is_claim claim_cell (λ claims. ascends (map (λ c. c.slot) claims)) least MOST_SLOTS (omega arith)

-- ---- places

abbrev pub is_u16 : ℕ → Bool
is_u16 n = nat_lt n (2 ^ 16)

abbrev pub is_place : ℕ → Bool
is_place n = nat_lt n MOST_OBJECTS

pub place_cell : IsCell 2 u16_of u16_bytes is_u16
place_cell = record {
  back = λ c len ok. (u16_number.back c len ok, lt-ltb _ _ (u16_number.below c ok));
  same = λ n fit. (refl, u16_number.same n (ltb-true n (2 ^ 16) fit));
}

pub places_small : (places : List ℕ) → list_all is_place places ≡ true → list_all is_u16 places ≡ true
places_small [] e = refl
places_small (p ∷ places) e =
    let h = and_parts (is_place p) (list_all is_place places) e in
    and_both _ _ (lt-ltb p (2 ^ 16) (omega (arith, ltb-true p MOST_OBJECTS h.0))) (places_small places h.1)

abbrev places_pass : List ℕ → Bool
places_pass places = list_all is_place places && ascends places

pub places_field : IsField places_bytes are_places places_at
unfolding places_at
places_field = same_fit places_bytes (list_fits is_u16 places_pass 1 MOST_OBJECTS) are_places _
    (λ places e.
    let h = and_parts (within 1 MOST_OBJECTS (length places)) (list_all is_u16 places && places_pass places) e in
    and_both _ _ h.0 (and_parts (list_all is_u16 places) (places_pass places) h.1).1)
    (λ places e.
    let h = and_parts (within 1 MOST_OBJECTS (length places)) (places_pass places) e in
    let k = and_parts (list_all is_place places) (ascends places) h.1 in
    and_both _ _ h.0 (and_both _ _ (places_small places k.0) h.1))
    (list_field 2 u16_of u16_bytes is_u16 place_cell places_pass 1 MOST_OBJECTS (omega arith))

-- ---- names

pub name_cell : IsCell DIGEST_BYTES as_they_are as_they_are is_digest
name_cell = record {
  back = λ c len ok. (refl, and_both _ _ (eq-eqb _ _ len) (are_bytes_is c ok));
  same = λ name fit. (eqb-true (length name) DIGEST_BYTES (and_parts (length name == DIGEST_BYTES) (are_bytes name) fit).0, refl);
}

abbrev any_names : List (List ℕ) → Bool
any_names names = true

pub names_field : IsField names_bytes are_names names_at
unfolding names_at
names_field = same_fit names_bytes (list_fits is_digest any_names 1 MOST_OBJECTS) are_names _
    (λ names e.
    let h = and_parts (within 1 MOST_OBJECTS (length names)) (list_all is_digest names && true) e in
    and_both _ _ h.0 (and_parts (list_all is_digest names) true h.1).0)
    (λ names e.
    let h = and_parts (within 1 MOST_OBJECTS (length names)) (list_all is_digest names) e in
    and_both _ _ h.0 (and_both _ _ h.1 refl))
    (list_field DIGEST_BYTES as_they_are as_they_are is_digest name_cell any_names 1 MOST_OBJECTS (omega arith))

-- ---- sealed bytes

pub text_field : (least : ℕ) → IsField text_bytes (is_text least) (text_at least)
unfolding text_at
text_field least = record {
  takes = λ bytes x rest ok e.
      let b = bind_some (u32_at bytes) (λ len. cond (within least MOST_BYTES len.0) (bytes_at len.0 len.1) None) (x, rest) e in
      let g = then_some (within least MOST_BYTES b.0.0) (bytes_at b.0.0 b.0.1) (x, rest) b.2 in
      let len = u32_field.takes bytes b.0.0 b.0.1 ok b.1 in
      let text = (bytes_field b.0.0).takes b.0.1 x rest len.2 g.1 in
      text_step least bytes b.0.1 x rest b.0.0 len.0 g.0 text.0 text.1 text.2;
  again = λ x rest fit.
      let p = and_parts (within least MOST_BYTES (length x)) (are_bytes x) fit in
      let small : is_u32 (length x) ≡ true = lt-ltb _ _ (omega (arith, within_most least MOST_BYTES (length x) p.0)) in
      rw (append_assoc (u32_bytes (length x)) x rest, u32_field.again (length x) (x ++ rest) small, p.0) (bytes_again (length x) x rest refl);
}
  where
    text_step : (least : ℕ) (bytes tail x rest : List ℕ) (n : ℕ) → bytes ≡ u32_bytes n ++ tail → within least MOST_BYTES n ≡ true → tail ≡ x ++ rest → many_bytes n x ≡ true → AreBytes rest → (bytes ≡ text_bytes x ++ rest) × (is_text least x ≡ true) × AreBytes rest
    text_step least bytes tail x rest n whole counted after each ok =
        let p = and_parts (length x == n) (are_bytes x) each in
        let len : length x ≡ n = eqb-true (length x) n p.0 in
        (whole ∙ rw (after, len) (sym (append_assoc (u32_bytes n) x rest)), rw (len, counted, p.1) refl, ok)

-- ---- objects

objects_take : (n : ℕ) (bytes : List ℕ) (os : List Object) (rest : List ℕ) → AreBytes bytes → objects_from n bytes ≡ Some (os, rest)
    → (bytes ≡ flat_map object_bytes os ++ rest) × (length os ≡ n) × (list_all is_object os ≡ true) × AreBytes rest
unfolding objects_from
objects_take zero bytes os rest ok e =
    let whole : (l : List Object) → l ≡ [] → bytes ≡ flat_map object_bytes l ++ bytes = λ l h. rw h refl in
    subst (λ (x : List Object × List ℕ). (bytes ≡ flat_map object_bytes x.0 ++ x.1) × (length x.0 ≡ 0) × (list_all is_object x.0 ≡ true) × AreBytes x.1) (some_is ([], bytes) (os, rest) e) (refl, refl, refl, ok)
objects_take (suc n) bytes os rest ok e =
    let b = bind_some (object_at bytes) (λ first. objects_from n first.1 >>= λ others. Some (first.0 ∷ others.0, others.1)) (os, rest) e in
    let c = bind_some (objects_from n b.0.1) (λ others. Some (b.0.0 ∷ others.0, others.1)) (os, rest) b.2 in
    let first = object_field.takes bytes b.0.0 b.0.1 ok b.1 in
    let others = objects_take n b.0.1 c.0.0 c.0.1 first.2 c.1 in
    let whole : bytes ≡ flat_map object_bytes (b.0.0 ∷ c.0.0) ++ c.0.1 = joined bytes b.0.1 c.0.1 b.0.0 c.0.0 first.0 others.0 in
    let len : length (b.0.0 ∷ c.0.0) ≡ suc n = ap suc others.1 in
    subst (λ (x : List Object × List ℕ). (bytes ≡ flat_map object_bytes x.0 ++ x.1) × (length x.0 ≡ suc n) × (list_all is_object x.0 ≡ true) × AreBytes x.1) (some_is (b.0.0 ∷ c.0.0, c.0.1) (os, rest) c.2) (whole, len, and_both _ _ first.1 others.2, others.3)
  where
    joined : (bytes tail rest : List ℕ) (o : Object) (os : List Object) → bytes ≡ object_bytes o ++ tail → tail ≡ flat_map object_bytes os ++ rest → bytes ≡ flat_map object_bytes (o ∷ os) ++ rest
    joined bytes tail rest o os first others = first ∙ rw (others, flat_map-cons object_bytes o os) (sym (append_assoc (object_bytes o) (flat_map object_bytes os) rest))

objects_again : (os : List Object) (rest : List ℕ) → list_all is_object os ≡ true → objects_from (length os) (flat_map object_bytes os ++ rest) ≡ Some (os, rest)
unfolding objects_from
objects_again [] rest fit = refl
objects_again (o ∷ os) rest fit =
    let p = and_parts (is_object o) (list_all is_object os) fit in
    let whole : flat_map object_bytes (o ∷ os) ++ rest ≡ object_bytes o ++ (flat_map object_bytes os ++ rest) = ap (λ (l : List ℕ). l ++ rest) (flat_map-cons object_bytes o os) ∙ append_assoc (object_bytes o) (flat_map object_bytes os) rest in
    rw (whole, object_field.again o (flat_map object_bytes os ++ rest) p.0, objects_again os rest p.1) refl

pub objects_field : IsField objects_bytes are_objects objects_at
unfolding objects_at
objects_field = record {
  takes = λ bytes os rest ok e.
      let b = bind_some (count_at 1 MOST_OBJECTS bytes) (λ n. objects_from n.0 n.1) (os, rest) e in
      let counted = (count_field 1 MOST_OBJECTS (omega arith)).takes bytes b.0.0 b.0.1 ok b.1 in
      let t = objects_take b.0.0 b.0.1 os rest counted.2 b.2 in
      step bytes b.0.1 rest b.0.0 os counted.0 counted.1 t.0 t.1 t.2 t.3;
  again = λ os rest fit.
      let p = and_parts (within 1 MOST_OBJECTS (length os)) (list_all is_object os) fit in
      rw (append_assoc (u16_bytes (length os)) (flat_map object_bytes os) rest, (count_field 1 MOST_OBJECTS (omega arith)).again (length os) (flat_map object_bytes os ++ rest) p.0) (objects_again os rest p.1);
}
  where
    step : (bytes tail rest : List ℕ) (n : ℕ) (os : List Object) → bytes ≡ u16_bytes n ++ tail → within 1 MOST_OBJECTS n ≡ true → tail ≡ flat_map object_bytes os ++ rest → length os ≡ n → list_all is_object os ≡ true → AreBytes rest
        → (bytes ≡ objects_bytes os ++ rest) × (are_objects os ≡ true) × AreBytes rest
    step bytes tail rest n os whole counted after len each ok =
        (whole ∙ rw (after, len) (sym (append_assoc (u16_bytes n) (flat_map object_bytes os) rest)), rw (len, counted, each) refl, ok)
