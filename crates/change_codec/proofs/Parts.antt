-- The parts of heads: flags, tickets, candidates and lists.
use Rattle.std.proofs.Common.{◌≡◌, ℕ, zero, suc, Bool, true, false, ◌&&◌, List, [], ◌∷◌, ◌++◌, length, Some, refl, ap, ◌∙◌, subst, arith}
use Rattle.std.specs.Prelude.{nat_le, ◌==◌}
use Rattle.std.specs.List.{list_all}
use Rattle.std.proofs.lemmas.Bool.{and_parts, leb-true}
use Rattle.psb_bytes.specs.Numbers.{AreBytes, u16_bytes, u32_bytes}
use Rattle.psb_bytes.specs.declared.ids.Ticket.{Ticket}
use Rattle.psb_model.specs.declared.entries.Candidate.{Candidate}
use Rattle.psb_model.specs.Heads.{flag, counted, object, ticket, candidate}
use Rattle.psb_model.specs.Grammar.{is_u16, is_u32, is_digest, is_count, object_fits, candidate_fits, ticket_fits}
use Rattle.byte_fields.specs.Fields.{u8_at, u16_at, u32_at, digest_at, object_at}
use Rattle.byte_fields.proofs.Found.{then_some, some_is}
use Rattle.byte_fields.proofs.FieldLaws.{IsField, as_they_are, u8_field, u16_field, u32_field, digest_field, object_field, counted_field, and_both}
use Rattle.change_codec.specs.Reading.{flag_at, ticket_at, candidate_at, counted_at}
use Rattle.change_codec.proofs.Taking.{took, gave, parts_5}

-- ---- tests that all passed

pub both : {x y : Bool} → x ≡ true → y ≡ true → (x && y) ≡ true
both {x = x} {y = y} p q = and_both x y p q

pub and_3 : (a b c : Bool) → (a && b && c) ≡ true → (a ≡ true) × (b ≡ true) × (c ≡ true)
and_3 a b c e = let p = and_parts (a && b) c e in let q = and_parts a b p.0 in (q.0, q.1, p.1)

pub and_4 : (a b c d : Bool) → (a && b && c && d) ≡ true → (a ≡ true) × (b ≡ true) × (c ≡ true) × (d ≡ true)
and_4 a b c d e = let p = and_parts (a && b && c) d e in let q = and_3 a b c p.0 in (q.0, q.1, q.2, p.1)

pub and_5 : (a b c d x : Bool) → (a && b && c && d && x) ≡ true → (a ≡ true) × (b ≡ true) × (c ≡ true) × (d ≡ true) × (x ≡ true)
and_5 a b c d x e = let p = and_parts (a && b && c && d) x e in let q = and_4 a b c d p.0 in (q.0, q.1, q.2, q.3, p.1)

pub and_6 : (a b c d x y : Bool) → (a && b && c && d && x && y) ≡ true → (a ≡ true) × (b ≡ true) × (c ≡ true) × (d ≡ true) × (x ≡ true) × (y ≡ true)
and_6 a b c d x y e = let p = and_parts (a && b && c && d && x) y e in let q = and_5 a b c d x p.0 in (q.0, q.1, q.2, q.3, q.4, p.1)

pub and_7 : (a b c d x y z : Bool) → (a && b && c && d && x && y && z) ≡ true → (a ≡ true) × (b ≡ true) × (c ≡ true) × (d ≡ true) × (x ≡ true) × (y ≡ true) × (z ≡ true)
and_7 a b c d x y z e = let p = and_parts (a && b && c && d && x && y) z e in let q = and_6 a b c d x y p.0 in (q.0, q.1, q.2, q.3, q.4, q.5, p.1)

-- ---- flags

abbrev pub any_flag : Bool → Bool
any_flag b = true

flag_spelled : (n : ℕ) (rest : List ℕ) → nat_le n 1 ≡ true → n ∷ rest ≡ flag (n == 1) ++ rest
flag_spelled zero rest e = refl
flag_spelled (suc zero) rest e = refl
flag_spelled (suc (suc n)) rest e = absurd (omega (arith, leb-true (suc (suc n)) 1 e))

pub flag_field : IsField flag any_flag flag_at
unfolding flag_at u8_at
flag_field = record {
  takes = λ bytes b rest ok e.
      let f = took u8_field bytes [] bytes (b, rest) refl ok e in
      let g = then_some (nat_le f.value 1) (Some (f.value == 1, f.rest)) (b, rest) f.gives in
      subst (λ (x : Bool × List ℕ). (bytes ≡ flag x.0 ++ x.1) × (any_flag x.0 ≡ true) × AreBytes x.1) (some_is (f.value == 1, f.rest) (b, rest) g.1) (f.whole ∙ flag_spelled f.value f.rest g.0, refl, f.ok);
  again = λ b rest fit. read b rest;
}
  where
    read : (b : Bool) (rest : List ℕ) → flag_at (flag b ++ rest) ≡ Some (b, rest)
    read true rest = refl
    read false rest = refl

-- ---- tickets and candidates

pub ticket_field : IsField ticket ticket_fits ticket_at
unfolding ticket_at
ticket_field = record {
  takes = λ bytes t rest ok e.
      let n = took digest_field bytes [] bytes (t, rest) refl ok e in
      let h = took digest_field bytes n.value n.rest (t, rest) n.whole n.ok n.gives in
      let l = took u32_field bytes (n.value ++ h.value) h.rest (t, rest) h.whole h.ok h.gives in
      let k = took u8_field bytes (n.value ++ h.value ++ u32_bytes l.value) l.rest (t, rest) l.whole l.ok l.gives in
      subst (λ (x : Ticket × List ℕ). (bytes ≡ ticket x.0 ++ x.1) × (ticket_fits x.0 ≡ true) × AreBytes x.1) (some_is _ (t, rest) k.gives) (k.whole, rw (n.fits, h.fits, l.fits, k.fits) refl, k.ok);
  again = λ t rest fit.
      let w = and_4 _ _ _ _ fit in
      ap ticket_at (parts_5 t.reference.name t.reference.handle (u32_bytes t.reference.len) (t.levels ∷ []) rest)
      ∙ gave digest_field _ t.reference.name _ w.0
      ∙ gave digest_field _ t.reference.handle _ w.1
      ∙ gave u32_field _ t.reference.len _ w.2
      ∙ gave u8_field _ t.levels rest w.3;
}

pub candidate_field : IsField candidate candidate_fits candidate_at
unfolding candidate_at
candidate_field = record {
  takes = λ bytes c rest ok e.
      let p = took u32_field bytes [] bytes (c, rest) refl ok e in
      let g = took u32_field bytes (u32_bytes p.value) p.rest (c, rest) p.whole p.ok p.gives in
      let o = took u32_field bytes (u32_bytes p.value ++ u32_bytes g.value) g.rest (c, rest) g.whole g.ok g.gives in
      let h = took u32_field bytes (u32_bytes p.value ++ u32_bytes g.value ++ u32_bytes o.value) o.rest (c, rest) o.whole o.ok o.gives in
      subst (λ (x : Candidate × List ℕ). (bytes ≡ candidate x.0 ++ x.1) × (candidate_fits x.0 ≡ true) × AreBytes x.1) (some_is _ (c, rest) h.gives) (h.whole, rw (p.fits, g.fits, o.fits, h.fits) refl, h.ok);
  again = λ c rest fit.
      let w = and_4 _ _ _ _ fit in
      gave u32_field _ c.peer (u32_bytes c.got ++ (u32_bytes c.of ++ (u32_bytes c.hops ++ rest))) w.0
      ∙ gave u32_field _ c.got _ w.1
      ∙ gave u32_field _ c.of _ w.2
      ∙ gave u32_field _ c.hops rest w.3;
}

-- ---- lists

abbrev pub list_fits : {A : Type 0} → (A → Bool) → List A → Bool
list_fits fit xs = is_count (length xs) && list_all fit xs

pub each : {A : Type 0} (fit : A → Bool) (xs : List A) → list_fits fit xs ≡ true → list_all fit xs ≡ true
each fit xs e = (and_parts (is_count (length xs)) (list_all fit xs) e).1

pub slots_field : IsField (counted u32_bytes) (list_fits is_u32) (counted_at u32_at)
unfolding counted_at
slots_field = counted_field u32_bytes is_u32 u32_at u32_field

pub places_field : IsField (counted u16_bytes) (list_fits is_u16) (counted_at u16_at)
unfolding counted_at
places_field = counted_field u16_bytes is_u16 u16_at u16_field

pub names_field : IsField (counted as_they_are) (list_fits is_digest) (counted_at digest_at)
unfolding counted_at
names_field = counted_field as_they_are is_digest digest_at digest_field

pub objects_field : IsField (counted object) (list_fits object_fits) (counted_at object_at)
unfolding counted_at
objects_field = counted_field object object_fits object_at object_field

pub candidates_field : IsField (counted candidate) (list_fits candidate_fits) (counted_at candidate_at)
unfolding counted_at
candidates_field = counted_field candidate candidate_fits candidate_at candidate_field
