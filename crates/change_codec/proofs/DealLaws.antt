-- Own deals, kind by kind: what is read is spelled so and fits, and what fits and is spelled so is read.
use Rattle.std.proofs.Common.{◌≡◌, ℕ, true, eqb, List, [], ◌∷◌, ◌++◌, length, Some, refl, ap, sym, ◌∙◌, subst}
use Rattle.std.proofs.lemmas.Bool.{and_parts, eqb-true}
use Rattle.psb_bytes.specs.Numbers.{AreBytes, u32_bytes as u32}
use Rattle.psb_bytes.specs.declared.ids.Seat.{Seat}
use Rattle.psb_model.specs.declared.deals.DealWhat.{DealWhat}
use Rattle.psb_model.specs.declared.deals.DealWhat.TheVariants.{Fresh, Swap, Cancel, PutBack, Forward, Return}
use Rattle.psb_model.specs.Heads.{counted, deal_fields}
use Rattle.psb_model.specs.Grammar.{is_u32, is_count, what_fits, what_in_grammar}
use Rattle.byte_fields.specs.Fields.{ended}
use Rattle.byte_fields.proofs.FieldLaws.{u32_field, digest_field}
use Rattle.change_codec.specs.Reading.{fresh_at, swap_at, cancel_at, put_back_at, forward_at, return_at, deal_by}
use Rattle.change_codec.proofs.Taking.{took, took_all, gave, gave_last, chosen}
use Rattle.change_codec.proofs.Parts.{both, each, and_3, slots_field}

-- the deal fits, is of this kind and is spelled so
pub record IsDeal (kind : ℕ) (fields : List ℕ) (what : DealWhat) : Type 0 where
  pub spelled : kind ∷ fields ≡ deal_fields what
  pub fits : what_fits what ≡ true

dealt : (kind : ℕ) (value what : DealWhat) (fields front rest : List ℕ) → fields ≡ front ++ rest → ended value rest ≡ Some what → kind ∷ front ≡ deal_fields value → what_fits value ≡ true → IsDeal kind fields what
dealt kind value what fields front rest whole e spelled fits =
    let d = took_all value what fields front rest whole e in
    subst (λ (v : DealWhat). IsDeal kind fields v) d.1 (record { spelled = ap (λ (l : List ℕ). kind ∷ l) d.0 ∙ spelled; fits = fits })

fresh_takes : (fields : List ℕ) (c : DealWhat) → AreBytes fields → fresh_at fields ≡ Some c → IsDeal 1 fields c
unfolding fresh_at
fresh_takes fields c ok e =
    let name = took digest_field fields [] fields c refl ok e in
    dealt 1 (Fresh name.value) c fields name.value name.rest name.whole name.gives refl name.fits

fresh_again : (name : List ℕ) → what_fits (Fresh name) ≡ true → fresh_at name ≡ Some (Fresh name)
unfolding fresh_at
fresh_again name e =
    gave_last digest_field _ name e

swap_takes : (fields : List ℕ) (c : DealWhat) → AreBytes fields → swap_at fields ≡ Some c → IsDeal 2 fields c
unfolding swap_at
swap_takes fields c ok e =
    let name = took digest_field fields [] fields c refl ok e in
    let slots = took slots_field fields name.value name.rest c name.whole name.ok name.gives in
    dealt 2 (Swap name.value slots.value) c fields (name.value ++ counted u32 slots.value) slots.rest slots.whole slots.gives refl (both name.fits (each is_u32 slots.value slots.fits))

swap_again : (name : List ℕ) (slots : List ℕ) → what_fits (Swap name slots) ≡ true → is_count (length slots) ≡ true → swap_at (name ++ counted u32 slots) ≡ Some (Swap name slots)
unfolding swap_at
swap_again name slots e few =
    let w = and_parts _ _ e in
    gave digest_field _ name (counted u32 slots) w.0
    ∙ gave_last slots_field _ slots (both few w.1)

cancel_takes : (fields : List ℕ) (c : DealWhat) → AreBytes fields → cancel_at fields ≡ Some c → IsDeal 3 fields c
unfolding cancel_at
cancel_takes fields c ok e =
    let name = took digest_field fields [] fields c refl ok e in
    let slots = took slots_field fields name.value name.rest c name.whole name.ok name.gives in
    dealt 3 (Cancel name.value slots.value) c fields (name.value ++ counted u32 slots.value) slots.rest slots.whole slots.gives refl (both name.fits (each is_u32 slots.value slots.fits))

cancel_again : (name : List ℕ) (slots : List ℕ) → what_fits (Cancel name slots) ≡ true → is_count (length slots) ≡ true → cancel_at (name ++ counted u32 slots) ≡ Some (Cancel name slots)
unfolding cancel_at
cancel_again name slots e few =
    let w = and_parts _ _ e in
    gave digest_field _ name (counted u32 slots) w.0
    ∙ gave_last slots_field _ slots (both few w.1)

put_back_takes : (fields : List ℕ) (c : DealWhat) → AreBytes fields → put_back_at fields ≡ Some c → IsDeal 4 fields c
unfolding put_back_at
put_back_takes fields c ok e =
    let name = took digest_field fields [] fields c refl ok e in
    let first = took u32_field fields name.value name.rest c name.whole name.ok name.gives in
    dealt 4 (PutBack name.value first.value) c fields (name.value ++ u32 first.value) first.rest first.whole first.gives refl (both name.fits first.fits)

put_back_again : (name : List ℕ) (first : ℕ) → what_fits (PutBack name first) ≡ true → put_back_at (name ++ u32 first) ≡ Some (PutBack name first)
unfolding put_back_at
put_back_again name first e =
    let w = and_parts _ _ e in
    gave digest_field _ name (u32 first) w.0
    ∙ gave_last u32_field _ first w.1

return_takes : (fields : List ℕ) (c : DealWhat) → AreBytes fields → return_at fields ≡ Some c → IsDeal 6 fields c
unfolding return_at
return_takes fields c ok e =
    let slot = took u32_field fields [] fields c refl ok e in
    dealt 6 (Return slot.value) c fields (u32 slot.value) slot.rest slot.whole slot.gives refl slot.fits

return_again : (slot : ℕ) → what_fits (Return slot) ≡ true → return_at (u32 slot) ≡ Some (Return slot)
unfolding return_at
return_again slot e =
    gave_last u32_field _ slot e

forward_takes : (fields : List ℕ) (c : DealWhat) → AreBytes fields → forward_at fields ≡ Some c → IsDeal 5 fields c
unfolding forward_at
forward_takes fields c ok e =
    let slot = took u32_field fields [] fields c refl ok e in
    let peer = took u32_field fields (u32 slot.value) slot.rest c slot.whole slot.ok slot.gives in
    let there = took u32_field fields (u32 slot.value ++ u32 peer.value) peer.rest c peer.whole peer.ok peer.gives in
    dealt 5 (Forward slot.value (record { peer = peer.value; slot = there.value })) c fields (u32 slot.value ++ u32 peer.value ++ u32 there.value) there.rest there.whole there.gives refl (both (both slot.fits peer.fits) there.fits)

forward_again : (slot : ℕ) (entry : Seat) → what_fits (Forward slot entry) ≡ true → forward_at (u32 slot ++ u32 entry.peer ++ u32 entry.slot) ≡ Some (Forward slot entry)
unfolding forward_at
forward_again slot entry e =
    let w = and_3 _ _ _ e in
    gave u32_field _ slot (u32 entry.peer ++ u32 entry.slot) w.0
    ∙ gave u32_field _ entry.peer _ w.1
    ∙ gave_last u32_field _ entry.slot w.2

-- ---- all of them

at_kind : (kind n : ℕ) (fields : List ℕ) (what : DealWhat) → eqb kind n ≡ true → IsDeal n fields what → IsDeal kind fields what
at_kind kind n fields what t h = subst (λ (k : ℕ). IsDeal k fields what) (sym (eqb-true kind n t)) h

pub deal_takes : (kind : ℕ) (fields : List ℕ) (what : DealWhat) → AreBytes fields → deal_by kind fields ≡ Some what → IsDeal kind fields what
unfolding deal_by
deal_takes kind fields what ok e =
    chosen (eqb kind 1) _ _ what (λ t h. at_kind kind 1 fields what t (fresh_takes fields what ok h)) (λ _ e.
    chosen (eqb kind 2) _ _ what (λ t h. at_kind kind 2 fields what t (swap_takes fields what ok h)) (λ _ e.
    chosen (eqb kind 3) _ _ what (λ t h. at_kind kind 3 fields what t (cancel_takes fields what ok h)) (λ _ e.
    chosen (eqb kind 4) _ _ what (λ t h. at_kind kind 4 fields what t (put_back_takes fields what ok h)) (λ _ e.
    chosen (eqb kind 5) _ _ what (λ t h. at_kind kind 5 fields what t (forward_takes fields what ok h)) (λ _ e.
    chosen (eqb kind 6) _ _ what (λ t h. at_kind kind 6 fields what t (return_takes fields what ok h)) (λ _ e. absurd cc)
    e) e) e) e) e) e

-- what a deal's fields begin with
abbrev pub deal_kind : DealWhat → ℕ
deal_kind (Fresh name) = 1
deal_kind (Swap name slots) = 2
deal_kind (Cancel name slots) = 3
deal_kind (PutBack name first) = 4
deal_kind (Forward slot entry) = 5
deal_kind (Return slot) = 6

-- and what stands behind it
abbrev pub deal_rest : DealWhat → List ℕ
deal_rest (Fresh name) = name
deal_rest (Swap name slots) = name ++ counted u32 slots
deal_rest (Cancel name slots) = name ++ counted u32 slots
deal_rest (PutBack name first) = name ++ u32 first
deal_rest (Forward slot entry) = u32 slot ++ u32 entry.peer ++ u32 entry.slot
deal_rest (Return slot) = u32 slot

pub deal_parts : (what : DealWhat) → deal_fields what ≡ deal_kind what ∷ deal_rest what
deal_parts (Fresh name) = refl
deal_parts (Swap name slots) = refl
deal_parts (Cancel name slots) = refl
deal_parts (PutBack name first) = refl
deal_parts (Forward slot entry) = refl
deal_parts (Return slot) = refl

pub deal_again : (what : DealWhat) → what_fits what ≡ true → what_in_grammar what ≡ true → deal_by (deal_kind what) (deal_rest what) ≡ Some what
unfolding deal_by
deal_again (Fresh name) e g = fresh_again name e
deal_again (Swap name slots) e g = swap_again name slots e (and_parts _ _ g).1
deal_again (Cancel name slots) e g = cancel_again name slots e (and_parts _ _ g).1
deal_again (PutBack name first) e g = put_back_again name first e
deal_again (Forward slot entry) e g = forward_again slot entry e
deal_again (Return slot) e g = return_again slot e
