-- The change that a fresh deal makes may be made, and its record is short enough.
use Rattle.std.proofs.Common.{◌≡◌, ℕ, ◌+◌, ◌*◌, ◌<◌, ◌≤◌, ◌^◌, Bool, true, false, not, cond, List, [], ◌∷◌, ◌++◌, length, is_some, Option, Some, None, refl, arith, length-append}
use Rattle.std.specs.Int.{to_be_bytes, w32, w64}
use Rattle.std.specs.List.{flat_map}
use Rattle.std.specs.Option.{unwrap_or}
use Rattle.std.proofs.lemmas.Bool.{ltb-true}
use Rattle.std.proofs.lemmas.List.{length-map}
use Rattle.psb_bytes.specs.declared.lists.SlotClaim.{SlotClaim}
use Rattle.psb_settings.specs.declared.settings.Settings.{Settings}
use Rattle.psb_model.specs.State.{State, is_held, is_peer}
use Rattle.psb_model.specs.Heads.{head_of, body_of}
use Rattle.psb_model.proofs.Lengths.{digest_long}
use Rattle.psb_model.specs.Conditions.{is_next_deal}
use Rattle.psb_model.specs.History.{state}
use Rattle.psb_model.specs.Needed.{IsValid}
use Rattle.psb_model.specs.declared.change.Change.{Change}
use Rattle.psb_model.specs.declared.change.Change.TheVariants.{TookFresh, TookSwap, LetGo, Replaced, Refused}
use Rattle.psb_machine.specs.Deals.{code_of, first_that_holds, judged, Deal, StoreFresh, StoreSwap, Cancel, PutBack, Replace, replaced, claim_from, slots_of}
use Rattle.psb_machine.specs.Judging.{DealFits, IsShort, reasons_at, taken_at, judged_with}
use Rattle.psb_machine.specs.declared.deals.Refusal.{Refusal}
use Rattle.psb_machine.proofs.Taken.{MayTake, IsNext as IsNextDeal, deal_may, joined_long}
use Rattle.psb_machine.proofs.Valid.{allows_refused, codes_are}
use Rattle.own_offers.proofs.Lengths.{slots_long}
use Rattle.node_core.specs.Making.{CanTell}

-- the sender, the number and the name of a deal, as a head has them
front_long : (p deal : ℕ) (name : List ℕ) → length name ≡ 32 → length (to_be_bytes w32 p ++ to_be_bytes w64 deal ++ name) ≡ 44
front_long p deal name is =
    let a = to_be_bytes w32 p in
    let b = to_be_bytes w64 deal in
    omega (arith, is, length-append (a ++ b) name, length-append a b)

fresh_long : (p deal first len : ℕ) (name : List ℕ) (new : Bool) (body : Option (List ℕ)) → length name ≡ 32 → length (head_of (TookFresh (record { peer = p; deal = deal; name = name; first = first; len = len; new = new; body = body }))) ≡ 54
fresh_long p deal first len name new body is =
    let front = to_be_bytes w32 p ++ to_be_bytes w64 deal ++ name in
    let d = to_be_bytes w32 first in
    let e = to_be_bytes w32 len in
    omega (arith, front_long p deal name is, length-append (front ++ d ++ e) (cond new 1 0 ∷ []), length-append (front ++ d) e, length-append front d)

swap_long : (p deal len : ℕ) (name numbers : List ℕ) (new : Bool) (body : Option (List ℕ)) → length name ≡ 32 → length (head_of (TookSwap (record { peer = p; deal = deal; name = name; slots = numbers; len = len; new = new; body = body }))) ≡ 54 + 4 * length numbers
swap_long p deal len name numbers new body is =
    let front = to_be_bytes w32 p ++ to_be_bytes w64 deal ++ name in
    let d = to_be_bytes w32 (length numbers) ++ flat_map (to_be_bytes w32) numbers in
    let e = to_be_bytes w32 len in
    omega (arith, front_long p deal name is, slots_long numbers, length-append (front ++ d ++ e) (cond new 1 0 ∷ []), length-append (front ++ d) e, length-append front d)

release_long : (p deal : ℕ) (name numbers : List ℕ) → length name ≡ 32 → length (head_of (LetGo (record { peer = p; deal = deal; name = name; slots = numbers }))) ≡ 49 + 4 * length numbers
release_long p deal name numbers is =
    let front = to_be_bytes w32 p ++ to_be_bytes w64 deal ++ name in
    omega (arith, front_long p deal name is, slots_long numbers, length-append front (to_be_bytes w32 (length numbers) ++ flat_map (to_be_bytes w32) numbers))

refused_long : (p deal why detail : ℕ) → length (head_of (Refused (record { peer = p; deal = deal; why = why; detail = detail }))) ≡ 22
refused_long p deal why detail =
    let a = to_be_bytes w32 p in
    let b = to_be_bytes w64 deal in
    omega (arith, length-append (a ++ b) (why ∷ to_be_bytes w64 detail), length-append a b)

replaced_long : (p deal slot place home : ℕ) (body : Option (List ℕ)) → length (head_of (Replaced (record { peer = p; deal = deal; slot = slot; place = place; home = home; body = body }))) ≡ 22
replaced_long p deal slot place home body =
    let a = to_be_bytes w32 p in
    let b = to_be_bytes w64 deal in
    let c = to_be_bytes w32 slot in
    omega (arith, length-append ((a ++ b) ++ c) (place ∷ to_be_bytes w32 home), length-append (a ++ b) c, length-append a b)

pub body_short : (new : Bool) (bytes : List ℕ) → length (cond new bytes []) ≤ length bytes
body_short true bytes = omega arith
body_short false bytes = omega arith

-- the change that takes a deal has its body, and its record is no longer than a record may be
pub record IsRecordable (c : Change) : Type 0 where
  pub there : is_some (body_of c) ≡ true
  pub short : length (head_of c) + length (unwrap_or (body_of c) []) ≤ 67108864

recordable : (settings : Settings) (s : State) (p number : ℕ) (deal : Deal) → DealFits p number deal → IsRecordable (taken_at settings s p number deal)
recordable settings s p number (StoreFresh name bytes) f =
    let new = not (is_held s name) in
    record {
      there = refl;
      short = omega (arith, fresh_long p number s.issued (length bytes) name new (Some (cond new bytes [])) (digest_long name f.name_fits), body_short new bytes, f.short);
    }
recordable settings s p number (StoreSwap name numbers bytes) f =
    let new = not (is_held s name) in
    record {
      there = refl;
      short = omega (arith, swap_long p number (length bytes) name numbers new (Some (cond new bytes [])) (digest_long name f.store.name_fits), body_short new bytes, f.store.short, f.slots.few);
    }
recordable settings s p number (Cancel name numbers) f = record { there = refl; short = omega (arith, release_long p number name numbers (digest_long name f.name_fits), f.slots.few) }
recordable settings s p number (PutBack name claims) f = record {
  there = refl;
  short = omega (arith, release_long p number name (slots_of claims) (digest_long name f.name_fits), f.slots.few, joined_long claims f.claims_fit, length-map claims (λ (c : SlotClaim). c.slot));
}
recordable settings s p number (Replace slot bytes) f = by_home (claim_from settings.seed bytes 0 s.issued)
  where
    by_home : (o : Option ℕ) → IsRecordable (replaced p number slot bytes o)
    by_home None = record { there = refl; short = omega (arith, replaced_long p number slot 0 0 (Some bytes), f.long) }
    by_home (Some i) = record { there = refl; short = omega (arith, replaced_long p number slot 1 i (Some [])) }

can_take : (settings : Settings) (s : State) (p number : ℕ) (deal : Deal) → DealFits p number deal → MayTake s (taken_at settings s p number deal) → s.changes < 2 ^ 62 → CanTell s (taken_at settings s p number deal)
can_take settings s p number deal f m few =
    let r = recordable settings s p number deal f in
    record {
      may = record { grammar = m.grammar; may = m.may; few = few; there = r.there; short = r.short };
      answerable = m.answerable;
    }

can_refuse : (h : List Change) (p number : ℕ) (r : Refusal) → 1 ≤ length h → is_peer (state h) p ≡ true → is_next_deal (state h) p number ≡ true → (state h).changes < 2 ^ 62 → CanTell (state h) (Refused (record { peer = p; deal = number; why = code_of r.why; detail = r.detail }))
can_refuse h p number r some peer next_deal few =
    let code = codes_are r.why in
    record {
      may = record {
        grammar = refl;
        may = allows_refused h p number r some peer next_deal;
        few = few;
        there = refl;
        short = omega (arith, refused_long p number (code_of r.why) r.detail);
      };
      answerable = rw (code.0, code.1) refl;
    }

pub can_judge : (settings : Settings) (h : List Change) (p number : ℕ) (deal : Deal) (clash : Bool) → IsValid h → IsNextDeal settings h p number → DealFits p number deal → (state h).changes < 2 ^ 62 → CanTell (state h) (judged_with settings (state h) p number deal clash)
can_judge settings h p number deal clash v next f few = by_refusal (first_that_holds (reasons_at settings (state h) p deal clash)) refl
  where
    by_refusal : (o : Option Refusal) → first_that_holds (reasons_at settings (state h) p deal clash) ≡ o → CanTell (state h) (judged p number (taken_at settings (state h) p number deal) o)
    by_refusal None is = can_take settings (state h) p number deal f (deal_may settings h p number deal clash next f is) few
    by_refusal (Some r) is = can_refuse h p number r v.some next.peer next.next_deal few

pub fits_short : (p number : ℕ) (deal : Deal) → DealFits p number deal → IsShort deal
fits_short p number (StoreFresh name bytes) f = f.short
fits_short p number (StoreSwap name numbers bytes) f = f.store.short
fits_short p number (Cancel name numbers) f = tt
fits_short p number (PutBack name claims) f = tt
fits_short p number (Replace slot bytes) f = tt

pub number_fits : (p number : ℕ) (deal : Deal) → DealFits p number deal → number < 2 ^ 64
number_fits p number (StoreFresh name bytes) f = ltb-true number (2 ^ 64) f.number_fits
number_fits p number (StoreSwap name numbers bytes) f = ltb-true number (2 ^ 64) f.store.number_fits
number_fits p number (Cancel name numbers) f = ltb-true number (2 ^ 64) f.number_fits
number_fits p number (PutBack name claims) f = ltb-true number (2 ^ 64) f.number_fits
number_fits p number (Replace slot bytes) f = ltb-true number (2 ^ 64) f.number_fits
