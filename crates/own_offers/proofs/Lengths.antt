-- The record of a deal that is proposed is short.
use Rattle.std.proofs.Common.{◌≡◌, ◌≤◌, ◌+◌, ◌*◌, ℕ, true, List, [], ◌∷◌, ◌++◌, length, refl, arith, length-append}
use Rattle.std.specs.Prelude.{nat_le}
use Rattle.std.specs.Int.{to_be_bytes, w32, w64}
use Rattle.std.specs.List.{flat_map, list_all}
use Rattle.std.proofs.lemmas.Bool.{and_parts, leb-true}
use Rattle.psb_model.specs.State.{State, own_has}
use Rattle.psb_model.specs.Grammar.{is_u32, is_digest, what_fits}
use Rattle.psb_model.specs.Heads.{head_of, deal_fields}
use Rattle.psb_model.specs.declared.deals.DealWhat.{DealWhat}
use Rattle.psb_model.specs.declared.deals.DealWhat.TheVariants.{Fresh, Swap, Cancel, PutBack, Forward, Return}
use Rattle.psb_model.specs.declared.change.Change.TheVariants.{Proposed}
use Rattle.psb_model.proofs.Lengths.{digest_long}
use Rattle.wire_codec.specs.Fields.{within, are_slots}
use Rattle.psb_machine.specs.Proposals.{is_askable}

numbers_long : (numbers : List ℕ) → length (flat_map (to_be_bytes w32) numbers) ≡ 4 * length numbers
numbers_long [] = refl
numbers_long (n ∷ ns) = omega (arith, numbers_long ns, length-append (to_be_bytes w32 n) (flat_map (to_be_bytes w32) ns))

-- slots, with their number before them
pub slots_long : (numbers : List ℕ) → length (to_be_bytes w32 (length numbers) ++ flat_map (to_be_bytes w32) numbers) ≡ 4 + 4 * length numbers
slots_long numbers = omega (arith, numbers_long numbers, length-append (to_be_bytes w32 (length numbers)) (flat_map (to_be_bytes w32) numbers))

few_slots : (least : ℕ) (numbers : List ℕ) → are_slots least numbers ≡ true → length numbers ≤ 64
few_slots least numbers h =
    let a = and_parts (within least 64 (length numbers)) _ h in
    leb-true (length numbers) 64 (and_parts (nat_le least (length numbers)) (nat_le (length numbers) 64) a.0).1

fields_short : (s : State) (p : ℕ) (what : DealWhat) → what_fits what ≡ true → is_askable s p what ≡ true → length (deal_fields what) ≤ 300
fields_short s p (Fresh name) w a = omega (arith, digest_long name w)
fields_short s p (Swap name numbers) w a =
    let named = digest_long name (and_parts (is_digest name) (list_all is_u32 numbers) w).0 in
    let few = few_slots 0 numbers (and_parts (own_has s.own name) (are_slots 0 numbers) a).1 in
    omega (arith, named, few, slots_long numbers, length-append name (to_be_bytes w32 (length numbers) ++ flat_map (to_be_bytes w32) numbers))
fields_short s p (Cancel name numbers) w a =
    let named = digest_long name (and_parts (is_digest name) (list_all is_u32 numbers) w).0 in
    let few = few_slots 1 numbers a in
    omega (arith, named, few, slots_long numbers, length-append name (to_be_bytes w32 (length numbers) ++ flat_map (to_be_bytes w32) numbers))
fields_short s p (PutBack name first) w a =
    let named = digest_long name (and_parts (is_digest name) (is_u32 first) w).0 in
    omega (arith, named, length-append name (to_be_bytes w32 first))
fields_short s p (Forward slot entry) w a = omega (arith, length-append (to_be_bytes w32 slot ++ to_be_bytes w32 entry.peer) (to_be_bytes w32 entry.slot), length-append (to_be_bytes w32 slot) (to_be_bytes w32 entry.peer))
fields_short s p (Return slot) w a = omega arith

pub proposed_short : (s : State) (p number : ℕ) (what : DealWhat) → what_fits what ≡ true → is_askable s p what ≡ true → length (head_of (Proposed (record { peer = p; deal = number; what = what }))) ≤ 400
proposed_short s p number what fits askable =
    let a = to_be_bytes w32 p in
    let b = to_be_bytes w64 number in
    omega (arith, fields_short s p what fits askable, length-append (a ++ b) (deal_fields what), length-append a b)
