-- The change that takes a deal which is not refused: it may be made, and answered.
use Rattle.std.proofs.Common.{◌≡◌, ℕ, ◌+◌, ◌*◌, ◌≤◌, ◌^◌, Bool, true, false, not, ◌&&◌, ◌||◌, ◌==◌, nat_le, nat_lt, cond, List, [], ◌∷◌, length, Option, Some, None, is_some, refl, sym, ap, ◌∙◌, subst, arith, length-append}
use Rattle.std.specs.List.{list_all}
use Rattle.std.proofs.lemmas.Bool.{and_parts, eqb-true, lt-ltb, ltb-false, eq-eqb, le-leb, leb-true}
use Rattle.std.proofs.lemmas.List.{length-map}
use Rattle.std.proofs.lemmas.List.Folds.{list_all-append}
use Rattle.psb_bytes.specs.Units.{units}
use Rattle.psb_bytes.specs.Objects.{name_eq}
use Rattle.psb_bytes.specs.declared.ids.Object.{Object}
use Rattle.psb_bytes.specs.declared.ids.Object.TheVariants.{Chunk, Slot}
use Rattle.psb_bytes.specs.declared.lists.SlotClaim.{SlotClaim}
use Rattle.psb_digest.specs.Hashes.{sha}
use Rattle.psb_settings.specs.declared.settings.Settings.{Settings}
use Rattle.psb_model.specs.Words.{has, has_so}
use Rattle.psb_model.specs.State.{State, row, in_key, out_key, debt_units, is_held, is_peer, tied_in, tied_out, used}
use Rattle.psb_model.specs.Grammar.{in_grammar, fits_widths, is_u8, is_u32, is_count, are_bytes, body_fits}
use Rattle.psb_model.specs.Conditions.{most_claims, capacity, is_next_deal, carries_none, each_slot, allowed}
use Rattle.psb_model.specs.History.{state}
use Rattle.psb_model.specs.Needed.{brings_right, no_slots}
use Rattle.psb_model.specs.declared.change.Change.{Change}
use Rattle.psb_model.specs.declared.change.Change.TheVariants.{TookFresh, TookSwap, LetGoBack}
use Rattle.psb_model.proofs.ByObject.{by_cases}
use Rattle.psb_model.proofs.Prefixes.{changes_counted}
use Rattle.wire_codec.specs.Fields.{is_claim, are_bytes as are_wire_bytes}
use Rattle.wire_codec.specs.declared.limits.TheConstants.{CLAIM_BYTES}
use Rattle.psb_machine.specs.Deals.{Deal, StoreFresh, StoreSwap, Cancel, PutBack, Replace, replaced, claim_from, slots_of, claims_joined, sealed_part, first_not_out, first_slot, is_engaged, chunk_units, first_that_holds}
use Rattle.psb_machine.specs.Judging.{SlotsFit, StoreFits, SwapFits, CancelFits, PutBackFits, ReplaceFits, DealFits, reasons_at, taken_at}
use Rattle.psb_machine.specs.Replies.{is_answerable}
use Rattle.psb_machine.proofs.Standings.{NoneHolds, none_holds}
use Rattle.psb_machine.proofs.Homes.{home_found}
use Rattle.psb_machine.proofs.Slots.{none_found, each_both, passes_there}

-- of a change: it may be made, its fields fit, its bytes are there, and it can be answered
pub record MayTake (s : State) (c : Change) : Type 0 where
  pub grammar : in_grammar c ≡ true
  pub may : allowed s c ≡ true
  pub widths : fits_widths c ≡ true
  pub brings : brings_right c ≡ true
  pub answerable : is_answerable c ≡ true

-- the number is that of the next deal of a peer, after a history
pub record IsNext (settings : Settings) (h : List Change) (p number : ℕ) : Type 0 where
  pub some : 1 ≤ length h
  pub present : (state h).settings ≡ Some settings
  pub peer : is_peer (state h) p ≡ true
  pub next_deal : is_next_deal (state h) p number ≡ true
  pub drawn : (state h).issued ≤ most_claims

pub begun_here : (h : List Change) → 1 ≤ length h → nat_lt 0 (state h).changes ≡ true
begun_here h some = lt-ltb 0 (state h).changes (omega (arith, changes_counted h, some))

not_false : (b : Bool) → not b ≡ false → b ≡ true
not_false true h = refl
not_false false h = absurd (cc)

not_less : (a b : ℕ) → nat_lt a b ≡ false → nat_le b a ≡ true
not_less a b h = le-leb b a (ltb-false a b h)

not_some : (a : ℕ) → nat_lt 0 a ≡ false → (a == 0) ≡ true
not_some a h = eq-eqb a 0 (omega (arith, ltb-false 0 a h))

-- ---- sealed bytes, which come with a change where none are held

pub flag_same : (held : Bool) → (cond held (not (not held)) (not held)) ≡ true
flag_same true = refl
flag_same false = refl

pub body_in_grammar : (held : Bool) (bytes : List ℕ) → body_fits (cond (not held) (length bytes) 0) (sealed_part (not held) bytes) ≡ true
body_in_grammar true bytes = refl
body_in_grammar false bytes = eq-eqb (length bytes) (length bytes) refl

pub body_of_bytes : (held : Bool) (bytes : List ℕ) → list_all is_u8 bytes ≡ true → are_bytes (sealed_part (not held) bytes) ≡ true
body_of_bytes true bytes h = refl
body_of_bytes false bytes h = h

-- ---- each kind of deal

brings_fresh : (p number first : ℕ) (name bytes : List ℕ) (held : Bool) → name_eq (sha bytes) name ≡ true → brings_right (TookFresh (record { peer = p; deal = number; name = name; first = first; len = length bytes; new = not held; body = sealed_part (not held) bytes })) ≡ true
brings_fresh p number first name bytes true h = refl
brings_fresh p number first name bytes false h = h

fresh_may : (settings : Settings) (h : List Change) (p number : ℕ) (name bytes : List ℕ) (clash : Bool) → IsNext settings h p number → StoreFits p number name bytes
    → NoneHolds (reasons_at settings (state h) p (StoreFresh name bytes) clash) → MayTake (state h) (taken_at settings (state h) p number (StoreFresh name bytes))
fresh_may settings h p number name bytes clash n f t =
    let s = state h in
    let named = not_false (name_eq (sha bytes) name) t.0 in
    let new_here : not (has in_key (row s p).ins (Chunk name)) ≡ true = ap not t.1.0 in
    let no_debt = not_some (debt_units (row s p)) t.1.1.1.0 in
    let room = not_less settings.capacity (used s + units (length bytes)) t.1.1.1.1.0 in
    let room_here : nat_le (used s + units (length bytes)) (capacity s.settings) ≡ true = subst (λ (o : Option Settings). nat_le (used s + units (length bytes)) (capacity o) ≡ true) (sym n.present) room in
    let claims = not_less most_claims (s.issued + units (length bytes)) t.1.1.1.1.1.0 in
    let most = leb-true (s.issued + units (length bytes)) most_claims claims in
    let first : is_u32 s.issued ≡ true = lt-ltb s.issued (2 ^ 32) (omega (arith, most)) in
    let len : is_u32 (length bytes) ≡ true = lt-ltb (length bytes) (2 ^ 32) (omega (arith, f.short)) in
    let same : (s.issued == s.issued) ≡ true = eq-eqb s.issued s.issued refl in
    let short = le-leb (length bytes) 32768 f.short in
    record {
      grammar = rw (le-leb 1 (length bytes) f.long, short, body_in_grammar (is_held s name) bytes) refl;
      may = rw (begun_here h n.some, n.peer, n.next_deal, new_here, flag_same (is_held s name), no_debt, room_here, same, claims) refl;
      widths = rw (f.peer, f.number_fits, f.name_fits, first, len, body_of_bytes (is_held s name) bytes f.bytes_fit) refl;
      brings = brings_fresh p number s.issued name bytes (is_held s name) named;
      answerable = rw (short, claims) refl;
    }

-- slots as a record lists them
pub counted : (numbers : List ℕ) → SlotsFit numbers → is_count (length numbers) ≡ true
counted numbers f = lt-ltb (length numbers) (2 ^ 32) (omega (arith, f.few))

brings_swap : (p number : ℕ) (name numbers bytes : List ℕ) (held : Bool) → name_eq (sha bytes) name ≡ true → brings_right (TookSwap (record { peer = p; deal = number; name = name; slots = numbers; len = length bytes; new = not held; body = sealed_part (not held) bytes })) ≡ true
brings_swap p number name numbers bytes true h = refl
brings_swap p number name numbers bytes false h = h

swap_may : (settings : Settings) (h : List Change) (p number : ℕ) (name numbers bytes : List ℕ) (clash : Bool) → IsNext settings h p number → SwapFits p number name numbers bytes
    → NoneHolds (reasons_at settings (state h) p (StoreSwap name numbers bytes) clash) → MayTake (state h) (taken_at settings (state h) p number (StoreSwap name numbers bytes))
swap_may settings h p number name numbers bytes clash n f t =
    let s = state h in
    let free = none_found (tied_in s p) (λ o. not (tied_in s p o)) numbers (λ o k. ap not k) t.0 in
    let named = not_false (name_eq (sha bytes) name) t.1.0 in
    let new_here : not (has in_key (row s p).ins (Chunk name)) ≡ true = ap not t.1.1.0 in
    let there = none_found (λ o. not (has in_key (row s p).ins o)) (has in_key (row s p).ins) numbers (λ o k. not_false (has in_key (row s p).ins o) k) t.1.1.1.1.0 in
    let equal = not_false (length numbers == units (length bytes)) t.1.1.1.1.1.0 in
    let no_debt = not_some (debt_units (row s p)) t.1.1.1.1.1.1.0 in
    let len : is_u32 (length bytes) ≡ true = lt-ltb (length bytes) (2 ^ 32) (omega (arith, f.store.short)) in
    record {
      grammar = rw (le-leb 1 (length bytes) f.store.long, le-leb (length bytes) 32768 f.store.short, body_in_grammar (is_held s name) bytes, f.slots.ascend, counted numbers f.slots) refl;
      may = rw (begun_here h n.some, n.peer, n.next_deal, new_here, flag_same (is_held s name), there, free, equal, no_debt) refl;
      widths = rw (f.store.peer, f.store.number_fits, f.store.name_fits, f.slots.widths, len, body_of_bytes (is_held s name) bytes f.store.bytes_fit) refl;
      brings = brings_swap p number name numbers bytes (is_held s name) named;
      answerable = refl;
    }

pub either_none : (a b : Bool) → (a || b) ≡ false → (a ≡ false) × (b ≡ false)
either_none true b h = absurd (cc)
either_none false b h = (refl, h)

-- a slot of out(p) that no deal ties and that carries no claim of another peer
free_out : (s : State) (p : ℕ) (numbers : List ℕ) → is_some (first_slot (is_engaged s p) numbers) ≡ false → each_slot (λ o. not (tied_out s p o)) numbers ≡ true
free_out s p numbers h = none_found (is_engaged s p) (λ o. not (tied_out s p o)) numbers (λ o k. ap not (either_none (tied_out s p o) (has_so out_key (λ e. not (carries_none e)) (row s p).outs o) k).0) h

none_carried : (s : State) (p : ℕ) (numbers : List ℕ) → is_some (first_slot (is_engaged s p) numbers) ≡ false → is_some (first_not_out s p numbers) ≡ false → each_slot (has_so out_key carries_none (row s p).outs) numbers ≡ true
none_carried s p numbers h k =
    let outs = (row s p).outs in
    let carries : Object → Bool = has_so out_key (λ e. not (carries_none e)) outs in
    each_both (λ o. not (carries o)) (has out_key outs) (has_so out_key carries_none outs) numbers
    (λ o none there. passes_there out_key carries_none outs o there (not_true (carries o) none))
    (none_found (is_engaged s p) (λ o. not (carries o)) numbers (λ o e. ap not (either_none (tied_out s p o) (carries o) e).1) h)
    (none_found (λ o. not (has out_key outs o)) (has out_key outs) numbers (λ o e. not_false (has out_key outs o) e) k)
  where
    not_true : (b : Bool) → not b ≡ true → b ≡ false
    not_true true e = absurd (cc)
    not_true false e = refl

cancel_may : (settings : Settings) (h : List Change) (p number : ℕ) (name numbers : List ℕ) (clash : Bool) → IsNext settings h p number → CancelFits p number name numbers
    → NoneHolds (reasons_at settings (state h) p (Cancel name numbers) clash) → MayTake (state h) (taken_at settings (state h) p number (Cancel name numbers))
cancel_may settings h p number name numbers clash n f t =
    let s = state h in
    let missing = either_none (not (has in_key (row s p).ins (Chunk name))) (is_some (first_not_out s p numbers)) t.1.0 in
    let there = not_false (has in_key (row s p).ins (Chunk name)) missing.0 in
    let equal = not_false (length numbers == chunk_units s p name) t.1.1.0 in
    record {
      grammar = rw (f.slots.ascend, counted numbers f.slots) refl;
      may = rw (begun_here h n.some, n.peer, n.next_deal, there, none_carried s p numbers t.0 missing.1, free_out s p numbers t.0, equal) refl;
      widths = rw (f.peer, f.number_fits, f.name_fits, f.slots.widths) refl;
      brings = refl;
      answerable = refl;
    }

-- the bytes of claims, one behind the other
pub joined_long : (claims : List SlotClaim) → list_all is_claim claims ≡ true → length (claims_joined claims) ≡ 512 * length claims
joined_long [] h = refl
joined_long (c ∷ cs) h =
    let two = and_parts (is_claim c) (list_all is_claim cs) h in
    let fit = and_parts (is_u32 c.slot) ((length c.bytes == CLAIM_BYTES) && are_wire_bytes c.bytes) two.0 in
    let long = eqb-true (length c.bytes) 512 (and_parts (length c.bytes == CLAIM_BYTES) (are_wire_bytes c.bytes) fit.1).0 in
    omega (arith, long, joined_long cs two.1, length-append c.bytes (claims_joined cs))

pub joined_bytes : (claims : List SlotClaim) → list_all is_claim claims ≡ true → list_all is_u8 (claims_joined claims) ≡ true
joined_bytes [] h = refl
joined_bytes (c ∷ cs) h =
    let two = and_parts (is_claim c) (list_all is_claim cs) h in
    let fit = and_parts (is_u32 c.slot) ((length c.bytes == CLAIM_BYTES) && are_wire_bytes c.bytes) two.0 in
    let bytes : list_all is_u8 c.bytes ≡ true = (and_parts (length c.bytes == CLAIM_BYTES) (are_wire_bytes c.bytes) fit.1).1 in
    list_all-append is_u8 c.bytes (claims_joined cs) ∙ rw (bytes, joined_bytes cs two.1) refl

brings_back : (p number : ℕ) (name numbers bytes : List ℕ) → brings_right (LetGoBack (record { peer = p; deal = number; name = name; slots = numbers; body = Some bytes })) ≡ true
brings_back p number name numbers bytes = by_cases (no_slots numbers) (λ k. rw k refl) (λ k. rw k refl)

put_back_may : (settings : Settings) (h : List Change) (p number : ℕ) (name : List ℕ) (claims : List SlotClaim) (clash : Bool) → IsNext settings h p number → PutBackFits p number name claims
    → NoneHolds (reasons_at settings (state h) p (PutBack name claims) clash) → MayTake (state h) (taken_at settings (state h) p number (PutBack name claims))
put_back_may settings h p number name claims clash n f t =
    let s = state h in
    let numbers = slots_of claims in
    let absent = none_found (has in_key (row s p).ins) (λ o. not (has in_key (row s p).ins o)) numbers (λ o k. ap not k) t.0 in
    let there = not_false (has in_key (row s p).ins (Chunk name)) t.1.0 in
    let equal = not_false (length numbers == chunk_units s p name) t.1.1.0 in
    let long : (length (claims_joined claims) == 512 * length numbers) ≡ true =
    eq-eqb (length (claims_joined claims)) (512 * length numbers) (omega (arith, joined_long claims f.claims_fit, length-map claims (λ (c : SlotClaim). c.slot))) in
    record {
      grammar = rw (long, f.slots.ascend, counted numbers f.slots) refl;
      may = rw (begun_here h n.some, n.peer, n.next_deal, there, absent, equal) refl;
      widths = rw (f.peer, f.number_fits, f.name_fits, f.slots.widths, joined_bytes claims f.claims_fit) refl;
      brings = brings_back p number name numbers (claims_joined claims);
      answerable = refl;
    }

replaced_may : (settings : Settings) (h : List Change) (p number slot : ℕ) (bytes : List ℕ) (clash : Bool) → IsNext settings h p number → ReplaceFits p number slot bytes
    → NoneHolds (reasons_at settings (state h) p (Replace slot bytes) clash) → MayTake (state h) (taken_at settings (state h) p number (Replace slot bytes))
replaced_may settings h p number slot bytes clash n f t = by_home (claim_from settings.seed bytes 0 (state h).issued) refl
  where
    free : not (tied_in (state h) p (Slot slot)) ≡ true
    free = ap not t.0

    there : has in_key (row (state h) p).ins (Slot slot) ≡ true
    there = not_false (has in_key (row (state h) p).ins (Slot slot)) t.1.0

    by_home : (o : Option ℕ) → claim_from settings.seed bytes 0 (state h).issued ≡ o → MayTake (state h) (replaced p number slot bytes o)
    by_home None is = record {
      grammar = eq-eqb (length bytes) 512 f.long;
      may = rw (begun_here h n.some, n.peer, n.next_deal, there, free) refl;
      widths = rw (f.peer, f.number_fits, f.slot_fits, f.bytes_fit) refl;
      brings = refl;
      answerable = refl;
    }
    by_home (Some i) is =
        let found = home_found settings.seed bytes 0 (state h).issued i is in
        let home : is_u32 i ≡ true = lt-ltb i (2 ^ 32) (omega (arith, found.0, n.drawn)) in
        record {
          grammar = refl;
          may = rw (begun_here h n.some, n.peer, n.next_deal, there, free, lt-ltb i (state h).issued (omega (arith, found.0))) refl;
          widths = rw (f.peer, f.number_fits, f.slot_fits, home) refl;
          brings = refl;
          answerable = refl;
        }

-- any deal that is the next of its peer and is not refused
pub deal_may : (settings : Settings) (h : List Change) (p number : ℕ) (deal : Deal) (clash : Bool) → IsNext settings h p number → DealFits p number deal
    → first_that_holds (reasons_at settings (state h) p deal clash) ≡ None → MayTake (state h) (taken_at settings (state h) p number deal)
deal_may settings h p number (StoreFresh name bytes) clash n f t = fresh_may settings h p number name bytes clash n f (none_holds (reasons_at settings (state h) p (StoreFresh name bytes) clash) t)
deal_may settings h p number (StoreSwap name numbers bytes) clash n f t = swap_may settings h p number name numbers bytes clash n f (none_holds (reasons_at settings (state h) p (StoreSwap name numbers bytes) clash) t)
deal_may settings h p number (Cancel name numbers) clash n f t = cancel_may settings h p number name numbers clash n f (none_holds (reasons_at settings (state h) p (Cancel name numbers) clash) t)
deal_may settings h p number (PutBack name claims) clash n f t = put_back_may settings h p number name claims clash n f (none_holds (reasons_at settings (state h) p (PutBack name claims) clash) t)
deal_may settings h p number (Replace slot bytes) clash n f t = replaced_may settings h p number slot bytes clash n f (none_holds (reasons_at settings (state h) p (Replace slot bytes) clash) t)
