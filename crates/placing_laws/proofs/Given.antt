-- Each slot that a peer has here was given its bytes by some change, whatever state it is in since.
use Rattle.std.proofs.Common.{◌≡◌, ℕ, Bool, true, false, not, ◌||◌, ◌==◌, if◌then◌else◌, List, [], ◌∷◌, Option, Some, None, refl, sym, ap, ◌∙◌}
use Rattle.std.specs.List.{list_any}
use Rattle.std.proofs.lemmas.Bool.{false≢true, and_parts}
use Rattle.psb_bytes.specs.declared.ids.Object.{Object}
use Rattle.psb_bytes.specs.declared.ids.Object.TheVariants.{Chunk, Slot}
use Rattle.psb_model.specs.declared.entries.InEntry.{InEntry}
use Rattle.psb_model.specs.declared.deals.Deal.{Deal}
use Rattle.psb_model.specs.declared.deals.DealWhat.{DealWhat}
use Rattle.psb_model.specs.declared.deals.DealWhat.TheVariants as own
use Rattle.psb_model.specs.declared.change.Change.{Change}
use Rattle.psb_model.specs.declared.change.Change.TheVariants.{Begun, Kept, Snapped, Forgot, TookFresh, TookSwap, LetGo, LetGoBack, Replaced, Refused, Proposed, Settled, Turned, Asked, Passed, Failed, Declined, Discarded, Chose}
use Rattle.psb_model.specs.Words.{units, object_eq, listed, slots, has, without, with_one, with_all}
use Rattle.psb_model.specs.State.{Row, State, row, is_peer, in_key}
use Rattle.psb_model.specs.Conditions.{allowed, is_begun, peer_of, settings_of_body}
use Rattle.psb_model.specs.Move.{after_move}
use Rattle.psb_model.specs.Effects.{after, chunk_in, direct_slot, direct_slots, settle_move, move_of}
use Rattle.psb_model.specs.History.{state}
use Rattle.psb_model.specs.Needed.{IsValid, gives_slot, last_that, slots_given}
use Rattle.psb_model.proofs.ByObject.{by_cases}
use Rattle.psb_model.proofs.Prefixes.{state_snoc}
use Rattle.psb_model.proofs.Rows.{row_in-first_rows, note_lists}
use Rattle.psb_model.proofs.Steady.{allows, neither}
use Rattle.psb_model.proofs.Held.{or_none, any_more, any_less}
use Rattle.model_laws.proofs.HeldBytes.{none_ends}
use Rattle.model_laws.proofs.Along.{last_is}
use Rattle.placing_laws.proofs.Bare.{seen_at, seen_beside, has_in, has_in_blind}
use Rattle.placing_laws.specs.Laws.{WasGiven}
use Rattle.placing_laws.specs.Placing.{sets_slot}
use Rattle.placing_laws.proofs.Growing.{Steps, by_growth}

-- ---- slots of a list

abbrev has_slot : List InEntry → ℕ → Bool
has_slot l n = has in_key l (Slot n)

-- what is left was there
slot_left : (gone : List Object) (l : List InEntry) (n : ℕ) → has_slot (without in_key gone l) n ≡ true → has_slot l n ≡ true
slot_left gone l n h = any_less (λ (e : InEntry). object_eq (in_key e) (Slot n)) (λ e. not (listed gone (in_key e))) l h

-- a chunk that comes is none
slot_beside : (name : List ℕ) (u : ℕ) (gone : List Object) (l : List InEntry) (n : ℕ) → has_slot (with_one in_key (chunk_in name u) (without in_key gone l)) n ≡ true → has_slot l n ≡ true
slot_beside name u gone l n h =
    let rest = without in_key gone l in
    slot_left gone l n (sym (any_more in_key (λ (e : InEntry). object_eq (in_key e) (Slot n)) (chunk_in name u) rest ∙ or_none (has_slot rest n)) ∙ h)

-- where slots come, the others were there
slot_other : (numbers : List ℕ) (l : List InEntry) (n : ℕ) → list_any (λ m. m == n) numbers ≡ false → has_slot (with_all in_key (direct_slots numbers) l) n ≡ has_slot l n
slot_other [] l n none = refl
slot_other (m ∷ ms) l n none =
    let two = neither (m == n) (list_any (λ m. m == n) ms) none in
    slot_other ms (with_one in_key (direct_slot m) l) n two.1
    ∙ any_more in_key (λ (e : InEntry). object_eq (in_key e) (Slot n)) (direct_slot m) l
    ∙ ap (λ (b : Bool). has_slot l n || b) two.0 ∙ or_none (has_slot l n)

-- a settled deal brings no others
settled_slot : (s : State) (q : ℕ) (o : Option Deal) (numbers : List ℕ) (r : Row) (n : ℕ) → list_any (λ m. m == n) numbers ≡ false → has_slot (after_move (settle_move s (row s q) o numbers) r).ins n ≡ true → has_slot r.ins n ≡ true
settled_slot s q None numbers r n none h = slot_left [] r.ins n h
settled_slot s q (Some d) numbers r n none h = by_what d.what h
  where
    by_what : (w : DealWhat) → has_slot (after_move (settle_move s (row s q) (Some (record { number = d.number; what = w })) numbers) r).ins n ≡ true → has_slot r.ins n ≡ true
    by_what (own.Fresh name) k = slot_left [] r.ins n (sym (slot_other numbers (without in_key [] r.ins) n none) ∙ k)
    by_what (own.Swap name mine) k = slot_left [] r.ins n k
    by_what (own.Cancel name theirs) k = slot_left (slots theirs) r.ins n k
    by_what (own.PutBack name first) k = slot_left [] r.ins n k
    by_what (own.Forward slot entry) k = slot_left [] r.ins n k
    by_what (own.Return slot) k = slot_left [] r.ins n k

-- ---- a slot that a change does not give was there before it

-- by what the change moves in the row of its peer
slot_by : (s : State) (c : Change) (q p n : ℕ) → peer_of c ≡ Some q → is_peer s q ≡ true → ((q == p) ≡ true → has_slot (after_move (move_of s c) (row s p)).ins n ≡ true → has_slot (row s p).ins n ≡ true) → has_slot (row (after s c) p).ins n ≡ true → has_slot (row s p).ins n ≡ true
slot_by s c q p n peer here f is = by_cases (q == p)
    (λ k. f k (sym (seen_at (has_in (Slot n)) (has_in_blind (Slot n)) s c q p peer here k ∙ ap (λ l. has_slot l n) (note_lists s c (after_move (move_of s c) (row s p))).ins) ∙ is))
    (λ k. sym (seen_beside (has_in (Slot n)) (has_in_blind (Slot n)) s c q p peer here k) ∙ is)

was_there : (s : State) (c : Change) (p n : ℕ) → allowed s c ≡ true → is_begun c ≡ false → gives_slot p n c ≡ false → has_slot (row (after s c) p).ins n ≡ true → has_slot (row s p).ins n ≡ true
was_there s (Begun x) p n may b none is = absurd (false≢true (sym b))
was_there s (Kept x) p n may b none is = is
was_there s (Snapped x) p n may b none is = is
was_there s (Forgot x) p n may b none is = is
was_there s (Chose x) p n may b none is = is
was_there s (TookFresh x) p n may b none is = let c : Change = TookFresh x in slot_by s c x.peer p n refl (allows s c may).peer (λ k. slot_beside x.name (units x.len) [] (row s p).ins n) is
was_there s (TookSwap x) p n may b none is = let c : Change = TookSwap x in slot_by s c x.peer p n refl (allows s c may).peer (λ k. slot_beside x.name (units x.len) (slots x.slots) (row s p).ins n) is
was_there s (LetGo x) p n may b none is = let c : Change = LetGo x in slot_by s c x.peer p n refl (allows s c may).peer (λ k. slot_left (Chunk x.name ∷ []) (row s p).ins n) is
was_there s (LetGoBack x) p n may b none is = let c : Change = LetGoBack x in
    slot_by s c x.peer p n refl (allows s c may).peer (λ k h. slot_left (Chunk x.name ∷ []) (row s p).ins n (sym (slot_other x.slots (without in_key (Chunk x.name ∷ []) (row s p).ins) n (rw k at none)) ∙ h)) is
was_there s (Replaced x) p n may b none is = let c : Change = Replaced x in slot_by s c x.peer p n refl (allows s c may).peer (λ k. slot_left [] (row s p).ins n) is
was_there s (Refused x) p n may b none is = let c : Change = Refused x in slot_by s c x.peer p n refl (allows s c may).peer (λ k. slot_left [] (row s p).ins n) is
was_there s (Proposed x) p n may b none is = let c : Change = Proposed x in slot_by s c x.peer p n refl (allows s c may).peer (λ k. slot_left [] (row s p).ins n) is
was_there s (Settled x) p n may b none is = let c : Change = Settled x in
    slot_by s c x.peer p n refl (allows s c may).peer (λ k. settled_slot s x.peer (row s x.peer).pending x.slots (row s p) n (rw k at none)) is
was_there s (Turned x) p n may b none is = let c : Change = Turned x in slot_by s c x.peer p n refl (allows s c may).peer (λ k. slot_left [] (row s p).ins n) is
was_there s (Asked x) p n may b none is = let c : Change = Asked x in slot_by s c x.peer p n refl (allows s c may).peer (λ k. slot_left [] (row s p).ins n) is
was_there s (Passed x) p n may b none is = let c : Change = Passed x in slot_by s c x.peer p n refl (allows s c may).peer (λ k. slot_left [] (row s p).ins n) is
was_there s (Failed x) p n may b none is = let c : Change = Failed x in slot_by s c x.peer p n refl (allows s c may).peer (λ k. slot_left [] (row s p).ins n) is
was_there s (Declined x) p n may b none is = let c : Change = Declined x in slot_by s c x.peer p n refl (allows s c may).peer (λ k. slot_left [] (row s p).ins n) is
was_there s (Discarded x) p n may b none is = let c : Change = Discarded x in slot_by s c x.peer p n refl (allows s c may).peer (λ k. slot_left x.objects (row s p).ins n) is

-- ---- so each was given

-- what gives a slot bytes says what it has
pub gives_sets : (p n : ℕ) (c : Change) → gives_slot p n c ≡ true → sets_slot p n c ≡ true
gives_sets p n (Replaced x) k =
    let two = and_parts (x.peer == p) (list_any (λ m. m == n) (slots_given (Replaced x))) k in
    rw (two.0, slot_is (x.place == 0) two.1) refl
  where
    slot_is : (b : Bool) → list_any (λ m. m == n) (if b then x.slot ∷ [] else []) ≡ true → (x.slot == n) ≡ true
    slot_is true h = sym (or_none (x.slot == n)) ∙ h
    slot_is false h = absurd (false≢true h)
gives_sets p n _ k = k

-- the last that passes, of a change and what is found behind it
abbrev last_or : (Change → Bool) → Change → Option Change → Option Change
last_or f d o = elim o [ Some x ↦ Some x | None ↦ if f d then Some d else None ]

-- the last of more is the last of fewer, where it is one of these
none_narrow : (f g : Change → Bool) → ((c : Change) → g c ≡ true → f c ≡ true) → (h : List Change) → last_that f h ≡ None → last_that g h ≡ None
none_narrow f g more [] is = refl
none_narrow f g more (d ∷ ds) is = by_rest (λ e. none_narrow f g more ds e) (last_that f ds) refl is
  where
    by_rest : (last_that f ds ≡ None → last_that g ds ≡ None) → (o : Option Change) → last_that f ds ≡ o → last_or f d o ≡ None → last_that g (d ∷ ds) ≡ None
    by_rest again (Some x) e k = absurd (cc (k))
    by_rest again None e k = by_cases (g d)
        (λ t. let bad : Some d ≡ None = rw (more d t) at k in absurd (cc (bad)))
        (λ t. ap (last_or g d) (again e) ∙ rw t refl)

pub last_narrow : (f g : Change → Bool) → ((c : Change) → g c ≡ true → f c ≡ true) → (h : List Change) (c : Change) → last_that f h ≡ Some c → g c ≡ true → last_that g h ≡ Some c
last_narrow f g more [] c is t = absurd (cc (is))
last_narrow f g more (d ∷ ds) c is t = by_rest (λ e. last_narrow f g more ds c e t) (last_that f ds) refl is
  where
    step : (o : Option Change) → last_that g ds ≡ o → last_that g (d ∷ ds) ≡ last_or g d o
    step o e = ap (last_or g d) e

    by_rest : (last_that f ds ≡ Some c → last_that g ds ≡ Some c) → (o : Option Change) → last_that f ds ≡ o → last_or f d o ≡ Some c → last_that g (d ∷ ds) ≡ Some c
    by_rest again (Some x) e k = step (Some c) (again (e ∙ k))
    by_rest again None e k = by_cases (f d)
        (λ j. let same : d ≡ c = cc (rw j at k) in step None (none_narrow f g more ds e) ∙ rw (ap g same ∙ t) (ap (λ (x : Change). Some x) same))
        (λ j. let bad : None ≡ Some c = rw j at k in absurd (cc (bad)))

abbrev AllGiven : List Change → Type 0
AllGiven h = (p n : ℕ) → has_slot (row (state h) p).ins n ≡ true → WasGiven h p n

given_step : Steps AllGiven
given_step h c m all p n is =
    let now : has_slot (row (after (state h) c) p).ins n ≡ true = ap (λ (t : State). has_slot (row t p).ins n) (sym (state_snoc h c)) ∙ is in
    by_cases (gives_slot p n c)
    (λ k. record { change = c; last = last_is (gives_slot p n) h c k; setter = c; set = last_is (sets_slot p n) h c (gives_sets p n c k) })
    (λ k. by_cases (is_begun c)
    (λ b. absurd (false≢true (sym (none_begun c b) ∙ now)))
    (λ b. let was = all p n (was_there (state h) c p n m.may b k now) in
    let last = none_ends (gives_slot p n) h c k ∙ was.last in
    by_cases (sets_slot p n c)
    (λ j. record { change = was.change; last = last; setter = c; set = last_is (sets_slot p n) h c j })
    (λ j. record { change = was.change; last = last; setter = was.setter; set = none_ends (sets_slot p n) h c j ∙ was.set })))
  where
    none_begun : (d : Change) → is_begun d ≡ true → has_slot (row (after (state h) d) p).ins n ≡ false
    none_begun (Begun x) b = ap (λ (r : Row). has_slot r.ins n) (row_in-first_rows (settings_of_body x.body) p)
    none_begun _ b = absurd (false≢true b)

pub slot_given : (h : List Change) (p n : ℕ) → IsValid h → has in_key (row (state h) p).ins (Slot n) ≡ true → WasGiven h p n
slot_given h p n v is = by_growth AllGiven (λ q k none. absurd (false≢true none)) given_step h v p n is
