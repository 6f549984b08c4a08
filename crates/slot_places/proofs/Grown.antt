-- The records of slots follow the history.
use Rattle.std.proofs.Common.{◌≡◌, ℕ, ◌+◌, ◌<◌, Bool, true, false, not, ◌||◌, ◌&&◌, ◌==◌, cond, List, [], ◌∷◌, ◌++◌, length, Option, Some, None, refl, sym, ◌∙◌, ap, subst, arith}
use Rattle.std.specs.List.{list_any}
use Rattle.std.proofs.lemmas.Bool.{false≢true}
use Rattle.psb_bytes.specs.declared.ids.Object.TheVariants.{Slot}
use Rattle.psb_model.specs.declared.entries.InEntry.{InEntry}
use Rattle.psb_model.specs.declared.deals.Deal.{Deal}
use Rattle.psb_model.specs.declared.deals.DealWhat.{DealWhat}
use Rattle.psb_model.specs.declared.deals.DealWhat.TheVariants.{Fresh, Swap, Cancel, PutBack, Forward, Return}
use Rattle.psb_model.specs.declared.change.Change.{Change}
use Rattle.psb_model.specs.declared.change.Change.TheVariants.{Begun, TookSwap, LetGoBack, Replaced, Settled, Discarded}
use Rattle.psb_model.specs.Words.{listed, slots, has, object_eq}
use Rattle.psb_model.specs.State.{Row, State, row, in_key}
use Rattle.psb_model.specs.Conditions.{allowed, is_direct, is_begun, peer_of, settings_of_body}
use Rattle.psb_model.specs.Effects.{move_of, settle_move, after}
use Rattle.psb_model.specs.History.{state}
use Rattle.psb_model.specs.Needed.{slots_given, gives_slot, last_place}
use Rattle.psb_model.proofs.ByObject.{by_cases}
use Rattle.psb_model.proofs.Held.{and_none}
use Rattle.psb_model.proofs.Prefixes.{state_snoc}
use Rattle.psb_model.proofs.Rows.{row_in-first_rows}
use Rattle.psb_model.proofs.Steady.{begun_before}
use Rattle.model_laws.proofs.Directs.{has_direct, was_direct}
use Rattle.peer_account.specs.States.{given}
use Rattle.slot_places.specs.declared.moved.SlotsMoved.{SlotsMoved}
use Rattle.slot_places.specs.declared.moved.SlotsMoved.TheVariants.{Nothing, Moves}
use Rattle.slot_places.specs.declared.tables.SlotTables.{SlotTables}
use Rattle.slot_places.specs.Moves.{IsMoved, is_given, may_leave, leaves_slot, slot_after}
use Rattle.slot_places.specs.Slots.{slot_record, KnowsSlots, AreBelow}
use Rattle.slot_places.specs.Enters.{Moved, EntersSlots}

-- ---- one change more

abbrev or_here : Option ℕ → Bool → ℕ → Option ℕ
or_here later here n = elim later [ Some k ↦ Some k | None ↦ cond here (Some n) None ]

pub place_snoc : (n : ℕ) (test : Change → Bool) (h : List Change) (c : Change) → last_place n test (h ++ c ∷ []) ≡ cond (test c) (Some (n + length h)) (last_place n test h)
place_snoc n test [] c = ap (λ (k : ℕ). cond (test c) (Some k) None) (omega arith)
place_snoc n test (d ∷ h) c = ap (λ (o : Option ℕ). or_here o (test d) n) (place_snoc (n + 1) test h c) ∙ at (test c)
  where
    at : (b : Bool) → or_here (cond b (Some ((n + 1) + length h)) (last_place (n + 1) test h)) (test d) n ≡ cond b (Some (n + length (d ∷ h))) (or_here (last_place (n + 1) test h) (test d) n)
    at true = ap (λ (k : ℕ). Some k) (omega arith)
    at false = refl

-- ---- what was worked out of a change is what it does

listed_any : (numbers : List ℕ) (n : ℕ) → listed (slots numbers) (Slot n) ≡ list_any (λ m. m == n) numbers
listed_any [] n = refl
listed_any (m ∷ ms) n = ap (λ (b : Bool). m == n || b) (listed_any ms n)

-- a change that gives no slots, or takes none
gives_none : (c : Change) (p n : ℕ) → slots_given c ≡ [] → gives_slot p n c ≡ false
gives_none c p n none = by_peer (peer_of c)
  where
    by_peer : (o : Option ℕ) → elim o [ None ↦ false | Some q ↦ q == p && list_any (λ m. m == n) (slots_given c) ] ≡ false
    by_peer None = refl
    by_peer (Some q) = ap (λ l. q == p && list_any (λ m. m == n) l) none ∙ and_none (q == p)

leaves_none : (s : State) (c : Change) (p n : ℕ) → listed (move_of s c).in_gone (Slot n) ≡ false → leaves_slot s c p n ≡ false
leaves_none s c p n none = by_peer (peer_of c)
  where
    by_peer : (o : Option ℕ) → elim o [ None ↦ false | Some q ↦ q == p && listed (move_of s c).in_gone (Slot n) ] ≡ false
    by_peer None = refl
    by_peer (Some q) = ap (λ b. q == p && b) none ∙ and_none (q == p)

pub gives_as : (s : State) (c : Change) (m : SlotsMoved) → IsMoved s c m → (p n : ℕ) → is_given m p n ≡ gives_slot p n c
gives_as s (TookSwap x) m is p n = ap (λ y. is_given y p n) is
gives_as s (LetGoBack x) m is p n = ap (λ y. is_given y p n) is ∙ ap (λ b. x.peer == p && b) (listed_any x.slots n)
gives_as s (Replaced x) m is p n = ap (λ y. is_given y p n) is ∙ by_place (x.place == 0)
  where
    by_place : (b : Bool) → is_given (cond b (Moves x.peer (x.slot ∷ []) []) Nothing) p n ≡ (x.peer == p && list_any (λ m. m == n) (cond b (x.slot ∷ []) []))
    by_place true = refl
    by_place false = sym (and_none (x.peer == p))
gives_as s (Settled x) m is p n = ap (λ y. is_given y p n) is ∙ ap (λ b. x.peer == p && b) (listed_any x.slots n)
gives_as s (Discarded x) m is p n = ap (λ y. is_given y p n) is.1
gives_as s c m is p n = ap (λ y. is_given y p n) is ∙ sym (gives_none c p n refl)

-- a settled Cancel takes the slots that it gave for its chunk
settle_gone : (s : State) (r : Row) (o : Option Deal) (numbers : List ℕ) (n : ℕ) → listed (slots (given o)) (Slot n) ≡ listed (settle_move s r o numbers).in_gone (Slot n)
settle_gone s r None numbers n = refl
settle_gone s r (Some d) numbers n = by_what d.what
  where
    by_what : (w : DealWhat) → listed (slots (given (Some (record { number = d.number; what = w })))) (Slot n) ≡ listed (settle_move s r (Some (record { number = d.number; what = w })) numbers).in_gone (Slot n)
    by_what (Fresh name) = refl
    by_what (Swap name mine) = refl
    by_what (Cancel name theirs) = refl
    by_what (PutBack name first) = refl
    by_what (Forward slot entry) = refl
    by_what (Return slot) = refl

pub leaves_as : (s : State) (c : Change) (m : SlotsMoved) → IsMoved s c m → (p n : ℕ) → may_leave m p n ≡ leaves_slot s c p n
leaves_as s (TookSwap x) m is p n = ap (λ y. may_leave y p n) is
leaves_as s (LetGoBack x) m is p n = ap (λ y. may_leave y p n) is
leaves_as s (Replaced x) m is p n = ap (λ y. may_leave y p n) is ∙ by_place (x.place == 0)
  where
    by_place : (b : Bool) → may_leave (cond b (Moves x.peer (x.slot ∷ []) []) Nothing) p n ≡ (x.peer == p && false)
    by_place true = refl
    by_place false = sym (and_none (x.peer == p))
leaves_as s (Settled x) m is p n = ap (λ y. may_leave y p n) is ∙ ap (λ b. x.peer == p && b) (settle_gone s (row s x.peer) (row s x.peer).pending x.slots n)
leaves_as s (Discarded x) m is p n = ap (λ y. may_leave y p n) is.1 ∙ ap (λ b. x.peer == p && b) (is.2 n)
leaves_as s c m is p n = ap (λ y. may_leave y p n) is ∙ sym (leaves_none s c p n refl)

-- so the change enters what was worked out of it
pub moved_enters : (old new : SlotTables) (m : SlotsMoved) (number : ℕ) (left s : State) (c : Change) → Moved old new m number left → IsMoved s c m → left ≡ after s c → EntersSlots s old new c number
moved_enters old new m number left s c moved is left_is = λ p n. moved p n ∙ (λ i. slot_after (gives_as s c m is p n i) (leaves_as s c m is p n i) (has in_key (row (left_is i) p).ins (Slot n)) number (slot_record old p n))

-- ---- what is known stays known

direct_there : (l : List InEntry) (n : ℕ) → has_direct l n ≡ true → has in_key l (Slot n) ≡ true
direct_there [] n is = absurd (false≢true is)
direct_there (e ∷ es) n is = at (object_eq (in_key e) (Slot n)) (is_direct e) is (direct_there es n)
  where
    at : (a b : Bool) → ((a && b) || has_direct es n) ≡ true → (has_direct es n ≡ true → has in_key es (Slot n) ≡ true) → (a || has in_key es (Slot n)) ≡ true
    at true b is rest = refl
    at false b is rest = rest is

begun_blank : (s : State) (c : Change) (p n : ℕ) → is_begun c ≡ true → has_direct (row (after s c) p).ins n ≡ false
begun_blank s (Begun x) p n is = ap (λ (r : Row). has_direct r.ins n) (row_in-first_rows (settings_of_body x.body) p)
begun_blank s c p n is = absurd (false≢true is)

-- a slot whose bytes are here, and not from this change, had them before
pub direct_before : (s : State) (c : Change) (p n : ℕ) → allowed s c ≡ true → has_direct (row (after s c) p).ins n ≡ true → gives_slot p n c ≡ false → has_direct (row s p).ins n ≡ true
direct_before s c p n may direct none = by_cases (is_begun c)
    (λ k. absurd (false≢true (sym (begun_blank s c p n k) ∙ direct)))
    (λ k. was_direct s c p n (begun_before s c k may) may direct none)

after_none : (g l stays : Bool) (number : ℕ) (o : Option ℕ) → g ≡ false → stays ≡ true → slot_after g l stays number o ≡ o
after_none g true stays number o none there = rw (none, there) refl
after_none g false stays number o none there = rw none refl

after_given : (g l stays : Bool) (number : ℕ) (o : Option ℕ) → g ≡ true → slot_after g l stays number o ≡ Some number
after_given g l stays number o is = rw is refl

pub slots_grown : (old new : SlotTables) (h : List Change) (c : Change) → allowed (state h) c ≡ true → KnowsSlots old h → EntersSlots (state h) old new c (length h) → KnowsSlots new (h ++ c ∷ [])
slots_grown old new h c may knows enters = λ p n direct.
    let s = state h in
    let test : Change → Bool = gives_slot p n in
    let now : has_direct (row (after s c) p).ins n ≡ true = ap (λ (x : State). has_direct (row x p).ins n) (sym (state_snoc h c)) ∙ direct in
    enters p n ∙ by_cases (test c)
    (λ k. after_given (test c) (leaves_slot s c p n) (has in_key (row (after s c) p).ins (Slot n)) (length h) (slot_record old p n) k ∙ ap (λ (i : ℕ). Some i) (omega arith) ∙ sym (place_snoc 0 test h c ∙ ap (λ b. cond b (Some (0 + length h)) (last_place 0 test h)) k))
    (λ k. after_none (test c) (leaves_slot s c p n) (has in_key (row (after s c) p).ins (Slot n)) (length h) (slot_record old p n) k (direct_there (row (after s c) p).ins n now) ∙ knows p n (direct_before s c p n may now k) ∙ sym (place_snoc 0 test h c ∙ ap (λ b. cond b (Some (0 + length h)) (last_place 0 test h)) k))

-- the same, by what was worked out
pub moved_grown : (old new : SlotTables) (m : SlotsMoved) (number : ℕ) (left : State) → Moved old new m number left → (h : List Change) (c : Change) → allowed (state h) c ≡ true → IsMoved (state h) c m → left ≡ state (h ++ c ∷ []) → number ≡ length h → KnowsSlots old h → KnowsSlots new (h ++ c ∷ [])
moved_grown old new m number left moved h c may is left_is counted knows =
    slots_grown old new h c may knows (subst (λ (k : ℕ). EntersSlots (state h) old new c k) counted (moved_enters old new m number left (state h) c moved is (left_is ∙ state_snoc h c)))

below_after : (g l stays : Bool) (number k : ℕ) (o : Option ℕ) → slot_after g l stays number o ≡ Some k → (o ≡ Some k → k < number) → k < number + 1
below_after true l stays number k o is below = let same : number ≡ k = cc (is) in omega (arith, same)
below_after false l stays number k o is below = at (l && not stays) is
  where
    at : (b : Bool) → cond b None o ≡ Some k → k < number + 1
    at true none = absurd (cc (none))
    at false old = omega (arith, below old)

pub moved_below : (old new : SlotTables) (m : SlotsMoved) (number : ℕ) (left : State) → Moved old new m number left → AreBelow old number → AreBelow new (number + 1)
moved_below old new m number left moved below = λ p n k is. below_after (is_given m p n) (may_leave m p n) (has in_key (row left p).ins (Slot n)) number k (slot_record old p n) (sym (moved p n) ∙ is) (below p n k)

pub slots_below : (old new : SlotTables) (s : State) (c : Change) (number : ℕ) → EntersSlots s old new c number → AreBelow old number → AreBelow new (number + 1)
slots_below old new s c number enters below = λ p n k is. below_after (gives_slot p n c) (leaves_slot s c p n) (has in_key (row (after s c) p).ins (Slot n)) number k (slot_record old p n) (sym (enters p n) ∙ is) (below p n k)

-- room that is made first leaves the records as they were
pub slots_room : (old mid new : SlotTables) (s : State) (c : Change) (number : ℕ) → ((p n : ℕ) → slot_record mid p n ≡ slot_record old p n) → EntersSlots s mid new c number → EntersSlots s old new c number
slots_room old mid new s c number same enters = λ p n. enters p n ∙ ap (slot_after (gives_slot p n c) (leaves_slot s c p n) (has in_key (row (after s c) p).ins (Slot n)) number) (same p n)
