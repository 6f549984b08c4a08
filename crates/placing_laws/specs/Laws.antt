-- The laws of one valid history about what stands with peers, and here for them.
use Rattle.std.specs.Prelude.{◌≡◌, ℕ, Bool, true, false, ◌||◌, ◌&&◌, ◌==◌, List, [], ◌∷◌, ◌++◌, Some}
use Rattle.psb_bytes.specs.Units.{units}
use Rattle.psb_bytes.specs.declared.ids.Object.TheVariants.{Chunk, Slot}
use Rattle.psb_model.specs.Words.{name_eq, listed, has, units_at}
use Rattle.psb_model.specs.State.{State, row, in_key, in_size, out_key, out_size, debt_key, own_has, own_len}
use Rattle.psb_model.specs.History.{state}
use Rattle.psb_model.specs.Needed.{IsValid, last_that, gives_slot}
use Rattle.placing_laws.specs.Placing.{sets_slot}
use Rattle.psb_model.specs.declared.change.Change.{Change}
use Rattle.psb_model.specs.declared.change.Change.TheVariants.{LetGo, LetGoBack, Discarded}

-- what p has there or lost is own, and what it has counts as its length asks for
pub record AreOwn (s : State) (p : ℕ) : Type 0 where
  pub own : (n : List ℕ) → (has out_key (row s p).outs (Chunk n) || has debt_key (row s p).debts (Chunk n)) ≡ true → own_has s.own n ≡ true
  pub units : (n : List ℕ) → has out_key (row s p).outs (Chunk n) ≡ true → units_at out_key out_size (row s p).outs (Chunk n) ≡ units (own_len s.own n)

abbrev pub PlacedAreOwn : Type 0
PlacedAreOwn = (h : List Change) (p : ℕ) → IsValid h → AreOwn (state h) p

-- p lets the chunk go, or it is discarded
abbrev pub takes_away : Change → ℕ → List ℕ → Bool
takes_away (LetGo x) p n = (x.peer == p) && name_eq x.name n
takes_away (LetGoBack x) p n = (x.peer == p) && name_eq x.name n
takes_away (Discarded x) p n = (x.peer == p) && listed x.objects (Chunk n)
takes_away _ p n = false

-- the chunk stands here for p, with as many units as before
pub record StaysHere (s t : State) (p : ℕ) (n : List ℕ) : Type 0 where
  pub there : has in_key (row t p).ins (Chunk n) ≡ true
  pub units : units_at in_key in_size (row t p).ins (Chunk n) ≡ units_at in_key in_size (row s p).ins (Chunk n)

abbrev pub ChunksStay : Type 0
ChunksStay = (h : List Change) (c : Change) (p : ℕ) (n : List ℕ) → IsValid h → IsValid (h ++ c ∷ []) → takes_away c p n ≡ false → has in_key (row (state h) p).ins (Chunk n) ≡ true → StaysHere (state h) (state (h ++ c ∷ [])) p n

-- some change gave the slot bytes, and this one did last; and this one said last what it has, which may be an own claim
-- that a change names
pub record WasGiven (h : List Change) (p s : ℕ) : Type 0 where
  pub change : Change
  pub last : last_that (gives_slot p s) h ≡ Some change
  pub setter : Change
  pub set : last_that (sets_slot p s) h ≡ Some setter

abbrev pub SlotsWereGiven : Type 0
SlotsWereGiven = (h : List Change) (p s : ℕ) → IsValid h → has in_key (row (state h) p).ins (Slot s) ≡ true → WasGiven h p s
