-- The names whose bytes a history lacks, and the slots.
use Rattle.std.specs.Prelude.{◌≡◌, ℕ, Bool, false, not, if◌then◌else◌, List, Option, Some, None}
use Rattle.std.specs.Ordering.{nat_cmp}
use Rattle.std.specs.Cmp.Lexicographic.{slice_cmp}
use Rattle.std.specs.BTreeSet.{contains}
use Rattle.psb_model.specs.Needed.{brings_name, gives_slot, body_is_right, last_that, last_bringing}
use Rattle.psb_model.specs.declared.change.Change.{Change}
use Rattle.node_history.specs.contracts.lacking.SlotAtOrd.TheImpl.{cmp-value as slot_cmp}
use Rattle.node_history.specs.declared.lacking.Lacking.{Lacking}

-- a change that brings bytes does not have them
abbrev pub lacks : Option Change → Bool
lacks None = false
lacks (Some c) = not (body_is_right c)

-- the last change that brings the bytes of the name does not have them
abbrev pub lacks_name : List ℕ → List Change → Bool
lacks_name name h = lacks (last_bringing name h)

-- nor does the last one that gives the slot of p its bytes
abbrev pub lacks_slot : ℕ → ℕ → List Change → Bool
lacks_slot p n h = lacks (last_that (gives_slot p n) h)

-- the table has the name, or the slot of p
abbrev pub is_lacking : Lacking → List ℕ → Bool
is_lacking w name = contains (slice_cmp nat_cmp) w.names name

abbrev pub is_slot_lacking : Lacking → ℕ → ℕ → Bool
is_slot_lacking w p n = contains slot_cmp.it w.slots (record { peer = p; slot = n })

-- the table has the names and the slots whose bytes the history lacks
pub record KnowsLacking (w : Lacking) (h : List Change) : Type 0 where
  pub names : (name : List ℕ) → is_lacking w name ≡ lacks_name name h
  pub slots : (p n : ℕ) → is_slot_lacking w p n ≡ lacks_slot p n h

-- what the change brings, or gives, is in the table if the change does not have its bytes, and all else as before
pub record NotesLacking (old new : Lacking) (c : Change) : Type 0 where
  pub names : (name : List ℕ) → is_lacking new name ≡ (if brings_name name c then not (body_is_right c) else is_lacking old name)
  pub slots : (p n : ℕ) → is_slot_lacking new p n ≡ (if gives_slot p n c then not (body_is_right c) else is_slot_lacking old p n)
