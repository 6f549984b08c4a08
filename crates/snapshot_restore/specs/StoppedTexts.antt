-- What is left where a text could not be read.
use Rattle.std.specs.Prelude.{◌≡◌, ◌⊎◌, ℕ, Bool, List, [], Err}
use Rattle.psb_bytes.specs.declared.ids.Ref.{Ref}
use Rattle.psb_station.specs.View.{View}
use Rattle.node_journal.specs.Entry.{Entry}
use Rattle.node_core.specs.declared.node.Node.{Node}
use Rattle.skeleton.specs.Reading.{refs_of}
use Rattle.snapshot_restore.specs.Taken.{Taken, taken_text}
use Rattle.snapshot_restore.specs.Reading.{IsRead, AreFirst, IsTooLong, StopsInText}
use Rattle.snapshot_restore.specs.Fetching.{Stops}
use Rattle.snapshot_restore.specs.declared.fault.RestoreFault.{RestoreFault}
use Rattle.snapshot_restore.specs.declared.fault.RestoreFault.TheVariants as restore_fault
use Rattle.snapshot_restore.specs.declared.waiting.Waiting.{Waiting}

-- at a text that is too long, or at a place of one that is not
abbrev pub StopsInOne : List Ref → List Taken → List Ref → RestoreFault → Type 0
StopsInOne refs ts next (restore_fault.BadSkeleton fault place) = IsTooLong refs ts fault place × (next ≡ [])
StopsInOne refs ts next e = AreFirst refs ts next

-- some of the places of these refs were read, the first ones, or the text would be too long
pub record StopsText {L : Type 0} (holds : L → List Entry → List ℕ → Type 0) (stands : List Entry → List ℕ → Type 0) (broken : L → Bool) (w0 w1 : Waiting) (old new : Node L) (before now : View) (refs : List Ref) (e : RestoreFault) : Type 0 where
  pub ts : List Taken
  pub next : List Ref
  pub here : StopsInOne refs ts next e
  pub stops : Stops holds stands broken w0 w1 old new before now ts next e

-- or all of them were, and they spell no list of refs
abbrev pub StopsInList : List Ref → List Taken → List Ref → RestoreFault → Type 0
StopsInList refs ts next (restore_fault.BadSkeleton fault place) = (IsTooLong refs ts fault place ⊎ (IsRead refs ts × (refs_of (taken_text ts) ≡ Err (record { fault = fault; place = place })))) × (next ≡ [])
StopsInList refs ts next e = AreFirst refs ts next

pub record StopsList {L : Type 0} (holds : L → List Entry → List ℕ → Type 0) (stands : List Entry → List ℕ → Type 0) (broken : L → Bool) (w0 w1 : Waiting) (old new : Node L) (before now : View) (refs : List Ref) (e : RestoreFault) : Type 0 where
  pub ts : List Taken
  pub next : List Ref
  pub here : StopsInList refs ts next e
  pub stops : Stops holds stands broken w0 w1 old new before now ts next e

-- the same of the text behind so many lists of refs
pub record StopsLevels {L : Type 0} (holds : L → List Entry → List ℕ → Type 0) (stands : List Entry → List ℕ → Type 0) (broken : L → Bool) (w0 w1 : Waiting) (old new : Node L) (before now : View) (levels : ℕ) (refs : List Ref) (e : RestoreFault) : Type 0 where
  pub ts : List Taken
  pub next : List Ref
  pub here : StopsInText levels refs ts next e
  pub stops : Stops holds stands broken w0 w1 old new before now ts next e
