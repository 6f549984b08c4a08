-- What a node is made to keep in a run, and what that leaves.
use Rattle.std.specs.Prelude.{◌≡◌, ◌⊎◌, ℕ, Bool, true, List, ◌++◌, [], None, Result}
use Rattle.psb_station.specs.View.{View}
use Rattle.psb_station.specs.Calls.{Rose}
use Rattle.convergent_seal.specs.Sealing.{sealed, sealed_ref}
use Rattle.psb_station.specs.Span.{DiskWorks, Tells_bytes}
use Rattle.node_journal.specs.Entry.{Entry}
use Rattle.psb_machine.specs.Machine.{Situation, Keep}
use Rattle.psb_machine.specs.Course.{Step, after_all}
use Rattle.node_core.specs.declared.fault.Fault.{Fault}
use Rattle.node_core.specs.Refusing.{Refuses}
use Rattle.node_core.specs.Stored.{Knows, Stored}
use Rattle.node_core.specs.declared.node.Node.{Node}
use Rattle.node_serve.specs.Spans.{IsUp, Fed}
use Rattle.snapshot_backup.specs.Course.{keep_steps}
use Rattle.snapshot_backup.specs.Endings.{Ending, AllKept, Ends}
use Rattle.snapshot_backup.specs.Kept.{KeepsAll, Owns}

-- a run of calls of the disk, of which one failed exactly where the run says so
pub record Ran (failed : Type 0) (old new : View) : Type 0 where
  pub works : DiskWorks old new
  pub cause : failed → Rose old.disk_faults new.disk_faults
  pub steady : failed ⊎ (new.disk_faults ≡ old.disk_faults)

-- These pieces were to be kept in their order, from a situation on. `all` is whether each was; behind one that was not
-- nothing was tried.
pub record KeepsPieces {L : Type 0} (holds : L → List Entry → List ℕ → Type 0) (stands : List Entry → List ℕ → Type 0) (broken : L → Bool) (old new : Node L) (before now : View) (n : Situation) (pieces : List (List ℕ)) (all : Bool) : Type 0 where
  pub steps : List Step
  pub steps_are : steps ≡ keep_steps pieces
  pub fed : Fed holds stands broken old new before now n steps None all
  pub last : fed.undone ≡ []
  pub kept : all ≡ true → KeepsAll n.history (after_all n (keep_steps pieces)).history pieces

-- Of the pieces of something, the first ones were to be kept, and it ended so.
pub record KeepsFront {L : Type 0} (holds : L → List Entry → List ℕ → Type 0) (stands : List Entry → List ℕ → Type 0) (broken : L → Bool) (old new : Node L) (before now : View) (n : Situation) (pieces : List (List ℕ)) (end : Ending) : Type 0 where
  pub tried : List (List ℕ)
  pub rest : List (List ℕ)
  pub parts : pieces ≡ tried ++ rest
  pub all : Bool
  pub run : KeepsPieces holds stands broken old new before now n tried all
  pub ends : Ends end n tried rest all

-- What a call that keeps these pieces leaves, on every disk, by how it ends.
pub record KeepsSo {L : Type 0} (holds : L → List Entry → List ℕ → Type 0) (stands : List Entry → List ℕ → Type 0) (size : L → ℕ) (keeps : L → ℕ → Bool) (broken : L → Bool) (old new : Node L) (before now : View) (pieces : List (List ℕ)) (end : Ending) : Type 0 where
  pub front : Tells_bytes now → (n : Situation) → Knows old n → Stored holds old n.history before → KeepsFront holds stands broken old new before now n pieces end
  pub owns : end ≡ AllKept → Owns old.ledger.state new.ledger.state pieces
  pub up : end ≡ AllKept → IsUp holds size keeps broken new now
  pub works : DiskWorks before now

-- a piece is refused: other bytes are held under its name, or what stands there was altered
abbrev pub RefusesPiece : {R : Type 0} → Result R Fault → Type 0
RefusesPiece result = (plain : List ℕ) × Refuses (Keep (sealed_ref plain).name (sealed plain)) result

-- where the disk tells its bytes and held the history, what stands there was not altered
abbrev pub NoneAltered : {L : Type 0} → (L → List Entry → List ℕ → Type 0) → Node L → View → View → (List ℕ → Type 0) → Type 0
NoneAltered holds old before now says = (name : List ℕ) → says name → Tells_bytes now → (n : Situation) → Knows old n → Stored holds old n.history before → ⊥

-- how many refs the text of a skeleton has room for: 68 bytes each, behind the 12 of its mark and of the number of entries
abbrev pub most_refs : ℕ
most_refs = 986894
