-- The headline of `ledger` and of `snapshots`: lines on the state of the history that the disk holds.
use Rattle.std.specs.Prelude.{◌≡◌, ◌⊎◌, ℕ, ◌≤◌, Bool, true, false, List, [], ◌∷◌, length, None}
use Rattle.psb_station.specs.View.{View}
use Rattle.node_journal.specs.Entry.{Entry}
use Rattle.psb_settings.specs.declared.settings.Settings.{Settings}
use Rattle.psb_model.specs.State.{State}
use Rattle.psb_model.specs.declared.change.Change.{Change}
use Rattle.psb_machine.specs.Course.{Step, Tell, Say}
use Rattle.psb_machine.specs.Commands.{says}
use Rattle.backup_cli.specs.Commanded.{Commanded}
use Rattle.said_lines.specs.Says.{IsRefusal, ledger_lines, snapshot_lines}
use Rattle.backup_cli.specs.Served.{ending_of, refused_of}
use Rattle.backup_cli.specs.declared.listing.Listing.{Listing}
use Rattle.backup_cli.specs.declared.listing.Listing.TheVariants.{Peers, Snapshots}
use Rattle.said_lines.specs.declared.status.Status.{Status}
use Rattle.said_lines.specs.declared.status.Status.TheVariants.{Done, DiskFault, SayFault, Memory}

-- the step that failed, if the node was opened: the saying of a line
abbrev pub FailsToSay : Status → List Step → Type 0
FailsToSay Done failed = failed ≡ []
FailsToSay SayFault failed = (line : List ℕ) × (failed ≡ Tell (Say line) ∷ [])
FailsToSay Memory failed = failed ≡ []
FailsToSay _ failed = ⊥

-- the lines of a listing at a state
abbrev pub listed_lines : Listing → Settings → State → List (List ℕ)
listed_lines Peers settings s = ledger_lines settings s
listed_lines Snapshots settings s = snapshot_lines s

-- A command that says lines, on a disk that holds a history, up to a status. Its course is these lines.
pub record Lists (stands : List Entry → List ℕ → Type 0) (h : List Change) (lines : List (List ℕ)) (opened : Bool) (old new : View) (status : Status) : Type 0 where
  pub unopened : opened ≡ false → (status ≡ DiskFault) ⊎ (status ≡ Memory)
  -- the line of a refusal, or what of it was said
  pub refusal : List ℕ
  pub how : IsRefusal status refusal old new
  pub course : Commanded stands h opened (says lines) None refusal (refused_of status) old new (ending_of status)
  pub fails : opened ≡ true → FailsToSay status course.failed
  -- where memory was short for a line, it is left undone
  pub unsaid : opened ≡ true → status ≡ Memory → 1 ≤ length course.undone
  -- nothing is changed, heard or sent
  pub bytes : new.bytes ≡ old.bytes
  pub images : (c : List ℕ) (k : ℕ) → new.left_since old.moment c k → old.may_leave c
  pub kept : new.outside ≡ record old.outside { said = new.outside.said; say_faults = new.outside.say_faults }
