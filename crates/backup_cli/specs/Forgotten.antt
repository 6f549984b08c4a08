-- The headline of `forget`.
use Rattle.std.specs.Prelude.{◌≡◌, ◌⊎◌, ℕ, Bool, true, false, List, [], ◌∷◌, None}
use Rattle.psb_station.specs.View.{View}
use Rattle.psb_station.specs.Span.{Leaves}
use Rattle.node_journal.specs.Entry.{Entry}
use Rattle.psb_model.specs.History.{state}
use Rattle.psb_model.specs.declared.change.Change.{Change}
use Rattle.psb_machine.specs.Machine.{Forget, has_snapshot}
use Rattle.psb_machine.specs.Course.{Step, Absorb, Tell, Say}
use Rattle.psb_machine.specs.Commands.{says}
use Rattle.backup_cli.specs.Commanded.{Commanded, IsMoment}
use Rattle.said_lines.specs.Lines.{forgot_line}
use Rattle.said_lines.specs.Says.{IsRefusal}
use Rattle.backup_cli.specs.Served.{ending_of, refused_of}
use Rattle.said_lines.specs.declared.status.Status.{Status}
use Rattle.said_lines.specs.declared.status.Status.TheVariants.{Done, DiskFault, SayFault, NoSnapshot, Memory}

-- the number is absorbed, and then its line is said
abbrev pub forget_course : ℕ → List Step
forget_course number = Absorb (Forget number) ∷ says (forgot_line number ∷ [])

-- the step that failed, if the node was opened: the saying of the line, or the input
abbrev pub FailsToForget : ℕ → Status → List Step → Type 0
FailsToForget number Done failed = failed ≡ []
FailsToForget number SayFault failed = failed ≡ Tell (Say (forgot_line number)) ∷ []
FailsToForget number DiskFault failed = failed ≡ Absorb (Forget number) ∷ []
FailsToForget number (NoSnapshot k) failed = failed ≡ Absorb (Forget number) ∷ []
FailsToForget number Memory failed = failed ≡ Absorb (Forget number) ∷ []
FailsToForget number _ failed = ⊥

-- whether the number is that of a kept snapshot: it is where it was given up, and it is not where it is
-- refused, by its own name
pub record Finds (h : List Change) (number : ℕ) (status : Status) : Type 0 where
  pub present : (status ≡ Done) ⊎ (status ≡ SayFault) → has_snapshot (state h) number ≡ true
  pub absent : (k : ℕ) → status ≡ NoSnapshot k → (k ≡ number) × (has_snapshot (state h) number ≡ false)

-- `forget NUMBER` on a disk that holds a history, up to a status
pub record Forgets (stands : List Entry → List ℕ → Type 0) (h : List Change) (number : ℕ) (opened : Bool) (old new : View) (status : Status) : Type 0 where
  pub unopened : opened ≡ false → (status ≡ DiskFault) ⊎ (status ≡ Memory)
  pub finds : Finds h number status
  -- the line of a refusal, or what of it was said
  pub refusal : List ℕ
  pub how : IsRefusal status refusal old new
  pub course : Commanded stands h opened (forget_course number) None refusal (refused_of status) old new (ending_of status)
  pub fails : opened ≡ true → FailsToForget number status course.failed
  -- nothing is heard or sent
  pub kept : new.outside ≡ record old.outside { said = new.outside.said; say_faults = new.outside.say_faults }

-- of a node that was opened: what a crash leaves from its begin on is a prefix of what its course makes
abbrev pub ForgetsOn : (List Entry → List ℕ → Type 0) → List Change → ℕ → View → View → Status → Type 0
ForgetsOn stands h number old new status =
    (f : Forgets stands h number true old new status)
    × Leaves old new (λ c k. IsMoment stands h f.course.done f.course.failed (refused_of status) old.told c k)

-- why the snapshot of a node that was opened was not given up
abbrev pub StopsForget : ℕ → Status → Type 0
StopsForget number status = (status ≡ DiskFault) ⊎ (status ≡ Memory) ⊎ (status ≡ NoSnapshot number)
