-- A command on a disk that holds a history: one record for the course of any command.
use Rattle.std.specs.Prelude.{◌≡◌, ◌⊎◌, ℕ, ◌+◌, ◌≤◌, Bool, true, false, List, [], ◌++◌, length, Option}
use Rattle.psb_station.specs.View.{View}
use Rattle.psb_station.specs.Calls.{Grows}
use Rattle.psb_station.specs.Span.{Shows, Leaves}
use Rattle.node_journal.specs.Entry.{Entry}
use Rattle.psb_model.specs.declared.change.Change.{Change}
use Rattle.psb_machine.specs.Machine.{fresh}
use Rattle.psb_machine.specs.Course.{Step, after_all, tellings, sent_in, said_in, tried_in}
use Rattle.node_history.specs.Stands.{ReopensTo}
use Rattle.node_serve.specs.Sends.{ToldMore, AreSent, LostFor}
use Rattle.node_serve.specs.Spans.{IsPrefix, Tally, Counted}
use Rattle.said_lines.specs.Lines.{joined_lines}

-- How a command ended: all of its course was done; it stopped, and the node stands behind what was done
-- (want of memory, a fault of the link, of a folder or of the output); or it stopped at a fault of the disk.
pub data Ending : Type 0 where
  Through : Ending
  Halted : Ending
  Harmed : Ending

-- what is promised of the end, unless the disk failed
abbrev pub UnlessHarmed : Ending → Type 0 → Type 0
UnlessHarmed Through P = P
UnlessHarmed Halted P = P
UnlessHarmed Harmed P = Unit {0}

abbrev pub IfThrough : Ending → Type 0 → Type 0
IfThrough Through P = P
IfThrough Halted P = Unit {0}
IfThrough Harmed P = Unit {0}

-- how much was told in so much of a course, and a refusal that took so many sayings
abbrev pub told_in : List Change → List Step → List Step → ℕ → ℕ
told_in h done failed refused = length (tellings (fresh h) done) + tried_in failed + refused

-- An image reopens to a prefix of the history, with what the steps made of it, that has each change told
-- of by then; and by then no more was told than they tell.
abbrev pub IsMoment : (List Entry → List ℕ → Type 0) → List Change → List Step → List Step → ℕ → ℕ → List ℕ → ℕ → Type 0
IsMoment stands h done failed refused first c k = IsPrefix stands (fresh h) done failed first c k × (k ≤ first + told_in h done failed refused)

-- A command on a disk that holds the history h, from the opening of its node on. The course is the
-- command's, by what was heard and by what its folder held, with its lines at the end. `refusal` is what
-- was said when it stopped: one line, or nothing; and `refused` how many sayings that took.
pub record Commanded (stands : List Entry → List ℕ → Type 0) (h : List Change) (opened : Bool) (course : List Step) (counts : Option Tally) (refusal : List ℕ) (refused : ℕ) (old new : View) (end : Ending) : Type 0 where
  -- what was done, the one step at most that failed, and what was left undone
  pub done : List Step
  pub failed : List Step
  pub undone : List Step
  pub parts : course ≡ done ++ failed ++ undone
  pub one : length failed ≤ 1
  pub whole : IfThrough end ((opened ≡ true) × (failed ≡ []) × (undone ≡ []))
  -- if the node was not opened, nothing was done
  pub unopened : opened ≡ false → (done ≡ []) × (failed ≡ []) × (new.bytes ≡ old.bytes)
  -- the disk stands for the history with what was done: what failed changed nothing
  pub stands_for : opened ≡ true → UnlessHarmed end (Shows (ReopensTo stands (after_all (fresh h) done).history) new)
  -- what was told outside: frames in their order without those that were lost, and lines
  pub told : ToldMore old.told new.told (told_in h done failed refused)
  pub lost : ℕ
  -- each letter of what was done was tried once, in order; these were sent
  pub tried : Grows old.outside.tried new.outside.tried (sent_in (fresh h) done)
  pub sent : (out : List (ℕ × List ℕ)) × AreSent (sent_in (fresh h) done) out lost × Grows old.outside.sent new.outside.sent out
  pub lost_cause : LostFor lost old.outside.send_faults new.outside.send_faults
  pub said : Grows old.outside.said new.outside.said (joined_lines (said_in (fresh h) done) ++ refusal)
  pub counted : Counted counts (fresh h) done lost
  -- whenever it stops: what the disk might have left at entry, when nothing had been told yet or the
  -- node was never opened; or a prefix that has each change told of by then
  pub any_moment : (c : List ℕ) (k : ℕ) → new.left_since old.moment c k
      → (old.may_leave c × ((k ≡ old.told) ⊎ (opened ≡ false))) ⊎ IsMoment stands h done failed refused old.told c k

-- a command from where its node was opened: what a crash leaves from there on is such a prefix
abbrev pub CommandedOn : (List Entry → List ℕ → Type 0) → List Change → List Step → Option Tally → List ℕ → ℕ → View → View → Ending → Type 0
CommandedOn stands h course counts refusal refused old new end =
    (d : Commanded stands h true course counts refusal refused old new end) × Leaves old new (λ c k. IsMoment stands h d.done d.failed refused old.told c k)
