-- What is fed to a node in a run, and the moments of the run.
use Rattle.std.specs.Prelude.{◌≡◌, ℕ, ◌+◌, ◌-◌, ◌≤◌, Bool, true, false, if◌then◌else◌, List, [], ◌∷◌, ◌++◌, length, take, flat_map, Option, Some, None}
use Rattle.psb_station.specs.View.{View, Heard}
use Rattle.psb_station.specs.Calls.{Grows}
use Rattle.psb_station.specs.Span.{Leaves, Tells_bytes}
use Rattle.node_journal.specs.Entry.{Entry}
use Rattle.psb_model.specs.declared.change.Change.{Change}
use Rattle.psb_machine.specs.Machine.{Situation, fresh}
use Rattle.psb_machine.specs.Course.{Step, after_all, tellings, sent_in, said_in, taken_in, dropped_in, told_by, tried_in}
use Rattle.psb_machine.specs.Commands.{Turn}
use Rattle.probe_laws.specs.Courses.{ProbesAreJust}
use Rattle.node_core.specs.declared.node.Node.{Node}
use Rattle.node_history.specs.Stands.{ReopensTo}
use Rattle.node_core.specs.Stored.{Knows, Stored, IsCounted}
use Rattle.node_serve.specs.Sends.{ToldMore, AreSent, LostFor}
use Rattle.node_serve.specs.Hears.{steps_of, clock_of, of_turns, Hears, End, AnswersAs, CameIn, EndsAs, EndsInLast, is_fed}

-- The image reopens to a prefix of the history after all steps, the one that failed among them. The
-- prefix has the first history, and each change that was told of: those of inputs that had been
-- absorbed before telling number `k - first` was tried.
pub record IsPrefix (stands : List Entry → List ℕ → Type 0) (n : Situation) (done failed : List Step) (first : ℕ) (c : List ℕ) (k : ℕ) : Type 0 where
  pub count : ℕ
  pub within : count ≤ length (after_all n (done ++ failed)).history
  pub told : length n.history + told_by n done (k - first) ≤ count
  pub image : ReopensTo stands (take count (after_all n (done ++ failed)).history) c

-- and no more was told by then than the tellings of the steps
pub record IsPrefixSoon (stands : List Entry → List ℕ → Type 0) (n : Situation) (done failed : List Step) (first : ℕ) (c : List ℕ) (k : ℕ) : Type 0 where
  pub prefix : IsPrefix stands n done failed first c k
  pub soon : k ≤ first + length (tellings n done) + tried_in failed

-- The image reopens to such a prefix, which has each change of the inputs that were absorbed.
pub record HasAll (stands : List Entry → List ℕ → Type 0) (n : Situation) (done failed : List Step) (c : List ℕ) : Type 0 where
  pub count : ℕ
  pub within : count ≤ length (after_all n (done ++ failed)).history
  pub all : length (after_all n done).history ≤ count
  pub image : ReopensTo stands (take count (after_all n (done ++ failed)).history) c

-- A node that may serve: it knows a situation, and where the disk tells its bytes, it holds its history.
abbrev pub IsReady : {L : Type 0} → (L → List Entry → List ℕ → Type 0) → Node L → View → Type 0
IsReady holds node v = (n : Situation) × Knows node n × (Tells_bytes v → Stored holds node n.history v)

-- A node that may be fed: it is ready, its log is not broken, and it has a record for each change.
pub record IsUp {L : Type 0} (holds : L → List Entry → List ℕ → Type 0) (size : L → ℕ) (keeps : L → ℕ → Bool) (broken : L → Bool) (node : Node L) (v : View) : Type 0 where
  pub ready : IsReady holds node v
  pub whole : broken node.log ≡ false
  pub counted : IsCounted size keeps node

-- no count falls
pub record Counts (old new : View) : Type 0 where
  pub disk_faults : old.disk_faults ≤ new.disk_faults
  pub link_faults : old.outside.link_faults ≤ new.outside.link_faults
  pub send_faults : old.outside.send_faults ≤ new.outside.send_faults

-- how many datagrams came, how many of them were dropped, and how many letters were lost
pub record Tally : Type 0 where
  pub taken : ℕ
  pub dropped : ℕ
  pub lost : ℕ

abbrev pub no_tally : Tally
no_tally = record { taken = 0; dropped = 0; lost = 0 }

abbrev pub tally_sum : Tally → Tally → Tally
tally_sum a b = record { taken = a.taken + b.taken; dropped = a.dropped + b.dropped; lost = a.lost + b.lost }

-- the sum of counts that are both given
abbrev pub counts_sum : Option Tally → Option Tally → Option Tally
counts_sum None b = None
counts_sum (Some a) None = None
counts_sum (Some a) (Some b) = Some (tally_sum a b)

-- the counts, where they are given, are those of these steps
pub record AreCounts (t : Tally) (n : Situation) (done : List Step) (lost : ℕ) : Type 0 where
  pub taken : t.taken ≡ taken_in done
  pub dropped : t.dropped ≡ dropped_in n done
  pub lost_is : t.lost ≡ lost

abbrev pub Counted : Option Tally → Situation → List Step → ℕ → Type 0
Counted None n done lost = Unit {0}
Counted (Some t) n done lost = AreCounts t n done lost

-- What a course made of a node and told outside, from a situation on: what was done of it, the one step
-- at most that failed, and what was left undone. All was done exactly where `ok` holds.
pub record Fed {L : Type 0} (holds : L → List Entry → List ℕ → Type 0) (stands : List Entry → List ℕ → Type 0) (broken : L → Bool) (old new : Node L) (before now : View) (n : Situation) (course : List Step) (counts : Option Tally) (ok : Bool) : Type 0 where
  pub done : List Step
  pub failed : List Step
  pub undone : List Step
  pub parts : course ≡ done ++ failed ++ undone
  pub one : length failed ≡ (if ok then 0 else 1)
  pub whole : ok ≡ true → undone ≡ []
  -- unless its log broke, the node stands behind what was done: what failed changed nothing
  pub knows : broken new.log ≡ false → Knows new (after_all n done)
  pub stored : broken new.log ≡ false → Stored holds new (after_all n done).history now
  -- a crash at any moment leaves a prefix that has each change told of by then
  pub moments : Leaves before now (λ c k. IsPrefixSoon stands n done failed before.told c k)
  -- and a crash at its end leaves each change of the inputs that were absorbed
  pub ends : (c : List ℕ) → now.may_leave c → HasAll stands n done failed c
  pub told : ToldMore before.told now.told (length (tellings n done) + tried_in failed)
  pub lost : ℕ
  -- each letter of what was done is tried once, in order; these were sent
  pub tried : Grows before.outside.tried now.outside.tried (sent_in n done)
  pub sent : (out : List (ℕ × List ℕ)) × AreSent (sent_in n done) out lost × Grows before.outside.sent now.outside.sent out
  pub lost_cause : LostFor lost before.outside.send_faults now.outside.send_faults
  pub said : Grows before.outside.said now.outside.said (flat_map (λ line. line) (said_in n done))
  pub counted : Counted counts n done lost

-- A course whose last steps are those of the answers that were heard in it. A step that failed ended it, at the answer
-- in which it came.
pub record FedBy {L : Type 0} (holds : L → List Entry → List ℕ → Type 0) (stands : List Entry → List ℕ → Type 0) (broken : L → Bool) (old new : Node L) (before now : View) (n : Situation) (peers : List ℕ) (clock : ℕ) (heard : List Heard) (course : List Step) (counts : Option Tally) (ok : Bool) : Type 0 where
  pub fed : Fed holds stands broken old new before now n course counts ok
  pub in_last : ok ≡ false → EndsInLast peers clock heard fed.failed fed.undone

-- The first part of a turn: one answer of `recv`, and where it is a frame, that is fed. Where it was made,
-- this came.
pub record Received {L : Type 0} (holds : L → List Entry → List ℕ → Type 0) (stands : List Entry → List ℕ → Type 0) (broken : L → Bool) (old new : Node L) (before now : View) (counts : Option Tally) (end : End) (came : Option (List ℕ)) : Type 0 where
  pub answer : Heard
  pub ended : AnswersAs end came answer
  pub hears : Hears before now [] (answer ∷ [])
  pub fed : Tells_bytes now → (n : Situation) → Knows old n → Stored holds old n.history before → (peers : List ℕ) (clock : ℕ)
      → FedBy holds stands broken old new before now n peers clock (answer ∷ []) (steps_of peers clock (answer ∷ [])) counts (is_fed end)

-- Turns of a node at a station, with these peers. What was heard is exactly the turns' answers, whatever
-- the disk is; and where the disk tells its bytes, it is what was fed. The clock goes on by what was heard.
pub record RanTurns {L : Type 0} (holds : L → List Entry → List ℕ → Type 0) (stands : List Entry → List ℕ → Type 0) (broken : L → Bool) (peers : List ℕ) (clock clock' : ℕ) (old new : Node L) (before now : View) (turns : ℕ) (counts : Option Tally) (end : End) : Type 0 where
  pub full : List Turn
  pub last : List Heard
  pub ended : EndsAs end (length full) turns last
  pub hears : Hears before now [] (of_turns full ++ last)
  pub clock_is : clock' ≡ clock_of clock (of_turns full ++ last)
  pub fed : Tells_bytes now → (n : Situation) → Knows old n → Stored holds old n.history before
      → FedBy holds stands broken old new before now n peers clock (of_turns full ++ last) (steps_of peers clock (of_turns full ++ last)) counts (is_fed end)

-- one turn: where it was made, this came in it
pub record MadeTurn {L : Type 0} (holds : L → List Entry → List ℕ → Type 0) (stands : List Entry → List ℕ → Type 0) (broken : L → Bool) (peers : List ℕ) (clock clock' : ℕ) (old new : Node L) (before now : View) (counts : Option Tally) (end : End) (came : Option (List ℕ)) : Type 0 where
  pub ran : RanTurns holds stands broken peers clock clock' old new before now 1 counts end
  pub came_in : CameIn end ran.full came

-- The node stands behind steps from this history on, and each change that they made of its own probes has its reason.
pub record ServedJustly {L : Type 0} (holds : L → List Entry → List ℕ → Type 0) (node : Node L) (h : List Change) (now : View) : Type 0 where
  pub done : List Step
  pub knows : Knows node (after_all (fresh h) done)
  pub stored : Stored holds node (after_all (fresh h) done).history now
  pub just : ProbesAreJust h done
