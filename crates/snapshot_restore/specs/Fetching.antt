-- What a run that takes bodies makes of a node, and what one leaves that stops.
use Rattle.std.specs.Prelude.{◌≡◌, ◌⊎◌, ℕ, ◌<◌, ◌≤◌, Bool, true, false, List, [], ◌∷◌, ◌++◌, length, IfSome, Option, Some, None}
use Rattle.psb_bytes.specs.declared.ids.Ref.{Ref}
use Rattle.convergent_seal.specs.Sealing.{opened}
use Rattle.psb_station.specs.View.{View, Heard}
use Rattle.psb_station.specs.View.Heard.{Frame, Fault}
use Rattle.psb_station.specs.Span.{Tells_bytes}
use Rattle.node_journal.specs.Entry.{Entry}
use Rattle.psb_settings.specs.declared.settings.Settings.{Settings}
use Rattle.psb_model.specs.History.{state}
use Rattle.psb_machine.specs.Machine.{Situation}
use Rattle.psb_machine.specs.Course.{after_all}
use Rattle.psb_machine.specs.Commands.{Turn, peer_ids}
use Rattle.node_core.specs.declared.node.Node.{Node}
use Rattle.node_letters.specs.Peers.{PeersView}
use Rattle.node_core.specs.Stored.{Knows, Stored}
use Rattle.node_serve.specs.Hears.{Hears, steps_of, clock_of, of_turn}
use Rattle.node_serve.specs.Spans.{Counts, Fed, FedBy}
use Rattle.node_serve.specs.Turns.{OnlySends}
use Rattle.snapshots.specs.Meaning.{opens}
use Rattle.snapshot_restore.specs.Answers.{answer_by, answers, listed}
use Rattle.snapshot_restore.specs.Course.{Fetch, all_of, gets_at, heard_in, fetch_steps, restore_steps, round_steps}
use Rattle.snapshot_restore.specs.Taken.{Taken, fetches, AllOpen, OwnOpens, NoneOwn, NoneOpens, AreWhole, last_of, IsAnswered, AreTaken, IsSpent, IsVain}
use Rattle.snapshot_restore.specs.Faults.{TheDisk, failed_in}
use Rattle.snapshot_restore.specs.declared.fault.RestoreFault.{RestoreFault}
use Rattle.snapshot_restore.specs.declared.fault.RestoreFault.TheVariants as restore_fault
use Rattle.snapshot_restore.specs.declared.waiting.Waiting.{Waiting}
use Rattle.snapshot_restore.specs.declared.waiting.Brought.{Brought}
use Rattle.snapshot_restore.specs.declared.waiting.Brought.TheVariants as brought

-- ---- what came

-- what a turn brought for a ref, by the body that came for its name
abbrev pub IsBrought : Ref → Option (List ℕ) → Brought → Type 0
IsBrought r came brought.Nothing = came ≡ None
IsBrought r came (brought.Other body) = (came ≡ Some body) × (opens r body ≡ false)
IsBrought r came (brought.Plain plain) = (body : List ℕ) × (came ≡ Some body) × (opens r body ≡ true) × (plain.items ≡ opened r body)

-- the body that a datagram has for a name
abbrev pub came_in : PeersView → List ℕ → Option (List ℕ) → Option (List ℕ)
came_in peers name None = None
came_in peers name (Some datagram) = answer_by peers name datagram

-- ---- a run

-- what waits stays but for its clock and its buffer
pub record IsStill (old new : Waiting) : Type 0 where
  pub peers : new.peers ≡ old.peers
  pub turns : new.turns ≡ old.turns

-- where a run begins, with the peers of these settings
pub record Begins {L : Type 0} (holds : L → List Entry → List ℕ → Type 0) (peers : List ℕ) (node : Node L) (v : View) (n : Situation) (settings : Settings) : Type 0 where
  pub knows : Knows node n
  pub stored : Stored holds node n.history v
  pub settings_are : (state n.history).settings ≡ Some settings
  pub peers_are : peers ≡ peer_ids settings

-- what each run of a node leaves that waits for bodies: this was heard in it
pub record Runs (old new : Waiting) (before now : View) (heard : List Heard) : Type 0 where
  pub hears : Hears before now [] heard
  pub clock_is : new.clock ≡ clock_of old.clock heard
  pub still : IsStill old new
  pub tells : Tells_bytes now → Tells_bytes before
  pub counts : Counts before now

-- ---- the node's own body

-- Nothing was done but to read: these are the plain bytes of the node's own body, where it has one that opens.
pub record IsOwn {L : Type 0} (holds : L → List Entry → List ℕ → Type 0) (node : Node L) (before now : View) (r : Ref) (plain : Option (List ℕ)) : Type 0 where
  -- a body that was read
  pub body : List ℕ
  pub opens_it : IfSome plain (λ text. (opens r body ≡ true) × (text ≡ opened r body))
  pub own : Tells_bytes now → (n : Situation) → Knows node n → Stored holds node n.history before
      → IfSome plain (λ text. OwnOpens n.history r body) × (plain ≡ None → NoneOwn n.history r)

-- ---- one turn

-- the Gets in front of the turn with this index
pub record Asks {L : Type 0} (holds : L → List Entry → List ℕ → Type 0) (stands : List Entry → List ℕ → Type 0) (broken : L → Bool) (node : Node L) (before now : View) (name : List ℕ) (i : ℕ) : Type 0 where
  pub only_sends : OnlySends before now
  pub tells : Tells_bytes now → Tells_bytes before
  pub counts : Counts before now
  pub fed : Tells_bytes now → (n : Situation) (settings : Settings) → Knows node n → (state n.history).settings ≡ Some settings → Stored holds node n.history before
      → Fed holds stands broken node node before now n (gets_at settings name i) None true

-- a whole turn, and what it brought
pub record HearsTurn {L : Type 0} (holds : L → List Entry → List ℕ → Type 0) (stands : List Entry → List ℕ → Type 0) (broken : L → Bool) (w0 w1 : Waiting) (old new : Node L) (before now : View) (r : Ref) (b : Brought) : Type 0 where
  pub turn : Turn
  pub came : Option (List ℕ)
  pub run : Runs w0 w1 before now (of_turn turn)
  pub is : IsBrought r came b
  pub fed : Tells_bytes now → (n : Situation) (settings : Settings) → Begins holds w0.peers old before n settings
      → Fed holds stands broken old new before now n (steps_of (peer_ids settings) w0.clock (of_turn turn)) None true
      × (answers settings r.name (of_turn turn) ≡ listed came)

-- what was heard in a turn in which an input failed: the frame, or all of it, where a tick failed
abbrev pub IsFailedTurn : List Heard → Type 0
IsFailedTurn heard = ((x : List ℕ) × (heard ≡ Frame x ∷ [])) ⊎ ((t : Turn) × (heard ≡ of_turn t))

-- What was heard in a turn that did not end well, and whether all of it was fed: the failure of the link alone; or an
-- input failed; or, where memory was short for what it brought, all of it.
abbrev pub EndsTurn : RestoreFault → List Heard → Bool → Type 0
EndsTurn restore_fault.Link heard ok = (heard ≡ Fault ∷ []) × (ok ≡ true)
EndsTurn (restore_fault.Node f) heard ok = IsFailedTurn heard × (ok ≡ false)
EndsTurn restore_fault.Memory heard ok = (IsFailedTurn heard × (ok ≡ false)) ⊎ (((t : Turn) × (heard ≡ of_turn t)) × (ok ≡ true))
EndsTurn e heard ok = ⊥

-- a turn that did not end well
pub record HearsPart {L : Type 0} (holds : L → List Entry → List ℕ → Type 0) (stands : List Entry → List ℕ → Type 0) (broken : L → Bool) (w0 w1 : Waiting) (old new : Node L) (before now : View) (e : RestoreFault) : Type 0 where
  pub heard : List Heard
  pub ok : Bool
  pub ends : EndsTurn e heard ok
  pub run : Runs w0 w1 before now heard
  pub unbroken : broken new.log ≡ true → failed_in e ≡ TheDisk
  pub fed : Tells_bytes now → (n : Situation) (settings : Settings) → Begins holds w0.peers old before n settings
      → FedBy holds stands broken old new before now n (peer_ids settings) w0.clock heard (steps_of (peer_ids settings) w0.clock heard) None ok

-- a whole turn, with the Gets in front of it where its index asks for them
pub record MakesRound {L : Type 0} (holds : L → List Entry → List ℕ → Type 0) (stands : List Entry → List ℕ → Type 0) (broken : L → Bool) (w0 w1 : Waiting) (old new : Node L) (before now : View) (r : Ref) (i : ℕ) (b : Brought) : Type 0 where
  pub turn : Turn
  pub came : Option (List ℕ)
  pub run : Runs w0 w1 before now (of_turn turn)
  pub is : IsBrought r came b
  pub fed : Tells_bytes now → (n : Situation) (settings : Settings) → Begins holds w0.peers old before n settings
      → Fed holds stands broken old new before now n (round_steps settings r.name w0.clock i (of_turn turn)) None true
      × (answers settings r.name (of_turn turn) ≡ listed came)

-- the turn in which it stopped; it was not begun where there was no memory for its Gets
abbrev pub EndsIn : RestoreFault → List (List Heard) → Bool → Type 0
EndsIn e part ok = ((heard : List Heard) × (part ≡ heard ∷ []) × EndsTurn e heard ok) ⊎ ((e ≡ restore_fault.Memory) × (part ≡ []) × (ok ≡ true))

-- one that did not end well, if it was begun
pub record StopsRound {L : Type 0} (holds : L → List Entry → List ℕ → Type 0) (stands : List Entry → List ℕ → Type 0) (broken : L → Bool) (w0 w1 : Waiting) (old new : Node L) (before now : View) (r : Ref) (i : ℕ) (e : RestoreFault) : Type 0 where
  pub part : List (List Heard)
  pub ok : Bool
  pub ends : EndsIn e part ok
  pub run : Runs w0 w1 before now (all_of part)
  pub unbroken : broken new.log ≡ true → failed_in e ≡ TheDisk
  pub fed : Tells_bytes now → (n : Situation) (settings : Settings) → Begins holds w0.peers old before n settings
      → FedBy holds stands broken old new before now n (peer_ids settings) w0.clock (all_of part) (fetch_steps settings r.name w0.clock i part) None ok

-- ---- the turns of a place

-- the last of them brought a body that opens
pub record Awaits {L : Type 0} (holds : L → List Entry → List ℕ → Type 0) (stands : List Entry → List ℕ → Type 0) (broken : L → Bool) (w0 w1 : Waiting) (old new : Node L) (before now : View) (r : Ref) (plain : List ℕ) : Type 0 where
  pub body : List ℕ
  pub rounds : List (List Heard)
  pub run : Runs w0 w1 before now (all_of rounds)
  pub opens_it : opens r body ≡ true
  pub plain_is : plain ≡ opened r body
  pub fed : Tells_bytes now → (n : Situation) (settings : Settings) → Begins holds w0.peers old before n settings
      → Fed holds stands broken old new before now n (fetch_steps settings r.name w0.clock 0 rounds) None true
      × IsAnswered settings w0.turns r body rounds

-- So many whole turns were made, and this was heard of the one in which it stopped: all were made, and no body that opens
-- came; or fewer.
abbrev pub SpendsAll : ℕ → List ℕ → ℕ → List (List Heard) → Bool → RestoreFault → Type 0
SpendsAll turns name made part ok (restore_fault.Missing n) = (n ≡ name) × (made ≡ turns) × (part ≡ []) × (ok ≡ true)
SpendsAll turns name made part ok (restore_fault.Altered n got) = (n ≡ name) × (made ≡ turns) × (part ≡ []) × (ok ≡ true)
SpendsAll turns name made part ok e = (made < turns) × EndsIn e part ok

-- the last body that came is told, if one did
abbrev pub TellsLast : List (List ℕ) → RestoreFault → Type 0
TellsLast came (restore_fault.Missing n) = last_of came ≡ None
TellsLast came (restore_fault.Altered n got) = last_of came ≡ Some got
TellsLast came e = Unit {0}

-- no body that opens came, or something failed
pub record StopsAwaiting {L : Type 0} (holds : L → List Entry → List ℕ → Type 0) (stands : List Entry → List ℕ → Type 0) (broken : L → Bool) (w0 w1 : Waiting) (old new : Node L) (before now : View) (r : Ref) (e : RestoreFault) : Type 0 where
  pub front : List (List Heard)
  pub part : List (List Heard)
  pub ok : Bool
  pub run : Runs w0 w1 before now (all_of (front ++ part))
  pub unbroken : broken new.log ≡ true → failed_in e ≡ TheDisk
  pub whole : AreWhole front
  pub spends : SpendsAll w0.turns r.name (length front) part ok e
  pub fed : Tells_bytes now → (n : Situation) (settings : Settings) → Begins holds w0.peers old before n settings
      → FedBy holds stands broken old new before now n (peer_ids settings) w0.clock (all_of (front ++ part)) (fetch_steps settings r.name w0.clock 0 (front ++ part)) None ok
      × NoneOpens r (answers settings r.name (all_of front))
      × TellsLast (answers settings r.name (all_of front)) e

-- ---- places

-- where the disk tells its bytes: these bodies were taken by the course of their turns
pub record TakesAll {L : Type 0} (holds : L → List Entry → List ℕ → Type 0) (stands : List Entry → List ℕ → Type 0) (broken : L → Bool) (turns clock : ℕ) (old new : Node L) (before now : View) (n : Situation) (settings : Settings) (ts : List Taken) : Type 0 where
  pub fed : Fed holds stands broken old new before now n (restore_steps settings clock (fetches ts)) None true
  pub taken : AreTaken settings turns n clock ts

-- The bodies of these places were taken.
pub record Takes {L : Type 0} (holds : L → List Entry → List ℕ → Type 0) (stands : List Entry → List ℕ → Type 0) (broken : L → Bool) (w0 w1 : Waiting) (old new : Node L) (before now : View) (ts : List Taken) : Type 0 where
  pub run : Runs w0 w1 before now (heard_in (fetches ts))
  pub whole : broken new.log ≡ false
  pub open_all : AllOpen ts
  pub all : Tells_bytes now → (n : Situation) (settings : Settings) → Begins holds w0.peers old before n settings
      → TakesAll holds stands broken w0.turns w0.clock old new before now n settings ts

-- the place that got no body is the next one, and all its turns were made
pub record IsSpentOn (turns : ℕ) (name : List ℕ) (next : List Ref) (last : List Fetch) (ok : Bool) : Type 0 where
  pub r : Ref
  pub more : List Ref
  pub rounds : List (List Heard)
  pub next_is : next ≡ r ∷ more
  pub name_is : name ≡ r.name
  pub last_is : last ≡ record { name = name; rounds = rounds } ∷ []
  pub spent : IsSpent turns rounds
  pub all_fed : ok ≡ true

-- It stopped at the next place: whole turns were made of it, fewer than there may be, and then it stopped in one.
pub record IsCutOn (turns : ℕ) (next : List Ref) (last : List Fetch) (ok : Bool) (e : RestoreFault) : Type 0 where
  pub r : Ref
  pub more : List Ref
  pub front : List (List Heard)
  pub part : List (List Heard)
  pub next_is : next ≡ r ∷ more
  pub last_is : last ≡ record { name = r.name; rounds = front ++ part } ∷ []
  pub soon : length front < turns
  pub whole : AreWhole front
  pub ends : EndsIn e part ok

-- nothing more was asked for, and all was fed
abbrev pub IsUnasked : List Fetch → Bool → Type 0
IsUnasked last ok = (last ≡ []) × (ok ≡ true)

-- What was asked for last, and whether all was fed: where the link failed, the next place; where the disk failed or memory
-- was short, nothing or the next place; else nothing.
abbrev pub Spends : ℕ → List Ref → List Fetch → Bool → RestoreFault → Type 0
Spends turns next last ok (restore_fault.Missing name) = IsSpentOn turns name next last ok
Spends turns next last ok (restore_fault.Altered name got) = IsSpentOn turns name next last ok
Spends turns next last ok restore_fault.Link = IsCutOn turns next last ok restore_fault.Link
Spends turns next last ok (restore_fault.Node f) = IsUnasked last ok ⊎ IsCutOn turns next last ok (restore_fault.Node f)
Spends turns next last ok restore_fault.Memory = IsUnasked last ok ⊎ IsCutOn turns next last ok restore_fault.Memory
Spends turns next last ok restore_fault.Folder = IsUnasked last ok
Spends turns next last ok restore_fault.NotEmpty = IsUnasked last ok
Spends turns next last ok (restore_fault.BadSkeleton f place) = IsUnasked last ok

-- no body that opens came for it, and this one last, if one did
pub record IsVainOn (settings : Settings) (n : Situation) (next : List Ref) (last : List Fetch) (got : Option (List ℕ)) : Type 0 where
  pub r : Ref
  pub more : List Ref
  pub rounds : List (List Heard)
  pub next_is : next ≡ r ∷ more
  pub last_is : last ≡ record { name = r.name; rounds = rounds } ∷ []
  pub vain : IsVain settings n r rounds got

-- none came for it in the turns in front of the one in which it stopped
pub record IsVainSoFar (settings : Settings) (n : Situation) (next : List Ref) (last : List Fetch) : Type 0 where
  pub r : Ref
  pub more : List Ref
  pub front : List (List Heard)
  pub part : List (List Heard)
  pub next_is : next ≡ r ∷ more
  pub last_is : last ≡ record { name = r.name; rounds = front ++ part } ∷ []
  pub one : length part ≤ 1
  pub none : NoneOwn n.history r
  pub others : NoneOpens r (answers settings r.name (all_of front))

abbrev pub IsInVain : Settings → Situation → List Ref → List Fetch → RestoreFault → Type 0
IsInVain settings n next last (restore_fault.Missing name) = IsVainOn settings n next last None
IsInVain settings n next last (restore_fault.Altered name got) = IsVainOn settings n next last (Some got)
IsInVain settings n next last restore_fault.Link = IsVainSoFar settings n next last
IsInVain settings n next last (restore_fault.Node f) = (last ≡ []) ⊎ IsVainSoFar settings n next last
IsInVain settings n next last restore_fault.Memory = (last ≡ []) ⊎ IsVainSoFar settings n next last
IsInVain settings n next last e = Unit {0}

-- where the disk tells its bytes: the course was that of the places that were taken, and of the last one
pub record StopsAll {L : Type 0} (holds : L → List Entry → List ℕ → Type 0) (stands : List Entry → List ℕ → Type 0) (broken : L → Bool) (turns clock : ℕ) (old new : Node L) (before now : View) (n : Situation) (settings : Settings) (ts : List Taken) (next : List Ref) (last : List Fetch) (ok : Bool) (e : RestoreFault) : Type 0 where
  pub fed : FedBy holds stands broken old new before now n (peer_ids settings) clock (heard_in (fetches ts ++ last)) (restore_steps settings clock (fetches ts ++ last)) None ok
  pub taken : AreTaken settings turns n clock ts
  pub in_vain : IsInVain settings (after_all n (restore_steps settings clock (fetches ts))) next last e

-- The bodies of these places were taken, and then it stopped; the next places would have been these.
pub record Stops {L : Type 0} (holds : L → List Entry → List ℕ → Type 0) (stands : List Entry → List ℕ → Type 0) (broken : L → Bool) (w0 w1 : Waiting) (old new : Node L) (before now : View) (ts : List Taken) (next : List Ref) (e : RestoreFault) : Type 0 where
  pub last : List Fetch
  pub ok : Bool
  pub run : Runs w0 w1 before now (heard_in (fetches ts ++ last))
  pub unbroken : broken new.log ≡ true → failed_in e ≡ TheDisk
  pub open_all : AllOpen ts
  pub spends : Spends w0.turns next last ok e
  pub all : Tells_bytes now → (n : Situation) (settings : Settings) → Begins holds w0.peers old before n settings
      → StopsAll holds stands broken w0.turns w0.clock old new before now n settings ts next last ok e
