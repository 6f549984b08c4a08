-- The reason for each change that a probe of the node's own makes.
use Rattle.std.specs.Prelude.{◌≡◌, ◌⊎◌, ℕ, Bool, true, false, List, replicate, Some, None, Ok}
use Rattle.std.specs.List.{list_all}
use Rattle.psb_bytes.specs.declared.ids.Object.{Object}
use Rattle.psb_bytes.specs.Objects.{name_eq}
use Rattle.psb_settings.specs.declared.settings.Settings.{Settings}
use Rattle.psb_model.specs.State.{row}
use Rattle.psb_model.specs.History.{state}
use Rattle.psb_model.specs.declared.change.Change.{Change}
use Rattle.psb_model.specs.declared.change.Change.TheVariants.{Asked, Passed, Failed, Declined}
use Rattle.psb_model.specs.declared.kinds.Asked.{Asked as Question}
use Rattle.psb_model.specs.declared.kinds.Passed.{Passed as Success}
use Rattle.psb_model.specs.declared.kinds.Failed.{Failed as Failure}
use Rattle.psb_model.specs.declared.kinds.Declined.{Declined as Refusal}
use Rattle.wire_codec.specs.Frames.{read_frame}
use Rattle.wire_codec.specs.declared.frame.Frame.{Frame}
use Rattle.wire_codec.specs.declared.frame.Frame.TheVariants as frame
use Rattle.probe.specs.Deadlines.{is_late}
use Rattle.psb_machine.specs.Letters.{keys_of}
use Rattle.psb_machine.specs.Volatile.{of_peer, later}
use Rattle.psb_machine.specs.Probing.{chain_over}
use Rattle.psb_machine.specs.OwnProbes.{Run, nonce_of, own_bytes, may_list, objects_to_ask, objects_drawn, are_places_of}
use Rattle.psb_machine.specs.Machine.{Situation, Input, Datagram, Tick, run_at, react}

-- ---- what comes in

-- The input is a datagram that is read, by the settings of the history, as this frame of p with this number.
pub record IsRead (h : List Change) (x : Input) (settings : Settings) (p number : ℕ) (f : Frame) : Type 0 where
  pub bytes : List ℕ
  pub came : x ≡ Datagram bytes
  pub present : (state h).settings ≡ Some settings
  pub reads : read_frame settings.id (keys_of settings) bytes ≡ Ok (record { from = p; number = number; frame = f })

-- It is a Proof of p with this number and value, and with the nonce of the probe that has the number.
pub record IsProof (h : List Change) (x : Input) (p number : ℕ) (value : List ℕ) : Type 0 where
  pub settings : Settings
  pub read : IsRead h x settings p number (frame.Proof (nonce_of settings.seed number) value)

-- ---- what is noted of it

-- This probe of p runs, since its clock was at that.
abbrev pub Runs : Situation → ℕ → ℕ → List Object → ℕ → Type 0
Runs n p asked objects began = run_at n p ≡ Some (record { asked = asked; objects = objects; began = began })

-- The peer gave no answer: at its tick the probe that runs is late.
pub record IsSilence (n : Situation) (x : Input) (f : Failure) : Type 0 where
  pub ticks : x ≡ Tick f.peer
  pub began : ℕ
  pub runs : Runs n f.peer f.asked f.objects began
  pub late : is_late began (later (of_peer n.volatile f.peer).clock) ≡ true
  pub how : f.how ≡ 0
  pub got : f.got ≡ replicate 32 0

-- The peer proved this value of the probe that runs, and whether it is that of the chain over the node's own bytes.
pub record IsCompared (n : Situation) (x : Input) (p asked : ℕ) (objects : List Object) (value : List ℕ) (same : Bool) : Type 0 where
  pub began : ℕ
  pub runs : Runs n p asked objects began
  pub proof : IsProof n.history x p asked value
  pub own : List ℕ
  pub chain : chain_over (own_bytes proof.settings.seed n.history) (nonce_of proof.settings.seed asked) objects ≡ Some own
  pub compared : name_eq own value ≡ same

-- The answer was wrong.
pub record IsWrong (n : Situation) (x : Input) (f : Failure) : Type 0 where
  pub how : f.how ≡ 1
  pub answer : IsCompared n x f.peer f.asked f.objects f.got false

-- It was right.
pub record IsRight (n : Situation) (x : Input) (s : Success) : Type 0 where
  pub value : List ℕ
  pub answer : IsCompared n x s.peer s.asked s.objects value true

-- The peer declined the probe that runs, for what stands at places of it.
pub record IsDeclined (n : Situation) (x : Input) (d : Refusal) : Type 0 where
  pub run : Run
  pub runs : run_at n d.peer ≡ Some run
  pub number : d.asked ≡ run.asked
  pub settings : Settings
  pub read : IsRead n.history x settings d.peer d.asked (frame.Declined (nonce_of settings.seed d.asked) d.places)
  pub within : are_places_of run d.places ≡ true

-- At a tick of the peer, of which no probe runs, some of what it may be asked for is drawn.
pub record IsBegun (n : Situation) (x : Input) (q : Question) : Type 0 where
  pub ticks : x ≡ Tick q.peer
  pub settings : Settings
  pub present : (state n.history).settings ≡ Some settings
  pub idle : run_at n q.peer ≡ None
  pub drawn : q.objects ≡ objects_drawn settings.seed (state n.history) (objects_to_ask (row (state n.history) q.peer))
  pub may : list_all (may_list (row (state n.history) q.peer)) q.objects ≡ true

-- what an input makes of a probe has its reason in it
abbrev pub JustOutcome : Situation → Input → Change → Type 0
JustOutcome n x (Asked q) = IsBegun n x q
JustOutcome n x (Passed s) = IsRight n x s
JustOutcome n x (Failed f) = IsSilence n x f ⊎ IsWrong n x f
JustOutcome n x (Declined d) = IsDeclined n x d
JustOutcome n x _ = Unit {0}

abbrev pub OutcomesAreJust : Type 0
OutcomesAreJust = (n : Situation) (x : Input) (c : Change) → (react n x).grown ≡ Some c → JustOutcome n x c
