-- The probes of a node's own, as it keeps them.
use Rattle.std.specs.Prelude.{◌≡◌, ◌≤◌, ◌&&◌, ℕ, Bool, false, if◌then◌else◌, List, [], ◌∷◌, length, Option, Some, None}
use Rattle.psb_bytes.specs.declared.ids.Object.{Object}
use Rattle.psb_model.specs.State.{State}
use Rattle.psb_model.specs.declared.change.Change.{Change}
use Rattle.psb_model.specs.declared.change.Change.TheVariants.{Asked}
use Rattle.wire_codec.specs.declared.frame.Frame.TheVariants as frame
use Rattle.psb_machine.specs.Letters.{Letter}
use Rattle.psb_machine.specs.Proposals.{letter_of}
use Rattle.psb_machine.specs.Messages.{Sender}
use Rattle.psb_machine.specs.OwnProbes.{Run as MachineRun, nonce_of, is_of, passed_by, wrong_by}
use Rattle.psb_machine.specs.Machine.{Rule, passes, ends_with}
use Rattle.node_facts.specs.OwnChain.{are_own}
use Rattle.own_probes.specs.declared.run.Run.{Run}
use Rattle.own_probes.specs.declared.ticks.Probe.{Probe}
use Rattle.own_probes.specs.declared.ticks.Step.{Step}
use Rattle.own_probes.specs.declared.ticks.Step.TheVariants.{Rests, Waits, Again, Begins}

-- as the machine has it
abbrev pub run_in : Run → MachineRun
run_in r = record { asked = r.asked; objects = r.objects; began = r.began }

-- ---- what a tick makes of them

-- the letter that asks
abbrev pub letter_in : List ℕ → ℕ → Probe → Letter
letter_in seed p x = letter_of p x.asked (frame.Probe (nonce_of seed x.asked) x.objects)

-- the rule that it comes to
abbrev pub rule_in : List ℕ → ℕ → Step → Rule
rule_in seed p Rests = passes
rule_in seed p Waits = record { grown = None; letters = []; goes_on = false }
rule_in seed p (Again x) = record { grown = None; letters = letter_in seed p x ∷ []; goes_on = false }
rule_in seed p (Begins x) = ends_with (Asked (record { peer = p; objects = x.objects })) (letter_in seed p x ∷ [])

-- as many objects as a frame that asks may have
pub record AreFew (objects : List Object) : Type 0 where
  pub some : 1 ≤ length objects
  pub few : length objects ≤ 32

abbrev pub IsFit : Step → Type 0
IsFit Rests = Unit {0}
IsFit Waits = Unit {0}
IsFit (Again x) = AreFew x.objects
IsFit (Begins x) = AreFew x.objects

-- ---- what comes of an answer

abbrev pub sender : ℕ → ℕ → Sender
sender p number = record { peer = p; number = number }

-- The answer is to no probe that runs.
abbrev pub IsToNone : List ℕ → ℕ → List ℕ → Option MachineRun → Type 0
IsToNone seed number nonce None = Unit {0}
IsToNone seed number nonce (Some r) = is_of seed number nonce r ≡ false

-- It is to the one that runs, and the node has the bytes itself of all that this one lists.
abbrev pub is_answered : List ℕ → State → ℕ → List ℕ → Option MachineRun → Bool
is_answered seed s number nonce None = false
is_answered seed s number nonce (Some r) = is_of seed number nonce r && are_own s r.objects

-- A proof passes, or its value is wrong: which of these, the bytes that are read decide.
abbrev pub outcome_by : ℕ → List ℕ → MachineRun → Bool → Change
outcome_by p value r right = if right then passed_by p r else wrong_by p value r

-- the change is one of these two for the probe that runs
abbrev pub IsOutcome : ℕ → List ℕ → Option MachineRun → Change → Type 0
IsOutcome p value run c = (r : MachineRun) × (run ≡ Some r) × ((right : Bool) × (c ≡ outcome_by p value r right))
