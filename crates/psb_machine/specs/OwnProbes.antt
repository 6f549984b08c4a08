-- The probes of the node's own: what one lists, what proves that a peer has it, and what comes of the answer (Samsara,
-- SOSP 2003).
use Rattle.std.specs.Prelude.{ℕ, ◌%◌, nat_lt, Bool, not, ◌&&◌, ◌==◌, if◌then◌else◌, List, [], ◌++◌, length, map, filter, take, drop, replicate, Option, Some, None}
use Rattle.std.specs.List.{list_all}
use Rattle.psb_bytes.specs.declared.ids.Object.{Object}
use Rattle.psb_bytes.specs.declared.ids.Object.TheVariants.{Chunk, Slot}
use Rattle.psb_bytes.specs.Objects.{name_eq}
use Rattle.psb_digest.specs.Claims.{claim}
use Rattle.psb_digest.specs.Words.{own_word}
use Rattle.psb_model.specs.Words.{with_all}
use Rattle.psb_model.specs.State.{State, Row, own_has, out_key, debt_key, ties_out}
use Rattle.psb_model.specs.Conditions.{may_ask}
use Rattle.psb_model.specs.Needed.{last_brought}
use Rattle.psb_model.specs.History.{state}
use Rattle.psb_model.specs.declared.change.Change.{Change}
use Rattle.psb_model.specs.declared.change.Change.TheVariants.{Passed, Failed, Declined}
use Rattle.wire_codec.specs.declared.frame.Frame.TheVariants as frame
pub use Rattle.probe.specs.Deadlines.{is_late}
use Rattle.psb_machine.specs.Letters.{Letter}
use Rattle.psb_machine.specs.Proposals.{letter_of}
use Rattle.psb_machine.specs.Sampling.{salt_of}
use Rattle.psb_machine.specs.Volatile.{PeerState}

-- ---- what a probe lists

-- The objects that may be asked for, in their order: what is there and what stands in rows of debt of which nothing was
-- used up, but for what the pending deal ties.
abbrev pub may_list : Row → Object → Bool
may_list r o = may_ask r o && not (ties_out r.pending o)

abbrev pub objects_to_ask : Row → List Object
objects_to_ask r = filter (may_list r) (with_all (λ (o : Object). o) (map debt_key r.debts) (map out_key r.outs))

-- No probe lists more. The list begins at a place, and goes on from the first behind the last.
abbrev pub most_listed : ℕ
most_listed = 32

abbrev pub listed_from : ℕ → List Object → List Object
listed_from k os = take most_listed (drop k os ++ take k os)

-- the place is drawn by a word of the change that asks
abbrev pub objects_drawn : List ℕ → State → List Object → List Object
objects_drawn seed s os = listed_from (own_word seed s.changes 8 % length os) os

-- ---- a probe that runs

-- the change that asked, what it asked for, and the peer's clock at it
pub record Run : Type 0 where
  pub asked : ℕ
  pub objects : List Object
  pub began : ℕ

-- What runs is the last probe, which has no outcome, where one began since the node was opened.
abbrev pub run_by : Option ℕ → Option (ℕ × List Object) → Option Run
run_by None a = None
run_by (Some b) None = None
run_by (Some b) (Some a) = Some (record { asked = a.0; objects = a.1; began = b })

abbrev pub run_of : PeerState → Row → Option Run
run_of x r = run_by x.began r.asked

abbrev pub listed_by : Option Run → List Object
listed_by None = []
listed_by (Some r) = r.objects

-- what it asks with: the first words of the change that asked
abbrev pub nonce_of : List ℕ → ℕ → List ℕ
nonce_of seed asked = salt_of seed asked

abbrev pub probe_letter : List ℕ → ℕ → Run → Letter
probe_letter seed p r = letter_of p r.asked (frame.Probe (nonce_of seed r.asked) r.objects)

-- ---- the answers

-- it answers this probe
abbrev pub is_of : List ℕ → ℕ → List ℕ → Run → Bool
is_of seed number nonce r = number == r.asked && name_eq nonce (nonce_of seed r.asked)

-- The bytes that the peer has, as the node has them itself: a chunk of its own, and a claim that it makes anew.
abbrev pub own_bytes : List ℕ → List Change → Object → Option (List ℕ)
own_bytes seed h (Chunk name) = if own_has (state h).own name then last_brought name h else None
own_bytes seed h (Slot n) = Some (claim seed n)

-- the probe has passed, or the value is wrong
abbrev pub passed_by : ℕ → Run → Change
passed_by p r = Passed (record { peer = p; asked = r.asked; objects = r.objects })

abbrev pub wrong_by : ℕ → List ℕ → Run → Change
wrong_by p value r = Failed (record { peer = p; asked = r.asked; how = 1; got = value; objects = r.objects })

-- there was no answer
abbrev pub silent_by : ℕ → Run → Change
silent_by p r = Failed (record { peer = p; asked = r.asked; how = 0; got = replicate 32 0; objects = r.objects })

-- the peer declines it for what stands at these places
abbrev pub declined_by : ℕ → List ℕ → Run → Change
declined_by p places r = Declined (record { peer = p; asked = r.asked; places = places })

-- the places are among those of the probe
abbrev pub are_places_of : Run → List ℕ → Bool
are_places_of r places = list_all (λ (k : ℕ). nat_lt k (length r.objects)) places

-- how many ticks lie between the end of a probe and the next
abbrev pub ticks_between : ℕ
ticks_between = 4
