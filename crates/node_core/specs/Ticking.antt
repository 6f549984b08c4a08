-- What a tick of a peer comes to, as a node finds it by what it keeps.
use Rattle.std.specs.Prelude.{◌≡◌, ℕ, true, false, ◌==◌, List, length, option_map, option_to_list, Option, Some, None}
use Rattle.psb_settings.specs.declared.settings.Settings.{Settings}
use Rattle.psb_model.specs.State.{State}
use Rattle.psb_model.specs.History.{state}
use Rattle.wire_codec.specs.Frames.{key_in}
use Rattle.psb_machine.specs.Letters.{all_spelled}
use Rattle.psb_machine.specs.Volatile.{later, of_peer}
use Rattle.psb_machine.specs.Proposals.{Offer as MachineOffer, brings_bytes}
use Rattle.psb_machine.specs.Sampling.{question_of, questions}
use Rattle.psb_machine.specs.Machine.{Situation, Rule, by_late, by_due, by_choice, choice_at, by_offer, offer_at, by_run, run_at, sends, then_by, on_tick}
use Rattle.psb_machine.specs.declared.question.Question.{Question}
use Rattle.node_letters.specs.Letters.{letters_of}
use Rattle.own_probes.specs.declared.run.Run.{Run}
use Rattle.own_probes.specs.Probes.{run_in}
use Rattle.node_core.specs.Stored.{Knows}
use Rattle.node_core.specs.declared.node.Node.{Node}
use Rattle.node_core.specs.declared.reaction.Reaction.{Reaction}
use Rattle.node_core.specs.declared.reaction.Asking.{Asking}

-- ---- the deal that is offered

-- no bytes are read for what a tick of the peer offers
abbrev pub IsBare : Situation → ℕ → Type 0
IsBare n p = (settings : Settings) (o : MachineOffer) → (state n.history).settings ≡ Some settings → offer_at settings n p ≡ Some o → brings_bytes o.deal.what ≡ false

-- while nothing was chosen the question is that of the state
abbrev pub IsWorkedOut : Option Question → State → Type 0
IsWorkedOut o s = (length s.chosen == 0) ≡ true → o ≡ question_of s

-- ---- what it comes to

-- a rule comes to this; letters are those that go out
pub record IsRule (r : Reaction) (n : Situation) (m : Rule) : Type 0 where
  pub change : r.change ≡ m.grown
  pub letters : letters_of r.out ≡ all_spelled (state n.history).settings m.letters
  pub dropped : r.dropped ≡ None

-- the rules of a tick come to this
abbrev pub Follows : Reaction → Situation → ℕ → Type 0
Follows r n p = IsRule r n (on_tick (state n.history).settings n p)

-- on every disk they come to the same change
abbrev pub FollowsSo : Reaction → Situation → ℕ → Type 0
FollowsSo r n p = (r.change ≡ (on_tick (state n.history).settings n p).grown) × (r.dropped ≡ None)

-- the rule of the deal that is offered comes to this, where the peer has a key
abbrev pub OffersDeal : {L : Type 0} → Reaction → Node L → Situation → ℕ → Type 0
OffersDeal r node n p =
    (settings : Settings) (key : List ℕ) → (state n.history).settings ≡ Some settings → key_in node.peers.keys p ≡ Some key → IsRule r n (by_offer settings n.history p (offer_at settings n p))

-- on every disk it comes to the same change
abbrev pub OffersDealSo : Reaction → Situation → ℕ → Type 0
OffersDealSo r n p = (settings : Settings) → (state n.history).settings ≡ Some settings → (r.change ≡ (by_offer settings n.history p (offer_at settings n p)).grown) × (r.dropped ≡ None)

-- ---- the probe, and the question behind it

-- the probe of the peer that runs, if one does
abbrev pub IsRunAt : {L : Type 0} → Option Run → Node L → ℕ → Type 0
IsRunAt o node p = (n : Situation) → Knows node n → option_map run_in o ≡ run_at n p

-- what failures of the peer come to: the end of a probe that is late, or a discard that is due
abbrev pub by_failure : Situation → ℕ → Rule
by_failure n p = then_by (by_late p (later (of_peer n.volatile p).clock) (run_at n p)) (by_due (state n.history) p)

-- the rules behind the deal
abbrev pub asked_at : Settings → Situation → ℕ → Rule
asked_at settings n p = then_by (by_run settings.seed (state n.history) p (of_peer n.volatile p) (run_at n p)) (sends (questions (state n.history) p))

-- they come to this
pub record IsAsking (a : Asking) (n : Situation) (m : Rule) : Type 0 where
  pub change : a.change ≡ m.grown
  pub letters : letters_of (option_to_list a.letter) ≡ all_spelled (state n.history).settings m.letters

-- where the peer has a key
abbrev pub Asks : {L : Type 0} → Asking → Node L → Situation → ℕ → Type 0
Asks a node n p = (settings : Settings) (key : List ℕ) → (state n.history).settings ≡ Some settings → key_in node.peers.keys p ≡ Some key → IsAsking a n (asked_at settings n p)
