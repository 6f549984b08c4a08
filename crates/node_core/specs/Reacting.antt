-- What a node makes of an input, and what making a change does to it.
use Rattle.std.specs.Prelude.{◌≡◌, ◌⊎◌, ◌≤◌, ℕ, [], ◌∷◌, ◌++◌, Some, None, Option, is_some}
use Rattle.psb_model.specs.History.{state}
use Rattle.psb_model.specs.Needed.{IsValid}
use Rattle.psb_model.specs.declared.change.Change.{Change}
use Rattle.psb_machine.specs.Letters.{all_spelled}
use Rattle.psb_machine.specs.Volatile.{Note as MachineNote}
use Rattle.psb_machine.specs.Sampling.{question_of}
use Rattle.psb_machine.specs.Machine.{Situation, Input, Reaction as MachineReaction, react, settled}
use Rattle.psb_machine.specs.Laws.{SparesProbes}
use Rattle.probe_laws.specs.Just.{JustOutcome}
use Rattle.node_letters.specs.Letters.{letters_of}
use Rattle.peer_states.specs.PeerStates.{note_in, states_noted}
use Rattle.node_core.specs.Making.{MayMake}
use Rattle.node_core.specs.Unread.{IsCertain}
use Rattle.node_core.specs.declared.reaction.Reaction.{Reaction}
use Rattle.node_core.specs.declared.node.Node.{Node}

-- ---- what is made of an input

-- it is what the machine makes: the same change and note, and its letters as they go out
pub record Reacts (r : Reaction) (n : Situation) (m : MachineReaction) : Type 0 where
  pub change : r.change ≡ m.grown
  pub letters : letters_of r.out ≡ all_spelled (state n.history).settings m.letters
  pub note : note_in r.note ≡ m.note
  pub dropped : r.dropped ≡ m.dropped

-- on every disk it is so but for which change is made, if one is
pub record ReactsSo (r : Reaction) (n : Situation) (i : Input) : Type 0 where
  pub change : IsCertain n i → is_some r.change ≡ is_some (react n i).grown
  pub dropped : r.dropped ≡ (react n i).dropped

-- the change may come next, and what it proposes ties nothing that a probe lists which runs
pub record MayFollow (n : Situation) (c : Change) : Type 0 where
  pub valid : IsValid (n.history ++ c ∷ [])
  pub spares : SparesProbes n c

-- the change may be made by a node with this state, and come next in its history
abbrev pub MayCome : {L : Type 0} → (Node L → Situation → Type 0) → Node L → Change → Type 0
MayCome knows node c = MayMake node.ledger.state c × ((n : Situation) → knows node n → MayFollow n c)

-- ---- a change is made

-- the change is that of the reaction, and may come next
pub record IsStep (n : Situation) (m : MachineReaction) (c : Change) : Type 0 where
  pub grown : m.grown ≡ Some c
  pub valid : IsValid (settled n m).history
  pub spares : SparesProbes n c

-- what a node keeps of its settings stays, and no number of a claim is taken back
pub record SameOwner {L : Type 0} (old new : Node L) : Type 0 where
  pub peers : new.peers ≡ old.peers
  pub seed : new.claims.seed ≡ old.claims.seed
  pub issued : old.claims.issued ≤ new.claims.issued

-- the node is the same but for how many claims were issued and made, and for a question that was worked out
pub record IsSame {L : Type 0} (old new : Node L) : Type 0 where
  pub log : new.log ≡ old.log
  pub ledger : new.ledger ≡ old.ledger
  pub names : new.names ≡ old.names
  pub slots : new.slots ≡ old.slots
  pub states : new.states ≡ old.states
  pub question : (new.question ≡ old.question) ⊎ (new.question ≡ question_of new.ledger.state)
  pub rest : SameOwner old new

-- the node is the same but for what was noted of its peers
pub record IsNoted {L : Type 0} (note : MachineNote) (old new : Node L) : Type 0 where
  pub log : new.log ≡ old.log
  pub ledger : new.ledger ≡ old.ledger
  pub names : new.names ≡ old.names
  pub slots : new.slots ≡ old.slots
  pub peers : new.peers ≡ old.peers
  pub claims : new.claims ≡ old.claims
  pub question : new.question ≡ old.question
  pub states : new.states.items ≡ states_noted note old.states.items

-- the number of the change that grew, if one did, where it is the next one
abbrev pub numbered : Option Change → ℕ → Option ℕ
numbered None number = None
numbered (Some c) number = Some number

-- the history is as it was, or has one change more, which has its reason in the input where it is one of the node's own
-- probes
abbrev pub GrewJustly : Situation → Input → Situation → Type 0
GrewJustly n x m = (m.history ≡ n.history) ⊎ (c : Change) × (m.history ≡ n.history ++ c ∷ []) × JustOutcome n x c
