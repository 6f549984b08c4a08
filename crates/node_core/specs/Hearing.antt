-- What a node makes of a message of a peer.
use Rattle.std.specs.Prelude.{◌≡◌, ℕ, true, false, ◌==◌, List, [], ◌∷◌, length, ◌≤◌, Option, Some, None, slice_get, is_some}
use Rattle.psb_settings.specs.declared.settings.Settings.{Settings}
use Rattle.psb_model.specs.State.{row}
use Rattle.psb_model.specs.History.{state}
use Rattle.psb_model.specs.Needed.{last_brought}
use Rattle.psb_model.specs.declared.change.Change.{Change}
use Rattle.wire_codec.specs.Frames.{key_in, datagram}
use Rattle.wire_codec.specs.declared.frame.Frame.{Frame}
use Rattle.wire_codec.specs.declared.frame.Frame.TheVariants.{Here}
use Rattle.psb_machine.specs.Messages.{Sender as MachineSender, Message}
use Rattle.psb_machine.specs.Judging.{MessageFits}
use Rattle.psb_machine.specs.Replies.{reply_of}
use Rattle.psb_machine.specs.Gets.{has_chunk}
use Rattle.psb_machine.specs.Machine.{Situation, Reaction as MachineReaction, on_message}
use Rattle.node_letters.specs.Letters.{letters_of}
use Rattle.node_letters.specs.Messages.{sender_in}
use Rattle.node_letters.specs.declared.message.Sender.{Sender}
use Rattle.node_core.specs.Reacting.{Reacts}
use Rattle.node_core.specs.declared.node.Node.{Node}
use Rattle.peer_states.specs.declared.peer_state.Note.TheVariants.{Nothing}
use Rattle.node_core.specs.declared.reaction.Reaction.{Reaction}

-- the sender shares its key with the node, and the parts of its message are within their bounds
pub record Heard (keys : List (ℕ × List ℕ)) (from : Sender) (m : Message) : Type 0 where
  pub keyed : key_in keys from.peer ≡ Some from.key
  pub fits : MessageFits (sender_in from) m

-- it is what the machine makes of the message
abbrev pub Hears : Reaction → Situation → MachineSender → Message → Type 0
Hears r n from m = (settings : Settings) → (state n.history).settings ≡ Some settings → Reacts r n (on_message settings n from m)

-- a change is made, or none, as in this reaction
pub record IsLike (r : Reaction) (m : MachineReaction) : Type 0 where
  pub change : is_some r.change ≡ is_some m.grown
  pub dropped : r.dropped ≡ m.dropped

-- on every disk it is so but for which change is made
abbrev pub HearsSo : Reaction → Situation → MachineSender → Message → Type 0
HearsSo r n from m = (settings : Settings) → (state n.history).settings ≡ Some settings → IsLike r (on_message settings n from m)

-- the machine makes no change of it
abbrev pub MakesNo : Situation → MachineSender → Message → Type 0
MakesNo n from m = (settings : Settings) → (state n.history).settings ≡ Some settings → (on_message settings n from m).grown ≡ None

-- ---- how it is answered

-- the letters are the one that answers the sender by this change
abbrev pub TellsOf : {L : Type 0} → List (ℕ × List ℕ) → Node L → Sender → Change → Type 0
TellsOf letters node from c = letters ≡ (from.peer, datagram from.key node.peers.own.id from.peer from.number (reply_of node.claims.seed c)) ∷ []

-- this change is to be made of the sender's deal, and told of
pub record Makes {L : Type 0} (r : Reaction) (node : Node L) (from : Sender) (c : Change) : Type 0 where
  pub change : r.change ≡ Some c
  pub letters : TellsOf (letters_of r.out) node from c
  pub note : r.note ≡ Nothing
  pub dropped : r.dropped ≡ None

-- the letters tell again of the change of the sender's last deal, where this is its number
abbrev pub IsToldAgain : {L : Type 0} → Node L → Situation → Sender → ℕ → List (ℕ × List ℕ) → Type 0
IsToldAgain node n from change letters =
    (row (state n.history) from.peer).last.change ≡ change → ((row (state n.history) from.peer).last.number == 0) ≡ false
    → (c : Change) × (slice_get n.history change ≡ Some c) × TellsOf letters node from c

-- where the sender has the chunk here, the letters give it the bytes that were brought last under its name
abbrev pub IsGiven : {L : Type 0} → Node L → Situation → Sender → List ℕ → List (ℕ × List ℕ) → Type 0
IsGiven node n from name letters =
    has_chunk (state n.history) from.peer name ≡ true
    → (bytes : List ℕ) × (last_brought name n.history ≡ Some bytes) × (letters ≡ (from.peer, datagram from.key node.peers.own.id from.peer from.number (Here name bytes)) ∷ [])

-- the letters are the one that answers the sender with this frame, if there is one
abbrev pub TellsBack : {L : Type 0} → List (ℕ × List ℕ) → Node L → Sender → Option Frame → Type 0
TellsBack letters node from None = letters ≡ []
TellsBack letters node from (Some f) = letters ≡ (from.peer, datagram from.key node.peers.own.id from.peer from.number f) ∷ []

-- no change is to be made, and nothing noted
pub record IsPlain (r : Reaction) : Type 0 where
  pub change : r.change ≡ None
  pub note : r.note ≡ Nothing
  pub dropped : r.dropped ≡ None
  pub few : length r.out ≤ 1

-- no change is to be made, and nobody is answered
pub record IsAnswered (r : Reaction) : Type 0 where
  pub change : r.change ≡ None
  pub dropped : r.dropped ≡ None
  pub out : r.out ≡ []
