-- What a node reads and takes in is what the machine reads and takes in.
use Rattle.std.proofs.Common.{◌≡◌, ℕ, true, List, [], Option, Some, None, Result, Err, refl, sym, ◌∙◌, ap, subst, is_some}
use Rattle.psb_settings.specs.declared.settings.Settings.{Settings}
use Rattle.psb_station.proofs.Spans.{same_some}
use Rattle.psb_model.specs.State.{is_peer}
use Rattle.psb_model.specs.History.{state}
use Rattle.psb_model.specs.declared.change.Change.{Change}
use Rattle.wire_codec.specs.Frames.{Incoming, read_frame, key_in}
use Rattle.wire_codec.specs.declared.frame.Dropped.{Dropped}
use Rattle.psb_machine.specs.Letters.{keys_of, all_spelled}
use Rattle.psb_machine.specs.Messages.{Message}
use Rattle.psb_machine.specs.Machine.{Situation, Input, Datagram, Reaction as MachineReaction, on_read, by_message, on_message, react, quiet}
use Rattle.psb_machine.proofs.Causes.{react-read}
use Rattle.psb_machine.proofs.Peers.{keyed_is_peer}
use Rattle.node_letters.specs.Letters.{letters_of}
use Rattle.node_letters.specs.Messages.{sender_in, message_in, IsMessage, IsOther}
use Rattle.node_letters.specs.Peers.{PeersView}
use Rattle.node_letters.specs.declared.message.Message.{Message as MessageHere}
use Rattle.node_letters.specs.declared.message.Sender.{Sender}
use Rattle.node_core.specs.declared.node.Node.{Node}
use Rattle.peer_states.specs.declared.peer_state.Note.TheVariants.{Nothing}
use Rattle.node_core.specs.declared.reaction.Reaction.{Reaction}
use Rattle.peer_states.specs.PeerStates.{note_in}
use Rattle.node_core.specs.Hearing.{Heard, Hears, HearsSo, MakesNo}
use Rattle.node_core.specs.Reacting.{Reacts, ReactsSo}
use Rattle.node_core.specs.Stored.{Knows}
use Rattle.node_core.specs.Unread.{IsUnread, IsUnreadMessage}

-- ---- what is read

-- the node reads a datagram as the machine does
reads_as : {L : Type 0} (node : Node L) (n : Situation) (x : List ℕ) (k : Knows node n) → react n (Datagram x) ≡ on_read k.settings.settings n (read_frame node.peers.own.id node.peers.keys x)
reads_as node n x k =
    let st = k.settings.settings in
    react-read n x st k.settings.present
    ∙ ap (λ (p : PeersView). on_read st n (read_frame p.own.id (keys_of st) x)) (sym k.settings.peers)
    ∙ ap (λ (p : PeersView). on_read st n (read_frame node.peers.own.id p.keys x)) (sym k.settings.peers)

-- it is read so by the settings of the history
read_is : {L : Type 0} (node : Node L) (n : Situation) (x : List ℕ) (k : Knows node n) → read_frame k.settings.settings.id (keys_of k.settings.settings) x ≡ read_frame node.peers.own.id node.peers.keys x
read_is node n x k =
    ap (λ (p : PeersView). read_frame p.own.id (keys_of k.settings.settings) x) (sym k.settings.peers)
    ∙ ap (λ (p : PeersView). read_frame node.peers.own.id p.keys x) (sym k.settings.peers)

pub keyed_in : {L : Type 0} (node : Node L) (n : Situation) (p : ℕ) (key : List ℕ) (k : Knows node n) → key_in node.peers.keys p ≡ Some key → key_in (keys_of k.settings.settings) p ≡ Some key
keyed_in node n p key k keyed = ap (λ (t : PeersView). key_in t.keys p) (sym k.settings.peers) ∙ keyed

pub peer_of : {L : Type 0} (node : Node L) (n : Situation) (p : ℕ) (key : List ℕ) → Knows node n → key_in node.peers.keys p ≡ Some key → is_peer (state n.history) p ≡ true
peer_of node n p key k keyed = keyed_is_peer n.history k.settings.settings p key k.settings.present (keyed_in node n p key k keyed)

pub heard_is : (own : ℕ) (keys : List (ℕ × List ℕ)) (x : List ℕ) (from : Sender) (m : MessageHere) → IsMessage own keys x from m → Heard keys from (message_in m)
heard_is own keys x from m is = record { keyed = is.keyed; fits = is.fits }

-- ---- where nothing comes of it

pub none_spelled : (o : Option Settings) → [] ≡ all_spelled o []
none_spelled None = refl
none_spelled (Some settings) = refl

quiet_reacts : (r : Reaction) (n : Situation) (m : MachineReaction) (why : Option Dropped) → m ≡ record quiet { dropped = why } → r.change ≡ None → r.note ≡ Nothing → r.dropped ≡ why → r.out ≡ [] → Reacts r n m
quiet_reacts r n m why is change note dropped out =
    subst (λ (q : MachineReaction). Reacts r n q) (sym is) (record { change = change; letters = ap letters_of out ∙ none_spelled (state n.history).settings; note = ap note_in note; dropped = dropped })

pub fails_reacts : {L : Type 0} (r : Reaction) (node : Node L) (n : Situation) (x : List ℕ) (why : Dropped) → Knows node n → read_frame node.peers.own.id node.peers.keys x ≡ Err why → r.change ≡ None → r.note ≡ Nothing → r.dropped ≡ Some why → r.out ≡ [] → Reacts r n (react n (Datagram x))
fails_reacts r node n x why k is change note dropped out =
    quiet_reacts r n (react n (Datagram x)) (Some why) (reads_as node n x k ∙ ap (λ (q : Result Incoming Dropped). on_read k.settings.settings n q) is) change note dropped out

pub other_reacts : {L : Type 0} (r : Reaction) (node : Node L) (n : Situation) (x : List ℕ) → Knows node n → IsOther node.peers.own.id node.peers.keys x → r.change ≡ None → r.note ≡ Nothing → r.dropped ≡ None → r.out ≡ [] → Reacts r n (react n (Datagram x))
other_reacts r node n x k is change note dropped out =
    let st = k.settings.settings in
    quiet_reacts r n (react n (Datagram x)) None (
    reads_as node n x k
    ∙ ap (λ (q : Result Incoming Dropped). on_read st n q) is.reads
    ∙ ap (λ (o : Option Message). by_message st n (record { peer = is.i.from; number = is.i.number }) o) is.none) change note dropped out

-- a reaction that is the machine's is so on every disk
pub reacts_so : (r : Reaction) (n : Situation) (i : Input) → Reacts r n (react n i) → ReactsSo r n i
reacts_so r n i it = record { change = λ certain. ap (λ (o : Option Change). is_some o) it.change; dropped = it.dropped }

-- ---- a message

said_as : {L : Type 0} (node : Node L) (n : Situation) (x : List ℕ) (from : Sender) (m : MessageHere) (k : Knows node n) → IsMessage node.peers.own.id node.peers.keys x from m
    → react n (Datagram x) ≡ on_message k.settings.settings n (sender_in from) (message_in m)
said_as node n x from m k is =
    let st = k.settings.settings in
    reads_as node n x k
    ∙ ap (λ (q : Result Incoming Dropped). on_read st n q) is.reads
    ∙ ap (λ (o : Option Message). by_message st n (sender_in from) o) is.is

pub said_reacts : {L : Type 0} (r : Reaction) (node : Node L) (n : Situation) (x : List ℕ) (from : Sender) (m : MessageHere) → Knows node n → IsMessage node.peers.own.id node.peers.keys x from m → Hears r n (sender_in from) (message_in m) → Reacts r n (react n (Datagram x))
said_reacts r node n x from m k is hears = subst (λ (q : MachineReaction). Reacts r n q) (sym (said_as node n x from m k is)) (hears k.settings.settings k.settings.present)

pub said_reacts_so : {L : Type 0} (r : Reaction) (node : Node L) (n : Situation) (x : List ℕ) (from : Sender) (m : MessageHere) → Knows node n → IsMessage node.peers.own.id node.peers.keys x from m → HearsSo r n (sender_in from) (message_in m) → ReactsSo r n (Datagram x)
said_reacts_so r node n x from m k is hears =
    let it = hears k.settings.settings k.settings.present in
    let here = said_as node n x from m k is in
    record {
      change = λ certain. it.change ∙ sym (ap (λ (q : MachineReaction). is_some q.grown) here);
      dropped = it.dropped ∙ sym (ap (λ (q : MachineReaction). q.dropped) here);
    }

pub said_unread : {L : Type 0} (node : Node L) (n : Situation) (x : List ℕ) (from : Sender) (m : MessageHere) → Knows node n → IsMessage node.peers.own.id node.peers.keys x from m → IsUnread n (Datagram x) → IsUnreadMessage n (sender_in from) (message_in m)
said_unread node n x from m k is u =
    u k.settings.settings (record { from = from.peer; number = from.number; frame = is.frame }) (message_in m) k.settings.present (read_is node n x k ∙ is.reads) is.is

pub said_none : {L : Type 0} (node : Node L) (n : Situation) (x : List ℕ) (from : Sender) (m : MessageHere) → Knows node n → IsMessage node.peers.own.id node.peers.keys x from m → (react n (Datagram x)).grown ≡ None → MakesNo n (sender_in from) (message_in m)
said_none node n x from m k is none = λ settings present.
    let same : k.settings.settings ≡ settings = same_some (state n.history).settings k.settings.settings settings k.settings.present present in
    ap (λ (st : Settings). (on_message st n (sender_in from) (message_in m)).grown) (sym same)
    ∙ sym (ap (λ (q : MachineReaction). q.grown) (said_as node n x from m k is))
    ∙ none
