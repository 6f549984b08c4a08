-- How a probe of a peer is answered.
use Rattle.std.proofs.Common.{◌≡◌, ℕ, List, [], ◌∷◌, length, option_map, Option, Some, None, is_some, refl, sym, ap, subst, ◌∙◌, arith}
use Rattle.psb_bytes.specs.declared.ids.Object.{Object}
use Rattle.psb_model.specs.State.{State}
use Rattle.psb_model.specs.History.{state}
use Rattle.psb_model.specs.Needed.{IsValid}
use Rattle.psb_model.specs.declared.change.Change.{Change}
use Rattle.wire_codec.specs.Frames.{datagram}
use Rattle.wire_codec.specs.declared.frame.Frame.{Frame}
use Rattle.psb_machine.specs.Messages.{Probes}
use Rattle.psb_machine.specs.Probing.{missing_from, proof_by, proof_of}
use Rattle.psb_machine.specs.Proposals.{letter_of}
use Rattle.psb_machine.specs.Machine.{Situation, answers_with}
use Rattle.chunk_store.specs.declared.store.Store.{Store}
use Rattle.slot_places.specs.declared.tables.SlotTables.{SlotTables}
use Rattle.slot_places.specs.Slots.{KnowsSlots}
use Rattle.node_history.specs.Less.{IsLess}
use Rattle.node_history.specs.Names.{KnowsNames}
use Rattle.node_history.proofs.Less.{less_same, names_less, slots_less}
use Rattle.node_facts.specs.Probed.{Knows as KnowsHeld}
use Rattle.node_facts.specs.declared.probing.Holdings.{Holdings}
use Rattle.node_facts.proofs.Probed.{proof_less}
use Rattle.node_letters.specs.Letters.{letters_of}
use Rattle.node_letters.specs.Messages.{sender_in}
use Rattle.node_letters.specs.declared.message.Sender.{Sender}
use Rattle.node_core.specs.declared.node.Node.{Node}
use Rattle.node_core.specs.declared.reaction.Reaction.{Reaction}
use Rattle.peer_states.specs.declared.peer_state.Note.TheVariants as note
use Rattle.node_letters.specs.declared.letter.Letter.{Letter}
use Rattle.node_core.specs.Stored.{Knows}
use Rattle.node_core.specs.Hearing.{Heard, Hears, HearsSo, TellsBack, IsPlain}
use Rattle.peer_states.specs.PeerStates.{note_in}
use Rattle.node_core.specs.Reacting.{Reacts}
use Rattle.node_core.proofs.Heard.{none_spelled}
use Rattle.node_core.proofs.Hearing.{hears_by, so_by, one_spelled, one_letter_is}

-- the machine answers with this frame
pub probe_hears : {L : Type 0} (r : Reaction) (node : Node L) (n : Situation) (from : Sender) (nonce : List ℕ) (objects : List Object) (o : Option Frame) → (k : Knows node n) → Heard node.peers.keys from (Probes nonce objects) → IsPlain r
    → TellsBack (letters_of r.out) node from o → o ≡ proof_of k.settings.settings n.history from.peer nonce objects → Hears r n (sender_in from) (Probes nonce objects)
probe_hears r node n from nonce objects o k heard plain letters is = hears_by r node n (sender_in from) (Probes nonce objects) k (subst (λ (a : Option Frame). Reacts r n (answers_with (option_map (letter_of from.peer from.number) a))) is (by_frame o letters))
  where
    by_frame : (a : Option Frame) → TellsBack (letters_of r.out) node from a → Reacts r n (answers_with (option_map (letter_of from.peer from.number) a))
    by_frame None none = record { change = plain.change; letters = none ∙ none_spelled (state n.history).settings; note = ap note_in plain.note; dropped = plain.dropped }
    by_frame (Some f) one = record { change = plain.change; letters = one ∙ one_spelled node n from.peer from.number from.key f k heard.keyed; note = ap note_in plain.note; dropped = plain.dropped }

-- on every disk it makes no change
pub probe_hears_so : {L : Type 0} (r : Reaction) (node : Node L) (n : Situation) (from : Sender) (nonce : List ℕ) (objects : List Object) → Knows node n → IsPlain r → HearsSo r n (sender_in from) (Probes nonce objects)
probe_hears_so r node n from nonce objects k plain = so_by r node n (sender_in from) (Probes nonce objects) k (record { change = ap (λ (o : Option Change). is_some o) plain.change; dropped = plain.dropped })

-- what the state says is missing, and the history answers
pub proof_now : {L : Type 0} (node : Node L) (n : Situation) (s : State) (p : ℕ) (nonce : List ℕ) (objects : List Object) (o : Option Frame) → (k : Knows node n) → s ≡ state n.history
    → o ≡ proof_by node.claims.seed n.history p nonce objects (missing_from 0 s p objects) → o ≡ proof_of k.settings.settings n.history p nonce objects
proof_now node n s p nonce objects o k is answer =
    answer
    ∙ ap (λ (t : State). proof_by node.claims.seed n.history p nonce objects (missing_from 0 t p objects)) is
    ∙ ap (λ (seed : List ℕ). proof_by seed n.history p nonce objects (missing_from 0 (state n.history) p objects)) k.settings.seed

-- what the history that the log holds answers, the whole one does
pub proof_known : {L : Type 0} (node : Node L) (n : Situation) (s : State) (less : List Change) (p : ℕ) (nonce : List ℕ) (objects : List Object) (o : Option Frame) → (k : Knows node n) → s ≡ state n.history → IsLess n.history less → IsValid less
    → o ≡ proof_by node.claims.seed less p nonce objects (missing_from 0 s p objects) → o ≡ proof_of k.settings.settings n.history p nonce objects
proof_known node n s less p nonce objects o k same is valid answer =
    proof_now node n s p nonce objects o k same (answer ∙ proof_less node.claims.seed n.history less p nonce objects (missing_from 0 s p objects) is valid)

-- a reaction that makes no change and has at most one letter
pub plain_quiet : (r : Reaction) → r.change ≡ None → r.note ≡ note.Nothing → r.dropped ≡ None → r.out ≡ [] → IsPlain r
plain_quiet r change noted dropped out = record { change = change; note = noted; dropped = dropped; few = omega (arith, ap length out) }

plain_made : (r : Reaction) (letter : Letter) → r.change ≡ None → r.note ≡ note.Nothing → r.dropped ≡ None → r.out ≡ letter ∷ [] → IsPlain r
plain_made r letter change noted dropped out = record { change = change; note = noted; dropped = dropped; few = omega (arith, ap length out) }

-- the one letter has the frame with which the machine answers
pub letter_hears : {L : Type 0} (r : Reaction) (node : Node L) (n : Situation) (from : Sender) (nonce : List ℕ) (objects : List Object) (letter : Letter) (f : Frame) → (k : Knows node n) → Heard node.peers.keys from (Probes nonce objects)
    → r.change ≡ None → r.note ≡ note.Nothing → r.dropped ≡ None → r.out ≡ letter ∷ [] → letter.to ≡ from.peer → letter.frame ≡ datagram from.key node.peers.own.id from.peer from.number f
    → Some f ≡ proof_of k.settings.settings n.history from.peer nonce objects → Hears r n (sender_in from) (Probes nonce objects)
letter_hears r node n from nonce objects letter f k heard change noted dropped out to spelled is =
    probe_hears r node n from nonce objects (Some f) k heard (plain_made r letter change noted dropped out)
    (one_letter_is r.out letter from.peer (datagram from.key node.peers.own.id from.peer from.number f) out to spelled) is

-- there is no frame, and no letter
pub no_frame : {L : Type 0} (letters : List (ℕ × List ℕ)) (node : Node L) (from : Sender) (o : Option Frame) → ((f : Frame) → o ≡ Some f → ⊥) → letters ≡ [] → TellsBack letters node from o
no_frame letters node from None not_some none = none
no_frame letters node from (Some f) not_some none = absurd (not_some f refl)

-- what the node keeps in memory is of the history that its log holds
pub knows_held : {L : Type 0} (held : Holdings) (node : Node L) (n : Situation) (less : List Change) → Knows node n → IsLess n.history less → IsValid less → held.ledger.now.state ≡ state n.history → held.names.now ≡ node.names → held.slots.now ≡ node.slots → KnowsHeld held less
knows_held held node n less k is valid here names slots = record {
  valid = valid;
  ledger = here ∙ sym (less_same n.history less is).one_state;
  names = subst (λ (s : Store). KnowsNames s less) (sym names) (names_less node.names n.history less is k.names);
  slots = subst (λ (s : SlotTables). KnowsSlots s less) (sym slots) (slots_less node.slots n.history less is k.slots);
}
