-- How a Get is asked and answered.
use Rattle.std.proofs.Common.{◌≡◌, ◌≤◌, ℕ, false, List, [], ◌∷◌, map, length, Some, ◌∙◌, ap}
use Rattle.std.proofs.lemmas.Bool.{false≢true}
use Rattle.psb_bytes.specs.Units.{longest_chunk}
use Rattle.psb_station.proofs.Spans.{same_some}
use Rattle.psb_settings.specs.declared.settings.Settings.{Settings}
use Rattle.psb_model.specs.State.{is_held}
use Rattle.psb_model.specs.History.{state}
use Rattle.psb_model.specs.Needed.{last_brought}
use Rattle.wire_codec.specs.Frames.{datagram}
use Rattle.wire_codec.specs.declared.frame.Frame.TheVariants.{Here}
use Rattle.psb_machine.specs.Commands.{get_by, gets}
use Rattle.psb_machine.specs.Machine.{Situation}
use Rattle.node_letters.specs.Peers.{PeersView}
use Rattle.node_letters.specs.declared.message.Sender.{Sender}
use Rattle.node_core.specs.declared.node.Node.{Node}
use Rattle.node_core.specs.Hearing.{IsGiven}
use Rattle.node_core.specs.Stored.{Knows}
use Rattle.node_facts.proofs.Probed.{chunk_held}
use Rattle.own_offers.proofs.Chunks.{brought_chunk}

-- ---- the letters

-- to each peer of the settings
pub gets_are : {L : Type 0} (node : Node L) (n : Situation) (settings : Settings) (name : List ℕ) → Knows node n → (state n.history).settings ≡ Some settings → map (get_by node.peers.own.id name) node.peers.rows ≡ gets settings name
gets_are node n settings name k present =
    let same : k.settings.settings ≡ settings = same_some (state n.history).settings k.settings.settings settings k.settings.present present in
    ap (λ (p : PeersView). map (get_by p.own.id name) p.rows) k.settings.peers ∙ ap (λ (st : Settings). gets st name) same

-- where nothing is held, the peer has nothing there
pub given_none : {L : Type 0} (node : Node L) (n : Situation) (from : Sender) (name : List ℕ) (letters : List (ℕ × List ℕ)) → false ≡ is_held (state n.history) name → IsGiven node n from name letters
given_none node n from name letters none = λ has_it. absurd (false≢true (none ∙ chunk_held (state n.history) from.peer name has_it))

-- the one letter has the bytes that were brought last
pub given_bytes : {L : Type 0} (node : Node L) (n : Situation) (from : Sender) (name bytes : List ℕ) (letters : List (ℕ × List ℕ)) → Knows node n → last_brought name n.history ≡ Some bytes
    → (length bytes ≤ longest_chunk → letters ≡ (from.peer, datagram from.key node.peers.own.id from.peer from.number (Here name bytes)) ∷ []) → IsGiven node n from name letters
given_bytes node n from name bytes letters k brought tells = λ has_it. (bytes, brought, tells (brought_chunk n.history name bytes k.valid brought).short)
