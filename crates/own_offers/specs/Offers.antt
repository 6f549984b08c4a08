-- The own deal that a tick offers a peer, as a node finds it, and what asks the peer for it.
use Rattle.std.specs.Prelude.{◌≡◌, ℕ, true, false, if◌then◌else◌, List, map, option_to_list, Option, Some, None}
use Rattle.psb_settings.specs.declared.settings.Settings.{Settings}
use Rattle.psb_model.specs.declared.deals.Deal.{Deal}
use Rattle.psb_model.specs.declared.deals.DealWhat.{DealWhat}
use Rattle.psb_model.specs.declared.change.Change.{Change}
use Rattle.psb_model.specs.declared.change.Change.TheVariants.{Proposed}
use Rattle.wire_codec.specs.Frames.{key_in}
use Rattle.wire_codec.specs.declared.frame.Frame.{Frame}
use Rattle.psb_machine.specs.Letters.{spelled}
use Rattle.psb_machine.specs.Volatile.{later}
use Rattle.psb_machine.specs.Proposals.{Offer as MachineOffer, is_even, frame_of, deal_letters}
use Rattle.node_letters.specs.Letters.{letters_of}
use Rattle.node_letters.specs.Peers.{PeersView, peers_of}
use Rattle.node_letters.specs.declared.letter.Letter.{Letter}
use Rattle.peer_states.specs.declared.peer_state.PeerState.{PeerState}
use Rattle.own_offers.specs.declared.offering.Offer.{Offer}

-- ---- the deal

-- as the machine has it
abbrev pub offer_in : Offer → MachineOffer
offer_in o = record { deal = o.deal; is_new = o.is_new }

-- the deal that a change proposes
abbrev pub offer_of : Change → Option MachineOffer
offer_of (Proposed x) = Some (record { deal = record { number = x.deal; what = x.what }; is_new = true })
offer_of _ = None

-- one without a reply at each second tick
abbrev pub offered_again : PeerState → Deal → Option MachineOffer
offered_again x d = if is_even (later x.clock) then Some (record { deal = d; is_new = false }) else None

-- ---- what asks for it

-- the frame with which a node of this seed asks the peer for it, by the history, if there is one
abbrev pub IsFrame : Option Frame → List ℕ → List Change → ℕ → DealWhat → Type 0
IsFrame o seed h p what = (settings : Settings) → settings.seed ≡ seed → o ≡ frame_of settings h p what

-- the letter with which it does, where the peer has a key
abbrev pub IsLetter : Option Letter → PeersView → List ℕ → List Change → ℕ → Deal → Type 0
IsLetter o peers seed h p deal =
    (settings : Settings) (key : List ℕ) → peers ≡ peers_of settings → settings.seed ≡ seed → key_in peers.keys p ≡ Some key
    → letters_of (option_to_list o) ≡ map (spelled settings) (deal_letters settings h p deal)
