-- The node's own deals as a peer hears of them.
use Rattle.std.specs.Prelude.{ℕ, ◌+◌, ◌%◌, nat_le, Bool, true, false, ◌&&◌, ◌==◌, List, [], option_map, option_to_list, Option, Some, None}
use Rattle.psb_bytes.specs.declared.ids.Object.{Object}
use Rattle.psb_bytes.specs.declared.ids.Object.TheVariants.{Chunk}
use Rattle.psb_settings.specs.declared.settings.Settings.{Settings}
use Rattle.psb_model.specs.Words.{units_at}
use Rattle.psb_model.specs.State.{State, row, out_key, out_size, own_has}
use Rattle.psb_model.specs.Needed.{last_brought}
use Rattle.psb_model.specs.Conditions.{most_claims}
use Rattle.psb_model.specs.Proposing.{ProposeFacts, proposal}
use Rattle.psb_model.specs.History.{state}
use Rattle.psb_model.specs.declared.deals.Deal.{Deal}
use Rattle.psb_model.specs.declared.deals.DealWhat.{DealWhat}
use Rattle.psb_model.specs.declared.deals.DealWhat.TheVariants.{Fresh, Swap, Cancel, PutBack}
use Rattle.psb_model.specs.declared.change.Change.{Change}
use Rattle.wire_codec.specs.Fields.{within, are_slots}
use Rattle.wire_codec.specs.declared.limits.TheConstants.{MOST_SLOTS}
use Rattle.wire_codec.specs.declared.frame.Frame.{Frame}
use Rattle.wire_codec.specs.declared.frame.Frame.TheVariants as frame
use Rattle.psb_machine.specs.Letters.{Letter}
use Rattle.psb_machine.specs.Replies.{claims_from}

-- what a proposal is made by: claims are never forwarded so far
abbrev pub propose_facts : Settings → State → ProposeFacts
propose_facts settings s = record { issued = s.issued; capacity = settings.capacity; forward = settings.forward }

-- the units of a chunk that the node has there
abbrev pub units_there : State → ℕ → List ℕ → ℕ
units_there s p name = units_at out_key out_size (row s p).outs (Chunk name)

-- The frame that asks for a deal. A chunk that is placed comes with its bytes, which the history has; one that
-- is put back with the own claims in whose place it stood.
abbrev pub frame_of : Settings → List Change → ℕ → DealWhat → Option Frame
frame_of settings h p (Fresh name) = option_map (frame.Store name []) (last_brought name h)
frame_of settings h p (Swap name numbers) = option_map (frame.Store name numbers) (last_brought name h)
frame_of settings h p (Cancel name numbers) = Some (frame.Cancel name numbers)
frame_of settings h p (PutBack name first) = Some (frame.PutBack name (claims_from settings.seed first (units_there (state h) p name)))
frame_of settings h p _ = None

-- the chunk's bytes come with it
abbrev pub brings_bytes : DealWhat → Bool
brings_bytes (Fresh name) = true
brings_bytes (Swap name numbers) = true
brings_bytes _ = false

-- It can be asked for: a chunk whose bytes come with it is the node's own, and the rest can be spelled. No chunk has
-- more than 64 units, and so none takes more slots or claims.
abbrev pub is_askable : State → ℕ → DealWhat → Bool
is_askable s p (Fresh name) = own_has s.own name
is_askable s p (Swap name numbers) = own_has s.own name && are_slots 0 numbers
is_askable s p (Cancel name numbers) = are_slots 1 numbers
is_askable s p (PutBack name first) = within 1 MOST_SLOTS (units_there s p name) && nat_le (first + units_there s p name) most_claims
is_askable s p _ = true

-- the letter that asks the peer for it, under the deal's number
abbrev pub letter_of : ℕ → ℕ → Frame → Letter
letter_of p number f = record { to = p; number = number; frame = f }

abbrev pub deal_letters : Settings → List Change → ℕ → Deal → List Letter
deal_letters settings h p d = option_to_list (option_map (letter_of p d.number) (frame_of settings h p d.what))

-- A deal that is offered to a peer at a tick, and whether it is proposed now or was before.
pub record Offer : Type 0 where
  pub deal : Deal
  pub is_new : Bool

-- the one that is proposed next, with the next number
abbrev pub next_offer : State → ℕ → DealWhat → Offer
next_offer s p what = record { deal = record { number = (row s p).mine + 1; what = what }; is_new = true }

-- what it is proposed beside: the objects that a probe which is under way lists
abbrev pub proposed_at : Settings → State → ℕ → List Object → Option Offer
proposed_at settings s p listed = option_map (next_offer s p) (proposal s p listed (propose_facts settings s))

abbrev pub is_even : ℕ → Bool
is_even n = n % 2 == 0
