-- Replies of a peer to the node's own deals, and the change that one makes.
use Rattle.std.specs.Prelude.{ℕ, if◌then◌else◌, List, Option, Some, None}
use Rattle.psb_bytes.specs.declared.lists.SlotClaim.{SlotClaim}
use Rattle.psb_model.specs.Words.{all_of}
use Rattle.psb_model.specs.State.{State}
use Rattle.psb_model.specs.Conditions.{tests}
use Rattle.psb_model.specs.declared.change.Change.{Change}
use Rattle.psb_model.specs.declared.change.Change.TheVariants.{Settled, Turned}
use Rattle.wire_codec.specs.declared.frame.Frame.{Frame}
use Rattle.wire_codec.specs.declared.frame.Frame.TheVariants as frame
use Rattle.psb_machine.specs.Deals.{slots_of, claims_joined}

-- The peer took the deal, with claims in slots of its own; or it refused it, with a reason's number and a
-- detail.
pub data Reply : Type 0 where
  Accepts : List SlotClaim → Reply
  Refuses : ℕ → ℕ → Reply

-- the reply that a frame is, if it is one
abbrev pub replied_by : Frame → Option Reply
replied_by (frame.Accepted claims) = Some (Accepts claims)
replied_by (frame.Refused why detail) = Some (Refuses why detail)
replied_by _ = None

-- The change that a reply to the deal of this number makes, where it fits: the claims' bytes come with it.
abbrev pub answers_deal : ℕ → ℕ → Reply → Change
answers_deal p number (Accepts claims) = Settled (record { peer = p; deal = number; slots = slots_of claims; body = Some (claims_joined claims) })
answers_deal p number (Refuses why detail) = Turned (record { peer = p; deal = number; why = why; detail = detail })

-- A reply fits where that deal is pending with the peer and, where it was taken, as many claims came as it
-- asks for: one in each of as many new slots for a chunk that is stored fresh, and none for any other.
abbrev pub settle : State → ℕ → ℕ → Reply → Option Change
settle s p number reply = if all_of (tests s (answers_deal p number reply)) then Some (answers_deal p number reply) else None
