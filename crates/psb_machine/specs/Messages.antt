-- What a frame of a peer says to the node: one case for each kind.
use Rattle.std.specs.Prelude.{ℕ, List, Option, Some, None}
use Rattle.psb_bytes.specs.declared.ids.Object.{Object}
use Rattle.wire_codec.specs.declared.frame.Frame.{Frame}
use Rattle.wire_codec.specs.declared.frame.Frame.TheVariants as frame
use Rattle.psb_machine.specs.Deals.{Deal, Cancel, PutBack, Replace, stored}
use Rattle.psb_machine.specs.Settling.{Reply, Accepts, Refuses}

-- the peer that a frame is of, and the frame's number
pub record Sender : Type 0 where
  pub peer : ℕ
  pub number : ℕ

-- The peer asks for a deal, or replies to one; it asks for the bytes under a name, or which
-- names are held, or tells that; it asks for a proof that objects are held, gives one, or declines to for what it
-- does not have.
pub data Message : Type 0 where
  Deals : Deal → Message
  Replies : Reply → Message
  Gets : List ℕ → Message
  Asks : List ℕ → List (List ℕ) → Message
  Tells : List ℕ → ℕ → Message
  Probes : List ℕ → List Object → Message
  Proves : List ℕ → List ℕ → Message
  Declines : List ℕ → List ℕ → Message

-- The message that a frame is. A Here is for a restore alone.
abbrev pub message_of : Frame → Option Message
message_of (frame.Store name numbers bytes) = Some (Deals (stored name numbers bytes))
message_of (frame.Cancel name numbers) = Some (Deals (Cancel name numbers))
message_of (frame.PutBack name claims) = Some (Deals (PutBack name claims))
message_of (frame.Replace slot bytes) = Some (Deals (Replace slot bytes))
message_of (frame.Accepted claims) = Some (Replies (Accepts claims))
message_of (frame.Refused why detail) = Some (Replies (Refuses why detail))
message_of (frame.Declined nonce places) = Some (Declines nonce places)
message_of (frame.Get name) = Some (Gets name)
message_of (frame.Here name bytes) = None
message_of (frame.Probe nonce objects) = Some (Probes nonce objects)
message_of (frame.Proof nonce value) = Some (Proves nonce value)
message_of (frame.Ask salt names) = Some (Asks salt names)
message_of (frame.Sample salt bits) = Some (Tells salt bits)
