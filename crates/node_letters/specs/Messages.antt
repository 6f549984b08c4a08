-- What a datagram is read as.
use Rattle.std.specs.Prelude.{◌≡◌, ℕ, List, Some, None, Ok, Err}
use Rattle.wire_codec.specs.Frames.{Incoming, read_frame, key_in}
use Rattle.wire_codec.specs.declared.frame.Frame.{Frame}
use Rattle.psb_machine.specs.Messages.{Sender as MachineSender, Message as MachineMessage, Deals, Replies, Gets, Asks, Tells, Probes, Proves, Declines, message_of}
use Rattle.psb_machine.specs.Judging.{MessageFits}
use Rattle.deals.specs.Views.{answer_in, deal_in}
use Rattle.node_letters.specs.declared.message.Message.{Message}
use Rattle.node_letters.specs.declared.message.Message.TheVariants as message
use Rattle.node_letters.specs.declared.message.Reading.{Reading}
use Rattle.node_letters.specs.declared.message.Reading.TheVariants as reading
use Rattle.node_letters.specs.declared.message.Sender.{Sender}

-- the sender, without its key
abbrev pub sender_in : Sender → MachineSender
sender_in s = record { peer = s.peer; number = s.number }

-- the message, without where it lies in memory
abbrev pub message_in : Message → MachineMessage
message_in (message.Deal deal) = Deals (deal_in deal)
message_in (message.Reply answer) = Replies (answer_in answer)
message_in (message.Get name) = Gets name
message_in (message.Ask salt names) = Asks salt names
message_in (message.Sample salt bits) = Tells salt bits
message_in (message.Probe nonce objects) = Probes nonce objects
message_in (message.Proof nonce value) = Proves nonce value
message_in (message.Declined nonce places) = Declines nonce places

-- a frame of a peer with this key, which is this message; what matters of its parts is within its bounds
pub record IsMessage (own : ℕ) (keys : List (ℕ × List ℕ)) (x : List ℕ) (from : Sender) (m : Message) : Type 0 where
  pub frame : Frame
  pub reads : read_frame own keys x ≡ Ok (record { from = from.peer; number = from.number; frame = frame })
  pub is : message_of frame ≡ Some (message_in m)
  pub keyed : key_in keys from.peer ≡ Some from.key
  pub fits : MessageFits (sender_in from) (message_in m)

-- a frame that says nothing
pub record IsOther (own : ℕ) (keys : List (ℕ × List ℕ)) (x : List ℕ) : Type 0 where
  pub i : Incoming
  pub reads : read_frame own keys x ≡ Ok i
  pub none : message_of i.frame ≡ None

abbrev pub Reads : Reading → ℕ → List (ℕ × List ℕ) → List ℕ → Type 0
Reads (reading.Fails why) own keys x = read_frame own keys x ≡ Err why
Reads reading.Other own keys x = IsOther own keys x
Reads (reading.Says from m) own keys x = IsMessage own keys x from m
