-- What a view stands for.
use Rattle.wire_codec.specs.declared.frame.Frame.{Frame}
use Rattle.wire_codec.specs.declared.frame.Frame.TheVariants as frame
use Rattle.wire_codec.specs.declared.view.BodyView.{BodyView}
use Rattle.wire_codec.specs.declared.view.BodyView.TheVariants.{Store, Cancel, PutBack, Replace, Accepted, Refused, Declined, Get, Here, Probe, Proof, Ask, Sample}
use Rattle.wire_codec.specs.declared.view.FrameView.{FrameView}
use Rattle.wire_codec.specs.Frames.{Incoming}

-- the frame, without where it lies in memory
abbrev pub frame_of : BodyView → Frame
frame_of (Store name slots bytes) = frame.Store name slots bytes.now
frame_of (Cancel name slots) = frame.Cancel name slots
frame_of (PutBack name claims) = frame.PutBack name claims
frame_of (Replace slot bytes) = frame.Replace slot bytes.now
frame_of (Accepted claims) = frame.Accepted claims
frame_of (Refused why detail) = frame.Refused why detail
frame_of (Declined nonce places) = frame.Declined nonce places
frame_of (Get name) = frame.Get name
frame_of (Here name bytes) = frame.Here name bytes.now
frame_of (Probe nonce objects) = frame.Probe nonce objects
frame_of (Proof nonce value) = frame.Proof nonce value
frame_of (Ask salt names) = frame.Ask salt names
frame_of (Sample salt bits) = frame.Sample salt bits

abbrev pub incoming_of : FrameView → Incoming
incoming_of view = record { from = view.from; number = view.number; frame = frame_of view.body }
