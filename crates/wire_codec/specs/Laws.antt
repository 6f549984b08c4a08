-- The laws of the grammar: frames and their datagrams go together, one to one.
use Rattle.std.specs.Prelude.{◌≡◌, ℕ, ◌<◌, ◌^◌, IsTrue, List, Some, Ok}
use Rattle.psb_bytes.specs.Numbers.{AreBytes}
use Rattle.wire_codec.specs.declared.frame.Frame.{Frame}
use Rattle.wire_codec.specs.Frames.{Incoming, fits, datagram, read_frame, key_in}

-- the frame fits, and so do the numbers of its header
pub record IsFrame (from to number : ℕ) (frame : Frame) : Type 0 where
  pub frame_fits : IsTrue (fits frame)
  pub from_fits : from < 2 ^ 32
  pub to_fits : to < 2 ^ 32
  pub number_fits : number < 2 ^ 64

-- what a peer spells is read by the node that it is for
abbrev pub SpelledIsRead : Type 0
SpelledIsRead = (from own number : ℕ) (frame : Frame) (keys : List (ℕ × List ℕ)) (key : List ℕ) → IsFrame from own number frame → key_in keys from ≡ Some key
    → read_frame own keys (datagram key from own number frame) ≡ Ok (record { from = from; number = number; frame = frame })

-- what is read is what its sender spells, each byte of it
abbrev pub ReadIsSpelled : Type 0
ReadIsSpelled = (own : ℕ) (keys : List (ℕ × List ℕ)) (bytes : List ℕ) (incoming : Incoming) → AreBytes bytes → read_frame own keys bytes ≡ Ok incoming
    → (key : List ℕ) × (key_in keys incoming.from ≡ Some key) × IsFrame incoming.from own incoming.number incoming.frame × (bytes ≡ datagram key incoming.from own incoming.number incoming.frame)

-- no two datagrams are read as one frame
abbrev pub OneDatagram : Type 0
OneDatagram = (own : ℕ) (keys : List (ℕ × List ℕ)) (bytes others : List ℕ) (incoming : Incoming) → AreBytes bytes → AreBytes others
    → read_frame own keys bytes ≡ Ok incoming → read_frame own keys others ≡ Ok incoming → bytes ≡ others

-- no two frames have one datagram, whatever the keys
abbrev pub OneFrame : Type 0
OneFrame = (from to number : ℕ) (frame : Frame) (key : List ℕ) (from' to' number' : ℕ) (frame' : Frame) (key' : List ℕ) → IsFrame from to number frame → IsFrame from' to' number' frame'
    → datagram key from to number frame ≡ datagram key' from' to' number' frame' → (from ≡ from') × (to ≡ to') × (number ≡ number') × (frame ≡ frame')
