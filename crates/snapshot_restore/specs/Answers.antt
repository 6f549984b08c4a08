-- The bodies that peers answer with, by what was heard.
use Rattle.std.specs.Prelude.{ℕ, if◌then◌else◌, List, [], ◌∷◌, bytes_eq, flat_map, Option, Some, None, Result, Ok, Err}
use Rattle.psb_station.specs.View.{Heard}
use Rattle.psb_station.specs.View.Heard.{Frame, Nothing, Clock, Joined, Fault}
use Rattle.psb_settings.specs.declared.settings.Settings.{Settings}
use Rattle.wire_codec.specs.Frames.{Incoming, read_frame}
use Rattle.wire_codec.specs.declared.frame.Frame.{Frame as AFrame}
use Rattle.wire_codec.specs.declared.frame.Frame.TheVariants as frame
use Rattle.wire_codec.specs.declared.frame.Dropped.{Dropped}
use Rattle.node_letters.specs.Peers.{PeersView, peers_of}

-- the bytes that a frame has for a name: those of a Here frame, whatever its number is
abbrev pub here_in : List ℕ → AFrame → Option (List ℕ)
here_in name (frame.Here n bytes) = if bytes_eq n name then Some bytes else None
here_in name f = None

abbrev pub here_of : List ℕ → Result Incoming Dropped → Option (List ℕ)
here_of name (Ok incoming) = here_in name incoming.frame
here_of name (Err dropped) = None

-- the bytes that a datagram has for it, where it is the frame of a peer
abbrev pub answer_by : PeersView → List ℕ → List ℕ → Option (List ℕ)
answer_by peers name datagram = here_of name (read_frame peers.own.id peers.keys datagram)

abbrev pub answer_in : Settings → List ℕ → List ℕ → Option (List ℕ)
answer_in settings name datagram = answer_by (peers_of settings) name datagram

-- one, or none
abbrev pub listed : Option (List ℕ) → List (List ℕ)
listed None = []
listed (Some body) = body ∷ []

abbrev pub answer_to : Settings → List ℕ → Heard → List (List ℕ)
answer_to settings name (Frame x) = listed (answer_in settings name x)
answer_to settings name Nothing = []
answer_to settings name (Clock t) = []
answer_to settings name Joined = []
answer_to settings name Fault = []

-- the bodies that came for a name, in order
abbrev pub answers : Settings → List ℕ → List Heard → List (List ℕ)
answers settings name heard = flat_map (answer_to settings name) heard
