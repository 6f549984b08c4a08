-- What a node sends: letters, and how one is spelled where it goes out.
use Rattle.std.specs.Prelude.{ℕ, List, [], map, unwrap_or, Option, Some, None}
use Rattle.psb_settings.specs.declared.settings.PeerRow.{PeerRow}
use Rattle.psb_settings.specs.declared.settings.Settings.{Settings}
use Rattle.wire_codec.specs.Frames.{key_in, datagram}
use Rattle.wire_codec.specs.declared.frame.Frame.{Frame}

-- a frame to a peer, under a number
pub record Letter : Type 0 where
  pub to : ℕ
  pub number : ℕ
  pub frame : Frame

-- the peers and their keys
abbrev pub key_of_row : PeerRow → ℕ × List ℕ
key_of_row p = (p.id, p.key)

abbrev pub keys_of : Settings → List (ℕ × List ℕ)
keys_of s = map key_of_row s.peers

-- the key that the node shares with a peer
abbrev pub key_with : Settings → ℕ → List ℕ
key_with settings p = unwrap_or (key_in (keys_of settings) p) []

-- the receiver and the datagram of a letter
abbrev pub spelled : Settings → Letter → ℕ × List ℕ
spelled settings l = (l.to, datagram (key_with settings l.to) settings.id l.to l.number l.frame)

-- those of all letters; without settings there is no peer to write to
abbrev pub all_spelled : Option Settings → List Letter → List (ℕ × List ℕ)
all_spelled None ls = []
all_spelled (Some settings) ls = map (spelled settings) ls
