-- The node itself and its peers, as settings name them.
use Rattle.std.specs.Prelude.{ℕ, List, replicate}
use Rattle.psb_settings.specs.declared.settings.PeerRow.{PeerRow}
use Rattle.psb_settings.specs.declared.settings.Settings.{Settings}
use Rattle.psb_machine.specs.Letters.{keys_of}

-- the node's own row, the rows of its peers in order, and their keys
pub record PeersView : Type 0 where
  pub own : PeerRow
  pub rows : List PeerRow
  pub keys : List (ℕ × List ℕ)

-- a node shares no key with itself, and is no hop away
abbrev pub own_row : Settings → PeerRow
own_row s = record { id = s.id; address = s.address; key = replicate 32 0; hops = 0 }

abbrev pub peers_of : Settings → PeersView
peers_of s = record { own = own_row s; rows = s.peers; keys = keys_of s }
