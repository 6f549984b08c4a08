-- The accounts of all peers, as lists.
use Rattle.std.specs.Prelude.{ℕ, ◌==◌, if◌then◌else◌, Bool, not, List, [], ◌∷◌, filter}
use Rattle.std.specs.List.{list_any}
use Rattle.psb_bytes.specs.declared.ids.Object.{Object}
use Rattle.psb_model.specs.declared.entries.InEntry.{InEntry}
use Rattle.psb_model.specs.State.{blank, ties_in}
use Rattle.peer_account.specs.View.{AccountView}

-- the account of a peer; a stranger has no room
abbrev pub account_in : List AccountView → ℕ → AccountView
account_in [] p = record { id = p; row = blank; in_room = 0; out_room = 0; barred_room = 0; cancel_room = 0; debt_room = 0 }
account_in (v ∷ vs) p = if v.id == p then v else account_in vs p

-- whether a pending deal ties the object in what the node answers for to p
abbrev pub tied_by : List AccountView → ℕ → Object → Bool
tied_by vs p o = list_any (λ (v : AccountView). ties_in v.id v.row.pending p o) vs

-- the entries that none ties
abbrev pub untied : List AccountView → ℕ → List InEntry → List InEntry
untied vs p = filter (λ (e : InEntry). not (tied_by vs p e.object))
