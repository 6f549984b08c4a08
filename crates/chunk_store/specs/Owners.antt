-- Owners, and whether one is among those of a body.
use Rattle.std.specs.Prelude.{Bool, true, false, ◌==◌, ◌||◌}
use Rattle.std.specs.List.{list_any}
use Rattle.chunk_store.specs.declared.owner.Owner.{Owner}
use Rattle.chunk_store.specs.declared.owner.Owner.TheVariants.{Own, Peer}
use Rattle.chunk_store.specs.declared.owners.Owners.{Owners}

-- whether two owners are one
abbrev pub owner_eq : Owner → Owner → Bool
owner_eq Own Own = true
owner_eq Own (Peer q) = false
owner_eq (Peer p) Own = false
owner_eq (Peer p) (Peer q) = p == q

-- whether an owner is among these
abbrev pub has_owner : Owners → Owner → Bool
has_owner os o = owner_eq os.first o || list_any (λ other. owner_eq other o) os.more.items
