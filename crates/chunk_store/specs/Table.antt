-- What the table has of a name.
use Rattle.std.specs.Prelude.{ℕ, Bool, false, List, Option, Some, None}
use Rattle.std.specs.Ordering.{nat_cmp}
use Rattle.std.specs.Cmp.Lexicographic.{slice_cmp}
use Rattle.std.specs.BTreeMap.{get}
use Rattle.chunk_store.specs.declared.owner.Owner.{Owner}
use Rattle.chunk_store.specs.declared.table.Held.{Held}
use Rattle.chunk_store.specs.declared.table.Table.{Table}
use Rattle.chunk_store.specs.Owners.{has_owner}

abbrev pub record_in : Option Held → Option ℕ
record_in (Some held) = Some held.record_no
record_in None = None

abbrev pub owner_in : Option Held → Owner → Bool
owner_in (Some held) o = has_owner held.owners o
owner_in None o = false

abbrev pub held_at : Table → List ℕ → Option Held
held_at t name = get (slice_cmp nat_cmp) t.names name

-- the record of a name
abbrev pub recorded : Table → List ℕ → Option ℕ
recorded t name = record_in (held_at t name)

-- whether an owner is listed for a name
abbrev pub listed : Table → Owner → List ℕ → Bool
listed t o name = owner_in (held_at t name) o
