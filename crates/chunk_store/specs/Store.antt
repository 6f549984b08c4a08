-- A store as a map: the record of each name, and whose it is.
use Rattle.std.specs.Prelude.{ℕ, Bool, ◌||◌, List, Option}
use Rattle.std.specs.Option.{is_none}
use Rattle.chunk_store.specs.declared.owner.Owner.{Owner}
use Rattle.chunk_store.specs.declared.store.Store.{Store}
use Rattle.chunk_store.specs.Records.{or_else}
use Rattle.chunk_store.specs.Latest.{added_record, added_owner}
use Rattle.chunk_store.specs.Table.{recorded, listed}

-- the record with the body of a name
abbrev pub record_of : Store → List ℕ → Option ℕ
record_of s name = or_else (recorded s.table name) (added_record s.latest name)

-- whether an owner is listed for a name
abbrev pub is_owner : Store → Owner → List ℕ → Bool
is_owner s o name = listed s.table o name || added_owner s.latest o name

-- room was made since the last addition
abbrev pub has_room : Store → Bool
has_room s = is_none s.latest
