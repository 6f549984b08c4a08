-- What was added last, as a map of at most one name.
use Rattle.std.specs.Prelude.{ℕ, Bool, false, ◌&&◌, List, Option, Some, None, if◌then◌else◌}
use Rattle.psb_bytes.specs.Objects.{name_eq}
use Rattle.chunk_store.specs.declared.owner.Owner.{Owner}
use Rattle.chunk_store.specs.declared.latest.Addition.{Addition}
use Rattle.chunk_store.specs.Owners.{owner_eq}

abbrev pub added_record : Option Addition → List ℕ → Option ℕ
added_record None name = None
added_record (Some a) name = if name_eq a.name name then Some a.record_no else None

abbrev pub added_owner : Option Addition → Owner → List ℕ → Bool
added_owner None o name = false
added_owner (Some a) o name = name_eq a.name name && owner_eq a.owner o
