-- The names of the pieces of a snapshot.
use Rattle.std.specs.Prelude.{ℕ, Bool, List, length, map}
use Rattle.std.specs.Ordering.{nat_cmp}
use Rattle.std.specs.Cmp.Lexicographic.{slice_cmp}
use Rattle.std.specs.BTreeSet.{contains}
use Rattle.psb_bytes.specs.declared.ids.Ref.{Ref}
use Rattle.snapshot_backup.specs.declared.naming.Names.{Names}

-- whether the name is among them
abbrev pub has_name : Names → List ℕ → Bool
has_name names name = contains (slice_cmp nat_cmp) names.names name

-- how many they are
abbrev pub count_of : Names → ℕ
count_of names = length names.names.keys

abbrev pub names_in : List Ref → List (List ℕ)
names_in refs = map (λ (r : Ref). r.name) refs
