-- Objects: when two are one, and their order.
use Rattle.std.specs.Prelude.{ℕ, Bool, false, ◌==◌, List}
use Rattle.std.specs.Str.{bytes_eq}
use Rattle.std.specs.declared.cmp.Ordering.{Ordering}
use Rattle.std.specs.declared.cmp.Ordering.TheVariants.{Less, Greater}
use Rattle.std.specs.Ordering.{nat_cmp}
use Rattle.std.specs.Cmp.Lexicographic.{slice_cmp}
use Rattle.psb_bytes.specs.declared.ids.Object.{Object}
use Rattle.psb_bytes.specs.declared.ids.Object.TheVariants.{Chunk, Slot}

-- whether two names have the same bytes
abbrev pub name_eq : List ℕ → List ℕ → Bool
name_eq = bytes_eq

-- whether two objects are one
abbrev pub object_eq : Object → Object → Bool
object_eq (Chunk a) (Chunk b) = name_eq a b
object_eq (Chunk a) (Slot b) = false
object_eq (Slot a) (Chunk b) = false
object_eq (Slot a) (Slot b) = a == b

-- the object order: chunks by the bytes of their names, then slots by number
abbrev pub object_cmp : Object → Object → Ordering
object_cmp (Chunk a) (Chunk b) = slice_cmp nat_cmp a b
object_cmp (Chunk a) (Slot b) = Less
object_cmp (Slot a) (Chunk b) = Greater
object_cmp (Slot a) (Slot b) = nat_cmp a b
