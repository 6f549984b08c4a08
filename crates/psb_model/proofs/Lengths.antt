-- How many bytes names and objects take in a record.
use Rattle.std.proofs.Common.{◌≡◌, ◌≤◌, ◌+◌, ◌*◌, ℕ, true, ◌==◌, List, [], ◌∷◌, ◌++◌, length, arith, length-append}
use Rattle.std.specs.Int.{to_be_bytes, w32}
use Rattle.std.specs.List.{list_all, flat_map}
use Rattle.std.proofs.lemmas.Bool.{and_parts, eqb-true}
use Rattle.psb_bytes.specs.declared.ids.Object.{Object}
use Rattle.psb_bytes.specs.declared.ids.Object.TheVariants.{Chunk, Slot}
use Rattle.psb_model.specs.Grammar.{is_u8, is_digest, object_fits}
use Rattle.psb_model.specs.Heads.{object}

pub digest_long : (name : List ℕ) → is_digest name ≡ true → length name ≡ 32
digest_long name h = eqb-true (length name) 32 (and_parts (length name == 32) (list_all is_u8 name) h).0

object_long : (o : Object) → object_fits o ≡ true → length (object o) ≤ 33
object_long (Chunk name) h = omega (arith, digest_long name h)
object_long (Slot n) h = omega arith

objects_long : (os : List Object) → list_all object_fits os ≡ true → length (flat_map object os) ≤ 33 * length os
objects_long [] h = omega arith
objects_long (o ∷ os) h = let a = and_parts (object_fits o) (list_all object_fits os) h in omega (arith, object_long o a.0, objects_long os a.1, length-append (object o) (flat_map object os))

-- with their number before them
pub counted_long : (os : List Object) → list_all object_fits os ≡ true → length (to_be_bytes w32 (length os) ++ flat_map object os) ≤ 4 + 33 * length os
counted_long os h = omega (arith, objects_long os h, length-append (to_be_bytes w32 (length os)) (flat_map object os))
