-- Lists of entries in object order.
use Rattle.std.specs.Prelude.{Bool, not, List, drop, find, Option}
use Rattle.std.specs.List.{list_all, prefix_len}
use Rattle.std.specs.Ordering.{is_lt}
use Rattle.psb_bytes.specs.Objects.{object_cmp}
use Rattle.psb_bytes.specs.declared.ids.Object.{Object}
use Rattle.psb_model.specs.Words.{object_eq, has}
pub use Rattle.psb_model.specs.Words.{in_order}

-- none of the entries is there
abbrev pub lacks_all : {E : Type 0} → (E → Object) → List E → List E → Bool
lacks_all key new l = list_all (λ e. not (has key l (key e))) new

-- the entry at an object
abbrev pub find_at : {E : Type 0} → (E → Object) → List E → Object → Option E
find_at key l o = find (λ e. object_eq (key e) o) l

-- the entries from an object on
abbrev pub from_object : {E : Type 0} → (E → Object) → Object → List E → List E
from_object key o l = drop (prefix_len (λ e. is_lt (object_cmp (key e) o)) l) l
