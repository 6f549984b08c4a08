-- Lists of objects and of entries, read by object.
use Rattle.std.specs.Prelude.{◌≡◌, ◌⊎◌, ℕ, ◌+◌, Bool, true, not, ◌&&◌, if◌then◌else◌, List, [], ◌∷◌, map, filter}
use Rattle.std.specs.List.{list_any, list_all}
use Rattle.std.specs.Ordering.{is_lt}
use Rattle.psb_bytes.specs.declared.ids.Object.{Object}
use Rattle.psb_bytes.specs.declared.ids.Object.TheVariants.{Slot}
pub use Rattle.psb_bytes.specs.Units.{units}
pub use Rattle.psb_bytes.specs.Objects.{name_eq, object_eq, object_cmp}

-- every test of the list holds
abbrev pub all_of : List Bool → Bool
all_of [] = true
all_of (b ∷ bs) = b && all_of bs

-- whether the list of objects, or of names, has this one
abbrev pub listed : List Object → Object → Bool
listed objects o = list_any (λ x. object_eq x o) objects

abbrev pub name_listed : List (List ℕ) → List ℕ → Bool
name_listed names n = list_any (λ x. name_eq x n) names

-- the objects of a list are distinct
abbrev pub objects_distinct : List Object → Bool
objects_distinct [] = true
objects_distinct (x ∷ xs) = not (listed xs x) && objects_distinct xs

-- the slots of these numbers
abbrev pub slots : List ℕ → List Object
slots = map Slot

-- Lists of entries, each of which has an object (key) and units.

-- whether the list has the object
abbrev pub has : {E : Type 0} → (E → Object) → List E → Object → Bool
has key l o = list_any (λ e. object_eq (key e) o) l

-- each object comes before all later ones
abbrev pub in_order : {E : Type 0} → (E → Object) → List E → Bool
in_order key [] = true
in_order key (e ∷ es) = list_all (λ x. is_lt (object_cmp (key e) (key x))) es && in_order key es

-- the units that the list has at the object
abbrev pub units_at : {E : Type 0} → (E → Object) → (E → ℕ) → List E → Object → ℕ
units_at key size [] o = 0
units_at key size (e ∷ es) o = (if object_eq (key e) o then size e else 0) + units_at key size es o

-- whether some entry at the object passes the test
abbrev pub has_so : {E : Type 0} → (E → Object) → (E → Bool) → List E → Object → Bool
has_so key test l o = list_any (λ e. object_eq (key e) o && test e) l

-- the list without the listed objects, and the entries at them
abbrev pub without : {E : Type 0} → (E → Object) → List Object → List E → List E
without key objects = filter (λ e. not (listed objects (key e)))

abbrev pub only : {E : Type 0} → (E → Object) → List Object → List E → List E
only key objects = filter (λ e. listed objects (key e))

-- the list with one more entry, in object order
abbrev pub with_one : {E : Type 0} → (E → Object) → E → List E → List E
with_one key e [] = e ∷ []
with_one key e (x ∷ xs) = if is_lt (object_cmp (key e) (key x)) then e ∷ x ∷ xs else x ∷ with_one key e xs

-- the list with more entries
abbrev pub with_all : {E : Type 0} → (E → Object) → List E → List E → List E
with_all key [] xs = xs
with_all key (e ∷ es) xs = with_all key es (with_one key e xs)

-- how many entries the list has at the object
abbrev pub occurs : {E : Type 0} → (E → Object) → List E → Object → ℕ
occurs key l o = units_at key (λ _. 1) l o

-- e is one of the list
abbrev pub In : {E : Type 0} → E → List E → Type 0
In e [] = ⊥
In e (x ∷ xs) = (e ≡ x) ⊎ In e xs
