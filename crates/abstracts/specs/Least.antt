-- A sample of names under a salt (Pastiche, OSDI 2002: abstracts): those with the least hashes.
use Rattle.std.specs.Prelude.{ℕ, suc, Bool, true, false, if◌then◌else◌, List, [], ◌∷◌, ◌++◌, map, take}
use Rattle.std.specs.declared.cmp.Ordering.{Ordering}
use Rattle.std.specs.declared.cmp.Ordering.TheVariants.{Less, Equal, Greater}
use Rattle.std.specs.Ordering.{is_lt, nat_cmp}
use Rattle.std.specs.Cmp.Lexicographic.{slice_cmp}
use Rattle.psb_digest.specs.Hashes.{sha}
use Rattle.abstracts.specs.declared.least.Salted.{Salted}

-- a name with its hash under the salt
abbrev pub under_salt : List ℕ → List ℕ → Salted
under_salt salt name = record { hash = sha (salt ++ name); name = name }

-- the lesser hash comes first, and of one hash the lesser name
abbrev pub first_by : Ordering → Salted → Salted → Bool
first_by Less a b = true
first_by Equal a b = is_lt (slice_cmp nat_cmp a.name b.name)
first_by Greater a b = false

abbrev pub comes_before : Salted → Salted → Bool
comes_before a b = first_by (slice_cmp nat_cmp a.hash b.hash) a b

-- in its place
abbrev pub put_in : Salted → List Salted → List Salted
put_in x [] = x ∷ []
put_in x (y ∷ ys) = if comes_before x y then x ∷ y ∷ ys else y ∷ put_in x ys

-- one after another
abbrev pub put_all : List Salted → List Salted → List Salted
put_all l [] = l
put_all l (x ∷ xs) = put_all (put_in x l) xs

-- how many stand before it
abbrev pub place_in : Salted → List Salted → ℕ
place_in x [] = 0
place_in x (y ∷ ys) = if comes_before x y then 0 else suc (place_in x ys)

-- the k least names, or all where there are fewer, in their order
abbrev pub abstract_of : List (List ℕ) → List ℕ → ℕ → List (List ℕ)
abstract_of names salt k = map (λ (s : Salted). s.name) (take k (put_all [] (map (under_salt salt) names)))
