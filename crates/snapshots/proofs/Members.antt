-- What is among the members of a list, and lists whose members differ.
use Rattle.std.proofs.Common.{◌≡◌, ◌⊎◌, inl, inr, ⊎_elim, ℕ, zero, suc, ◌<◌, Bool, true, false, List, [], ◌∷◌, ◌++◌, length, map, get_or, Contains, refl, sym, ap, subst, ◌∙◌, arith}
use Rattle.std.specs.List.{list_all, IsDistinct, AllByRecursion}
use Rattle.std.specs.Str.{bytes_eq}
use Rattle.std.specs.Cmp.Lexicographic.{same_text}
use Rattle.std.proofs.lemmas.Bool.{and_parts, true≢false, eq-eqb}
use Rattle.snapshots.specs.WalkSteps.{In}

pub by_cases : {P : Type 0} (b : Bool) → (b ≡ true → P) → (b ≡ false → P) → P
by_cases true f g = f refl
by_cases false f g = g refl

-- ---- members

pub to_in : {X : Type 0} (x : X) (xs : List X) → Contains xs x → In x xs
to_in x [] c = absurd (omega (arith, c.1))
to_in x (y ∷ ys) c = at c.0 c.1 c.2 (λ k lt is. to_in x ys (k, lt, is))
  where
    at : (k : ℕ) → k < length (y ∷ ys) → get_or (y ∷ ys) k x ≡ x → ((j : ℕ) → j < length ys → get_or ys j x ≡ x → In x ys) → In x (y ∷ ys)
    at zero lt is rest = inl is
    at (suc j) lt is rest = inr (rest j (omega (arith, lt)) is)

pub from_in : {X : Type 0} (x : X) (xs : List X) → In x xs → Contains xs x
from_in x [] i = absurd i
from_in x (y ∷ ys) (inl is) = (0, omega arith, is)
from_in x (y ∷ ys) (inr i) = let c = from_in x ys i in (suc c.0, omega (arith, c.1), c.2)

pub in_left : {X : Type 0} (x : X) (a b : List X) → In x a → In x (a ++ b)
in_left x [] b i = absurd i
in_left x (y ∷ a) b (inl is) = inl is
in_left x (y ∷ a) b (inr i) = inr (in_left x a b i)

pub in_right : {X : Type 0} (x : X) (a b : List X) → In x b → In x (a ++ b)
in_right x [] b i = i
in_right x (y ∷ a) b i = inr (in_right x a b i)

pub in_app : {X : Type 0} (x : X) (a b : List X) → In x (a ++ b) → In x a ⊎ In x b
in_app x [] b i = inr i
in_app x (y ∷ a) b (inl is) = inl (inl is)
in_app x (y ∷ a) b (inr i) = ⊎_elim (λ j. inl (inr j)) (λ j. inr j) (in_app x a b i)

-- what stands in front of it, and behind
pub parted : {X : Type 0} (x : X) (xs : List X) → In x xs → (front : List X) × (back : List X) × (xs ≡ front ++ x ∷ back)
parted x [] i = absurd i
parted x (y ∷ ys) (inl is) = ([], ys, ap (λ (z : _). z ∷ ys) is)
parted x (y ∷ ys) (inr i) = let p = parted x ys i in (y ∷ p.0, p.1, ap (λ (l : List _). y ∷ l) p.2)

pub in_map : {X Y : Type 0} (f : X → Y) (x : X) (xs : List X) → In x xs → In (f x) (map f xs)
in_map f x [] i = absurd i
in_map f x (y ∷ ys) (inl is) = inl (ap f is)
in_map f x (y ∷ ys) (inr i) = inr (in_map f x ys i)

pub of_map : {X Y : Type 0} (f : X → Y) (y : Y) (xs : List X) → In y (map f xs) → (x : X) × In x xs × (f x ≡ y)
of_map f y [] i = absurd i
of_map f y (x ∷ xs) (inl is) = (x, inl refl, is)
of_map f y (x ∷ xs) (inr i) = let m = of_map f y xs i in (m.0, inr m.1, m.2)

pub passes : {X : Type 0} (p : X → Bool) (x : X) (xs : List X) → list_all p xs ≡ true → In x xs → p x ≡ true
passes p x [] all i = absurd i
passes p x (y ∷ ys) all (inl is) = ap p (sym is) ∙ (and_parts (p y) (list_all p ys) all).0
passes p x (y ∷ ys) all (inr i) = passes p x ys (and_parts (p y) (list_all p ys) all).1 i

pub all_pass : {X : Type 0} (p : X → Bool) (xs : List X) → ((x : X) → In x xs → p x ≡ true) → list_all p xs ≡ true
all_pass p [] h = refl
all_pass p (x ∷ xs) h = rw (h x (inl refl)) (all_pass p xs (λ y i. h y (inr i)))

-- ---- members that differ

abbrev pub Apart : List (List ℕ) → Type 0
Apart [] = Unit {0}
Apart (p ∷ ps) = (In p ps → ⊥) × Apart ps

pub same_bytes : (p : List ℕ) → bytes_eq p p ≡ true
same_bytes [] = refl
same_bytes (x ∷ p) = rw (eq-eqb x x refl) (same_bytes p)

none_equal : (p : List ℕ) (ps : List (List ℕ)) → AllByRecursion (λ q. bytes_eq p q ≡ false) ps → In p ps → ⊥
none_equal p [] all i = i
none_equal p (q ∷ ps) all (inl is) = true≢false (sym (same_bytes p) ∙ ap (bytes_eq p) (sym is) ∙ all.0)
none_equal p (q ∷ ps) all (inr i) = none_equal p ps all.1 i

all_unequal : (p : List ℕ) (ps : List (List ℕ)) → (In p ps → ⊥) → AllByRecursion (λ q. bytes_eq p q ≡ false) ps
all_unequal p [] none = tt
all_unequal p (q ∷ ps) none = (
  by_cases (bytes_eq p q) (λ e. absurd (none (inl (sym (same_text p q (sym e)))))) (λ e. e),
  all_unequal p ps (λ i. none (inr i)),
)

pub to_apart : (ps : List (List ℕ)) → IsDistinct bytes_eq ps → Apart ps
unfolding IsDistinct
to_apart [] d = tt
to_apart (p ∷ ps) d = (none_equal p ps d.0, to_apart ps d.1)

pub from_apart : (ps : List (List ℕ)) → Apart ps → IsDistinct bytes_eq ps
unfolding IsDistinct
from_apart [] a = tt
from_apart (p ∷ ps) a = (all_unequal p ps a.0, from_apart ps a.1)

pub apart_app : (a b : List (List ℕ)) → Apart a → Apart b → ((p : List ℕ) → In p a → In p b → ⊥) → Apart (a ++ b)
apart_app [] b one two none = two
apart_app (p ∷ a) b one two none = (
  λ i. ⊎_elim (λ j. one.0 j) (λ j. none p (inl refl) j) (in_app p a b i),
  apart_app a b one.1 two (λ q i j. none q (inr i) j),
)

pub apart_left : (a b : List (List ℕ)) → Apart (a ++ b) → Apart a
apart_left [] b all = tt
apart_left (p ∷ a) b all = (λ i. all.0 (in_left p a b i), apart_left a b all.1)

pub apart_right : (a b : List (List ℕ)) → Apart (a ++ b) → Apart b
apart_right [] b all = all
apart_right (p ∷ a) b all = apart_right a b all.1

pub apart_both : (a b : List (List ℕ)) (p : List ℕ) → Apart (a ++ b) → In p a → In p b → ⊥
apart_both [] b p all i j = i
apart_both (q ∷ a) b p all (inl is) j = all.0 (in_right q a b (subst (λ (x : List ℕ). In x b) (sym is) j))
apart_both (q ∷ a) b p all (inr i) j = apart_both a b p all.1 i j

pub apart_map : (f : List ℕ → List ℕ) (ps : List (List ℕ)) → ((p q : List ℕ) → f p ≡ f q → p ≡ q) → Apart ps → Apart (map f ps)
apart_map f [] one a = tt
apart_map f (p ∷ ps) one a = (
  λ i. let m = of_map f (f p) ps i in a.0 (subst (λ (x : List ℕ). In x ps) (one m.0 p m.2) m.1),
  apart_map f ps one a.1,
)
