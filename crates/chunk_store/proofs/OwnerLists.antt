-- Owners of one body: what is left when one is taken out.
use Rattle.std.proofs.Common.{◌≡◌, Bool, true, false, not, ◌&&◌, ◌||◌, List, [], ◌∷◌, ◌++◌, refl, sym, ap, ◌∙◌}
use Rattle.std.specs.List.{list_any, filter}
use Rattle.std.proofs.lemmas.Bool.{eqb-true, eq-eqb}
use Rattle.std.proofs.lemmas.List.Folds.{list_any-append}
use Rattle.chunk_store.specs.declared.owner.Owner.{Owner}
use Rattle.chunk_store.specs.declared.owner.Owner.TheVariants.{Own, Peer}
use Rattle.chunk_store.specs.Owners.{owner_eq}

pub by_cases : {P : Type 0} (b : Bool) → (b ≡ true → P) → (b ≡ false → P) → P
by_cases true f g = f refl
by_cases false f g = g refl

pub same_owner : (a b : Owner) → owner_eq a b ≡ true → a ≡ b
same_owner Own Own e = refl
same_owner Own (Peer q) e = absurd (cc)
same_owner (Peer p) Own e = absurd (cc)
same_owner (Peer p) (Peer q) e = ap Peer (eqb-true p q e)

pub owner_eq-refl : (a : Owner) → owner_eq a a ≡ true
owner_eq-refl Own = refl
owner_eq-refl (Peer p) = eq-eqb p p refl

-- whether an owner is in a list
abbrev pub among : List Owner → Owner → Bool
among os o = list_any (λ other. owner_eq other o) os

-- the one that is taken out is found no more
pub taken_first : (first owner o : Owner) (rest : Bool) → owner_eq first owner ≡ true → ((owner_eq first o || rest) && not (owner_eq owner o)) ≡ (rest && not (owner_eq owner o))
taken_first first owner o rest e = by_cases (owner_eq owner o)
    (λ k. rw k (both_false (owner_eq first o || rest) rest))
    (λ k. let other : owner_eq first o ≡ false = ap (λ (x : Owner). owner_eq x o) (same_owner first owner e) ∙ k in rw other refl)
  where
    and_false : (x : Bool) → (x && false) ≡ false
    and_false true = refl
    and_false false = refl

    both_false : (x y : Bool) → (x && false) ≡ (y && false)
    both_false x y = and_false x ∙ sym (and_false y)

-- another stays
pub kept_first : (first owner o : Owner) (rest : Bool) → owner_eq first owner ≡ false → (owner_eq first o || (rest && not (owner_eq owner o))) ≡ ((owner_eq first o || rest) && not (owner_eq owner o))
kept_first first owner o rest e = by_cases (owner_eq owner o)
    (λ k. let other : owner_eq first o ≡ false = ap (owner_eq first) (sym (same_owner owner o k)) ∙ e in rw other refl)
    (λ k. rw k (all_true (owner_eq first o) rest))
  where
    and_true : (x : Bool) → (x && true) ≡ x
    and_true true = refl
    and_true false = refl

    all_true : (x y : Bool) → (x || (y && true)) ≡ ((x || y) && true)
    all_true true y = refl
    all_true false y = refl

pub among_left : (os : List Owner) (owner o : Owner) → among (filter (λ other. not (owner_eq other owner)) os) o ≡ (among os o && not (owner_eq owner o))
among_left [] owner o = refl
among_left (x ∷ os) owner o = by_cases (owner_eq x owner)
    (λ k. rw k (among_left os owner o ∙ sym (taken_first x owner o (among os o) k)))
    (λ k. rw k (ap (λ (b : Bool). owner_eq x o || b) (among_left os owner o) ∙ kept_first x owner o (among os o) k))

-- the last comes to the front
pub taken_last : (os : List Owner) (last o : Owner) → (owner_eq last o || among os o) ≡ among (os ++ last ∷ []) o
taken_last os last o = swapped (owner_eq last o) (among os o) ∙ sym (list_any-append (λ other. owner_eq other o) os (last ∷ []))
  where
    swapped : (x y : Bool) → (x || y) ≡ (y || (x || false))
    swapped true true = refl
    swapped true false = refl
    swapped false true = refl
    swapped false false = refl
