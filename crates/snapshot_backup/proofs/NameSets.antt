-- Sets of names, and lists of them.
use Rattle.std.proofs.Common.{◌≡◌, ℕ, ◌+◌, ◌<◌, Bool, true, false, cond, ◌||◌, List, [], ◌∷◌, ◌++◌, length, take, get_or, refl, sym, ◌∙◌, ap}
use Rattle.std.specs.List.{list_any}
use Rattle.std.specs.List.Sorted.{IsStrictlySortedBy}
use Rattle.std.specs.Ordering.{nat_cmp, is_eq}
use Rattle.std.specs.Cmp.Lexicographic.{slice_cmp}
use Rattle.std.proofs.Math.Bool.{or_assoc}
use Rattle.std.proofs.lemmas.Cmp.{nat_list_eq_equiv}
use Rattle.std.proofs.lemmas.List.{take_more, map-append}
use Rattle.std.proofs.lemmas.List.Folds.{list_any-append}
use Rattle.std.proofs.lemmas.Map.Text.{is_eq-slice_cmp}
use Rattle.psb_bytes.specs.declared.ids.Ref.{Ref}
use Rattle.psb_model.specs.Words.{name_eq, name_listed}
use Rattle.psb_model.specs.Conditions.{names_ascend}
use Rattle.snapshot_backup.specs.Naming.{names_in}

-- a set has the names that are listed in its keys
pub has_listed : (keys : List (List ℕ)) (q : List ℕ) → list_any (λ (k : List ℕ). is_eq (slice_cmp nat_cmp q k)) keys ≡ name_listed keys q
has_listed [] q = refl
has_listed (k ∷ ks) q = rw (is_eq-slice_cmp q k ∙ nat_list_eq_equiv.symm q k, has_listed ks q) refl

-- and they ascend
pub keys_ascend : (keys : List (List ℕ)) → IsStrictlySortedBy (slice_cmp nat_cmp) keys → names_ascend keys ≡ true
unfolding IsStrictlySortedBy
keys_ascend [] s = refl
keys_ascend (k ∷ []) s = refl
keys_ascend (k ∷ l ∷ ks) s = rw (s.0.0, keys_ascend (l ∷ ks) s.1) refl

pub or_last : (a b : Bool) → cond b true a ≡ (a || b)
or_last true true = refl
or_last true false = refl
or_last false true = refl
or_last false false = refl

-- names with one more
pub listed_more : (names : List (List ℕ)) (n q : List ℕ) → name_listed (names ++ n ∷ []) q ≡ (name_listed names q || name_eq n q)
listed_more names n q = list_any-append (λ x. name_eq x q) names (n ∷ []) ∙ ap (λ (b : Bool). name_listed names q || b) (last (name_eq n q))
  where
    last : (b : Bool) → (b || false) ≡ b
    last true = refl
    last false = refl

-- a set, to which those of the first refs were added, has that of one ref more
pub names_more : (rs : List Ref) (i : ℕ) (d : Ref) (q : List ℕ) (first old new : Bool) → i < length rs → old ≡ (first || name_listed (names_in (take i rs)) q) → new ≡ (old || name_eq (get_or rs i d).name q)
    → new ≡ (first || name_listed (names_in (take (i + 1) rs)) q)
names_more rs i d q first old new lt was is =
    is ∙ ap (λ (b : Bool). b || name_eq (get_or rs i d).name q) was
    ∙ or_assoc first (name_listed (names_in (take i rs)) q) (name_eq (get_or rs i d).name q)
    ∙ ap (λ (b : Bool). first || b) (sym (listed_more (names_in (take i rs)) (get_or rs i d).name q))
    ∙ ap (λ (l : List (List ℕ)). first || name_listed l q) (sym (map-append (λ (r : Ref). r.name) (take i rs) (get_or rs i d ∷ [])))
    ∙ ap (λ (l : List Ref). first || name_listed (names_in l) q) (sym (take_more rs i d lt))
