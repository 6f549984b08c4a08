-- The names of a skeleton's refs, and how many they are by its text.
use Rattle.std.proofs.Common.{◌≡◌, ℕ, ◌+◌, ◌<◌, ◌≤◌, Bool, ◌||◌, List, [], ◌∷◌, ◌++◌, length, take, get_or, refl, sym, ◌∙◌, ap, arith, length-append, append_assoc}
use Rattle.std.proofs.lemmas.List.{append-nil, take_more, map-append}
use Rattle.std.proofs.lemmas.List.Folds.{list_any-append}
use Rattle.psb_bytes.specs.declared.ids.Ref.{Ref}
use Rattle.psb_model.specs.Words.{name_eq, name_listed}
use Rattle.skeleton.specs.declared.entry.Entry.{Entry}
use Rattle.skeleton.specs.declared.limits.TheConstants.{MOST_TEXT_BYTES}
use Rattle.skeleton.specs.Entries.{IsSkeleton}
use Rattle.skeleton.specs.Texts.{skeleton_text}
use Rattle.snapshots.specs.Meaning.{refs_in}
use Rattle.snapshots.proofs.SkeletonCounts.{text_long}
use Rattle.snapshot_backup.specs.Naming.{names_in}
use Rattle.snapshot_backup.specs.Runs.{most_refs}

-- ---- one entry more

refs_both : (es fs : List Entry) → refs_in (es ++ fs) ≡ refs_in es ++ refs_in fs
refs_both [] fs = refl
refs_both (e ∷ es) fs = ap (λ (l : List Ref). e.refs ++ l) (refs_both es fs) ∙ sym (append_assoc e.refs (refs_in es) (refs_in fs))

refs_next : (es : List Entry) (i : ℕ) (d : Entry) → i < length es → refs_in (take (i + 1) es) ≡ refs_in (take i es) ++ (get_or es i d).refs
refs_next es i d lt =
    ap refs_in (take_more es i d lt) ∙ refs_both (take i es) (get_or es i d ∷ []) ∙ ap (λ (l : List Ref). refs_in (take i es) ++ l) (append-nil (get_or es i d).refs)

-- the names of its refs with them
pub names_next : (es : List Entry) (i : ℕ) (d : Entry) (rs : List Ref) (q : List ℕ) (old new : Bool) → rs ≡ (get_or es i d).refs → i < length es → old ≡ name_listed (names_in (refs_in (take i es))) q → new ≡ (old || name_listed (names_in rs) q)
    → new ≡ name_listed (names_in (refs_in (take (i + 1) es))) q
names_next es i d rs q old new are lt was is =
    is ∙ ap (λ (b : Bool). b || name_listed (names_in rs) q) was
    ∙ sym (list_any-append (λ x. name_eq x q) (names_in (refs_in (take i es))) (names_in rs))
    ∙ ap (λ (l : List (List ℕ)). name_listed l q) (sym (map-append (λ (r : Ref). r.name) (refs_in (take i es)) rs))
    ∙ ap (λ (l : List Ref). name_listed (names_in l) q) (ap (λ (l : List Ref). refs_in (take i es) ++ l) are ∙ sym (refs_next es i d lt))

pub count_next : (es : List Entry) (i : ℕ) (d : Entry) (rs : List Ref) (old new : ℕ) → rs ≡ (get_or es i d).refs → i < length es → old ≤ length (refs_in (take i es)) → new ≤ old + length rs → new ≤ length (refs_in (take (i + 1) es))
count_next es i d rs old new are lt was is = omega (arith, was, is, ap length are, ap length (refs_next es i d lt), length-append (refs_in (take i es)) (get_or es i d).refs)

-- ---- by the text

pub few_refs : (es : List Entry) → IsSkeleton es → length (skeleton_text es) ≤ MOST_TEXT_BYTES → length (refs_in es) ≤ most_refs
few_refs es h short = omega (arith, text_long es h, short)
