-- The last part of a path, and what stands in front of it.
use Rattle.std.proofs.Common.{◌≡◌, ◌≢◌, ◌⊎◌, inl, inr, ⊎_elim, ℕ, zero, suc, ◌+◌, ◌<◌, ◌≤◌, length, take, drop, get_or, leb, true, false, not, ◌||◌, List, [], ◌∷◌, ◌++◌, refl, sym, ap, subst, ◌∙◌, arith, length-append}
use Rattle.std.specs.List.{list_all, list_any, onto_first}
use Rattle.std.specs.Str.{is_utf8, IsUtf8}
use Rattle.std.proofs.lemmas.Bool.{and_parts, false≢true, true≢false, eqb-true, le-leb, leb-true}
use Rattle.std.proofs.lemmas.List.{map-append}
use Rattle.std.proofs.lemmas.List.Folds.{list_all-append}
use Rattle.std.proofs.lemmas.Str.{IsUtf8-append, IsUtf8-from_ascii, IsUtf8-from_is_utf8, is_utf8-from_IsUtf8, IsUtf8-take, IsUtf8-drop, IsCharBoundary-after_ascii, IsCharBoundary-at_seam}
use Rattle.psb_bytes.specs.Names.{is_slash, is_name, parts, has_names}
use Rattle.psb_bytes.specs.Paths.{parents}
use Rattle.psb_station.specs.Folder.{IsName}
use Rattle.psb_station.specs.MemTree.{under}
use Rattle.skeleton.specs.declared.limits.TheConstants.{MOST_PATH_BYTES}
use Rattle.skeleton.specs.Paths.{within, is_path}
use Rattle.snapshots.proofs.Members.{by_cases}

NoSlash : List ℕ → Type 0
NoSlash name = list_any is_slash name ≡ false

first_none : (b : ℕ) (name : List ℕ) → (is_slash b || list_any is_slash name) ≡ false → (is_slash b ≡ false) × (list_any is_slash name ≡ false)
first_none b name none = by_cases (is_slash b)
    (λ k. let other : true ≡ false = rw k at none in absurd (true≢false other))
    (λ k. (k, rw k at none))

-- ---- the parts of a child's path

onto_app : (b : ℕ) (x : List ℕ) (xs ys : List (List ℕ)) → onto_first b ((x ∷ xs) ++ ys) ≡ onto_first b (x ∷ xs) ++ ys
onto_app b x xs ys = refl

-- there is a first part
some_part : (path : List ℕ) → (x : List ℕ) × (xs : List (List ℕ)) × (parts path ≡ x ∷ xs)
some_part [] = ([], [], refl)
some_part (b ∷ path) = by_cases (is_slash b)
    (λ k. ([], parts path, rw k refl))
    (λ k. let s = some_part path in (b ∷ s.0, s.1, rw (k, s.2) refl))

pub parts_none : (name : List ℕ) → list_any is_slash name ≡ false → parts name ≡ name ∷ []
parts_none [] none = refl
parts_none (b ∷ name) none = let n = first_none b name none in rw (n.0, parts_none name n.1) refl

pub parts_child : (path name : List ℕ) → list_any is_slash name ≡ false → parts (path ++ 47 ∷ name) ≡ parts path ++ name ∷ []
parts_child [] name none = rw (parts_none name none) refl
parts_child (b ∷ path) name none =
    let ih = parts_child path name none in
    by_cases (is_slash b)
    (λ k. rw (k, ih) refl)
    (λ k. let s = some_part path in rw (k, ih, s.2) refl)

-- ---- the folders that it lies in

pub parents_none : (name : List ℕ) → list_any is_slash name ≡ false → parents name ≡ []
parents_none [] none = refl
parents_none (b ∷ name) none = let n = first_none b name none in rw (n.0, parents_none name n.1) refl

pub parents_child : (path name : List ℕ) → list_any is_slash name ≡ false → parents (path ++ 47 ∷ name) ≡ parents path ++ path ∷ []
parents_child [] name none = rw (parents_none name none) refl
parents_child (b ∷ path) name none =
    let ih = parents_child path name none in
    by_cases (is_slash b)
    (λ k. rw (k, ih) (ap (λ (l : List (List ℕ)). [] ∷ l) (map-append (λ (q : List ℕ). b ∷ q) (parents path) (path ∷ []))))
    (λ k. rw (k, ih) (map-append (λ (q : List ℕ). b ∷ q) (parents path) (path ∷ [])))

-- ---- names

pub no_slash : (name : List ℕ) → IsName name → list_any is_slash name ≡ false
no_slash name valid =
    let n = (and_parts (is_name name) (not (list_any is_slash name)) valid).1 in
    by_cases (list_any is_slash name) (λ k. let other : false ≡ true = rw k at n in absurd (false≢true other)) (λ k. k)

pub a_name : (name : List ℕ) → is_name name ≡ true → list_any is_slash name ≡ false → IsName name
a_name name valid none = rw (valid, none) refl

-- a path whose parts are names is a name, or the child of such a path
pub split_path : (path : List ℕ) → (list_any is_slash path ≡ false) ⊎ ((front : List ℕ) × (name : List ℕ) × (path ≡ front ++ 47 ∷ name) × (list_any is_slash name ≡ false))
split_path [] = inl refl
split_path (b ∷ path) = ⊎_elim
    (λ none. by_cases (is_slash b)
    (λ k. inr ([], path, ap (λ (c : ℕ). c ∷ path) (eqb-true b 47 k), none))
    (λ k. inl (rw (k, none) refl)))
    (λ s. inr (b ∷ s.0, s.1, ap (λ (l : List ℕ). b ∷ l) s.2, s.3))
    (split_path path)

-- what a path with names in it is made of
pub record IsMade (path base name : List ℕ) : Type 0 where
  pub valid : IsName name
  pub is : path ≡ under base name
  pub lies : (base ≡ []) ⊎ (parents path ≡ parents base ++ base ∷ [])

pub some_front : (front : List ℕ) → list_all is_name (parts front) ≡ true → front ≢ []
some_front [] all = λ _. false≢true all
some_front (c ∷ front) all = λ e. absurd (cc)

pub under_some : (base name : List ℕ) → base ≢ [] → under base name ≡ base ++ 47 ∷ name
under_some [] name some = absurd (some refl)
under_some (c ∷ base) name some = refl

pub made_of : (path : List ℕ) → has_names path ≡ true → (base : List ℕ) × (name : List ℕ) × IsMade path base name
made_of path h =
    let names = (and_parts (is_utf8 path) (list_all is_name (parts path)) h).1 in
    ⊎_elim
    (λ none.
    let one : list_all is_name (path ∷ []) ≡ true = subst (λ (l : List (List ℕ)). list_all is_name l ≡ true) (parts_none path none) names in
    ([], path, record { valid = a_name path (and_parts (is_name path) true one).0 none; is = refl; lies = inl refl }))
    (λ s.
    let split : list_all is_name (parts s.0 ++ s.1 ∷ []) ≡ true = subst (λ (l : List (List ℕ)). list_all is_name l ≡ true) (ap parts s.2 ∙ parts_child s.0 s.1 s.3) names in
    let both = and_parts (list_all is_name (parts s.0)) (list_all is_name (s.1 ∷ [])) (sym (list_all-append is_name (parts s.0) (s.1 ∷ [])) ∙ split) in (
      s.0,
      s.1,
      record {
        valid = a_name s.1 (and_parts (is_name s.1) true both.1).0 s.3;
        is = s.2 ∙ sym (under_some s.0 s.1 (some_front s.0 both.0));
        lies = inr (ap parents s.2 ∙ parents_child s.0 s.1 s.3);
      },
    ))
    (split_path path)

-- a path that is not empty, or the folder where the walk began
abbrev pub IsBase : List ℕ → Type 0
IsBase base = (base ≡ []) ⊎ (has_names base ≡ true)

slash_text : (name : List ℕ) → is_utf8 name ≡ true → IsUtf8 (47 ∷ name)
slash_text name text = IsUtf8-append (47 ∷ []) name (IsUtf8-from_ascii (47 ∷ []) small) (IsUtf8-from_is_utf8 name text)
  where
    small : (i : ℕ) → get_or (47 ∷ []) i 0 < 128
    small zero = omega arith
    small (suc i) = omega arith

-- the path of a name in a folder has names in it
pub named_under : (base name : List ℕ) → IsBase base → IsName name → is_utf8 name ≡ true → has_names (under base name) ≡ true
named_under [] name is valid text =
    rw (text, parts_none name (no_slash name valid), (and_parts (is_name name) (not (list_any is_slash name)) valid).0) refl
named_under (c ∷ base) name (inl none) valid text = absurd (cc)
named_under (c ∷ base) name (inr named) valid text =
    let both = and_parts (is_utf8 (c ∷ base)) (list_all is_name (parts (c ∷ base))) named in
    let utf8 : is_utf8 ((c ∷ base) ++ 47 ∷ name) ≡ true = is_utf8-from_IsUtf8 ((c ∷ base) ++ 47 ∷ name) (IsUtf8-append (c ∷ base) (47 ∷ name) (IsUtf8-from_is_utf8 (c ∷ base) both.0) (slash_text name text)) in
    let names : list_all is_name (parts ((c ∷ base) ++ 47 ∷ name)) ≡ true =
    ap (list_all is_name) (parts_child (c ∷ base) name (no_slash name valid)) ∙ list_all-append is_name (parts (c ∷ base)) (name ∷ [])
    ∙ rw (both.1, (and_parts (is_name name) (not (list_any is_slash name)) valid).0) refl in
    rw (utf8, names) refl

pub parents_under : (base name : List ℕ) → IsName name → (parents (under base name) ≡ []) ⊎ ((base ≢ []) × (parents (under base name) ≡ parents base ++ base ∷ []))
parents_under [] name valid = inl (parents_none name (no_slash name valid))
parents_under (c ∷ base) name valid = inr (λ e. absurd (cc), parents_child (c ∷ base) name (no_slash name valid))

has_slash : (front name : List ℕ) → list_any is_slash (front ++ 47 ∷ name) ≡ true
has_slash [] name = refl
has_slash (c ∷ front) name = by_cases (is_slash c) (λ k. rw k refl) (λ k. rw k (has_slash front name))

no_split : (front name path : List ℕ) → list_any is_slash path ≡ false → path ≡ front ++ 47 ∷ name → ⊥
no_split front name path none is = true≢false (sym (has_slash front name) ∙ ap (list_any is_slash) (sym is) ∙ none)

-- the last slash parts a path one way
pub same_split : (a b n m : List ℕ) → list_any is_slash n ≡ false → list_any is_slash m ≡ false → a ++ 47 ∷ n ≡ b ++ 47 ∷ m → (a ≡ b) × (n ≡ m)
same_split [] [] n m no_n no_m e = (refl, cc)
same_split [] (c ∷ b) n m no_n no_m e = let rest : n ≡ b ++ 47 ∷ m = cc in absurd (no_split b m n no_n rest)
same_split (c ∷ a) [] n m no_n no_m e = let rest : m ≡ a ++ 47 ∷ n = cc in absurd (no_split a n m no_m rest)
same_split (c ∷ a) (d ∷ b) n m no_n no_m e =
    let first : c ≡ d = cc in
    let rest : a ++ 47 ∷ n ≡ b ++ 47 ∷ m = cc in
    let s = same_split a b n m no_n no_m rest in (ap (λ (l : List ℕ). c ∷ l) s.0 ∙ ap (λ (x : ℕ). x ∷ b) first, s.1)

-- and a path below the root is a child one way
pub same_base : (a b n m : List ℕ) → IsName n → IsName m → under a n ≡ under b m → a ≡ b
same_base [] [] n m is_n is_m e = refl
same_base [] (d ∷ b) n m is_n is_m e = absurd (no_split (d ∷ b) m n (no_slash n is_n) e)
same_base (c ∷ a) [] n m is_n is_m e = absurd (no_split (c ∷ a) n m (no_slash m is_m) (sym e))
same_base (c ∷ a) (d ∷ b) n m is_n is_m e = (same_split (c ∷ a) (d ∷ b) n m (no_slash n is_n) (no_slash m is_m) e).0

pub has_some : (p : List ℕ) → has_names p ≡ true → p ≢ []
has_some [] h = λ _. false≢true (and_parts (is_utf8 []) false h).1
has_some (c ∷ p) h = λ e. absurd (cc)

some_bytes : (path : List ℕ) → path ≢ [] → 1 ≤ length path
some_bytes [] some = absurd (some refl)
some_bytes (c ∷ path) some = omega arith

-- one that is not too long is a path of a skeleton, and such a path has names
pub path_is : (path : List ℕ) → has_names path ≡ true → length path ≤ MOST_PATH_BYTES → is_path path ≡ true
unfolding is_path
path_is path named short = rw (le-leb 1 (length path) (some_bytes path (has_some path named)), le-leb (length path) MOST_PATH_BYTES short) named

pub valid_names : (path : List ℕ) → is_path path ≡ true → has_names path ≡ true
unfolding is_path
valid_names path is = (and_parts (within 1 MOST_PATH_BYTES (length path)) (has_names path) is).1

pub valid_short : (path : List ℕ) → is_path path ≡ true → length path ≤ MOST_PATH_BYTES
unfolding is_path
valid_short path is =
    let bounds = (and_parts (within 1 MOST_PATH_BYTES (length path)) (has_names path) is).0 in
    leb-true (length path) MOST_PATH_BYTES (and_parts (leb 1 (length path)) (leb (length path) MOST_PATH_BYTES) bounds).1

-- what stands in front of a name is text
front_text : (front name : List ℕ) → is_utf8 (front ++ 47 ∷ name) ≡ true → is_utf8 front ≡ true
front_text front name text =
    let whole = front ++ 47 ∷ name in
    let u : IsUtf8 whole = IsUtf8-from_is_utf8 whole text in
    let slash : get_or whole (length front) 0 ≡ 47 = at_slash front in
    let inside : length front < length whole = omega (arith, length-append front (47 ∷ name)) in
    let behind : IsUtf8 name = subst IsUtf8 (drop_slash front) (IsUtf8-drop whole (length front + 1) u (IsCharBoundary-after_ascii whole (length front) u inside (omega (arith, slash)))) in
    is_utf8-from_IsUtf8 front (subst IsUtf8 (take_front front) (IsUtf8-take whole (length front) u (IsCharBoundary-at_seam whole front (47 ∷ name) refl (slash_text name (is_utf8-from_IsUtf8 name behind)))))
  where
    at_slash : (f : List ℕ) → get_or (f ++ 47 ∷ name) (length f) 0 ≡ 47
    at_slash [] = refl
    at_slash (c ∷ f) = at_slash f

    drop_slash : (f : List ℕ) → drop (length f + 1) (f ++ 47 ∷ name) ≡ name
    drop_slash [] = refl
    drop_slash (c ∷ f) = let next : length (c ∷ f) + 1 ≡ suc (length f + 1) = omega arith in rw next (drop_slash f)

    take_front : (f : List ℕ) → take (length f) (f ++ 47 ∷ name) ≡ f
    take_front [] = refl
    take_front (c ∷ f) = ap (λ (l : List ℕ). c ∷ l) (take_front f)

-- a path is a name, or a name in a folder whose path has names in it
pub record IsInside (path front : List ℕ) : Type 0 where
  pub names : has_names front ≡ true
  pub shorter : length front < length path
  pub lies : parents path ≡ parents front ++ front ∷ []

pub inside_of : (path : List ℕ) → has_names path ≡ true → (parents path ≡ []) ⊎ ((front : List ℕ) × IsInside path front)
inside_of path h =
    let both = and_parts (is_utf8 path) (list_all is_name (parts path)) h in
    ⊎_elim
    (λ none. inl (parents_none path none))
    (λ s.
    let split : list_all is_name (parts s.0 ++ s.1 ∷ []) ≡ true = subst (λ (l : List (List ℕ)). list_all is_name l ≡ true) (ap parts s.2 ∙ parts_child s.0 s.1 s.3) both.1 in
    let names = and_parts (list_all is_name (parts s.0)) (list_all is_name (s.1 ∷ [])) (sym (list_all-append is_name (parts s.0) (s.1 ∷ [])) ∙ split) in
    let text = front_text s.0 s.1 (ap is_utf8 (sym s.2) ∙ both.0) in
    inr (
      s.0,
      record {
        names = rw (text, names.0) refl;
        shorter = omega (arith, ap (λ (l : List ℕ). length l) s.2, length-append s.0 (47 ∷ s.1));
        lies = ap parents s.2 ∙ parents_child s.0 s.1 s.3;
      },
    ))
    (split_path path)
