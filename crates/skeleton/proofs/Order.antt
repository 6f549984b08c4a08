-- The order of paths, and the folders that a path lies in.
use Rattle.std.proofs.Common.{◌≡◌, ℕ, ◌+◌, ◌<◌, ◌≤◌, Bool, true, false, ◌&&◌, List, [], ◌∷◌, ◌++◌, length, take, drop, get_or, refl, sym, ◌∙◌, ap, subst, inl, inr, arith, get_or-take, length-take, Some}
use Rattle.std.specs.Prelude.{◌-◌, bytes_eq}
use Rattle.std.specs.List.{list_all, list_any, slice_get}
use Rattle.std.specs.Ordering.{nat_cmp, is_lt, is_eq, ordering_index, ordering_reverse}
use Rattle.std.specs.declared.cmp.Ordering.{Ordering}
use Rattle.std.specs.declared.cmp.Ordering.TheVariants.{Less, Equal, Greater}
use Rattle.std.specs.Cmp.Lexicographic.{slice_cmp}
use Rattle.std.proofs.lemmas.Cmp.{nat_list_cmp_total, alike_right}
use Rattle.std.proofs.lemmas.Map.Text.{is_eq-slice_cmp}
use Rattle.std.proofs.lemmas.Bool.{and_parts, and_from, and_right, or_left, cases_lt}
use Rattle.std.proofs.lemmas.List.{take-append-drop, drop_more, get_or_default}
use Rattle.std.proofs.lemmas.List.Folds.{list_all_at, list_all-append, list_any-append, Any-from_list_any}
use Rattle.std.proofs.lemmas.Option.{get_or_from_slice_get}
use Rattle.std.proofs.lemmas.Slice.Eq.{bytes_eq-Decides}
use Rattle.std.specs.List.Sorted.{IsNonDecreasingBy, IsPartitionPoint}
use Rattle.skeleton.specs.declared.entry.Entry.{Entry}
use Rattle.skeleton.specs.Paths.{is_path, is_below, parents}
use Rattle.skeleton.specs.Entries.{IsSkeleton, fits_behind, in_order, has_folder, counts_agree, is_folder}
use Rattle.skeleton.proofs.Lists.{by_cases, all_at, all_from, all_imply, any_none, any_only, push_parts}

abbrev pub cmp : List ℕ → List ℕ → Ordering
cmp a b = slice_cmp nat_cmp a b

-- ---- the order of bytes

lt_is : (o : Ordering) → is_lt o ≡ true → o ≡ Less
lt_is Less h = refl
lt_is Equal h = absurd (cc)
lt_is Greater h = absurd (cc)

pub less : (a b : List ℕ) → is_below a b ≡ true → cmp a b ≡ Less
less a b h = lt_is (cmp a b) h

pub greater : (a b : List ℕ) → is_below a b ≡ true → cmp b a ≡ Greater
greater a b h = nat_list_cmp_total.antisymm b a ∙ ap ordering_reverse (less a b h)

pub below_trans : (a b c : List ℕ) → is_below a b ≡ true → is_below b c ≡ true → is_below a c ≡ true
below_trans a b c h g = ap is_lt (nat_list_cmp_total.trans a b c (less a b h) (less b c g))

pub other_bytes : (a b : List ℕ) (o : Ordering) → cmp a b ≡ o → is_eq o ≡ false → bytes_eq a b ≡ false
other_bytes a b o e h = sym (is_eq-slice_cmp a b) ∙ ap is_eq e ∙ h

pub same_bytes : (a b : List ℕ) → cmp a b ≡ Equal → bytes_eq a b ≡ true
same_bytes a b e = sym (is_eq-slice_cmp a b) ∙ ap is_eq e

-- ---- an entry by its place

pub at_place : (entries : List Entry) → IsSkeleton entries → (j : ℕ) (d : Entry) → j < length entries → fits_behind (take j entries) (get_or entries j d) ≡ true
at_place entries h j d lt =
    h.each (take j entries) (get_or entries j d) (drop (j + 1) entries) (sym (take-append-drop j entries) ∙ ap (λ (xs : List Entry). take j entries ++ xs) (drop_more entries j d lt))

pub order_parts : (before : List Entry) (entry : Entry) → fits_behind before entry ≡ true → (list_all (λ e. is_below e.path entry.path) before ≡ true) × (list_all (λ p. has_folder before p) (parents entry.path) ≡ true)
unfolding in_order
order_parts before entry h =
    let t = and_parts (is_path entry.path) (in_order before entry.path && counts_agree entry.kind entry.size entry.refs) h in
    let u = and_parts (in_order before entry.path) (counts_agree entry.kind entry.size entry.refs) t.1 in
    and_parts (list_all (λ e. is_below e.path entry.path) before) (list_all (λ p. has_folder before p) (parents entry.path)) u.0

-- paths ascend
pub pair : (entries : List Entry) → IsSkeleton entries → (i j : ℕ) (d : Entry) → i < j → j < length entries → is_below (get_or entries i d).path (get_or entries j d).path ≡ true
pair entries h i j d lt inside =
    let t = order_parts (take j entries) (get_or entries j d) (at_place entries h j d inside) in
    let room : i < length (take j entries) = omega (arith, length-take j entries) in
    let e : get_or (take j entries) i d ≡ get_or entries i d = get_or-take j entries i d lt in
    subst (λ (x : Entry). is_below x.path (get_or entries j d).path ≡ true) e (all_at (λ e. is_below e.path (get_or entries j d).path) (take j entries) i d t.0 room)

-- above the last is above all
above_all : (entries : List Entry) → IsSkeleton entries → (path : List ℕ) (i : ℕ) (d : Entry) → i < length entries → is_below (get_or entries (length entries - 1) d).path path ≡ true → is_below (get_or entries i d).path path ≡ true
above_all entries h path i d lt e =
    elim (cases_lt i (length entries - 1)) [
      | inl before ↦ below_trans (get_or entries i d).path (get_or entries (length entries - 1) d).path path (pair entries h i (length entries - 1) d before (omega arith)) e
      | inr last ↦ let same : i ≡ length entries - 1 = omega arith in subst (λ (n : ℕ). is_below (get_or entries n d).path path ≡ true) (sym same) e
    ]

last_inside : (entries : List Entry) (last : Entry) → slice_get entries (length entries - 1) ≡ Some last → 0 < length entries
last_inside [] last e = absurd cc
last_inside (x ∷ entries) last e = omega arith

pub last_decides : (entries : List Entry) → IsSkeleton entries → (last : Entry) (path : List ℕ) → slice_get entries (length entries - 1) ≡ Some last → is_below last.path path ≡ list_all (λ e. is_below e.path path) entries
last_decides entries h last path found =
    let some = last_inside entries last found in
    let is_last : (d : Entry) → get_or entries (length entries - 1) d ≡ last = λ d. get_or_from_slice_get entries (length entries - 1) last d found in
    by_cases (is_below last.path path)
    (λ e. e ∙ sym (all_from (λ x. is_below x.path path) entries (λ i d lt. above_all entries h path i d lt (subst (λ (x : Entry). is_below x.path path ≡ true) (sym (is_last d)) e))))
    (λ e. e ∙ sym (list_all_at (λ x. is_below x.path path) entries (length entries - 1) last (omega arith) (subst (λ (x : Entry). is_below x.path path ≡ false) (sym (is_last last)) e)))

-- ---- a folder among the entries

and_true : (b : Bool) → (b && true) ≡ b
and_true true = refl
and_true false = refl

rises_by : (a b p : List ℕ) (o : Ordering) → cmp a p ≡ o → is_below a b ≡ true → ordering_index o ≤ ordering_index (cmp b p)
rises_by a b p Less e h = omega arith
rises_by a b p Equal e h =
    let p-b : cmp p b ≡ Less = sym (nat_list_cmp_total.congr a p b e) ∙ less a b h in
    let b-p : cmp b p ≡ Greater = nat_list_cmp_total.antisymm b p ∙ ap ordering_reverse p-b in
    rw b-p (omega arith)
rises_by a b p Greater e h =
    let p-a : cmp p a ≡ Less = nat_list_cmp_total.antisymm p a ∙ ap ordering_reverse e in
    let p-b : cmp p b ≡ Less = nat_list_cmp_total.trans p a b p-a (less a b h) in
    let b-p : cmp b p ≡ Greater = nat_list_cmp_total.antisymm b p ∙ ap ordering_reverse p-b in
    rw b-p (omega arith)

-- along the entries a comparison with a path does not fall
pub rises : (entries : List Entry) → IsSkeleton entries → (path : List ℕ) → IsNonDecreasingBy (λ e. ordering_index (cmp e.path path)) entries
rises entries h path i j d le inside =
    elim (cases_lt i j) [
      | inl lt ↦ rises_by (get_or entries i d).path (get_or entries j d).path path (cmp (get_or entries i d).path path) refl (pair entries h i j d lt inside)
      | inr ge ↦ let same : i ≡ j = omega arith in subst (λ (n : ℕ). ordering_index (cmp (get_or entries i d).path path) ≤ ordering_index (cmp (get_or entries n d).path path)) same (omega arith)
    ]

-- an entry with another path does not count
other_entry : (e : Entry) (path : List ℕ) → bytes_eq e.path path ≡ false → (is_folder e.kind && bytes_eq e.path path) ≡ false
other_entry e path h = and_right (is_folder e.kind) (bytes_eq e.path path) h

pub missing : (entries : List Entry) (path : List ℕ) (i : ℕ) → IsPartitionPoint (λ e. cmp e.path path ≡ Less) (λ e. cmp e.path path ≡ Greater) entries i → false ≡ has_folder entries path
missing entries path i h =
    sym (any_none (λ e. is_folder e.kind && bytes_eq e.path path) entries (λ k d lt.
    let e = get_or entries k d in
    other_entry e path (elim (cases_lt k i) [
      | inl before ↦ other_bytes e.path path Less (h.0 k d (omega arith) before) refl
      | inr behind ↦ other_bytes e.path path Greater (h.1 k d behind lt) refl
    ])))

pub found : (entries : List Entry) → IsSkeleton entries → (path : List ℕ) (i : ℕ) (d : Entry) → i < length entries → cmp (get_or entries i d).path path ≡ Equal → is_folder (get_or entries i d).kind ≡ has_folder entries path
found entries h path i d lt equal =
    let here : is_folder (get_or entries i d).kind ≡ (is_folder (get_or entries i d).kind && bytes_eq (get_or entries i d).path path) = rw (same_bytes (get_or entries i d).path path equal) (sym (and_true (is_folder (get_or entries i d).kind))) in
    here ∙ any_only (λ e. is_folder e.kind && bytes_eq e.path path) entries i d lt (λ k f at differ.
    let same : get_or entries i f ≡ get_or entries i d = get_or_default entries i f d lt in
    let equal' : cmp (get_or entries i f).path path ≡ Equal = ap (λ (x : Entry). cmp x.path path) same ∙ equal in
    other_entry (get_or entries k f) path (elim (cases_lt k i) [
      | inl before ↦ other_bytes (get_or entries k f).path path Less (sym (alike_right nat_list_cmp_total (get_or entries i f).path path (get_or entries k f).path equal') ∙ less (get_or entries k f).path (get_or entries i f).path (pair entries h k i f before lt)) refl
      | inr behind ↦
          let lt' : i < k = omega arith in
          let below : cmp path (get_or entries k f).path ≡ Less = sym (nat_list_cmp_total.congr (get_or entries i f).path path (get_or entries k f).path equal') ∙ less (get_or entries i f).path (get_or entries k f).path (pair entries h i k f lt' at) in
          other_bytes (get_or entries k f).path path Greater (nat_list_cmp_total.antisymm (get_or entries k f).path path ∙ ap ordering_reverse below) refl
    ]))

-- ---- the folders that a path lies in

-- a folder that is there lies in folders that are there
has_more : (entries : List Entry) (k : ℕ) (path : List ℕ) → has_folder (take k entries) path ≡ true → has_folder entries path ≡ true
has_more entries k path h =
    let p : Entry → Bool = λ e. is_folder e.kind && bytes_eq e.path path in
    ap (λ (xs : List Entry). list_any p xs) (sym (take-append-drop k entries)) ∙ list_any-append p (take k entries) (drop k entries) ∙ or_left (list_any p (take k entries)) (list_any p (drop k entries)) h

above_folder : (entries : List Entry) → IsSkeleton entries → (folder : List ℕ) → has_folder entries folder ≡ true → list_all (λ parent. has_folder entries parent) (parents folder) ≡ true
above_folder entries h folder there =
    let a = Any-from_list_any (λ e. is_folder e.kind && bytes_eq e.path folder) entries there in
    let k = a.0 in
    let e = a.1 in
    let same : e.path ≡ folder = (bytes_eq-Decides e.path folder).0 (and_parts (is_folder e.kind) (bytes_eq e.path folder) a.4).1 in
    let fits : fits_behind (take k entries) e ≡ true = subst (λ (x : Entry). fits_behind (take k entries) x ≡ true) a.3 (at_place entries h k e a.2) in
    let before = (order_parts (take k entries) e fits).1 in
    let before' = subst (λ (p : List ℕ). list_all (λ parent. has_folder (take k entries) parent) (parents p) ≡ true) same before in
    all_imply (λ parent. has_folder (take k entries) parent) (λ parent. has_folder entries parent) (parents folder) (λ parent. has_more entries k parent) before'

-- the nearest parent decides
pub nearest_decides : (entries : List Entry) → IsSkeleton entries → (path folder : List ℕ) → parents path ≡ parents folder ++ folder ∷ [] → has_folder entries folder ≡ list_all (λ parent. has_folder entries parent) (parents path)
nearest_decides entries h path folder above =
    let all : List (List ℕ) → Bool = λ ps. list_all (λ p. has_folder entries p) ps in
    let split : all (parents path) ≡ (all (parents folder) && (has_folder entries folder && true)) = ap all above ∙ list_all-append (λ p. has_folder entries p) (parents folder) (folder ∷ []) in
    by_cases (has_folder entries folder)
    (λ e. e ∙ sym (split ∙ and_from (all (parents folder)) (has_folder entries folder && true) (above_folder entries h folder e) (rw e refl)))
    (λ e. e ∙ sym (split ∙ and_right (all (parents folder)) (has_folder entries folder && true) (rw e refl)))

-- ---- one more entry

pub grows : (entries : List Entry) → IsSkeleton entries → (entry : Entry) → fits_behind entries entry ≡ true → IsSkeleton (entries ++ entry ∷ [])
grows entries h entry fits = record {
  each = λ before x after e. elim (push_parts entries entry before x after e) [
    | inl t ↦ rw (← t.0, ← t.1) fits
    | inr t ↦ h.each before x t.0 t.1
  ];
}
