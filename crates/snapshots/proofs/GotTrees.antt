-- The tree that was read of a ticket, whatever bodies were used: it is in place, and its entries count it.
use Rattle.std.proofs.Common.{◌≡◌, inl, inr, ℕ, Bool, true, ◌&&◌, ◌||◌, ◌==◌, List, [], ◌∷◌, ◌++◌, length, map, sum_by, bytes_eq, Ok, refl, sym, ◌∙◌, ap, subst, arith, append_assoc, length-append}
use Rattle.std.specs.List.{list_all}
use Rattle.std.proofs.lemmas.Bool.{and_parts, false≢true, eqb-true}
use Rattle.std.proofs.lemmas.List.{map-append}
use Rattle.std.proofs.lemmas.List.Sums.{sum_by-cons}
use Rattle.std.proofs.lemmas.Slice.Eq.{bytes_eq-Decides}
use Rattle.psb_bytes.specs.Paths.{parents}
use Rattle.psb_bytes.specs.declared.ids.Ref.{Ref}
use Rattle.skeleton.specs.declared.entry.Entry.{Entry}
use Rattle.skeleton.specs.declared.entry.EntryKind.{EntryKind}
use Rattle.skeleton.specs.declared.entry.EntryKind.TheVariants as kind
use Rattle.skeleton.specs.declared.faults.SkelFault.TheVariants.{Trailing}
use Rattle.skeleton.specs.declared.limits.TheConstants.{SKELETON_MARK}
use Rattle.skeleton.specs.Entries.{IsSkeleton, is_ref, is_folder, has_folder, counts_agree, total}
use Rattle.skeleton.specs.Paths.{is_path, is_below}
use Rattle.skeleton.specs.Reading.{◌>>=◌, Unread, entries_at, marked, ended, skeleton_of}
use Rattle.skeleton.proofs.Found.{bind_ok, then_ok, found, ok_is}
use Rattle.skeleton.proofs.Order.{order_parts}
use Rattle.skeleton.proofs.EntryLaws.{entries_field}
use Rattle.snapshots.specs.Meaning.{Item, Folder, File, Place}
use Rattle.snapshots.specs.Counts.{one_file, one_folder, its_bytes}
use Rattle.snapshots.specs.Got.{Use, AreGot, IsItemGot, AreItemsGot}
use Rattle.snapshots.specs.GotLaws.{ReadTreesAreInPlace, ReadTreesAreCounted}
use Rattle.snapshots.specs.Walks.{rise, IsWithin, AreFound}
use Rattle.snapshots.specs.WalkSteps.{In}
use Rattle.snapshots.specs.Shapes.{IsOf, AreOf}
use Rattle.snapshots.specs.declared.walking.Found.{Found}
use Rattle.snapshots.proofs.Members.{by_cases, to_in, from_in, in_left, of_map, parted, passes}
use Rattle.snapshots.proofs.Skeletons.{in_back}
use Rattle.snapshots.proofs.WalkTrees.{in_place}
use Rattle.snapshots.proofs.SkeletonCounts.{agrees, all_agree}
use Rattle.snapshots.proofs.GotReads.{opened_long}

-- ---- what was read is a skeleton

pub read_is_skeleton : (text : List ℕ) (entries : List Entry) → skeleton_of text ≡ Ok entries → IsSkeleton entries
unfolding skeleton_of
read_is_skeleton text entries e =
    let b = bind_ok (marked SKELETON_MARK text) (λ (u : Unread). entries_at u >>= λ x. ended x) entries e in
    let d = bind_ok (entries_at b.0) (λ x. ended x) entries b.2 in
    let g = then_ok (length d.0.1.bytes == 0) (found d.0.0) (record { fault = Trailing; place = d.0.1.place }) entries d.2 in
    subst IsSkeleton (ok_is d.0.0 entries g.1) (entries_field.fits b.0 d.0.0 d.0.1 d.1)

-- ---- its entries, as a walk would have found them

found_of : Entry → Found
found_of e = record { path = e.path; kind = e.kind }

rises : (es front : List Entry) → IsSkeleton (front ++ es) → rise (map found_of es) ≡ true
unfolding found_of
rises [] front h = refl
rises (e ∷ []) front h = refl
rises (e ∷ f ∷ es) front h =
    let same : (front ++ e ∷ []) ++ f ∷ es ≡ front ++ e ∷ f ∷ es = append_assoc front (e ∷ []) (f ∷ es) in
    let below = order_parts (front ++ e ∷ []) f (h.each (front ++ e ∷ []) f es (sym same)) in
    rw (passes (λ (x : Entry). is_below x.path f.path) e (front ++ e ∷ []) below.0 (in_back e front [])) (rises (f ∷ es) (front ++ e ∷ []) (subst IsSkeleton (sym same) h))

folder_in : (es : List Entry) (r : List ℕ) → has_folder es r ≡ true → In (record { path = r; kind = kind.Folder }) (map found_of es)
unfolding found_of
folder_in [] r h = absurd (false≢true h)
folder_in (e ∷ es) r h =
    by_cases (is_folder e.kind && bytes_eq e.path r)
    (λ yes. let t = and_parts (is_folder e.kind) (bytes_eq e.path r) yes in inl (same e.kind e.path t.0 ((bytes_eq-Decides e.path r).0 t.1)))
    (λ no. inr (folder_in es r (sym (ap (λ (b : Bool). b || has_folder es r) no) ∙ h)))
  where
    same : (k : EntryKind) (path : List ℕ) → is_folder k ≡ true → path ≡ r → ◌≡◌ {A = Found} (record { path = path; kind = k }) (record { path = r; kind = kind.Folder })
    same kind.Folder path folder is = ap (λ (p : List ℕ). let f : Found = record { path = p; kind = kind.Folder } in f) is
    same kind.File path folder is = absurd (false≢true folder)

are_found : (es : List Entry) → IsSkeleton es → AreFound (map found_of es)
unfolding found_of
are_found es h = record {
  ordered = rises es [] h;
  paths = λ f has.
      let m = of_map found_of f es (to_in f (map found_of es) has) in
      ap is_path (sym (ap (λ (x : Found). x.path) m.2)) ∙ path_at m.0 m.1;
  within = λ f has.
      let m = of_map found_of f es (to_in f (map found_of es) has) in
      subst (IsWithin (map found_of es)) (ap (λ (x : Found). x.path) m.2) (within_at m.0 m.1);
}
  where
    path_at : (e : Entry) → In e es → is_path e.path ≡ true
    path_at e i =
        let p = parted e es i in
        (and_parts (is_path e.path) _ (h.each p.0 e p.1 p.2)).0

    within_at : (e : Entry) → In e es → IsWithin (map found_of es) e.path
    within_at e i r above =
        let p = parted e es i in
        let folders = (order_parts p.0 e (h.each p.0 e p.1 p.2)).1 in
        let here = folder_in p.0 r (passes (λ (q : List ℕ). has_folder p.0 q) r (parents e.path) folders (to_in r (parents e.path) above)) in
        from_in _ (map found_of es) (subst (In (record { path = r; kind = kind.Folder })) (sym (map-append found_of p.0 (e ∷ p.1)) ∙ ap (map found_of) (sym p.2)) (in_left _ (map found_of p.0) (map found_of (e ∷ p.1)) here))

item_of_kind : (used : List Use) (k : EntryKind) (refs : List Ref) (item : Item) → IsItemGot used k refs item → IsOf k item
item_of_kind used kind.Folder refs item is = is
item_of_kind used kind.File refs item is = (is.0, is.2)

are_of : (used : List Use) (es : List Entry) (ps : List Place) → AreItemsGot used es ps → AreOf (map found_of es) ps
unfolding found_of
are_of used [] ps g = subst (AreOf []) (sym g) tt
are_of used (e ∷ es) ps g = subst (AreOf (map found_of (e ∷ es))) (sym g.4) (refl, item_of_kind used e.kind e.refs g.0 g.2, are_of used es g.1 g.3)

pub read_trees_are_in_place : ReadTreesAreInPlace
read_trees_are_in_place used t tree g = in_place (map found_of g.entries) tree (are_found g.entries (read_is_skeleton g.text g.entries g.reads)) (are_of used g.entries tree g.items)

-- ---- its counts

got_long : (used : List Use) (rs : List Ref) (text : List ℕ) → AreGot used rs text → length text ≡ total rs
got_long used [] text g = ap length g
got_long used (r ∷ rs) text g =
    omega (arith, ap length g.4, length-append g.0 g.1, ap length g.2.plain_is, opened_long r g.2.body g.2.opens_it, got_long used rs g.1 g.3, sum_by-cons (λ (x : Ref). x.len) r rs)

-- each place counts as its entry does
sums_are : (used : List Use) (f : Entry → ℕ) (n : Item → ℕ) → ((e : Entry) (item : Item) → agrees e ≡ true → IsItemGot used e.kind e.refs item → n item ≡ f e) → (es : List Entry) (ps : List Place) → list_all agrees es ≡ true → AreItemsGot used es ps
    → sum_by (λ (p : Place). n p.item) ps ≡ sum_by f es
sums_are used f n each [] ps all g = ap (sum_by (λ (p : Place). n p.item)) g
sums_are used f n each (e ∷ es) ps all g =
    let t = and_parts (agrees e) (list_all agrees es) all in
    let here : Place = record { path = e.path; item = g.0 } in
    omega (
      arith,
      ap (sum_by (λ (p : Place). n p.item)) g.4,
      sum_by-cons (λ (p : Place). n p.item) here g.1,
      sum_by-cons f e es,
      each e g.0 t.0 g.2,
      sums_are used f n each es g.1 t.1 g.3,
    )

abbrev as_file : Item → ℕ
as_file item = elim item [ Folder ↦ 0 | File bytes ↦ 1 ]

abbrev as_folder : Item → ℕ
as_folder item = elim item [ Folder ↦ 1 | File bytes ↦ 0 ]

abbrev as_bytes : Item → ℕ
as_bytes item = elim item [ Folder ↦ 0 | File bytes ↦ length bytes ]

file_got : (used : List Use) (k : EntryKind) (refs : List Ref) (item : Item) → IsItemGot used k refs item → as_file item ≡ elim k [ kind.Folder ↦ 0 | kind.File ↦ 1 ]
file_got used kind.Folder refs item is = ap as_file is
file_got used kind.File refs item is = ap as_file is.2

folder_got : (used : List Use) (k : EntryKind) (refs : List Ref) (item : Item) → IsItemGot used k refs item → as_folder item ≡ elim k [ kind.Folder ↦ 1 | kind.File ↦ 0 ]
folder_got used kind.Folder refs item is = ap as_folder is
folder_got used kind.File refs item is = ap as_folder is.2

bytes_got : (used : List Use) (k : EntryKind) (size : ℕ) (refs : List Ref) (item : Item) → counts_agree k size refs ≡ true → IsItemGot used k refs item → as_bytes item ≡ elim k [ kind.Folder ↦ 0 | kind.File ↦ size ]
bytes_got used kind.Folder size refs item agree is = ap as_bytes is
bytes_got used kind.File size refs item agree is =
    ap as_bytes is.2 ∙ got_long used refs is.0 is.1 ∙ sym (eqb-true size (total refs) (and_parts (list_all is_ref refs) (size == total refs) agree).1)

pub read_trees_are_counted : ReadTreesAreCounted
unfolding agrees
read_trees_are_counted used t tree g =
    let all = all_agree g.entries (read_is_skeleton g.text g.entries g.reads) in (
      sums_are used one_file as_file (λ e item agree is. file_got used e.kind e.refs item is) g.entries tree all g.items,
      sums_are used one_folder as_folder (λ e item agree is. folder_got used e.kind e.refs item is) g.entries tree all g.items,
      sums_are used its_bytes as_bytes (λ e item agree is. bytes_got used e.kind e.size e.refs item agree is) g.entries tree all g.items,
    )
