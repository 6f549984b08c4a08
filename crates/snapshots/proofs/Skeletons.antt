-- Places in their order have a skeleton.
use Rattle.std.proofs.Common.{◌≡◌, ◌⊎◌, inl, inr, ℕ, ◌+◌, Bool, true, false, ◌&&◌, ◌||◌, cond, List, [], ◌∷◌, ◌++◌, length, map, bytes_eq, refl, sym, ◌∙◌, ap, subst, arith, append_assoc}
use Rattle.std.specs.List.{list_all}
use Rattle.std.specs.Ordering.{nat_cmp, is_lt, ordering_then}
use Rattle.std.specs.declared.cmp.Ordering.{Ordering}
use Rattle.std.specs.Cmp.Lexicographic.{slice_cmp}
use Rattle.std.specs.Cmp.{nat_cmp_total}
use Rattle.std.proofs.lemmas.Cmp.{nat_list_cmp_total, tied_itself}
use Rattle.std.proofs.lemmas.Bool.{and_parts, false≢true, eq-eqb, eqb-true}
use Rattle.std.proofs.lemmas.List.{append-nil, map-append}
use Rattle.std.proofs.lemmas.List.Sums.{sum_by-cons}
use Rattle.psb_bytes.specs.Names.{is_slash}
use Rattle.psb_bytes.specs.Paths.{parents}
use Rattle.psb_bytes.specs.declared.ids.Ref.{Ref}
use Rattle.convergent_seal.specs.Sealing.{sealed_ref}
use Rattle.rolling_chunks.specs.declared.spans.Span.{Span}
use Rattle.rolling_chunks.specs.Cuts.{longest}
use Rattle.rolling_chunks.specs.Spans.{spans}
use Rattle.rolling_chunks.specs.Laws.{part, StandFrom}
use Rattle.rolling_chunks.proofs.Covering.{spans_cover, span_sizes}
use Rattle.skeleton.specs.declared.entry.Entry.{Entry}
use Rattle.skeleton.specs.Entries.{IsSkeleton, is_folder, has_folder, in_order, fits_behind, counts_agree, total}
use Rattle.skeleton.specs.Paths.{is_path, is_below}
use Rattle.skeleton.proofs.Order.{below_trans, grows}
use Rattle.snapshots.specs.Meaning.{Item, Folder, File, Place}
use Rattle.snapshots.specs.Tickets.{refs_of_text, entry_of}
use Rattle.snapshots.specs.Trees.{ascend, AreInPlace}
use Rattle.snapshots.specs.Laws.{TreesAreInPlace, PlacesHaveSkeletons}
use Rattle.snapshots.specs.WalkSteps.{In}
use Rattle.snapshots.proofs.Members.{to_in, from_in, in_app, in_right, all_pass, same_bytes}
use Rattle.snapshots.proofs.PathSplits.{path_is as valid_path}
use Rattle.snapshots.proofs.Tickets.{refs_fit, stand_le, part_long}

pub in_back : {X : Type 0} (x : X) (a b : List X) → In x (a ++ x ∷ b)
in_back x a b = in_right x a (x ∷ b) (inl refl)

-- ---- the order of paths

cmp : List ℕ → List ℕ → Ordering
cmp a b = slice_cmp nat_cmp a b

-- a path comes before what it is the front of
front_below : (r : List ℕ) (x : ℕ) (rest : List ℕ) → is_below r (r ++ x ∷ rest) ≡ true
front_below [] x rest = refl
front_below (b ∷ r) x rest =
    ap (λ (o : Ordering). is_lt (ordering_then o (slice_cmp nat_cmp r (r ++ x ∷ rest)))) (tied_itself nat_cmp_total b) ∙ front_below r x rest

pub not_below : (a : List ℕ) → is_below a a ≡ true → ⊥
not_below a h = false≢true (sym (ap is_lt (tied_itself nat_list_cmp_total a)) ∙ h)

-- ---- the folders that a path lies in

in_map : (b : ℕ) (r : List ℕ) (xs : List (List ℕ)) → In r (map (λ (front : List ℕ). b ∷ front) xs) → (q : List ℕ) × In q xs × (r ≡ b ∷ q)
in_map b r [] i = absurd i
in_map b r (x ∷ xs) (inl is) = (x, inl refl, sym is)
in_map b r (x ∷ xs) (inr i) = let m = in_map b r xs i in (m.0, inr m.1, m.2)

pub lies_in : (path r : List ℕ) → In r (parents path) → (rest : List ℕ) × (path ≡ r ++ 47 ∷ rest)
lies_in [] r i = absurd i
lies_in (b ∷ path) r i = at (is_slash b) refl i (λ q j. lies_in path q j)
  where
    deeper : In r (map (λ (front : List ℕ). b ∷ front) (parents path)) → ((q : List ℕ) → In q (parents path) → (rest : List ℕ) × (path ≡ q ++ 47 ∷ rest)) → (rest : List ℕ) × (b ∷ path ≡ r ++ 47 ∷ rest)
    deeper j again =
        let m = in_map b r (parents path) j in
        let l = again m.0 m.1 in
        (l.0, ap (λ (p : List ℕ). b ∷ p) l.1 ∙ ap (λ (q : List ℕ). q ++ 47 ∷ l.0) (sym m.2))

    at : (slash : Bool) → is_slash b ≡ slash → In r (cond slash ([] ∷ map (λ (front : List ℕ). b ∷ front) (parents path)) (map (λ (front : List ℕ). b ∷ front) (parents path)))
        → ((q : List ℕ) → In q (parents path) → (rest : List ℕ) × (path ≡ q ++ 47 ∷ rest)) → (rest : List ℕ) × (b ∷ path ≡ r ++ 47 ∷ rest)
    at false is j again = deeper j again
    at true is (inl top) again = (path, ap (λ (c : ℕ). c ∷ path) (eqb-true b 47 is) ∙ ap (λ (q : List ℕ). q ++ 47 ∷ path) top)
    at true is (inr j) again = deeper j again

-- a folder that a path lies in comes before it
parent_below : (path r : List ℕ) → In r (parents path) → is_below r path ≡ true
parent_below path r i = let l = lies_in path r i in ap (is_below r) l.1 ∙ front_below r 47 l.0

-- ---- places in their order

pub rest_ascends : (p : Place) (ps : List Place) → ascend (p ∷ ps) ≡ true → ascend ps ≡ true
rest_ascends p [] h = refl
rest_ascends p (q ∷ ps) h = (and_parts (is_below p.path q.path) (ascend (q ∷ ps)) h).1

behind_ascends : (ps qs : List Place) → ascend (ps ++ qs) ≡ true → ascend qs ≡ true
behind_ascends [] qs h = h
behind_ascends (p ∷ ps) qs h = behind_ascends ps qs (rest_ascends p (ps ++ qs) h)

pub first_below : (p q : Place) (ps : List Place) → ascend (p ∷ ps) ≡ true → In q ps → is_below p.path q.path ≡ true
first_below p q [] h i = absurd i
first_below p q (x ∷ ps) h (inl is) = ap (λ (y : Place). is_below p.path y.path) (sym is) ∙ (and_parts (is_below p.path x.path) (ascend (x ∷ ps)) h).0
first_below p q (x ∷ ps) h (inr i) =
    let both = and_parts (is_below p.path x.path) (ascend (x ∷ ps)) h in
    below_trans p.path x.path q.path both.0 (first_below x q ps both.1 i)

-- a place that comes before another stands in front of it
in_front : (ps : List Place) (q : Place) (qs : List Place) (p : Place) → ascend (ps ++ q ∷ qs) ≡ true → In p (ps ++ q ∷ qs) → is_below p.path q.path ≡ true → In p ps
in_front ps q qs p h i below = at (in_app p ps (q ∷ qs) i)
  where
    at : In p ps ⊎ In p (q ∷ qs) → In p ps
    at (inl j) = j
    at (inr (inl is)) = absurd (not_below p.path (ap (λ (y : Place). is_below p.path y.path) (sym is) ∙ below))
    at (inr (inr j)) = absurd (not_below p.path (below_trans p.path q.path p.path below (first_below q p qs (behind_ascends ps (q ∷ qs) h) j)))

-- ---- entries

path_is : (p : Place) → (entry_of p).path ≡ p.path
path_is p = at p.item refl
  where
    at : (item : Item) → p.item ≡ item → (entry_of p).path ≡ p.path
    at Folder is = ap (λ (i : Item). (entry_of (record { path = p.path; item = i })).path) is
    at (File bytes) is = ap (λ (i : Item). (entry_of (record { path = p.path; item = i })).path) is

all_below : (ps qs : List Place) (q : Place) → ascend (ps ++ q ∷ qs) ≡ true → list_all (λ e. is_below e.path q.path) (map entry_of ps) ≡ true
all_below [] qs q h = refl
all_below (p ∷ ps) qs q h =
    rw (ap (λ (path : List ℕ). is_below path q.path) (path_is p) ∙ first_below p q (ps ++ q ∷ qs) h (in_back q ps qs)) (all_below ps qs q (rest_ascends p (ps ++ q ∷ qs) h))

or_true : (a : Bool) → (a || true) ≡ true
or_true true = refl
or_true false = refl

folder_there : (ps : List Place) (r : List ℕ) → In (record { path = r; item = Folder }) ps → has_folder (map entry_of ps) r ≡ true
folder_there [] r i = absurd i
folder_there (p ∷ ps) r (inl is) =
    ap (λ (b : Bool). b || has_folder (map entry_of ps) r) (ap (λ (q : Place). is_folder (entry_of q).kind && bytes_eq (entry_of q).path r) is ∙ same_bytes r)
folder_there (p ∷ ps) r (inr i) =
    ap (λ (b : Bool). (is_folder (entry_of p).kind && bytes_eq (entry_of p).path r) || b) (folder_there ps r i) ∙ or_true (is_folder (entry_of p).kind && bytes_eq (entry_of p).path r)

sum_parts : (text : List ℕ) (start : ℕ) (ss : List Span) → StandFrom start (length text) ss → start + total (map sealed_ref (map (part text) ss)) ≡ length text
unfolding StandFrom
sum_parts text start [] stand = omega (arith, stand)
sum_parts text start (s ∷ ss) stand =
    let sum : total (map sealed_ref (map (part text) (s ∷ ss))) ≡ length (part text s) + total (map sealed_ref (map (part text) ss)) = sum_by-cons (λ (r : Ref). r.len) (sealed_ref (part text s)) (map sealed_ref (map (part text) ss)) in
    omega (arith, sum, part_long text start s stand.0 (stand_le (start + s.len) (length text) ss stand.1), sum_parts text (start + s.len) ss stand.1)

counts_of : (p : Place) → counts_agree (entry_of p).kind (entry_of p).size (entry_of p).refs ≡ true
counts_of p = at p.item refl
  where
    file : (bytes : List ℕ) → counts_agree (entry_of (record { path = p.path; item = File bytes })).kind (entry_of (record { path = p.path; item = File bytes })).size (entry_of (record { path = p.path; item = File bytes })).refs ≡ true
    file bytes =
        let cover = (spans_cover longest bytes).0 in
        let whole : length bytes ≡ total (refs_of_text bytes) = omega (arith, sum_parts bytes 0 (spans longest bytes) cover) in
        rw (refs_fit bytes 0 (spans longest bytes) cover (span_sizes longest bytes (omega arith)), eq-eqb (length bytes) (total (refs_of_text bytes)) whole) refl

    at : (item : Item) → p.item ≡ item → counts_agree (entry_of p).kind (entry_of p).size (entry_of p).refs ≡ true
    at Folder is = ap (λ (i : Item). let e = entry_of (record { path = p.path; item = i }) in counts_agree e.kind e.size e.refs) is
    at (File bytes) is = ap (λ (i : Item). let e = entry_of (record { path = p.path; item = i }) in counts_agree e.kind e.size e.refs) is ∙ file bytes

-- a place may stand behind those in front of it
pub fits : (ps qs : List Place) (q : Place) → AreInPlace (ps ++ q ∷ qs) → fits_behind (map entry_of ps) (entry_of q) ≡ true
unfolding in_order
fits ps qs q are =
    let here = from_in q (ps ++ q ∷ qs) (in_back q ps qs) in
    let folders : list_all (λ r. has_folder (map entry_of ps) r) (parents q.path) ≡ true =
    all_pass (λ r. has_folder (map entry_of ps) r) (parents q.path) (λ r i.
    folder_there ps r (in_front ps q qs (record { path = r; item = Folder }) are.ordered (to_in _ (ps ++ q ∷ qs) (are.reached q here r (from_in r (parents q.path) i))) (parent_below q.path r i))) in
    subst (λ (path : List ℕ). (is_path path && (list_all (λ e. is_below e.path path) (map entry_of ps) && list_all (λ r. has_folder (map entry_of ps) r) (parents path) && counts_agree (entry_of q).kind (entry_of q).size (entry_of q).refs)) ≡ true) (sym (path_is q))
    (rw (are.paths q here, all_below ps qs q are.ordered, folders, counts_of q) refl)

grow : (ps qs : List Place) → AreInPlace (ps ++ qs) → IsSkeleton (map entry_of ps) → IsSkeleton (map entry_of (ps ++ qs))
grow ps [] are k = subst (λ (l : List Place). IsSkeleton (map entry_of l)) (sym (append-nil ps)) k
grow ps (q ∷ qs) are k =
    let same : (ps ++ q ∷ []) ++ qs ≡ ps ++ q ∷ qs = append_assoc ps (q ∷ []) qs in
    let more : IsSkeleton (map entry_of (ps ++ q ∷ [])) = subst IsSkeleton (sym (map-append entry_of ps (q ∷ []))) (grows (map entry_of ps) k (entry_of q) (fits ps qs q are)) in
    subst (λ (l : List Place). IsSkeleton (map entry_of l)) same (grow (ps ++ q ∷ []) qs (subst AreInPlace (sym same) are) more)

pub places_have_skeleton : PlacesHaveSkeletons
places_have_skeleton places are = grow [] places are (record { each = λ before entry after split. absurd (none before entry after split) })
  where
    none : (before : List Entry) (entry : Entry) (after : List Entry) → [] ≡ before ++ entry ∷ after → ⊥
    none [] entry after is = absurd (cc)
    none (b ∷ before) entry after is = absurd (cc)

pub tree_in_place : TreesAreInPlace
tree_in_place content root places tree short = record {
  ordered = tree.ordered;
  paths = λ p has. valid_path p.path (tree.stand p has).path (short p has);
  reached = λ p has. (tree.stand p has).reached;
}
