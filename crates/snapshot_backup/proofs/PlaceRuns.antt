-- The places of a tree that are read and kept one after another.
use Rattle.std.proofs.Common.{◌≡◌, ℕ, ◌+◌, ◌<◌, ◌≤◌, Bool, true, List, [], ◌∷◌, ◌++◌, length, All, take, drop, map, flat_map, get_or, Option, Some, IfSome, refl, sym, ◌∙◌, ap, subst, arith, append-nil, append_assoc, length-append}
use Rattle.std.proofs.lemmas.List.{take_more, take-append-drop, map-append, length-map}
use Rattle.std.proofs.lemmas.List.Elements.{All-nil}
use Rattle.std.proofs.lemmas.List.Sums.{sum_by-cons}
use Rattle.psb_bytes.specs.declared.ids.Ref.{Ref}
use Rattle.psb_station.specs.View.{View}
use Rattle.psb_station.specs.Folder.{FolderView, FolderCall, Reading, Content, File as AFile, Tells_content, found, child}
use Rattle.psb_station.proofs.Spans.{at_some, if_some, same_some, told_before}
use Rattle.convergent_seal.specs.Sealing.{sealed_ref}
use Rattle.rolling_chunks.specs.Cuts.{longest}
use Rattle.rolling_chunks.specs.Spans.{spans}
use Rattle.rolling_chunks.specs.Laws.{part}
use Rattle.rolling_chunks.specs.declared.spans.Span.{Span}
use Rattle.rolling_chunks.proofs.Covering.{spans_cover}
use Rattle.skeleton.specs.declared.entry.Entry.{Entry as SkeletonEntry}
use Rattle.skeleton.specs.declared.entry.EntryKind.{EntryKind}
use Rattle.skeleton.specs.declared.entry.EntryKind.TheVariants as kind
use Rattle.skeleton.specs.Entries.{fits_behind, total}
use Rattle.node_journal.specs.Entry.{Entry}
use Rattle.node_core.specs.declared.node.Node.{Node}
use Rattle.node_serve.proofs.Tries.{grows_none, grows_then}
use Rattle.snapshots.specs.Meaning.{Item, Folder, File, Place}
use Rattle.snapshots.specs.Reading.{Reads}
use Rattle.snapshots.specs.Shapes.{IsOf, AreOf, IsReadAt, AreRead}
use Rattle.snapshots.specs.Tickets.{chunks_of, refs_of_text, entry_of, skeleton_of_tree}
use Rattle.snapshots.specs.Walks.{AreFound}
use Rattle.snapshots.specs.declared.walking.Found.{Found}
use Rattle.snapshots.proofs.Skeletons.{fits}
use Rattle.snapshots.proofs.WalkTrees.{in_place}
use Rattle.snapshot_backup.specs.Course.{pieces_in, pieces_of_files}
use Rattle.snapshot_backup.specs.Endings.{AllKept, StoppedFor}
use Rattle.snapshot_backup.specs.Files.{IsFront, IsFile, AreFirst, HasMore, AreFirstAt, HasMoreAt, AreFirstIn, HasMoreIn, AreReadingsAt, AreReadings, ReadsFiles}
use Rattle.node_serve.specs.Spans.{IsUp}
use Rattle.snapshot_backup.specs.Runs.{KeepsSo}
use Rattle.snapshot_backup.specs.declared.fault.BackupFault.{BackupFault}
use Rattle.snapshot_backup.proofs.Fronts.{IsLeft, so_none, so_untried, so_then}
use Rattle.snapshot_backup.proofs.FileRuns.{so_cut}

-- ---- an entry

total_is : (ps : List (List ℕ)) → total (map sealed_ref ps) ≡ length (flat_map (λ (p : List ℕ). p) ps)
total_is [] = refl
total_is (p ∷ ps) =
    let sum : total (map sealed_ref (p ∷ ps)) ≡ length p + total (map sealed_ref ps) = sum_by-cons (λ (r : Ref). r.len) (sealed_ref p) (map sealed_ref ps) in
    omega (arith, sum, total_is ps, length-append p (flat_map (λ (q : List ℕ). q) ps))

joined_parts : (text : List ℕ) (ss : List Span) → flat_map (λ (p : List ℕ). p) (map (part text) ss) ≡ flat_map (part text) ss
joined_parts text [] = refl
joined_parts text (s ∷ ss) = ap (λ (l : List ℕ). part text s ++ l) (joined_parts text ss)

-- the refs of a file open to all its bytes
size_is : (bytes : List ℕ) → total (refs_of_text bytes) ≡ length bytes
size_is bytes = total_is (chunks_of bytes) ∙ ap length (joined_parts bytes (spans longest bytes) ∙ (spans_cover longest bytes).1)

file_entry : (path bytes : List ℕ) (size : ℕ) (refs : List Ref) → refs ≡ refs_of_text bytes → size ≡ total refs
    → (let e : SkeletonEntry = record { path = path; kind = kind.File; size = size; refs = refs } in e ≡ entry_of (record { path = path; item = File bytes }))
file_entry path bytes size refs are is =
    let long : size ≡ length bytes = is ∙ ap total are ∙ size_is bytes in
    λ i. record { path = path; kind = kind.File; size = long i; refs = are i }

-- a place has a ref for each of its pieces
refs_in : (p : Place) → length (entry_of p).refs ≡ length (pieces_in p.item)
refs_in p = at p.item refl
  where
    at : (item : Item) → p.item ≡ item → length (entry_of p).refs ≡ length (pieces_in p.item)
    at Folder is = ap (λ (i : Item). length (entry_of (record { path = p.path; item = i })).refs) is ∙ ap (λ (i : Item). length (pieces_in i)) (sym is)
    at (File bytes) is = ap (λ (i : Item). length (entry_of (record { path = p.path; item = i })).refs) is ∙ length-map (chunks_of bytes) sealed_ref ∙ ap (λ (i : Item). length (pieces_in i)) (sym is)

-- ---- what the calls read

no_readings : (root : List ℕ) (fs : List Found) → AreReadings root fs []
no_readings root [] = refl
no_readings root (f ∷ fs) = ([], [], refl, none_at f.kind, no_readings root fs)
  where
    none_at : (k : EntryKind) → AreReadingsAt k (child root f.path) []
    none_at kind.Folder = refl
    none_at kind.File = All-nil (λ (call : FolderCall). call ≡ Reading (child root f.path))

readings_then : (root : List ℕ) (fs gs : List Found) (first second : List FolderCall) → AreReadings root fs first → AreReadings root gs second → AreReadings root (fs ++ gs) (first ++ second)
readings_then root [] gs first second none more = subst (λ (l : List FolderCall). AreReadings root gs (l ++ second)) (sym none) more
readings_then root (f ∷ fs) gs first second (here, rest, is, at, behind) more =
    (here, rest ++ second, ap (λ (l : List FolderCall). l ++ second) is ∙ append_assoc here rest second, at, readings_then root fs gs rest second behind more)

-- the file at a place was read
pub reads_file : (root path : List ℕ) (f : Found) (v0 v1 : FolderView) → f.kind ≡ kind.File → path ≡ child root f.path → Reads path v0 v1 → ReadsFiles root (f ∷ []) v0 v1
reads_file root path f v0 v1 file place r = record {
  calls = r.calls;
  tried = r.tried;
  readings = (
    r.calls,
    [],
    sym (append-nil r.calls),
    subst (λ (k : EntryKind). AreReadingsAt k (child root f.path) r.calls) (sym file) (subst (λ (at : List ℕ). All (λ (call : FolderCall). call ≡ Reading at) r.calls) place r.alone),
    refl,
  );
  no_fall = r.no_fall;
  content = r.content;
  tells = r.tells;
}

-- none was
pub files_none : (root : List ℕ) (fs : List Found) (v : FolderView) → ReadsFiles root fs v v
files_none root fs v = record { calls = []; tried = grows_none v.folder_calls; readings = no_readings root fs; no_fall = omega arith; content = λ tells. refl; tells = λ tells. tells }

pub files_then : (root : List ℕ) (fs gs : List Found) (v0 v1 v2 : FolderView) → ReadsFiles root fs v0 v1 → ReadsFiles root gs v1 v2 → ReadsFiles root (fs ++ gs) v0 v2
files_then root fs gs v0 v1 v2 first second = record {
  calls = first.calls ++ second.calls;
  tried = grows_then v0.folder_calls v1.folder_calls v2.folder_calls first.calls second.calls first.tried second.tried;
  readings = readings_then root fs gs first.calls second.calls first.readings second.readings;
  no_fall = omega (arith, first.no_fall, second.no_fall);
  content = λ tells. second.content tells ∙ first.content (second.tells tells);
  tells = λ tells. first.tells (second.tells tells);
}

-- those up to the next of what was found
pub files_further : (root : List ℕ) (fs : List Found) (i : ℕ) (f d : Found) (v0 v1 v2 : FolderView) → i < length fs → f ≡ get_or fs i d → ReadsFiles root (take i fs) v0 v1 → ReadsFiles root (f ∷ []) v1 v2 → ReadsFiles root (take (i + 1) fs) v0 v2
files_further root fs i f d v0 v1 v2 lt is first second =
    subst (λ (l : List Found). ReadsFiles root l v0 v2) (sym (take_more fs i d lt ∙ ap (λ (g : Found). take i fs ++ g ∷ []) (sym is))) (files_then root (take i fs) (f ∷ []) v0 v1 v2 first second)

-- and none behind them
pub files_up_to : (root : List ℕ) (fs : List Found) (i : ℕ) (v0 v1 : FolderView) → ReadsFiles root (take i fs) v0 v1 → ReadsFiles root fs v0 v1
files_up_to root fs i v0 v1 reads = subst (λ (l : List Found). ReadsFiles root l v0 v1) (take-append-drop i fs) (files_then root (take i fs) (drop i fs) v0 v1 v1 reads (files_none root (drop i fs) v1))

-- ---- one place

-- what is known of the file is known of the place where it was found
is_file : (root : List ℕ) (f : Found) (c : Content) (item : Item) → f.kind ≡ kind.File → IsOf f.kind item → IsReadAt c root f.path item → (bytes : List ℕ) × (item ≡ File bytes) × (found c (child root f.path) ≡ Some (AFile bytes))
is_file root f c item file of read =
    let is : (bytes : List ℕ) × (item ≡ File bytes) = subst (λ (k : EntryKind). IsOf k item) file of in
    (is.0, is.1, subst (IsReadAt c root f.path) is.1 read)

first_at : (content : Option Content) (root at : List ℕ) (f : Found) (pieces : List (List ℕ)) → f.kind ≡ kind.File → at ≡ child root f.path → AreFirst content at pieces → AreFirstAt content root f pieces
first_at content root at f pieces file place first c item told of read =
    let is = is_file root f c item file of read in
    subst (λ (i : Item). IsFront pieces (pieces_in i)) (sym is.1) (first c is.0 told (ap (found c) place ∙ is.2))

more_at : (content : Option Content) (root at : List ℕ) (f : Found) (most : ℕ) → f.kind ≡ kind.File → at ≡ child root f.path → HasMore content at most → HasMoreAt content root f most
more_at content root at f most file place more c item told of read =
    let is = is_file root f c item file of read in
    subst (λ (i : Item). most < length (pieces_in i)) (sym is.1) (more c is.0 told (ap (found c) place ∙ is.2))

none_at : (content : Option Content) (root : List ℕ) (f : Found) → AreFirstAt content root f []
none_at content root f c item told of read = (pieces_in item, refl)

-- a place that was kept, with its entry
abbrev pub KeepsPlace : {L : Type 0} → (L → List Entry → List ℕ → Type 0) → (List Entry → List ℕ → Type 0) → (L → ℕ) → (L → ℕ → Bool) → (L → Bool) → Node L → Node L → View → View → List ℕ → Found → FolderView → SkeletonEntry → Type 0
KeepsPlace holds stands size keeps broken old new before now root f v e =
    (p : Place) × (e ≡ entry_of p) × (p.path ≡ f.path) × IsOf f.kind p.item × IfSome v.content (λ c. IsReadAt c root p.path p.item) × KeepsSo holds stands size keeps broken old new before now (pieces_in p.item) AllKept

module _ {L : Type 0} (holds : L → List Entry → List ℕ → Type 0) (stands : List Entry → List ℕ → Type 0) (size : L → ℕ) (keeps : L → ℕ → Bool) (broken : L → Bool) (law : (log : L) (es : List Entry) (c : List ℕ) → holds log es c → stands es c) where
  pub folder_kept : (node : Node L) (v : View) (root : List ℕ) (f : Found) (w : FolderView) (path : List ℕ) (refs : List Ref) → IsUp holds size keeps broken node v → f.kind ≡ kind.Folder → path ≡ f.path → refs ≡ []
      → KeepsPlace holds stands size keeps broken node node v v root f w (record { path = path; kind = kind.Folder; size = 0; refs = refs })
  folder_kept node v root f w path refs up folder place none = (
    record { path = path; item = Folder },
    λ i. record { path = path; kind = kind.Folder; size = 0; refs = none i },
    place,
    subst (λ (k : EntryKind). IsOf k Folder) (sym folder) refl,
    if_some w.content (λ c. IsReadAt c root path Folder) (λ c told. tt),
    so_none holds stands size keeps broken law node v up,
  )

  pub file_kept : (n0 n1 : Node L) (v0 v1 : View) (root : List ℕ) (f : Found) (w : FolderView) (path at : List ℕ) (bytes_in : ℕ) (refs : List Ref) → f.kind ≡ kind.File → path ≡ f.path → at ≡ child root path → bytes_in ≡ total refs
      → (bytes : List ℕ) × (refs ≡ refs_of_text bytes) × IsFile w.content at bytes × KeepsSo holds stands size keeps broken n0 n1 v0 v1 (chunks_of bytes) AllKept
      → KeepsPlace holds stands size keeps broken n0 n1 v0 v1 root f w (record { path = path; kind = kind.File; size = bytes_in; refs = refs })
  file_kept n0 n1 v0 v1 root f w path at bytes_in refs file place there sum kept = (
    record { path = path; item = File kept.0 },
    file_entry path kept.0 bytes_in refs kept.1 sum,
    place,
    subst (λ (k : EntryKind). IsOf k (File kept.0)) (sym file) (kept.0, refl),
    subst (λ (l : List ℕ). IfSome w.content (λ c. found c l ≡ Some (AFile kept.0))) there kept.2,
    kept.3,
  )

  -- nothing was tried
  pub place_untried : (node : Node L) (v : View) (root : List ℕ) (f : Found) (w : FolderView) (room : ℕ) (e : BackupFault) → IsLeft e → (pieces : List (List ℕ)) × AreFirstAt w.content root f pieces × (length pieces ≤ room) × KeepsSo holds stands size keeps broken node node v v pieces (StoppedFor e)
  place_untried node v root f w room e left = ([], none_at w.content root f, omega arith, so_untried holds stands size keeps broken law node v [] e left)

  pub place_stopped : (n0 n1 : Node L) (v0 v1 : View) (root : List ℕ) (f : Found) (w : FolderView) (at : List ℕ) (room : ℕ) (e : BackupFault) → f.kind ≡ kind.File → at ≡ child root f.path
      → (pieces : List (List ℕ)) × AreFirst w.content at pieces × (length pieces ≤ room) × KeepsSo holds stands size keeps broken n0 n1 v0 v1 pieces (StoppedFor e)
      → (pieces : List (List ℕ)) × AreFirstAt w.content root f pieces × (length pieces ≤ room) × KeepsSo holds stands size keeps broken n0 n1 v0 v1 pieces (StoppedFor e)
  place_stopped n0 n1 v0 v1 root f w at room e file there stopped = (stopped.0, first_at w.content root at f stopped.0 file there stopped.1, stopped.2, stopped.3)

-- ---- places of one list that was found

-- two items of one kind that were read at one path are one
one_item : (c : Content) (root path : List ℕ) (k : EntryKind) (a b : Item) → IsOf k a → IsOf k b → IsReadAt c root path a → IsReadAt c root path b → a ≡ b
one_item c root path kind.Folder a b of of' read read' = of ∙ sym of'
one_item c root path kind.File a b of of' read read' =
    let one : found c (child root path) ≡ Some (AFile of.0) = subst (IsReadAt c root path) of.1 read in
    let two : found c (child root path) ≡ Some (AFile of'.0) = subst (IsReadAt c root path) of'.1 read' in
    let same : AFile of.0 ≡ AFile of'.0 = same_some (found c (child root path)) (AFile of.0) (AFile of'.0) one two in
    let bytes : of.0 ≡ of'.0 = cc (same) in
    of.1 ∙ ap (λ (l : List ℕ). File l) bytes ∙ sym of'.1

-- what was read of the first of them stands in front
begin_alike : (c : Content) (root : List ℕ) (fs gs : List Found) (ps qs : List Place) → AreOf fs ps → AreRead c root ps → AreOf (fs ++ gs) qs → AreRead c root qs
    → (rest : List Place) × (pieces_of_files qs ≡ pieces_of_files ps ++ pieces_of_files rest) × AreOf gs rest × AreRead c root rest
begin_alike c root [] gs [] qs of read of' read' = (qs, refl, of', read')
begin_alike c root [] gs (p ∷ ps) qs of read of' read' = absurd of
begin_alike c root (f ∷ fs) gs [] qs of read of' read' = absurd of
begin_alike c root (f ∷ fs) gs (p ∷ ps) [] of read of' read' = absurd of'
begin_alike c root (f ∷ fs) gs (p ∷ ps) (q ∷ qs) of read of' read' =
    let r = begin_alike c root fs gs ps qs of.2 read.1 of'.2 read'.1 in
    let here : IsReadAt c root f.path p.item = subst (λ (path : List ℕ). IsReadAt c root path p.item) of.0 read.0 in
    let there : IsReadAt c root f.path q.item = subst (λ (path : List ℕ). IsReadAt c root path q.item) of'.0 read'.0 in
    let same : q.item ≡ p.item = one_item c root f.path f.kind q.item p.item of'.1 of.1 there here in (
      r.0,
      ap (λ (i : Item). pieces_in i ++ pieces_of_files qs) same ∙ ap (λ (l : List (List ℕ)). pieces_in p.item ++ l) r.1 ∙ sym (append_assoc (pieces_in p.item) (pieces_of_files ps) (pieces_of_files r.0)),
      r.2,
      r.3,
    )

-- and behind them one more
first_of : (c : Content) (root : List ℕ) (f : Found) (gs : List Found) (rest : List Place) → AreOf (f ∷ gs) rest → AreRead c root rest
    → (q : Place) × (more : List Place) × (pieces_of_files rest ≡ pieces_in q.item ++ pieces_of_files more) × IsOf f.kind q.item × IsReadAt c root f.path q.item
first_of c root f gs [] of read = absurd of
first_of c root f gs (q ∷ more) of read = (q, more, refl, of.1, subst (λ (path : List ℕ). IsReadAt c root path q.item) of.0 read.0)

next_alike : (c : Content) (root : List ℕ) (fs gs : List Found) (f : Found) (ps qs : List Place) → AreOf fs ps → AreRead c root ps → AreOf (fs ++ f ∷ gs) qs → AreRead c root qs
    → (q : Place) × (more : List Place) × (pieces_of_files qs ≡ pieces_of_files ps ++ (pieces_in q.item ++ pieces_of_files more)) × IsOf f.kind q.item × IsReadAt c root f.path q.item
next_alike c root fs gs f ps qs of read of' read' =
    let r = begin_alike c root fs (f ∷ gs) ps qs of read of' read' in
    let first = first_of c root f gs r.0 r.2 r.3 in
    (first.0, first.1, r.1 ∙ ap (λ (l : List (List ℕ)). pieces_of_files ps ++ l) first.2, first.3, first.4)

of_append : (fs gs : List Found) (ps qs : List Place) → AreOf fs ps → AreOf gs qs → AreOf (fs ++ gs) (ps ++ qs)
of_append [] gs [] qs of of' = of'
of_append [] gs (p ∷ ps) qs of of' = absurd of
of_append (f ∷ fs) gs [] qs of of' = absurd of
of_append (f ∷ fs) gs (p ∷ ps) qs of of' = (of.0, of.1, of_append fs gs ps qs of.2 of')

read_append : (c : Content) (root : List ℕ) (ps qs : List Place) → AreRead c root ps → AreRead c root qs → AreRead c root (ps ++ qs)
read_append c root [] qs read read' = read'
read_append c root (p ∷ ps) qs read read' = (read.0, read_append c root ps qs read.1 read')

pieces_more : (ps : List Place) (p : Place) → pieces_of_files (ps ++ p ∷ []) ≡ pieces_of_files ps ++ pieces_in p.item
pieces_more [] p = append-nil (pieces_in p.item)
pieces_more (q ∷ ps) p = ap (λ (l : List (List ℕ)). pieces_in q.item ++ l) (pieces_more ps p) ∙ sym (append_assoc (pieces_in q.item) (pieces_of_files ps) (pieces_in p.item))

-- ---- the next entry

-- some places of what was found
abbrev item_for : EntryKind → Item
item_for kind.Folder = Folder
item_for kind.File = File []

abbrev places_for : List Found → List Place
places_for [] = []
places_for (f ∷ fs) = record { path = f.path; item = item_for f.kind } ∷ places_for fs

is_for : (k : EntryKind) → IsOf k (item_for k)
is_for kind.Folder = refl
is_for kind.File = ([], refl)

are_for : (fs : List Found) → AreOf fs (places_for fs)
are_for [] = tt
are_for (f ∷ fs) = (refl, is_for f.kind, are_for fs)

-- it may stand behind those so far
fits_next : (fs gs : List Found) (f : Found) (ps : List Place) (p : Place) → AreFound (fs ++ f ∷ gs) → AreOf fs ps → p.path ≡ f.path → IsOf f.kind p.item → fits_behind (map entry_of ps) (entry_of p) ≡ true
fits_next fs gs f ps p are of same is =
    fits ps (places_for gs) p (in_place (fs ++ f ∷ gs) (ps ++ p ∷ places_for gs) are (of_append fs (f ∷ gs) ps (p ∷ places_for gs) of (same, is, are_for gs)))

-- ---- those so far

-- those up to one, and those behind it
one_further : (fs : List Found) (i : ℕ) (f d : Found) → i < length fs → f ≡ get_or fs i d → take (i + 1) fs ≡ take i fs ++ f ∷ []
one_further fs i f d lt is = take_more fs i d lt ∙ ap (λ (g : Found). take i fs ++ g ∷ []) (sym is)

pub around : (fs : List Found) (i : ℕ) (f d : Found) → i < length fs → f ≡ get_or fs i d → fs ≡ take i fs ++ f ∷ drop (i + 1) fs
around fs i f d lt is =
    sym (take-append-drop (i + 1) fs) ∙ ap (λ (l : List Found). l ++ drop (i + 1) fs) (one_further fs i f d lt is) ∙ append_assoc (take i fs) (f ∷ []) (drop (i + 1) fs)

-- the first of those that were found are kept, and these are their entries
pub record KeepsPlaces {L : Type 0} (holds : L → List Entry → List ℕ → Type 0) (stands : List Entry → List ℕ → Type 0) (size : L → ℕ) (keeps : L → ℕ → Bool) (broken : L → Bool) (old new : Node L) (before now : View) (root : List ℕ) (fs : List Found) (v : FolderView) (entries : List SkeletonEntry) (had room : ℕ) : Type 0 where
  pub places : List Place
  pub are : entries ≡ skeleton_of_tree places
  pub of : AreOf fs places
  pub read : IfSome v.content (λ c. AreRead c root places)
  pub kept : KeepsSo holds stands size keeps broken old new before now (pieces_of_files places) AllKept
  pub left : room + length (pieces_of_files places) ≡ had

module _ {L : Type 0} (holds : L → List Entry → List ℕ → Type 0) (stands : List Entry → List ℕ → Type 0) (size : L → ℕ) (keeps : L → ℕ → Bool) (broken : L → Bool) (law : (log : L) (es : List Entry) (c : List ℕ) → holds log es c → stands es c) where
  pub places_start : (node : Node L) (v : View) (root : List ℕ) (w : FolderView) (entries : List SkeletonEntry) (room : ℕ) → IsUp holds size keeps broken node v → entries ≡ [] → KeepsPlaces holds stands size keeps broken node node v v root [] w entries room room
  places_start node v root w entries room up none = record {
    places = [];
    are = none;
    of = tt;
    read = if_some w.content (λ c. AreRead c root []) (λ c told. tt);
    kept = so_none holds stands size keeps broken law node v up;
    left = omega arith;
  }

  -- one more was kept
  places_then : (n0 n1 n2 : Node L) (v0 v1 v2 : View) (root : List ℕ) (fs : List Found) (f : Found) (w1 w2 : FolderView) (entries now : List SkeletonEntry) (e : SkeletonEntry) (had room left : ℕ) → KeepsPlaces holds stands size keeps broken n0 n1 v0 v1 root fs w1 entries had room
      → (Tells_content w2 → w2.content ≡ w1.content) → KeepsPlace holds stands size keeps broken n1 n2 v1 v2 root f w2 e → left + length e.refs ≡ room → now ≡ entries ++ e ∷ [] → KeepsPlaces holds stands size keeps broken n0 n2 v0 v2 root (fs ++ f ∷ []) w2 now had left
  places_then n0 n1 n2 v0 v1 v2 root fs f w1 w2 entries now e had room left k same (p, is, path, of, read, more) fewer pushed =
      let all = k.places ++ p ∷ [] in
      record {
        places = all;
        are = pushed ∙ ap (λ (l : List SkeletonEntry). l ++ e ∷ []) k.are ∙ ap (λ (x : SkeletonEntry). skeleton_of_tree k.places ++ x ∷ []) is ∙ sym (map-append entry_of k.places (p ∷ []));
        of = of_append fs (f ∷ []) k.places (p ∷ []) k.of (path, of, tt);
        read =
            if_some w2.content (λ c. AreRead c root all) (λ c told.
            read_append c root k.places (p ∷ []) (at_some w1.content (λ c. AreRead c root k.places) c k.read (told_before w1.content w2.content same c told)) (at_some w2.content (λ c. IsReadAt c root p.path p.item) c read told, tt));
        kept = subst (λ (l : List (List ℕ)). KeepsSo holds stands size keeps broken n0 n2 v0 v2 l AllKept) (sym (pieces_more k.places p)) (so_then holds stands size keeps broken law n0 n1 n2 v0 v1 v2 (pieces_of_files k.places) (pieces_in p.item) AllKept k.kept more);
        left = omega (arith, k.left, fewer, ap (λ (x : SkeletonEntry). length x.refs) is, refs_in p, ap length (pieces_more k.places p), length-append (pieces_of_files k.places) (pieces_in p.item));
      }

  -- its entry may stand behind theirs
  pub places_fit : (n0 n1 n2 : Node L) (v0 v1 v2 : View) (root : List ℕ) (fs gs : List Found) (f : Found) (w1 w2 : FolderView) (entries : List SkeletonEntry) (e : SkeletonEntry) (had room : ℕ) → KeepsPlaces holds stands size keeps broken n0 n1 v0 v1 root fs w1 entries had room
      → AreFound (fs ++ f ∷ gs) → KeepsPlace holds stands size keeps broken n1 n2 v1 v2 root f w2 e → fits_behind entries e ≡ true
  places_fit n0 n1 n2 v0 v1 v2 root fs gs f w1 w2 entries e had room k are (p, is, path, of, read, more) =
      subst (λ (l : List SkeletonEntry). fits_behind l e ≡ true) (sym k.are) (subst (λ (x : SkeletonEntry). fits_behind (skeleton_of_tree k.places) x ≡ true) (sym is) (fits_next fs gs f k.places p are k.of path of))

  -- nothing was tried
  pub places_untried : (node : Node L) (v : View) (root : List ℕ) (fs : List Found) (w : FolderView) (room : ℕ) (e : BackupFault) → IsLeft e → (pieces : List (List ℕ)) × AreFirstIn w.content root fs pieces × (length pieces ≤ room) × KeepsSo holds stands size keeps broken node node v v pieces (StoppedFor e)
  places_untried node v root fs w room e left = ([], λ c qs told of read. (pieces_of_files qs, refl), omega arith, so_untried holds stands size keeps broken law node v [] e left)

  -- those so far were kept, and no more
  places_cut : (n0 n1 : Node L) (v0 v1 : View) (root : List ℕ) (fs gs : List Found) (w : FolderView) (entries : List SkeletonEntry) (had room : ℕ) (e : BackupFault) → IsLeft e → KeepsPlaces holds stands size keeps broken n0 n1 v0 v1 root fs w entries had room
      → (pieces : List (List ℕ)) × AreFirstIn w.content root (fs ++ gs) pieces × (length pieces ≤ had) × KeepsSo holds stands size keeps broken n0 n1 v0 v1 pieces (StoppedFor e)
  places_cut n0 n1 v0 v1 root fs gs w entries had room e left k = (
    pieces_of_files k.places,
    λ c qs told of read.
        let r = begin_alike c root fs gs k.places qs k.of (at_some w.content (λ c. AreRead c root k.places) c k.read told) of read in
        (pieces_of_files r.0, r.1),
    omega (arith, k.left),
    so_cut holds stands size keeps broken law n0 n1 v0 v1 (pieces_of_files k.places) e left k.kept,
  )

  -- the next one was not kept, or not all of it
  pub places_stopped : (n0 n1 n2 : Node L) (v0 v1 v2 : View) (root : List ℕ) (fs gs : List Found) (f : Found) (w1 w2 : FolderView) (entries : List SkeletonEntry) (had room : ℕ) (e : BackupFault) → KeepsPlaces holds stands size keeps broken n0 n1 v0 v1 root fs w1 entries had room
      → (Tells_content w2 → w2.content ≡ w1.content) → (pieces : List (List ℕ)) × AreFirstAt w2.content root f pieces × (length pieces ≤ room) × KeepsSo holds stands size keeps broken n1 n2 v1 v2 pieces (StoppedFor e)
      → (pieces : List (List ℕ)) × AreFirstIn w2.content root (fs ++ f ∷ gs) pieces × (length pieces ≤ had) × KeepsSo holds stands size keeps broken n0 n2 v0 v2 pieces (StoppedFor e)
  places_stopped n0 n1 n2 v0 v1 v2 root fs gs f w1 w2 entries had room e k same (pieces, first, few, stopped) = (
    pieces_of_files k.places ++ pieces,
    λ c qs told of read.
        let r = next_alike c root fs gs f k.places qs k.of (at_some w1.content (λ c. AreRead c root k.places) c k.read (told_before w1.content w2.content same c told)) of read in
        let front = first c r.0.item told r.3 r.4 in (
          front.0 ++ pieces_of_files r.1,
          r.2
              ∙ ap (λ (l : List (List ℕ)). pieces_of_files k.places ++ (l ++ pieces_of_files r.1)) front.1
              ∙ ap (λ (l : List (List ℕ)). pieces_of_files k.places ++ l) (append_assoc pieces front.0 (pieces_of_files r.1))
              ∙ sym (append_assoc (pieces_of_files k.places) pieces (front.0 ++ pieces_of_files r.1)),
        ),
    omega (arith, few, k.left, length-append (pieces_of_files k.places) pieces),
    so_then holds stands size keeps broken law n0 n1 n2 v0 v1 v2 (pieces_of_files k.places) pieces (StoppedFor e) k.kept stopped,
  )

  pub places_too_large : (n0 n1 : Node L) (v0 v1 : View) (root : List ℕ) (fs gs : List Found) (f : Found) (w1 w2 : FolderView) (entries : List SkeletonEntry) (had room : ℕ) → KeepsPlaces holds stands size keeps broken n0 n1 v0 v1 root fs w1 entries had room
      → (Tells_content w2 → w2.content ≡ w1.content) → HasMoreAt w2.content root f room → HasMoreIn w2.content root (fs ++ f ∷ gs) had
  places_too_large n0 n1 v0 v1 root fs gs f w1 w2 entries had room k same more c qs told of read =
      let r = next_alike c root fs gs f k.places qs k.of (at_some w1.content (λ c. AreRead c root k.places) c k.read (told_before w1.content w2.content same c told)) of read in
      omega (arith, more c r.0.item told r.3 r.4, k.left, ap length r.2, length-append (pieces_of_files k.places) (pieces_in r.0.item ++ pieces_of_files r.1), length-append (pieces_in r.0.item) (pieces_of_files r.1))

  -- all were kept
  pub places_all : (n0 n1 : Node L) (v0 v1 : View) (root : List ℕ) (fs : List Found) (w : FolderView) (entries : List SkeletonEntry) (had room : ℕ) → KeepsPlaces holds stands size keeps broken n0 n1 v0 v1 root fs w entries had room
      → (places : List Place) × (entries ≡ skeleton_of_tree places) × AreOf fs places × IfSome w.content (λ c. AreRead c root places) × KeepsSo holds stands size keeps broken n0 n1 v0 v1 (pieces_of_files places) AllKept
  places_all n0 n1 v0 v1 root fs w entries had room k = (k.places, k.are, k.of, k.read, k.kept)

-- ---- by the index

module _ {L : Type 0} (holds : L → List Entry → List ℕ → Type 0) (stands : List Entry → List ℕ → Type 0) (size : L → ℕ) (keeps : L → ℕ → Bool) (broken : L → Bool) (law : (log : L) (es : List Entry) (c : List ℕ) → holds log es c → stands es c) where
  pub places_further : (n0 n1 n2 : Node L) (v0 v1 v2 : View) (root : List ℕ) (fs : List Found) (i : ℕ) (f d : Found) (w1 w2 : FolderView) (entries now : List SkeletonEntry) (e : SkeletonEntry) (had room left : ℕ) → i < length fs → f ≡ get_or fs i d → KeepsPlaces holds stands size keeps broken n0 n1 v0 v1 root (take i fs) w1 entries had room
      → (Tells_content w2 → w2.content ≡ w1.content) → KeepsPlace holds stands size keeps broken n1 n2 v1 v2 root f w2 e → left + length e.refs ≡ room → now ≡ entries ++ e ∷ [] → KeepsPlaces holds stands size keeps broken n0 n2 v0 v2 root (take (i + 1) fs) w2 now had left
  places_further n0 n1 n2 v0 v1 v2 root fs i f d w1 w2 entries now e had room left lt is k same kept fewer pushed =
      subst (λ (l : List Found). KeepsPlaces holds stands size keeps broken n0 n2 v0 v2 root l w2 now had left) (sym (one_further fs i f d lt is)) (places_then holds stands size keeps broken law n0 n1 n2 v0 v1 v2 root (take i fs) f w1 w2 entries now e had room left k same kept fewer pushed)

  pub places_cut_at : (n0 n1 : Node L) (v0 v1 : View) (root : List ℕ) (fs : List Found) (i : ℕ) (w : FolderView) (entries : List SkeletonEntry) (had room : ℕ) (e : BackupFault) → IsLeft e → KeepsPlaces holds stands size keeps broken n0 n1 v0 v1 root (take i fs) w entries had room
      → (pieces : List (List ℕ)) × AreFirstIn w.content root fs pieces × (length pieces ≤ had) × KeepsSo holds stands size keeps broken n0 n1 v0 v1 pieces (StoppedFor e)
  places_cut_at n0 n1 v0 v1 root fs i w entries had room e left k =
      subst (λ (l : List Found). (pieces : List (List ℕ)) × AreFirstIn w.content root l pieces × (length pieces ≤ had) × KeepsSo holds stands size keeps broken n0 n1 v0 v1 pieces (StoppedFor e)) (take-append-drop i fs) (places_cut holds stands size keeps broken law n0 n1 v0 v1 root (take i fs) (drop i fs) w entries had room e left k)
