-- The note of a tree, by its skeleton.
use Rattle.std.proofs.Common.{◌≡◌, ℕ, suc, ◌+◌, ◌≤◌, true, ◌||◌, List, [], ◌∷◌, ◌++◌, length, map, sum_by, Option, Some, None, refl, sym, ◌∙◌, ap, subst, arith, length-append}
use Rattle.std.proofs.lemmas.List.{length-map, map-append}
use Rattle.std.proofs.lemmas.List.Sums.{sum_by-cons}
use Rattle.psb_bytes.specs.declared.ids.Ref.{Ref}
use Rattle.psb_model.specs.Words.{name_listed}
use Rattle.psb_model.specs.Conditions.{names_ascend}
use Rattle.psb_machine.specs.declared.snap_note.SnapNote.{SnapNote}
use Rattle.convergent_seal.specs.Sealing.{sealed_ref}
use Rattle.skeleton.specs.declared.entry.Entry.{Entry}
use Rattle.skeleton.specs.declared.limits.TheConstants.{MOST_TEXT_BYTES}
use Rattle.skeleton.specs.Texts.{skeleton_text, refs_text}
use Rattle.snapshots.specs.Counts.{one_file, one_folder, its_bytes}
use Rattle.snapshots.specs.Meaning.{Item, Folder, File, Place, refs_in}
use Rattle.snapshots.specs.Tickets.{chunks_of, refs_of_text, one_of, ticket_from, most_levels, entry_of, skeleton_of_tree}
use Rattle.snapshots.proofs.Levels.{count_few, next_long}
use Rattle.snapshot_backup.specs.Backed.{Notes}
use Rattle.snapshot_backup.specs.Course.{pieces_in, pieces_of_files, pieces_of_levels, pieces_of}
use Rattle.snapshot_backup.specs.Kept.{names_of}
use Rattle.snapshot_backup.specs.Naming.{names_in}
use Rattle.snapshot_backup.specs.Runs.{most_refs}
use Rattle.snapshot_backup.proofs.LevelParts.{refs_named, named_both}

-- ---- the counts of a tree

sums_of : (f : Entry → ℕ) (g : Place → ℕ) → ((p : Place) → f (entry_of p) ≡ g p) → (ps : List Place) → sum_by f (skeleton_of_tree ps) ≡ sum_by g ps
sums_of f g each [] = refl
sums_of f g each (p ∷ ps) =
    let a : sum_by f (skeleton_of_tree (p ∷ ps)) ≡ f (entry_of p) + sum_by f (skeleton_of_tree ps) = sum_by-cons f (entry_of p) (skeleton_of_tree ps) in
    let b : sum_by g (p ∷ ps) ≡ g p + sum_by g ps = sum_by-cons g p ps in
    omega (arith, a, b, each p, sums_of f g each ps)

file_is : (p : Place) → one_file (entry_of p) ≡ elim p.item [ Folder ↦ 0 | File bytes ↦ 1 ]
file_is p = at p.item
  where
    at : (item : Item) → one_file (entry_of (record { path = p.path; item = item })) ≡ elim item [ Folder ↦ 0 | File bytes ↦ 1 ]
    at Folder = refl
    at (File bytes) = refl

folder_is : (p : Place) → one_folder (entry_of p) ≡ elim p.item [ Folder ↦ 1 | File bytes ↦ 0 ]
folder_is p = at p.item
  where
    at : (item : Item) → one_folder (entry_of (record { path = p.path; item = item })) ≡ elim item [ Folder ↦ 1 | File bytes ↦ 0 ]
    at Folder = refl
    at (File bytes) = refl

bytes_are : (p : Place) → its_bytes (entry_of p) ≡ elim p.item [ Folder ↦ 0 | File bytes ↦ length bytes ]
bytes_are p = at p.item
  where
    at : (item : Item) → its_bytes (entry_of (record { path = p.path; item = item })) ≡ elim item [ Folder ↦ 0 | File bytes ↦ length bytes ]
    at Folder = refl
    at (File bytes) = refl

-- ---- its names

refs_of_item : (p : Place) → (entry_of p).refs ≡ map sealed_ref (pieces_in p.item)
refs_of_item p = at p.item
  where
    at : (item : Item) → (entry_of (record { path = p.path; item = item })).refs ≡ map sealed_ref (pieces_in item)
    at Folder = refl
    at (File bytes) = refl

refs_of_tree : (ps : List Place) → refs_in (skeleton_of_tree ps) ≡ map sealed_ref (pieces_of_files ps)
refs_of_tree [] = refl
refs_of_tree (p ∷ ps) =
    ap (λ (l : List Ref). l ++ refs_in (skeleton_of_tree ps)) (refs_of_item p)
    ∙ ap (λ (l : List Ref). map sealed_ref (pieces_in p.item) ++ l) (refs_of_tree ps)
    ∙ sym (map-append sealed_ref (pieces_in p.item) (pieces_of_files ps))

names_of_tree : (ps : List Place) (q : List ℕ) → (name_listed (names_in (refs_in (skeleton_of_tree ps))) q || name_listed (names_of (pieces_of_levels most_levels (skeleton_text (skeleton_of_tree ps)))) q) ≡ name_listed (names_of (pieces_of ps)) q
names_of_tree ps q =
    let levels = pieces_of_levels most_levels (skeleton_text (skeleton_of_tree ps)) in
    ap (λ (l : List (List ℕ)). name_listed l q || name_listed (names_of levels) q) (ap names_in (refs_of_tree ps) ∙ refs_named (pieces_of_files ps))
    ∙ sym (named_both (pieces_of_files ps) levels q)

-- ---- the note

pub noted : (s : List Entry) (note : SnapNote) → ticket_from most_levels (skeleton_text s) ≡ Some note.ticket → note.files ≡ sum_by one_file s → note.folders ≡ sum_by one_folder s → note.bytes ≡ sum_by its_bytes s
    → names_ascend note.names ≡ true → ((q : List ℕ) → name_listed note.names q ≡ (name_listed (names_in (refs_in s)) q || name_listed (names_of (pieces_of_levels most_levels (skeleton_text s))) q))
    → (places : List Place) → s ≡ skeleton_of_tree places → Notes places note
noted s note ticket files folders bytes ascend names places is = record {
  ticket = subst (λ (t : List Entry). ticket_from most_levels (skeleton_text t) ≡ Some note.ticket) is ticket;
  files = files ∙ ap (sum_by one_file) is ∙ sums_of one_file _ file_is places;
  folders = folders ∙ ap (sum_by one_folder) is ∙ sums_of one_folder _ folder_is places;
  bytes = bytes ∙ ap (sum_by its_bytes) is ∙ sums_of its_bytes _ bytes_are places;
  ascend = ascend;
  names = λ q.
      names q ∙ ap (λ (t : List Entry). name_listed (names_in (refs_in t)) q || name_listed (names_of (pieces_of_levels most_levels (skeleton_text t))) q) is ∙ names_of_tree places q;
}

-- ---- how many names it has at most

pieces_are : (text : List ℕ) → length (chunks_of text) ≡ length (refs_of_text text)
pieces_are text = sym (length-map (chunks_of text) sealed_ref)

more_pieces : (most : ℕ) (text : List ℕ) → length (pieces_of_levels (suc most) text) ≤ length (refs_of_text text) + length (pieces_of_levels most (refs_text (refs_of_text text)))
more_pieces most text = at (one_of (refs_of_text text))
  where
    at : (o : Option Ref) → length (chunks_of text ++ elim o [ Some r ↦ [] | None ↦ pieces_of_levels most (refs_text (refs_of_text text)) ]) ≤ length (refs_of_text text) + length (pieces_of_levels most (refs_text (refs_of_text text)))
    at (Some r) = omega (arith, pieces_are text, length-append (chunks_of text) [])
    at None = omega (arith, pieces_are text, length-append (chunks_of text) (pieces_of_levels most (refs_text (refs_of_text text))))

above_of : List ℕ → List ℕ
above_of text = refs_text (refs_of_text text)

few_pieces : (text : List ℕ) → length text ≤ MOST_TEXT_BYTES → length (pieces_of_levels most_levels text) ≤ 33901
unfolding above_of
few_pieces text short =
    let a = above_of text in
    let b = above_of a in
    let c = above_of b in
    let d = above_of c in
    omega (arith, short, more_pieces 3 text, more_pieces 2 a, more_pieces 1 b, more_pieces 0 c, pieces_are d, next_long text, count_few text, next_long a, count_few a, next_long b, count_few b, next_long c, count_few c, count_few d)

pub few_names : (text : List ℕ) (refs first all : ℕ) → length text ≤ MOST_TEXT_BYTES → refs ≤ most_refs → first ≤ refs → all ≤ first + length (pieces_of_levels most_levels text) → all ≤ 1048576
few_names text refs first all short few are is = omega (arith, few_pieces text short, few, are, is)
