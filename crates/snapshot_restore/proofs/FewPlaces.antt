-- How many places a ticket has at most.
use Rattle.std.proofs.Common.{◌≡◌, ⊎_elim, ℕ, zero, suc, ◌+◌, ◌*◌, ◌≤◌, true, List, [], ◌∷◌, length, IsTrue, refl, sym, ◌∙◌, ap, arith, length-append}
use Rattle.std.proofs.lemmas.Bool.{and_parts, leb-true}
use Rattle.std.proofs.lemmas.List.Sums.{sum_by-cons}
use Rattle.std.specs.List.{list_all}
use Rattle.psb_bytes.specs.declared.ids.Ref.{Ref}
use Rattle.skeleton.specs.declared.entry.Entry.{Entry}
use Rattle.skeleton.specs.declared.entry.EntryKind.{EntryKind}
use Rattle.skeleton.specs.declared.entry.EntryKind.TheVariants as kind
use Rattle.skeleton.specs.declared.limits.TheConstants.{MOST_TEXT_BYTES}
use Rattle.skeleton.specs.Entries.{is_ref, has_digests, has_chunk_len, total}
use Rattle.skeleton.proofs.TextLaws.{skeleton_has_text}
use Rattle.snapshots.specs.Meaning.{refs_in}
use Rattle.snapshots.proofs.GotReads.{skeleton_text_short}
use Rattle.snapshots.proofs.SkeletonCounts.{text_long}
use Rattle.snapshot_restore.specs.Taken.{Taken, taken_refs}
use Rattle.snapshot_restore.specs.Reading.{IsRead, AreFirst, IsTextRead, IsInText, refs_of_entry, refs_of_files}
use Rattle.snapshot_restore.specs.FewPlaces.{TextsHaveFewPlaces, FilesHaveFewPlaces}

-- each ref of a list has a length of a byte at least
few_by_len : (refs : List Ref) → list_all is_ref refs ≡ true → length refs ≤ total refs
few_by_len [] all = omega arith
few_by_len (r ∷ refs) all =
    let both = and_parts (is_ref r) (list_all is_ref refs) all in
    let len = and_parts (has_digests r) (has_chunk_len r) both.0 in
    let some : 1 ≤ r.len = leb-true _ _ (and_parts _ _ len.1).0 in
    omega (arith, some, few_by_len refs both.1, sum_by-cons (λ (x : Ref). x.len) r refs)

many_taken : (ts : List Taken) → length (taken_refs ts) ≡ length ts
many_taken [] = refl
many_taken (t ∷ ts) = omega (arith, many_taken ts)

all_taken : (refs : List Ref) (ts : List Taken) → IsRead refs ts → length ts ≡ length refs
all_taken refs ts read = sym (many_taken ts) ∙ ap (λ (l : List Ref). length l) read.places

first_taken : (refs : List Ref) (ts : List Taken) (next : List Ref) → AreFirst refs ts next → length ts + length next ≡ length refs
first_taken refs ts next first = omega (arith, many_taken ts, length-append (taken_refs ts) next, ap (λ (l : List Ref). length l) first.places)

-- a text that was read, or is being read, is short enough
read_fits : (levels : ℕ) (refs : List Ref) (ts : List Taken) (text : List ℕ) → IsTextRead levels refs ts text → total refs ≤ MOST_TEXT_BYTES
read_fits zero refs ts text r = r.0.fits
read_fits (suc levels) refs ts text r = r.4.all.fits

inside_fits : (levels : ℕ) (refs : List Ref) (ts : List Taken) (next : List Ref) → IsInText levels refs ts next → total refs ≤ MOST_TEXT_BYTES
inside_fits zero refs ts next r = r.fits
inside_fits (suc levels) refs ts next r = ⊎_elim (λ first. first.fits) (λ m. m.4.all.fits) r

-- a list names so many at most
few_listed : (next : List Ref) → IsTrue (list_all is_ref next) → total next ≤ MOST_TEXT_BYTES → length next ≤ MOST_TEXT_BYTES
few_listed next all fits = omega (arith, few_by_len next all, fits)

few_read : (levels most : ℕ) (refs : List Ref) (ts : List Taken) (text : List ℕ) → length refs ≤ most → IsTextRead levels refs ts text → length ts ≤ most + levels * MOST_TEXT_BYTES
few_read zero most refs ts text few r = omega (arith, few, all_taken refs ts r.0)
few_read (suc levels) most refs ts text few r =
    let behind = few_read levels MOST_TEXT_BYTES r.2 r.1 text (few_listed r.2 r.4.valid (read_fits levels r.2 r.1 text r.5)) r.5 in
    omega (arith, few, all_taken refs r.0 r.4.all, behind, length-append r.0 r.1, ap (λ (l : List Taken). length l) r.3)

few_inside : (levels most : ℕ) (refs : List Ref) (ts : List Taken) (next : List Ref) → length refs ≤ most → IsInText levels refs ts next → length ts + length next ≤ most + levels * MOST_TEXT_BYTES
few_inside zero most refs ts next few r = omega (arith, few, first_taken refs ts next r)
few_inside (suc levels) most refs ts next few r =
    ⊎_elim
    (λ first. omega (arith, few, first_taken refs ts next first))
    (λ m.
    let behind = few_inside levels MOST_TEXT_BYTES m.2 m.1 next (few_listed m.2 m.4.valid (inside_fits levels m.2 m.1 next m.5)) m.5 in
    omega (arith, few, all_taken refs m.0 m.4.all, behind, length-append m.0 m.1, ap (λ (l : List Taken). length l) m.3))
    r

pub texts_have_few : TextsHaveFewPlaces
texts_have_few = record {
  read = λ t ts text r. few_read t.levels 1 (t.reference ∷ []) ts text (omega arith) r;
  inside = λ t ts next r. few_inside t.levels 1 (t.reference ∷ []) ts next (omega arith) r;
}

-- the files have no more places than all entries have refs
few_in_files : (entries : List Entry) → length (refs_of_files entries) ≤ length (refs_in entries)
few_in_files [] = omega arith
few_in_files (e ∷ entries) =
    omega (arith, of_entry e.kind e.refs, few_in_files entries, length-append (refs_of_entry e.kind e.refs) (refs_of_files entries), length-append e.refs (refs_in entries))
  where
    of_entry : (k : EntryKind) (refs : List Ref) → length (refs_of_entry k refs) ≤ length refs
    of_entry kind.Folder refs = omega arith
    of_entry kind.File refs = omega arith

pub files_have_few : FilesHaveFewPlaces
files_have_few text entries bytes reads =
    let spelled = skeleton_has_text text entries bytes reads in
    omega (arith, few_in_files entries, text_long entries spelled.0, skeleton_text_short text entries reads, ap (λ (l : List ℕ). length l) spelled.1)
