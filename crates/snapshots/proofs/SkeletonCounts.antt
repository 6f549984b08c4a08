-- The counts of a skeleton, and how large they are by its text.
use Rattle.std.proofs.Common.{◌≡◌, ℕ, ◌+◌, ◌*◌, ◌<◌, ◌≤◌, ◌^◌, Bool, true, ◌&&◌, ◌==◌, List, [], ◌∷◌, length, flat_map, take, get_or, sum_by, leb, ap, arith, length-append}
use Rattle.std.specs.List.{list_all}
use Rattle.std.proofs.lemmas.Bool.{and_parts, eqb-true, leb-true}
use Rattle.std.proofs.lemmas.List.Sums.{sum_by-cons, sum_by_more_le}
use Rattle.psb_bytes.specs.Numbers.{u32_bytes, u64_bytes}
use Rattle.psb_bytes.specs.declared.ids.Ref.{Ref}
use Rattle.skeleton.specs.declared.entry.Entry.{Entry}
use Rattle.skeleton.specs.declared.entry.EntryKind.{EntryKind}
use Rattle.skeleton.specs.declared.entry.EntryKind.TheVariants.{Folder, File}
use Rattle.skeleton.specs.declared.limits.TheConstants.{SKELETON_MARK, MOST_TEXT_BYTES, MOST_CHUNK_BYTES}
use Rattle.skeleton.specs.Entries.{IsSkeleton, is_ref, has_digests, has_chunk_len, counts_agree, in_order, total}
use Rattle.skeleton.specs.Paths.{is_path}
use Rattle.skeleton.specs.Texts.{ref_bytes, refs_bytes, path_bytes, content_bytes, entry_bytes, entries_bytes, skeleton_text}
use Rattle.skeleton.proofs.Lists.{all_from}
use Rattle.skeleton.proofs.Order.{at_place}
use Rattle.snapshots.specs.Counts.{one_file, one_folder, its_bytes}
use Rattle.snapshots.specs.Meaning.{refs_in}
use Rattle.snapshots.proofs.Levels.{refs_long}

-- ---- by the text

unfoldable pub agrees : Entry → Bool
agrees e = counts_agree e.kind e.size e.refs

pub all_agree : (es : List Entry) → IsSkeleton es → list_all agrees es ≡ true
unfolding agrees
all_agree es h = all_from agrees es (λ i d lt.
    let e = get_or es i d in
    let t = and_parts (is_path e.path) (in_order (take i es) e.path && counts_agree e.kind e.size e.refs) (at_place es h i d lt) in
    (and_parts (in_order (take i es) e.path) (counts_agree e.kind e.size e.refs) t.1).1)

content_long : (k : EntryKind) (size : ℕ) (refs : List Ref) → counts_agree k size refs ≡ true → 68 * length refs ≤ length (content_bytes k size refs)
content_long Folder size refs h = omega (arith, eqb-true (length refs) 0 (and_parts (size == 0) (length refs == 0) h).1)
content_long File size refs h =
    omega (arith, refs_long refs (and_parts (list_all is_ref refs) (size == total refs) h).0, length-append (u64_bytes size) (refs_bytes refs), length-append (u32_bytes (length refs)) (flat_map ref_bytes refs))

total_le : (refs : List Ref) → list_all is_ref refs ≡ true → total refs ≤ MOST_CHUNK_BYTES * length refs
total_le [] h = omega arith
total_le (r ∷ refs) h =
    let t = and_parts (is_ref r) (list_all is_ref refs) h in
    let k = and_parts (has_digests r) (has_chunk_len r) t.0 in
    let most : r.len ≤ MOST_CHUNK_BYTES = leb-true r.len MOST_CHUNK_BYTES (and_parts (leb 1 r.len) (leb r.len MOST_CHUNK_BYTES) k.1).1 in
    rw (sum_by-cons (λ (x : Ref). x.len) r refs) (omega (arith, most, total_le refs t.1))

content_size : (k : EntryKind) (size : ℕ) (refs : List Ref) → counts_agree k size refs ≡ true → elim k [ Folder ↦ 0 | File ↦ size ] ≤ MOST_CHUNK_BYTES * length refs
content_size Folder size refs h = omega arith
content_size File size refs h =
    let t = and_parts (list_all is_ref refs) (size == total refs) h in
    omega (arith, eqb-true size (total refs) t.1, total_le refs t.0)

entries_long : (es : List Entry) → list_all agrees es ≡ true → length es + 68 * length (refs_in es) ≤ length (flat_map entry_bytes es)
unfolding agrees
entries_long [] h = omega arith
entries_long (e ∷ es) h =
    let t = and_parts (agrees e) (list_all agrees es) h in
    omega (arith, entries_long es t.1, content_long e.kind e.size e.refs t.0, length-append (path_bytes e.path) (content_bytes e.kind e.size e.refs), length-append e.refs (refs_in es), length-append (entry_bytes e) (flat_map entry_bytes es))

entries_size : (es : List Entry) → list_all agrees es ≡ true → sum_by its_bytes es ≤ MOST_CHUNK_BYTES * length (refs_in es)
unfolding agrees
entries_size [] h = omega arith
entries_size (e ∷ es) h =
    let t = and_parts (agrees e) (list_all agrees es) h in
    omega (arith, sum_by-cons its_bytes e es, entries_size es t.1, content_size e.kind e.size e.refs t.0, length-append e.refs (refs_in es))

-- the mark and the number of entries have 12 bytes, each entry one at least, and each ref 68
pub text_long : (es : List Entry) → IsSkeleton es → 12 + length es + 68 * length (refs_in es) ≤ length (skeleton_text es)
text_long es h =
    omega (arith, entries_long es (all_agree es h), length-append SKELETON_MARK (entries_bytes es), length-append (u32_bytes (length es)) (flat_map entry_bytes es))

few_entries : (es : List Entry) → IsSkeleton es → length (skeleton_text es) ≤ MOST_TEXT_BYTES → length es < 2 ^ 32
few_entries es h short = omega (arith, text_long es h, short)

few_bytes : (es : List Entry) → IsSkeleton es → length (skeleton_text es) ≤ MOST_TEXT_BYTES → sum_by its_bytes es < 2 ^ 64
few_bytes es h short = omega (arith, text_long es h, short, entries_size es (all_agree es h))

-- ---- one entry more

file_le : (e : Entry) → one_file e ≤ 1
file_le e = at e.kind
  where
    at : (k : EntryKind) → elim k [ Folder ↦ 0 | File ↦ 1 ] ≤ 1
    at Folder = omega arith
    at File = omega arith

folder_le : (e : Entry) → one_folder e ≤ 1
folder_le e = at e.kind
  where
    at : (k : EntryKind) → elim k [ Folder ↦ 1 | File ↦ 0 ] ≤ 1
    at Folder = omega arith
    at File = omega arith

ones_le : (f : Entry → ℕ) → ((e : Entry) → f e ≤ 1) → (es : List Entry) → sum_by f es ≤ length es
ones_le f one [] = omega arith
ones_le f one (e ∷ es) = omega (arith, sum_by-cons f e es, one e, ones_le f one es)

-- what was counted of the first entries, and the next
pub files_fit : (s es : List Entry) (i : ℕ) (d e : Entry) (n : ℕ) → es ≡ s → IsSkeleton s → length (skeleton_text s) ≤ MOST_TEXT_BYTES → e ≡ get_or es i d → n ≡ sum_by one_file (take i es) → i < length es → n + one_file e < 2 ^ 32
files_fit s es i d e n same h short is was lt =
    omega (arith, ap one_file is, was, sum_by_more_le one_file es i d lt, ones_le one_file file_le es, ap length same, few_entries s h short)

pub folders_fit : (s es : List Entry) (i : ℕ) (d e : Entry) (n : ℕ) → es ≡ s → IsSkeleton s → length (skeleton_text s) ≤ MOST_TEXT_BYTES → e ≡ get_or es i d → n ≡ sum_by one_folder (take i es) → i < length es → n + one_folder e < 2 ^ 32
folders_fit s es i d e n same h short is was lt =
    omega (arith, ap one_folder is, was, sum_by_more_le one_folder es i d lt, ones_le one_folder folder_le es, ap length same, few_entries s h short)

pub bytes_fit : (s es : List Entry) (i : ℕ) (d e : Entry) (n : ℕ) → es ≡ s → IsSkeleton s → length (skeleton_text s) ≤ MOST_TEXT_BYTES → e ≡ get_or es i d → n ≡ sum_by its_bytes (take i es) → i < length es → n + its_bytes e < 2 ^ 64
bytes_fit s es i d e n same h short is was lt = omega (arith, ap its_bytes is, was, sum_by_more_le its_bytes es i d lt, ap (sum_by its_bytes) same, few_bytes s h short)
