-- The two texts: what is read is spelled so, and what is spelled is read.
use Rattle.std.proofs.Common.{◌≡◌, ℕ, ◌+◌, ◌*◌, ◌^◌, ◌<◌, ◌≤◌, true, false, ◌&&◌, cond, ltb, leb, List, [], ◌∷◌, ◌++◌, length, take, drop, get_or, Ok, refl, ap, sym, ◌∙◌, subst, append-nil, length-append, arith}
use Rattle.std.specs.Prelude.{◌==◌, Result, flat_map, bytes_eq}
use Rattle.std.specs.List.{list_all}
use Rattle.std.proofs.lemmas.Bool.{and_parts, and_from, leb-true, le-ltb, eqb-true}
use Rattle.std.proofs.lemmas.List.{nil_from_length, take-append-drop, drop_more}
use Rattle.std.proofs.lemmas.List.Concat.{flat_map-append}
use Rattle.std.proofs.lemmas.List.Sums.{sum_by-cons}
use Rattle.std.proofs.lemmas.Slice.Eq.{bytes_eq-Decides}
use Rattle.psb_bytes.specs.Numbers.{AreBytes, u32_bytes}
use Rattle.psb_bytes.specs.declared.ids.Ref.{Ref}
use Rattle.skeleton.specs.declared.entry.Entry.{Entry}
use Rattle.skeleton.specs.declared.entry.EntryKind.{EntryKind}
use Rattle.skeleton.specs.declared.entry.EntryKind.TheVariants.{Folder, File}
use Rattle.skeleton.specs.declared.faults.SkelFault.TheVariants.{BadMark, TooLong, Trailing}
use Rattle.skeleton.specs.declared.faults.FaultAt.{FaultAt}
use Rattle.skeleton.specs.declared.limits.TheConstants.{SKELETON_MARK, REFS_MARK, MARK_BYTES, MOST_TEXT_BYTES, MOST_PATH_BYTES, MOST_CHUNK_BYTES}
use Rattle.psb_bytes.specs.Names.{has_names}
use Rattle.skeleton.specs.Paths.{within, is_path}
use Rattle.skeleton.specs.Entries.{IsSkeleton, in_order, fits_behind, is_ref, has_digests, has_chunk_len, total, counts_agree}
use Rattle.skeleton.specs.Texts.{ref_bytes, refs_bytes, path_bytes, content_bytes, entry_bytes, entries_bytes, skeleton_text, refs_text}
use Rattle.skeleton.specs.Reading.{◌>>=◌, Unread, Reading, refused, bytes_at, marked, ended, refs_at, entries_at, skeleton_of, refs_of}
use Rattle.skeleton.proofs.Order.{at_place}
use Rattle.skeleton.proofs.Found.{bind_ok, then_ok, else_ok, found, ok_is}
use Rattle.skeleton.proofs.FieldLaws.{IsFront, IsField, bytes_field, bytes_again}
use Rattle.skeleton.proofs.RunLaws.{CanList}
use Rattle.skeleton.proofs.EntryLaws.{AreRefs, RefCan, refs_field, each_ref, CanEntry, entries_field}

-- ---- a text behind its mark

abbrev from_start : List ℕ → Unread
from_start text = record { place = 0; bytes = text }

marked_takes : (mark text : List ℕ) (u : Unread) → AreBytes text → marked mark text ≡ Ok u → IsFront text mark u.bytes
unfolding marked
marked_takes mark text u ok e =
    let start = from_start text in
    let tested = λ (front : List ℕ × Unread). cond (bytes_eq front.0 mark) (found front.1) (refused BadMark start) in
    let g = else_ok (ltb MOST_TEXT_BYTES (length text)) (bytes_at MARK_BYTES start >>= tested) (record { fault = TooLong; place = 0 }) u e in
    let b = bind_ok (bytes_at MARK_BYTES start) tested u g.1 in
    let k = then_ok (bytes_eq b.0.0 mark) (found b.0.1) (record { fault = BadMark; place = 0 }) u b.2 in
    let front = (bytes_field MARK_BYTES).takes start b.0.0 b.0.1 ok b.1 in
    let same : b.0.0 ≡ mark = (bytes_eq-Decides b.0.0 mark).0 k.0 in
    subst (λ (w : Unread). IsFront text mark w.bytes) (ok_is b.0.1 u k.1) (subst (λ (m : List ℕ). IsFront text m b.0.1.bytes) same front)

marked_again : (mark more : List ℕ) → length mark ≡ MARK_BYTES → length (mark ++ more) ≤ MOST_TEXT_BYTES → marked mark (mark ++ more) ≡ Ok (record { place = 8; bytes = more })
unfolding marked
marked_again mark more len room =
    let short : ltb MOST_TEXT_BYTES (length (mark ++ more)) ≡ false = le-ltb _ _ room in
    let same : bytes_eq mark mark ≡ true = (bytes_eq-Decides mark mark).1 refl in
    rw (short, bytes_again MARK_BYTES 0 mark more len, same) refl

-- ---- a whole text

abbrev pub whole_text : {A : Type 0} → List ℕ → (Unread → Reading A) → List ℕ → Result A FaultAt
whole_text {A} mark read text = marked mark text >>= λ u. read u >>= λ x. ended x

pub whole_takes : {A : Type 0} (mark : List ℕ) (spell : A → List ℕ) (fit can : A → Type 0) (read : Unread → Reading A) → IsField spell fit can read
    → (text : List ℕ) (x : A) → AreBytes text → whole_text mark read text ≡ Ok x → fit x × (text ≡ mark ++ spell x)
whole_takes {A} mark spell fit can read h text x ok e =
    let after = λ (u : Unread). read u >>= λ x. ended x in
    let b = bind_ok (marked mark text) after x e in
    let d = bind_ok (read b.0) (λ x. ended x) x b.2 in
    let g = then_ok (length d.0.1.bytes == 0) (found d.0.0) (record { fault = Trailing; place = d.0.1.place }) x d.2 in
    let first = marked_takes mark text b.0 ok b.1 in
    let second = h.takes b.0 d.0.0 d.0.1 first.sound d.1 in
    let none : d.0.1.bytes ≡ [] = nil_from_length d.0.1.bytes (eqb-true (length d.0.1.bytes) 0 g.0) in
    let body : b.0.bytes ≡ spell d.0.0 = second.whole ∙ rw none (append-nil (spell d.0.0)) in
    let spelled : text ≡ mark ++ spell d.0.0 = first.whole ∙ ap (λ (l : List ℕ). mark ++ l) body in
    let same : d.0.0 ≡ x = ok_is d.0.0 x g.1 in
    (subst fit same (h.fits b.0 d.0.0 d.0.1 d.1), subst (λ (y : A). text ≡ mark ++ spell y) same spelled)

pub whole_again : {A : Type 0} (mark : List ℕ) (spell : A → List ℕ) (fit can : A → Type 0) (read : Unread → Reading A) → IsField spell fit can read
    → (x : A) → length mark ≡ MARK_BYTES → length (mark ++ spell x) ≤ MOST_TEXT_BYTES → can x → whole_text mark read (mark ++ spell x) ≡ Ok x
whole_again {A} mark spell fit can read h x len room c =
    let a = h.again 8 x [] c in
    let a' : read (record { place = 8; bytes = spell x }) ≡ Ok (x, record { place = a.0; bytes = [] }) = subst (λ (l : List ℕ). read (record { place = 8; bytes = l }) ≡ Ok (x, record { place = a.0; bytes = [] })) (append-nil (spell x)) a.1 in
    rw (marked_again mark (spell x) len room, a') refl

-- ---- what fits into a text is small

-- as many items as bytes at most, where each has a byte
count_le : {A : Type 0} (spell : A → List ℕ) → ((x : A) → 1 ≤ length (spell x)) → (items : List A) → length items ≤ length (flat_map spell items)
count_le spell some [] = omega arith
count_le spell some (x ∷ items) = omega (arith, some x, count_le spell some items, length-append (spell x) (flat_map spell items))

-- one item has no more bytes than all
part_le : {A : Type 0} (spell : A → List ℕ) (items front : List A) (x : A) (back : List A) → items ≡ front ++ x ∷ back → length (spell x) ≤ length (flat_map spell items)
part_le {A} spell items front x back e =
    let split : flat_map spell items ≡ flat_map spell front ++ (spell x ++ flat_map spell back) = ap (λ (l : List A). flat_map spell l) e ∙ flat_map-append spell front (x ∷ back) in
    rw split (omega (arith, length-append (flat_map spell front) (spell x ++ flat_map spell back), length-append (spell x) (flat_map spell back)))

-- the items up to one of them have no more bytes than all
pub next_le : {A : Type 0} (spell : A → List ℕ) (items : List A) (i : ℕ) (d : A) → i < length items → length (flat_map spell (take i items)) + length (spell (get_or items i d)) ≤ length (flat_map spell items)
next_le {A} spell items i d lt =
    let e : items ≡ take i items ++ get_or items i d ∷ drop (i + 1) items = sym (take-append-drop i items) ∙ ap (λ (l : List A). take i items ++ l) (drop_more items i d lt) in
    let split : flat_map spell items ≡ flat_map spell (take i items) ++ (spell (get_or items i d) ++ flat_map spell (drop (i + 1) items)) = ap (λ (l : List A). flat_map spell l) e ∙ flat_map-append spell (take i items) (get_or items i d ∷ drop (i + 1) items) in
    rw split (omega (arith, length-append (flat_map spell (take i items)) (spell (get_or items i d) ++ flat_map spell (drop (i + 1) items)), length-append (spell (get_or items i d)) (flat_map spell (drop (i + 1) items))))

-- the same of an item that stands there
pub item_le : {A : Type 0} (spell : A → List ℕ) (items : List A) (i : ℕ) (x : A) → x ≡ get_or items i x → i < length items → length (flat_map spell (take i items)) + length (spell x) ≤ length (flat_map spell items)
item_le {A} spell items i x e lt = subst (λ (y : A). length (flat_map spell (take i items)) + length (spell y) ≤ length (flat_map spell items)) (sym e) (next_le spell items i x lt)

ref_some : (r : Ref) → 1 ≤ length (ref_bytes r)
ref_some r = omega (arith, length-append (r.name ++ r.handle) (u32_bytes r.len))

entry_some : (e : Entry) → 1 ≤ length (entry_bytes e)
entry_some e = omega arith

-- refs have no more in sum than so many of the longest
total_le : (refs : List Ref) → AreRefs refs → total refs ≤ MOST_CHUNK_BYTES * length refs
total_le [] h = omega arith
total_le (r ∷ refs) h =
    let t = and_parts (is_ref r) (list_all is_ref refs) h in
    let k = and_parts (has_digests r) (has_chunk_len r) t.0 in
    let most : r.len ≤ MOST_CHUNK_BYTES = leb-true r.len MOST_CHUNK_BYTES (and_parts (leb 1 r.len) (leb r.len MOST_CHUNK_BYTES) k.1).1 in
    rw (sum_by-cons (λ (x : Ref). x.len) r refs) (omega (arith, most, total_le refs t.1))

-- an entry of a text that is not too long
content_small : (kind : EntryKind) (size : ℕ) (refs : List Ref) → counts_agree kind size refs ≡ true → length (content_bytes kind size refs) ≤ MOST_TEXT_BYTES → (length refs < 2 ^ 32) × (size < 2 ^ 64)
content_small Folder size refs h room =
    let t = and_parts (size == 0) (length refs == 0) h in
    (omega (arith, eqb-true (length refs) 0 t.1), omega (arith, eqb-true size 0 t.0))
content_small File size refs h room =
    let t = and_parts (list_all is_ref refs) (size == total refs) h in
    let few : length refs ≤ MOST_TEXT_BYTES = omega (arith, room, count_le ref_bytes ref_some refs) in
    (omega (arith, few), omega (arith, few, eqb-true size (total refs) t.1, total_le refs t.0))

pub entry_can : (before : List Entry) (e : Entry) → fits_behind before e ≡ true → length (entry_bytes e) ≤ MOST_TEXT_BYTES → CanEntry before e
entry_can before e h room =
    let t = and_parts (is_path e.path) (in_order before e.path && counts_agree e.kind e.size e.refs) h in
    let k = and_parts (in_order before e.path) (counts_agree e.kind e.size e.refs) t.1 in
    let inside : length (content_bytes e.kind e.size e.refs) ≤ MOST_TEXT_BYTES = omega (arith, room, length-append (path_bytes e.path) (content_bytes e.kind e.size e.refs)) in
    let small = content_small e.kind e.size e.refs k.1 inside in
    record { fits = h; few = small.0; small = small.1 }

pub entries_can : (entries : List Entry) → IsSkeleton entries → length (skeleton_text entries) ≤ MOST_TEXT_BYTES → CanList CanEntry entries
entries_can entries h room = record {
  few = omega (arith, room, count_le entry_bytes entry_some entries);
  each = λ front x back e. entry_can front x (h.each front x back e) (omega (arith, room, part_le entry_bytes entries front x back e));
}

pub refs_can : (refs : List Ref) → AreRefs refs → length (refs_text refs) ≤ MOST_TEXT_BYTES → CanList RefCan refs
refs_can refs h room = record { few = omega (arith, room, count_le ref_bytes ref_some refs); each = each_ref [] refs h }

-- ---- the laws

pub skeleton_is_read : (entries : List Entry) → IsSkeleton entries → length (skeleton_text entries) ≤ MOST_TEXT_BYTES → skeleton_of (skeleton_text entries) ≡ Ok entries
unfolding skeleton_of
skeleton_is_read entries h room = whole_again SKELETON_MARK entries_bytes IsSkeleton (CanList CanEntry) entries_at entries_field entries refl room (entries_can entries h room)

pub skeleton_has_text : (text : List ℕ) (entries : List Entry) → AreBytes text → skeleton_of text ≡ Ok entries → IsSkeleton entries × (text ≡ skeleton_text entries)
unfolding skeleton_of
skeleton_has_text text entries ok e = whole_takes SKELETON_MARK entries_bytes IsSkeleton (CanList CanEntry) entries_at entries_field text entries ok e

pub refs_are_read : (refs : List Ref) → AreRefs refs → length (refs_text refs) ≤ MOST_TEXT_BYTES → refs_of (refs_text refs) ≡ Ok refs
unfolding refs_of
refs_are_read refs h room = whole_again REFS_MARK refs_bytes AreRefs (CanList RefCan) refs_at refs_field refs refl room (refs_can refs h room)

pub refs_have_text : (text : List ℕ) (refs : List Ref) → AreBytes text → refs_of text ≡ Ok refs → AreRefs refs × (text ≡ refs_text refs)
unfolding refs_of
refs_have_text text refs ok e = whole_takes REFS_MARK refs_bytes AreRefs (CanList RefCan) refs_at refs_field text refs ok e

-- no two skeletons have one text
pub same_skeleton : (entries others : List Entry) → IsSkeleton entries → IsSkeleton others → length (skeleton_text entries) ≤ MOST_TEXT_BYTES → skeleton_text entries ≡ skeleton_text others → entries ≡ others
same_skeleton entries others h k room same =
    let room' : length (skeleton_text others) ≤ MOST_TEXT_BYTES = subst (λ (l : List ℕ). length l ≤ MOST_TEXT_BYTES) same room in
    ok_is entries others (sym (skeleton_is_read entries h room) ∙ ap skeleton_of same ∙ skeleton_is_read others k room')

-- no two texts are read as one skeleton
pub same_text : (text other : List ℕ) (entries : List Entry) → AreBytes text → AreBytes other → skeleton_of text ≡ Ok entries → skeleton_of other ≡ Ok entries → text ≡ other
same_text text other entries ok ok' e e' = (skeleton_has_text text entries ok e).1 ∙ sym (skeleton_has_text other entries ok' e').1

-- ---- what is written

-- a path that stands in a skeleton has a length field
pub path_small : (path : List ℕ) → is_path path ≡ true → length path < 2 ^ 16
unfolding is_path
path_small path h =
    let t = and_parts (within 1 MOST_PATH_BYTES (length path)) (has_names path) h in
    omega (arith, leb-true (length path) MOST_PATH_BYTES (and_parts (leb 1 (length path)) (leb (length path) MOST_PATH_BYTES) t.0).1)

-- what an entry of a skeleton asks of the writer
pub record IsWritable (e : Entry) : Type 0 where
  pub path : length e.path < 2 ^ 16
  pub refs : length e.refs < 2 ^ 32

pub entry_writable : (entries : List Entry) → IsSkeleton entries → length (skeleton_text entries) ≤ MOST_TEXT_BYTES → (i : ℕ) (d : Entry) → i < length entries → IsWritable (get_or entries i d)
entry_writable entries h room i d lt =
    let e = get_or entries i d in
    let fits = at_place entries h i d lt in
    let valid = (and_parts (is_path e.path) (in_order (take i entries) e.path && counts_agree e.kind e.size e.refs) fits).0 in
    record {
      path = path_small e.path valid;
      refs = (entry_can (take i entries) e fits (omega (arith, room, next_le entry_bytes entries i d lt))).few;
    }

pub item_writable : (entries : List Entry) → IsSkeleton entries → length (skeleton_text entries) ≤ MOST_TEXT_BYTES → (i : ℕ) (x : Entry) → x ≡ get_or entries i x → i < length entries → IsWritable x
item_writable entries h room i x e lt = subst IsWritable (sym e) (entry_writable entries h room i x lt)

pub few_entries : (entries : List Entry) → length (skeleton_text entries) ≤ MOST_TEXT_BYTES → length entries < 2 ^ 32
few_entries entries room = omega (arith, room, count_le entry_bytes entry_some entries)

pub few_refs : (refs : List Ref) → length (refs_text refs) ≤ MOST_TEXT_BYTES → length refs < 2 ^ 32
few_refs refs room = omega (arith, room, count_le ref_bytes ref_some refs)

-- digests and lengths make refs
pub both_parts : (refs : List Ref) → list_all has_digests refs ≡ true → list_all has_chunk_len refs ≡ true → AreRefs refs
both_parts [] h k = refl
both_parts (r ∷ refs) h k =
    let t = and_parts (has_digests r) (list_all has_digests refs) h in
    let u = and_parts (has_chunk_len r) (list_all has_chunk_len refs) k in
    and_from (is_ref r) (list_all is_ref refs) (and_from (has_digests r) (has_chunk_len r) t.0 u.0) (both_parts refs t.1 u.1)
