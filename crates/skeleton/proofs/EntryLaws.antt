-- An entry, its refs and its counts.
use Rattle.std.proofs.Common.{◌≡◌, ℕ, ◌^◌, ◌<◌, true, ◌&&◌, cond, List, [], ◌∷◌, ◌++◌, length, Ok, refl, ap, sym, ◌∙◌, subst, append_assoc}
use Rattle.std.specs.Prelude.{◌==◌}
use Rattle.std.specs.List.{list_all}
use Rattle.std.proofs.lemmas.Bool.{and_parts, and_from, eqb-true}
use Rattle.std.proofs.lemmas.List.{nil_from_length}
use Rattle.std.proofs.lemmas.List.Folds.{list_all-append}
use Rattle.psb_bytes.specs.Numbers.{AreBytes, u64_bytes}
use Rattle.psb_bytes.specs.declared.ids.Ref.{Ref}
use Rattle.skeleton.specs.declared.entry.Entry.{Entry}
use Rattle.skeleton.specs.declared.entry.EntryKind.{EntryKind}
use Rattle.skeleton.specs.declared.entry.EntryKind.TheVariants.{Folder, File}
use Rattle.skeleton.specs.declared.faults.SkelFault.TheVariants.{BadCount}
use Rattle.skeleton.specs.Paths.{is_path}
use Rattle.skeleton.specs.Entries.{IsSkeleton, in_order, fits_behind, is_ref, total, counts_agree}
use Rattle.skeleton.specs.Texts.{ref_bytes, refs_bytes, path_bytes, content_bytes, entry_bytes, entries_bytes}
use Rattle.skeleton.specs.Reading.{◌>>=◌, Unread, refused, u64_at, kind_at, path_at, ref_behind, refs_at, content_at, entry_at, entries_at}
use Rattle.skeleton.proofs.Order.{grows}
use Rattle.skeleton.proofs.Found.{bind_ok, then_ok, found, ok_is, value, rest}
use Rattle.skeleton.proofs.FieldLaws.{IsFront, IsField, then_front, u64_field, one_kind, kind_field, path_field, ref_field}
use Rattle.skeleton.proofs.RunLaws.{AllCan, CanList, list_field}

-- ---- refs

abbrev pub AreRefs : List Ref → Type 0
AreRefs refs = list_all is_ref refs ≡ true

abbrev pub RefCan : List Ref → Ref → Type 0
RefCan before r = is_ref r ≡ true

one_more : (before : List Ref) (r : Ref) → AreRefs before → is_ref r ≡ true → AreRefs (before ++ r ∷ [])
one_more before r h e = list_all-append is_ref before (r ∷ []) ∙ and_from (list_all is_ref before) (is_ref r && true) h (and_from (is_ref r) true e refl)

pub refs_field : IsField refs_bytes AreRefs (CanList RefCan) refs_at
refs_field = list_field ref_bytes AreRefs RefCan RefCan ref_behind (λ before. ref_field) refl one_more

-- refs that are valid can be spelled
pub each_ref : (before refs : List Ref) → AreRefs refs → AllCan RefCan before refs
each_ref before refs h front x back e =
    let t = and_parts (list_all is_ref front) (list_all is_ref (x ∷ back)) (sym (list_all-append is_ref front (x ∷ back)) ∙ ap (λ (l : List Ref). list_all is_ref l) (sym e) ∙ h) in
    (and_parts (is_ref x) (list_all is_ref back) t.1).0

-- ---- what follows the path

-- size and refs
abbrev pub Content : Type 0
Content = ℕ × List Ref

abbrev pub content_spelled : EntryKind → Content → List ℕ
content_spelled kind c = content_bytes kind c.0 c.1

abbrev pub Agrees : EntryKind → Content → Type 0
Agrees kind c = counts_agree kind c.0 c.1 ≡ true

-- so many refs and so great a size that they have a field
pub record CanContent (kind : EntryKind) (c : Content) : Type 0 where
  pub agrees : Agrees kind c
  pub few : length c.1 < 2 ^ 32
  pub small : c.0 < 2 ^ 64

empty_content : (c : Content) → Agrees Folder c → ◌≡◌ {A = Content} (0, []) c
empty_content (size, refs) h =
    let t = and_parts (size == 0) (length refs == 0) h in
    let size-is : size ≡ 0 = eqb-true size 0 t.0 in
    let refs-are : refs ≡ [] = nil_from_length refs (eqb-true (length refs) 0 t.1) in
    rw (size-is, refs-are) refl

record IsFileRead (u : Unread) (c : Content) (v : Unread) : Type 0 where
  size : ℕ × Unread
  refs : List Ref × Unread
  size-is : u64_at u ≡ Ok size
  refs-are : refs_at size.1 ≡ Ok refs
  agree : (size.0 == total refs.0) ≡ true
  content-is : (size.0, refs.0) ≡ c
  rest-is : refs.1 ≡ v

file_read : (u : Unread) (c : Content) (v : Unread) → content_at File u ≡ Ok (c, v) → IsFileRead u c v
unfolding content_at
file_read u c v e =
    let b = bind_ok (u64_at u) (λ size. refs_at size.1 >>= λ refs. cond (size.0 == total refs.0) (found ((size.0, refs.0), refs.1)) (refused BadCount u)) (c, v) e in
    let d = bind_ok (refs_at b.0.1) (λ refs. cond (b.0.0 == total refs.0) (found ((b.0.0, refs.0), refs.1)) (refused BadCount u)) (c, v) b.2 in
    let g = then_ok (b.0.0 == total d.0.0) (found ((b.0.0, d.0.0), d.0.1)) (record { fault = BadCount; place = u.place }) (c, v) d.2 in
    let p = ok_is ((b.0.0, d.0.0), d.0.1) (c, v) g.1 in
    record { size = b.0; refs = d.0; size-is = b.1; refs-are = d.1; agree = g.0; content-is = ap value p; rest-is = ap rest p }

folder_read : (u : Unread) (c : Content) (v : Unread) → content_at Folder u ≡ Ok (c, v) → ◌≡◌ {A = Content × Unread} ((0, []), u) (c, v)
unfolding content_at
folder_read u c v e = ok_is ((0, []), u) (c, v) e

content_fits : (kind : EntryKind) (u : Unread) (c : Content) (v : Unread) → content_at kind u ≡ Ok (c, v) → Agrees kind c
content_fits Folder u c v e = subst (Agrees Folder) (ap value (folder_read u c v e)) refl
content_fits File u c v e =
    let t = file_read u c v e in
    subst (Agrees File) t.content-is (and_from (list_all is_ref t.refs.0) (t.size.0 == total t.refs.0) (refs_field.fits t.size.1 t.refs.0 t.refs.1 t.refs-are) t.agree)

content_takes : (kind : EntryKind) (u : Unread) (c : Content) (v : Unread) → AreBytes u.bytes → content_at kind u ≡ Ok (c, v) → IsFront u.bytes (content_spelled kind c) v.bytes
content_takes Folder u c v ok e =
    let same : u ≡ v = ap rest (folder_read u c v e) in
    record { whole = ap (λ (w : Unread). w.bytes) same; sound = subst (λ (w : Unread). AreBytes w.bytes) same ok }
content_takes File u c v ok e =
    let t = file_read u c v e in
    let first = u64_field.takes u t.size.0 t.size.1 ok t.size-is in
    let second = refs_field.takes t.size.1 t.refs.0 t.refs.1 first.sound t.refs-are in
    let front = then_front u.bytes (u64_bytes t.size.0) t.size.1.bytes (refs_bytes t.refs.0) t.refs.1.bytes first second in
    subst (λ (w : Unread). IsFront u.bytes (content_spelled File c) w.bytes) t.rest-is (subst (λ (d : Content). IsFront u.bytes (content_spelled File d) t.refs.1.bytes) t.content-is front)

file_done : (size : ℕ) (refs : List Ref) (u v : Unread) → (size == total refs) ≡ true → cond (size == total refs) (found {A = Content × Unread} ((size, refs), v)) (refused BadCount u) ≡ Ok ((size, refs), v)
file_done size refs u v e = rw e refl

content_again : (kind : EntryKind) (p : ℕ) (c : Content) (more : List ℕ) → CanContent kind c → (q : ℕ) × (content_at kind (record { place = p; bytes = content_spelled kind c ++ more }) ≡ Ok (c, record { place = q; bytes = more }))
unfolding content_at
content_again Folder p c more h = (p, ap (λ (d : Content). found (d, record { place = p; bytes = more })) (empty_content c h.agrees))
content_again File p (size, refs) more h =
    let t = and_parts (list_all is_ref refs) (size == total refs) h.agrees in
    let a = u64_field.again p size (refs_bytes refs ++ more) h.small in
    let b = refs_field.again a.0 refs more (record { few = h.few; each = each_ref [] refs t.0 }) in
    (b.0, rw (append_assoc (u64_bytes size) (refs_bytes refs) more, a.1, b.1) (file_done size refs (record { place = p; bytes = content_spelled File (size, refs) ++ more }) (record { place = b.0; bytes = more }) t.1))

pub content_field : (kind : EntryKind) → IsField (content_spelled kind) (Agrees kind) (CanContent kind) (content_at kind)
content_field kind = record { fits = content_fits kind; takes = content_takes kind; again = content_again kind }

-- ---- an entry

abbrev pub Fits : List Entry → Entry → Type 0
Fits before e = fits_behind before e ≡ true

pub record CanEntry (before : List Entry) (e : Entry) : Type 0 where
  pub fits : Fits before e
  pub few : length e.refs < 2 ^ 32
  pub small : e.size < 2 ^ 64

abbrev made_entry : EntryKind → List ℕ → Content → Entry
made_entry kind path content = record { path = path; kind = kind; size = content.0; refs = content.1 }

record IsEntryRead (before : List Entry) (u : Unread) (e : Entry) (v : Unread) : Type 0 where
  kind : EntryKind × Unread
  path : List ℕ × Unread
  content : Content × Unread
  kind-is : kind_at u ≡ Ok kind
  path-is : path_at before kind.1 ≡ Ok path
  content-is : content_at kind.0 path.1 ≡ Ok content
  entry-is : made_entry kind.0 path.0 content.0 ≡ e
  rest-is : content.1 ≡ v

entry_read : (before : List Entry) (u : Unread) (e : Entry) (v : Unread) → entry_at before u ≡ Ok (e, v) → IsEntryRead before u e v
unfolding entry_at
entry_read before u e v h =
    let b = bind_ok (kind_at u) (λ kind. path_at before kind.1 >>= λ path. content_at kind.0 path.1 >>= λ content. found (made_entry kind.0 path.0 content.0, content.1)) (e, v) h in
    let d = bind_ok (path_at before b.0.1) (λ path. content_at b.0.0 path.1 >>= λ content. found (made_entry b.0.0 path.0 content.0, content.1)) (e, v) b.2 in
    let f = bind_ok (content_at b.0.0 d.0.1) (λ content. found (made_entry b.0.0 d.0.0 content.0, content.1)) (e, v) d.2 in
    let p = ok_is (made_entry b.0.0 d.0.0 f.0.0, f.0.1) (e, v) f.2 in
    record { kind = b.0; path = d.0; content = f.0; kind-is = b.1; path-is = d.1; content-is = f.1; entry-is = ap value p; rest-is = ap rest p }

entry_fits : (before : List Entry) (u : Unread) (e : Entry) (v : Unread) → entry_at before u ≡ Ok (e, v) → Fits before e
entry_fits before u e v h =
    let t = entry_read before u e v h in
    let path = (path_field before).fits t.kind.1 t.path.0 t.path.1 t.path-is in
    let agrees = (content_field t.kind.0).fits t.path.1 t.content.0 t.content.1 t.content-is in
    subst (Fits before) t.entry-is (and_from (is_path t.path.0) _ path.valid (and_from (in_order before t.path.0) _ path.ordered agrees))

entry_takes : (before : List Entry) (u : Unread) (e : Entry) (v : Unread) → AreBytes u.bytes → entry_at before u ≡ Ok (e, v) → IsFront u.bytes (entry_bytes e) v.bytes
entry_takes before u e v ok h =
    let t = entry_read before u e v h in
    let first = kind_field.takes u t.kind.0 t.kind.1 ok t.kind-is in
    let second = (path_field before).takes t.kind.1 t.path.0 t.path.1 first.sound t.path-is in
    let third = (content_field t.kind.0).takes t.path.1 t.content.0 t.content.1 second.sound t.content-is in
    let both = then_front t.kind.1.bytes (path_bytes t.path.0) t.path.1.bytes (content_spelled t.kind.0 t.content.0) t.content.1.bytes second third in
    let front = then_front u.bytes (one_kind t.kind.0) t.kind.1.bytes (path_bytes t.path.0 ++ content_spelled t.kind.0 t.content.0) t.content.1.bytes first both in
    subst (λ (w : Unread). IsFront u.bytes (entry_bytes e) w.bytes) t.rest-is (subst (λ (x : Entry). IsFront u.bytes (entry_bytes x) t.content.1.bytes) t.entry-is front)

entry_again : (before : List Entry) (p : ℕ) (e : Entry) (more : List ℕ) → CanEntry before e → (q : ℕ) × (entry_at before (record { place = p; bytes = entry_bytes e ++ more }) ≡ Ok (e, record { place = q; bytes = more }))
unfolding entry_at
entry_again before p e more h =
    let t = and_parts (is_path e.path) (in_order before e.path && counts_agree e.kind e.size e.refs) h.fits in
    let k = and_parts (in_order before e.path) (counts_agree e.kind e.size e.refs) t.1 in
    let content = content_bytes e.kind e.size e.refs in
    let a = kind_field.again p e.kind (path_bytes e.path ++ (content ++ more)) tt in
    let b = (path_field before).again a.0 e.path (content ++ more) (record { valid = t.0; ordered = k.0 }) in
    let d = (content_field e.kind).again b.0 (e.size, e.refs) more (record { agrees = k.1; few = h.few; small = h.small }) in
    (d.0, rw (append_assoc (path_bytes e.path) content more, a.1, b.1, d.1) refl)

pub entry_field : (before : List Entry) → IsField entry_bytes (Fits before) (CanEntry before) (entry_at before)
entry_field before = record { fits = entry_fits before; takes = entry_takes before; again = entry_again before }

-- ---- entries

nothing_each : (before : List Entry) (entry : Entry) (after : List Entry) → [] ≡ before ++ entry ∷ after → fits_behind before entry ≡ true
nothing_each [] entry after e = absurd cc
nothing_each (x ∷ before) entry after e = absurd cc

pub no_entries : IsSkeleton []
no_entries = record { each = nothing_each }

pub entries_field : IsField entries_bytes IsSkeleton (CanList CanEntry) entries_at
entries_field = list_field entry_bytes IsSkeleton Fits CanEntry entry_at entry_field no_entries (λ before x h fits. grows before h x fits)
