-- What was read of a ticket is what it means, or two texts were met.
use Rattle.std.proofs.Common.{◌≡◌, ◌⊎◌, inl, inr, ⊎_elim, ℕ, zero, suc, ◌≤◌, ltb, Bool, true, false, ◌==◌, cond, List, [], ◌∷◌, ◌++◌, length, bytes_eq, Contains, Option, Some, None, Result, Ok, Err, refl, sym, ◌∙◌, ap, subst, arith, length-append}
use Rattle.std.proofs.lemmas.Bool.{and_parts, false≢true, eqb-true, ltb-false}
use Rattle.std.proofs.lemmas.List.Elements.{Contains-append_left, Contains-append_right}
use Rattle.std.proofs.lemmas.List.Sums.{sum_by-cons}
use Rattle.std.proofs.lemmas.Slice.Eq.{bytes_eq-Decides}
use Rattle.psb_station.proofs.Spans.{same_some}
use Rattle.psb_bytes.specs.declared.ids.Ref.{Ref}
use Rattle.psb_digest.specs.Hashes.{sha}
use Rattle.psb_digest.proofs.Streams.{length-masked_from}
use Rattle.convergent_seal.specs.Sealing.{seal_key, opened}
use Rattle.skeleton.specs.declared.entry.Entry.{Entry}
use Rattle.skeleton.specs.declared.entry.EntryKind.{EntryKind}
use Rattle.skeleton.specs.declared.entry.EntryKind.TheVariants as kind
use Rattle.skeleton.specs.declared.faults.SkelFault.TheVariants.{BadMark, TooLong}
use Rattle.skeleton.specs.declared.limits.TheConstants.{SKELETON_MARK, REFS_MARK, MARK_BYTES, MOST_TEXT_BYTES}
use Rattle.skeleton.specs.Entries.{total}
use Rattle.skeleton.specs.Reading.{◌>>=◌, Unread, refused, bytes_at, refs_at, entries_at, marked, ended, skeleton_of, refs_of}
use Rattle.skeleton.proofs.Found.{bind_ok, else_ok, found}
use Rattle.snapshots.specs.Meaning.{Bodies, given, read, opens, plain_of, plains_of, text_behind, Item, Folder, File, Place, item_of, tree_of}
use Rattle.snapshots.specs.Got.{Use, IsGot, AreGot, IsTextGot, IsBadGot, IsItemGot, AreItemsGot, AreMet}
use Rattle.snapshots.specs.GotLaws.{ReadsTheMeaning, BadTextsAreMet}

-- what is given comes of something
from_given : {A B : Type 0} (o : Option A) (f : A → Option B) (y : B) → given o f ≡ Some y → (x : A) × (o ≡ Some x) × (f x ≡ Some y)
from_given None f y is = absurd (cc)
from_given (Some x) f y is = (x, refl, is)

from_read : {A F : Type 0} (r : Result A F) (x : A) → read r ≡ Some x → r ≡ Ok x
from_read {A = A} {F = F} (Ok y) x is = let f : A → Result A F = λ z. Ok z in ap f (same_some (Some y) y x refl is)
from_read (Err f) x is = absurd (cc)

named_by : (r : Ref) (body : List ℕ) → opens r body ≡ true → sha body ≡ r.name
named_by r body is = (bytes_eq-Decides (sha body) r.name).0 (and_parts (bytes_eq (sha body) r.name) (length body == r.len) is).0

-- ---- one piece

-- the body that stands under the name, where it opens
from_plain : (bodies : Bodies) (r : Ref) (plain : List ℕ) → plain_of bodies r ≡ Some plain → (body : List ℕ) × (bodies r.name ≡ Some body) × (opens r body ≡ true) × (plain ≡ opened r body)
from_plain bodies r plain is =
    let b = from_given (bodies r.name) (λ body. cond (opens r body) (Some (opened r body)) None) plain is in
    let o = opening b.0 (opens r b.0) b.2 in
    (b.0, b.1, o.0, o.1)
  where
    opening : (body : List ℕ) (t : Bool) → cond t (Some (opened r body)) None ≡ Some plain → (t ≡ true) × (plain ≡ opened r body)
    opening body true is = (refl, same_some (Some (opened r body)) plain (opened r body) is refl)
    opening body false is = absurd (cc)

piece_got : (bodies : Bodies) (used : List Use) (r : Ref) (meant got : List ℕ) → plain_of bodies r ≡ Some meant → IsGot used r got → (got ≡ meant) ⊎ AreMet bodies used
piece_got bodies used r meant got is g =
    let b = from_plain bodies r meant is in
    by_eq b.0 b.1 b.2 b.3 (bytes_eq g.body b.0) refl
  where
    by_eq : (body : List ℕ) → bodies r.name ≡ Some body → opens r body ≡ true → meant ≡ opened r body → (t : Bool) → bytes_eq g.body body ≡ t → (got ≡ meant) ⊎ AreMet bodies used
    by_eq body stands opens_it plain_is true same =
        inl (g.plain_is ∙ ap (opened r) ((bytes_eq-Decides g.body body).0 same) ∙ sym plain_is)
    by_eq body stands opens_it plain_is false other =
        inr (record {
          name = r.name;
          body = g.body;
          other = body;
          used_for = g.used_for;
          stands = stands;
          unequal = λ e. absurd (false≢true (sym other ∙ (bytes_eq-Decides g.body body).1 e));
          named = named_by r g.body g.opens_it;
          other_named = named_by r body opens_it;
        })

-- ---- a text

pieces_got : (bodies : Bodies) (used : List Use) (rs : List Ref) (meant got : List ℕ) → plains_of bodies rs ≡ Some meant → AreGot used rs got → (got ≡ meant) ⊎ AreMet bodies used
pieces_got bodies used [] meant got is g = inl (g ∙ same_some (Some []) [] meant refl is)
pieces_got bodies used (r ∷ rs) meant got is g =
    let front = from_given (plain_of bodies r) (λ front. given (plains_of bodies rs) (λ rest. Some (front ++ rest))) meant is in
    let rest = from_given (plains_of bodies rs) (λ rest. Some (front.0 ++ rest)) meant front.2 in
    ⊎_elim
    (λ same. ⊎_elim
    (λ others. inl (g.4 ∙ ap (λ (l : List ℕ). l ++ g.1) same ∙ ap (λ (l : List ℕ). front.0 ++ l) others ∙ same_some (Some (front.0 ++ rest.0)) (front.0 ++ rest.0) meant refl rest.2))
    (λ met. inr met)
    (pieces_got bodies used rs rest.0 g.1 rest.1 g.3))
    (λ met. inr met)
    (piece_got bodies used r front.0 g.0 front.1 g.2)

-- ---- the texts behind lists of refs

same_ok : {A F : Type 0} (r : Result A F) (x y : A) → r ≡ Ok x → r ≡ Ok y → x ≡ y
same_ok r x y a b = cc

-- a text behind a list: the list is there and can be read
from_behind : (bodies : Bodies) (levels : ℕ) (refs : List Ref) (text : List ℕ) → text_behind bodies (suc levels) refs ≡ Some text
    → (list : List ℕ) × (next : List Ref) × (plains_of bodies refs ≡ Some list) × (refs_of list ≡ Ok next) × (text_behind bodies levels next ≡ Some text)
from_behind bodies levels refs text is =
    let list = from_given (plains_of bodies refs) (λ l. given (read (refs_of l)) (λ next. text_behind bodies levels next)) text is in
    let next = from_given (read (refs_of list.0)) (λ next. text_behind bodies levels next) text list.2 in
    (list.0, next.0, list.1, from_read (refs_of list.0) next.0 next.1, next.2)

text_got : (bodies : Bodies) (used : List Use) (levels : ℕ) (refs : List Ref) (meant got : List ℕ) → text_behind bodies levels refs ≡ Some meant → IsTextGot used levels refs got → (got ≡ meant) ⊎ AreMet bodies used
text_got bodies used zero refs meant got is g = pieces_got bodies used refs meant got is g
text_got bodies used (suc levels) refs meant got is g =
    let b = from_behind bodies levels refs meant is in
    ⊎_elim
    (λ same. text_got bodies used levels b.1 meant got b.4 (subst (λ (rs : List Ref). IsTextGot used levels rs got) (same_ok (refs_of g.0) g.1 b.1 g.3 (ap refs_of same ∙ b.3)) g.4))
    (λ met. inr met)
    (pieces_got bodies used refs b.0 g.0 b.2 g.2)

-- ---- the tree

item_got : (bodies : Bodies) (used : List Use) (k : EntryKind) (refs : List Ref) (meant got : Item) → item_of bodies k refs ≡ Some meant → IsItemGot used k refs got → (got ≡ meant) ⊎ AreMet bodies used
item_got bodies used kind.Folder refs meant got is g = inl (g ∙ same_some (Some Folder) Folder meant refl is)
item_got bodies used kind.File refs meant got is g =
    let bytes = from_given (plains_of bodies refs) (λ bytes. Some (File bytes)) meant is in
    ⊎_elim
    (λ same. inl (g.2 ∙ ap File same ∙ same_some (Some (File bytes.0)) (File bytes.0) meant refl bytes.2))
    (λ met. inr met)
    (pieces_got bodies used refs bytes.0 g.0 bytes.1 g.1)

tree_got : (bodies : Bodies) (used : List Use) (es : List Entry) (meant got : List Place) → tree_of bodies es ≡ Some meant → AreItemsGot used es got → (got ≡ meant) ⊎ AreMet bodies used
tree_got bodies used [] meant got is g = inl (g ∙ same_some (Some []) [] meant refl is)
tree_got bodies used (e ∷ es) meant got is g =
    let item = from_given (item_of bodies e.kind e.refs) (λ item. given (tree_of bodies es) (λ rest. Some (record { path = e.path; item = item } ∷ rest))) meant is in
    let rest = from_given (tree_of bodies es) (λ rest. Some (record { path = e.path; item = item.0 } ∷ rest)) meant item.2 in
    ⊎_elim
    (λ same. ⊎_elim
    (λ others. inl (
    g.4
    ∙ ap (λ (i : Item). let p : Place = record { path = e.path; item = i } in p ∷ g.1) same
    ∙ ap (λ (l : List Place). let p : Place = record { path = e.path; item = item.0 } in p ∷ l) others
    ∙ same_some (Some (record { path = e.path; item = item.0 } ∷ rest.0)) (record { path = e.path; item = item.0 } ∷ rest.0) meant refl rest.2))
    (λ met. inr met)
    (tree_got bodies used es rest.0 g.1 rest.1 g.3))
    (λ met. inr met)
    (item_got bodies used e.kind e.refs item.0 g.0 item.1 g.2)

pub reads_the_meaning : ReadsTheMeaning
reads_the_meaning bodies used t meant got is g =
    let text = from_given (text_behind bodies t.levels (t.reference ∷ [])) (λ text. given (read (skeleton_of text)) (tree_of bodies)) meant is in
    let entries = from_given (read (skeleton_of text.0)) (tree_of bodies) meant text.2 in
    ⊎_elim
    (λ same.
    let es = same_ok (skeleton_of g.text) g.entries entries.0 g.reads (ap skeleton_of same ∙ from_read (skeleton_of text.0) entries.0 entries.1) in
    tree_got bodies used entries.0 meant got entries.2 (subst (λ (l : List Entry). AreItemsGot used l got) es g.items))
    (λ met. inr met)
    (text_got bodies used t.levels (t.reference ∷ []) text.0 g.text text.1 g.behind)

-- ---- how long the texts are

-- what opens has the length of its ref
pub opened_long : (r : Ref) (body : List ℕ) → opens r body ≡ true → length (opened r body) ≡ r.len
opened_long r body is =
    length-masked_from (seal_key r.handle) 0 0 body ∙ eqb-true (length body) r.len (and_parts (bytes_eq (sha body) r.name) (length body == r.len) is).1

plains_long : (bodies : Bodies) (rs : List Ref) (text : List ℕ) → plains_of bodies rs ≡ Some text → length text ≡ total rs
plains_long bodies [] text is = ap length (sym (same_some (Some []) [] text refl is))
plains_long bodies (r ∷ rs) text is =
    let front = from_given (plain_of bodies r) (λ front. given (plains_of bodies rs) (λ rest. Some (front ++ rest))) text is in
    let rest = from_given (plains_of bodies rs) (λ rest. Some (front.0 ++ rest)) text front.2 in
    let body = from_plain bodies r front.0 front.1 in
    omega (
      arith,
      ap length (same_some (Some (front.0 ++ rest.0)) (front.0 ++ rest.0) text refl rest.2),
      length-append front.0 rest.0,
      ap length body.3,
      opened_long r body.0 body.2,
      plains_long bodies rs rest.0 rest.1,
      sum_by-cons (λ (x : Ref). x.len) r rs,
    )

-- a text that is read is short enough
marked_short : (mark text : List ℕ) (u : Unread) → marked mark text ≡ Ok u → length text ≤ MOST_TEXT_BYTES
unfolding marked
marked_short mark text u e =
    let start : Unread = record { place = 0; bytes = text } in
    let tested = λ (front : List ℕ × Unread). cond (bytes_eq front.0 mark) (found front.1) (refused BadMark start) in
    let g = else_ok (ltb MOST_TEXT_BYTES (length text)) (bytes_at MARK_BYTES start >>= tested) (record { fault = TooLong; place = 0 }) u e in
    ltb-false _ _ g.0

pub refs_text_short : (text : List ℕ) (refs : List Ref) → refs_of text ≡ Ok refs → length text ≤ MOST_TEXT_BYTES
unfolding refs_of
refs_text_short text refs e =
    let b = bind_ok (marked REFS_MARK text) (λ (u : Unread). refs_at u >>= λ x. ended x) refs e in
    marked_short REFS_MARK text b.0 b.1

pub skeleton_text_short : (text : List ℕ) (entries : List Entry) → skeleton_of text ≡ Ok entries → length text ≤ MOST_TEXT_BYTES
unfolding skeleton_of
skeleton_text_short text entries e =
    let b = bind_ok (marked SKELETON_MARK text) (λ (u : Unread). entries_at u >>= λ x. ended x) entries e in
    marked_short SKELETON_MARK text b.0 b.1

-- ---- texts that are none

no_fault : {A F : Type 0} (r : Result A F) (x : A) (fault : F) → r ≡ Ok x → r ≡ Err fault → ⊥
no_fault r x fault a b = cc

bad_got : (bodies : Bodies) (used : List Use) (levels : ℕ) (refs : List Ref) (text : List ℕ) (entries : List Entry) → text_behind bodies levels refs ≡ Some text → skeleton_of text ≡ Ok entries → IsBadGot used levels refs → AreMet bodies used
bad_got bodies used zero refs text entries is reads (inl long) =
    absurd (omega (arith, long, plains_long bodies refs text is, skeleton_text_short text entries reads))
bad_got bodies used zero refs text entries is reads (inr bad) =
    ⊎_elim
    (λ same. absurd (no_fault (skeleton_of bad.0) entries bad.1 (ap skeleton_of same ∙ reads) bad.3))
    (λ met. met)
    (pieces_got bodies used refs text bad.0 is bad.2)
bad_got bodies used (suc levels) refs text entries is reads (inl long) =
    let b = from_behind bodies levels refs text is in
    absurd (omega (arith, long, plains_long bodies refs b.0 b.2, refs_text_short b.0 b.1 b.3))
bad_got bodies used (suc levels) refs text entries is reads (inr (inl bad)) =
    let b = from_behind bodies levels refs text is in
    ⊎_elim
    (λ same. absurd (no_fault (refs_of bad.0) b.1 bad.1 (ap refs_of same ∙ b.3) bad.3))
    (λ met. met)
    (pieces_got bodies used refs b.0 bad.0 b.2 bad.2)
bad_got bodies used (suc levels) refs text entries is reads (inr (inr later)) =
    let b = from_behind bodies levels refs text is in
    ⊎_elim
    (λ same. bad_got bodies used levels b.1 text entries b.4 reads (subst (IsBadGot used levels) (same_ok (refs_of later.0) later.1 b.1 later.3 (ap refs_of same ∙ b.3)) later.4))
    (λ met. met)
    (pieces_got bodies used refs b.0 later.0 b.2 later.2)

pub bad_texts_are_met : BadTextsAreMet
bad_texts_are_met bodies used t meant is bad =
    let behind = from_given (text_behind bodies t.levels (t.reference ∷ [])) (λ text. given (read (skeleton_of text)) (tree_of bodies)) meant is in
    let entries = from_given (read (skeleton_of behind.0)) (tree_of bodies) meant behind.2 in
    bad_got bodies used t.levels (t.reference ∷ []) behind.0 entries.0 behind.1 (from_read (skeleton_of behind.0) entries.0 entries.1) bad

-- ---- where more bodies were used

piece_wider : (used wider : List Use) → ((u : Use) → Contains used u → Contains wider u) → (r : Ref) (plain : List ℕ) → IsGot used r plain → IsGot wider r plain
piece_wider used wider all r plain g = record {
  body = g.body;
  used_for = all (record { name = r.name; body = g.body }) g.used_for;
  opens_it = g.opens_it;
  plain_is = g.plain_is;
}

got_wider : (used wider : List Use) → ((u : Use) → Contains used u → Contains wider u) → (refs : List Ref) (text : List ℕ) → AreGot used refs text → AreGot wider refs text
got_wider used wider all [] text g = g
got_wider used wider all (r ∷ rs) text g = (g.0, g.1, piece_wider used wider all r g.0 g.2, got_wider used wider all rs g.1 g.3, g.4)

text_wider : (used wider : List Use) → ((u : Use) → Contains used u → Contains wider u) → (levels : ℕ) (refs : List Ref) (text : List ℕ) → IsTextGot used levels refs text → IsTextGot wider levels refs text
text_wider used wider all zero refs text g = got_wider used wider all refs text g
text_wider used wider all (suc levels) refs text g = (g.0, g.1, got_wider used wider all refs g.0 g.2, g.3, text_wider used wider all levels g.1 text g.4)

item_wider : (used wider : List Use) → ((u : Use) → Contains used u → Contains wider u) → (k : EntryKind) (refs : List Ref) (item : Item) → IsItemGot used k refs item → IsItemGot wider k refs item
item_wider used wider all kind.Folder refs item g = g
item_wider used wider all kind.File refs item g = (g.0, got_wider used wider all refs g.0 g.1, g.2)

items_wider : (used wider : List Use) → ((u : Use) → Contains used u → Contains wider u) → (es : List Entry) (places : List Place) → AreItemsGot used es places → AreItemsGot wider es places
items_wider used wider all [] places g = g
items_wider used wider all (e ∷ es) places g = (g.0, g.1, item_wider used wider all e.kind e.refs g.0 g.2, items_wider used wider all es g.1 g.3, g.4)

-- behind the others
pub got_more : (used more : List Use) (refs : List Ref) (text : List ℕ) → AreGot used refs text → AreGot (used ++ more) refs text
got_more used more = got_wider used (used ++ more) (Contains-append_left used more)

pub text_more : (used more : List Use) (levels : ℕ) (refs : List Ref) (text : List ℕ) → IsTextGot used levels refs text → IsTextGot (used ++ more) levels refs text
text_more used more = text_wider used (used ++ more) (Contains-append_left used more)

pub item_more : (used more : List Use) (k : EntryKind) (refs : List Ref) (item : Item) → IsItemGot used k refs item → IsItemGot (used ++ more) k refs item
item_more used more = item_wider used (used ++ more) (Contains-append_left used more)

pub items_more : (used more : List Use) (es : List Entry) (places : List Place) → AreItemsGot used es places → AreItemsGot (used ++ more) es places
items_more used more = items_wider used (used ++ more) (Contains-append_left used more)

-- and before them
pub got_before : (used more : List Use) (refs : List Ref) (text : List ℕ) → AreGot used refs text → AreGot (more ++ used) refs text
got_before used more = got_wider used (more ++ used) (Contains-append_right more used)

pub text_before : (used more : List Use) (levels : ℕ) (refs : List Ref) (text : List ℕ) → IsTextGot used levels refs text → IsTextGot (more ++ used) levels refs text
text_before used more = text_wider used (more ++ used) (Contains-append_right more used)

pub item_before : (used more : List Use) (k : EntryKind) (refs : List Ref) (item : Item) → IsItemGot used k refs item → IsItemGot (more ++ used) k refs item
item_before used more = item_wider used (more ++ used) (Contains-append_right more used)

pub items_before : (used more : List Use) (es : List Entry) (places : List Place) → AreItemsGot used es places → AreItemsGot (more ++ used) es places
items_before used more = items_wider used (more ++ used) (Contains-append_right more used)
