-- The entries of a tree, one behind another.
use Rattle.std.proofs.Common.{◌≡◌, ℕ, Bool, true, false, List, [], ◌∷◌, ◌++◌, Option, Some, None, is_some, refl, sym, ◌∙◌, ap, subst, arith, append_assoc}
use Rattle.std.proofs.lemmas.Bool.{false≢true}
use Rattle.std.proofs.lemmas.List.{append-nil}
use Rattle.std.proofs.lemmas.Grind.{flat_map-append}
use Rattle.psb_bytes.specs.declared.ids.Ref.{Ref}
use Rattle.psb_station.specs.View.{View}
use Rattle.psb_station.specs.Calls.{Grows}
use Rattle.psb_station.specs.Folder.{Content, FolderView, FolderCall}
use Rattle.psb_station.proofs.Spans.{same_some}
use Rattle.node_journal.specs.Entry.{Entry as ARecord}
use Rattle.node_core.specs.declared.node.Node.{Node}
use Rattle.node_serve.proofs.Tries.{grows_none, grows_then}
use Rattle.skeleton.specs.declared.entry.Entry.{Entry}
use Rattle.snapshots.specs.Meaning.{Place}
use Rattle.snapshots.specs.Writing.{Writes, with_place, with_places}
use Rattle.snapshot_restore.specs.Taken.{Taken, taken_refs}
use Rattle.snapshot_restore.specs.Reading.{refs_of_entry, refs_of_files, item_read, AreItemsRead}
use Rattle.snapshot_restore.specs.Written.{entry_calls, entries_calls, TriesFirst, WritesEntry, StopsEntry, WritesAll, StopsTree}
use Rattle.snapshot_restore.specs.declared.fault.RestoreFault.{RestoreFault}
use Rattle.snapshot_restore.specs.declared.waiting.Waiting.{Waiting}
use Rattle.snapshot_restore.proofs.Lists.{refs-append}
use Rattle.snapshot_restore.proofs.Taking.{takes_none, takes_then, stops_behind, stops_before}

-- ---- what was read

items_then : (es : List Entry) (e : Entry) (ts us : List Taken) (places : List Place) → AreItemsRead es ts places → taken_refs us ≡ refs_of_entry e.kind e.refs
    → AreItemsRead (es ++ e ∷ []) (ts ++ us) (places ++ record { path = e.path; item = item_read e.kind us } ∷ [])
items_then [] e ts us places r are = (
  us,
  [],
  [],
  ap (λ (l : List Taken). l ++ us) r.0 ∙ sym (append-nil us),
  are,
  (refl, refl),
  ap (λ (l : List Place). l ++ record { path = e.path; item = item_read e.kind us } ∷ []) r.1,
)
items_then (x ∷ es) e ts us places r are = (
  r.0,
  r.1 ++ us,
  r.2 ++ record { path = e.path; item = item_read e.kind us } ∷ [],
  ap (λ (l : List Taken). l ++ us) r.3 ∙ append_assoc r.0 r.1 us,
  r.4,
  items_then es e r.1 us r.2 r.5 are,
  ap (λ (l : List Place). l ++ record { path = e.path; item = item_read e.kind us } ∷ []) r.6,
)

items_refs : (es : List Entry) (ts : List Taken) (places : List Place) → AreItemsRead es ts places → taken_refs ts ≡ refs_of_files es
items_refs [] ts places r = ap taken_refs r.0
items_refs (e ∷ es) ts places r =
    ap taken_refs r.3 ∙ refs-append r.0 r.1 ∙ ap (λ (l : List Ref). l ++ taken_refs r.1) r.4 ∙ ap (λ (l : List Ref). refs_of_entry e.kind e.refs ++ l) (items_refs es r.1 r.2 r.5)

files-append : (a b : List Entry) → refs_of_files (a ++ b) ≡ refs_of_files a ++ refs_of_files b
files-append [] b = refl
files-append (e ∷ a) b =
    ap (λ (l : List Ref). refs_of_entry e.kind e.refs ++ l) (files-append a b) ∙ sym (append_assoc (refs_of_entry e.kind e.refs) (refs_of_files a) (refs_of_files b))

-- ---- what was written

places-append : (root : List ℕ) (c : Content) (a b : List Place) → with_places root c (a ++ b) ≡ with_places root (with_places root c a) b
places-append root c [] b = refl
places-append root c (p ∷ a) b = places-append root (with_place root c p) a b

told_some : (o : Option Content) → is_some o ≡ true → (c : Content) × (o ≡ Some c)
told_some None is = absurd (false≢true is)
told_some (Some c) is = (c, refl)

writes_none : (root : List ℕ) (f : FolderView) → Writes root f f []
writes_none root f = record {
  tells = λ told. told;
  content = λ c d was now. same_some f.content d c now was;
  no_fall = omega arith;
}

writes_then : (root : List ℕ) (f0 f1 f2 : FolderView) (a b : List Place) → Writes root f0 f1 a → Writes root f1 f2 b → Writes root f0 f2 (a ++ b)
writes_then root f0 f1 f2 a b x y = record {
  tells = λ told. x.tells (y.tells told);
  content = λ c d was now.
      let mid = told_some f1.content (y.tells (ap (λ (o : Option Content). is_some o) now)) in
      y.content mid.0 d mid.1 now ∙ ap (λ (m : Content). with_places root m b) (x.content c mid.0 was mid.1) ∙ sym (places-append root c a b);
  no_fall = omega (arith, x.no_fall, y.no_fall);
}

-- ---- the calls

calls-append : (root : List ℕ) (a b : List Entry) → entries_calls root (a ++ b) ≡ entries_calls root a ++ entries_calls root b
calls-append root a b = flat_map-append (entry_calls root) a b

tries_further : (root : List ℕ) (f0 f1 f2 : FolderView) (before after : List Entry) (e : Entry) → Grows f0.folder_calls f1.folder_calls (entries_calls root before) → TriesFirst f1 f2 (entry_calls root e) → TriesFirst f0 f2 (entries_calls root (before ++ e ∷ after))
tries_further root f0 f1 f2 before after e grown first =
    let front = entries_calls root before in
    let behind = entries_calls root after in
    record {
      tried = front ++ first.tried;
      left = first.left ++ behind;
      parts = calls-append root before (e ∷ after) ∙ ap (λ (l : List FolderCall). front ++ (l ++ behind)) first.parts ∙ ap (λ (l : List FolderCall). front ++ l) (append_assoc first.tried first.left behind)
          ∙ sym (append_assoc front first.tried (first.left ++ behind));
      grown = grows_then f0.folder_calls f1.folder_calls f2.folder_calls front first.tried grown first.grown;
    }

module _ {L : Type 0} (holds : L → List ARecord → List ℕ → Type 0) (stands : List ARecord → List ℕ → Type 0) (broken : L → Bool) (law : (log : L) (es : List ARecord) (c : List ℕ) → holds log es c → stands es c) where
  pub tree_none : (w : Waiting) (node : Node L) (v : View) (root : List ℕ) (f : FolderView) → broken node.log ≡ false → WritesAll holds stands broken w w node node v v root f f []
  tree_none w node v root f sound = record {
    ts = [];
    places = [];
    items = (refl, refl);
    takes = takes_none holds stands broken law w node v sound;
    writes = writes_none root f;
    grown = grows_none f.folder_calls;
  }

  pub tree_then : (w0 w1 w2 : Waiting) (n0 n1 n2 : Node L) (v0 v1 v2 : View) (root : List ℕ) (f0 f1 f2 : FolderView) (before : List Entry) (e : Entry) → WritesAll holds stands broken w0 w1 n0 n1 v0 v1 root f0 f1 before
      → WritesEntry holds stands broken w1 w2 n1 n2 v1 v2 root f1 f2 e → WritesAll holds stands broken w0 w2 n0 n2 v0 v2 root f0 f2 (before ++ e ∷ [])
  tree_then w0 w1 w2 n0 n1 n2 v0 v1 v2 root f0 f1 f2 before e so one =
      let p : Place = record { path = e.path; item = item_read e.kind one.ts } in
      record {
        ts = so.ts ++ one.ts;
        places = so.places ++ p ∷ [];
        items = items_then before e so.ts one.ts so.places so.items one.refs_are;
        takes = takes_then holds stands broken law w0 w1 w2 n0 n1 n2 v0 v1 v2 so.ts one.ts so.takes one.takes;
        writes = writes_then root f0 f1 f2 so.places (p ∷ []) so.writes one.writes;
        grown = subst (λ (l : List FolderCall). Grows f0.folder_calls f2.folder_calls l)
            (ap (λ (l : List FolderCall). entries_calls root before ++ l) (sym (append-nil (entry_calls root e))) ∙ sym (calls-append root before (e ∷ [])))
            (grows_then f0.folder_calls f1.folder_calls f2.folder_calls (entries_calls root before) (entry_calls root e) so.grown one.grown);
      }

  pub tree_stopped : (w0 w1 w2 : Waiting) (n0 n1 n2 : Node L) (v0 v1 v2 : View) (root : List ℕ) (f0 f1 f2 : FolderView) (before after : List Entry) (e : Entry) (fault : RestoreFault) → WritesAll holds stands broken w0 w1 n0 n1 v0 v1 root f0 f1 before
      → StopsEntry holds stands broken w1 w2 n1 n2 v1 v2 root f1 f2 e fault → StopsTree holds stands broken w0 w2 n0 n2 v0 v2 root f0 f2 (before ++ e ∷ after) fault
  tree_stopped w0 w1 w2 n0 n1 n2 v0 v1 v2 root f0 f1 f2 before after e fault so s =
      let more = refs_of_files after in
      let next = s.next ++ more in
      record {
        ts = so.ts ++ s.ts;
        next = next;
        parts =
            files-append before (e ∷ after) ∙ ap (λ (l : List Ref). l ++ (refs_of_entry e.kind e.refs ++ more)) (sym (items_refs before so.ts so.places so.items))
            ∙ ap (λ (l : List Ref). taken_refs so.ts ++ (l ++ more)) s.parts ∙ ap (λ (l : List Ref). taken_refs so.ts ++ l) (append_assoc (taken_refs s.ts) s.next more)
            ∙ sym (append_assoc (taken_refs so.ts) (taken_refs s.ts) next) ∙ ap (λ (l : List Ref). l ++ next) (sym (refs-append so.ts s.ts));
        stops = stops_behind holds stands broken law w0 w1 w2 n0 n1 n2 v0 v1 v2 so.ts s.ts next fault so.takes (stops_before holds stands broken law w1 w2 n1 n2 v1 v2 s.ts s.next more fault s.stops);
        places = so.places ++ s.places;
        begun = record {
          front = before;
          e = e;
          behind = after;
          entries_are = refl;
          whole = so.ts;
          part = s.ts;
          taken_are = refl;
          written = so.places;
          last = s.places;
          places_are = refl;
          items = so.items;
          begun = s.begun;
        };
        writes = writes_then root f0 f1 f2 so.places s.places so.writes s.writes;
        tries = tries_further root f0 f1 f2 before after e so.grown s.tries;
      }
