-- An entry that is made below the root.
use Rattle.std.proofs.Common.{◌≡◌, inl, inr, ℕ, Bool, false, List, [], ◌∷◌, refl, sym, ◌∙◌, ap, subst}
use Rattle.psb_bytes.specs.declared.ids.Ref.{Ref}
use Rattle.psb_station.specs.View.{View}
use Rattle.psb_station.specs.Calls.{Grows}
use Rattle.psb_station.specs.Folder.{FolderView, FolderCall, Tries, child}
use Rattle.node_journal.specs.Entry.{Entry as ARecord}
use Rattle.node_core.specs.declared.node.Node.{Node}
use Rattle.node_serve.proofs.Tries.{grows_none, grows_then}
use Rattle.skeleton.specs.declared.entry.Entry.{Entry}
use Rattle.skeleton.specs.declared.entry.EntryKind.{EntryKind}
use Rattle.skeleton.specs.declared.entry.EntryKind.TheVariants as kind
use Rattle.snapshots.specs.Meaning.{Item, Place}
use Rattle.snapshots.specs.Writing.{Writes, empty_of, made_at, making, file_at}
use Rattle.snapshots.specs.declared.writing.WriteFault.{WriteFault}
use Rattle.snapshots.specs.declared.writing.WriteFault.TheVariants as write_fault
use Rattle.snapshot_restore.specs.Taken.{taken_text}
use Rattle.snapshot_restore.specs.Faults.{of_writing}
use Rattle.snapshot_restore.specs.Reading.{refs_of_entry, item_read}
use Rattle.snapshot_restore.specs.Written.{appends, item_begun, TriesFirst, AppendsAll, StopsAppending, WritesEntry, StopsEntry}
use Rattle.snapshot_restore.specs.declared.fault.RestoreFault.{RestoreFault}
use Rattle.snapshot_restore.specs.declared.waiting.Waiting.{Waiting}
use Rattle.snapshot_restore.proofs.Taking.{IsQuiet, takes_none, stops_none}

-- ---- the calls

-- a call was tried, or none
tries_or_none : (f0 f1 : FolderView) (call : FolderCall) (calls : List FolderCall) (fault : WriteFault) → (fault ≡ write_fault.Folder → Tries call f0 f1) → (fault ≡ write_fault.Memory → f1 ≡ f0) → TriesFirst f0 f1 (call ∷ calls)
tries_or_none f0 f1 call calls write_fault.Folder failed idle = record { tried = call ∷ []; left = calls; parts = refl; grown = (failed refl).calls }
tries_or_none f0 f1 call calls write_fault.Memory failed idle = record {
  tried = [];
  left = call ∷ calls;
  parts = refl;
  grown = subst (λ (f : FolderView). Grows f0.folder_calls f.folder_calls []) (sym (idle refl)) (grows_none f0.folder_calls);
}

tries_behind : (f0 f1 f2 : FolderView) (call : FolderCall) (calls : List FolderCall) → Tries call f0 f1 → TriesFirst f1 f2 calls → TriesFirst f0 f2 (call ∷ calls)
tries_behind f0 f1 f2 call calls t first = record {
  tried = call ∷ first.tried;
  left = first.left;
  parts = ap (λ (l : List FolderCall). call ∷ l) first.parts;
  grown = grows_then f0.folder_calls f1.folder_calls f2.folder_calls (call ∷ []) first.tried t.calls first.grown;
}

writing_quiet : (fault : WriteFault) → IsQuiet (of_writing fault)
writing_quiet write_fault.Folder = tt
writing_quiet write_fault.Memory = tt

-- ---- what stands there

-- an item at the path of an entry
abbrev item_at : Entry → Item → Place
item_at e item = record { path = e.path; item = item }

writes_as : (root : List ℕ) (f0 f1 : FolderView) (e : Entry) (a b : Item) → a ≡ b → Writes root f0 f1 (item_at e a ∷ []) → Writes root f0 f1 (item_at e b ∷ [])
writes_as root f0 f1 e a b same w = subst (λ (x : Item). Writes root f0 f1 (item_at e x ∷ [])) same w

-- a file, with the bytes that were added to it
file_added : (root : List ℕ) (f0 f1 f2 : FolderView) (e : Entry) (bytes : List ℕ) → e.kind ≡ kind.File → Writes root f0 f1 (made_at e.path e.kind ∷ [])
    → (Writes root f0 f1 (file_at e.path [] ∷ []) → Writes root f0 f2 (file_at e.path bytes ∷ [])) → Writes root f0 f2 (file_at e.path bytes ∷ [])
file_added root f0 f1 f2 e bytes is w adds = adds (writes_as root f0 f1 e (empty_of e.kind) (empty_of kind.File) (ap empty_of is) w)

module _ {L : Type 0} (holds : L → List ARecord → List ℕ → Type 0) (stands : List ARecord → List ℕ → Type 0) (broken : L → Bool) (law : (log : L) (es : List ARecord) (c : List ℕ) → holds log es c → stands es c) where
  -- it could not be made
  pub entry_refused : (w : Waiting) (node : Node L) (v : View) (root : List ℕ) (f0 f1 : FolderView) (e : Entry) (fault : WriteFault) → broken node.log ≡ false → Writes root f0 f1 []
      → (fault ≡ write_fault.Folder → Tries (making e.kind (child root e.path)) f0 f1) → (fault ≡ write_fault.Memory → f1 ≡ f0)
      → StopsEntry holds stands broken w w node node v v root f0 f1 e (of_writing fault)
  entry_refused w node v root f0 f1 e fault sound writes failed idle = record {
    ts = [];
    next = refs_of_entry e.kind e.refs;
    parts = refl;
    stops = stops_none holds stands broken law w node v (refs_of_entry e.kind e.refs) (of_writing fault) sound (writing_quiet fault);
    places = [];
    begun = inl (refl, refl);
    writes = writes;
    tries = tries_or_none f0 f1 (making e.kind (child root e.path)) (appends (child root e.path) (refs_of_entry e.kind e.refs)) fault failed idle;
  }

  pub folder_written : (w : Waiting) (node : Node L) (v : View) (root : List ℕ) (f0 f1 : FolderView) (e : Entry) → broken node.log ≡ false → e.kind ≡ kind.Folder → Writes root f0 f1 (made_at e.path e.kind ∷ [])
      → Tries (making e.kind (child root e.path)) f0 f1 → WritesEntry holds stands broken w w node node v v root f0 f1 e
  folder_written w node v root f0 f1 e sound is writes t =
      let none : [] ≡ refs_of_entry e.kind e.refs = sym (ap (λ (k : EntryKind). refs_of_entry k e.refs) is) in
      record {
        ts = [];
        refs_are = none;
        takes = takes_none holds stands broken law w node v sound;
        writes = writes_as root f0 f1 e (empty_of e.kind) (item_read e.kind []) (ap empty_of is ∙ sym (ap (λ (k : EntryKind). item_read k []) is)) writes;
        grown = subst (λ (l : List Ref). Grows f0.folder_calls f1.folder_calls (making e.kind (child root e.path) ∷ appends (child root e.path) l)) none t.calls;
      }

  pub file_written : (w0 w1 : Waiting) (n0 n1 : Node L) (v0 v1 : View) (root : List ℕ) (f0 f1 f2 : FolderView) (e : Entry) → e.kind ≡ kind.File → Writes root f0 f1 (made_at e.path e.kind ∷ [])
      → Tries (making e.kind (child root e.path)) f0 f1 → AppendsAll holds stands broken w0 w1 n0 n1 v0 v1 f1 f2 (child root e.path) e.refs → WritesEntry holds stands broken w0 w1 n0 n1 v0 v1 root f0 f2 e
  file_written w0 w1 n0 n1 v0 v1 root f0 f1 f2 e is writes t a =
      let at = child root e.path in
      let all : e.refs ≡ refs_of_entry e.kind e.refs = sym (ap (λ (k : EntryKind). refs_of_entry k e.refs) is) in
      record {
        ts = a.ts;
        refs_are = a.refs_are ∙ all;
        takes = a.takes;
        writes = subst (λ (k : EntryKind). Writes root f0 f2 (item_at e (item_read k a.ts) ∷ [])) (sym is)
            (file_added root f0 f1 f2 e (taken_text a.ts) is writes (λ w. a.adds root e.path [] f0 [] refl w));
        grown = subst (λ (l : List Ref). Grows f0.folder_calls f2.folder_calls (making e.kind at ∷ appends at l)) all
            (grows_then f0.folder_calls f1.folder_calls f2.folder_calls (making e.kind at ∷ []) (appends at e.refs) t.calls a.grown);
      }

  pub file_stopped : (w0 w1 : Waiting) (n0 n1 : Node L) (v0 v1 : View) (root : List ℕ) (f0 f1 f2 : FolderView) (e : Entry) (fault : RestoreFault) → e.kind ≡ kind.File → Writes root f0 f1 (made_at e.path e.kind ∷ [])
      → Tries (making e.kind (child root e.path)) f0 f1 → StopsAppending holds stands broken w0 w1 n0 n1 v0 v1 f1 f2 (child root e.path) e.refs fault
      → StopsEntry holds stands broken w0 w1 n0 n1 v0 v1 root f0 f2 e fault
  file_stopped w0 w1 n0 n1 v0 v1 root f0 f1 f2 e fault is writes t s =
      let at = child root e.path in
      let all : e.refs ≡ refs_of_entry e.kind e.refs = sym (ap (λ (k : EntryKind). refs_of_entry k e.refs) is) in
      record {
        ts = s.ts;
        next = s.next;
        parts = sym all ∙ s.parts;
        stops = s.stops;
        places = file_at e.path s.added ∷ [];
        begun = inr (s.added, s.left, s.text_is, s.appended, sym (ap (λ (k : EntryKind). item_at e (item_begun k s.added) ∷ []) is));
        writes = file_added root f0 f1 f2 e s.added is writes (λ w. s.adds root e.path [] f0 [] refl w);
        tries = subst (λ (l : List Ref). TriesFirst f0 f2 (making e.kind at ∷ appends at l)) all (tries_behind f0 f1 f2 (making e.kind at) (appends at e.refs) t s.tries);
      }
