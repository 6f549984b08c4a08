-- The bytes of a file, appended as they come.
use Rattle.std.proofs.Common.{◌≡◌, ℕ, Bool, false, List, [], ◌∷◌, ◌++◌, take, drop, Option, is_some, refl, sym, ◌∙◌, ap, subst, arith, append_assoc}
use Rattle.std.proofs.lemmas.Bool.{false≢true}
use Rattle.std.proofs.lemmas.List.{append-nil, map-append, take-append-drop}
use Rattle.psb_bytes.specs.declared.ids.Ref.{Ref}
use Rattle.psb_station.specs.View.{View}
use Rattle.psb_station.specs.Calls.{Grows}
use Rattle.psb_station.specs.Folder.{Content, FolderView, FolderCall, Appending, Tells_content, Tries}
use Rattle.node_journal.specs.Entry.{Entry}
use Rattle.psb_model.proofs.ByObject.{by_cases}
use Rattle.convergent_seal.specs.Sealing.{opened}
use Rattle.node_core.specs.declared.node.Node.{Node}
use Rattle.node_serve.proofs.Tries.{grows_none, grows_then}
use Rattle.snapshots.specs.Writing.{Adds, Writes, file_at}
use Rattle.snapshot_restore.specs.Taken.{Taken, taken_refs, taken_text}
use Rattle.snapshot_restore.specs.Fetching.{Stops}
use Rattle.snapshot_restore.specs.Written.{appends, TriesFirst, AppendsAll, IsAppended, StopsAppending}
use Rattle.snapshot_restore.specs.declared.fault.RestoreFault.{RestoreFault}
use Rattle.snapshot_restore.specs.declared.fault.RestoreFault.TheVariants as restore_fault
use Rattle.snapshot_restore.specs.declared.waiting.Waiting.{Waiting}
use Rattle.snapshot_restore.proofs.Lists.{refs-append, text-append}
use Rattle.snapshot_restore.proofs.Taking.{takes_none, takes_then, stops_behind, stopped_behind, stops_before}
use Rattle.snapshot_restore.proofs.TextRuns.{IsFetched}

-- ---- bytes that are added

adds_none : (f : FolderView) (at : List ℕ) → Adds f f at []
adds_none f at root path bytes first places is w = subst (λ (l : List ℕ). Writes root first f (places ++ file_at path l ∷ [])) (sym (append-nil bytes)) w

adds_then : (f0 f1 f2 : FolderView) (at a b : List ℕ) → Adds f0 f1 at a → Adds f1 f2 at b → Adds f0 f2 at (a ++ b)
adds_then f0 f1 f2 at a b x y root path bytes first places is w =
    subst (λ (l : List ℕ). Writes root first f2 (places ++ file_at path l ∷ [])) (append_assoc bytes a b) (y root path (bytes ++ a) first places is (x root path bytes first places is w))

adds_as : (f0 f1 : FolderView) (at a b : List ℕ) → a ≡ b → Adds f0 f1 at a → Adds f0 f1 at b
adds_as f0 f1 at a b same x = subst (λ (l : List ℕ). Adds f0 f1 at l) same x

-- a folder that tells nothing any more may have got any
adds_untold : (f0 f1 : FolderView) (call : FolderCall) (at a : List ℕ) → Tries call f0 f1 → is_some f1.content ≡ false → Adds f0 f1 at a
adds_untold f0 f1 call at a t untold root path bytes first places is w = record {
  tells = λ told. w.tells (t.tells told);
  content = λ c d was now. absurd (false≢true (sym untold ∙ ap (λ (o : Option Content). is_some o) now));
  no_fall = omega (arith, w.no_fall, t.no_fall);
}

-- some first bytes of a piece were added
record AddsPart (old new : FolderView) (at piece : List ℕ) : Type 0 where
  added : List ℕ
  left : List ℕ
  parts : piece ≡ added ++ left
  adds : Adds old new at added

adds_part : (old new : FolderView) (call : FolderCall) (at piece : List ℕ) → Tries call old new → (Tells_content new → (n : ℕ) × Adds old new at (take n piece)) → AddsPart old new at piece
adds_part old new call at piece t some = by_cases (is_some new.content)
    (λ told.
    let part = some told in
    record { added = take part.0 piece; left = drop part.0 piece; parts = sym (take-append-drop part.0 piece); adds = part.1 })
    (λ untold. record { added = []; left = piece; parts = refl; adds = adds_untold old new call at [] t untold })

-- ---- the calls

appends-append : (at : List ℕ) (a b : List Ref) → appends at (a ++ b) ≡ appends at a ++ appends at b
appends-append at a b = map-append {B = FolderCall} (λ (r : Ref). Appending at) a b

tries_front : (old new : FolderView) (at : List ℕ) (a b : List Ref) → Grows old.folder_calls new.folder_calls (appends at a) → TriesFirst old new (appends at (a ++ b))
tries_front old new at a b grown = record { tried = appends at a; left = appends at b; parts = appends-append at a b; grown = grown }

appends_more : (f0 f1 f2 : FolderView) (at : List ℕ) (before : List Ref) (r : Ref) → Grows f0.folder_calls f1.folder_calls (appends at before) → Tries (Appending at) f1 f2 → Grows f0.folder_calls f2.folder_calls (appends at (before ++ r ∷ []))
appends_more f0 f1 f2 at before r grown t =
    subst (λ (calls : List FolderCall). Grows f0.folder_calls f2.folder_calls calls) (sym (appends-append at before (r ∷ [])))
    (grows_then f0.folder_calls f1.folder_calls f2.folder_calls (appends at before) (Appending at ∷ []) grown t.calls)

-- ---- the places

one_more : (ts : List Taken) (t : Taken) (before : List Ref) (r : Ref) → taken_refs ts ≡ before → t.reference ≡ r → taken_refs (ts ++ t ∷ []) ≡ before ++ r ∷ []
one_more ts t before r are is = refs-append ts (t ∷ []) ∙ ap (λ (l : List Ref). l ++ t.reference ∷ []) are ∙ ap (λ (q : Ref). before ++ q ∷ []) is

text_more : (ts : List Taken) (t : Taken) (plain : List ℕ) → plain ≡ opened t.reference t.body → taken_text (ts ++ t ∷ []) ≡ taken_text ts ++ plain
text_more ts t plain is = text-append ts (t ∷ []) ∙ ap (λ (l : List ℕ). taken_text ts ++ l) (append-nil (opened t.reference t.body) ∙ sym is)

none_left : (e : RestoreFault) → IsAppended e []
none_left (restore_fault.Node f) = refl
none_left restore_fault.Link = refl
none_left restore_fault.Folder = tt
none_left restore_fault.NotEmpty = refl
none_left (restore_fault.Missing name) = refl
none_left (restore_fault.Altered name got) = refl
none_left (restore_fault.BadSkeleton f place) = refl
none_left restore_fault.Memory = refl

module _ {L : Type 0} (holds : L → List Entry → List ℕ → Type 0) (stands : List Entry → List ℕ → Type 0) (broken : L → Bool) (law : (log : L) (es : List Entry) (c : List ℕ) → holds log es c → stands es c) where
  pub appends_none : (w : Waiting) (node : Node L) (v : View) (f : FolderView) (at : List ℕ) → broken node.log ≡ false → AppendsAll holds stands broken w w node node v v f f at []
  appends_none w node v f at sound = record {
    ts = [];
    refs_are = refl;
    takes = takes_none holds stands broken law w node v sound;
    adds = adds_none f at;
    grown = grows_none f.folder_calls;
  }

  pub appends_then : (w0 w1 w2 : Waiting) (n0 n1 n2 : Node L) (v0 v1 v2 : View) (f0 f1 f2 : FolderView) (at : List ℕ) (before : List Ref) (r : Ref) (plain : List ℕ) → AppendsAll holds stands broken w0 w1 n0 n1 v0 v1 f0 f1 at before
      → IsFetched holds stands broken w1 w2 n1 n2 v1 v2 r plain → Adds f1 f2 at plain → Tries (Appending at) f1 f2 → AppendsAll holds stands broken w0 w2 n0 n2 v0 v2 f0 f2 at (before ++ r ∷ [])
  appends_then w0 w1 w2 n0 n1 n2 v0 v1 v2 f0 f1 f2 at before r plain so f adds t = record {
    ts = so.ts ++ f.0 ∷ [];
    refs_are = one_more so.ts f.0 before r so.refs_are f.1;
    takes = takes_then holds stands broken law w0 w1 w2 n0 n1 n2 v0 v1 v2 so.ts (f.0 ∷ []) so.takes f.3;
    adds = adds_as f0 f2 at (taken_text so.ts ++ plain) (taken_text (so.ts ++ f.0 ∷ [])) (sym (text_more so.ts f.0 plain f.2)) (adds_then f0 f1 f2 at (taken_text so.ts) plain so.adds adds);
    grown = appends_more f0 f1 f2 at before r so.grown t;
  }

  -- the next place got no body
  pub appends_stopped : (w0 w1 w2 : Waiting) (n0 n1 n2 : Node L) (v0 v1 v2 : View) (f0 f1 : FolderView) (at : List ℕ) (before after : List Ref) (r : Ref) (e : RestoreFault) → AppendsAll holds stands broken w0 w1 n0 n1 v0 v1 f0 f1 at before
      → Stops holds stands broken w1 w2 n1 n2 v1 v2 [] (r ∷ []) e → StopsAppending holds stands broken w0 w2 n0 n2 v0 v2 f0 f1 at (before ++ r ∷ after) e
  appends_stopped w0 w1 w2 n0 n1 n2 v0 v1 v2 f0 f1 at before after r e so s = record {
    ts = so.ts;
    next = r ∷ after;
    parts = ap (λ (l : List Ref). l ++ r ∷ after) (sym so.refs_are);
    stops = subst (λ (l : List Taken). Stops holds stands broken w0 w2 n0 n2 v0 v2 l (r ∷ after) e) (append-nil so.ts)
        (stops_behind holds stands broken law w0 w1 w2 n0 n1 n2 v0 v1 v2 so.ts [] (r ∷ after) e so.takes (stops_before holds stands broken law w1 w2 n1 n2 v1 v2 [] (r ∷ []) after e s));
    added = taken_text so.ts;
    left = [];
    text_is = sym (append-nil (taken_text so.ts));
    appended = none_left e;
    adds = so.adds;
    tries = tries_front f0 f1 at before (r ∷ after) so.grown;
  }

  -- its body came, and the folder failed
  pub appends_failed : (w0 w1 w2 : Waiting) (n0 n1 n2 : Node L) (v0 v1 v2 : View) (f0 f1 f2 : FolderView) (at : List ℕ) (before after : List Ref) (r : Ref) (plain : List ℕ) → AppendsAll holds stands broken w0 w1 n0 n1 v0 v1 f0 f1 at before
      → IsFetched holds stands broken w1 w2 n1 n2 v1 v2 r plain → (Tells_content f2 → (n : ℕ) × Adds f1 f2 at (take n plain)) → Tries (Appending at) f1 f2
      → StopsAppending holds stands broken w0 w2 n0 n2 v0 v2 f0 f2 at (before ++ r ∷ after) restore_fault.Folder
  appends_failed w0 w1 w2 n0 n1 n2 v0 v1 v2 f0 f1 f2 at before after r plain so f some t =
      let ts = so.ts ++ f.0 ∷ [] in
      let part = adds_part f1 f2 (Appending at) at plain t some in
      let whole : before ++ r ∷ after ≡ (before ++ r ∷ []) ++ after = sym (append_assoc before (r ∷ []) after) in
      record {
        ts = ts;
        next = after;
        parts = whole ∙ ap (λ (l : List Ref). l ++ after) (sym (one_more so.ts f.0 before r so.refs_are f.1));
        stops = stopped_behind holds stands broken law w0 w2 n0 n2 v0 v2 ts after restore_fault.Folder tt (takes_then holds stands broken law w0 w1 w2 n0 n1 n2 v0 v1 v2 so.ts (f.0 ∷ []) so.takes f.3);
        added = taken_text so.ts ++ part.added;
        left = part.left;
        text_is = text_more so.ts f.0 plain f.2 ∙ ap (λ (l : List ℕ). taken_text so.ts ++ l) part.parts ∙ sym (append_assoc (taken_text so.ts) part.added part.left);
        appended = tt;
        adds = adds_then f0 f1 f2 at (taken_text so.ts) part.added so.adds part.adds;
        tries = subst (λ (l : List Ref). TriesFirst f0 f2 (appends at l)) (sym whole) (tries_front f0 f2 at (before ++ r ∷ []) after (appends_more f0 f1 f2 at before r so.grown t));
      }
