-- The text of some refs, read one after another.
use Rattle.std.proofs.Common.{◌≡◌, ℕ, ◌≤◌, Bool, false, List, [], ◌∷◌, ◌++◌, refl, sym, ◌∙◌, ap, subst}
use Rattle.std.proofs.lemmas.List.{append-nil}
use Rattle.psb_bytes.specs.declared.ids.Ref.{Ref}
use Rattle.convergent_seal.specs.Sealing.{opened}
use Rattle.skeleton.specs.declared.limits.TheConstants.{MOST_TEXT_BYTES}
use Rattle.skeleton.specs.Entries.{total}
use Rattle.psb_station.specs.View.{View}
use Rattle.node_journal.specs.Entry.{Entry}
use Rattle.node_core.specs.declared.node.Node.{Node}
use Rattle.snapshot_restore.specs.Taken.{Taken, taken_refs, taken_text}
use Rattle.snapshot_restore.specs.Faults.{IsOfPlace}
use Rattle.snapshot_restore.specs.Fetching.{Takes, Stops}
use Rattle.snapshot_restore.specs.Reading.{AreFirst}
use Rattle.snapshot_restore.specs.StoppedTexts.{StopsInOne, StopsText}
use Rattle.snapshot_restore.specs.declared.fault.RestoreFault.{RestoreFault}
use Rattle.snapshot_restore.specs.declared.fault.RestoreFault.TheVariants as restore_fault
use Rattle.snapshot_restore.specs.declared.waiting.Waiting.{Waiting}
use Rattle.snapshot_restore.proofs.Lists.{refs-append, text-append}
use Rattle.snapshot_restore.proofs.Taking.{takes_none, takes_then, stops_behind, stopped_behind, stops_before}

stops_in_one : (refs : List Ref) (ts : List Taken) (next : List Ref) (e : RestoreFault) → IsOfPlace e → AreFirst refs ts next → StopsInOne refs ts next e
stops_in_one refs ts next (restore_fault.Node f) is first = first
stops_in_one refs ts next restore_fault.Link is first = first
stops_in_one refs ts next restore_fault.Folder is first = first
stops_in_one refs ts next restore_fault.NotEmpty is first = first
stops_in_one refs ts next (restore_fault.Missing n) is first = first
stops_in_one refs ts next (restore_fault.Altered n got) is first = first
stops_in_one refs ts next (restore_fault.BadSkeleton f place) is first = absurd is
stops_in_one refs ts next restore_fault.Memory is first = first

-- the places of these refs were read, and this is their text
pub record ReadsText {L : Type 0} (holds : L → List Entry → List ℕ → Type 0) (stands : List Entry → List ℕ → Type 0) (broken : L → Bool) (w0 w1 : Waiting) (n0 n1 : Node L) (v0 v1 : View) (refs : List Ref) (text : List ℕ) : Type 0 where
  pub ts : List Taken
  pub refs_are : taken_refs ts ≡ refs
  pub text_is : text ≡ taken_text ts
  pub takes : Takes holds stands broken w0 w1 n0 n1 v0 v1 ts

-- one body
abbrev pub IsFetched : {L : Type 0} → (L → List Entry → List ℕ → Type 0) → (List Entry → List ℕ → Type 0) → (L → Bool) → Waiting → Waiting → Node L → Node L → View → View → Ref → List ℕ → Type 0
IsFetched holds stands broken w0 w1 n0 n1 v0 v1 r plain = (t : Taken) × (t.reference ≡ r) × (plain ≡ opened t.reference t.body) × Takes holds stands broken w0 w1 n0 n1 v0 v1 (t ∷ [])

module _ {L : Type 0} (holds : L → List Entry → List ℕ → Type 0) (stands : List Entry → List ℕ → Type 0) (broken : L → Bool) (law : (log : L) (es : List Entry) (c : List ℕ) → holds log es c → stands es c) where
  pub text_none : (w : Waiting) (node : Node L) (v : View) (text : List ℕ) → broken node.log ≡ false → text ≡ [] → ReadsText holds stands broken w w node node v v [] text
  text_none w node v text sound is = record { ts = []; refs_are = refl; text_is = is; takes = takes_none holds stands broken law w node v sound }

  pub text_then : (w0 w1 w2 : Waiting) (n0 n1 n2 : Node L) (v0 v1 v2 : View) (before : List Ref) (r : Ref) (text plain all : List ℕ) → all ≡ text ++ plain → ReadsText holds stands broken w0 w1 n0 n1 v0 v1 before text
      → IsFetched holds stands broken w1 w2 n1 n2 v1 v2 r plain → ReadsText holds stands broken w0 w2 n0 n2 v0 v2 (before ++ r ∷ []) all
  text_then w0 w1 w2 n0 n1 n2 v0 v1 v2 before r text plain all is so f =
      let t = f.0 in
      record {
        ts = so.ts ++ t ∷ [];
        refs_are = refs-append so.ts (t ∷ []) ∙ ap (λ (l : List Ref). l ++ t.reference ∷ []) so.refs_are ∙ ap (λ (q : Ref). before ++ q ∷ []) f.1;
        text_is =
            is ∙ ap (λ (l : List ℕ). l ++ plain) so.text_is ∙ ap (λ (l : List ℕ). taken_text so.ts ++ l) (f.2 ∙ sym (append-nil (opened t.reference t.body)))
            ∙ sym (text-append so.ts (t ∷ []));
        takes = takes_then holds stands broken law w0 w1 w2 n0 n1 n2 v0 v1 v2 so.ts (t ∷ []) so.takes f.3;
      }

  -- the next place got no body
  pub text_stopped : (w0 w1 w2 : Waiting) (n0 n1 n2 : Node L) (v0 v1 v2 : View) (before after : List Ref) (r : Ref) (text : List ℕ) (e : RestoreFault) → total (before ++ r ∷ after) ≤ MOST_TEXT_BYTES → IsOfPlace e → ReadsText holds stands broken w0 w1 n0 n1 v0 v1 before text
      → Stops holds stands broken w1 w2 n1 n2 v1 v2 [] (r ∷ []) e → StopsText holds stands broken w0 w2 n0 n2 v0 v2 (before ++ r ∷ after) e
  text_stopped w0 w1 w2 n0 n1 n2 v0 v1 v2 before after r text e fits of_place so s = record {
    ts = so.ts;
    next = r ∷ after;
    here = stops_in_one (before ++ r ∷ after) so.ts (r ∷ after) e of_place (record { places = ap (λ (l : List Ref). l ++ r ∷ after) (sym so.refs_are); fits = fits });
    stops = subst (λ (l : List Taken). Stops holds stands broken w0 w2 n0 n2 v0 v2 l (r ∷ after) e) (append-nil so.ts)
        (stops_behind holds stands broken law w0 w1 w2 n0 n1 n2 v0 v1 v2 so.ts [] (r ∷ after) e so.takes (stops_before holds stands broken law w1 w2 n1 n2 v1 v2 [] (r ∷ []) after e s));
  }

  -- something else failed behind it
  pub text_failed : (w0 w1 : Waiting) (n0 n1 : Node L) (v0 v1 : View) (before after : List Ref) (text : List ℕ) → total (before ++ after) ≤ MOST_TEXT_BYTES → ReadsText holds stands broken w0 w1 n0 n1 v0 v1 before text
      → StopsText holds stands broken w0 w1 n0 n1 v0 v1 (before ++ after) restore_fault.Memory
  text_failed w0 w1 n0 n1 v0 v1 before after text fits so = record {
    ts = so.ts;
    next = after;
    here = record { places = ap (λ (l : List Ref). l ++ after) (sym so.refs_are); fits = fits };
    stops = stopped_behind holds stands broken law w0 w1 n0 n1 v0 v1 so.ts after restore_fault.Memory tt so.takes;
  }
