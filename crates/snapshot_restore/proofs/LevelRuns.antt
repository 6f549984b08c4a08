-- The texts of a snapshot, one behind another.
use Rattle.std.proofs.Common.{◌≡◌, inl, inr, ⊎_elim, ℕ, suc, Bool, List, [], ◌++◌, Err, refl, sym, ◌∙◌}
use Rattle.std.proofs.lemmas.List.{append-nil}
use Rattle.psb_bytes.specs.declared.ids.Ref.{Ref}
use Rattle.psb_station.specs.View.{View}
use Rattle.node_journal.specs.Entry.{Entry}
use Rattle.node_core.specs.declared.node.Node.{Node}
use Rattle.skeleton.specs.declared.faults.SkelFault.{SkelFault}
use Rattle.skeleton.specs.Reading.{skeleton_of, refs_of}
use Rattle.snapshot_restore.specs.Taken.{Taken, taken_refs, taken_text}
use Rattle.snapshot_restore.specs.Reading.{IsRead, IsListRead, AreFirst, StopsInText}
use Rattle.snapshot_restore.specs.Fetching.{Takes}
use Rattle.snapshot_restore.specs.StoppedTexts.{StopsInList, StopsList, StopsLevels}
use Rattle.snapshot_restore.specs.declared.fault.RestoreFault.{RestoreFault}
use Rattle.snapshot_restore.specs.declared.fault.RestoreFault.TheVariants as restore_fault
use Rattle.snapshot_restore.specs.declared.waiting.Waiting.{Waiting}
use Rattle.snapshot_restore.proofs.Taking.{stops_behind, stopped_behind}

-- all places were read
all_read : (refs : List Ref) (ts : List Taken) → IsRead refs ts → AreFirst refs ts []
all_read refs ts read = record { places = sym read.places ∙ sym (append-nil (taken_refs ts)); fits = read.fits }

-- where a list stopped, the texts did
at_list : (levels : ℕ) (refs : List Ref) (ts : List Taken) (next : List Ref) (e : RestoreFault) → StopsInList refs ts next e → StopsInText (suc levels) refs ts next e
at_list levels refs ts next (restore_fault.Node f) is = inl is
at_list levels refs ts next restore_fault.Link is = inl is
at_list levels refs ts next restore_fault.Folder is = inl is
at_list levels refs ts next restore_fault.NotEmpty is = inl is
at_list levels refs ts next (restore_fault.Missing n) is = inl is
at_list levels refs ts next (restore_fault.Altered n got) is = inl is
at_list levels refs ts next (restore_fault.BadSkeleton f place) is = (⊎_elim (λ long. inl long) (λ none. inr (inl none)) is.0, is.1)
at_list levels refs ts next restore_fault.Memory is = inl is

-- and where one behind a list did
behind_list : (levels : ℕ) (refs : List Ref) (front behind : List Taken) (list next : List Ref) (e : RestoreFault) → IsListRead refs front list → StopsInText levels list behind next e → StopsInText (suc levels) refs (front ++ behind) next e
behind_list levels refs front behind list next (restore_fault.Node f) read is = inr (front, behind, list, refl, read, is)
behind_list levels refs front behind list next restore_fault.Link read is = inr (front, behind, list, refl, read, is)
behind_list levels refs front behind list next restore_fault.Folder read is = inr (front, behind, list, refl, read, is)
behind_list levels refs front behind list next restore_fault.NotEmpty read is = inr (front, behind, list, refl, read, is)
behind_list levels refs front behind list next (restore_fault.Missing n) read is = inr (front, behind, list, refl, read, is)
behind_list levels refs front behind list next (restore_fault.Altered n got) read is = inr (front, behind, list, refl, read, is)
behind_list levels refs front behind list next (restore_fault.BadSkeleton f place) read is = (inr (inr (front, behind, list, refl, read, is.0)), is.1)
behind_list levels refs front behind list next restore_fault.Memory read is = inr (front, behind, list, refl, read, is)

module _ {L : Type 0} (holds : L → List Entry → List ℕ → Type 0) (stands : List Entry → List ℕ → Type 0) (broken : L → Bool) (law : (log : L) (es : List Entry) (c : List ℕ) → holds log es c → stands es c) where
  pub list_bad : (w0 w1 : Waiting) (n0 n1 : Node L) (v0 v1 : View) (refs : List Ref) (ts : List Taken) (f : SkelFault) (place : ℕ) → IsRead refs ts → refs_of (taken_text ts) ≡ Err (record { fault = f; place = place }) → Takes holds stands broken w0 w1 n0 n1 v0 v1 ts
      → StopsList holds stands broken w0 w1 n0 n1 v0 v1 refs (restore_fault.BadSkeleton f place)
  list_bad w0 w1 n0 n1 v0 v1 refs ts f place are bad r = record {
    ts = ts;
    next = [];
    here = (inr (are, bad), refl);
    stops = stopped_behind holds stands broken law w0 w1 n0 n1 v0 v1 ts [] (restore_fault.BadSkeleton f place) tt r;
  }

  pub list_failed : (w0 w1 : Waiting) (n0 n1 : Node L) (v0 v1 : View) (refs : List Ref) (ts : List Taken) → IsRead refs ts → Takes holds stands broken w0 w1 n0 n1 v0 v1 ts → StopsList holds stands broken w0 w1 n0 n1 v0 v1 refs restore_fault.Memory
  list_failed w0 w1 n0 n1 v0 v1 refs ts are r = record {
    ts = ts;
    next = [];
    here = all_read refs ts are;
    stops = stopped_behind holds stands broken law w0 w1 n0 n1 v0 v1 ts [] restore_fault.Memory tt r;
  }

  pub skeleton_bad : (w0 w1 : Waiting) (n0 n1 : Node L) (v0 v1 : View) (refs : List Ref) (ts : List Taken) (f : SkelFault) (place : ℕ) → IsRead refs ts → skeleton_of (taken_text ts) ≡ Err (record { fault = f; place = place }) → Takes holds stands broken w0 w1 n0 n1 v0 v1 ts
      → StopsLevels holds stands broken w0 w1 n0 n1 v0 v1 0 refs (restore_fault.BadSkeleton f place)
  skeleton_bad w0 w1 n0 n1 v0 v1 refs ts f place are bad r = record {
    ts = ts;
    next = [];
    here = (inr (are, bad), refl);
    stops = stopped_behind holds stands broken law w0 w1 n0 n1 v0 v1 ts [] (restore_fault.BadSkeleton f place) tt r;
  }

  pub skeleton_failed : (w0 w1 : Waiting) (n0 n1 : Node L) (v0 v1 : View) (refs : List Ref) (ts : List Taken) → IsRead refs ts → Takes holds stands broken w0 w1 n0 n1 v0 v1 ts → StopsLevels holds stands broken w0 w1 n0 n1 v0 v1 0 refs restore_fault.Memory
  skeleton_failed w0 w1 n0 n1 v0 v1 refs ts are r = record {
    ts = ts;
    next = [];
    here = all_read refs ts are;
    stops = stopped_behind holds stands broken law w0 w1 n0 n1 v0 v1 ts [] restore_fault.Memory tt r;
  }

  -- the first list was not read
  pub levels_cut : (w0 w1 : Waiting) (n0 n1 : Node L) (v0 v1 : View) (levels : ℕ) (refs : List Ref) (e : RestoreFault) → StopsList holds stands broken w0 w1 n0 n1 v0 v1 refs e → StopsLevels holds stands broken w0 w1 n0 n1 v0 v1 (suc levels) refs e
  levels_cut w0 w1 n0 n1 v0 v1 levels refs e s = record { ts = s.ts; next = s.next; here = at_list levels refs s.ts s.next e s.here; stops = s.stops }

  -- a list was read, and what is behind it not
  pub levels_stopped : (w0 w1 w2 : Waiting) (n0 n1 n2 : Node L) (v0 v1 v2 : View) (levels : ℕ) (refs : List Ref) (front : List Taken) (next : List Ref) (e : RestoreFault) → IsListRead refs front next → Takes holds stands broken w0 w1 n0 n1 v0 v1 front
      → StopsLevels holds stands broken w1 w2 n1 n2 v1 v2 levels next e → StopsLevels holds stands broken w0 w2 n0 n2 v0 v2 (suc levels) refs e
  levels_stopped w0 w1 w2 n0 n1 n2 v0 v1 v2 levels refs front next e read r s = record {
    ts = front ++ s.ts;
    next = s.next;
    here = behind_list levels refs front s.ts next s.next e read s.here;
    stops = stops_behind holds stands broken law w0 w1 w2 n0 n1 n2 v0 v1 v2 front s.ts s.next e r s.stops;
  }
