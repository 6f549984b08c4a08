-- A restore, part by part.
use Rattle.std.proofs.Common.{◌≡◌, inl, inr, ⊎_elim, ℕ, Bool, true, false, List, [], ◌∷◌, ◌++◌, Option, Some, None, IfSome, is_some, sum_by, Ok, refl, sym, ◌∙◌, ap, subst, arith}
use Rattle.std.proofs.lemmas.Bool.{false≢true}
use Rattle.psb_bytes.specs.declared.ids.Ref.{Ref}
use Rattle.psb_bytes.specs.declared.ids.Ticket.{Ticket}
use Rattle.psb_station.specs.View.{View}
use Rattle.psb_station.specs.Folder.{Content, FolderView, FolderCall, Listing, Tells_content, Tries, Lists}
use Rattle.psb_station.proofs.Spans.{at_some}
use Rattle.node_journal.specs.Entry.{Entry as ARecord}
use Rattle.psb_settings.specs.declared.settings.Settings.{Settings}
use Rattle.psb_model.specs.State.{State}
use Rattle.psb_model.specs.History.{state}
use Rattle.psb_machine.specs.Machine.{Situation}
use Rattle.psb_machine.specs.Commands.{peer_ids}
use Rattle.node_core.specs.declared.node.Node.{Node}
use Rattle.node_core.specs.Stored.{Knows, Stored}
use Rattle.node_serve.specs.Spans.{no_tally}
use Rattle.node_serve.specs.Turns.{peers_in}
use Rattle.node_serve.proofs.Runs.{counts_same, hears_none, fed_none, uncounted, by_whole}
use Rattle.node_serve.proofs.Tries.{grows_none, grows_then}
use Rattle.skeleton.specs.declared.entry.Entry.{Entry}
use Rattle.skeleton.specs.Reading.{skeleton_of}
use Rattle.snapshots.specs.Counts.{one_file, one_folder, its_bytes}
use Rattle.snapshots.specs.Meaning.{Place}
use Rattle.snapshots.specs.Trees.{IsTree}
use Rattle.snapshots.specs.Writing.{Writes}
use Rattle.snapshots.proofs.GotReads.{reads_the_meaning, bad_texts_are_met}
use Rattle.snapshots.proofs.GotTrees.{read_trees_are_in_place, read_trees_are_counted}
use Rattle.snapshots.proofs.Written.{writings_are_trees, empty_folders_are_bare}
use Rattle.snapshot_restore.specs.Course.{Fetch}
use Rattle.snapshot_restore.specs.Taken.{Taken, taken_uses, AllOpen}
use Rattle.snapshot_restore.specs.Faults.{IsOfText, IsOfTree, IsOfBelow}
use Rattle.snapshot_restore.specs.Fetching.{Begins, Takes, TakesAll, Spends, Stops, StopsAll}
use Rattle.snapshot_restore.specs.Reading.{IsTextRead, StopsInText, IsTreeRead, AreInFiles, StopsAt}
use Rattle.snapshot_restore.specs.StoppedTexts.{StopsLevels}
use Rattle.snapshot_restore.specs.Written.{entries_calls, TriesFirst, WritesAll, StopsTree}
use Rattle.snapshot_restore.specs.Restored.{HearsAll, MakesTree, RestoresBelow, CountsTree, IsRestored, FoundEmpty, Restores, IsLeft, StopsBelow, IsMetBy, IsAtOnce, StopsRestore}
use Rattle.snapshot_restore.specs.declared.fault.RestoreFault.{RestoreFault}
use Rattle.snapshot_restore.specs.declared.fault.RestoreFault.TheVariants as restore_fault
use Rattle.snapshot_restore.specs.declared.restoring.Restored.{Restored}
use Rattle.snapshot_restore.specs.declared.waiting.Waiting.{Waiting}
use Rattle.snapshot_restore.proofs.GotTaken.{tree_got, bad_got}
use Rattle.snapshot_restore.proofs.Taking.{IsQuiet, quiet_spends, quiet_in_vain, takes_then, stops_behind}

-- ---- before anything is read

pub writes_none : (root : List ℕ) (v : FolderView) → Writes root v v []
writes_none root v = record { tells = λ told. told; content = λ c d is now. same_ v.content c d is now; no_fall = omega arith }
  where
    same_ : (o : Option Content) (c d : Content) → o ≡ Some c → o ≡ Some d → d ≡ c
    same_ o c d a b = cc

pub tries_none : (v : FolderView) → TriesFirst v v []
tries_none v = record { tried = []; left = []; parts = refl; grown = grows_none v.folder_calls }

hears_nothing : (v : View) → HearsAll v v []
hears_nothing v = record { hears = hears_none v; tells = λ told. told; counts = counts_same v }

-- where the texts stopped, and where the tree did
at_text : (t : Ticket) (ts : List Taken) (next : List Ref) (e : RestoreFault) → IsOfText e → StopsInText t.levels (t.reference ∷ []) ts next e → StopsAt t ts next e
at_text t ts next (restore_fault.Node f) is here = inl here
at_text t ts next restore_fault.Link is here = inl here
at_text t ts next restore_fault.Folder is here = absurd is
at_text t ts next restore_fault.NotEmpty is here = absurd is
at_text t ts next (restore_fault.Missing n) is here = inl here
at_text t ts next (restore_fault.Altered n got) is here = inl here
at_text t ts next (restore_fault.BadSkeleton f place) is here = here
at_text t ts next restore_fault.Memory is here = inr (inl here)

at_tree : (t : Ticket) (ts : List Taken) (next : List Ref) (e : RestoreFault) → IsOfTree e → AreInFiles t ts next → StopsAt t ts next e
at_tree t ts next (restore_fault.Node f) is here = inr here
at_tree t ts next restore_fault.Link is here = inr here
at_tree t ts next restore_fault.Folder is here = inr here
at_tree t ts next restore_fault.NotEmpty is here = absurd is
at_tree t ts next (restore_fault.Missing n) is here = inr here
at_tree t ts next (restore_fault.Altered n got) is here = inr here
at_tree t ts next (restore_fault.BadSkeleton f place) is here = absurd is
at_tree t ts next restore_fault.Memory is here = inr (inr here)

-- what waits, at the start of a call
pub record IsFresh {L : Type 0} (w : Waiting) (node : Node L) (turns : ℕ) : Type 0 where
  pub peers : w.peers ≡ peers_in node.ledger.state.settings
  pub clock : w.clock ≡ 0
  pub turns_are : w.turns ≡ turns

-- a fault before anything is read that is of no place
abbrev pub IsEarly : RestoreFault → Type 0
IsEarly (restore_fault.Node f) = ⊥
IsEarly restore_fault.Link = ⊥
IsEarly restore_fault.Folder = Unit {0}
IsEarly restore_fault.NotEmpty = Unit {0}
IsEarly (restore_fault.Missing n) = ⊥
IsEarly (restore_fault.Altered n got) = ⊥
IsEarly (restore_fault.BadSkeleton f place) = ⊥
IsEarly restore_fault.Memory = Unit {0}

early_quiet : (e : RestoreFault) → IsEarly e → IsQuiet e
early_quiet (restore_fault.Node f) is = absurd is
early_quiet restore_fault.Link is = absurd is
early_quiet restore_fault.Folder is = tt
early_quiet restore_fault.NotEmpty is = tt
early_quiet (restore_fault.Missing n) is = absurd is
early_quiet (restore_fault.Altered n got) is = absurd is
early_quiet (restore_fault.BadSkeleton f place) is = absurd is
early_quiet restore_fault.Memory is = tt

at_first : (t : Ticket) (e : RestoreFault) → IsEarly e → StopsAt t [] [] e
at_first t (restore_fault.Node f) is = absurd is
at_first t restore_fault.Link is = absurd is
at_first t restore_fault.Folder is = inl (refl, refl)
at_first t restore_fault.NotEmpty is = (refl, refl)
at_first t (restore_fault.Missing n) is = absurd is
at_first t (restore_fault.Altered n got) is = absurd is
at_first t (restore_fault.BadSkeleton f place) is = absurd is
at_first t restore_fault.Memory is = inl (refl, refl)

early_not_met : (t : Ticket) (ts : List Taken) (e : RestoreFault) → IsEarly e → IsMetBy t ts e
early_not_met t ts (restore_fault.Node f) is = tt
early_not_met t ts restore_fault.Link is = tt
early_not_met t ts restore_fault.Folder is = tt
early_not_met t ts restore_fault.NotEmpty is = tt
early_not_met t ts (restore_fault.Missing n) is = tt
early_not_met t ts (restore_fault.Altered n got) is = tt
early_not_met t ts (restore_fault.BadSkeleton f place) is = absurd is
early_not_met t ts restore_fault.Memory is = tt

module _ {L : Type 0} (holds : L → List ARecord → List ℕ → Type 0) (stands : List ARecord → List ℕ → Type 0) (broken : L → Bool) (law : (log : L) (es : List ARecord) (c : List ℕ) → holds log es c → stands es c) where
  -- ---- what was said of a run that waits is said of the call

  begins_fresh : (w : Waiting) (node : Node L) (turns : ℕ) (v : View) (n : Situation) (st : Settings) → IsFresh w node turns → Knows node n → Stored holds node n.history v → (state n.history).settings ≡ Some st → Begins holds w.peers node v n st
  begins_fresh w node turns v n st f k s is = record {
    knows = k;
    stored = s;
    settings_are = is;
    peers_are = f.peers ∙ ap peers_in (ap (λ (x : State). x.settings) k.ledger ∙ is);
  }

  pub unbegun : (node : Node L) (v : View) (was is : FolderView) (t : Ticket) (root : List ℕ) (turns : ℕ) (front : List FolderCall) (e : RestoreFault) → broken node.log ≡ false → IsEarly e → Writes root was is [] → TriesFirst was is front
      → StopsBelow holds stands broken node node v v was is t root turns front e
  unbegun node v was is t root turns front e sound early writes tries = record {
    leaves = record {
      ts = [];
      next = [];
      here = at_first t e early;
      open_all = tt;
      last = [];
      ok = true;
      spends = quiet_spends turns [] e (early_quiet e early);
      places = [];
      writes = writes;
      left = inl (refl, tries);
    };
    run = hears_nothing v;
    unbroken = λ broke. absurd (false≢true (sym sound ∙ broke));
    all = λ told n st k s present. record {
      fed = by_whole holds stands broken law node node v v n (peer_ids st) 0 [] [] None (uncounted holds stands broken law node node v v n [] (Some no_tally) true (fed_none holds stands broken law node n v k s));
      taken = tt;
      in_vain = quiet_in_vain st n [] e (early_quiet e early);
    };
  }

  below_stopped : (w0 w1 : Waiting) (n0 n1 : Node L) (v0 v1 : View) (was is : FolderView) (t : Ticket) (root : List ℕ) (turns : ℕ) (ts : List Taken) (next : List Ref) (e : RestoreFault) (places : List Place) → IsFresh w0 n0 turns → StopsAt t ts next e
      → Stops holds stands broken w0 w1 n0 n1 v0 v1 ts next e → Writes root was is places → IsLeft t root [] ts was is places e → StopsBelow holds stands broken n0 n1 v0 v1 was is t root turns [] e
  below_stopped w0 w1 n0 n1 v0 v1 was is t root turns ts next e places fresh here s writes left = record {
    leaves = record {
      ts = ts;
      next = next;
      here = here;
      open_all = s.open_all;
      last = s.last;
      ok = s.ok;
      spends = subst (λ (k : ℕ). Spends k next s.last s.ok e) fresh.turns_are s.spends;
      places = places;
      writes = writes;
      left = left;
    };
    run = record { hears = s.run.hears; tells = s.run.tells; counts = s.run.counts };
    unbroken = s.unbroken;
    all = λ told n st k stored present.
        subst (λ (c : ℕ). StopsAll holds stands broken turns c n0 n1 v0 v1 n st ts next s.last s.ok e) fresh.clock
        (subst (λ (k : ℕ). StopsAll holds stands broken k w0.clock n0 n1 v0 v1 n st ts next s.last s.ok e) fresh.turns_are
        (s.all told n st (begins_fresh w0 n0 turns v0 n st fresh k stored present)));
  }

  -- a text was not read
  pub texts_stopped : (w0 w1 : Waiting) (n0 n1 : Node L) (v0 v1 : View) (was : FolderView) (t : Ticket) (root : List ℕ) (turns : ℕ) (e : RestoreFault) → IsFresh w0 n0 turns → IsOfText e → StopsLevels holds stands broken w0 w1 n0 n1 v0 v1 t.levels (t.reference ∷ []) e
      → StopsBelow holds stands broken n0 n1 v0 v1 was was t root turns [] e
  texts_stopped w0 w1 n0 n1 v0 v1 was t root turns e fresh of_text s =
      below_stopped w0 w1 n0 n1 v0 v1 was was t root turns s.ts s.next e [] fresh (at_text t s.ts s.next e of_text s.here) s.stops (writes_none root was) (inl (refl, tries_none was))

  -- the skeleton was read, and the tree not written
  pub tree_stopped : (w0 w1 w2 : Waiting) (n0 n1 n2 : Node L) (v0 v1 v2 : View) (was is : FolderView) (t : Ticket) (root : List ℕ) (turns : ℕ) (texts : List Taken) (text : List ℕ) (entries : List Entry) (e : RestoreFault) → IsFresh w0 n0 turns → IsOfTree e
      → IsTextRead t.levels (t.reference ∷ []) texts text → skeleton_of text ≡ Ok entries → Takes holds stands broken w0 w1 n0 n1 v0 v1 texts → StopsTree holds stands broken w1 w2 n1 n2 v1 v2 root was is entries e
      → StopsBelow holds stands broken n0 n2 v0 v2 was is t root turns [] e
  tree_stopped w0 w1 w2 n0 n1 n2 v0 v1 v2 was is t root turns texts text entries e fresh of_tree reads_text reads r s =
      below_stopped w0 w2 n0 n2 v0 v2 was is t root turns (texts ++ s.ts) s.next e s.places fresh
      (at_tree t (texts ++ s.ts) s.next e of_tree (record { front = texts; behind = s.ts; text = text; entries = entries; parts = refl; reads_text = reads_text; reads = reads; here = s.parts }))
      (stops_behind holds stands broken law w0 w1 w2 n0 n1 n2 v0 v1 v2 texts s.ts s.next e r s.stops)
      s.writes
      (inr (record { texts = texts; files = s.ts; text = text; entries = entries; parts = refl; reads_text = reads_text; reads = reads; begun = s.begun; tries = s.tries }))

  pub tree_restored : (w0 w1 w2 : Waiting) (n0 n1 n2 : Node L) (v0 v1 v2 : View) (was is : FolderView) (t : Ticket) (root : List ℕ) (turns : ℕ) (texts : List Taken) (text : List ℕ) (entries : List Entry) (d : Restored) → IsFresh w0 n0 turns
      → IsTextRead t.levels (t.reference ∷ []) texts text → skeleton_of text ≡ Ok entries → Takes holds stands broken w0 w1 n0 n1 v0 v1 texts → WritesAll holds stands broken w1 w2 n1 n2 v1 v2 root was is entries
      → d.files ≡ sum_by one_file entries → d.folders ≡ sum_by one_folder entries → d.bytes ≡ sum_by its_bytes entries
      → RestoresBelow holds stands broken n0 n2 v0 v2 was is t root turns [] d
  tree_restored w0 w1 w2 n0 n1 n2 v0 v1 v2 was is t root turns texts text entries d fresh reads_text reads r a files folders bytes =
      let ts = texts ++ a.ts in
      let all = takes_then holds stands broken law w0 w1 w2 n0 n1 n2 v0 v1 v2 texts a.ts r a.takes in
      record {
        made = record {
          ts = ts;
          entries = entries;
          tree = a.places;
          read = record { front = texts; behind = a.ts; text = text; parts = refl; reads_text = reads_text; reads = reads; items = a.items };
          open_all = all.open_all;
          writes = a.writes;
          grown = a.grown;
          files = files;
          folders = folders;
          bytes = bytes;
        };
        run = record { hears = all.run.hears; tells = all.run.tells; counts = all.run.counts };
        all = λ told n st k stored present.
            subst (λ (c : ℕ). TakesAll holds stands broken turns c n0 n2 v0 v2 n st ts) fresh.clock
            (subst (λ (k : ℕ). TakesAll holds stands broken k w0.clock n0 n2 v0 v2 n st ts) fresh.turns_are
            (all.all told n st (begins_fresh w0 n0 turns v0 n st fresh k stored present)));
      }

  -- ---- behind the look at the target

  -- nothing was written by it
  pub looked : (was mid : FolderView) (root : List ℕ) → (Tells_content mid → mid.content ≡ was.content) → Tries (Listing root) was mid → Writes root was mid []
  looked was mid root same tries = record {
    tells = tries.tells;
    content = λ c d is now. other (same (told mid.content d now)) is now;
    no_fall = tries.no_fall;
  }
    where
      told : (o : Option Content) (d : Content) → o ≡ Some d → is_some o ≡ true
      told o d is = ap is_some is

      other : {c d : Content} → mid.content ≡ was.content → was.content ≡ Some c → mid.content ≡ Some d → d ≡ c
      other a b e = cc

  pub listed : (was mid : FolderView) (root : List ℕ) → Tries (Listing root) was mid → TriesFirst was mid (Listing root ∷ [])
  listed was mid root tries = record { tried = Listing root ∷ []; left = []; parts = refl; grown = tries.calls }

  behind_look : (was mid is : FolderView) (root : List ℕ) (places : List Place) → (Tells_content mid → mid.content ≡ was.content) → Tries (Listing root) was mid → Writes root mid is places → Writes root was is places
  behind_look was mid is root places same tries w = record {
    tells = λ told. tries.tells (w.tells told);
    content = λ c d before now. w.content c d (same (w.tells (ap is_some now)) ∙ before) now;
    no_fall = omega (arith, tries.no_fall, w.no_fall);
  }

  tries_behind : (was mid is : FolderView) (root : List ℕ) (all : List FolderCall) → Tries (Listing root) was mid → TriesFirst mid is all → TriesFirst was is (Listing root ∷ all)
  tries_behind was mid is root all tries f = record {
    tried = Listing root ∷ f.tried;
    left = f.left;
    parts = ap (λ (l : List FolderCall). Listing root ∷ l) f.parts;
    grown = grows_then was.folder_calls mid.folder_calls is.folder_calls (Listing root ∷ []) f.tried tries.calls f.grown;
  }

  left_behind : (was mid is : FolderView) (t : Ticket) (root : List ℕ) (ts : List Taken) (places : List Place) (e : RestoreFault) → Tries (Listing root) was mid → IsLeft t root [] ts mid is places e → IsLeft t root (Listing root ∷ []) ts was is places e
  left_behind was mid is t root ts places e tries left = ⊎_elim
      (λ none. inl (none.0, tries_behind was mid is root [] tries none.1))
      (λ part. inr (record {
        texts = part.texts;
        files = part.files;
        text = part.text;
        entries = part.entries;
        parts = part.parts;
        reads_text = part.reads_text;
        reads = part.reads;
        begun = part.begun;
        tries = tries_behind was mid is root (entries_calls root part.entries) tries part.tries;
      }))
      left

  met_by : (t : Ticket) (ts : List Taken) (next : List Ref) (e : RestoreFault) → AllOpen ts → StopsAt t ts next e → IsMetBy t ts e
  met_by t ts next (restore_fault.Node f) o here = tt
  met_by t ts next restore_fault.Link o here = tt
  met_by t ts next restore_fault.Folder o here = tt
  met_by t ts next restore_fault.NotEmpty o here = tt
  met_by t ts next (restore_fault.Missing n) o here = tt
  met_by t ts next (restore_fault.Altered n got) o here = tt
  met_by t ts next (restore_fault.BadSkeleton f place) o here = λ bodies meant is. bad_texts_are_met bodies (taken_uses ts) t meant is (bad_got t.levels (t.reference ∷ []) ts f place here.0 o)
  met_by t ts next restore_fault.Memory o here = tt

  early_at_once : (was is : FolderView) (root : List ℕ) (e : RestoreFault) → IsEarly e → IsAtOnce was is root e [] [] []
  early_at_once was is root (restore_fault.Node f) early = absurd early
  early_at_once was is root restore_fault.Link early = absurd early
  early_at_once was is root restore_fault.Folder early = inl (refl, refl, refl)
  early_at_once was is root restore_fault.NotEmpty early = (refl, refl, refl)
  early_at_once was is root (restore_fault.Missing n) early = absurd early
  early_at_once was is root (restore_fault.Altered n got) early = absurd early
  early_at_once was is root (restore_fault.BadSkeleton f place) early = absurd early
  early_at_once was is root restore_fault.Memory early = inl (refl, refl, refl)

  below_at_once : (was is : FolderView) (root : List ℕ) (e : RestoreFault) (ts : List Taken) (last : List Fetch) (places : List Place) → IsOfBelow e → FoundEmpty was is root → IsAtOnce was is root e ts last places
  below_at_once was is root (restore_fault.Node f) ts last places below empty = empty
  below_at_once was is root restore_fault.Link ts last places below empty = empty
  below_at_once was is root restore_fault.Folder ts last places below empty = inr empty
  below_at_once was is root restore_fault.NotEmpty ts last places below empty = absurd below
  below_at_once was is root (restore_fault.Missing n) ts last places below empty = empty
  below_at_once was is root (restore_fault.Altered n got) ts last places below empty = empty
  below_at_once was is root (restore_fault.BadSkeleton f place) ts last places below empty = empty
  below_at_once was is root restore_fault.Memory ts last places below empty = inr empty

  -- what the look found, before anything was written
  found_empty : (was mid is : FolderView) (root : List ℕ) (places : List Place) → (Tells_content mid → mid.content ≡ was.content) → IfSome mid.content (λ c. Lists c root []) → Writes root mid is places → FoundEmpty was is root
  found_empty was mid is root places same empty w = λ told. subst (λ (o : Option Content). IfSome o (λ c. Lists c root [])) (same (w.tells told)) empty

  pub refused : (node : Node L) (v : View) (was is : FolderView) (t : Ticket) (root : List ℕ) (turns : ℕ) (e : RestoreFault) → broken node.log ≡ false → IsEarly e → (Tells_content is → is.content ≡ was.content) → Tries (Listing root) was is
      → StopsRestore holds stands broken node node v v was is t root turns e
  unfolding unbegun
  refused node v was is t root turns e sound early same tries =
      let below = unbegun node v was is t root turns (Listing root ∷ []) e sound early (looked was is root same tries) (listed was is root tries) in
      record { below = below; met = early_not_met t below.leaves.ts e early; at_once = early_at_once was is root e early }

  pub stopped : (n0 n1 : Node L) (v0 v1 : View) (was mid is : FolderView) (t : Ticket) (root : List ℕ) (turns : ℕ) (e : RestoreFault) → IsOfBelow e → (Tells_content mid → mid.content ≡ was.content) → IfSome mid.content (λ c. Lists c root []) → Tries (Listing root) was mid → StopsBelow holds stands broken n0 n1 v0 v1 mid is t root turns [] e
      → StopsRestore holds stands broken n0 n1 v0 v1 was is t root turns e
  stopped n0 n1 v0 v1 was mid is t root turns e below same empty tries s =
      let l = s.leaves in
      record {
        below = record {
          leaves = record {
            ts = l.ts;
            next = l.next;
            here = l.here;
            open_all = l.open_all;
            last = l.last;
            ok = l.ok;
            spends = l.spends;
            places = l.places;
            writes = behind_look was mid is root l.places same tries l.writes;
            left = left_behind was mid is t root l.ts l.places e tries l.left;
          };
          run = s.run;
          unbroken = s.unbroken;
          all = s.all;
        };
        met = met_by t l.ts l.next e l.open_all l.here;
        at_once = below_at_once was is root e l.ts l.last l.places below (found_empty was mid is root l.places same empty l.writes);
      }

  counted : (t : Ticket) (ts : List Taken) (entries : List Entry) (tree : List Place) (d : Restored) → IsTreeRead t ts entries tree → AllOpen ts → d.files ≡ sum_by one_file entries → d.folders ≡ sum_by one_folder entries → d.bytes ≡ sum_by its_bytes entries → CountsTree d tree
  counted t ts entries tree d read o files folders bytes =
      let g = tree_got t ts entries tree read o in
      let counts = read_trees_are_counted (taken_uses ts) t tree g.0 in
      record {
        files = files ∙ ap (sum_by one_file) (sym g.1) ∙ sym counts.0;
        folders = folders ∙ ap (sum_by one_folder) (sym g.1) ∙ sym counts.1;
        bytes = bytes ∙ ap (sum_by its_bytes) (sym g.1) ∙ sym counts.2;
      }

  restored_as : (was mid is : FolderView) (t : Ticket) (root : List ℕ) (d : Restored) (meant : List Place) → (Tells_content mid → mid.content ≡ was.content) → IfSome mid.content (λ c. Lists c root [])
      → (r : MakesTree was is t root (Listing root ∷ []) d) → (Tells_content is → Tells_content mid) → CountsTree d r.tree → r.tree ≡ meant → IsRestored was is root d meant
  restored_as was mid is t root d meant same empty r told counts is_it =
      subst (IsRestored was is root d) is_it (record {
        counts = counts;
        stands = λ c now before after whole.
            let mid_is : mid.content ≡ Some c = same (told (ap is_some after)) ∙ before in
            let bare = empty_folders_are_bare c root whole (at_some mid.content (λ x. Lists x root []) c empty mid_is) in
            let place = read_trees_are_in_place (taken_uses r.ts) t r.tree (tree_got t r.ts r.entries r.tree r.read r.open_all).0 in
            subst (λ (x : Content). IsTree x root r.tree) (sym (r.writes.content c now before after)) (writings_are_trees c root r.tree bare place);
        around = λ c now before after. r.writes.content c now before after;
      })

  pub restored : (n0 n1 : Node L) (v0 v1 : View) (was mid is : FolderView) (t : Ticket) (root : List ℕ) (turns : ℕ) (d : Restored) → (Tells_content mid → mid.content ≡ was.content) → IfSome mid.content (λ c. Lists c root []) → Tries (Listing root) was mid
      → RestoresBelow holds stands broken n0 n1 v0 v1 mid is t root turns [] d → Restores holds stands broken n0 n1 v0 v1 was is t root turns d
  restored n0 n1 v0 v1 was mid is t root turns d same empty tries r =
      let m = r.made in
      let made : MakesTree was is t root (Listing root ∷ []) d = record {
        ts = m.ts;
        entries = m.entries;
        tree = m.tree;
        read = m.read;
        open_all = m.open_all;
        writes = behind_look was mid is root m.tree same tries m.writes;
        grown = grows_then was.folder_calls mid.folder_calls is.folder_calls (Listing root ∷ []) (entries_calls root m.entries) tries.calls m.grown;
        files = m.files;
        folders = m.folders;
        bytes = m.bytes;
      } in
      let counts = counted t m.ts m.entries m.tree d m.read m.open_all m.files m.folders m.bytes in
      record {
        below = record { made = made; run = r.run; all = r.all };
        empty = found_empty was mid is root m.tree same empty m.writes;
        exact = record {
          counts = counts;
          exact = λ bodies meant is_it. ⊎_elim
              (λ same_tree. inl (restored_as was mid is t root d meant same empty made m.writes.tells counts same_tree))
              (λ met. inr met)
              (reads_the_meaning bodies (taken_uses m.ts) t meant m.tree is_it (tree_got t m.ts m.entries m.tree m.read m.open_all).0);
        };
      }
