-- What `backup` comes to.
use Rattle.std.proofs.Common.{◌≡◌, ◌≢◌, ◌⊎◌, inl, inr, ⊎_elim, ℕ, ◌+◌, ◌-◌, ◌<◌, ◌≤◌, Bool, true, false, if◌then◌else◌, List, [], ◌∷◌, ◌++◌, length, Contains, Option, Some, None, IfSome, refl, sym, ◌∙◌, ap, subst, arith, length-append}
use Rattle.std.specs.List.{slice_get}
use Rattle.std.proofs.lemmas.Bool.{false≢true}
use Rattle.std.proofs.lemmas.List.{append-nil, map-append}
use Rattle.psb_digest.specs.Clashes.{Pair, Clashes}
use Rattle.psb_station.specs.View.{View, Outside}
use Rattle.psb_station.specs.Folder.{FolderView, Content}
use Rattle.psb_station.specs.Span.{Keeps, Tells_bytes}
use Rattle.psb_station.proofs.Spans.{same_some, at_some}
use Rattle.node_journal.specs.Entry.{Entry}
use Rattle.psb_model.specs.State.{State, snaps_made}
use Rattle.psb_model.specs.History.{state}
use Rattle.psb_model.specs.declared.change.Change.{Change}
use Rattle.convergent_seal.specs.Sealing.{sealed_ref}
use Rattle.psb_machine.specs.Machine.{Situation, Snap, fresh}
use Rattle.psb_machine.specs.Course.{Step, Absorb}
use Rattle.psb_machine.specs.Commands.{says}
use Rattle.psb_machine.specs.declared.snap_note.SnapNote.{SnapNote}
use Rattle.node_core.specs.declared.fault.Fault.{Fault}
use Rattle.node_core.specs.declared.fault.Fault.TheVariants as fault
use Rattle.node_core.specs.declared.node.Node.{Node}
use Rattle.node_serve.specs.Spans.{Fed}
use Rattle.node_serve.proofs.Tries.{grows_none}
use Rattle.snapshots.specs.Meaning.{Place}
use Rattle.skeleton.specs.declared.limits.TheConstants.{MOST_TEXT_BYTES}
use Rattle.skeleton.proofs.Lists.{push_parts}
use Rattle.snapshots.specs.Trees.{IsTree, AreShort}
use Rattle.snapshots.specs.Walks.{IsTooLarge}
use Rattle.snapshots.specs.WalkSteps.{In}
use Rattle.snapshots.proofs.Members.{from_in, in_app, in_left, in_right}
use Rattle.snapshots.proofs.NotTooLarge.{tree_not_too_large, one_tree}
use Rattle.snapshot_backup.specs.Backed.{ListsThenReads, AreTried, IsTried, IsTooMuch, IsSnapOf, StopsBackup, IsLongWithRefs, text_len}
use Rattle.snapshot_backup.specs.Course.{pieces_of, keep_step, keep_steps, backup_course}
use Rattle.snapshot_backup.specs.Endings.{EndsFor, MeetsOther}
use Rattle.snapshot_backup.specs.Faults.{IsOfPieces}
use Rattle.snapshot_backup.specs.Files.{IsFront}
use Rattle.snapshot_backup.proofs.Brought.{brought_by}
use Rattle.snapshot_backup.specs.declared.fault.BackupFault.{BackupFault}
use Rattle.snapshot_backup.specs.declared.fault.BackupFault.TheVariants as backup_fault
use Rattle.backup_cli.specs.Commanded.{IfThrough, UnlessHarmed}
use Rattle.said_lines.specs.Lines.{joined_lines}
use Rattle.said_lines.specs.Says.{Utters, IsRefusal, NotOpened}
use Rattle.backup_cli.specs.Served.{ending_of, refused_of}
use Rattle.backup_cli.specs.BackedUp.{status_of, noted_line, Made, HasRoom, Unmade, IsOwnStep, FailsToBackUp, IsLineLeft, IsEnd, BacksUpTo, BacksUpOn, CanBeBackedUp, IsBodyOf, MeetsNone}
use Rattle.said_lines.specs.declared.status.Status.{Status}
use Rattle.said_lines.specs.declared.status.Status.TheVariants.{Done, DiskFault, FolderFault, SayFault, NotNode, TooLarge, Clash, Memory}
use Rattle.backup_cli.proofs.Commanding.{NoOther, long_says, ended, lines_behind, lines_left, from_before}
use Rattle.backup_cli.proofs.Ends.{refused_since, quiet_since, unopened_command}
use Rattle.backup_cli.proofs.Forgettings.{quiet_then}
use Rattle.backup_cli.proofs.Outcomes.{utters_as}

-- ---- a folder that was not touched

pub no_calls : (root : List ℕ) (v : FolderView) → ListsThenReads root v v
no_calls root v = record { calls = []; grown = grows_none v.folder_calls; are = inl refl }

-- ---- the last one of a list

last_at : {A : Type 0} (before : List A) (x : A) → slice_get (before ++ x ∷ []) (length before) ≡ Some x
last_at [] x = refl
last_at (b ∷ before) x = last_at before x

pub last_is : {A : Type 0} (l before : List A) (x y : A) → l ≡ before ++ x ∷ [] → Some y ≡ slice_get l (length l - 1) → y ≡ x
last_is {A = A} l before x y is got =
    let place : length l - 1 ≡ length before = omega (arith, ap (λ (m : List A). length m) is, length-append before (x ∷ [])) in
    let there : slice_get l (length l - 1) ≡ Some x = ap (λ (n : ℕ). slice_get l n) place ∙ ap (λ (m : List A). slice_get m (length before)) is ∙ last_at before x in
    same_some (Some y) y x refl (got ∙ there)

-- ---- what was tried

own_pieces : (pieces : List (List ℕ)) (step : Step) → In step (keep_steps pieces) → IsOwnStep step
own_pieces [] step i = absurd i
own_pieces (p ∷ pieces) step (inl is) = inl (p, sym is)
own_pieces (p ∷ pieces) step (inr i) = own_pieces pieces step i

own_course : (places : List Place) (note : SnapNote) (step : Step) → In step (backup_course places note) → IsOwnStep step
own_course places note step i = ⊎_elim
    (λ piece. own_pieces (pieces_of places) step piece)
    (λ last. ⊎_elim (λ is. inr (note, sym is)) (λ no_. absurd no_) last)
    (in_app step (keep_steps (pieces_of places)) (Absorb (Snap note) ∷ []) i)

own_tried : (e : BackupFault) (content : Option Content) (root : List ℕ) (n : Situation) (steps : List Step) (all : Bool) → IsTried e content root n steps all → (step : Step) → In step steps → IsOwnStep step
own_tried e content root n steps all (inl t) step i = own_pieces t.0 step (subst (λ (l : List Step). In step l) t.1 i)
own_tried e content root n steps all (inr t) step i = own_course t.0 t.1 step (subst (λ (l : List Step). In step l) t.2 i)

one_of : (l : List Step) → length l ≡ 1 → (step : Step) × (l ≡ step ∷ [])
one_of [] is = absurd (omega (arith, is))
one_of (step ∷ []) is = (step, refl)
one_of (step ∷ x ∷ l) is = absurd (omega (arith, is))

none_of : (l : List Step) → length l ≡ 0 → l ≡ []
none_of [] is = refl
none_of (step ∷ l) is = absurd (omega (arith, is))

-- the last steps of one list are one
last_step : (a b : List Step) (x y : Step) → a ++ x ∷ [] ≡ b ++ y ∷ [] → x ≡ y
last_step a b x y is = ⊎_elim (λ t. t.1) (λ t. absurd (omega (arith, ap (λ (l : List Step). length l) t.1, ap (λ (l : List Step). length l) is, length-append a (x ∷ []), length-append b (y ∷ []), length-append b (y ∷ t.0)))) (push_parts a x b y [] is)

-- whether all was done, by the fault
node_all : (f : Fault) (content : Option Content) (root : List ℕ) (n : Situation) (steps : List Step) (all : Bool) → IsTried (backup_fault.Node f) content root n steps all → all ≡ false
node_all f content root n steps all (inl t) = ends f t.3
  where
    ends : (g : Fault) → EndsFor (backup_fault.Node g) n t.0 all → all ≡ false
    ends (fault.Clash c) e = e.0
    ends fault.NotNode e = e
    ends fault.DiskFault e = e
    ends fault.Broken e = e
    ends fault.BadSettings e = e
    ends (fault.Altered name) e = e
    ends (fault.NoSnapshot k) e = e
    ends fault.Memory e = e
node_all f content root n steps all (inr t) = t.3

folder_all : (content : Option Content) (root : List ℕ) (n : Situation) (steps : List Step) (all : Bool) → IsTried backup_fault.Folder content root n steps all → all ≡ true
folder_all content root n steps all (inl t) = t.3
folder_all content root n steps all (inr t) = ⊎_elim (λ e. absurd (cc (e))) (λ e. absurd (cc (e))) t.6

large_all : (content : Option Content) (root : List ℕ) (n : Situation) (steps : List Step) (all : Bool) → IsTried backup_fault.TooLarge content root n steps all → all ≡ true
large_all content root n steps all (inl t) = t.3
large_all content root n steps all (inr t) = ⊎_elim (λ e. absurd (cc (e))) (λ e. absurd (cc (e))) t.6

-- the piece of a clash
pub clash_tried : (c : Pair) (content : Option Content) (root : List ℕ) (n : Situation) (steps : List Step) (all : Bool) → IsTried (backup_fault.Node (fault.Clash c)) content root n steps all
    → (pieces : List (List ℕ)) × (steps ≡ keep_steps pieces) × AreTried (backup_fault.Node (fault.Clash c)) content root pieces × MeetsOther n pieces c
clash_tried c content root n steps all (inl t) = (t.0, t.1, t.2, t.3.1)
clash_tried c content root n steps all (inr t) = ⊎_elim (λ e. absurd (cc (e))) (λ e. absurd (cc (e))) t.6

one_pair : (c d : Pair) → Clash c ≡ Clash d → c ≡ d
one_pair c d is = cc

-- ---- how much room there is

room_of : (content : Content) (root : List ℕ) (places : List Place) → IsTree content root places → AreShort places → text_len places ≤ MOST_TEXT_BYTES → HasRoom content root
room_of content root places tree short fits = record {
  sizes = tree_not_too_large content root places tree short fits;
  text = λ long. absurd (omega (arith, fits, long.2, ap text_len (one_tree content root long.0 places long.1 tree)));
}

made_room : (h : List Change) (root : List ℕ) (folder : FolderView) (steps : List Step) → Made h root folder steps → IfSome folder.content (λ c. HasRoom c root)
made_room h root folder steps m = at folder.content m.of
  where
    at : (o : Option Content) → IfSome o (λ c. IsSnapOf c root m.places m.note.left) → IfSome o (λ c. HasRoom c root)
    at None s = tt
    at (Some c) s = room_of c root m.places s.tree s.short m.short

-- ---- the node was not opened

pub unbacked : (stands : List Entry → List ℕ → Type 0) (h : List Change) (root : List ℕ) (v0 v3 : View) (folder : FolderView) (status : Status)
    → Tells_bytes v3 → (status ≡ DiskFault) ⊎ (status ≡ Memory) → NotOpened status v0 v3 → BacksUpTo stands h root false v0 v3 folder status
unbacked stands h root v0 v3 folder status tells why n =
    let r = n.refuses tells in
    let other : (s : Status) → s ≢ DiskFault → s ≢ Memory → status ≢ s = λ s no_disk no_memory is. ⊎_elim (λ e. no_disk (sym is ∙ e)) (λ e. no_memory (sym is ∙ e)) why in
    record {
      ends = ⊎_elim (λ e. inr (inl e)) (λ e. inr (inr (inr (inr (inr (inr e)))))) why;
      unopened = λ is. (why, refl);
      refusal = r.text;
      how = r.how;
      steps = [];
      course = unopened_command stands h [] v0 v3 status (inr why) n.images r;
      made = λ well. absurd (⊎_elim (other Done (λ e. absurd (cc (e))) (λ e. absurd (cc (e)))) (other SayFault (λ e. absurd (cc (e))) (λ e. absurd (cc (e)))) well);
      comes_to = λ is. absurd (false≢true is);
      fails = λ is. absurd (false≢true is);
      clash = λ c is. absurd (other (Clash c) (λ e. absurd (cc (e))) (λ e. absurd (cc (e))) is);
      room = λ well. absurd (⊎_elim (λ is. other Done (λ e. absurd (cc (e))) (λ e. absurd (cc (e))) is) (λ is. other SayFault (λ e. absurd (cc (e))) (λ e. absurd (cc (e))) is) well);
      unsaid = λ is. absurd (other SayFault (λ e. absurd (cc (e))) (λ e. absurd (cc (e))) is);
      too_large = λ is. absurd (other TooLarge (λ e. absurd (cc (e))) (λ e. absurd (cc (e))) is);
      full = λ is. absurd (false≢true is);
      kept = n.kept;
    }

-- a command from a moment after which nothing was lost is one from before it
pub backs_from : (stands : List Entry → List ℕ → Type 0) (h : List Change) (root : List ℕ) (v0 v1 v3 : View) (folder : FolderView) (status : Status)
    → NoOther v0 → Keeps v0 v1 → BacksUpOn stands h root v1 v3 folder status → BacksUpTo stands h root true v0 v3 folder status
backs_from stands h root v0 v1 v3 folder status now keeps on =
    let b = on.0 in
    let c = from_before stands h b.steps None b.refusal (refused_of status) v0 v1 v3 (ending_of status) now keeps b.course on.1 in
    record {
      ends = b.ends;
      unopened = λ is. absurd (false≢true (sym is));
      refusal = b.refusal;
      how = refused_since status b.refusal v0 v1 v3 (ap (λ (o : Outside). o.say_faults) keeps.works.outside) b.how;
      steps = b.steps;
      course = c.0;
      made = b.made;
      comes_to = λ is. ⊎_elim (λ m. inl (m.0, subst (IsLineLeft status) (sym c.2) m.1)) (λ u. inr (u.0, c.2 ∙ u.1)) (b.comes_to is);
      fails = λ is. subst (FailsToBackUp status) (sym c.1) (b.fails is);
      clash = λ pair is. let t = b.clash pair is in (t.0, t.1, t.2, c.1 ∙ t.3);
      room = b.room;
      unsaid = λ is. let line = b.unsaid is in (line.0, c.1 ∙ line.1);
      too_large = b.too_large;
      full = b.full;
      kept = quiet_since v0 v1 v3 keeps b.kept;
    }

-- ---- it was opened

-- what is no fault of pieces
not_of_pieces : (f : Fault) → f ≢ fault.DiskFault → ((c : Pair) → f ≢ fault.Clash c) → ((name : List ℕ) → f ≢ fault.Altered name) → ¬ IsOfPieces f
not_of_pieces f no_disk no_clash no_name (inl is) = no_disk is
not_of_pieces f no_disk no_clash no_name (inr (inl clash)) = no_clash clash.0 clash.1
not_of_pieces f no_disk no_clash no_name (inr (inr name)) = no_name name.0 name.1

-- NotNode comes of what was altered alone
pub altered_by : (f : BackupFault) → status_of f ≡ NotNode → (name : List ℕ) × (f ≡ backup_fault.Node (fault.Altered name))
altered_by (backup_fault.Node (fault.Altered name)) is = (name, refl)
altered_by (backup_fault.Node (fault.Clash c)) is = absurd (cc (is))
altered_by (backup_fault.Node fault.NotNode) is = absurd (cc (is))
altered_by (backup_fault.Node fault.DiskFault) is = absurd (cc (is))
altered_by (backup_fault.Node fault.Broken) is = absurd (cc (is))
altered_by (backup_fault.Node fault.BadSettings) is = absurd (cc (is))
altered_by (backup_fault.Node (fault.NoSnapshot k)) is = absurd (cc (is))
altered_by (backup_fault.Node fault.Memory) is = absurd (cc (is))
altered_by backup_fault.Folder is = absurd (cc (is))
altered_by backup_fault.TooLarge is = absurd (cc (is))
altered_by backup_fault.Memory is = absurd (cc (is))

not_true : (b : Bool) → (b ≡ true → ⊥) → b ≡ false
not_true true not = absurd (not refl)
not_true false not = refl

module _ {L : Type 0} (holds : L → List Entry → List ℕ → Type 0) (stands : List Entry → List ℕ → Type 0) (broken : L → Bool) (law : (log : L) (es : List Entry) (c : List ℕ) → holds log es c → stands es c) where
  -- A snapshot was made; then its line was said, or tried, or memory was short for it. Its steps are all of the course
  -- before the line.
  line_told : (status : Status) (n0 n2 : Node L) (h : List Change) (root : List ℕ) (v1 v2 v3 : View) (folder : FolderView) (places : List Place) (note : SnapNote) (text : List ℕ) (said tried rest : List (List ℕ))
      → IsEnd status → (status ≡ Done) ⊎ (status ≡ SayFault) ⊎ (status ≡ Memory) → IfThrough (ending_of status) ((tried ≡ []) × (rest ≡ [])) → ((P : Type 0) → P → UnlessHarmed (ending_of status) P) → ((P Q : Type 0) → (P → Q) → IfThrough (ending_of status) P → IfThrough (ending_of status) Q)
      → (status ≡ SayFault → (line : List ℕ) × (tried ≡ line ∷ [])) → FailsToBackUp status (says tried) → IsLineLeft status (says rest) → ((c : Pair) → status ≢ Clash c) → length tried ≤ 1 → noted_line h note ∷ [] ≡ said ++ tried ++ rest → broken n2.log ≡ false → status ≢ TooLarge → snaps_made (state h) ≢ 4294967295
      → NoOther v1 → Tells_bytes v3 → v2.outside ≡ v1.outside → Made h root folder (backup_course places note ++ says (noted_line h note ∷ [])) → Fed holds stands broken n0 n2 v1 v2 (fresh h) (backup_course places note) None true
      → Utters v2 v3 (length said + length tried + refused_of status) (joined_lines said ++ text) → IsRefusal status text v1 v3 → BacksUpOn stands h root v1 v3 folder status
  line_told status n0 n2 h root v1 v2 v3 folder places note text said tried rest ends well through unless lift one fails left no_clash few lines_are sound fits room now tells same made r u how =
      let steps = backup_course places note in
      let course = steps ++ says (noted_line h note ∷ []) in
      let b = lines_behind holds stands broken law n0 n2 h v1 v2 steps None (noted_line h note ∷ []) said tried rest r lines_are in
      let many : length (r.failed ++ says tried) ≤ 1 = omega (arith, few, long_says tried, ap (λ (l : List Step). length l) b.1) in
      let c = ended holds stands broken law n0 n2 h v1 v2 v3 steps course said tried rest None true text (refused_of status) (ending_of status)
      now tells (unless (broken n2.log ≡ false) sound) r u b.0 many
      (lift ((tried ≡ []) × (rest ≡ [])) ((r.failed ++ says tried ≡ []) × (r.undone ++ says rest ≡ [])) (λ is. (b.1 ∙ ap says is.0, b.2 ∙ ap says is.1)) through) in (
        record {
          ends = ends;
          unopened = λ is. absurd (false≢true (sym is));
          refusal = text;
          how = how;
          steps = course;
          course = c.0.0;
          made = λ _. made;
          comes_to = λ _. inl (made, subst (IsLineLeft status) (sym (c.2 ∙ b.2)) left);
          fails = λ _. subst (FailsToBackUp status) (sym (c.1 ∙ b.1)) fails;
          clash = λ pair is. absurd (no_clash pair is);
          room = λ _. made_room h root folder course made;
          unsaid = λ is. let line = one is in (line.0, c.1 ∙ b.1 ∙ ap says line.1);
          too_large = λ is. absurd (fits is);
          full = λ _ full. absurd (room full);
          kept = quiet_then v1 v2 v3 _ _ same u;
        },
        c.0.1,
      )

  pub line_said : (n0 n2 : Node L) (h : List Change) (root : List ℕ) (v1 v2 v3 : View) (folder : FolderView) (places : List Place) (note : SnapNote) → broken n2.log ≡ false → snaps_made (state h) ≢ 4294967295
      → NoOther v1 → Tells_bytes v3 → v2.outside ≡ v1.outside → Made h root folder (backup_course places note ++ says (noted_line h note ∷ [])) → Fed holds stands broken n0 n2 v1 v2 (fresh h) (backup_course places note) None true
      → Utters v2 v3 1 (noted_line h note) → BacksUpOn stands h root v1 v3 folder Done
  line_said n0 n2 h root v1 v2 v3 folder places note sound room now tells same made r u =
      let line = noted_line h note in
      line_told Done n0 n2 h root v1 v2 v3 folder places note [] (line ∷ []) [] [] (inl refl) (inl refl) (refl, refl) (λ P p. p) (λ P Q f p. f p) (λ e. absurd (cc (e))) refl refl (λ c e. absurd (cc (e))) (omega arith) refl sound (λ e. absurd (cc (e))) room now tells same made r
      (utters_as v2 v3 1 (1 + 0 + 0) line (joined_lines (line ∷ []) ++ []) (omega arith) (sym (append-nil (joined_lines (line ∷ [])) ∙ append-nil line)) u) (inl refl)

  pub line_failed : (n0 n2 : Node L) (h : List Change) (root : List ℕ) (v1 v2 v3 : View) (folder : FolderView) (places : List Place) (note : SnapNote) → broken n2.log ≡ false → snaps_made (state h) ≢ 4294967295
      → NoOther v1 → Tells_bytes v3 → v2.outside ≡ v1.outside → Made h root folder (backup_course places note ++ says (noted_line h note ∷ [])) → Fed holds stands broken n0 n2 v1 v2 (fresh h) (backup_course places note) None true
      → Utters v2 v3 1 [] → BacksUpOn stands h root v1 v3 folder SayFault
  line_failed n0 n2 h root v1 v2 v3 folder places note sound room now tells same made r u =
      let line = noted_line h note in
      line_told SayFault n0 n2 h root v1 v2 v3 folder places note [] [] (line ∷ []) [] (inr (inr (inr (inl refl)))) (inr (inl refl)) tt (λ P p. p) (λ P Q f p. tt) (λ e. (line, refl)) (line, refl) refl (λ c e. absurd (cc (e))) (omega arith) refl sound (λ e. absurd (cc (e))) room now tells same made r
      (utters_as v2 v3 1 (0 + 1 + 0) [] [] (omega arith) refl u) (inl refl)

  pub line_unmade : (n0 n2 : Node L) (h : List Change) (root : List ℕ) (v1 v2 v3 : View) (folder : FolderView) (places : List Place) (note : SnapNote) (text : List ℕ) → broken n2.log ≡ false → snaps_made (state h) ≢ 4294967295
      → NoOther v1 → Tells_bytes v3 → v2.outside ≡ v1.outside → Made h root folder (backup_course places note ++ says (noted_line h note ∷ [])) → Fed holds stands broken n0 n2 v1 v2 (fresh h) (backup_course places note) None true
      → Utters v2 v3 1 text → IsRefusal Memory text v2 v3 → BacksUpOn stands h root v1 v3 folder Memory
  line_unmade n0 n2 h root v1 v2 v3 folder places note text sound room now tells same made r u how =
      line_told Memory n0 n2 h root v1 v2 v3 folder places note text [] [] (noted_line h note ∷ []) (inr (inr (inr (inr (inr (inr refl)))))) (inr (inr refl)) tt (λ P p. p) (λ P Q f p. tt) (λ e. absurd (cc (e))) (inl refl) (omega arith) (λ c e. absurd (cc (e))) (omega arith) refl sound (λ e. absurd (cc (e))) room now tells same made r
      (utters_as v2 v3 1 (0 + 0 + 1) text text (omega arith) refl u) (refused_since Memory text v1 v2 v3 (ap (λ (o : Outside). o.say_faults) same) how)

  failed_of : (n0 n2 : Node L) (v1 v2 : View) (n : Situation) (steps : List Step) (all : Bool) (r : Fed holds stands broken n0 n2 v1 v2 n steps None all) → all ≡ false → ((step : Step) → In step steps → IsOwnStep step) → (step : Step) × (r.failed ≡ step ∷ []) × IsOwnStep step
  failed_of n0 n2 v1 v2 n steps all r is own =
      let one = one_of r.failed (r.one ∙ ap (λ (b : Bool). if b then 0 else 1) is) in
      (one.0, one.1, own one.0 (subst (λ (l : List Step). In one.0 l) (sym r.parts) (in_left one.0 (r.done ++ r.failed) r.undone (in_right one.0 r.done r.failed (subst (λ (l : List Step). In one.0 l) (sym one.1) (inl refl))))))

  none_failed_of : (n0 n2 : Node L) (v1 v2 : View) (n : Situation) (steps : List Step) (all : Bool) (r : Fed holds stands broken n0 n2 v1 v2 n steps None all) → all ≡ true → r.failed ≡ []
  none_failed_of n0 n2 v1 v2 n steps all r is = none_of r.failed (r.one ∙ ap (λ (b : Bool). if b then 0 else 1) is)

  -- none was made
  halted : (e : BackupFault) (status : Status) (n0 n2 : Node L) (h : List Change) (root : List ℕ) (v1 v2 v3 : View) (folder : FolderView) (text : List ℕ)
      → IsEnd status → status ≡ status_of e → status ≢ Done → status ≢ SayFault → refused_of status ≡ 1 → ((P : Type 0) → IfThrough (ending_of status) P) → UnlessHarmed (ending_of status) (broken n2.log ≡ false)
      → (s : StopsBackup holds stands broken n0 n2 v1 v2 (fresh h) e folder.content root) → FailsToBackUp status s.fed.failed → ((c : Pair) → status ≡ Clash c → (pieces : List (List ℕ)) × (s.tried ≡ keep_steps pieces) × (m : MeetsOther (fresh h) pieces c) × (s.fed.failed ≡ keep_step m.piece ∷ []))
      → (status ≡ TooLarge → IsTooMuch (snaps_made (state h)) folder.content root s.tried) → (snaps_made (state h) ≡ 4294967295 → status ≡ TooLarge)
      → NoOther v1 → Tells_bytes v3 → v2.outside ≡ v1.outside
      → Utters v2 v3 1 text → IsRefusal status text v2 v3 → BacksUpOn stands h root v1 v3 folder status
  halted e status n0 n2 h root v1 v2 v3 folder text ends by undone unfailed one whole sound s fails clash too_large full now tells same u how =
      let r = s.fed in
      let b = lines_left holds stands broken law n0 n2 h v1 v2 s.tried None s.all [] r in
      let c = ended holds stands broken law n0 n2 h v1 v2 v3 s.tried s.tried [] [] [] None s.all text (refused_of status) (ending_of status)
      now tells sound r (utters_as v2 v3 1 (0 + 0 + refused_of status) text text (omega (arith, one)) refl u) (sym (append-nil s.tried) ∙ b.0) b.2 (whole _) in (
        record {
          ends = ends;
          unopened = λ is. absurd (false≢true (sym is));
          refusal = text;
          how = refused_since status text v1 v2 v3 (ap (λ (o : Outside). o.say_faults) same) how;
          steps = s.tried;
          course = c.0.0;
          made = λ well. absurd (⊎_elim undone unfailed well);
          comes_to = λ _. inr (record { by = e; status_is = by; all = s.all; tried = s.are }, c.2 ∙ append-nil r.undone ∙ s.last);
          fails = λ _. subst (FailsToBackUp status) (sym (c.1 ∙ b.1)) fails;
          unsaid = λ is. absurd (unfailed is);
          clash = λ pair is. let t = clash pair is in (t.0, t.1, t.2, c.1 ∙ b.1 ∙ t.3);
          too_large = too_large;
          full = λ _. full;
          room = λ well. absurd (⊎_elim undone unfailed well);
          kept = quiet_then v1 v2 v3 1 text same u;
        },
        c.0.1,
      )

  -- by its fault
  pub halted_by : (f : BackupFault) (n0 n2 : Node L) (h : List Change) (root : List ℕ) (v1 v2 v3 : View) (folder : FolderView) (text : List ℕ)
      → ((g : Fault) → f ≡ backup_fault.Node g → IsOfPieces g) → ((name : List ℕ) → f ≢ backup_fault.Node (fault.Altered name)) → ((c : Pair) → status_of f ≡ Clash c → Clashes c.first c.second)
      → (broken n2.log ≡ true → f ≡ backup_fault.Node fault.DiskFault) → (snaps_made (state h) ≡ 4294967295 → f ≡ backup_fault.TooLarge)
      → NoOther v1 → Tells_bytes v3 → v2.outside ≡ v1.outside → StopsBackup holds stands broken n0 n2 v1 v2 (fresh h) f folder.content root
      → Utters v2 v3 1 text → IsRefusal (status_of f) text v2 v3 → BacksUpOn stands h root v1 v3 folder (status_of f)
  halted_by (backup_fault.Node fault.DiskFault) n0 n2 h root v1 v2 v3 folder text only altered clashes breaks full now tells same s u how =
      halted (backup_fault.Node fault.DiskFault) DiskFault n0 n2 h root v1 v2 v3 folder text (inr (inl refl)) refl (λ e. absurd (cc (e))) (λ e. absurd (cc (e))) refl (λ P. tt) tt
      s (failed_of n0 n2 v1 v2 (fresh h) s.tried s.all s.fed (node_all fault.DiskFault folder.content root (fresh h) s.tried s.all s.are) (own_tried (backup_fault.Node fault.DiskFault) folder.content root (fresh h) s.tried s.all s.are)) (λ c e. absurd (cc (e)))
      (λ e. absurd (cc (e))) (λ most. absurd (cc (full most))) now tells same u how
  halted_by (backup_fault.Node (fault.Clash c)) n0 n2 h root v1 v2 v3 folder text only altered clashes breaks full now tells same s u how =
      halted (backup_fault.Node (fault.Clash c)) (Clash c) n0 n2 h root v1 v2 v3 folder text (inr (inr (inr (inr (inr (inl (c, refl, clashes c refl))))))) refl (λ e. absurd (cc (e))) (λ e. absurd (cc (e))) refl (λ P. tt) (not_true (broken n2.log) (λ is. absurd (cc (breaks is))))
      s (failed_of n0 n2 v1 v2 (fresh h) s.tried s.all s.fed (node_all (fault.Clash c) folder.content root (fresh h) s.tried s.all s.are) (own_tried (backup_fault.Node (fault.Clash c)) folder.content root (fresh h) s.tried s.all s.are))
      (λ d is.
      let t = clash_tried c folder.content root (fresh h) s.tried s.all s.are in
      let m = subst (MeetsOther (fresh h) t.0) (one_pair c d is) t.3 in
      let f = failed_of n0 n2 v1 v2 (fresh h) s.tried s.all s.fed (node_all (fault.Clash c) folder.content root (fresh h) s.tried s.all s.are) (own_tried (backup_fault.Node (fault.Clash c)) folder.content root (fresh h) s.tried s.all s.are) in
      let parts : s.fed.done ++ f.0 ∷ [] ≡ keep_steps m.before ++ keep_step m.piece ∷ [] =
      ap (λ (l : List Step). s.fed.done ++ l) (sym f.1) ∙ sym (append-nil (s.fed.done ++ s.fed.failed)) ∙ ap (λ (l : List Step). (s.fed.done ++ s.fed.failed) ++ l) (sym s.last)
      ∙ sym s.fed.parts ∙ t.1 ∙ ap keep_steps m.tried_are ∙ map-append keep_step m.before (m.piece ∷ []) in
      (t.0, t.1, m, f.1 ∙ ap (λ (step : Step). step ∷ []) (last_step s.fed.done (keep_steps m.before) f.0 (keep_step m.piece) parts)))
      (λ e. absurd (cc (e))) (λ most. absurd (cc (full most))) now tells same u how
  halted_by (backup_fault.Node (fault.Altered name)) n0 n2 h root v1 v2 v3 folder text only altered clashes breaks full now tells same s u how = absurd (altered name refl)
  halted_by (backup_fault.Node fault.NotNode) n0 n2 h root v1 v2 v3 folder text only altered clashes breaks full now tells same s u how = absurd (not_of_pieces fault.NotNode (λ e. absurd (cc (e))) (λ c e. absurd (cc (e))) (λ n e. absurd (cc (e))) (only fault.NotNode refl))
  halted_by (backup_fault.Node fault.Broken) n0 n2 h root v1 v2 v3 folder text only altered clashes breaks full now tells same s u how = absurd (not_of_pieces fault.Broken (λ e. absurd (cc (e))) (λ c e. absurd (cc (e))) (λ n e. absurd (cc (e))) (only fault.Broken refl))
  halted_by (backup_fault.Node fault.BadSettings) n0 n2 h root v1 v2 v3 folder text only altered clashes breaks full now tells same s u how = absurd (not_of_pieces fault.BadSettings (λ e. absurd (cc (e))) (λ c e. absurd (cc (e))) (λ n e. absurd (cc (e))) (only fault.BadSettings refl))
  halted_by (backup_fault.Node (fault.NoSnapshot k)) n0 n2 h root v1 v2 v3 folder text only altered clashes breaks full now tells same s u how = absurd (not_of_pieces (fault.NoSnapshot k) (λ e. absurd (cc (e))) (λ c e. absurd (cc (e))) (λ n e. absurd (cc (e))) (only (fault.NoSnapshot k) refl))
  halted_by (backup_fault.Node fault.Memory) n0 n2 h root v1 v2 v3 folder text only altered clashes breaks full now tells same s u how = absurd (not_of_pieces fault.Memory (λ e. absurd (cc (e))) (λ c e. absurd (cc (e))) (λ n e. absurd (cc (e))) (only fault.Memory refl))
  halted_by backup_fault.Folder n0 n2 h root v1 v2 v3 folder text only altered clashes breaks full now tells same s u how =
      halted backup_fault.Folder FolderFault n0 n2 h root v1 v2 v3 folder text (inr (inr (inl refl))) refl (λ e. absurd (cc (e))) (λ e. absurd (cc (e))) refl (λ P. tt) (not_true (broken n2.log) (λ is. absurd (cc (breaks is))))
      s (none_failed_of n0 n2 v1 v2 (fresh h) s.tried s.all s.fed (folder_all folder.content root (fresh h) s.tried s.all s.are)) (λ c e. absurd (cc (e)))
      (λ e. absurd (cc (e))) (λ most. absurd (cc (full most))) now tells same u how
  halted_by backup_fault.TooLarge n0 n2 h root v1 v2 v3 folder text only altered clashes breaks full now tells same s u how =
      halted backup_fault.TooLarge TooLarge n0 n2 h root v1 v2 v3 folder text (inr (inr (inr (inr (inl refl))))) refl (λ e. absurd (cc (e))) (λ e. absurd (cc (e))) refl (λ P. tt) (not_true (broken n2.log) (λ is. absurd (cc (breaks is))))
      s (none_failed_of n0 n2 v1 v2 (fresh h) s.tried s.all s.fed (large_all folder.content root (fresh h) s.tried s.all s.are)) (λ c e. absurd (cc (e)))
      (λ _. s.too_large refl) (λ _. refl) now tells same u how
  halted_by backup_fault.Memory n0 n2 h root v1 v2 v3 folder text only altered clashes breaks full now tells same s u how =
      halted backup_fault.Memory Memory n0 n2 h root v1 v2 v3 folder text (inr (inr (inr (inr (inr (inr refl)))))) refl (λ e. absurd (cc (e))) (λ e. absurd (cc (e))) refl (λ P. tt) (not_true (broken n2.log) (λ is. absurd (cc (breaks is))))
      s (either s.all refl) (λ c e. absurd (cc (e)))
      (λ e. absurd (cc (e))) (λ most. absurd (cc (full most))) now tells same u how
    where
      either : (b : Bool) → s.all ≡ b → FailsToBackUp Memory s.fed.failed
      either true is = inl (none_failed_of n0 n2 v1 v2 (fresh h) s.tried s.all s.fed is)
      either false is = inr (failed_of n0 n2 v1 v2 (fresh h) s.tried s.all s.fed is (own_tried backup_fault.Memory folder.content root (fresh h) s.tried s.all s.are))

-- ---- when it comes to its end

-- a piece of a clash is one of the tree, and what is held under its name is a body that the history brought, or another piece
met_bodies : (c : Pair) (h : List Change) (content : Content) (root : List ℕ) (o : Option Content) (places : List Place) (pieces : List (List ℕ)) → o ≡ Some content → IsTree content root places → AreTried (backup_fault.Node (fault.Clash c)) o root pieces → MeetsOther (fresh h) pieces c
    → IsBodyOf h places c.first × IsBodyOf h places c.second
met_bodies c h content root o places pieces told tree are meets =
    ⊎_elim
    (λ none. absurd (never_none meets.before (sym none ∙ meets.tried_are)))
    (λ some.
    let t = at_some o (λ (x : Content). (ps : List Place) × IsTree x root ps × AreShort ps × IsFront pieces (pieces_of ps)) content some told in
    let same : t.0 ≡ places = one_tree content root t.0 places t.1 tree in
    let front : pieces_of places ≡ pieces ++ t.3.0 = ap pieces_of (sym same) ∙ t.3.1 in
    let of_tree : (p : List ℕ) → In p pieces → Contains (pieces_of places) p = λ p i. from_in p (pieces_of places) (subst (λ (l : List (List ℕ)). In p l) (sym front) (in_left p pieces t.3.0 i)) in (
      ⊎_elim (λ brought. inl (name, brought)) (λ piece. inr (piece.0, of_tree piece.0 (subst (λ (l : List (List ℕ)). In piece.0 l) (sym meets.tried_are) (in_left piece.0 meets.before (meets.piece ∷ []) piece.1)), piece.2))
          (brought_by meets.before (fresh h) name c.first meets.first.1),
      inr (meets.piece, of_tree meets.piece (subst (λ (l : List (List ℕ)). In meets.piece l) (sym meets.tried_are) (in_right meets.piece meets.before (meets.piece ∷ []) (inl refl))), meets.second),
    ))
    are.first
  where
    name : List ℕ
    name = (sealed_ref meets.piece).name

    never_none : (before : List (List ℕ)) → [] ≡ before ++ meets.piece ∷ [] → ⊥
    never_none [] e = absurd (cc)
    never_none (b ∷ before) e = absurd (cc)

pub comes_to_end : (stands : List Entry → List ℕ → Type 0) (h : List Change) (root : List ℕ) (old new : View) (folder : FolderView) (status : Status) (content : Content) (places : List Place)
    → ((opened : Bool) × BacksUpTo stands h root opened old new folder status) → folder.content ≡ Some content → CanBeBackedUp content root places → snaps_made (state h) < 4294967295 → MeetsNone h places
    → status ≢ DiskFault → status ≢ FolderFault → status ≢ SayFault → (status ≡ Done) ⊎ (status ≡ Memory)
comes_to_end stands h root old new folder status content places (opened, b) told can room none disk fold say =
    ⊎_elim (λ e. inl e) (λ o. ⊎_elim (λ e. absurd (disk e)) (λ o. ⊎_elim (λ e. absurd (fold e)) (λ o. ⊎_elim (λ e. absurd (say e)) (λ o. ⊎_elim (λ e. absurd (not_large (b.too_large e)))
    (λ o. ⊎_elim (λ (c, e, clashes). absurd (never_met c e clashes)) (λ e. inr e) o) o) o) o) o) b.ends
  where
    has : HasRoom content root
    has = room_of content root places can.tree can.short can.fits

    not_large : IsTooMuch (snaps_made (state h)) folder.content root b.steps → ⊥
    not_large (inl full) = absurd (omega (arith, room, full.0))
    not_large (inr (inl large)) = ⊎_elim (λ long. has.sizes.paths long) (λ much. has.sizes.few much) (at_some folder.content (λ (x : Content). IsTooLarge x root) content large.0 told)
    not_large (inr (inr long)) = has.text (at_some folder.content (λ (x : Content). IsLongWithRefs x root) content long.0 told).text

    met : (c : Pair) → Clashes c.first c.second → (by : BackupFault) → Clash c ≡ status_of by → (steps : List Step) (all : Bool) → IsTried by folder.content root (fresh h) steps all → ⊥
    met c clashes (backup_fault.Node (fault.Clash d)) e steps all tried =
        let t = clash_tried d folder.content root (fresh h) steps all tried in
        let bodies = met_bodies d h content root folder.content places t.0 told can.tree t.2 t.3 in
        none.none d.first d.second bodies.0 bodies.1 (subst (λ (p : Pair). Clashes p.first p.second) (one_pair c d e) clashes)
    met c clashes (backup_fault.Node fault.NotNode) e steps all tried = absurd (cc (e))
    met c clashes (backup_fault.Node fault.DiskFault) e steps all tried = absurd (cc (e))
    met c clashes (backup_fault.Node fault.Broken) e steps all tried = absurd (cc (e))
    met c clashes (backup_fault.Node fault.BadSettings) e steps all tried = absurd (cc (e))
    met c clashes (backup_fault.Node (fault.Altered name)) e steps all tried = absurd (cc (e))
    met c clashes (backup_fault.Node (fault.NoSnapshot k)) e steps all tried = absurd (cc (e))
    met c clashes (backup_fault.Node fault.Memory) e steps all tried = absurd (cc (e))
    met c clashes backup_fault.Folder e steps all tried = absurd (cc (e))
    met c clashes backup_fault.TooLarge e steps all tried = absurd (cc (e))
    met c clashes backup_fault.Memory e steps all tried = absurd (cc (e))

    no_line : (c : Pair) → status ≡ Clash c → IsLineLeft status b.course.undone → ⊥
    no_line c e left = subst (λ (x : Status). IsLineLeft x b.course.undone) e left

    by_opened : (opened ≡ true) ⊎ (opened ≡ false)
    by_opened = two opened
      where
        two : (x : Bool) → (x ≡ true) ⊎ (x ≡ false)
        two true = inl refl
        two false = inr refl

    never_met : (c : Pair) → status ≡ Clash c → Clashes c.first c.second → ⊥
    never_met c e clashes = ⊎_elim
        (λ yes. ⊎_elim (λ m. no_line c e m.1) (λ u. met c clashes u.0.by (sym e ∙ u.0.status_is) b.steps u.0.all u.0.tried) (b.comes_to yes))
        (λ no_. ⊎_elim (λ is. absurd (disk is)) (λ is. let clash : Clash c ≡ Memory = sym e ∙ is in absurd (cc)) (b.unopened no_).0)
        by_opened
