-- What `restore` comes to.
use Rattle.std.proofs.Common.{◌≡◌, ◌≢◌, ◌⊎◌, inl, inr, ⊎_elim, ℕ, ◌+◌, ◌≤◌, Bool, true, false, if◌then◌else◌, List, [], ◌∷◌, ◌++◌, length, take, Some, None, Ok, Err, refl, sym, ◌∙◌, ap, subst, arith}
use Rattle.std.proofs.lemmas.Bool.{false≢true}
use Rattle.std.proofs.lemmas.List.{append-nil}
use Rattle.psb_bytes.specs.declared.ids.Ticket.{Ticket}
use Rattle.psb_station.specs.View.{View, Outside, Heard}
use Rattle.psb_station.specs.Folder.{FolderView}
use Rattle.psb_station.specs.Span.{Tells_bytes, Keeps}
use Rattle.node_journal.specs.Entry.{Entry}
use Rattle.psb_settings.specs.declared.settings.Settings.{Settings}
use Rattle.psb_model.specs.History.{state}
use Rattle.psb_model.specs.declared.change.Change.{Change}
use Rattle.psb_machine.specs.Machine.{Situation, fresh}
use Rattle.psb_machine.specs.Course.{Step, after_all}
use Rattle.node_core.specs.declared.node.Node.{Node}
use Rattle.node_core.specs.Stored.{Knows, Stored}
use Rattle.node_serve.specs.Hears.{Hears}
use Rattle.node_serve.specs.Joins.{nodes_of, join_answers, JoinsAll}
use Rattle.node_serve.specs.Spans.{no_tally, Fed, FedBy}
use Rattle.node_serve.proofs.Runs.{hears_then, uncounted, all_done, no_steps, by_whole}
use Rattle.snapshot_restore.specs.Course.{heard_in, restore_steps}
use Rattle.snapshot_restore.specs.Taken.{fetches}
use Rattle.snapshot_restore.specs.Restored.{Restores, StopsRestore}
use Rattle.snapshot_restore.specs.declared.fault.RestoreFault.{RestoreFault}
use Rattle.snapshot_restore.specs.declared.restoring.Restored.{Restored}
use Rattle.snapshot_restore.specs.declared.fault.RestoreFault.TheVariants as restore_fault
use Rattle.psb_station.specs.Calls.{Grows}
use Rattle.psb_machine.specs.Commands.{peer_ids, says}
use Rattle.node_serve.proofs.Runs.{hears_none, fed_none}
use Rattle.node_serve.proofs.Tries.{grows_none}
use Rattle.backup_cli.specs.Commanded.{Halted, IfThrough, UnlessHarmed}
use Rattle.said_lines.specs.Lines.{joined_lines}
use Rattle.said_lines.specs.Lines.{restored_line}
use Rattle.said_lines.specs.Says.{Utters, IsRefusal, NotOpened}
use Rattle.backup_cli.specs.Served.{ending_of, refused_of}
use Rattle.backup_cli.specs.RestoredTo.{status_of, kept_ticket, ticket_at, FallsShort, EndsSaying, AnyOutcome, Fares, RestoresTo, RestoresOn}
use Rattle.backup_cli.specs.declared.words.Which.{Which}
use Rattle.backup_cli.specs.declared.words.Which.TheVariants.{Number}
use Rattle.said_lines.specs.declared.status.Status.{Status}
use Rattle.said_lines.specs.declared.status.Status.TheVariants.{Done, DiskFault, LinkFault, SayFault, NoSnapshot, Memory}
use Rattle.backup_cli.proofs.Commanding.{NoOther, long_says, ended, lines_behind, lines_left, from_before}
use Rattle.backup_cli.proofs.Ends.{refused_since, unopened_command}
use Rattle.backup_cli.proofs.Outcomes.{hears_still, last_input, by_joined, utters_as}

-- ---- the statuses of what falls short

one_refusal : (e : RestoreFault) → refused_of (status_of e) ≡ 1
one_refusal (restore_fault.Node f) = refl
one_refusal restore_fault.Link = refl
one_refusal restore_fault.Folder = refl
one_refusal restore_fault.NotEmpty = refl
one_refusal (restore_fault.Missing name) = refl
one_refusal (restore_fault.Altered name got) = refl
one_refusal (restore_fault.BadSkeleton f place) = refl
one_refusal restore_fault.Memory = refl

not_through : (e : RestoreFault) (P : Type 0) → IfThrough (ending_of (status_of e)) P
not_through (restore_fault.Node f) P = tt
not_through restore_fault.Link P = tt
not_through restore_fault.Folder P = tt
not_through restore_fault.NotEmpty P = tt
not_through (restore_fault.Missing name) P = tt
not_through (restore_fault.Altered name got) P = tt
not_through (restore_fault.BadSkeleton f place) P = tt
not_through restore_fault.Memory P = tt

sound_unless : (e : RestoreFault) (b : Bool) → (status_of e ≡ DiskFault) ⊎ (b ≡ false) → UnlessHarmed (ending_of (status_of e)) (b ≡ false)
sound_unless (restore_fault.Node f) b why = tt
sound_unless restore_fault.Link b why = ⊎_elim (λ is. absurd (cc (is))) (λ well. well) why
sound_unless restore_fault.Folder b why = ⊎_elim (λ is. absurd (cc (is))) (λ well. well) why
sound_unless restore_fault.NotEmpty b why = ⊎_elim (λ is. absurd (cc (is))) (λ well. well) why
sound_unless (restore_fault.Missing name) b why = ⊎_elim (λ is. absurd (cc (is))) (λ well. well) why
sound_unless (restore_fault.Altered name got) b why = ⊎_elim (λ is. absurd (cc (is))) (λ well. well) why
sound_unless (restore_fault.BadSkeleton f place) b why = ⊎_elim (λ is. absurd (cc (is))) (λ well. well) why
sound_unless restore_fault.Memory b why = ⊎_elim (λ is. absurd (cc (is))) (λ well. well) why

not_unsaid : (e : RestoreFault) → status_of e ≢ SayFault
not_unsaid (restore_fault.Node f) is = absurd (cc (is))
not_unsaid restore_fault.Link is = absurd (cc (is))
not_unsaid restore_fault.Folder is = absurd (cc (is))
not_unsaid restore_fault.NotEmpty is = absurd (cc (is))
not_unsaid (restore_fault.Missing name) is = absurd (cc (is))
not_unsaid (restore_fault.Altered name got) is = absurd (cc (is))
not_unsaid (restore_fault.BadSkeleton f place) is = absurd (cc (is))
not_unsaid restore_fault.Memory is = absurd (cc (is))

module _ {L : Type 0} (holds : L → List Entry → List ℕ → Type 0) (stands : List Entry → List ℕ → Type 0) (broken : L → Bool) (law : (log : L) (es : List Entry) (c : List ℕ) → holds log es c → stands es c) where
  -- ---- behind the joins

  -- the disk holds what it held
  stored_joined : (n0 : Node L) (h : List Change) (settings : Settings) (v1 m : View) → broken n0.log ≡ false → Tells_bytes m → Stored holds n0 h v1 → JoinsAll holds stands broken n0 v1 m (fresh h) settings true → Stored holds n0 h m
  stored_joined n0 h settings v1 m sound tells st j =
      let f = j.fed sound tells st in
      subst (λ (l : List Step). Stored holds n0 (after_all (fresh h) l).history m) (sym (all_done holds stands broken law n0 n0 v1 m (fresh h) [] (Some no_tally) f)) (f.stored sound)

  fed_joined : (n0 n2 : Node L) (h : List Change) (settings : Settings) (v1 m v2 : View) (heard : List Heard) (steps : List Step) (ok : Bool) → broken n0.log ≡ false → Tells_bytes m → Stored holds n0 h v1 → (j : JoinsAll holds stands broken n0 v1 m (fresh h) settings true)
      → FedBy holds stands broken n0 n2 m v2 (fresh h) (peer_ids settings) 0 heard steps None ok → FedBy holds stands broken n0 n2 v1 v2 (fresh h) (peer_ids settings) 0 (join_answers j.made true ++ heard) steps None ok
  fed_joined n0 n2 h settings v1 m v2 heard steps ok sound tells st j r =
      by_joined holds stands broken law n0 n2 h settings v1 m v2 heard steps None ok sound st tells j
      (λ n here knows stored. subst (λ (l : Situation). FedBy holds stands broken n0 n2 m v2 l (peer_ids settings) 0 heard steps None ok) (sym here) r)

  hears_joined : (n0 : Node L) (h : List Change) (settings : Settings) (v1 m v2 : View) (heard : List Heard) → (j : JoinsAll holds stands broken n0 v1 m (fresh h) settings true) → Hears m v2 [] heard
      → Hears v1 v2 (take j.made (nodes_of settings)) (join_answers j.made true ++ heard)
  hears_joined n0 h settings v1 m v2 heard j r =
      subst (λ (js : List (ℕ × List ℕ)). Hears v1 v2 js (join_answers j.made true ++ heard)) (append-nil (take j.made (nodes_of settings)))
      (hears_then v1 m v2 (take j.made (nodes_of settings)) [] (join_answers j.made true) heard j.hears r)

  -- ---- what it comes to before its line

  pub fares_restored : (n0 n2 : Node L) (h : List Change) (settings : Settings) (v1 m v2 : View) (t : Ticket) (root : List ℕ) (turns : ℕ) (was is : FolderView) (d : Restored)
      → broken n0.log ≡ false → Knows n0 (fresh h) → (state h).settings ≡ Some settings → Stored holds n0 h v1 → Tells_bytes v2 → JoinsAll holds stands broken n0 v1 m (fresh h) settings true → Restores holds stands broken n0 n2 m v2 was is t root turns d
      → Fares holds stands broken n0 n2 h settings v1 v2 t root turns was is (Ok d)
  fares_restored n0 n2 h settings v1 m v2 t root turns was is d sound knows present st tells j r =
      let b = r.below in
      let ts = b.made.ts in
      let mid = b.run.tells tells in
      let a = b.all tells (fresh h) settings knows (stored_joined n0 h settings v1 m sound mid st j) present in
      let steps = restore_steps settings 0 (fetches ts) in
      record {
        made = j.made;
        answers = join_answers j.made true ++ heard_in (fetches ts);
        steps = steps;
        ok = true;
        hears = hears_joined n0 h settings v1 m v2 (heard_in (fetches ts)) j b.run.hears;
        fed = fed_joined n0 n2 h settings v1 m v2 (heard_in (fetches ts)) steps true sound mid st j (by_whole holds stands broken law n0 n2 m v2 (fresh h) (peer_ids settings) 0 (heard_in (fetches ts)) steps None a.fed);
        all_fed = λ is. refl;
        comes_to = record { tree = b.made; exact = r.exact; empty = r.empty; taken = a.taken; hears = record { all_joined = j.whole refl; answers_are = refl }; steps_are = refl };
      }

  pub fares_short : (n0 n2 : Node L) (h : List Change) (settings : Settings) (v1 m v2 : View) (t : Ticket) (root : List ℕ) (turns : ℕ) (was is : FolderView) (e : RestoreFault) (status : Status)
      → status ≡ status_of e → broken n0.log ≡ false → Knows n0 (fresh h) → (state h).settings ≡ Some settings → Stored holds n0 h v1 → Tells_bytes v2 → JoinsAll holds stands broken n0 v1 m (fresh h) settings true → StopsRestore holds stands broken n0 n2 m v2 was is t root turns e
      → Fares holds stands broken n0 n2 h settings v1 v2 t root turns was is (Err status)
  fares_short n0 n2 h settings v1 m v2 t root turns was is e status by sound knows present st tells j r =
      let b = r.below in
      let l = b.leaves in
      let mid = b.run.tells tells in
      let a = b.all tells (fresh h) settings knows (stored_joined n0 h settings v1 m sound mid st j) present in
      let steps = restore_steps settings 0 (fetches l.ts ++ l.last) in
      let heard = heard_in (fetches l.ts ++ l.last) in
      let all = join_answers j.made true ++ heard in
      let fed = fed_joined n0 n2 h settings v1 m v2 heard steps l.ok sound mid st j a.fed in
      record {
        made = j.made;
        answers = all;
        steps = steps;
        ok = l.ok;
        hears = hears_joined n0 h settings v1 m v2 heard j b.run.hears;
        fed = fed;
        all_fed = λ is. absurd (false≢true is);
        comes_to = inr (
          e,
          record {
            left = l;
            met = r.met;
            taken = a.taken;
            in_vain = a.in_vain;
            at_once = r.at_once;
            hears = record { all_joined = j.whole refl; answers_are = refl };
            steps_are = refl;
            all_fed = λ is. (no_steps fed.fed.failed (fed.fed.one ∙ ap (λ (b : Bool). if b then 0 else 1) is), fed.fed.whole is);
            fails = λ is.
                let last = fed.in_last is in
                let x = last_input (peer_ids settings) 0 all fed.fed.failed fed.fed.undone last (fed.fed.one ∙ ap (λ (b : Bool). if b then 0 else 1) is) in
                (x.0, x.1, record { rest = fed.fed.undone; in_last = last; undone_is = sym (append-nil fed.fed.undone) });
          },
          by,
        );
      }

  pub fares_unjoined : (n0 : Node L) (h : List Change) (settings : Settings) (v1 m : View) (t : Ticket) (root : List ℕ) (turns : ℕ) (was : FolderView) → broken n0.log ≡ false → Stored holds n0 h v1 → Tells_bytes m → JoinsAll holds stands broken n0 v1 m (fresh h) settings false
      → Fares holds stands broken n0 n0 h settings v1 m t root turns was was (Err LinkFault)
  fares_unjoined n0 h settings v1 m t root turns was sound st tells j = record {
    made = j.made;
    answers = join_answers j.made false;
    steps = [];
    ok = true;
    hears = j.hears;
    fed = by_whole holds stands broken law n0 n0 v1 m (fresh h) (peer_ids settings) 0 (join_answers j.made false) [] None (uncounted holds stands broken law n0 n0 v1 m (fresh h) [] (Some no_tally) true (j.fed sound tells st));
    all_fed = λ is. refl;
    comes_to = inl (record { status_is = refl; some_joined = j.early refl; answers_are = refl; none = refl; target = refl });
  }

  -- ---- the line, or a refusal

  -- The tree stands in the target; then its line was said, or tried, or memory was short for it.
  line_told : (status : Status) (n0 n2 : Node L) (h : List Change) (settings : Settings) (which : Which) (t : Ticket) (root : List ℕ) (turns : ℕ) (v1 v2 v3 : View) (was is : FolderView) (d : Restored) (text : List ℕ) (said tried rest : List (List ℕ))
      → ((failed undone : List Step) → failed ≡ says tried → undone ≡ says rest → EndsSaying status (restored_line d.files d.folders d.bytes) failed undone) → IfThrough (ending_of status) ((tried ≡ []) × (rest ≡ [])) → ((P : Type 0) → P → UnlessHarmed (ending_of status) P) → ((P Q : Type 0) → (P → Q) → IfThrough (ending_of status) P → IfThrough (ending_of status) Q)
      → (status ≡ SayFault → (line : List ℕ) × (tried ≡ line ∷ [])) → length tried ≤ 1 → restored_line d.files d.folders d.bytes ∷ [] ≡ said ++ tried ++ rest → broken n2.log ≡ false → NoOther v1 → Tells_bytes v3 → ticket_at (state h).kept which ≡ Some t
      → Fares holds stands broken n0 n2 h settings v1 v2 t root turns was is (Ok d) → Utters v2 v3 (length said + length tried + refused_of status) (joined_lines said ++ text) → IsRefusal status text v1 v3
      → RestoresOn stands h settings which root turns v1 v3 was is status
  line_told status n0 n2 h settings which t root turns v1 v2 v3 was is d text said tried rest ends through unless lift one few lines_are sound now tells found f u how =
      let line = restored_line d.files d.folders d.bytes in
      let r = subst (λ (ok : Bool). Fed holds stands broken n0 n2 v1 v2 (fresh h) f.steps None ok) (f.all_fed refl) f.fed.fed in
      let b = lines_behind holds stands broken law n0 n2 h v1 v2 f.steps None (line ∷ []) said tried rest r lines_are in
      let many : length (r.failed ++ says tried) ≤ 1 = omega (arith, few, long_says tried, ap (λ (l : List Step). length l) b.1) in
      let c = ended holds stands broken law n0 n2 h v1 v2 v3 f.steps (f.steps ++ says (line ∷ [])) said tried rest None true text (refused_of status) (ending_of status)
      now tells (unless (broken n2.log ≡ false) sound) r u b.0 many
      (lift ((tried ≡ []) × (rest ≡ [])) ((r.failed ++ says tried ≡ []) × (r.undone ++ says rest ≡ [])) (λ is. (b.1 ∙ ap says is.0, b.2 ∙ ap says is.1)) through) in (
        record {
          made = f.made;
          answers = f.answers;
          hears = hears_still v1 v2 v3 (length said + length tried + refused_of status) (joined_lines said ++ text) (take f.made (nodes_of settings)) f.answers u f.hears;
          steps = f.steps;
          lines = line ∷ [];
          refusal = text;
          how = how;
          course = c.0.0;
          unopened = λ is. absurd (false≢true (sym is));
          comes_to = λ is. inr (t, found, inr (inl (d, f.comes_to, refl, ends c.0.0.failed c.0.0.undone (c.1 ∙ b.1) (c.2 ∙ b.2))));
          unsaid = λ is. let l = one is in (l.0, c.1 ∙ b.1 ∙ ap says l.1);
        },
        c.0.1,
      )

  pub line_said : (n0 n2 : Node L) (h : List Change) (settings : Settings) (which : Which) (t : Ticket) (root : List ℕ) (turns : ℕ) (v1 v2 v3 : View) (was is : FolderView) (d : Restored) → broken n2.log ≡ false → NoOther v1 → Tells_bytes v3 → ticket_at (state h).kept which ≡ Some t
      → Fares holds stands broken n0 n2 h settings v1 v2 t root turns was is (Ok d) → Utters v2 v3 1 (restored_line d.files d.folders d.bytes) → RestoresOn stands h settings which root turns v1 v3 was is Done
  line_said n0 n2 h settings which t root turns v1 v2 v3 was is d sound now tells found f u =
      let line = restored_line d.files d.folders d.bytes in
      line_told Done n0 n2 h settings which t root turns v1 v2 v3 was is d [] (line ∷ []) [] [] (λ failed undone a b. (a, b)) (refl, refl) (λ P p. p) (λ P Q g p. g p) (λ e. absurd (cc (e))) (omega arith) refl sound now tells found f
      (utters_as v2 v3 1 (1 + 0 + 0) line (joined_lines (line ∷ []) ++ []) (omega arith) (sym (append-nil (joined_lines (line ∷ [])) ∙ append-nil line)) u) (inl refl)

  pub line_failed : (n0 n2 : Node L) (h : List Change) (settings : Settings) (which : Which) (t : Ticket) (root : List ℕ) (turns : ℕ) (v1 v2 v3 : View) (was is : FolderView) (d : Restored) → broken n2.log ≡ false → NoOther v1 → Tells_bytes v3 → ticket_at (state h).kept which ≡ Some t
      → Fares holds stands broken n0 n2 h settings v1 v2 t root turns was is (Ok d) → Utters v2 v3 1 [] → RestoresOn stands h settings which root turns v1 v3 was is SayFault
  line_failed n0 n2 h settings which t root turns v1 v2 v3 was is d sound now tells found f u =
      let line = restored_line d.files d.folders d.bytes in
      line_told SayFault n0 n2 h settings which t root turns v1 v2 v3 was is d [] [] (line ∷ []) [] (λ failed undone a b. (a, b)) tt (λ P p. p) (λ P Q g p. tt) (λ e. (line, refl)) (omega arith) refl sound now tells found f
      (utters_as v2 v3 1 (0 + 1 + 0) [] [] (omega arith) refl u) (inl refl)

  pub line_unmade : (n0 n2 : Node L) (h : List Change) (settings : Settings) (which : Which) (t : Ticket) (root : List ℕ) (turns : ℕ) (v1 v2 v3 : View) (was is : FolderView) (d : Restored) (text : List ℕ) → broken n2.log ≡ false → NoOther v1 → Tells_bytes v3 → ticket_at (state h).kept which ≡ Some t
      → v2.outside.say_faults ≡ v1.outside.say_faults → Fares holds stands broken n0 n2 h settings v1 v2 t root turns was is (Ok d) → Utters v2 v3 1 text → IsRefusal Memory text v2 v3 → RestoresOn stands h settings which root turns v1 v3 was is Memory
  line_unmade n0 n2 h settings which t root turns v1 v2 v3 was is d text sound now tells found quiet f u how =
      line_told Memory n0 n2 h settings which t root turns v1 v2 v3 was is d text [] [] (restored_line d.files d.folders d.bytes ∷ []) (λ failed undone a b. (a, b)) tt (λ P p. p) (λ P Q g p. tt) (λ e. absurd (cc (e))) (omega arith) refl sound now tells found f
      (utters_as v2 v3 1 (0 + 0 + 1) text text (omega arith) refl u) (refused_since Memory text v1 v2 v3 quiet how)

  -- it fell short by this fault, and the refusal was tried
  short : (e : RestoreFault) (n0 n2 : Node L) (h : List Change) (settings : Settings) (which : Which) (t : Ticket) (root : List ℕ) (turns : ℕ) (v1 v2 v3 : View) (was is : FolderView) (text : List ℕ) → (status_of e ≡ DiskFault) ⊎ (broken n2.log ≡ false) → NoOther v1 → Tells_bytes v3
      → ticket_at (state h).kept which ≡ Some t → v2.outside.say_faults ≡ v1.outside.say_faults → Fares holds stands broken n0 n2 h settings v1 v2 t root turns was is (Err (status_of e)) → Utters v2 v3 1 text → IsRefusal (status_of e) text v2 v3
      → RestoresOn stands h settings which root turns v1 v3 was is (status_of e)
  short e n0 n2 h settings which t root turns v1 v2 v3 was is text why now tells found quiet f u how =
      let status = status_of e in
      let r = f.fed.fed in
      let b = lines_left holds stands broken law n0 n2 h v1 v2 f.steps None f.ok [] r in
      let c = ended holds stands broken law n0 n2 h v1 v2 v3 f.steps (f.steps ++ []) [] [] [] None f.ok text (refused_of status) (ending_of status)
      now tells (sound_unless e (broken n2.log) why) r (utters_as v2 v3 1 (0 + 0 + refused_of status) text text (omega (arith, one_refusal e)) refl u) b.0 b.2 (not_through e _) in (
        record {
          made = f.made;
          answers = f.answers;
          hears = hears_still v1 v2 v3 1 text (take f.made (nodes_of settings)) f.answers u f.hears;
          steps = f.steps;
          lines = [];
          refusal = text;
          how = refused_since status text v1 v2 v3 quiet how;
          course = c.0.0;
          unopened = λ is. absurd (false≢true (sym is));
          comes_to = λ opened. inr (
            t,
            found,
            ⊎_elim (λ unjoined. inl (unjoined, refl))
                (λ left. inr (inr (
                  left.0,
                  subst (λ (l : List Step). FallsShort h settings t root turns was is f.made f.answers f.steps l c.0.0.undone left.0) (sym (c.1 ∙ b.1))
                      (subst (λ (l : List Step). FallsShort h settings t root turns was is f.made f.answers f.steps r.failed l left.0) (sym (c.2 ∙ append-nil r.undone)) left.1),
                  refl,
                  left.2,
                )))
                f.comes_to,
          );
          unsaid = λ is. absurd (not_unsaid e is);
        },
        c.0.1,
      )

  pub short_by : (status : Status) (n0 n2 : Node L) (h : List Change) (settings : Settings) (which : Which) (t : Ticket) (root : List ℕ) (turns : ℕ) (v1 v2 v3 : View) (was is : FolderView) (text : List ℕ) → (status ≡ DiskFault) ⊎ (broken n2.log ≡ false) → NoOther v1 → Tells_bytes v3
      → ticket_at (state h).kept which ≡ Some t → v2.outside.say_faults ≡ v1.outside.say_faults → Fares holds stands broken n0 n2 h settings v1 v2 t root turns was is (Err status) → Utters v2 v3 1 text → IsRefusal status text v2 v3
      → RestoresOn stands h settings which root turns v1 v3 was is status
  short_by status n0 n2 h settings which t root turns v1 v2 v3 was is text why now tells found quiet f u how =
      let e : (e : RestoreFault) × (status ≡ status_of e) = ⊎_elim (λ unjoined. (restore_fault.Link, unjoined.status_is)) (λ left. (left.0, left.2)) f.comes_to in
      subst (RestoresOn stands h settings which root turns v1 v3 was is) (sym e.1)
      (short e.0 n0 n2 h settings which t root turns v1 v2 v3 was is text (subst (λ (s : Status). (s ≡ DiskFault) ⊎ (broken n2.log ≡ false)) e.1 why) now tells found quiet
      (subst (λ (s : Status). Fares holds stands broken n0 n2 h settings v1 v2 t root turns was is (Err s)) e.1 f) u (subst (λ (s : Status). IsRefusal s text v2 v3) e.1 how))

  -- no kept snapshot has the number
  pub absent : (node : Node L) (h : List Change) (settings : Settings) (which : Which) (number : ℕ) (root : List ℕ) (turns : ℕ) (v1 v3 : View) (was : FolderView) (text : List ℕ) → broken node.log ≡ false → NoOther v1 → Tells_bytes v3 → Knows node (fresh h) → Stored holds node h v1
      → which ≡ Number number → kept_ticket (state h).kept number ≡ None → Utters v1 v3 1 text → IsRefusal (NoSnapshot number) text v1 v3 → RestoresOn stands h settings which root turns v1 v3 was was (NoSnapshot number)
  absent node h settings which number root turns v1 v3 was text sound now tells k st is none u how =
      let r = uncounted holds stands broken law node node v1 v1 (fresh h) [] (Some no_tally) true (fed_none holds stands broken law node (fresh h) v1 k st) in
      let b = lines_left holds stands broken law node node h v1 v1 [] None true [] r in
      let c = ended holds stands broken law node node h v1 v1 v3 [] [] [] [] [] None true text 1 Halted now tells sound r (utters_as v1 v3 1 (0 + 0 + 1) text text (omega arith) refl u) b.0 b.2 tt in (
        record {
          made = 0;
          answers = [];
          hears = hears_still v1 v1 v3 1 text [] [] u (hears_none v1);
          steps = [];
          lines = [];
          refusal = text;
          how = how;
          course = c.0.0;
          unopened = λ is. absurd (false≢true (sym is));
          comes_to = λ opened. inl (record { number = number; which_is = is; absent = none; status_is = refl }, record { none_joined = refl; none_heard = refl; none = refl; target = refl }, refl);
          unsaid = λ is. absurd (cc (is));
        },
        c.0.1,
      )

-- ---- from the opening on

-- the node was not opened
pub unrestored : (stands : List Entry → List ℕ → Type 0) (h : List Change) (settings : Settings) (which : Which) (root : List ℕ) (turns : ℕ) (v0 v3 : View) (was : FolderView) (status : Status)
    → Tells_bytes v3 → (status ≡ DiskFault) ⊎ (status ≡ Memory) → NotOpened status v0 v3 → RestoresTo stands h settings which root turns false v0 v3 was was status
unrestored stands h settings which root turns v0 v3 was status tells why n =
    let r = n.refuses tells in
    record {
      made = 0;
      answers = [];
      hears = record {
        heard = subst (λ (o : Outside). Grows v0.outside.heard o.heard []) (sym n.kept) (grows_none v0.outside.heard);
        joined = subst (λ (o : Outside). Grows v0.outside.joined o.joined []) (sym n.kept) (grows_none v0.outside.joined);
      };
      steps = [];
      lines = [];
      refusal = r.text;
      how = r.how;
      course = unopened_command stands h [] v0 v3 status (inr why) n.images r;
      unopened = λ is. (why, record { none_joined = refl; none_heard = refl; none = refl; target = refl });
      comes_to = λ is. absurd (false≢true is);
      unsaid = λ is. absurd (⊎_elim (λ e. not_both SayFault DiskFault (λ x. absurd (cc (x))) (sym is ∙ e)) (λ e. not_both SayFault Memory (λ x. absurd (cc (x))) (sym is ∙ e)) why);
    }
  where
    not_both : (a b : Status) → a ≢ b → a ≡ b → ⊥
    not_both a b apart same = apart same

-- a command from a moment after which nothing was lost is one from before it
pub restores_from : (stands : List Entry → List ℕ → Type 0) (h : List Change) (settings : Settings) (which : Which) (root : List ℕ) (turns : ℕ) (v0 v1 v3 : View) (was is : FolderView) (status : Status)
    → NoOther v0 → Keeps v0 v1 → RestoresOn stands h settings which root turns v1 v3 was is status → RestoresTo stands h settings which root turns true v0 v3 was is status
restores_from stands h settings which root turns v0 v1 v3 was is status now keeps on =
    let r = on.0 in
    let same : v1.outside ≡ v0.outside = keeps.works.outside in
    let c = from_before stands h (r.steps ++ says r.lines) None r.refusal (refused_of status) v0 v1 v3 (ending_of status) now keeps r.course on.1 in
    record {
      made = r.made;
      answers = r.answers;
      hears = record {
        heard = subst (λ (o : Outside). Grows o.heard v3.outside.heard r.answers) same r.hears.heard;
        joined = subst (λ (o : Outside). Grows o.joined v3.outside.joined (take r.made (nodes_of settings))) same r.hears.joined;
      };
      steps = r.steps;
      lines = r.lines;
      refusal = r.refusal;
      how = refused_since status r.refusal v0 v1 v3 (ap (λ (o : Outside). o.say_faults) same) r.how;
      course = c.0;
      unopened = λ is. absurd (false≢true (sym is));
      comes_to = λ opened.
          subst (λ (l : List Step). AnyOutcome h settings which root turns was is r.made r.answers r.steps r.lines l c.0.undone status) (sym c.1)
          (subst (λ (l : List Step). AnyOutcome h settings which root turns was is r.made r.answers r.steps r.lines r.course.failed l status) (sym c.2) (r.comes_to opened));
      unsaid = λ is. let l = r.unsaid is in (l.0, c.1 ∙ l.1);
    }
