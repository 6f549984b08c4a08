-- What `forget` comes to.
use Rattle.std.proofs.Common.{◌≡◌, ◌≢◌, ◌⊎◌, inl, inr, ⊎_elim, ℕ, ◌+◌, ◌≤◌, Bool, true, false, List, [], ◌∷◌, ◌++◌, length, None, refl, sym, ◌∙◌, ap, subst, arith, length-append}
use Rattle.std.proofs.lemmas.Bool.{false≢true}
use Rattle.std.proofs.lemmas.List.{append-nil}
use Rattle.psb_station.specs.View.{View, Outside}
use Rattle.psb_station.specs.Span.{Keeps, Tells_bytes}
use Rattle.node_journal.specs.Entry.{Entry}
use Rattle.psb_model.specs.History.{state}
use Rattle.psb_model.specs.declared.change.Change.{Change}
use Rattle.psb_machine.specs.Machine.{Forget, fresh, has_snapshot}
use Rattle.psb_machine.specs.Course.{Step, Absorb}
use Rattle.node_core.specs.declared.node.Node.{Node}
use Rattle.node_serve.specs.Spans.{Fed}
use Rattle.backup_cli.specs.Commanded.{IfThrough, UnlessHarmed}
use Rattle.said_lines.specs.Lines.{joined_lines}
use Rattle.said_lines.specs.Lines.{forgot_line}
use Rattle.said_lines.specs.Says.{Utters, IsRefusal, NotOpened}
use Rattle.backup_cli.specs.Served.{ending_of, refused_of}
use Rattle.backup_cli.specs.Forgotten.{forget_course, FailsToForget, Finds, Forgets, ForgetsOn, StopsForget}
use Rattle.said_lines.specs.declared.status.Status.{Status}
use Rattle.said_lines.specs.declared.status.Status.TheVariants.{Done, DiskFault, SayFault, NoSnapshot, Memory}
use Rattle.backup_cli.proofs.Commanding.{NoOther, long_says, ended, lines_behind, lines_left, from_before}
use Rattle.backup_cli.proofs.Ends.{refused_since, quiet_since, unopened_command}
use Rattle.backup_cli.proofs.Outcomes.{utters_as}
use Rattle.psb_machine.specs.Commands.{says}

-- ---- whether the number was found

unfound : (h : List Change) (number : ℕ) (status : Status) → (status ≡ DiskFault) ⊎ (status ≡ Memory) → Finds h number status
unfound h number status (inl is) = record { present = λ well. absurd (⊎_elim (λ e. absurd (cc (is, e))) (λ e. absurd (cc (is, e))) well); absent = λ k e. absurd (cc (is, e)) }
unfound h number status (inr is) = record { present = λ well. absurd (⊎_elim (λ e. absurd (cc (is, e))) (λ e. absurd (cc (is, e))) well); absent = λ k e. absurd (cc (is, e)) }

found : (h : List Change) (number : ℕ) (status : Status) → (status ≡ Done) ⊎ (status ≡ SayFault) → has_snapshot (state h) number ≡ true → Finds h number status
found h number status (inl is) there = record { present = λ well. there; absent = λ k e. absurd (cc (is, e)) }
found h number status (inr is) there = record { present = λ well. there; absent = λ k e. absurd (cc (is, e)) }

not_found : (h : List Change) (number : ℕ) → has_snapshot (state h) number ≡ false → Finds h number (NoSnapshot number)
not_found h number none = record { present = λ well. absurd (⊎_elim (λ e. absurd (cc (e))) (λ e. absurd (cc (e))) well); absent = λ k e. (cc (e), none) }

-- ---- the node was not opened

pub unforgotten : (stands : List Entry → List ℕ → Type 0) (h : List Change) (number : ℕ) (v0 v3 : View) (status : Status)
    → Tells_bytes v3 → (status ≡ DiskFault) ⊎ (status ≡ Memory) → NotOpened status v0 v3 → Forgets stands h number false v0 v3 status
unforgotten stands h number v0 v3 status tells why n =
    let r = n.refuses tells in
    record {
      unopened = λ is. why;
      finds = unfound h number status why;
      refusal = r.text;
      how = r.how;
      course = unopened_command stands h (forget_course number) v0 v3 status (inr why) n.images r;
      fails = λ is. absurd (false≢true is);
      kept = n.kept;
    }

-- a command from a moment after which nothing was lost is one from before it
pub forgets_from : (stands : List Entry → List ℕ → Type 0) (h : List Change) (number : ℕ) (v0 v1 v3 : View) (status : Status) → NoOther v0 → Keeps v0 v1 → ForgetsOn stands h number v1 v3 status → Forgets stands h number true v0 v3 status
forgets_from stands h number v0 v1 v3 status now keeps on =
    let f = on.0 in
    let c = from_before stands h (forget_course number) None f.refusal (refused_of status) v0 v1 v3 (ending_of status) now keeps f.course on.1 in
    record {
      unopened = λ is. absurd (false≢true (sym is));
      finds = f.finds;
      refusal = f.refusal;
      how = refused_since status f.refusal v0 v1 v3 (ap (λ (o : Outside). o.say_faults) keeps.works.outside) f.how;
      course = c.0;
      fails = λ is. subst (FailsToForget number status) (sym c.1) (f.fails is);
      kept = quiet_since v0 v1 v3 keeps f.kept;
    }

-- ---- it was opened

-- a course of one step fails at that step
one_step : (x : Step) (done failed undone : List Step) → x ∷ [] ≡ done ++ failed ++ undone → length failed ≡ 1 → failed ≡ x ∷ []
one_step x done [] undone is one = absurd (omega (arith, one))
one_step x [] (y ∷ []) [] is one = sym is
one_step x [] (y ∷ []) (z ∷ undone) is one = absurd (omega (arith, ap (λ (l : List Step). length l) is))
one_step x [] (y ∷ z ∷ failed) undone is one = absurd (omega (arith, one))
one_step x (d ∷ done) (y ∷ failed) undone is one =
    absurd (omega (arith, ap (λ (l : List Step). length l) is, length-append (done ++ (y ∷ failed)) undone, length-append done (y ∷ failed)))

-- what was said behind it leaves the rest as it was
pub quiet_then : (v1 v2 v3 : View) (tried : ℕ) (text : List ℕ) → v2.outside ≡ v1.outside → Utters v2 v3 tried text → v3.outside ≡ record v1.outside { said = v3.outside.said; say_faults = v3.outside.say_faults }
quiet_then v1 v2 v3 tried text same u = u.kept ∙ ap (λ (o : Outside). record o { said = v3.outside.said; say_faults = v3.outside.say_faults }) same

module _ {L : Type 0} (holds : L → List Entry → List ℕ → Type 0) (stands : List Entry → List ℕ → Type 0) (broken : L → Bool) (law : (log : L) (es : List Entry) (c : List ℕ) → holds log es c → stands es c) where
  -- the number was absorbed, and then the line was said, or tried
  line_told : (status : Status) (n0 n2 : Node L) (h : List Change) (number : ℕ) (v1 v2 v3 : View) (said tried : List (List ℕ))
      → (status ≡ Done) ⊎ (status ≡ SayFault) → IfThrough (ending_of status) (tried ≡ []) → ((P : Type 0) → P → UnlessHarmed (ending_of status) P) → ((P Q : Type 0) → (P → Q) → IfThrough (ending_of status) P → IfThrough (ending_of status) Q)
      → FailsToForget number status (says tried) → length tried ≤ 1 → forgot_line number ∷ [] ≡ said ++ tried ++ [] → broken n2.log ≡ false → has_snapshot (state h) number ≡ true
      → NoOther v1 → Tells_bytes v3 → v2.outside ≡ v1.outside → Fed holds stands broken n0 n2 v1 v2 (fresh h) (Absorb (Forget number) ∷ []) None true
      → Utters v2 v3 (length said + length tried + refused_of status) (joined_lines said ++ []) → IsRefusal status [] v1 v3 → ForgetsOn stands h number v1 v3 status
  line_told status n0 n2 h number v1 v2 v3 said tried well through unless lift fails few lines_are sound there now tells same r u how =
      let b = lines_behind holds stands broken law n0 n2 h v1 v2 (Absorb (Forget number) ∷ []) None (forgot_line number ∷ []) said tried [] r lines_are in
      let many : length (r.failed ++ says tried) ≤ 1 = omega (arith, few, long_says tried, ap (λ (l : List Step). length l) b.1) in
      let c = ended holds stands broken law n0 n2 h v1 v2 v3 (Absorb (Forget number) ∷ []) (forget_course number) said tried [] None true [] (refused_of status) (ending_of status)
      now tells (unless (broken n2.log ≡ false) sound) r u b.0 many
      (lift (tried ≡ []) ((r.failed ++ says tried ≡ []) × (r.undone ++ [] ≡ [])) (λ is. (b.1 ∙ ap says is, b.2)) through) in (
        record {
          unopened = λ is. absurd (false≢true (sym is));
          finds = found h number status well there;
          refusal = [];
          how = how;
          course = c.0.0;
          fails = λ _. subst (FailsToForget number status) (sym (c.1 ∙ b.1)) fails;
          kept = quiet_then v1 v2 v3 _ _ same u;
        },
        c.0.1,
      )

  pub line_said : (n0 n2 : Node L) (h : List Change) (number : ℕ) (v1 v2 v3 : View) → broken n2.log ≡ false → has_snapshot (state h) number ≡ true → NoOther v1 → Tells_bytes v3 → v2.outside ≡ v1.outside
      → Fed holds stands broken n0 n2 v1 v2 (fresh h) (Absorb (Forget number) ∷ []) None true → Utters v2 v3 1 (forgot_line number) → ForgetsOn stands h number v1 v3 Done
  line_said n0 n2 h number v1 v2 v3 sound there now tells same r u =
      line_told Done n0 n2 h number v1 v2 v3 (forgot_line number ∷ []) [] (inl refl) refl (λ P p. p) (λ P Q f p. f p) refl (omega arith) refl sound there now tells same r
      (utters_as v2 v3 1 (1 + 0 + 0) (forgot_line number) (joined_lines (forgot_line number ∷ []) ++ []) (omega arith) (sym (append-nil (joined_lines (forgot_line number ∷ [])) ∙ append-nil (forgot_line number))) u) (inl refl)

  pub line_failed : (n0 n2 : Node L) (h : List Change) (number : ℕ) (v1 v2 v3 : View) → broken n2.log ≡ false → has_snapshot (state h) number ≡ true → NoOther v1 → Tells_bytes v3 → v2.outside ≡ v1.outside
      → Fed holds stands broken n0 n2 v1 v2 (fresh h) (Absorb (Forget number) ∷ []) None true → Utters v2 v3 1 [] → ForgetsOn stands h number v1 v3 SayFault
  line_failed n0 n2 h number v1 v2 v3 sound there now tells same r u =
      line_told SayFault n0 n2 h number v1 v2 v3 [] (forgot_line number ∷ []) (inr refl) tt (λ P p. p) (λ P Q f p. tt) refl (omega arith) refl sound there now tells same r
      (utters_as v2 v3 1 (0 + 1 + 0) [] [] (omega arith) refl u) (inl refl)

  -- the input failed, or was refused
  halted : (status : Status) (n0 n2 : Node L) (h : List Change) (number : ℕ) (v1 v2 v3 : View) (text : List ℕ)
      → refused_of status ≡ 1 → ((P : Type 0) → IfThrough (ending_of status) P) → ((failed : List Step) → failed ≡ Absorb (Forget number) ∷ [] → FailsToForget number status failed)
      → UnlessHarmed (ending_of status) (broken n2.log ≡ false) → Finds h number status
      → NoOther v1 → Tells_bytes v3 → v2.outside ≡ v1.outside → Fed holds stands broken n0 n2 v1 v2 (fresh h) (Absorb (Forget number) ∷ []) None false
      → Utters v2 v3 1 text → IsRefusal status text v2 v3 → ForgetsOn stands h number v1 v3 status
  halted status n0 n2 h number v1 v2 v3 text one whole fails sound finds now tells same r u how =
      let lines = forgot_line number ∷ [] in
      let b = lines_left holds stands broken law n0 n2 h v1 v2 (Absorb (Forget number) ∷ []) None false lines r in
      let c = ended holds stands broken law n0 n2 h v1 v2 v3 (Absorb (Forget number) ∷ []) (forget_course number) [] [] lines None false text (refused_of status) (ending_of status)
      now tells sound r (utters_as v2 v3 1 (0 + 0 + refused_of status) text text (omega (arith, one)) refl u) b.0 b.2 (whole _) in (
        record {
          unopened = λ is. absurd (false≢true (sym is));
          finds = finds;
          refusal = text;
          how = refused_since status text v1 v2 v3 (ap (λ (o : Outside). o.say_faults) same) how;
          course = c.0.0;
          fails = λ _. fails c.0.0.failed (c.1 ∙ b.1 ∙ one_step (Absorb (Forget number)) r.done r.failed r.undone r.parts r.one);
          kept = quiet_then v1 v2 v3 1 text same u;
        },
        c.0.1,
      )

  pub halted_by : (status : Status) (n0 n2 : Node L) (h : List Change) (number : ℕ) (v1 v2 v3 : View) (text : List ℕ) → StopsForget number status → (status ≡ DiskFault) ⊎ (broken n2.log ≡ false)
      → (status ≡ NoSnapshot number → has_snapshot (state h) number ≡ false)
      → NoOther v1 → Tells_bytes v3 → v2.outside ≡ v1.outside → Fed holds stands broken n0 n2 v1 v2 (fresh h) (Absorb (Forget number) ∷ []) None false
      → Utters v2 v3 1 text → IsRefusal status text v2 v3 → ForgetsOn stands h number v1 v3 status
  halted_by status n0 n2 h number v1 v2 v3 text stops sound absent now tells same r u how =
      let well : status ≢ DiskFault → broken n2.log ≡ false = λ other. ⊎_elim (λ e. absurd (other e)) (λ w. w) sound in
      let by : (s : Status) → (IsRefusal s text v2 v3 → ForgetsOn stands h number v1 v3 s) → status ≡ s → ForgetsOn stands h number v1 v3 status =
      λ s ends is. subst (λ (x : Status). IsRefusal x text v2 v3 → ForgetsOn stands h number v1 v3 x) (sym is) ends how in
      ⊎_elim
      (λ is. by DiskFault (halted DiskFault n0 n2 h number v1 v2 v3 text refl (λ P. tt) (λ l e. e) tt (unfound h number DiskFault (inl refl)) now tells same r u) is)
      (λ rest.
      ⊎_elim
      (λ is. by Memory (halted Memory n0 n2 h number v1 v2 v3 text refl (λ P. tt) (λ l e. e) (well (λ e. absurd (cc (is, e)))) (unfound h number Memory (inr refl)) now tells same r u) is)
      (λ is. by (NoSnapshot number) (halted (NoSnapshot number) n0 n2 h number v1 v2 v3 text refl (λ P. tt) (λ l e. e) (well (λ e. absurd (cc (is, e)))) (not_found h number (absent is)) now tells same r u) is)
      rest)
      stops
