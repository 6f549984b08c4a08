-- What a listing comes to.
use Rattle.std.proofs.Common.{◌≡◌, ◌⊎◌, inl, inr, ⊎_elim, ℕ, ◌+◌, ◌≤◌, Bool, true, false, List, [], ◌∷◌, ◌++◌, length, take, drop, Some, None, Ok, Err, refl, sym, ◌∙◌, ap, subst, arith}
use Rattle.std.proofs.lemmas.Bool.{false≢true}
use Rattle.std.proofs.lemmas.List.{append-nil}
use Rattle.psb_station.specs.View.{View, Outside}
use Rattle.psb_station.specs.Span.{Keeps, Tells_bytes}
use Rattle.psb_station.proofs.Spans.{rose_last}
use Rattle.node_journal.specs.Entry.{Entry}
use Rattle.psb_model.specs.declared.change.Change.{Change}
use Rattle.psb_machine.specs.Machine.{fresh}
use Rattle.psb_machine.specs.Course.{Step}
use Rattle.psb_machine.specs.Commands.{says}
use Rattle.node_core.specs.declared.node.Node.{Node}
use Rattle.node_core.specs.Stored.{Knows, Stored}
use Rattle.node_serve.specs.Spans.{no_tally}
use Rattle.node_serve.proofs.Runs.{fed_none, uncounted}
use Rattle.backup_cli.specs.Commanded.{IfThrough, UnlessHarmed}
use Rattle.said_lines.specs.Lines.{joined_lines}
use Rattle.said_lines.specs.Says.{Utters, IsRefusal, SaysLines, NotOpened}
use Rattle.backup_cli.specs.Served.{ending_of, refused_of}
use Rattle.backup_cli.specs.Listed.{FailsToSay, Lists}
use Rattle.said_lines.specs.declared.saying.SayError.TheVariants as say_error
use Rattle.said_lines.specs.declared.status.Status.{Status}
use Rattle.said_lines.specs.declared.status.Status.TheVariants.{Done, DiskFault, SayFault, Memory}
use Rattle.backup_cli.proofs.Commanding.{NoOther, long_says, ended, lines_behind, from_before}
use Rattle.backup_cli.proofs.Ends.{refused_since, kept_since, images_since, unopened_command}
use Rattle.backup_cli.proofs.Outcomes.{one_at, front_back, long_front, some_behind, some_undone, utters_as}
use Rattle.said_lines.proofs.Utterances.{utters_tells, utters_then}

-- the node was not opened
pub nothing_listed : (stands : List Entry → List ℕ → Type 0) (h : List Change) (lines : List (List ℕ)) (v0 v3 : View) (status : Status)
    → Tells_bytes v3 → (status ≡ DiskFault) ⊎ (status ≡ Memory) → NotOpened status v0 v3 → Lists stands h lines false v0 v3 status
nothing_listed stands h lines v0 v3 status tells why n =
    let r = n.refuses tells in
    record {
      unopened = λ is. why;
      refusal = r.text;
      how = r.how;
      course = unopened_command stands h (says lines) v0 v3 status (inr why) n.images r;
      fails = λ is. absurd (false≢true is);
      unsaid = λ is. absurd (false≢true is);
      bytes = r.bytes;
      images = n.images;
      kept = n.kept;
    }

module _ {L : Type 0} (holds : L → List Entry → List ℕ → Type 0) (stands : List Entry → List ℕ → Type 0) (broken : L → Bool) (law : (log : L) (es : List Entry) (c : List ℕ) → holds log es c → stands es c) where
  -- the node was opened; these lines were said, and one more was tried at most
  lines_listed : (status : Status) (node : Node L) (h : List Change) (lines : List (List ℕ)) (v0 v1 v3 : View) (text : List ℕ) (said tried rest : List (List ℕ))
      → IfThrough (ending_of status) ((tried ≡ []) × (rest ≡ [])) → ((P : Type 0) → P → UnlessHarmed (ending_of status) P) → ((P Q : Type 0) → (P → Q) → IfThrough (ending_of status) P → IfThrough (ending_of status) Q)
      → FailsToSay status (says tried) → length tried ≤ 1 → (status ≡ Memory → 1 ≤ length rest) → broken node.log ≡ false
      → NoOther v0 → NoOther v1 → Keeps v0 v1 → Tells_bytes v3 → Knows node (fresh h) → Stored holds node h v1 → lines ≡ said ++ tried ++ rest
      → Utters v1 v3 (length said + length tried + refused_of status) (joined_lines said ++ text) → IsRefusal status text v1 v3 → Lists stands h lines true v0 v3 status
  lines_listed status node h lines v0 v1 v3 text said tried rest through unless lift fails few left sound now now1 keeps tells knows st lines_are u how =
      let r = uncounted holds stands broken law node node v1 v1 (fresh h) [] (Some no_tally) true (fed_none holds stands broken law node (fresh h) v1 knows st) in
      let b = lines_behind holds stands broken law node node h v1 v1 [] None (lines) said tried rest r lines_are in
      let many : length (r.failed ++ says tried) ≤ 1 = omega (arith, few, long_says tried, ap (λ (l : List Step). length l) b.1) in
      let c = ended holds stands broken law node node h v1 v1 v3 [] (says (lines)) said tried rest None true text (refused_of status) (ending_of status)
      now1 tells (unless (broken node.log ≡ false) sound) r u b.0 many
      (lift ((tried ≡ []) × (rest ≡ [])) ((r.failed ++ says tried ≡ []) × (r.undone ++ says rest ≡ [])) (λ is. (b.1 ∙ ap says is.0, b.2 ∙ ap says is.1)) through) in
      let d = from_before stands h (says (lines)) None text (refused_of status) v0 v1 v3 (ending_of status) now keeps c.0.0 c.0.1 in
      record {
        unopened = λ is. absurd (false≢true (sym is));
        refusal = text;
        how = refused_since status text v0 v1 v3 (ap (λ (o : Outside). o.say_faults) keeps.works.outside) how;
        course = d.0;
        fails = λ _. subst (FailsToSay status) (sym (d.1 ∙ c.1 ∙ b.1)) fails;
        unsaid = λ _ short. subst (λ (l : List Step). 1 ≤ length l) (sym (d.2 ∙ c.2)) (some_undone r.undone rest (left short));
        bytes = u.bytes tells ∙ keeps.bytes (utters_tells v1 v3 _ _ u tells);
        images = images_since v0 v1 v3 _ _ now keeps u;
        kept = kept_since v0 v1 v3 _ _ keeps u;
      }

  pub all_listed : (node : Node L) (h : List Change) (lines : List (List ℕ)) (v0 v1 v3 : View) → broken node.log ≡ false → NoOther v0 → NoOther v1 → Keeps v0 v1 → Tells_bytes v3 → Knows node (fresh h) → Stored holds node h v1
      → SaysLines (lines) v1 v3 (Ok tt) → Lists stands h lines true v0 v3 Done
  all_listed node h lines v0 v1 v3 sound now now1 keeps tells knows st said =
      lines_listed Done node h lines v0 v1 v3 [] lines [] [] (refl, refl) (λ P p. p) (λ P Q f p. f p) refl (omega arith) (λ short. absurd (cc (short))) sound now now1 keeps tells knows st
      (sym (append-nil (lines ++ []) ∙ append-nil lines))
      (utters_as v1 v3 (length lines) (length lines + 0 + 0) (joined_lines lines) (joined_lines lines ++ []) (omega arith) (sym (append-nil (joined_lines lines))) said) (inl refl)

  pub a_line_failed : (node : Node L) (h : List Change) (lines : List (List ℕ)) (v0 v1 v3 : View) → broken node.log ≡ false → NoOther v0 → NoOther v1 → Keeps v0 v1 → Tells_bytes v3 → Knows node (fresh h) → Stored holds node h v1
      → SaysLines (lines) v1 v3 (Err say_error.Say) → Lists stands h lines true v0 v3 SayFault
  a_line_failed node h lines v0 v1 v3 sound now now1 keeps tells knows st said =
      let full = said.0 in
      let at = one_at lines full said.1 in
      let front = take full lines in
      lines_listed SayFault node h lines v0 v1 v3 [] front (at.0 ∷ []) at.1 tt (λ P p. p) (λ P Q f p. tt) (at.0, refl) (omega arith) (λ short. absurd (cc (short))) sound now now1 keeps tells knows st at.2
      (utters_as v1 v3 (full + 1) (length front + 1 + 0) (joined_lines front) (joined_lines front ++ []) (omega (arith, long_front lines full (omega (arith, said.1)))) (sym (append-nil (joined_lines front))) said.2) (inl refl)

  pub short_of_memory : (node : Node L) (h : List Change) (lines : List (List ℕ)) (v0 v1 w v3 : View) (text : List ℕ) → broken node.log ≡ false → NoOther v0 → NoOther v1 → Keeps v0 v1 → Tells_bytes v3 → Knows node (fresh h) → Stored holds node h v1
      → SaysLines (lines) v1 w (Err say_error.Memory) → Utters w v3 1 text → IsRefusal Memory text w v3 → Lists stands h lines true v0 v3 Memory
  short_of_memory node h lines v0 v1 w v3 text sound now now1 keeps tells knows st said u how =
      let full = said.0 in
      let front = take full lines in
      lines_listed Memory node h lines v0 v1 v3 text front [] (drop full lines) tt (λ P p. p) (λ P Q f p. tt) refl (omega arith) (λ _. some_behind lines full said.1) sound now now1 keeps tells knows st
      (front_back lines full ∙ ap (λ (l : List (List ℕ)). l ++ drop full lines) (sym (append-nil front)))
      (utters_as v1 v3 (full + 1) (length front + 0 + 1) (joined_lines front ++ text) (joined_lines front ++ text) (omega (arith, long_front lines full (omega (arith, said.1)))) refl (utters_then v1 w v3 full 1 (joined_lines front) text said.2 u))
      (⊎_elim (λ line. inl line) (λ none. inr (none.0, rose_last v1.outside.say_faults w.outside.say_faults v3.outside.say_faults said.2.counts none.1)) how)
