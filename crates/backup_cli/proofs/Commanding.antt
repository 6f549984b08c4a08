-- A course that was fed to a node, and the lines that were said then, are a command's.
use Rattle.std.proofs.Common.{◌≡◌, inl, inr, ⊎_elim, ℕ, zero, suc, ◌+◌, ◌-◌, ◌≤◌, Bool, true, false, if◌then◌else◌, List, [], ◌∷◌, ◌++◌, length, take, Option, Some, None, refl, sym, ◌∙◌, ap, subst, arith, length-append, append_assoc}
use Rattle.std.proofs.lemmas.Bool.{false≢true}
use Rattle.std.proofs.lemmas.List.{append-nil}
use Rattle.psb_station.specs.View.{View, Outside}
use Rattle.psb_station.specs.Calls.{Grows}
use Rattle.psb_station.specs.Span.{Shows, Leaves, Keeps, Tells_bytes}
use Rattle.psb_station.proofs.Spans.{weakened, then_run}
use Rattle.node_journal.specs.Entry.{Entry}
use Rattle.psb_model.specs.Needed.{IsValid}
use Rattle.psb_model.specs.declared.change.Change.{Change}
use Rattle.psb_machine.specs.Machine.{Situation, fresh}
use Rattle.psb_machine.specs.Course.{Step, Tell, Say, Telling, after_all, tellings, sent_in, said_in, taken_in, dropped_in, told_by, tried_in}
use Rattle.psb_machine.specs.Commands.{says}
use Rattle.psb_machine.proofs.Courses.{after_all-append, tellings-append, sent_in-append, taken_in-append, dropped_in-append, told_by_append}
use Rattle.node_core.specs.declared.node.Node.{Node}
use Rattle.node_history.specs.Stands.{ReopensTo}
use Rattle.node_core.specs.Stored.{Stored}
use Rattle.node_core.proofs.Reopened.{image_reopens}
use Rattle.node_serve.specs.Sends.{ToldMore, AreSent}
use Rattle.node_serve.specs.Spans.{IsPrefix, IsPrefixSoon, Tally, Counted, Fed}
use Rattle.node_serve.proofs.Runs.{said_append, all_done, none_failed}
use Rattle.node_serve.proofs.Prefixes.{all_is_prefix}
use Rattle.node_serve.proofs.Tries.{grows_then, told_as, told_then}
use Rattle.backup_cli.specs.Commanded.{Ending, Through, Halted, Harmed, UnlessHarmed, IfThrough, told_in, IsMoment, Commanded, CommandedOn}
use Rattle.said_lines.specs.Lines.{joined_lines}
use Rattle.said_lines.specs.Says.{Utters}

-- since this moment there is no other
abbrev pub NoOther : View → Type 0
NoOther v = (c : List ℕ) (k : ℕ) → v.left_since v.moment c k → v.may_leave c × (k ≡ v.told)

unless_harmed : (e : Ending) {P Q : Type 0} → (P → Q) → UnlessHarmed e P → UnlessHarmed e Q
unless_harmed Through f p = f p
unless_harmed Halted f p = f p
unless_harmed Harmed f p = tt

if_through : (e : Ending) {P Q : Type 0} → (P → Q) → IfThrough e P → IfThrough e Q
if_through Through f p = f p
if_through Halted f p = tt
if_through Harmed f p = tt

-- ---- lines make nothing of a node, and are all that is told of them

after_says : (n : Situation) (lines : List (List ℕ)) → after_all n (says lines) ≡ n
after_says n [] = refl
after_says n (x ∷ lines) = after_says n lines

pub after_lines : (n : Situation) (done : List Step) (lines : List (List ℕ)) → after_all n (done ++ says lines) ≡ after_all n done
after_lines n done lines = after_all-append n done (says lines) ∙ after_says (after_all n done) lines

many_says : (n : Situation) (lines : List (List ℕ)) → length (tellings n (says lines)) ≡ length lines
many_says n [] = refl
many_says n (x ∷ lines) = omega (arith, many_says n lines)

sent_says : (n : Situation) (lines : List (List ℕ)) → sent_in n (says lines) ≡ []
sent_says n [] = refl
sent_says n (x ∷ lines) = sent_says n lines

said_says : (n : Situation) (lines : List (List ℕ)) → said_in n (says lines) ≡ lines
said_says n [] = refl
said_says n (x ∷ lines) = ap (λ (l : List (List ℕ)). x ∷ l) (said_says n lines)

taken_says : (lines : List (List ℕ)) → taken_in (says lines) ≡ 0
taken_says [] = refl
taken_says (x ∷ lines) = omega (arith, taken_says lines)

dropped_says : (n : Situation) (lines : List (List ℕ)) → dropped_in n (says lines) ≡ 0
dropped_says n [] = refl
dropped_says n (x ∷ lines) = omega (arith, dropped_says n lines)

tried_says : (lines : List (List ℕ)) → tried_in (says lines) ≡ length lines
tried_says [] = refl
tried_says (x ∷ lines) = omega (arith, tried_says lines)

tried_append : (xs ys : List Step) → tried_in (xs ++ ys) ≡ tried_in xs + tried_in ys
tried_append [] ys = omega arith
tried_append (x ∷ xs) ys = omega (arith, tried_append xs ys)

told_says : (n : Situation) (lines : List (List ℕ)) (j : ℕ) → told_by n (says lines) j ≡ 0
told_says n [] j = refl
told_says n (x ∷ lines) zero = refl
told_says n (x ∷ lines) (suc j) = omega (arith, told_says n lines (suc j - 1))

told_lines : (n : Situation) (done : List Step) (lines : List (List ℕ)) (j : ℕ) → told_by n (done ++ says lines) j ≤ told_by n done j
told_lines n done lines j = omega (arith, told_by_append n done (says lines) j, told_says (after_all n done) lines (j - length (tellings n done)))

many_lines : (n : Situation) (done : List Step) (lines : List (List ℕ)) → length (tellings n (done ++ says lines)) ≡ length (tellings n done) + length lines
many_lines n done lines =
    ap (λ (l : List Telling). length l) (tellings-append n done (says lines))
    ∙ length-append (tellings n done) (tellings (after_all n done) (says lines))
    ∙ ap (λ (k : ℕ). length (tellings n done) + k) (many_says (after_all n done) lines)

tried_lines : (failed : List Step) (lines : List (List ℕ)) → tried_in (failed ++ says lines) ≡ tried_in failed + length lines
tried_lines failed lines = omega (arith, tried_append failed (says lines), tried_says lines)

counted_lines : (t : Option Tally) (n : Situation) (done : List Step) (lines : List (List ℕ)) (lost : ℕ) → Counted t n done lost → Counted t n (done ++ says lines) lost
counted_lines None n done lines lost c = tt
counted_lines (Some t) n done lines lost c = record {
  taken = omega (arith, c.taken, taken_in-append done (says lines), taken_says lines);
  dropped = omega (arith, c.dropped, dropped_in-append n done (says lines), dropped_says (after_all n done) lines);
  lost_is = c.lost_is;
}

pub says_append : (a b : List (List ℕ)) → says (a ++ b) ≡ says a ++ says b
says_append [] b = refl
says_append (x ∷ a) b = ap (λ (l : List Step). Tell (Say x) ∷ l) (says_append a b)

pub long_says : (l : List (List ℕ)) → length (says l) ≡ length l
long_says [] = refl
long_says (x ∷ l) = omega (arith, long_says l)

-- a course with lines behind what was done of it, and behind what failed
history_lines : (n : Situation) (done failed : List Step) (said tried : List (List ℕ)) → (after_all n (done ++ says said ++ (failed ++ says tried))).history ≡ (after_all n (done ++ failed)).history
history_lines n done failed said tried =
    ap (λ (m : Situation). m.history)
    (after_all-append n (done ++ says said) (failed ++ says tried)
    ∙ ap (λ (m : Situation). after_all m (failed ++ says tried)) (after_lines n done said)
    ∙ after_lines (after_all n done) failed tried
    ∙ sym (after_all-append n done failed))

prefix_lines : (stands : List Entry → List ℕ → Type 0) (n : Situation) (done failed : List Step) (said tried : List (List ℕ)) (first : ℕ) (c : List ℕ) (k : ℕ)
    → IsPrefix stands n done failed first c k → IsPrefix stands n (done ++ says said) (failed ++ says tried) first c k
prefix_lines stands n done failed said tried first c k p =
    let same = history_lines n done failed said tried in
    record {
      count = p.count;
      within = omega (arith, p.within, ap (λ (l : List Change). length l) same);
      told = omega (arith, p.told, told_lines n done said (k - first));
      image = subst (λ (l : List Change). ReopensTo stands (take p.count l) c) (sym same) p.image;
    }

module _ {L : Type 0} (holds : L → List Entry → List ℕ → Type 0) (stands : List Entry → List ℕ → Type 0) (broken : L → Bool) (law : (log : L) (es : List Entry) (c : List ℕ) → holds log es c → stands es c) where
  shows_then : (node : Node L) (h : List Change) (v2 v3 : View) (tried : ℕ) (text : List ℕ) → IsValid h → Stored holds node h v2 → Utters v2 v3 tried text → Tells_bytes v3 → Shows (ReopensTo stands h) v3
  shows_then node h v2 v3 tried text valid s u tells = record {
    bytes = s.shows.bytes;
    told = u.bytes tells ∙ s.shows.told;
    reads = image_reopens holds stands law node h v2 valid s s.shows.bytes s.shows.reads;
    images = λ c left. image_reopens holds stands law node h v2 valid s c (s.shows.images c (u.images c left));
  }

  -- Steps were fed, and then these lines were said, one more was tried at most, and the rest was left; and
  -- then the line of a refusal.
  pub ended : (n0 n2 : Node L) (h : List Change) (v1 v2 v3 : View) (steps course : List Step) (said tried rest : List (List ℕ)) (counts : Option Tally) (ok : Bool) (refusal : List ℕ) (refused : ℕ) (e : Ending)
      → NoOther v1 → Tells_bytes v3 → UnlessHarmed e (broken n2.log ≡ false)
      → (r : Fed holds stands broken n0 n2 v1 v2 (fresh h) steps counts ok)
      → Utters v2 v3 (length said + length tried + refused) (joined_lines said ++ refusal)
      → course ≡ r.done ++ says said ++ (r.failed ++ says tried) ++ (r.undone ++ says rest)
      → length (r.failed ++ says tried) ≤ 1
      → IfThrough e ((r.failed ++ says tried ≡ []) × (r.undone ++ says rest ≡ []))
      → (d : CommandedOn stands h course counts refusal refused v1 v3 e) × (d.0.failed ≡ r.failed ++ says tried) × (d.0.undone ≡ r.undone ++ says rest)
  ended n0 n2 h v1 v2 v3 steps course said tried rest counts ok refusal refused e now tells sound r u parts one through =
      let n = fresh h in
      let done = r.done ++ says said in
      let failed = r.failed ++ says tried in
      let many = many_lines n r.done said in
      let tries = tried_lines r.failed tried in
      let P : List ℕ → ℕ → Type 0 = λ c k. IsMoment stands h done failed refused v1.told c k in
      let kept_sent : v3.outside.sent ≡ v2.outside.sent = ap (λ (o : Outside). o.sent) u.kept in
      let kept_tried : v3.outside.tried ≡ v2.outside.tried = ap (λ (o : Outside). o.tried) u.kept in
      let kept_faults : v3.outside.send_faults ≡ v2.outside.send_faults = ap (λ (o : Outside). o.send_faults) u.kept in
      let sent : sent_in n done ≡ sent_in n r.done = sent_in-append n r.done (says said) ∙ ap (λ (l : List (ℕ × List ℕ)). sent_in n r.done ++ l) (sent_says (after_all n r.done) said) ∙ append-nil (sent_in n r.done) in
      let said_is : joined_lines (said_in n done) ≡ joined_lines (said_in n r.done) ++ joined_lines said =
      said_append n r.done (says said) ∙ ap (λ (l : List (List ℕ)). joined_lines (said_in n r.done) ++ joined_lines l) (said_says (after_all n r.done) said) in
      let text : joined_lines (said_in n r.done) ++ (joined_lines said ++ refusal) ≡ joined_lines (said_in n done) ++ refusal =
      sym (append_assoc (joined_lines (said_in n r.done)) (joined_lines said) refusal) ∙ ap (λ (l : List ℕ). l ++ refusal) (sym said_is) in
      let moments : Leaves v1 v3 P =
      then_run v1 v2 v3 P
      (weakened v1 v2 (λ c k. IsPrefixSoon stands n r.done r.failed v1.told c k) P (λ c k p. (prefix_lines stands n r.done r.failed said tried v1.told c k p.prefix, omega (arith, p.soon, many, tries))) r.moments)
      (weakened v2 v3 (λ c k. v2.may_leave c × (k ≤ v2.told + (length said + length tried + refused))) P
      (λ c k is. (prefix_lines stands n r.done r.failed said tried v1.told c k (all_is_prefix stands n r.done r.failed v1.told c k (r.ends c is.0)), omega (arith, is.1, r.told.most, many, tries))) u.moments) in
      let command : Commanded stands h true course counts refusal refused v1 v3 e = record {
        done = done;
        failed = failed;
        undone = r.undone ++ says rest;
        parts = parts;
        one = one;
        whole = if_through e (λ is. (refl, is.0, is.1)) through;
        unopened = λ is. absurd (false≢true (sym is));
        stands_for = λ is. unless_harmed e (λ well.
            subst (λ (m : Situation). Shows (ReopensTo stands m.history) v3) (sym (after_lines n r.done said))
            (shows_then n2 (after_all n r.done).history v2 v3 (length said + length tried + refused) (joined_lines said ++ refusal) (r.knows well).valid (r.stored well) u tells)) sound;
        told =
            told_as v1.told v3.told (length (tellings n r.done) + tried_in r.failed + (length said + length tried + refused)) (told_in h done failed refused) (omega (arith, many, tries))
            (told_then v1.told v2.told v3.told (length (tellings n r.done) + tried_in r.failed) (length said + length tried + refused) r.told u.told);
        lost = r.lost;
        tried = subst (λ (l : List (ℕ × List ℕ)). Grows v1.outside.tried v3.outside.tried l) (sym sent) (subst (λ (o : Option (List (ℕ × List ℕ))). Grows v1.outside.tried o (sent_in n r.done)) (sym kept_tried) r.tried);
        sent = (
          r.sent.0,
          subst (λ (l : List (ℕ × List ℕ)). AreSent l r.sent.0 r.lost) (sym sent) r.sent.1,
          subst (λ (o : Option (List (ℕ × List ℕ))). Grows v1.outside.sent o r.sent.0) (sym kept_sent) r.sent.2,
        );
        lost_cause = omega (arith, r.lost_cause, kept_faults);
        said = subst (λ (l : List ℕ). Grows v1.outside.said v3.outside.said l) text (grows_then v1.outside.said v2.outside.said v3.outside.said (joined_lines (said_in n r.done)) (joined_lines said ++ refusal) r.said u.said);
        counted = counted_lines counts n r.done said r.lost r.counted;
        any_moment = λ c k left. ⊎_elim (λ before. let is = now c k before in inl (is.0, inl is.1)) (λ p. inr p) (moments.each v1.moment c k (omega arith) left);
      } in
      ((command, moments), refl, refl)

  -- where all steps were fed, lines that are parted so part the course
  pub lines_behind : (n0 n2 : Node L) (h : List Change) (v1 v2 : View) (steps : List Step) (counts : Option Tally) (lines said tried rest : List (List ℕ)) → (r : Fed holds stands broken n0 n2 v1 v2 (fresh h) steps counts true) → lines ≡ said ++ tried ++ rest
      → (steps ++ says lines ≡ r.done ++ says said ++ (r.failed ++ says tried) ++ (r.undone ++ says rest)) × (r.failed ++ says tried ≡ says tried) × (r.undone ++ says rest ≡ says rest)
  lines_behind n0 n2 h v1 v2 steps counts lines said tried rest r lines_are =
      let done : steps ≡ r.done = all_done holds stands broken law n0 n2 v1 v2 (fresh h) steps counts r in
      let none : r.failed ≡ [] = none_failed holds stands broken law n0 n2 v1 v2 (fresh h) steps counts r in
      let parted : says lines ≡ says said ++ says tried ++ says rest =
      ap says lines_are ∙ says_append (said ++ tried) rest ∙ ap (λ (l : List Step). l ++ says rest) (says_append said tried) in
      let failed : r.failed ++ says tried ≡ says tried = ap (λ (l : List Step). l ++ says tried) none in
      let undone : r.undone ++ says rest ≡ says rest = ap (λ (l : List Step). l ++ says rest) (r.whole refl) in (
        ap (λ (l : List Step). steps ++ l) parted
            ∙ ap (λ (l : List Step). l ++ (says said ++ says tried ++ says rest)) done
            ∙ sym (append_assoc r.done (says said ++ says tried) (says rest))
            ∙ ap (λ (l : List Step). l ++ says rest) (sym (append_assoc r.done (says said) (says tried)))
            ∙ ap (λ (l : List Step). r.done ++ says said ++ l ++ says rest) (sym failed)
            ∙ ap (λ (l : List Step). r.done ++ says said ++ (r.failed ++ says tried) ++ l) (sym undone),
        failed,
        undone,
      )

  -- where none of the lines was tried, all of them are left
  pub lines_left : (n0 n2 : Node L) (h : List Change) (v1 v2 : View) (steps : List Step) (counts : Option Tally) (ok : Bool) (lines : List (List ℕ)) → (r : Fed holds stands broken n0 n2 v1 v2 (fresh h) steps counts ok)
      → (steps ++ says lines ≡ r.done ++ [] ++ (r.failed ++ []) ++ (r.undone ++ says lines)) × (r.failed ++ [] ≡ r.failed) × (length (r.failed ++ []) ≤ 1)
  lines_left n0 n2 h v1 v2 steps counts ok lines r =
      let nil : r.failed ++ [] ≡ r.failed = append-nil r.failed in (
        ap (λ (l : List Step). l ++ says lines) r.parts
            ∙ append_assoc (r.done ++ r.failed) r.undone (says lines)
            ∙ ap (λ (l : List Step). l ++ r.failed ++ (r.undone ++ says lines)) (sym (append-nil r.done))
            ∙ ap (λ (l : List Step). r.done ++ [] ++ l ++ (r.undone ++ says lines)) (sym nil),
        nil,
        at_most ok (r.failed ++ []) (ap (λ (l : List Step). length l) nil ∙ r.one),
      )
    where
      at_most : (ok : Bool) (l : List Step) → length l ≡ (if ok then 0 else 1) → length l ≤ 1
      at_most true l is = omega (arith, is)
      at_most false l is = omega (arith, is)

-- A command from a moment after which nothing was lost is one from before it.
pub from_before : (stands : List Entry → List ℕ → Type 0) (h : List Change) (course : List Step) (counts : Option Tally) (refusal : List ℕ) (refused : ℕ) (v0 v1 v3 : View) (e : Ending) → NoOther v0 → Keeps v0 v1
    → (d : Commanded stands h true course counts refusal refused v1 v3 e) → Leaves v1 v3 (λ c k. IsMoment stands h d.done d.failed refused v1.told c k)
    → (b : Commanded stands h true course counts refusal refused v0 v3 e) × (b.failed ≡ d.failed) × (b.undone ≡ d.undone)
from_before stands h course counts refusal refused v0 v1 v3 e now keeps d moments =
    let same : v1.outside ≡ v0.outside = keeps.works.outside in
    let command : Commanded stands h true course counts refusal refused v0 v3 e = record {
      done = d.done;
      failed = d.failed;
      undone = d.undone;
      parts = d.parts;
      one = d.one;
      whole = d.whole;
      unopened = λ is. absurd (false≢true (sym is));
      stands_for = d.stands_for;
      told = subst (λ (m : ℕ). ToldMore m v3.told (told_in h d.done d.failed refused)) keeps.works.told d.told;
      lost = d.lost;
      tried = subst (λ (o : Outside). Grows o.tried v3.outside.tried (sent_in (fresh h) d.done)) same d.tried;
      sent = (d.sent.0, d.sent.1, subst (λ (o : Outside). Grows o.sent v3.outside.sent d.sent.0) same d.sent.2);
      lost_cause = omega (arith, d.lost_cause, ap (λ (o : Outside). o.send_faults) same);
      said = subst (λ (o : Outside). Grows o.said v3.outside.said (joined_lines (said_in (fresh h) d.done) ++ refusal)) same d.said;
      counted = d.counted;
      any_moment = λ c k left.
          ⊎_elim
          (λ early. ⊎_elim (λ before. let is = now c k before in inl (is.0, inl is.1)) (λ entry. inl (entry.0, inl entry.1)) (keeps.moments.each v0.moment c k (omega arith) early))
          (λ p. inr (subst (λ (m : ℕ). IsPrefix stands (fresh h) d.done d.failed m c k) keeps.works.told p.0, omega (arith, p.1, keeps.works.told)))
          (moments.each v0.moment c k keeps.moments.later left);
    } in
    (command, refl, refl)
