-- A run goes on with another.
use Rattle.std.proofs.Common.{◌≡◌, inl, ℕ, ◌+◌, ◌≤◌, Bool, true, false, is_some, List, [], ◌∷◌, ◌++◌, length, flat_map, Option, Some, None, Err, refl, sym, ◌∙◌, ap, subst, arith, length-append, append_assoc}
use Rattle.std.proofs.lemmas.Bool.{false≢true, true≢false}
use Rattle.std.proofs.lemmas.List.{append-nil}
use Rattle.psb_station.specs.View.{View, Heard}
use Rattle.psb_station.specs.Calls.{Grows}
use Rattle.psb_station.specs.Span.{Leaves, Tells_bytes}
use Rattle.psb_station.proofs.Spans.{at_start, weakened, then_run}
use Rattle.node_journal.specs.Entry.{Entry}
use Rattle.psb_model.proofs.ByObject.{by_cases}
use Rattle.psb_machine.specs.Machine.{Situation}
use Rattle.psb_machine.specs.Course.{Step, Telling, after_all, tellings, sent_in, said_in, tried_in}
use Rattle.psb_machine.proofs.Courses.{after_all-append, tellings-append, sent_in-append, said_in-append, taken_in-append, dropped_in-append}
use Rattle.psb_machine.specs.Commands.{Turn}
use Rattle.node_core.specs.declared.node.Node.{Node}
use Rattle.node_core.specs.Stored.{Knows, Stored}
use Rattle.node_core.proofs.Reopened.{stored_reopens}
use Rattle.node_serve.specs.Sends.{AreSent}
use Rattle.node_serve.specs.Hears.{answer_steps, clock_by, steps_of, clock_of, Hears, of_turn, of_turns, End, Whole, Cut, Stopped, Unbegun, EndsAs, EndsInLast, is_fed}
use Rattle.node_serve.specs.Turns.{fault_end, IsEnd, IsEarly}
use Rattle.node_serve.specs.declared.serving.ServeFault.{ServeFault}
use Rattle.node_serve.specs.declared.serving.Total.{Total}
use Rattle.node_serve.specs.declared.serving.ServeFault.TheVariants as serve_fault
use Rattle.node_serve.specs.Spans.{IsPrefixSoon, IsReady, Counts, Tally, no_tally, counts_sum, Counted, Fed, FedBy, RanTurns}
use Rattle.node_serve.proofs.Tries.{grows_none, grows_then, told_none, told_then, told_as, sent_none, sent_then, lost_then}
use Rattle.node_serve.proofs.Prefixes.{earlier, later_part, whole_has_all, later_has_all}

pub counts_same : (v : View) → Counts v v
counts_same v = record { disk_faults = omega arith; link_faults = omega arith; send_faults = omega arith }

pub counts_then : (v0 v1 v2 : View) → Counts v0 v1 → Counts v1 v2 → Counts v0 v2
counts_then v0 v1 v2 a b = record {
  disk_faults = omega (arith, a.disk_faults, b.disk_faults);
  link_faults = omega (arith, a.link_faults, b.link_faults);
  send_faults = omega (arith, a.send_faults, b.send_faults);
}

-- ---- what was heard

pub hears_none : (v : View) → Hears v v [] []
hears_none v = record { heard = grows_none v.outside.heard; joined = grows_none v.outside.joined }

pub hears_then : (v0 v1 v2 : View) (js ks : List (ℕ × List ℕ)) (a b : List Heard) → Hears v0 v1 js a → Hears v1 v2 ks b → Hears v0 v2 (js ++ ks) (a ++ b)
hears_then v0 v1 v2 js ks a b r s = record {
  heard = grows_then v0.outside.heard v1.outside.heard v2.outside.heard a b r.heard s.heard;
  joined = grows_then v0.outside.joined v1.outside.joined v2.outside.joined js ks r.joined s.joined;
}

pub steps_of-append : (peers : List ℕ) (clock : ℕ) (a b : List Heard) → steps_of peers clock (a ++ b) ≡ steps_of peers clock a ++ steps_of peers (clock_of clock a) b
steps_of-append peers clock [] b = refl
steps_of-append peers clock (x ∷ a) b =
    ap (λ (l : List Step). answer_steps peers clock x ++ l) (steps_of-append peers (clock_by clock x) a b)
    ∙ sym (append_assoc (answer_steps peers clock x) (steps_of peers (clock_by clock x) a) (steps_of peers (clock_of (clock_by clock x) a) b))

pub clock_of-append : (clock : ℕ) (a b : List Heard) → clock_of clock (a ++ b) ≡ clock_of (clock_of clock a) b
clock_of-append clock [] b = refl
clock_of-append clock (x ∷ a) b = clock_of-append (clock_by clock x) a b

pub of_turns-append : (a b : List Turn) → of_turns (a ++ b) ≡ of_turns a ++ of_turns b
of_turns-append [] b = refl
of_turns-append (x ∷ a) b = ap (λ (l : List Heard). of_turn x ++ l) (of_turns-append a b) ∙ sym (append_assoc (of_turn x) (of_turns a) (of_turns b))

-- what was heard in front of the last answer may be more
pub in_last_then : (peers : List ℕ) (clock : ℕ) (a b : List Heard) (failed undone failed' undone' : List Step) → failed' ≡ failed → undone' ≡ undone → EndsInLast peers (clock_of clock a) b failed undone → EndsInLast peers clock (a ++ b) failed' undone'
in_last_then peers clock a b failed undone failed' undone' same_failed same_undone e = record {
  front = a ++ e.front;
  last = e.last;
  done = e.done;
  heard_is = ap (λ (l : List Heard). a ++ l) e.heard_is ∙ sym (append_assoc a e.front (e.last ∷ []));
  steps_are =
      ap (λ (c : ℕ). answer_steps peers c e.last) (clock_of-append clock a e.front)
      ∙ e.steps_are
      ∙ ap (λ (l : List Step). e.done ++ l ++ undone) (sym same_failed)
      ∙ ap (λ (l : List Step). e.done ++ failed' ++ l) (sym same_undone);
}

-- ---- what was fed

pub said_append : (n : Situation) (xs ys : List Step) → flat_map (λ (line : List ℕ). line) (said_in n (xs ++ ys)) ≡ flat_map (λ (line : List ℕ). line) (said_in n xs) ++ flat_map (λ (line : List ℕ). line) (said_in (after_all n xs) ys)
said_append n xs ys = ap (flat_map (λ (line : List ℕ). line)) (said_in-append n xs ys) ∙ flat (said_in n xs) (said_in (after_all n xs) ys)
  where
    flat : (a b : List (List ℕ)) → flat_map (λ (line : List ℕ). line) (a ++ b) ≡ flat_map (λ (line : List ℕ). line) a ++ flat_map (λ (line : List ℕ). line) b
    flat [] b = refl
    flat (x ∷ a) b = ap (λ (l : List ℕ). x ++ l) (flat a b) ∙ sym (append_assoc x (flat_map (λ (line : List ℕ). line) a) (flat_map (λ (line : List ℕ). line) b))

counted_then : (t u : Option Tally) (n : Situation) (xs ys : List Step) (i j : ℕ) → Counted t n xs i → Counted u (after_all n xs) ys j → Counted (counts_sum t u) n (xs ++ ys) (i + j)
counted_then None u n xs ys i j a b = tt
counted_then (Some t) None n xs ys i j a b = tt
counted_then (Some t) (Some u) n xs ys i j a b = record {
  taken = omega (arith, a.taken, b.taken, taken_in-append xs ys);
  dropped = omega (arith, a.dropped, b.dropped, dropped_in-append n xs ys);
  lost_is = omega (arith, a.lost_is, b.lost_is);
}

-- how a turn more ends turns
abbrev pub IsBegun : End → Type 0
IsBegun Whole = Unit {0}
IsBegun Cut = Unit {0}
IsBegun Stopped = Unit {0}
IsBegun Unbegun = ⊥

pub fault_begun : (f : ServeFault) → IsBegun (fault_end f)
fault_begun serve_fault.Link = tt
fault_begun (serve_fault.Node f) = tt
fault_begun serve_fault.Memory = tt

pub fault_early : (f : ServeFault) → IsEarly (fault_end f)
fault_early serve_fault.Link = tt
fault_early (serve_fault.Node f) = tt
fault_early serve_fault.Memory = tt

pub fault_is : (f : ServeFault) → IsEnd {A = Total} (Err f) (fault_end f)
fault_is serve_fault.Link = refl
fault_is (serve_fault.Node f) = refl
fault_is serve_fault.Memory = inl refl

ends_more : (e : End) (i a b : ℕ) (last : List Heard) → IsBegun e → a ≡ i → EndsAs e b 1 last → EndsAs e (a + b) (i + 1) last
ends_more Whole i a b last begun is ends = (omega (arith, is, ends.0), ends.1)
ends_more Cut i a b last begun is ends = (omega (arith, is, ends.0), ends.1)
ends_more Stopped i a b last begun is ends = (omega (arith, is, ends.0), ends.1)
ends_more Unbegun i a b last begun is ends = absurd begun

ends_within : (e : End) (k i turns : ℕ) (last : List Heard) → IsEarly e → i ≤ turns → EndsAs e k i last → EndsAs e k turns last
ends_within Whole k i turns last early le ends = absurd early
ends_within Cut k i turns last early le ends = (omega (arith, le, ends.0), ends.1)
ends_within Stopped k i turns last early le ends = (omega (arith, le, ends.0), ends.1)
ends_within Unbegun k i turns last early le ends = ends

pub no_steps : (l : List Step) → length l ≡ 0 → l ≡ []
no_steps [] is = refl
no_steps (x ∷ l) is = absurd (omega (arith, is))

module _ {L : Type 0} (holds : L → List Entry → List ℕ → Type 0) (stands : List Entry → List ℕ → Type 0) (broken : L → Bool) (law : (log : L) (es : List Entry) (c : List ℕ) → holds log es c → stands es c) where
  -- where all was done, the course is what was done
  pub none_failed : (n0 n1 : Node L) (v0 v1 : View) (n : Situation) (course : List Step) (t : Option Tally) → (r : Fed holds stands broken n0 n1 v0 v1 n course t true) → r.failed ≡ []
  none_failed n0 n1 v0 v1 n course t r = no_steps r.failed r.one

  pub all_done : (n0 n1 : Node L) (v0 v1 : View) (n : Situation) (course : List Step) (t : Option Tally) → (r : Fed holds stands broken n0 n1 v0 v1 n course t true) → course ≡ r.done
  all_done n0 n1 v0 v1 n course t r =
      r.parts
      ∙ ap (λ (l : List Step). r.done ++ l ++ r.undone) (none_failed n0 n1 v0 v1 n course t r)
      ∙ ap (λ (l : List Step). r.done ++ [] ++ l) (r.whole refl)
      ∙ append-nil (r.done ++ []) ∙ append-nil r.done

  pub fed_none : (node : Node L) (n : Situation) (v : View) → Knows node n → Stored holds node n.history v → Fed holds stands broken node node v v n [] (Some no_tally) true
  fed_none node n v knows s = record {
    done = [];
    failed = [];
    undone = [];
    parts = refl;
    one = refl;
    whole = λ is. refl;
    knows = λ is. knows;
    stored = λ is. s;
    moments = at_start v (λ c k. IsPrefixSoon stands n [] [] v.told c k);
    ends = λ c left. whole_has_all stands n [] c (stored_reopens holds stands law node n v knows.valid s c left);
    told = told_none v.told;
    lost = 0;
    tried = grows_none v.outside.tried;
    sent = ([], sent_none, grows_none v.outside.sent);
    lost_cause = omega arith;
    said = grows_none v.outside.said;
    counted = record { taken = refl; dropped = refl; lost_is = refl };
  }

  -- A course that was done, and one that follows it from where it led.
  pub fed_then : (n0 n1 n2 : Node L) (v0 v1 v2 : View) (n : Situation) (first second : List Step) (t u : Option Tally) (ok : Bool)
      → (r : Fed holds stands broken n0 n1 v0 v1 n first t true) → Fed holds stands broken n1 n2 v1 v2 (after_all n r.done) second u ok
      → Fed holds stands broken n0 n2 v0 v2 n (first ++ second) (counts_sum t u) ok
  fed_then n0 n1 n2 v0 v1 v2 n first second t u ok r s =
      let d = r.done ++ s.done in
      let m = after_all n r.done in
      let all : after_all n d ≡ after_all m s.done = after_all-append n r.done s.done in
      let told = tellings-append n r.done s.done in
      let many : length (tellings n d) ≡ length (tellings n r.done) + length (tellings m s.done) = ap (λ (l : List Telling). length l) told ∙ length-append (tellings n r.done) (tellings m s.done) in
      let none = none_failed n0 n1 v0 v1 n first t r in
      let few : tried_in r.failed ≡ 0 = ap tried_in none in
      record {
        done = d;
        failed = s.failed;
        undone = s.undone;
        parts =
            ap (λ (l : List Step). l ++ second) (all_done n0 n1 v0 v1 n first t r)
            ∙ ap (λ (l : List Step). r.done ++ l) s.parts
            ∙ sym (append_assoc r.done (s.done ++ s.failed) s.undone)
            ∙ ap (λ (l : List Step). l ++ s.undone) (sym (append_assoc r.done s.done s.failed));
        one = s.one;
        whole = s.whole;
        knows = λ is. subst (λ (l : Situation). Knows n2 l) (sym all) (s.knows is);
        stored = λ is. subst (λ (l : Situation). Stored holds n2 l.history v2) (sym all) (s.stored is);
        moments =
            let P : List ℕ → ℕ → Type 0 = λ c k. IsPrefixSoon stands n d s.failed v0.told c k in
            let before : Leaves v0 v1 (λ c k. IsPrefixSoon stands n r.done [] v0.told c k) = subst (λ (f : List Step). Leaves v0 v1 (λ c k. IsPrefixSoon stands n r.done f v0.told c k)) none r.moments in
            then_run v0 v1 v2 P
            (weakened v0 v1 (λ c k. IsPrefixSoon stands n r.done [] v0.told c k) P (λ c k p. record { prefix = earlier stands n r.done s.done s.failed v0.told c k p; soon = omega (arith, p.soon, many) }) before)
            (weakened v1 v2 (λ c k. IsPrefixSoon stands m s.done s.failed v1.told c k) P
            (λ c k p. record { prefix = later_part stands n r.done s.done s.failed v0.told v1.told c k (omega (arith, r.told.most, few)) p.prefix; soon = omega (arith, p.soon, r.told.most, many, few) }) s.moments);
        ends = λ c left. later_has_all stands n r.done s.done s.failed c (s.ends c left);
        told = told_as v0.told v2.told (length (tellings n r.done) + tried_in r.failed + (length (tellings m s.done) + tried_in s.failed)) (length (tellings n d) + tried_in s.failed) (omega (arith, many, few)) (told_then v0.told v1.told v2.told (length (tellings n r.done) + tried_in r.failed) (length (tellings m s.done) + tried_in s.failed) r.told s.told);
        lost = r.lost + s.lost;
        tried = subst (λ (l : List (ℕ × List ℕ)). Grows v0.outside.tried v2.outside.tried l) (sym (sent_in-append n r.done s.done)) (grows_then v0.outside.tried v1.outside.tried v2.outside.tried (sent_in n r.done) (sent_in m s.done) r.tried s.tried);
        sent = (
          r.sent.0 ++ s.sent.0,
          subst (λ (l : List (ℕ × List ℕ)). AreSent l (r.sent.0 ++ s.sent.0) (r.lost + s.lost)) (sym (sent_in-append n r.done s.done)) (sent_then (sent_in n r.done) (sent_in m s.done) r.sent.0 s.sent.0 r.lost s.lost r.sent.1 s.sent.1),
          grows_then v0.outside.sent v1.outside.sent v2.outside.sent r.sent.0 s.sent.0 r.sent.2 s.sent.2,
        );
        lost_cause = lost_then r.lost s.lost v0.outside.send_faults v1.outside.send_faults v2.outside.send_faults r.lost_cause s.lost_cause;
        said = subst (λ (l : List ℕ). Grows v0.outside.said v2.outside.said l) (sym (said_append n r.done s.done)) (grows_then v0.outside.said v1.outside.said v2.outside.said (flat_map (λ (line : List ℕ). line) (said_in n r.done)) (flat_map (λ (line : List ℕ). line) (said_in m s.done)) r.said s.said);
        counted = counted_then t u n r.done s.done r.lost s.lost r.counted s.counted;
      }

  -- what the second left undone
  pub undone_then : (n0 n1 n2 : Node L) (v0 v1 v2 : View) (n : Situation) (first second : List Step) (t u : Option Tally) (ok : Bool)
      → (r : Fed holds stands broken n0 n1 v0 v1 n first t true) (s : Fed holds stands broken n1 n2 v1 v2 (after_all n r.done) second u ok)
      → (fed_then n0 n1 n2 v0 v1 v2 n first second t u ok r s).undone ≡ s.undone
  unfolding fed_then
  undone_then n0 n1 n2 v0 v1 v2 n first second t u ok r s = refl

  -- what follows a step that failed is left undone
  pub fed_cut : (n0 n1 : Node L) (v0 v1 : View) (n : Situation) (course more : List Step) (t : Option Tally) → Fed holds stands broken n0 n1 v0 v1 n course t false → Fed holds stands broken n0 n1 v0 v1 n (course ++ more) t false
  fed_cut n0 n1 v0 v1 n course more t r = record {
    done = r.done;
    failed = r.failed;
    undone = r.undone ++ more;
    parts = ap (λ (l : List Step). l ++ more) r.parts ∙ append_assoc (r.done ++ r.failed) r.undone more;
    one = r.one;
    whole = λ is. absurd (false≢true is);
    knows = r.knows;
    stored = r.stored;
    moments = r.moments;
    ends = r.ends;
    told = r.told;
    lost = r.lost;
    tried = r.tried;
    sent = r.sent;
    lost_cause = r.lost_cause;
    said = r.said;
    counted = r.counted;
  }

  -- the counts need not be given
  pub uncounted : (n0 n1 : Node L) (v0 v1 : View) (n : Situation) (course : List Step) (t : Option Tally) (ok : Bool) → Fed holds stands broken n0 n1 v0 v1 n course t ok → Fed holds stands broken n0 n1 v0 v1 n course None ok
  uncounted n0 n1 v0 v1 n course t ok r = record {
    done = r.done;
    failed = r.failed;
    undone = r.undone;
    parts = r.parts;
    one = r.one;
    whole = r.whole;
    knows = r.knows;
    stored = r.stored;
    moments = r.moments;
    ends = r.ends;
    told = r.told;
    lost = r.lost;
    tried = r.tried;
    sent = r.sent;
    lost_cause = r.lost_cause;
    said = r.said;
    counted = tt;
  }

  -- a course by another name
  pub fed_as : (n0 n1 : Node L) (v0 v1 : View) (n : Situation) (course other : List Step) (t : Option Tally) (ok : Bool) → course ≡ other → Fed holds stands broken n0 n1 v0 v1 n course t ok → Fed holds stands broken n0 n1 v0 v1 n other t ok
  fed_as n0 n1 v0 v1 n course other t ok is r = subst (λ (l : List Step). Fed holds stands broken n0 n1 v0 v1 n l t ok) is r

  -- ---- a course by what was heard

  -- what failed of it and what was left are those of the course behind
  joined : (n0 n1 n2 : Node L) (v0 v1 v2 : View) (n : Situation) (first second : List Step) (t u : Option Tally) (ok : Bool)
      → (r : Fed holds stands broken n0 n1 v0 v1 n first t true) (s : Fed holds stands broken n1 n2 v1 v2 (after_all n r.done) second u ok)
      → (f : Fed holds stands broken n0 n2 v0 v2 n (first ++ second) (counts_sum t u) ok) × (f.failed ≡ s.failed) × (f.undone ≡ s.undone)
  unfolding fed_then
  joined n0 n1 n2 v0 v1 v2 n first second t u ok r s = (fed_then n0 n1 n2 v0 v1 v2 n first second t u ok r s, refl, refl)

  renamed : (n0 n1 : Node L) (v0 v1 : View) (n : Situation) (course other : List Step) (t : Option Tally) (ok : Bool) → course ≡ other → (r : Fed holds stands broken n0 n1 v0 v1 n course t ok)
      → (f : Fed holds stands broken n0 n1 v0 v1 n other t ok) × (f.failed ≡ r.failed) × (f.undone ≡ r.undone)
  renamed n0 n1 v0 v1 n course other t ok is r =
      subst (λ (l : List Step). (f : Fed holds stands broken n0 n1 v0 v1 n l t ok) × (f.failed ≡ r.failed) × (f.undone ≡ r.undone)) is (r, refl, refl)

  -- where all was done, none failed
  pub by_whole : (n0 n1 : Node L) (v0 v1 : View) (n : Situation) (peers : List ℕ) (clock : ℕ) (heard : List Heard) (course : List Step) (t : Option Tally) → Fed holds stands broken n0 n1 v0 v1 n course t true
      → FedBy holds stands broken n0 n1 v0 v1 n peers clock heard course t true
  by_whole n0 n1 v0 v1 n peers clock heard course t f = record { fed = f; in_last = λ is. absurd (true≢false is) }

  -- the steps of one answer
  pub by_one : (n0 n1 : Node L) (v0 v1 : View) (n : Situation) (peers : List ℕ) (clock : ℕ) (a : Heard) (t : Option Tally) (ok : Bool) → Fed holds stands broken n0 n1 v0 v1 n (answer_steps peers clock a) t ok
      → FedBy holds stands broken n0 n1 v0 v1 n peers clock (a ∷ []) (steps_of peers clock (a ∷ [])) t ok
  by_one n0 n1 v0 v1 n peers clock a t ok r =
      let g = renamed n0 n1 v0 v1 n (answer_steps peers clock a) (steps_of peers clock (a ∷ [])) t ok (sym (append-nil (answer_steps peers clock a))) r in
      record {
        fed = g.0;
        in_last = λ is. record {
          front = [];
          last = a;
          done = r.done;
          heard_is = refl;
          steps_are = r.parts ∙ ap (λ (l : List Step). r.done ++ l ++ r.undone) (sym g.1) ∙ ap (λ (l : List Step). r.done ++ g.0.failed ++ l) (sym g.2);
        };
      }

  -- A course that was done, in which this was heard, and one that follows it.
  pub by_then : (n0 n1 n2 : Node L) (v0 v1 v2 : View) (n : Situation) (peers : List ℕ) (clock : ℕ) (a b : List Heard) (first second : List Step) (t u : Option Tally) (ok : Bool)
      → (r : Fed holds stands broken n0 n1 v0 v1 n first t true) → FedBy holds stands broken n1 n2 v1 v2 (after_all n r.done) peers (clock_of clock a) b second u ok
      → FedBy holds stands broken n0 n2 v0 v2 n peers clock (a ++ b) (first ++ second) (counts_sum t u) ok
  by_then n0 n1 n2 v0 v1 v2 n peers clock a b first second t u ok r s =
      let f = joined n0 n1 n2 v0 v1 v2 n first second t u ok r s.fed in
      record { fed = f.0; in_last = λ is. in_last_then peers clock a b s.fed.failed s.fed.undone f.0.failed f.0.undone f.1 f.2 (s.in_last is) }

  pub by_as : (n0 n1 : Node L) (v0 v1 : View) (n : Situation) (peers : List ℕ) (clock : ℕ) (heard : List Heard) (course other : List Step) (t : Option Tally) (ok : Bool) → course ≡ other
      → FedBy holds stands broken n0 n1 v0 v1 n peers clock heard course t ok → FedBy holds stands broken n0 n1 v0 v1 n peers clock heard other t ok
  by_as n0 n1 v0 v1 n peers clock heard course other t ok is r = subst (λ (l : List Step). FedBy holds stands broken n0 n1 v0 v1 n peers clock heard l t ok) is r

  pub by_uncounted : (n0 n1 : Node L) (v0 v1 : View) (n : Situation) (peers : List ℕ) (clock : ℕ) (heard : List Heard) (course : List Step) (t : Option Tally) (ok : Bool) → FedBy holds stands broken n0 n1 v0 v1 n peers clock heard course t ok
      → FedBy holds stands broken n0 n1 v0 v1 n peers clock heard course None ok
  unfolding uncounted
  by_uncounted n0 n1 v0 v1 n peers clock heard course t ok r = record { fed = uncounted n0 n1 v0 v1 n course t ok r.fed; in_last = r.in_last }

  -- ---- turns

  pub turns_none : (peers : List ℕ) (clock : ℕ) (node : Node L) (v : View) → RanTurns holds stands broken peers clock clock node node v v 0 (Some no_tally) Whole
  turns_none peers clock node v = record {
    full = [];
    last = [];
    ended = (refl, refl);
    hears = hears_none v;
    clock_is = refl;
    fed = λ tells n k s. by_whole node node v v n peers clock [] [] (Some no_tally) (fed_none node n v k s);
  }

  pub turns_more : (peers : List ℕ) (c0 c1 c2 : ℕ) (n0 n1 n2 : Node L) (v0 v1 v2 : View) (i : ℕ) (t u : Option Tally) (e : End) → IsBegun e → broken n1.log ≡ false → (Tells_bytes v2 → Tells_bytes v1)
      → RanTurns holds stands broken peers c0 c1 n0 n1 v0 v1 i t Whole → RanTurns holds stands broken peers c1 c2 n1 n2 v1 v2 1 u e → RanTurns holds stands broken peers c0 c2 n0 n2 v0 v2 (i + 1) (counts_sum t u) e
  turns_more peers c0 c1 c2 n0 n1 n2 v0 v1 v2 i t u e begun sound mid r s =
      let a = of_turns r.full ++ r.last in
      let b = of_turns s.full ++ s.last in
      let all : a ++ b ≡ of_turns (r.full ++ s.full) ++ s.last =
      ap (λ (l : List Heard). l ++ b) (ap (λ (l : List Heard). of_turns r.full ++ l) r.ended.1 ∙ append-nil (of_turns r.full))
      ∙ sym (append_assoc (of_turns r.full) (of_turns s.full) s.last)
      ∙ ap (λ (l : List Heard). l ++ s.last) (sym (of_turns-append r.full s.full)) in
      record {
        full = r.full ++ s.full;
        last = s.last;
        ended = subst (λ (k : ℕ). EndsAs e k (i + 1) s.last) (sym (length-append r.full s.full)) (ends_more e i (length r.full) (length s.full) s.last begun r.ended.0 s.ended);
        hears = subst (λ (l : List Heard). Hears v0 v2 [] l) all (hears_then v0 v1 v2 [] [] a b r.hears s.hears);
        clock_is = s.clock_is ∙ ap (λ (c : ℕ). clock_of c b) r.clock_is ∙ sym (clock_of-append c0 a b) ∙ ap (clock_of c0) all;
        fed = λ tells n k st.
            let f = r.fed (mid tells) n k st in
            let g = subst (λ (c : ℕ). FedBy holds stands broken n1 n2 v1 v2 (after_all n f.fed.done) peers c b (steps_of peers c b) u (is_fed e)) r.clock_is (s.fed tells (after_all n f.fed.done) (f.fed.knows sound) (f.fed.stored sound)) in
            subst (λ (l : List Heard). FedBy holds stands broken n0 n2 v0 v2 n peers c0 l (steps_of peers c0 l) (counts_sum t u) (is_fed e)) all
            (by_as n0 n2 v0 v2 n peers c0 (a ++ b) (steps_of peers c0 a ++ steps_of peers (clock_of c0 a) b) (steps_of peers c0 (a ++ b)) (counts_sum t u) (is_fed e) (sym (steps_of-append peers c0 a b))
            (by_then n0 n1 n2 v0 v1 v2 n peers c0 a b (steps_of peers c0 a) (steps_of peers (clock_of c0 a) b) t u (is_fed e) f.fed g));
      }

  -- turns that ended early were to be more
  pub turns_within : (peers : List ℕ) (c0 c1 : ℕ) (n0 n1 : Node L) (v0 v1 : View) (i turns : ℕ) (t : Option Tally) (e : End) → IsEarly e → i ≤ turns → RanTurns holds stands broken peers c0 c1 n0 n1 v0 v1 i t e → RanTurns holds stands broken peers c0 c1 n0 n1 v0 v1 turns t e
  turns_within peers c0 c1 n0 n1 v0 v1 i turns t e early le r = record { full = r.full; last = r.last; ended = ends_within e (length r.full) i turns r.last early le r.ended; hears = r.hears; clock_is = r.clock_is; fed = r.fed }

  -- nothing was begun
  pub turns_unbegun : (peers : List ℕ) (clock : ℕ) (node : Node L) (v : View) (turns : ℕ) → RanTurns holds stands broken peers clock clock node node v v turns None Unbegun
  turns_unbegun peers clock node v turns = record {
    full = [];
    last = [];
    ended = (refl, refl);
    hears = hears_none v;
    clock_is = refl;
    fed = λ tells n k s. by_whole node node v v n peers clock [] [] None (uncounted node node v v n [] (Some no_tally) true (fed_none node n v k s));
  }

  -- a node that was ready is ready after a run that ended well
  pub ready_after : (n0 n1 : Node L) (v0 v1 : View) → broken n1.log ≡ false → IsReady holds n0 v0 → (Tells_bytes v1 → Tells_bytes v0) → ((n : Situation) → Knows n0 n → (m : Situation) × Knows n1 m)
      → (Tells_bytes v1 → (n : Situation) → Knows n0 n → Stored holds n0 n.history v0 → (m : Situation) × Knows n1 m × Stored holds n1 m.history v1) → IsReady holds n1 v1
  ready_after n0 n1 v0 v1 well ready same goes run = by_cases (is_some v1.bytes)
      (λ yes. let st = ready.2 (same yes) in let r = run yes ready.0 ready.1 st in (r.0, r.1, λ tells. r.2))
      (λ no. let m = goes ready.0 ready.1 in (m.0, m.1, λ tells. absurd (false≢true (sym no ∙ tells))))
