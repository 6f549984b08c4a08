-- The runs that a turn is made of.
use Rattle.std.proofs.Common.{◌≡◌, ◌⊎◌, inl, inr, ⊎_elim, ℕ, ◌+◌, ◌<◌, ◌≤◌, nat_lt, Bool, true, false, if◌then◌else◌, List, [], ◌∷◌, ◌++◌, length, map, take, flat_map, Option, Some, None, is_some, refl, sym, ◌∙◌, ap, subst, arith}
use Rattle.std.proofs.lemmas.Bool.{lt-ltb, le-ltb}
use Rattle.std.proofs.lemmas.List.{append-nil}
use Rattle.psb_station.specs.View.{View, Outside, Heard}
use Rattle.psb_station.specs.View.Heard.{Frame, Nothing, Clock, Fault}
use Rattle.psb_station.specs.Calls.{Listens, Grows, Rests}
use Rattle.psb_station.specs.Span.{Leaves, DiskWorks, Tells_bytes}
use Rattle.psb_station.proofs.Spans.{at_start, rests_on, weakened, then_run, shows_rest}
use Rattle.node_journal.specs.Entry.{Entry}
use Rattle.psb_model.specs.declared.change.Change.{Change}
use Rattle.wire_codec.specs.declared.frame.Dropped.{Dropped}
use Rattle.psb_machine.specs.Machine.{Situation, Input, Datagram, Tick, react, sent_by, next}
use Rattle.psb_machine.specs.Course.{Telling, Send, Step, Absorb, after_all, tellings, sent_of, said_of, sent_in, said_in, datagrams}
use Rattle.psb_machine.specs.Commands.{Turn, ticks, came_steps, clock_steps, turn_steps, clock_after, serve_steps}
use Rattle.node_core.specs.declared.fault.Fault.{Fault as NodeFault}
use Rattle.node_core.specs.declared.fault.Fault.TheVariants as fault
use Rattle.node_core.specs.declared.node.Node.{Node}
use Rattle.node_history.specs.Stands.{ReopensTo}
use Rattle.node_core.specs.Stored.{Knows, Stored}
use Rattle.node_core.specs.Reacting.{IsSame}
use Rattle.node_core.proofs.Committing.{same_knows, stored_room}
use Rattle.node_core.proofs.Reopened.{stored_at, stored_reopens}
use Rattle.node_serve.specs.Sends.{AreSent, Sends}
use Rattle.node_serve.specs.Hears.{Hears, steps_of, clock_by, clock_of, heard_of, of_turn, of_turns, End, Whole, Cut, Stopped, Unbegun, AnswersAs, CameIn, EndsAs, is_fed}
use Rattle.node_serve.specs.Turns.{Listened, OnlySends, IsEarly, serve_fault_of, fault_end}
use Rattle.node_serve.specs.Spans.{IsReady, IsPrefixSoon, Tally, no_tally, tally_sum, counts_sum, Fed, FedBy, Received, MadeTurn}
use Rattle.node_serve.proofs.Tries.{rests_tells, grows_none, told_none, told_as, told_from, sent_none, lost_none}
use Rattle.node_serve.proofs.Prefixes.{whole, first_image, next_image, whole_has_all, either_has_all}
use Rattle.node_serve.proofs.Runs.{steps_of-append, hears_then, fed_none, fed_then, fed_as, uncounted, by_whole, by_one, by_then, by_as}

-- At a moment the images are those that a crash now may leave, and a run from it has no other.
pub record Now (v : View) : Type 0 where
  pub counts : (t : ℕ) (c : List ℕ) → t ≤ v.moment → v.may_leave c → v.left_since t c v.told
  pub only : (c : List ℕ) (k : ℕ) → v.left_since v.moment c k → v.may_leave c × (k ≡ v.told)

-- what was written over the front of a vector is there
written_front : (l rest : List ℕ) → take (length l) (l ++ rest) ≡ l
written_front [] rest = refl
written_front (x ∷ l) rest = ap (λ (m : List ℕ). x ∷ m) (written_front l rest)

pub written_back : (now l rest : List ℕ) (len : ℕ) → length l ≡ len → now ≡ take len (l ++ rest) → now ≡ l
written_back now l rest len is there = there ∙ ap (λ (n : ℕ). take n (l ++ rest)) (sym is) ∙ written_front l rest

-- an answer of the link came
pub received : (v0 v1 : View) (a : Heard) → Listens v0 v1 → v1.outside ≡ record v0.outside { heard = v1.outside.heard; link_faults = v1.outside.link_faults } → Grows v0.outside.heard v1.outside.heard (a ∷ []) → Listened v0 v1 [] a
received v0 v1 a listens kept heard =
    let joined : v1.outside.joined ≡ v0.outside.joined = ap (λ (o : Outside). o.joined) kept in
    record {
      listens = listens;
      kept = kept ∙ ap (λ (j : Option (List (ℕ × List ℕ))). record v0.outside { heard = v1.outside.heard; joined = j; link_faults = v1.outside.link_faults }) (sym joined);
      hears = record { heard = heard; joined = subst (λ (j : Option (List (ℕ × List ℕ))). Grows v0.outside.joined j []) (sym joined) (grows_none v0.outside.joined) };
    }

-- the letters of an input, as what is told
pub sent_of-letters : (l : List (ℕ × List ℕ)) → sent_of (map Send l) ≡ l
sent_of-letters [] = refl
sent_of-letters (x ∷ l) = ap (λ (m : List (ℕ × List ℕ)). x ∷ m) (sent_of-letters l)

pub said_of-letters : (l : List (ℕ × List ℕ)) → said_of (map Send l) ≡ []
said_of-letters [] = refl
said_of-letters (x ∷ l) = said_of-letters l

pub many_letters : (l : List (ℕ × List ℕ)) → length (map Send l) ≡ length l
many_letters [] = refl
many_letters (x ∷ l) = omega (arith, many_letters l)

pub only_then : (v0 v1 v2 : View) → OnlySends v0 v1 → OnlySends v1 v2 → OnlySends v0 v2
only_then v0 v1 v2 a b = b ∙ ap (λ (o : Outside). record o { sent = v2.outside.sent; tried = v2.outside.tried; send_faults = v2.outside.send_faults }) a

-- a run that only sends hears nothing
pub sends_hears : (v0 v1 : View) → OnlySends v0 v1 → Hears v0 v1 [] []
sends_hears v0 v1 kept = record {
  heard = subst (λ (o : Option (List Heard)). Grows v0.outside.heard o []) (sym (ap (λ (o : Outside). o.heard) kept)) (grows_none v0.outside.heard);
  joined = subst (λ (o : Option (List (ℕ × List ℕ))). Grows v0.outside.joined o []) (sym (ap (λ (o : Outside). o.joined) kept)) (grows_none v0.outside.joined);
}

pub counts_zero : (u : Option Tally) → counts_sum (Some no_tally) u ≡ u
counts_zero None = refl
counts_zero (Some t) = ap (λ (s : Tally). Some s) (zero t)
  where
    plus : (m : ℕ) → 0 + m ≡ m
    plus m = omega arith

    zero : (t : Tally) → tally_sum no_tally t ≡ t
    zero t = λ j. record { taken = plus t.taken j; dropped = plus t.dropped j; lost = plus t.lost j }

-- a node that gives up, or refuses, ends a turn
pub fault_stops : (f : NodeFault) → fault_end (serve_fault_of f) ≡ Stopped
fault_stops fault.Memory = refl
fault_stops fault.NotNode = refl
fault_stops fault.DiskFault = refl
fault_stops fault.Broken = refl
fault_stops fault.BadSettings = refl
fault_stops (fault.Clash c) = refl
fault_stops (fault.Altered name) = refl
fault_stops (fault.NoSnapshot k) = refl

-- a turn that heard the clock was made, or the node failed in it
abbrev pub IsFull : End → Type 0
IsFull Whole = Unit {0}
IsFull Cut = ⊥
IsFull Stopped = Unit {0}
IsFull Unbegun = ⊥

early_ends : (e : End) (came : Option (List ℕ)) (a : Heard) → IsEarly e → AnswersAs e came a → EndsAs e 0 1 (a ∷ [])
early_ends Whole came a early is = absurd early
early_ends Cut came a early is = (omega arith, ap (λ (b : Heard). b ∷ []) is)
early_ends Stopped came a early is = (omega arith, inl (is.0, ap (λ (b : Heard). b ∷ []) is.1))
early_ends Unbegun came a early is = absurd is

early_clock : (e : End) (clock : ℕ) (came : Option (List ℕ)) (a : Heard) → IsEarly e → AnswersAs e came a → clock_by clock a ≡ clock
early_clock Whole clock came a early is = absurd early
early_clock Cut clock came a early is = ap (clock_by clock) is
early_clock Stopped clock came a early is = ap (clock_by clock) is.1
early_clock Unbegun clock came a early is = absurd is

early_came : (e : End) (turns : List Turn) (came : Option (List ℕ)) → IsEarly e → CameIn e turns came
early_came Whole turns came early = absurd early
early_came Cut turns came early = tt
early_came Stopped turns came early = tt
early_came Unbegun turns came early = tt

came_clock : (clock : ℕ) (came : Option (List ℕ)) → clock_by clock (heard_of came) ≡ clock
came_clock clock None = refl
came_clock clock (Some x) = refl

turn_is : (peers : List ℕ) (clock : ℕ) (came : Option (List ℕ)) (time : ℕ) → steps_of peers clock (heard_of came ∷ []) ++ clock_steps peers clock time ≡ steps_of peers clock (heard_of came ∷ Clock time ∷ [])
turn_is peers clock None time = sym (append-nil (clock_steps peers clock time))
turn_is peers clock (Some x) time = ap (λ (l : List Step). Absorb (Datagram x) ∷ l) (sym (append-nil (clock_steps peers clock time)))

pub ticks-append : (a b : List ℕ) → ticks (a ++ b) ≡ ticks a ++ ticks b
ticks-append [] b = refl
ticks-append (p ∷ a) b = ap (λ (l : List Step). Absorb (Tick p) ∷ l) (ticks-append a b)

-- what is heard makes the steps of the turns
pub serve_is : (peers : List ℕ) (clock : ℕ) (turns : List Turn) → steps_of peers clock (of_turns turns) ≡ serve_steps peers clock turns
serve_is peers clock [] = refl
serve_is peers clock (t ∷ ts) =
    steps_of-append peers clock (of_turn t) (of_turns ts)
    ∙ ap (λ (l : List Step). l ++ steps_of peers (clock_of clock (of_turn t)) (of_turns ts)) (sym (turn_is peers clock t.came t.time) ∙ same t.came)
    ∙ ap (λ (c : ℕ). turn_steps peers clock t ++ steps_of peers (clock_after c t.time) (of_turns ts)) (came_clock clock t.came)
    ∙ ap (λ (l : List Step). turn_steps peers clock t ++ l) (serve_is peers (clock_after clock t.time) ts)
  where
    same : (came : Option (List ℕ)) → steps_of peers clock (heard_of came ∷ []) ++ clock_steps peers clock t.time ≡ came_steps came ++ clock_steps peers clock t.time
    same None = refl
    same (Some x) = refl

-- the clock was asked
pub clocked : (v0 v1 : View) (a : Heard) → Listens v0 v1 → v1.outside ≡ record v0.outside { heard = v1.outside.heard } → Grows v0.outside.heard v1.outside.heard (a ∷ []) → Listened v0 v1 [] a
clocked v0 v1 a listens kept heard =
    let joined : v1.outside.joined ≡ v0.outside.joined = ap (λ (o : Outside). o.joined) kept in
    let faults : v1.outside.link_faults ≡ v0.outside.link_faults = ap (λ (o : Outside). o.link_faults) kept in
    record {
      listens = listens;
      kept = kept ∙ (λ k. record v0.outside { heard = v1.outside.heard; joined = sym joined k; link_faults = sym faults k });
      hears = record { heard = heard; joined = subst (λ (j : Option (List (ℕ × List ℕ))). Grows v0.outside.joined j []) (sym joined) (grows_none v0.outside.joined) };
    }

counts_none : (t : Tally) → counts_sum (Some t) (Some no_tally) ≡ Some t
counts_none t = λ j. Some (record { taken = plus t.taken j; dropped = plus t.dropped j; lost = plus t.lost j })
  where
    plus : (m : ℕ) → m + 0 ≡ m
    plus m = omega arith

not_later : (clock time : ℕ) → time ≤ clock → nat_lt clock time ≡ false
not_later clock time le = le-ltb clock time le

module _ {L : Type 0} (holds : L → List Entry → List ℕ → Type 0) (stands : List Entry → List ℕ → Type 0) (broken : L → Bool) (law : (log : L) (es : List Entry) (c : List ℕ) → holds log es c → stands es c) where
  pub stored_on : (node : Node L) (n : Situation) (v0 v1 : View) (joins : List (ℕ × List ℕ)) (a : Heard) → Listened v0 v1 joins a → Tells_bytes v1 → Stored holds node n.history v0 → Stored holds node n.history v1
  stored_on node n v0 v1 joins a l tells s = stored_at holds node n.history v0 v1 s (shows_rest (holds node.log s.records) v0 v1 l.listens.rests tells s.shows)

  -- a call of the link feeds nothing
  pub listened : (node : Node L) (n : Situation) (v0 v1 : View) (joins : List (ℕ × List ℕ)) (a : Heard) → Knows node n → Listened v0 v1 joins a → Tells_bytes v1 → Stored holds node n.history v0
      → Fed holds stands broken node node v0 v1 n [] (Some no_tally) true
  listened node n v0 v1 joins a knows l tells s = record {
    done = [];
    failed = [];
    undone = [];
    parts = refl;
    one = refl;
    whole = λ is. refl;
    knows = λ is. knows;
    stored = λ is. stored_on node n v0 v1 joins a l tells s;
    moments = rests_on v0 v0 v1 (λ c k. IsPrefixSoon stands n [] [] v0.told c k) (at_start v0 (λ c k. IsPrefixSoon stands n [] [] v0.told c k)) l.listens.rests
        (λ c left. record { prefix = whole stands n [] v0.told c v1.told (stored_reopens holds stands law node n v0 knows.valid s c left); soon = omega (arith, l.listens.told) });
    ends = λ c left. whole_has_all stands n [] c (stored_reopens holds stands law node n v0 knows.valid s c (l.listens.rests.images c left));
    told = told_from v0.told v0.told v1.told v0.told 0 refl (sym l.listens.told) (told_none v0.told);
    lost = 0;
    tried = subst (λ (o : Outside). Grows v0.outside.tried o.tried []) (sym l.kept) (grows_none v0.outside.tried);
    sent = ([], sent_none, subst (λ (o : Outside). Grows v0.outside.sent o.sent []) (sym l.kept) (grows_none v0.outside.sent));
    lost_cause = lost_none v0.outside.send_faults v1.outside.send_faults (omega (arith, ap (λ (o : Outside). o.send_faults) l.kept));
    said = subst (λ (o : Outside). Grows v0.outside.said o.said []) (sym l.kept) (grows_none v0.outside.said);
    counted = record { taken = refl; dropped = refl; lost_is = refl };
  }

  -- the images while an input is absorbed
  absorbing : (n : Situation) (v1 v2 : View) (i : Input) (done failed : List Step) → done ++ failed ≡ Absorb i ∷ []
      → Leaves v1 v2 (λ c k. (k ≡ v1.told) × (ReopensTo stands n.history c ⊎ ReopensTo stands (next n i).history c))
      → Leaves v1 v2 (λ c k. IsPrefixSoon stands n done failed v1.told c k)
  absorbing n v1 v2 i done failed are run =
      weakened v1 v2 (λ c k. (k ≡ v1.told) × (ReopensTo stands n.history c ⊎ ReopensTo stands (next n i).history c)) (λ c k. IsPrefixSoon stands n done failed v1.told c k)
      (λ c k both. ⊎_elim (λ image. first_image stands n done failed v1.told c k both.0 image) (λ image. next_image stands n i done failed v1.told c k are both.0 image) both.1) run

  -- an input in which the node failed
  pub refused : (node node' : Node L) (n : Situation) (v1 v2 : View) (i : Input) → Now v1 → Now v2 → Knows node n → Stored holds node n.history v1 → DiskWorks v1 v2 → Tells_bytes v2
      → Leaves v1 v2 (λ c k. (k ≡ v1.told) × (ReopensTo stands n.history c ⊎ ReopensTo stands (next n i).history c))
      → (broken node'.log ≡ false → ((m : Situation) → Knows node m → Knows node' m) × (Tells_bytes v2 → (h : List Change) → Stored holds node h v1 → Stored holds node' h v2))
      → Fed holds stands broken node node' v1 v2 n (Absorb i ∷ []) None false
  refused node node' n v1 v2 i now1 now2 knows st works tells run kept = record {
    done = [];
    failed = Absorb i ∷ [];
    undone = [];
    parts = refl;
    one = refl;
    whole = λ is. refl;
    knows = λ is. (kept is).0 n knows;
    stored = λ is. (kept is).1 tells n.history st;
    moments = absorbing n v1 v2 i [] (Absorb i ∷ []) refl run;
    ends = λ c left.
        either_has_all stands n i c
        (⊎_elim (λ before. inl (stored_reopens holds stands law node n v1 knows.valid st c (now1.only c v2.told before).0)) (λ is. is.1)
        (run.each v1.moment c v2.told (omega arith) (now2.counts v1.moment c run.later left)));
    told = told_from v1.told v1.told v2.told v1.told 0 refl (sym works.told) (told_none v1.told);
    lost = 0;
    tried = subst (λ (o : Outside). Grows v1.outside.tried o.tried []) (sym works.outside) (grows_none v1.outside.tried);
    sent = ([], sent_none, subst (λ (o : Outside). Grows v1.outside.sent o.sent []) (sym works.outside) (grows_none v1.outside.sent));
    lost_cause = lost_none v1.outside.send_faults v2.outside.send_faults (omega (arith, ap (λ (o : Outside). o.send_faults) works.outside));
    said = subst (λ (o : Outside). Grows v1.outside.said o.said []) (sym works.outside) (grows_none v1.outside.said);
    counted = tt;
  }

  -- an input that was absorbed, and its letters sent
  pub answered : (node node' : Node L) (n : Situation) (v1 v2 v3 : View) (i : Input) (t : Tally) → Knows node n → DiskWorks v1 v2 → Tells_bytes v3
      → Leaves v1 v2 (λ c k. (k ≡ v1.told) × (ReopensTo stands n.history c ⊎ ReopensTo stands (next n i).history c))
      → Knows node' (next n i) → Stored holds node' (next n i).history v2
      → (letters : List (ℕ × List ℕ)) → letters ≡ sent_by n i → Sends v2 v3 letters t.lost
      → (d : Option Dropped) → d ≡ (react n i).dropped → t.taken ≡ datagrams i → t.dropped ≡ (if is_some d then 1 else 0)
      → Fed holds stands broken node node' v1 v3 n (Absorb i ∷ []) (Some t) true
  answered node node' n v1 v2 v3 i t known works tells run knows stored letters are s d drop taken dropped =
      let P : List ℕ → ℕ → Type 0 = λ c k. IsPrefixSoon stands n (Absorb i ∷ []) [] v1.told c k in
      let out = sent_by n i in
      let all : tellings n (Absorb i ∷ []) ≡ map Send out = append-nil (map Send out) in
      let sent : sent_in n (Absorb i ∷ []) ≡ letters = ap sent_of all ∙ sent_of-letters out ∙ sym are in
      let said : said_in n (Absorb i ∷ []) ≡ [] = ap said_of all ∙ said_of-letters out in
      let many : length (tellings n (Absorb i ∷ [])) ≡ length letters = ap (λ (l : List Telling). length l) all ∙ many_letters out ∙ ap (λ (l : List (ℕ × List ℕ)). length l) (sym are) in
      let from_sent : v2.outside.sent ≡ v1.outside.sent = ap (λ (o : Outside). o.sent) works.outside in
      let from_tried : v2.outside.tried ≡ v1.outside.tried = ap (λ (o : Outside). o.tried) works.outside in
      let from_faults : v2.outside.send_faults ≡ v1.outside.send_faults = ap (λ (o : Outside). o.send_faults) works.outside in
      let same_said : v3.outside.said ≡ v1.outside.said = ap (λ (o : Outside). o.said) s.kept ∙ ap (λ (o : Outside). o.said) works.outside in
      record {
        done = Absorb i ∷ [];
        failed = [];
        undone = [];
        parts = refl;
        one = refl;
        whole = λ is. refl;
        knows = λ is. knows;
        stored = λ is. stored_at holds node' (next n i).history v2 v3 stored (record { bytes = stored.shows.bytes; told = s.bytes tells ∙ stored.shows.told; reads = stored.shows.reads; images = λ c left. stored.shows.images c (s.images c left) });
        moments = then_run v1 v2 v3 P (absorbing n v1 v2 i (Absorb i ∷ []) [] refl run) (weakened v2 v3 (λ c k. v2.may_leave c × (k ≤ v2.told + length letters)) P
            (λ c k both. record {
              prefix = whole stands n (Absorb i ∷ []) v1.told c k (stored_reopens holds stands law node' (next n i) v2 knows.valid stored c both.0);
              soon = omega (arith, both.1, works.told, many);
            }) s.moments);
        ends = λ c left. whole_has_all stands n (Absorb i ∷ []) c (stored_reopens holds stands law node' (next n i) v2 knows.valid stored c (s.images c left));
        told = told_as v1.told v3.told (length letters) (length (tellings n (Absorb i ∷ [])) + 0) (omega (arith, many)) (told_from v1.told v2.told v3.told v3.told (length letters) works.told refl s.told);
        lost = t.lost;
        tried = subst (λ (l : List (ℕ × List ℕ)). Grows v1.outside.tried v3.outside.tried l) (sym sent) (subst (λ (o : Option (List (ℕ × List ℕ))). Grows o v3.outside.tried letters) from_tried s.tried);
        sent = (
          s.sent.0,
          subst (λ (l : List (ℕ × List ℕ)). AreSent l s.sent.0 t.lost) (sym sent) s.sent.1,
          subst (λ (o : Option (List (ℕ × List ℕ))). Grows o v3.outside.sent s.sent.0) from_sent s.sent.2,
        );
        lost_cause = omega (arith, s.lost_cause, from_faults);
        said = subst (λ (l : List ℕ). Grows v1.outside.said v3.outside.said l) (sym (ap (flat_map (λ (line : List ℕ). line)) said))
            (subst (λ (o : Option (List ℕ)). Grows v1.outside.said o []) (sym same_said) (grows_none v1.outside.said));
        counted = record {
          taken = omega (arith, taken);
          dropped = omega (arith, subst (λ (o : Option Dropped). t.dropped ≡ (if is_some o then 1 else 0)) drop dropped);
          lost_is = refl;
        };
      }

  -- ---- the first part of a turn

  -- a node that only walked its claims stands where it stood
  fed_walked : (node node' : Node L) (v0 v1 : View) (n : Situation) (course : List Step) (t : Option Tally) (ok : Bool) → IsSame node node' → Fed holds stands broken node node v0 v1 n course t ok → Fed holds stands broken node node' v0 v1 n course t ok
  fed_walked node node' v0 v1 n course t ok same f = record {
    done = f.done;
    failed = f.failed;
    undone = f.undone;
    parts = f.parts;
    one = f.one;
    whole = f.whole;
    knows = λ sound. same_knows node node' (after_all n f.done) same (f.knows (subst (λ (l : L). broken l ≡ false) same.log sound));
    stored = λ sound. stored_room holds node node' (after_all n f.done).history v1 (λ es i held. subst (λ (l : L). holds l es i) (sym same.log) held) (f.stored (subst (λ (l : L). broken l ≡ false) same.log sound));
    moments = f.moments;
    ends = f.ends;
    told = f.told;
    lost = f.lost;
    tried = f.tried;
    sent = f.sent;
    lost_cause = f.lost_cause;
    said = f.said;
    counted = f.counted;
  }

  -- the link answered that there is no frame, and claims were walked
  pub idle : (node node' : Node L) (v0 v1 : View) → IsSame node node' → Listened v0 v1 [] Nothing → Received holds stands broken node node' v0 v1 (Some no_tally) Whole None
  idle node node' v0 v1 same l = record {
    answer = Nothing;
    ended = refl;
    hears = l.hears;
    fed = λ tells n k s peers clock. by_whole holds stands broken law node node' v0 v1 n peers clock (Nothing ∷ []) [] (Some no_tally) (fed_walked node node' v0 v1 n [] (Some no_tally) true same (listened node n v0 v1 [] Nothing k l tells s));
  }

  pub cut : (node : Node L) (v0 v1 : View) (told : Option (List ℕ)) → Listened v0 v1 [] Fault → Received holds stands broken node node v0 v1 None Cut told
  cut node v0 v1 told l = record {
    answer = Fault;
    ended = refl;
    hears = l.hears;
    fed = λ tells n k s peers clock. by_whole holds stands broken law node node v0 v1 n peers clock (Fault ∷ []) [] None (uncounted holds stands broken law node node v0 v1 n [] (Some no_tally) true (listened node n v0 v1 [] Fault k l tells s));
  }

  -- a frame came, and was fed
  came : (node node' : Node L) (v0 v1 v2 : View) (x : List ℕ) (i : Input) (t : Option Tally) (ok : Bool) → i ≡ Datagram x → (broken node.log ≡ false) → Listened v0 v1 [] (Frame x) → (Tells_bytes v2 → Tells_bytes v1)
      → (Tells_bytes v2 → (n : Situation) → Knows node n → Stored holds node n.history v1 → Fed holds stands broken node node' v1 v2 n (Absorb i ∷ []) t ok)
      → Tells_bytes v2 → (n : Situation) → Knows node n → Stored holds node n.history v0 → (peers : List ℕ) (clock : ℕ)
      → FedBy holds stands broken node node' v0 v2 n peers clock (Frame x ∷ []) (steps_of peers clock (Frame x ∷ [])) t ok
  unfolding listened
  came node node' v0 v1 v2 x i t ok is sound l mid run tells n k s peers clock =
      let f = listened node n v0 v1 [] (Frame x) k l (mid tells) s in
      let g = fed_as holds stands broken law node node' v1 v2 n (Absorb i ∷ []) (Absorb (Datagram x) ∷ []) t ok (ap (λ (j : Input). Absorb j ∷ []) is) (run tells n k (stored_on node n v0 v1 [] (Frame x) l (mid tells) s)) in
      subst (λ (u : Option Tally). FedBy holds stands broken node node' v0 v2 n peers clock (Frame x ∷ []) (Absorb (Datagram x) ∷ []) u ok) (counts_zero t)
      (by_then holds stands broken law node node node' v0 v1 v2 n peers clock [] (Frame x ∷ []) [] (Absorb (Datagram x) ∷ []) (Some no_tally) t ok f (by_one holds stands broken law node node' v1 v2 n peers clock (Frame x) t ok g))

  pub received_fed : (node node' : Node L) (v0 v1 v2 : View) (x : List ℕ) (told : Option (List ℕ)) (i : Input) (t : Tally) → Some x ≡ told → i ≡ Datagram x → (broken node.log ≡ false) → Listened v0 v1 [] (Frame x) → OnlySends v1 v2 → (Tells_bytes v2 → Tells_bytes v1)
      → (Tells_bytes v2 → (n : Situation) → Knows node n → Stored holds node n.history v1 → Fed holds stands broken node node' v1 v2 n (Absorb i ∷ []) (Some t) true)
      → Received holds stands broken node node' v0 v2 (Some t) Whole told
  received_fed node node' v0 v1 v2 x told i t tells is sound l only mid run = record {
    answer = Frame x;
    ended = ap heard_of tells;
    hears = hears_then v0 v1 v2 [] [] (Frame x ∷ []) [] l.hears (sends_hears v1 v2 only);
    fed = came node node' v0 v1 v2 x i (Some t) true is sound l mid run;
  }

  pub received_stopped : (node node' : Node L) (v0 v1 v2 : View) (x : List ℕ) (told : Option (List ℕ)) (i : Input) (e : End) → e ≡ Stopped → i ≡ Datagram x → (broken node.log ≡ false) → Listened v0 v1 [] (Frame x) → OnlySends v1 v2 → (Tells_bytes v2 → Tells_bytes v1)
      → (Tells_bytes v2 → (n : Situation) → Knows node n → Stored holds node n.history v1 → Fed holds stands broken node node' v1 v2 n (Absorb i ∷ []) None false)
      → Received holds stands broken node node' v0 v2 None e told
  received_stopped node node' v0 v1 v2 x told i e stops is sound l only mid run = subst (λ (f : End). Received holds stands broken node node' v0 v2 None f told) (sym stops) (record {
    answer = Frame x;
    ended = (x, refl);
    hears = hears_then v0 v1 v2 [] [] (Frame x ∷ []) [] l.hears (sends_hears v1 v2 only);
    fed = came node node' v0 v1 v2 x i None false is sound l mid run;
  })

  -- ---- ticks

  pub tick_more : (n0 n1 n2 : Node L) (v0 v1 v2 : View) (n : Situation) (first : List ℕ) (p : ℕ) (i : Input) (t u : Option Tally) (ok : Bool) → i ≡ Tick p → broken n1.log ≡ false
      → (r : Fed holds stands broken n0 n1 v0 v1 n (ticks first) t true)
      → ((m : Situation) → Knows n1 m → Stored holds n1 m.history v1 → Fed holds stands broken n1 n2 v1 v2 m (Absorb i ∷ []) u ok)
      → Fed holds stands broken n0 n2 v0 v2 n (ticks (first ++ p ∷ [])) (counts_sum t u) ok
  tick_more n0 n1 n2 v0 v1 v2 n first p i t u ok is sound r run =
      fed_as holds stands broken law n0 n2 v0 v2 n (ticks first ++ Absorb i ∷ []) (ticks (first ++ p ∷ [])) (counts_sum t u) ok
      (ap (λ (j : Input). ticks first ++ Absorb j ∷ []) is ∙ sym (ticks-append first (p ∷ [])))
      (fed_then holds stands broken law n0 n1 n2 v0 v1 v2 n (ticks first) (Absorb i ∷ []) t u ok r (run (after_all n r.done) (r.knows sound) (r.stored sound)))

  -- ---- a whole turn

  -- it ended in its first part
  pub turn_early : (peers : List ℕ) (clock : ℕ) (node node' : Node L) (v0 v1 : View) (t : Option Tally) (e : End) (told : Option (List ℕ)) → IsEarly e → Received holds stands broken node node' v0 v1 t e told → MadeTurn holds stands broken peers clock clock node node' v0 v1 t e told
  turn_early peers clock node node' v0 v1 t e told early r = record {
    ran = record {
      full = [];
      last = r.answer ∷ [];
      ended = early_ends e told r.answer early r.ended;
      hears = r.hears;
      clock_is = sym (early_clock e clock told r.answer early r.ended);
      fed = λ tells n k s. r.fed tells n k s peers clock;
    };
    came_in = early_came e [] told early;
  }

  -- the answers of a whole turn, as one that was made or as the last
  turn_as : (peers : List ℕ) (clock clock' : ℕ) (node node2 : Node L) (v0 v3 : View) (turn : Turn) (t : Option Tally) (e : End) → IsFull e → Hears v0 v3 [] (of_turn turn) → clock' ≡ clock_of clock (of_turn turn)
      → (Tells_bytes v3 → (n : Situation) → Knows node n → Stored holds node n.history v0 → FedBy holds stands broken node node2 v0 v3 n peers clock (of_turn turn) (steps_of peers clock (of_turn turn)) t (is_fed e))
      → MadeTurn holds stands broken peers clock clock' node node2 v0 v3 t e turn.came
  turn_as peers clock clock' node node2 v0 v3 turn t Whole is_full hears clocked run = record { ran = record { full = turn ∷ []; last = []; ended = (refl, refl); hears = hears; clock_is = clocked; fed = run }; came_in = refl }
  turn_as peers clock clock' node node2 v0 v3 turn t Stopped is_full hears clocked run = record { ran = record { full = []; last = of_turn turn; ended = (omega arith, inr (turn, refl)); hears = hears; clock_is = clocked; fed = run }; came_in = tt }
  turn_as peers clock clock' node node2 v0 v3 turn t Cut is_full hears clocked run = absurd is_full
  turn_as peers clock clock' node node2 v0 v3 turn t Unbegun is_full hears clocked run = absurd is_full

  -- the clock was asked, and the ticks that this makes were fed
  pub turn_clocked : (peers : List ℕ) (clock clock' : ℕ) (node node1 node2 : Node L) (v0 v1 v2 v3 : View) (time : ℕ) (t u : Option Tally) (e : End) (told : Option (List ℕ)) → IsFull e → broken node1.log ≡ false → clock' ≡ clock_after clock time
      → Received holds stands broken node node1 v0 v1 t Whole told → Listened v1 v2 [] (Clock time) → OnlySends v2 v3 → (Tells_bytes v3 → Tells_bytes v2)
      → (Tells_bytes v3 → (n : Situation) → Knows node1 n → Stored holds node1 n.history v2 → Fed holds stands broken node1 node2 v2 v3 n (clock_steps peers clock time) u (is_fed e))
      → MadeTurn holds stands broken peers clock clock' node node2 v0 v3 (counts_sum t u) e told
  turn_clocked peers clock clock' node node1 node2 v0 v1 v2 v3 time t u e told is_full sound now r l only mid run =
      let turn : Turn = record { came = told; time = time } in
      let all : r.answer ∷ Clock time ∷ [] ≡ of_turn turn = ap (λ (a : Heard). a ∷ Clock time ∷ []) r.ended in
      let hears : Hears v0 v3 [] (of_turn turn) = subst (λ (a : List Heard). Hears v0 v3 [] a) all
      (hears_then v0 v1 v3 [] [] (r.answer ∷ []) (Clock time ∷ []) r.hears (hears_then v1 v2 v3 [] [] (Clock time ∷ []) [] l.hears (sends_hears v2 v3 only))) in
      let clocked : clock' ≡ clock_of clock (of_turn turn) = now ∙ ap (λ (c : ℕ). clock_after c time) (sym (came_clock clock told)) in
      let still : clock ≡ clock_of clock (r.answer ∷ []) = sym (ap (clock_by clock) r.ended ∙ came_clock clock told) in
      turn_as peers clock clock' node node2 v0 v3 turn (counts_sum t u) e is_full hears clocked
      (λ tells n k s.
      let m2 = mid tells in
      let m1 = rests_tells v1 v2 l.listens.rests m2 in
      let f = r.fed m1 n k s peers clock in
      let here = after_all n f.fed.done in
      let k1 = f.fed.knows sound in
      let s1 = f.fed.stored sound in
      let quiet = listened node1 here v1 v2 [] (Clock time) k1 l m2 s1 in
      let g = subst (λ (w : Option Tally). Fed holds stands broken node1 node2 v1 v3 here (clock_steps peers clock time) w (is_fed e)) (counts_zero u)
      (fed_then holds stands broken law node1 node1 node2 v1 v2 v3 here [] (clock_steps peers clock time) (Some no_tally) u (is_fed e) quiet
      (run tells (after_all here quiet.done) (quiet.knows sound) (quiet.stored sound))) in
      let ticked = subst (λ (c : ℕ). FedBy holds stands broken node1 node2 v1 v3 here peers c (Clock time ∷ []) (steps_of peers c (Clock time ∷ [])) u (is_fed e)) still (by_one holds stands broken law node1 node2 v1 v3 here peers clock (Clock time) u (is_fed e) g) in
      subst (λ (l : List Heard). FedBy holds stands broken node node2 v0 v3 n peers clock l (steps_of peers clock l) (counts_sum t u) (is_fed e)) all
      (by_as holds stands broken law node node2 v0 v3 n peers clock (r.answer ∷ Clock time ∷ []) (steps_of peers clock (r.answer ∷ []) ++ steps_of peers (clock_of clock (r.answer ∷ [])) (Clock time ∷ [])) (steps_of peers clock (r.answer ∷ Clock time ∷ [])) (counts_sum t u) (is_fed e)
      (sym (steps_of-append peers clock (r.answer ∷ []) (Clock time ∷ [])))
      (by_then holds stands broken law node node1 node2 v0 v1 v3 n peers clock (r.answer ∷ []) (Clock time ∷ []) (steps_of peers clock (r.answer ∷ [])) (steps_of peers (clock_of clock (r.answer ∷ [])) (Clock time ∷ [])) t u (is_fed e) f.fed ticked)))

  -- the clock is not above the call's
  pub turn_still : (peers : List ℕ) (clock : ℕ) (node node1 : Node L) (v0 v1 v2 : View) (time : ℕ) (t : Tally) (told : Option (List ℕ)) → broken node1.log ≡ false → time ≤ clock
      → Received holds stands broken node node1 v0 v1 (Some t) Whole told → Listened v1 v2 [] (Clock time) → MadeTurn holds stands broken peers clock clock node node1 v0 v2 (Some t) Whole told
  turn_still peers clock node node1 v0 v1 v2 time t told sound le r l =
      let no : nat_lt clock time ≡ false = not_later clock time le in
      let none : [] ≡ clock_steps peers clock time = ap (λ (b : Bool). if b then ticks peers else []) (sym no) in
      let same : clock ≡ clock_after clock time = ap (λ (b : Bool). if b then time else clock) (sym no) in
      subst (λ (u : Option Tally). MadeTurn holds stands broken peers clock clock node node1 v0 v2 u Whole told) (counts_none t)
      (turn_clocked peers clock clock node node1 node1 v0 v1 v2 v2 time (Some t) (Some no_tally) Whole told tt sound same r l refl (λ tells. tells)
      (λ tells n k s. fed_as holds stands broken law node1 node1 v2 v2 n [] (clock_steps peers clock time) (Some no_tally) true none (fed_none holds stands broken law node1 n v2 k s)))

  -- it is, and the peers' ticks were fed
  pub turn_ticked : (peers : List ℕ) (clock : ℕ) (node node1 node2 : Node L) (v0 v1 v2 v3 : View) (time : ℕ) (t u : Option Tally) (e : End) (told : Option (List ℕ)) → IsFull e → broken node1.log ≡ false → clock < time
      → Received holds stands broken node node1 v0 v1 t Whole told → Listened v1 v2 [] (Clock time) → OnlySends v2 v3 → (Tells_bytes v3 → Tells_bytes v2)
      → (Tells_bytes v3 → (n : Situation) → Knows node1 n → Stored holds node1 n.history v2 → Fed holds stands broken node1 node2 v2 v3 n (ticks peers) u (is_fed e))
      → MadeTurn holds stands broken peers clock time node node2 v0 v3 (counts_sum t u) e told
  turn_ticked peers clock node node1 node2 v0 v1 v2 v3 time t u e told is_full sound lt r l only mid run =
      let yes : nat_lt clock time ≡ true = lt-ltb clock time lt in
      let all : ticks peers ≡ clock_steps peers clock time = ap (λ (b : Bool). if b then ticks peers else []) (sym yes) in
      let set : time ≡ clock_after clock time = ap (λ (b : Bool). if b then time else clock) (sym yes) in
      turn_clocked peers clock time node node1 node2 v0 v1 v2 v3 time t u e told is_full sound set r l only mid
      (λ tells n k s. fed_as holds stands broken law node1 node2 v2 v3 n (ticks peers) (clock_steps peers clock time) u (is_fed e) all (run tells n k s))

-- what a call that changes nothing on the disk leaves ready
pub ready_still : {L : Type 0} (holds : L → List Entry → List ℕ → Type 0) (node : Node L) (v w : View) → Rests v w → IsReady holds node v → IsReady holds node w
ready_still holds node v w rests r = (
  r.0,
  r.1,
  λ tells.
      let s = r.2 (rests_tells v w rests tells) in
      stored_at holds node r.0.history v w s (shows_rest _ v w rests tells s.shows),
)

-- and so does a node that only walked its claims
pub ready_walked : {L : Type 0} (holds : L → List Entry → List ℕ → Type 0) (node node' : Node L) (v w : View) → IsSame node node' → Rests v w → IsReady holds node v → IsReady holds node' w
ready_walked {L} holds node node' v w same rests ready =
    let still = ready_still holds node v w rests ready in (
      still.0,
      same_knows node node' still.0 same still.1,
      λ tells. stored_room holds node node' still.0.history w (λ es i held. subst (λ (l : L). holds l es i) (sym same.log) held) (still.2 tells),
    )
