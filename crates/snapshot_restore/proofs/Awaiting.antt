-- The turns of a place, one after another.
use Rattle.std.proofs.Common.{◌≡◌, ℕ, ◌+◌, ◌<◌, Bool, true, false, List, [], ◌∷◌, ◌++◌, length, Option, Some, None, refl, sym, ◌∙◌, ap, subst, arith, length-append}
use Rattle.std.proofs.lemmas.List.{append-nil}
use Rattle.psb_bytes.specs.declared.ids.Ref.{Ref}
use Rattle.psb_station.specs.View.{View, Heard}
use Rattle.psb_station.specs.Span.{Tells_bytes}
use Rattle.node_journal.specs.Entry.{Entry}
use Rattle.psb_settings.specs.declared.settings.Settings.{Settings}
use Rattle.psb_machine.specs.Machine.{Situation}
use Rattle.psb_machine.specs.Course.{after_all}
use Rattle.psb_machine.specs.Commands.{peer_ids}
use Rattle.node_core.specs.declared.node.Node.{Node}
use Rattle.node_serve.specs.Hears.{clock_of, of_turn}
use Rattle.node_serve.specs.Spans.{no_tally, Fed, FedBy}
use Rattle.node_serve.proofs.Runs.{counts_then, hears_then, clock_of-append, fed_none, fed_then, fed_as, uncounted, by_whole, by_then, by_as}
use Rattle.snapshot_restore.specs.Answers.{answers, listed}
use Rattle.snapshot_restore.specs.Course.{all_of, round_steps, fetch_steps}
use Rattle.snapshot_restore.specs.Taken.{NoneOpens, AreWhole, last_of}
use Rattle.snapshot_restore.specs.Faults.{IsOfTurn}
use Rattle.snapshot_restore.specs.Fetching.{Begins, Runs, MakesRound, EndsIn, StopsRound, Awaits, SpendsAll, TellsLast, StopsAwaiting}
use Rattle.snapshot_restore.specs.declared.fault.RestoreFault.{RestoreFault}
use Rattle.snapshot_restore.specs.declared.fault.RestoreFault.TheVariants as restore_fault
use Rattle.snapshot_restore.specs.declared.waiting.Waiting.{Waiting}
use Rattle.snapshot_restore.specs.declared.waiting.Brought.{Brought}
use Rattle.snapshot_restore.specs.declared.waiting.Brought.TheVariants as brought
use Rattle.snapshot_restore.proofs.Courses.{all_of-append, all_of-one, answers-append, fetch_steps-append, none_open_then, whole_then, last_one}
use Rattle.snapshot_restore.proofs.Rounds.{runs_none, runs_as, begins_then}

pub runs_then : (w0 w1 w2 : Waiting) (v0 v1 v2 : View) (a b : List Heard) → Runs w0 w1 v0 v1 a → Runs w1 w2 v1 v2 b → Runs w0 w2 v0 v2 (a ++ b)
runs_then w0 w1 w2 v0 v1 v2 a b r s = record {
  hears = hears_then v0 v1 v2 [] [] a b r.hears s.hears;
  clock_is = s.clock_is ∙ ap (λ (c : ℕ). clock_of c b) r.clock_is ∙ sym (clock_of-append w0.clock a b);
  still = record { peers = s.still.peers ∙ r.still.peers; turns = s.still.turns ∙ r.still.turns };
  tells = λ told. r.tells (s.tells told);
  counts = counts_then v0 v1 v2 r.counts s.counts;
}

-- a fault of a turn is none of a place
cut_short : (turns : ℕ) (name : List ℕ) (made : ℕ) (part : List (List Heard)) (ok : Bool) (e : RestoreFault) → IsOfTurn e → made < turns → EndsIn e part ok → SpendsAll turns name made part ok e
cut_short turns name made part ok (restore_fault.Node f) is soon ends = (soon, ends)
cut_short turns name made part ok restore_fault.Link is soon ends = (soon, ends)
cut_short turns name made part ok restore_fault.Folder is soon ends = absurd is
cut_short turns name made part ok restore_fault.NotEmpty is soon ends = absurd is
cut_short turns name made part ok (restore_fault.Missing n) is soon ends = absurd is
cut_short turns name made part ok (restore_fault.Altered n got) is soon ends = absurd is
cut_short turns name made part ok (restore_fault.BadSkeleton f place) is soon ends = absurd is
cut_short turns name made part ok restore_fault.Memory is soon ends = (soon, ends)

tells_none : (came : List (List ℕ)) (e : RestoreFault) → IsOfTurn e → TellsLast came e
tells_none came (restore_fault.Node f) is = tt
tells_none came restore_fault.Link is = tt
tells_none came restore_fault.Folder is = tt
tells_none came restore_fault.NotEmpty is = tt
tells_none came (restore_fault.Missing n) is = absurd is
tells_none came (restore_fault.Altered n got) is = absurd is
tells_none came (restore_fault.BadSkeleton f place) is = tt
tells_none came restore_fault.Memory is = tt

-- so many turns were made, and no body that opens came; this one came last, if one did
pub record Listens {L : Type 0} (holds : L → List Entry → List ℕ → Type 0) (stands : List Entry → List ℕ → Type 0) (broken : L → Bool) (w0 w1 : Waiting) (n0 n1 : Node L) (v0 v1 : View) (r : Ref) (i : ℕ) (last : Option (List ℕ)) : Type 0 where
  pub rounds : List (List Heard)
  pub bodies : List (List ℕ)
  pub many : length rounds ≡ i
  pub whole : AreWhole rounds
  pub run : Runs w0 w1 v0 v1 (all_of rounds)
  pub sound : broken n1.log ≡ false
  pub others : NoneOpens r bodies
  pub last_is : last_of bodies ≡ last
  pub fed : Tells_bytes v1 → (n : Situation) (st : Settings) → Begins holds w0.peers n0 v0 n st
      → Fed holds stands broken n0 n1 v0 v1 n (fetch_steps st r.name w0.clock 0 rounds) None true
      × (answers st r.name (all_of rounds) ≡ bodies)

module _ {L : Type 0} (holds : L → List Entry → List ℕ → Type 0) (stands : List Entry → List ℕ → Type 0) (broken : L → Bool) (law : (log : L) (es : List Entry) (c : List ℕ) → holds log es c → stands es c) where
  pub listens_none : (w : Waiting) (node : Node L) (v : View) (r : Ref) → broken node.log ≡ false → Listens holds stands broken w w node node v v r 0 None
  listens_none w node v r sound = record {
    rounds = [];
    bodies = [];
    many = refl;
    whole = tt;
    run = runs_none w v;
    sound = sound;
    others = tt;
    last_is = refl;
    fed = λ told n st begins. (uncounted holds stands broken law node node v v n [] (Some no_tally) true (fed_none holds stands broken law node n v begins.knows begins.stored), refl);
  }

  -- turns that follow these
  fed_more : (w0 w1 w2 : Waiting) (n0 n1 n2 : Node L) (v0 v1 v2 : View) (r : Ref) (i : ℕ) (last : Option (List ℕ)) (more : List (List Heard)) (n : Situation) (st : Settings) (ok : Bool) → (l : Listens holds stands broken w0 w1 n0 n1 v0 v1 r i last)
      → (f : Fed holds stands broken n0 n1 v0 v1 n (fetch_steps st r.name w0.clock 0 l.rounds) None true) → Fed holds stands broken n1 n2 v1 v2 (after_all n f.done) (fetch_steps st r.name w1.clock i more) None ok
      → Fed holds stands broken n0 n2 v0 v2 n (fetch_steps st r.name w0.clock 0 (l.rounds ++ more)) None ok
  fed_more w0 w1 w2 n0 n1 n2 v0 v1 v2 r i last more n st ok l f g =
      let count : i ≡ 0 + length l.rounds = omega (arith, l.many) in
      let first = fetch_steps st r.name w0.clock 0 l.rounds in
      fed_as holds stands broken law n0 n2 v0 v2 n (first ++ fetch_steps st r.name w1.clock i more) (fetch_steps st r.name w0.clock 0 (l.rounds ++ more)) None ok
      (ap (λ (c : ℕ). first ++ fetch_steps st r.name c i more) l.run.clock_is
      ∙ ap (λ (k : ℕ). first ++ fetch_steps st r.name (clock_of w0.clock (all_of l.rounds)) k more) count
      ∙ sym (fetch_steps-append st r.name w0.clock 0 l.rounds more))
      (fed_then holds stands broken law n0 n1 n2 v0 v1 v2 n first (fetch_steps st r.name w1.clock i more) None None ok f g)

  next_begins : (w0 w1 : Waiting) (n0 n1 : Node L) (v0 v1 : View) (r : Ref) (i : ℕ) (last : Option (List ℕ)) (n : Situation) (st : Settings) → (l : Listens holds stands broken w0 w1 n0 n1 v0 v1 r i last) → Begins holds w0.peers n0 v0 n st
      → (f : Fed holds stands broken n0 n1 v0 v1 n (fetch_steps st r.name w0.clock 0 l.rounds) None true) → Begins holds w1.peers n1 v1 (after_all n f.done) st
  next_begins w0 w1 n0 n1 v0 v1 r i last n st l b f = begins_then holds stands broken law w0.peers w1.peers n0 n1 v0 v1 n st (fetch_steps st r.name w0.clock 0 l.rounds) true l.run.still.peers l.sound b f

  one_round : (n0 n1 : Node L) (v0 v1 : View) (name : List ℕ) (c i : ℕ) (heard : List Heard) (n : Situation) (st : Settings) (ok : Bool) → Fed holds stands broken n0 n1 v0 v1 n (round_steps st name c i heard) None ok
      → Fed holds stands broken n0 n1 v0 v1 n (fetch_steps st name c i (heard ∷ [])) None ok
  one_round n0 n1 v0 v1 name c i heard n st ok f =
      let steps = round_steps st name c i heard in
      fed_as holds stands broken law n0 n1 v0 v1 n steps (steps ++ []) None ok (sym (append-nil steps)) f

  -- one turn more, which brought no body that opens
  pub listens_more : (w0 w1 w2 : Waiting) (n0 n1 n2 : Node L) (v0 v1 v2 : View) (r : Ref) (i : ℕ) (last : Option (List ℕ)) (b : Brought) → broken n2.log ≡ false → (l : Listens holds stands broken w0 w1 n0 n1 v0 v1 r i last)
      → (m : MakesRound holds stands broken w1 w2 n1 n2 v1 v2 r i b) → NoneOpens r (listed m.came) → Listens holds stands broken w0 w2 n0 n2 v0 v2 r (i + 1) (last_of (l.bodies ++ listed m.came))
  listens_more w0 w1 w2 n0 n1 n2 v0 v1 v2 r i last b sound l m none =
      let heard = of_turn m.turn in
      record {
        rounds = l.rounds ++ heard ∷ [];
        bodies = l.bodies ++ listed m.came;
        many = length-append l.rounds (heard ∷ []) ∙ ap (λ (k : ℕ). k + 1) l.many;
        whole = whole_then l.rounds (heard ∷ []) l.whole ((m.turn, refl), tt);
        run = runs_as w0 w2 v0 v2 (all_of l.rounds ++ heard) (all_of (l.rounds ++ heard ∷ [])) (sym (all_of-one l.rounds heard)) (runs_then w0 w1 w2 v0 v1 v2 (all_of l.rounds) heard l.run m.run);
        sound = sound;
        others = none_open_then r l.bodies (listed m.came) l.others none;
        last_is = refl;
        fed = λ told n st begins.
            let f = l.fed (m.run.tells told) n st begins in
            let g = m.fed told (after_all n f.0.done) st (next_begins w0 w1 n0 n1 v0 v1 r i last n st l begins f.0) in (
              fed_more w0 w1 w2 n0 n1 n2 v0 v1 v2 r i last (heard ∷ []) n st true l f.0 (one_round n1 n2 v1 v2 r.name w1.clock i heard (after_all n f.0.done) st true g.0),
              ap (answers st r.name) (all_of-one l.rounds heard)
                  ∙ answers-append st r.name (all_of l.rounds) heard
                  ∙ ap (λ (a : List (List ℕ)). a ++ answers st r.name heard) f.1
                  ∙ ap (λ (a : List (List ℕ)). l.bodies ++ a) g.1,
            );
      }

  pub listens_on : (w0 w1 w2 : Waiting) (n0 n1 n2 : Node L) (v0 v1 v2 : View) (r : Ref) (i : ℕ) (last : Option (List ℕ)) → broken n2.log ≡ false → Listens holds stands broken w0 w1 n0 n1 v0 v1 r i last
      → MakesRound holds stands broken w1 w2 n1 n2 v1 v2 r i brought.Nothing → Listens holds stands broken w0 w2 n0 n2 v0 v2 r (i + 1) last
  listens_on w0 w1 w2 n0 n1 n2 v0 v1 v2 r i last sound l m =
      let more = listens_more w0 w1 w2 n0 n1 n2 v0 v1 v2 r i last brought.Nothing sound l m (subst (λ (o : Option (List ℕ)). NoneOpens r (listed o)) (sym m.is) tt) in
      subst (λ (o : Option (List ℕ)). Listens holds stands broken w0 w2 n0 n2 v0 v2 r (i + 1) o)
      (ap (λ (o : Option (List ℕ)). last_of (l.bodies ++ listed o)) m.is ∙ ap last_of (append-nil l.bodies) ∙ l.last_is) more

  pub listens_other : (w0 w1 w2 : Waiting) (n0 n1 n2 : Node L) (v0 v1 v2 : View) (r : Ref) (i : ℕ) (last : Option (List ℕ)) (body : List ℕ) → broken n2.log ≡ false → Listens holds stands broken w0 w1 n0 n1 v0 v1 r i last
      → MakesRound holds stands broken w1 w2 n1 n2 v1 v2 r i (brought.Other body) → Listens holds stands broken w0 w2 n0 n2 v0 v2 r (i + 1) (Some body)
  listens_other w0 w1 w2 n0 n1 n2 v0 v1 v2 r i last body sound l m =
      let more = listens_more w0 w1 w2 n0 n1 n2 v0 v1 v2 r i last (brought.Other body) sound l m (subst (λ (o : Option (List ℕ)). NoneOpens r (listed o)) (sym m.is.0) (m.is.1, tt)) in
      subst (λ (o : Option (List ℕ)). Listens holds stands broken w0 w2 n0 n2 v0 v2 r (i + 1) o)
      (ap (λ (o : Option (List ℕ)). last_of (l.bodies ++ listed o)) m.is.0 ∙ last_one l.bodies body) more

  -- the turn that brought a body which opens
  pub awaited : (w0 w1 w2 : Waiting) (n0 n1 n2 : Node L) (v0 v1 v2 : View) (r : Ref) (i : ℕ) (last : Option (List ℕ)) (plain : _) → i < w0.turns → Listens holds stands broken w0 w1 n0 n1 v0 v1 r i last
      → MakesRound holds stands broken w1 w2 n1 n2 v1 v2 r i (brought.Plain plain) → Awaits holds stands broken w0 w2 n0 n2 v0 v2 r plain.items
  awaited w0 w1 w2 n0 n1 n2 v0 v1 v2 r i last plain soon l m =
      let heard = of_turn m.turn in
      let body = m.is.0 in
      record {
        body = body;
        rounds = l.rounds ++ heard ∷ [];
        run = runs_as w0 w2 v0 v2 (all_of l.rounds ++ heard) (all_of (l.rounds ++ heard ∷ [])) (sym (all_of-one l.rounds heard)) (runs_then w0 w1 w2 v0 v1 v2 (all_of l.rounds) heard l.run m.run);
        opens_it = m.is.2;
        plain_is = m.is.3;
        fed = λ told n st begins.
            let f = l.fed (m.run.tells told) n st begins in
            let g = m.fed told (after_all n f.0.done) st (next_begins w0 w1 n0 n1 v0 v1 r i last n st l begins f.0) in (
              fed_more w0 w1 w2 n0 n1 n2 v0 v1 v2 r i last (heard ∷ []) n st true l f.0 (one_round n1 n2 v1 v2 r.name w1.clock i heard (after_all n f.0.done) st true g.0),
              record {
                front = l.rounds;
                turn = m.turn;
                parts = refl;
                soon = omega (arith, soon, l.many);
                whole = l.whole;
                others = subst (NoneOpens r) (sym f.1) l.others;
                brings = g.1 ∙ ap listed m.is.1;
                opens_it = m.is.2;
              },
            );
      }

  -- a turn that failed
  by_more : (w0 w1 : Waiting) (n0 n1 n2 : Node L) (v0 v1 v2 : View) (r : Ref) (i : ℕ) (last : Option (List ℕ)) (part : List (List Heard)) (n : Situation) (st : Settings) (ok : Bool) → (l : Listens holds stands broken w0 w1 n0 n1 v0 v1 r i last)
      → (f : Fed holds stands broken n0 n1 v0 v1 n (fetch_steps st r.name w0.clock 0 l.rounds) None true) → FedBy holds stands broken n1 n2 v1 v2 (after_all n f.done) (peer_ids st) w1.clock (all_of part) (fetch_steps st r.name w1.clock i part) None ok
      → FedBy holds stands broken n0 n2 v0 v2 n (peer_ids st) w0.clock (all_of (l.rounds ++ part)) (fetch_steps st r.name w0.clock 0 (l.rounds ++ part)) None ok
  by_more w0 w1 n0 n1 n2 v0 v1 v2 r i last part n st ok l f g =
      let count : i ≡ 0 + length l.rounds = omega (arith, l.many) in
      let first = fetch_steps st r.name w0.clock 0 l.rounds in
      let mid = clock_of w0.clock (all_of l.rounds) in
      let steps = fetch_steps st r.name w0.clock 0 (l.rounds ++ part) in
      subst (λ (h : List Heard). FedBy holds stands broken n0 n2 v0 v2 n (peer_ids st) w0.clock h steps None ok) (sym (all_of-append l.rounds part))
      (by_as holds stands broken law n0 n2 v0 v2 n (peer_ids st) w0.clock (all_of l.rounds ++ all_of part) (first ++ fetch_steps st r.name mid i part) steps None ok
      (ap (λ (k : ℕ). first ++ fetch_steps st r.name mid k part) count ∙ sym (fetch_steps-append st r.name w0.clock 0 l.rounds part))
      (by_then holds stands broken law n0 n1 n2 v0 v1 v2 n (peer_ids st) w0.clock (all_of l.rounds) (all_of part) first (fetch_steps st r.name mid i part) None None ok f
      (subst (λ (c : ℕ). FedBy holds stands broken n1 n2 v1 v2 (after_all n f.done) (peer_ids st) c (all_of part) (fetch_steps st r.name c i part) None ok) l.run.clock_is g)))

  pub awaiting_stopped : (w0 w1 w2 : Waiting) (n0 n1 n2 : Node L) (v0 v1 v2 : View) (r : Ref) (i : ℕ) (last : Option (List ℕ)) (e : RestoreFault) → i < w0.turns → IsOfTurn e → Listens holds stands broken w0 w1 n0 n1 v0 v1 r i last
      → StopsRound holds stands broken w1 w2 n1 n2 v1 v2 r i e → StopsAwaiting holds stands broken w0 w2 n0 n2 v0 v2 r e
  awaiting_stopped w0 w1 w2 n0 n1 n2 v0 v1 v2 r i last e soon of_turn_ l s =
      let rounds = l.rounds ++ s.part in
      record {
        front = l.rounds;
        part = s.part;
        ok = s.ok;
        run = runs_as w0 w2 v0 v2 (all_of l.rounds ++ all_of s.part) (all_of rounds) (sym (all_of-append l.rounds s.part)) (runs_then w0 w1 w2 v0 v1 v2 (all_of l.rounds) (all_of s.part) l.run s.run);
        unbroken = s.unbroken;
        whole = l.whole;
        spends = cut_short w0.turns r.name (length l.rounds) s.part s.ok e of_turn_ (omega (arith, soon, l.many)) s.ends;
        fed = λ told n st begins.
            let f = l.fed (s.run.tells told) n st begins in
            let g = s.fed told (after_all n f.0.done) st (next_begins w0 w1 n0 n1 v0 v1 r i last n st l begins f.0) in
            (by_more w0 w1 n0 n1 n2 v0 v1 v2 r i last s.part n st s.ok l f.0 g, subst (NoneOpens r) (sym f.1) l.others, tells_none (answers st r.name (all_of l.rounds)) e of_turn_);
      }

  -- all turns were made
  by_all : (w0 w1 : Waiting) (n0 n1 : Node L) (v0 v1 : View) (r : Ref) (i : ℕ) (last : Option (List ℕ)) (n : Situation) (st : Settings) → (l : Listens holds stands broken w0 w1 n0 n1 v0 v1 r i last)
      → Fed holds stands broken n0 n1 v0 v1 n (fetch_steps st r.name w0.clock 0 l.rounds) None true
      → FedBy holds stands broken n0 n1 v0 v1 n (peer_ids st) w0.clock (all_of (l.rounds ++ [])) (fetch_steps st r.name w0.clock 0 (l.rounds ++ [])) None true
  by_all w0 w1 n0 n1 v0 v1 r i last n st l f =
      by_whole holds stands broken law n0 n1 v0 v1 n (peer_ids st) w0.clock (all_of (l.rounds ++ [])) (fetch_steps st r.name w0.clock 0 (l.rounds ++ [])) None
      (fed_as holds stands broken law n0 n1 v0 v1 n (fetch_steps st r.name w0.clock 0 l.rounds) (fetch_steps st r.name w0.clock 0 (l.rounds ++ [])) None true (ap (fetch_steps st r.name w0.clock 0) (sym (append-nil l.rounds))) f)

  pub awaited_nothing : (w0 w1 : Waiting) (n0 n1 : Node L) (v0 v1 : View) (r : Ref) (i : ℕ) → i ≡ w0.turns → Listens holds stands broken w0 w1 n0 n1 v0 v1 r i None → StopsAwaiting holds stands broken w0 w1 n0 n1 v0 v1 r (restore_fault.Missing r.name)
  awaited_nothing w0 w1 n0 n1 v0 v1 r i all l = record {
    front = l.rounds;
    part = [];
    ok = true;
    run = runs_as w0 w1 v0 v1 (all_of l.rounds) (all_of (l.rounds ++ [])) (ap all_of (sym (append-nil l.rounds))) l.run;
    unbroken = λ broke. absurd (cc (broke, l.sound));
    whole = l.whole;
    spends = (refl, l.many ∙ all, refl, refl);
    fed = λ told n st begins. let f = l.fed told n st begins in (by_all w0 w1 n0 n1 v0 v1 r i None n st l f.0, subst (NoneOpens r) (sym f.1) l.others, ap last_of f.1 ∙ l.last_is);
  }

  pub awaited_others : (w0 w1 : Waiting) (n0 n1 : Node L) (v0 v1 : View) (r : Ref) (i : ℕ) (got : List ℕ) → i ≡ w0.turns → Listens holds stands broken w0 w1 n0 n1 v0 v1 r i (Some got) → StopsAwaiting holds stands broken w0 w1 n0 n1 v0 v1 r (restore_fault.Altered r.name got)
  awaited_others w0 w1 n0 n1 v0 v1 r i got all l = record {
    front = l.rounds;
    part = [];
    ok = true;
    run = runs_as w0 w1 v0 v1 (all_of l.rounds) (all_of (l.rounds ++ [])) (ap all_of (sym (append-nil l.rounds))) l.run;
    unbroken = λ broke. absurd (cc (broke, l.sound));
    whole = l.whole;
    spends = (refl, l.many ∙ all, refl, refl);
    fed = λ told n st begins. let f = l.fed told n st begins in (by_all w0 w1 n0 n1 v0 v1 r i (Some got) n st l f.0, subst (NoneOpens r) (sym f.1) l.others, ap last_of f.1 ∙ l.last_is);
  }
