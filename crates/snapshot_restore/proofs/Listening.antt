-- A turn, and what it brought.
use Rattle.std.proofs.Common.{◌≡◌, ◌⊎◌, inl, inr, ℕ, ◌<◌, Bool, true, false, List, [], ◌∷◌, ◌++◌, length, map, Option, Some, None, refl, sym, ◌∙◌, ap, subst, arith}
use Rattle.std.proofs.lemmas.Bool.{false≢true}
use Rattle.std.proofs.lemmas.List.{append-nil}
use Rattle.psb_bytes.specs.declared.ids.Ref.{Ref}
use Rattle.psb_station.specs.View.{View, Heard}
use Rattle.psb_station.specs.View.Heard.{Clock}
use Rattle.psb_station.specs.Span.{Tells_bytes}
use Rattle.psb_station.proofs.Spans.{same_some}
use Rattle.node_journal.specs.Entry.{Entry}
use Rattle.psb_settings.specs.declared.settings.Settings.{Settings}
use Rattle.psb_model.specs.History.{state}
use Rattle.psb_machine.specs.Machine.{Situation}
use Rattle.psb_machine.specs.Course.{Step, after_all}
use Rattle.psb_machine.specs.Commands.{Turn}
use Rattle.psb_machine.proofs.SettingsStay.{all_stay}
use Rattle.node_core.specs.declared.node.Node.{Node}
use Rattle.node_letters.specs.Peers.{PeersView, peers_of}
use Rattle.node_core.specs.Stored.{Knows}
use Rattle.node_serve.specs.Hears.{heard_of, of_turn, of_turns, steps_of, clock_of, Hears, End, Whole, Stopped, EndsAs, is_fed}
use Rattle.node_serve.specs.Spans.{Counts, Tally, Fed, FedBy, MadeTurn}
use Rattle.node_serve.specs.Turns.{fault_end}
use Rattle.node_serve.specs.declared.serving.ServeFault.{ServeFault}
use Rattle.node_serve.specs.declared.serving.ServeFault.TheVariants as serve_fault
use Rattle.node_serve.proofs.Runs.{uncounted, by_uncounted}
use Rattle.snapshot_restore.specs.Answers.{answer_in, answers, listed}
use Rattle.snapshot_restore.specs.Faults.{TheDisk, failed_in, of_serving}
use Rattle.snapshot_restore.specs.Fetching.{IsBrought, came_in, IsStill, HearsTurn, IsFailedTurn, EndsTurn, HearsPart}
use Rattle.snapshot_restore.specs.declared.fault.RestoreFault.{RestoreFault}
use Rattle.snapshot_restore.specs.declared.fault.RestoreFault.TheVariants as restore_fault
use Rattle.snapshot_restore.specs.declared.waiting.Waiting.{Waiting}
use Rattle.snapshot_restore.specs.declared.waiting.Brought.{Brought}

one_turn : (full : List Turn) → length full ≡ 1 → (t : Turn) × (full ≡ t ∷ [])
one_turn [] is = absurd (omega (arith, is))
one_turn (t ∷ []) is = (t, refl)
one_turn (t ∷ u ∷ rest) is = absurd (omega (arith, is))

same_one : {A : Type 0} (x y : A) → x ∷ [] ≡ y ∷ [] → x ≡ y
same_one x y is = cc

heard_answers : (st : Settings) (name : List ℕ) (o : Option (List ℕ)) (time : ℕ) → answers st name (heard_of o ∷ Clock time ∷ []) ≡ listed (came_in (peers_of st) name o)
heard_answers st name None time = refl
heard_answers st name (Some x) time = append-nil (listed (answer_in st name x))

no_turn : (full : List Turn) → length full < 1 → full ≡ []
no_turn [] lt = refl
no_turn (t ∷ full) lt = absurd (omega (arith, lt))

-- the turn in which an input failed is all that was heard
failed_turn : (full : List Turn) (last : List Heard) → EndsAs Stopped (length full) 1 last → IsFailedTurn (of_turns full ++ last)
failed_turn full last ends = subst IsFailedTurn (sym (ap (λ (l : List Turn). of_turns l ++ last) (no_turn full ends.0))) ends.1

pub ends_by : (f : ServeFault) (full : List Turn) (last : List Heard) → EndsAs (fault_end f) (length full) 1 last → EndsTurn (of_serving f) (of_turns full ++ last) (is_fed (fault_end f))
ends_by (serve_fault.Node f) full last ends = (failed_turn full last ends, refl)
ends_by serve_fault.Link full last ends = (ap (λ (l : List Turn). of_turns l ++ last) (no_turn full ends.0) ∙ ends.1, refl)
ends_by serve_fault.Memory full last ends = inl (failed_turn full last ends, refl)

-- a whole turn, for whose body there was no memory
pub ends_whole : (full : List Turn) (last : List Heard) → EndsAs Whole (length full) 1 last → EndsTurn restore_fault.Memory (of_turns full ++ last) true
ends_whole full last ends =
    let one = one_turn full ends.0 in
    inr ((one.0, ap (λ (l : List Turn). of_turns l ++ last) one.1 ∙ ap (λ (l : List Heard). of_turns (one.0 ∷ []) ++ l) ends.1), refl)

-- the peers that a node keeps are those of the settings
pub kept_peers : {L : Type 0} (node : Node L) (n : Situation) (steps : List Step) (st : Settings) → (state n.history).settings ≡ Some st → Knows node (after_all n steps) → node.peers ≡ peers_of st
kept_peers node n steps st is k =
    let same : k.settings.settings ≡ st = same_some (state (after_all n steps).history).settings k.settings.settings st k.settings.present (all_stay n steps ∙ is) in
    k.settings.peers ∙ ap peers_of same

pub sound : (f : ServeFault) (e : RestoreFault) (b : Bool) → e ≡ of_serving f → ((f ≡ serve_fault.Memory) ⊎ (f ≡ serve_fault.Link) → b ≡ false) → b ≡ true → failed_in e ≡ TheDisk
sound (serve_fault.Node f) e b is unbroken broke = ap failed_in is
sound serve_fault.Link e b is unbroken broke = absurd (false≢true (sym (unbroken (inr refl)) ∙ broke))
sound serve_fault.Memory e b is unbroken broke = absurd (false≢true (sym (unbroken (inl refl)) ∙ broke))

module _ {L : Type 0} (holds : L → List Entry → List ℕ → Type 0) (stands : List Entry → List ℕ → Type 0) (broken : L → Bool) (law : (log : L) (es : List Entry) (c : List ℕ) → holds log es c → stands es c) where
  pub hears_turn : (w0 w1 : Waiting) (n0 n1 : Node L) (v0 v1 : View) (r : Ref) (datagram : Option (List ℕ)) (counts : Option Tally) (b : Brought) (peers : List ℕ) → peers ≡ w0.peers → IsStill w0 w1 → (Tells_bytes v1 → Tells_bytes v0) → Counts v0 v1 → broken n1.log ≡ false
      → MadeTurn holds stands broken peers w0.clock w1.clock n0 n1 v0 v1 counts Whole datagram → IsBrought r (came_in n1.peers r.name datagram) b → HearsTurn holds stands broken w0 w1 n0 n1 v0 v1 r b
  hears_turn w0 w1 n0 n1 v0 v1 r datagram counts b peers asked still tells no_fall sound_log made is =
      let ran = made.ran in
      let one = one_turn ran.full ran.ended.0 in
      let t = one.0 in
      let heard_is : of_turns ran.full ++ ran.last ≡ of_turn t = ap (λ (l : List Turn). of_turns l ++ ran.last) one.1 ∙ ap (λ (l : List Heard). of_turns (t ∷ []) ++ l) ran.ended.1 in
      let came : t.came ≡ datagram = same_one t.came datagram (ap (map (λ (u : Turn). u.came)) (sym one.1) ∙ made.came_in) in
      record {
        turn = t;
        came = came_in n1.peers r.name datagram;
        run = record {
          hears = subst (λ (l : List Heard). Hears v0 v1 [] l) heard_is ran.hears;
          clock_is = ran.clock_is ∙ ap (clock_of w0.clock) heard_is;
          still = still;
          tells = tells;
          counts = no_fall;
        };
        is = is;
        fed = λ told n st begins.
            let fed : Fed holds stands broken n0 n1 v0 v1 n (steps_of peers w0.clock (of_turns ran.full ++ ran.last)) counts true = (ran.fed told n begins.knows begins.stored).fed in
            let bare = uncounted holds stands broken law n0 n1 v0 v1 n _ counts true fed in
            let by_turn : Fed holds stands broken n0 n1 v0 v1 n (steps_of peers w0.clock (of_turn t)) None true = subst (λ (l : List Heard). Fed holds stands broken n0 n1 v0 v1 n (steps_of peers w0.clock l) None true) heard_is bare in
            let mine : n1.peers ≡ peers_of st = kept_peers n1 n fed.done st begins.settings_are (fed.knows sound_log) in (
              subst (λ (l : List ℕ). Fed holds stands broken n0 n1 v0 v1 n (steps_of l w0.clock (of_turn t)) None true) (asked ∙ begins.peers_are) by_turn,
              heard_answers st r.name t.came t.time ∙ ap (λ (o : Option (List ℕ)). listed (came_in (peers_of st) r.name o)) came ∙ ap (λ (p : PeersView). listed (came_in p r.name datagram)) (sym mine),
            );
      }

  pub hears_part : (w0 w1 : Waiting) (n0 n1 : Node L) (v0 v1 : View) (datagram : Option (List ℕ)) (counts : Option Tally) (end : End) (e : RestoreFault) (peers : List ℕ) → peers ≡ w0.peers → IsStill w0 w1 → (Tells_bytes v1 → Tells_bytes v0) → Counts v0 v1
      → (broken n1.log ≡ true → failed_in e ≡ TheDisk) → ((full : List Turn) (last : List Heard) → EndsAs end (length full) 1 last → EndsTurn e (of_turns full ++ last) (is_fed end))
      → MadeTurn holds stands broken peers w0.clock w1.clock n0 n1 v0 v1 counts end datagram → HearsPart holds stands broken w0 w1 n0 n1 v0 v1 e
  hears_part w0 w1 n0 n1 v0 v1 datagram counts end e peers asked still tells no_fall unbroken ends made =
      let ran = made.ran in
      let heard = of_turns ran.full ++ ran.last in
      record {
        heard = heard;
        ok = is_fed end;
        ends = ends ran.full ran.last ran.ended;
        run = record { hears = ran.hears; clock_is = ran.clock_is; still = still; tells = tells; counts = no_fall };
        unbroken = unbroken;
        fed = λ told n st begins.
            subst (λ (l : List ℕ). FedBy holds stands broken n0 n1 v0 v1 n l w0.clock heard (steps_of l w0.clock heard) None (is_fed end)) (asked ∙ begins.peers_are)
            (by_uncounted holds stands broken law n0 n1 v0 v1 n peers w0.clock heard (steps_of peers w0.clock heard) counts (is_fed end) (ran.fed told n begins.knows begins.stored));
      }
