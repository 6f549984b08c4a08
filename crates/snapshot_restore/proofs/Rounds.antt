-- A turn of a place, with the Gets in front of it.
use Rattle.std.proofs.Common.{◌≡◌, inl, inr, ℕ, Bool, true, false, List, [], ◌∷◌, ◌++◌, Option, Some, None, refl, sym, ◌∙◌, ap, subst}
use Rattle.std.proofs.lemmas.Bool.{false≢true}
use Rattle.std.proofs.lemmas.List.{append-nil}
use Rattle.psb_bytes.specs.declared.ids.Ref.{Ref}
use Rattle.psb_station.specs.View.{View, Outside, Heard}
use Rattle.psb_station.specs.Calls.{Grows}
use Rattle.psb_station.specs.Span.{Tells_bytes}
use Rattle.node_journal.specs.Entry.{Entry}
use Rattle.psb_settings.specs.declared.settings.Settings.{Settings}
use Rattle.psb_machine.specs.Machine.{Situation}
use Rattle.psb_machine.specs.Course.{Step, after_all}
use Rattle.psb_machine.specs.Commands.{peer_ids}
use Rattle.psb_machine.proofs.SettingsStay.{all_stay}
use Rattle.node_core.specs.declared.node.Node.{Node}
use Rattle.node_serve.specs.Hears.{Hears, steps_of, of_turn}
use Rattle.node_serve.specs.Spans.{Counts, no_tally, Fed, FedBy}
use Rattle.node_serve.specs.Turns.{OnlySends}
use Rattle.node_serve.proofs.Tries.{grows_none}
use Rattle.node_serve.proofs.Runs.{counts_same, counts_then, hears_none, hears_then, fed_none, fed_then, uncounted, by_whole, by_then, by_as}
use Rattle.snapshot_restore.specs.Course.{gets_at, round_steps}
use Rattle.snapshot_restore.specs.Fetching.{Begins, Runs, Asks, HearsTurn, HearsPart, MakesRound, StopsRound}
use Rattle.snapshot_restore.specs.declared.fault.RestoreFault.{RestoreFault}
use Rattle.snapshot_restore.specs.declared.fault.RestoreFault.TheVariants as restore_fault
use Rattle.snapshot_restore.specs.declared.waiting.Waiting.{Waiting}
use Rattle.snapshot_restore.specs.declared.waiting.Brought.{Brought}

pub grows_same : {A : Type 0} (old new : Option (List A)) → new ≡ old → Grows old new []
grows_same old new is = subst (λ (o : Option (List _)). Grows old o []) (sym is) (grows_none old)

-- nothing is heard while Gets are sent
pub hears_asked : (v0 v1 : View) → OnlySends v0 v1 → Hears v0 v1 [] []
hears_asked v0 v1 sends = record {
  heard = grows_same v0.outside.heard v1.outside.heard (ap (λ (o : Outside). o.heard) sends);
  joined = grows_same v0.outside.joined v1.outside.joined (ap (λ (o : Outside). o.joined) sends);
}

-- ---- runs that wait

pub runs_none : (w : Waiting) (v : View) → Runs w w v v []
runs_none w v = record { hears = hears_none v; clock_is = refl; still = record { peers = refl; turns = refl }; tells = λ told. told; counts = counts_same v }

-- what is sent in front
pub runs_asked : (w0 w1 : Waiting) (v0 v1 v2 : View) (heard : List Heard) → OnlySends v0 v1 → (Tells_bytes v1 → Tells_bytes v0) → Counts v0 v1 → Runs w0 w1 v1 v2 heard → Runs w0 w1 v0 v2 heard
runs_asked w0 w1 v0 v1 v2 heard sends tells counts r = record {
  hears = hears_then v0 v1 v2 [] [] [] heard (hears_asked v0 v1 sends) r.hears;
  clock_is = r.clock_is;
  still = r.still;
  tells = λ told. tells (r.tells told);
  counts = counts_then v0 v1 v2 counts r.counts;
}

-- what was heard by another name
pub runs_as : (w0 w1 : Waiting) (v0 v1 : View) (heard other : List Heard) → heard ≡ other → Runs w0 w1 v0 v1 heard → Runs w0 w1 v0 v1 other
runs_as w0 w1 v0 v1 heard other is r = subst (λ (l : List Heard). Runs w0 w1 v0 v1 l) is r

module _ {L : Type 0} (holds : L → List Entry → List ℕ → Type 0) (stands : List Entry → List ℕ → Type 0) (broken : L → Bool) (law : (log : L) (es : List Entry) (c : List ℕ) → holds log es c → stands es c) where
  -- where one run ended, another begins
  pub begins_then : (p0 p1 : List ℕ) (n0 n1 : Node L) (v0 v1 : View) (n : Situation) (st : Settings) (course : List Step) (ok : Bool) → p1 ≡ p0 → broken n1.log ≡ false → Begins holds p0 n0 v0 n st
      → (r : Fed holds stands broken n0 n1 v0 v1 n course None ok) → Begins holds p1 n1 v1 (after_all n r.done) st
  begins_then p0 p1 n0 n1 v0 v1 n st course ok same sound b r = record {
    knows = r.knows sound;
    stored = r.stored sound;
    settings_are = all_stay n r.done ∙ b.settings_are;
    peers_are = same ∙ b.peers_are;
  }

  -- a course after Gets
  after_asks : (peers : List ℕ) (n0 n1 : Node L) (v0 v1 v2 : View) (name : List ℕ) (i : ℕ) (n : Situation) (st : Settings) → broken n0.log ≡ false → Begins holds peers n0 v0 n st → Asks holds stands broken n0 v0 v1 name i → Tells_bytes v1
      → (r : Fed holds stands broken n0 n0 v0 v1 n (gets_at st name i) None true) × Begins holds peers n0 v1 (after_all n r.done) st
  after_asks peers n0 n1 v0 v1 v2 name i n st sound b a told =
      let r = a.fed told n st b.knows b.settings_are b.stored in
      (r, begins_then peers peers n0 n0 v0 v1 n st (gets_at st name i) true refl sound b r)

  pub makes_round : (w0 w1 : Waiting) (n0 n1 : Node L) (v0 v1 v2 : View) (r : Ref) (i : ℕ) (b : Brought) → broken n0.log ≡ false → Asks holds stands broken n0 v0 v1 r.name i → HearsTurn holds stands broken w0 w1 n0 n1 v1 v2 r b
      → MakesRound holds stands broken w0 w1 n0 n1 v0 v2 r i b
  makes_round w0 w1 n0 n1 v0 v1 v2 r i b sound a h = record {
    turn = h.turn;
    came = h.came;
    run = runs_asked w0 w1 v0 v1 v2 (of_turn h.turn) a.only_sends a.tells a.counts h.run;
    is = h.is;
    fed = λ told n st begins.
        let first = after_asks w0.peers n0 n1 v0 v1 v2 r.name i n st sound begins a (h.run.tells told) in
        let then_ = h.fed told (after_all n first.0.done) st first.1 in
        (fed_then holds stands broken law n0 n0 n1 v0 v1 v2 n (gets_at st r.name i) (steps_of (peer_ids st) w0.clock (of_turn h.turn)) None None true first.0 then_.0, then_.1);
  }

  pub stops_round : (w0 w1 : Waiting) (n0 n1 : Node L) (v0 v1 v2 : View) (r : Ref) (i : ℕ) (e : RestoreFault) → broken n0.log ≡ false → Asks holds stands broken n0 v0 v1 r.name i → HearsPart holds stands broken w0 w1 n0 n1 v1 v2 e
      → StopsRound holds stands broken w0 w1 n0 n1 v0 v2 r i e
  stops_round w0 w1 n0 n1 v0 v1 v2 r i e sound a h = record {
    part = h.heard ∷ [];
    ok = h.ok;
    ends = inl (h.heard, refl, h.ends);
    run = runs_as w0 w1 v0 v2 h.heard (h.heard ++ []) (sym (append-nil h.heard)) (runs_asked w0 w1 v0 v1 v2 h.heard a.only_sends a.tells a.counts h.run);
    unbroken = h.unbroken;
    fed = λ told n st begins.
        let first = after_asks w0.peers n0 n1 v0 v1 v2 r.name i n st sound begins a (h.run.tells told) in
        let then_ = h.fed told (after_all n first.0.done) st first.1 in
        let steps = round_steps st r.name w0.clock i h.heard in
        subst (λ (l : List Heard). FedBy holds stands broken n0 n1 v0 v2 n (peer_ids st) w0.clock l (steps ++ []) None h.ok) (sym (append-nil h.heard))
        (by_as holds stands broken law n0 n1 v0 v2 n (peer_ids st) w0.clock h.heard steps (steps ++ []) None h.ok (sym (append-nil steps))
        (by_then holds stands broken law n0 n0 n1 v0 v1 v2 n (peer_ids st) w0.clock [] h.heard (gets_at st r.name i) (steps_of (peer_ids st) w0.clock h.heard) None None h.ok first.0 then_));
  }

  -- there was no memory for the Gets
  pub unbegun_round : (w : Waiting) (node : Node L) (v : View) (r : Ref) (i : ℕ) (e : RestoreFault) → broken node.log ≡ false → e ≡ restore_fault.Memory → StopsRound holds stands broken w w node node v v r i e
  unbegun_round w node v r i e sound memory = record {
    part = [];
    ok = true;
    ends = inr (memory, refl, refl);
    run = runs_none w v;
    unbroken = λ broke. absurd (false≢true (sym sound ∙ broke));
    fed = λ told n st begins.
        by_whole holds stands broken law node node v v n (peer_ids st) w.clock [] [] None
        (uncounted holds stands broken law node node v v n [] (Some no_tally) true (fed_none holds stands broken law node n v begins.knows begins.stored));
  }
