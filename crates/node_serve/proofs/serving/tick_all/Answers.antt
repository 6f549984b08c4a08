use Rattle.std.proofs.Common.{◌≡◌, ⊎_elim, inl, inr, ℕ, ◌+◌, ◌++◌, List, [], ◌∷◌, take, drop, Option, Some, None, Err, true, false, refl, sym, ap, subst, ◌∙◌, rules, arith}
use Rattle.std.proofs.lemmas.List.{take_more, take-append-drop}
use Rattle.psb_machine.specs.Machine.{Tick}
use Rattle.psb_machine.specs.Commands.{ticks}
use Rattle.node_serve.specs.Spans.{Fed, Tally, tally_sum}
use Rattle.node_history.proofs.Presence.{err_is}
use Rattle.node_serve.specs.Turns.{turn_tally, serve_fault_of}
use Rattle.node_serve.proofs.OneTurn.{only_then, ticks-append, tick_more}
use Rattle.node_serve.proofs.Runs.{counts_same, counts_then, fed_none, fed_cut, fed_as}
use Rattle.node_serve.proofs.serving.tick_all.Goals as goal

pub loop-peer-init : goal.loop-peer-init
loop-peer-init g c = record {
  fed = λ tells n k st. fed_none g.L.Log.holds g.L.Log.stands g.L.Log.is_broken g.met.L.Log.holds_stands c.args.node.now n (g.S.Disk.view c.args.station.now) k st;
  tells = λ tells. tells;
  only_sends = refl;
  ready = c.requires.ready;
  counts = counts_same (g.S.Disk.view c.args.station.now);
  steady = refl;
  whole = c.requires.whole;
  counted = c.requires.counted;
  small = omega arith;
  few = omega arith;
}

pub returns-in-Err-clause-fed : goal.returns-in-Err-clause-fed
returns-in-Err-clause-fed g c = λ tells n k st.
    let v0 = g.S.Disk.view c.args.station.now in
    let v1 = g.S.Disk.view c.loop-peer.station in
    let v2 = g.S.Disk.view c.feed.new.station in
    let i = c.loop-peer.peer-index in
    let peers = c.args.peers.now in
    let p = c.peer-item.result in
    let more : take i peers ++ p ∷ [] ≡ take (i + 1) peers = sym (take_more peers i p c.loop-peer-test.true ∙ ap (λ (q : ℕ). take i peers ++ q ∷ []) (sym c.peer-item.is)) in
    let mid = c.feed.ensures.tells tells in
    let t : Option Tally = Some (turn_tally c.loop-peer.sum) in
    let r = tick_more g.L.Log.holds g.L.Log.stands g.L.Log.is_broken g.met.L.Log.holds_stands c.args.node.now c.loop-peer.node c.feed.new.node v0 v1 v2 n (take i peers) p (Tick p) t None false refl c.loop-peer.invariant.whole (c.loop-peer.invariant.fed mid n k st)
    (λ m known held. c.in-Err.ensures.fed tells m known held) in
    fed_as g.L.Log.holds g.L.Log.stands g.L.Log.is_broken g.met.L.Log.holds_stands c.args.node.now c.feed.new.node v0 v2 n (ticks (take i peers ++ p ∷ []) ++ ticks (drop (i + 1) peers)) (ticks peers) None false
    (ap (λ (l : List ℕ). ticks l ++ ticks (drop (i + 1) peers)) more ∙ sym (ticks-append (take (i + 1) peers) (drop (i + 1) peers)) ∙ ap ticks (take-append-drop (i + 1) peers))
    (fed_cut g.L.Log.holds g.L.Log.stands g.L.Log.is_broken g.met.L.Log.holds_stands c.args.node.now c.feed.new.node v0 v2 n (ticks (take i peers ++ p ∷ [])) (ticks (drop (i + 1) peers)) None r)

pub returns-in-Err-clause-steady : goal.returns-in-Err-clause-steady
returns-in-Err-clause-steady g c =
    let from : c.from.result ≡ serve_fault_of c.in-Err.fault = search rules in
    ⊎_elim (λ bad. inl (ap (λ f. Err f) (from ∙ ap serve_fault_of (err_is _ _ bad)))) (λ same. inr (same ∙ c.loop-peer.invariant.steady)) c.in-Err.ensures.steady

pub returns-clause-steady : goal.returns-clause-steady
returns-clause-steady g c = inr c.loop-peer.invariant.steady

pub loop-peer-preserved : goal.loop-peer-preserved
loop-peer-preserved g c =
    let v0 = g.S.Disk.view c.args.station.now in
    let v1 = g.S.Disk.view c.loop-peer.station in
    let v2 = g.S.Disk.view c.feed.new.station in
    let i = c.loop-peer.peer-index in
    let peers = c.args.peers.now in
    let p = c.peer-item.result in
    let more : take i peers ++ p ∷ [] ≡ take (i + 1) peers = sym (take_more peers i p c.loop-peer-test.true ∙ ap (λ (q : ℕ). take i peers ++ q ∷ []) (sym c.peer-item.is)) in
    let t : Tally = turn_tally c.loop-peer.sum in
    let u : Tally = turn_tally c.in-Ok.turned in
    record {
      fed = λ tells n k st.
          subst (λ (l : List ℕ). Fed g.L.Log.holds g.L.Log.stands g.L.Log.is_broken c.args.node.now c.feed.new.node v0 v2 n (ticks l) (Some (tally_sum t u)) true) more
          (tick_more g.L.Log.holds g.L.Log.stands g.L.Log.is_broken g.met.L.Log.holds_stands c.args.node.now c.loop-peer.node c.feed.new.node v0 v1 v2 n (take i peers) p (Tick p) (Some t) (Some u) true refl c.loop-peer.invariant.whole (c.loop-peer.invariant.fed (c.feed.ensures.tells tells) n k st)
          (λ m known held. c.in-Ok.ensures.fed tells m known held));
      tells = λ tells. c.loop-peer.invariant.tells (c.feed.ensures.tells tells);
      only_sends = only_then v0 v1 v2 c.loop-peer.invariant.only_sends c.feed.ensures.only_sends;
      ready = c.in-Ok.ensures.ready;
      steady = ⊎_elim (λ bad. absurd (cc (bad))) (λ same. same ∙ c.loop-peer.invariant.steady) c.in-Ok.ensures.steady;
      counts = counts_then v0 v1 v2 c.loop-peer.invariant.counts c.in-Ok.ensures.counts;
      whole = c.in-Ok.ensures.whole;
      counted = c.in-Ok.ensures.counted;
      small = omega (arith, c.loop-peer.invariant.small, c.in-Ok.ensures.small.0);
      few = omega (arith, c.loop-peer.invariant.few, c.in-Ok.ensures.small.1);
    }
