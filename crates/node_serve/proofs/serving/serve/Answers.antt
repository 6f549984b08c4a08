use Rattle.std.proofs.Common.{◌≡◌, ◌≤◌, ⊎_elim, inl, inr, ℕ, ◌+◌, List, length, Some, None, refl, sym, subst, ap, arith, ◌∙◌}
use Rattle.node_serve.specs.Hears.{Whole, Unbegun}
use Rattle.node_serve.specs.Spans.{RanTurns, Tally, tally_sum}
use Rattle.node_serve.specs.Turns.{peers_in, turn_tally, total_tally, fault_end}
use Rattle.node_serve.proofs.Runs.{counts_same, counts_then, fault_begun, fault_early, fault_is, turns_none, turns_more, turns_within, turns_unbegun}
use Rattle.node_serve.proofs.Joined.{few_peers}
use Rattle.node_serve.proofs.Justly.{served_justly}
use Rattle.node_serve.proofs.serving.serve.Goals as goal

pub returns-in-Err-clause-ran : goal.returns-in-Err-clause-ran
returns-in-Err-clause-ran g c = (Unbegun, inr refl, 0, turns_unbegun g.L.Log.holds g.L.Log.stands g.L.Log.is_broken g.met.L.Log.holds_stands (peers_in c.args.node.now.ledger.state.settings) 0 c.args.node.now (g.S.Disk.view c.args.station.now) c.args.turns)

pub returns-in-Err-peers_of-clause-ran : goal.returns-in-Err-peers_of-clause-ran
returns-in-Err-peers_of-clause-ran g c = (Unbegun, inr refl, 0, turns_unbegun g.L.Log.holds g.L.Log.stands g.L.Log.is_broken g.met.L.Log.holds_stands (peers_in c.args.node.now.ledger.state.settings) 0 c.args.node.now (g.S.Disk.view c.args.station.now) c.args.turns)

pub turn-requires-clause-few : goal.turn-requires-clause-few
turn-requires-clause-few g c =
    let n = c.requires.ready in
    let same = c.as_slice.ensures ∙ c.in-Ok-peers_of.ensures.ids in
    omega (arith, few_peers c.args.node.now n.0 n.1, ap length same)

pub loop-turn-init : goal.loop-turn-init
loop-turn-init g c = record {
  ran = turns_none g.L.Log.holds g.L.Log.stands g.L.Log.is_broken g.met.L.Log.holds_stands (peers_in c.args.node.now.ledger.state.settings) 0 c.args.node.now (g.S.Disk.view c.args.station.now);
  tells = λ tells. tells;
  ready = c.requires.ready;
  counts = counts_same (g.S.Disk.view c.args.station.now);
  unsaid = refl;
  disk = refl;
  link = refl;
  whole = c.requires.whole;
  counted = c.requires.counted;
  turns = refl;
  small = omega arith;
  few = omega arith;
}

pub returns-in-Err-turn-clause-ran : goal.returns-in-Err-turn-clause-ran
returns-in-Err-turn-clause-ran g c =
    let v0 = g.S.Disk.view c.args.station.now in
    let v1 = g.S.Disk.view c.loop-turn.station in
    let v2 = g.S.Disk.view c.turn.new.station in
    let i = c.loop-turn._turn in
    let f = c.in-Err-turn.fault in
    let all_peers = peers_in c.args.node.now.ledger.state.settings in
    let same : c.as_slice.result.now ≡ all_peers = c.as_slice.ensures ∙ c.in-Ok-peers_of.ensures.ids in
    let ran_with = subst (λ (l : List ℕ). RanTurns g.L.Log.holds g.L.Log.stands g.L.Log.is_broken l c.loop-turn.clock c.turn.new.clock c.loop-turn.node c.turn.new.node v1 v2 1 None (fault_end f)) same in
    let inside : i + 1 ≤ c.args.turns = omega (arith, c.loop-turn-test.true) in (
      fault_end f,
      fault_is f,
      c.turn.new.clock,
      turns_within g.L.Log.holds g.L.Log.stands g.L.Log.is_broken g.met.L.Log.holds_stands all_peers 0 c.turn.new.clock c.args.node.now c.turn.new.node v0 v2 (i + 1) c.args.turns None (fault_end f) (fault_early f) inside
          (turns_more g.L.Log.holds g.L.Log.stands g.L.Log.is_broken g.met.L.Log.holds_stands all_peers 0 c.loop-turn.clock c.turn.new.clock c.args.node.now c.loop-turn.node c.turn.new.node v0 v1 v2 i (Some (total_tally c.loop-turn.total)) None (fault_end f) (fault_begun f) c.loop-turn.invariant.whole c.turn.ensures.tells c.loop-turn.invariant.ran (ran_with c.in-Err-turn.ensures.ran.ran)),
    )

pub returns-in-Err-turn-clause-steady : goal.returns-in-Err-turn-clause-steady
returns-in-Err-turn-clause-steady g c = ⊎_elim (λ bad. inl (cc (bad))) (λ same. inr (same ∙ c.loop-turn.invariant.disk)) c.in-Err-turn.ensures.steady

pub returns-in-Err-turn-clause-link : goal.returns-in-Err-turn-clause-link
returns-in-Err-turn-clause-link g c = ⊎_elim (λ bad. inl (cc (bad))) (λ same. inr (same ∙ c.loop-turn.invariant.link)) c.in-Err-turn.ensures.link

pub returns-clause-steady : goal.returns-clause-steady
returns-clause-steady g c = inr c.loop-turn.invariant.disk

pub returns-clause-link : goal.returns-clause-link
returns-clause-link g c = inr c.loop-turn.invariant.link

pub loop-turn-preserved : goal.loop-turn-preserved
loop-turn-preserved g c =
    let v0 = g.S.Disk.view c.args.station.now in
    let v1 = g.S.Disk.view c.loop-turn.station in
    let v2 = g.S.Disk.view c.turn.new.station in
    let i = c.loop-turn._turn in
    let t : Tally = total_tally c.loop-turn.total in
    let u : Tally = turn_tally c.in-Ok-turn.turned in
    let all_peers = peers_in c.args.node.now.ledger.state.settings in
    let same : c.as_slice.result.now ≡ all_peers = c.as_slice.ensures ∙ c.in-Ok-peers_of.ensures.ids in
    let ran_with = subst (λ (l : List ℕ). RanTurns g.L.Log.holds g.L.Log.stands g.L.Log.is_broken l c.loop-turn.clock c.turn.new.clock c.loop-turn.node c.turn.new.node v1 v2 1 (Some u) Whole) same in
    let sum : tally_sum t u ≡ record { taken = t.taken + c.from.result; dropped = t.dropped + c.from-in-loop-turn.result; lost = t.lost + c.from-in-loop-turn-2.result } =
    λ j. record { taken = t.taken + sym c.from.ensures j; dropped = t.dropped + sym c.from-in-loop-turn.ensures j; lost = t.lost + sym c.from-in-loop-turn-2.ensures j } in
    record {
      ran =
          subst (λ (s : Tally). RanTurns g.L.Log.holds g.L.Log.stands g.L.Log.is_broken all_peers 0 c.turn.new.clock c.args.node.now c.turn.new.node v0 v2 (i + 1) (Some s) Whole) sum
          (turns_more g.L.Log.holds g.L.Log.stands g.L.Log.is_broken g.met.L.Log.holds_stands all_peers 0 c.loop-turn.clock c.turn.new.clock c.args.node.now c.loop-turn.node c.turn.new.node v0 v1 v2 i (Some t) (Some u) Whole tt c.loop-turn.invariant.whole c.turn.ensures.tells c.loop-turn.invariant.ran (ran_with c.in-Ok-turn.ensures.ran.ran));
      tells = λ tells. c.loop-turn.invariant.tells (c.turn.ensures.tells tells);
      ready = c.in-Ok-turn.ensures.ready;
      counts = counts_then v0 v1 v2 c.loop-turn.invariant.counts c.in-Ok-turn.ensures.counts;
      unsaid = c.in-Ok-turn.ensures.unsaid ∙ c.loop-turn.invariant.unsaid;
      disk = ⊎_elim (λ bad. absurd (cc (bad))) (λ same. same ∙ c.loop-turn.invariant.disk) c.in-Ok-turn.ensures.steady;
      link = ⊎_elim (λ bad. absurd (cc (bad))) (λ same. same ∙ c.loop-turn.invariant.link) c.in-Ok-turn.ensures.link;
      whole = c.in-Ok-turn.ensures.whole;
      counted = c.in-Ok-turn.ensures.counted;
      turns = c.loop-turn.invariant.turns;
      small = omega (arith, c.loop-turn.invariant.small, c.in-Ok-turn.ensures.small.0, c.from.ensures, c.from-in-loop-turn.ensures);
      few = omega (arith, c.loop-turn.invariant.few, c.in-Ok-turn.ensures.small.1, c.from-in-loop-turn-2.ensures);
    }

pub returns-clause-ran : goal.returns-clause-ran
returns-clause-ran g c =
    let v0 = g.S.Disk.view c.args.station.now in
    let v1 = g.S.Disk.view c.loop-turn.station in
    let t : Tally = total_tally c.loop-turn.total in
    let all : c.loop-turn._turn ≡ c.args.turns = omega (arith, c.loop-turn-test.false, c.loop-turn.auto._turn-end) in (
      Whole,
      refl,
      c.loop-turn.clock,
      subst (λ (i : ℕ). RanTurns g.L.Log.holds g.L.Log.stands g.L.Log.is_broken (peers_in c.args.node.now.ledger.state.settings) 0 c.loop-turn.clock c.args.node.now c.loop-turn.node v0 v1 i (Some t) Whole) all c.loop-turn.invariant.ran,
    )

pub returns-in-Err-clause-just : goal.returns-in-Err-clause-just
returns-in-Err-clause-just g c = λ whole tells h k s.
    let r = returns-in-Err-clause-ran g c in
    served_justly g.L.Log.holds g.L.Log.stands g.L.Log.is_broken _ _ _ _ _ _ _ _ _ _ r.3 whole tells h k s

pub returns-in-Err-peers_of-clause-just : goal.returns-in-Err-peers_of-clause-just
returns-in-Err-peers_of-clause-just g c = λ whole tells h k s.
    let r = returns-in-Err-peers_of-clause-ran g c in
    served_justly g.L.Log.holds g.L.Log.stands g.L.Log.is_broken _ _ _ _ _ _ _ _ _ _ r.3 whole tells h k s

pub returns-in-Err-turn-clause-just : goal.returns-in-Err-turn-clause-just
returns-in-Err-turn-clause-just g c = λ whole tells h k s.
    let r = returns-in-Err-turn-clause-ran g c in
    served_justly g.L.Log.holds g.L.Log.stands g.L.Log.is_broken _ _ _ _ _ _ _ _ _ _ r.3 whole tells h k s

pub returns-clause-just : goal.returns-clause-just
returns-clause-just g c = λ whole tells h k s.
    let r = returns-clause-ran g c in
    served_justly g.L.Log.holds g.L.Log.stands g.L.Log.is_broken _ _ _ _ _ _ _ _ _ _ r.3 whole tells h k s
