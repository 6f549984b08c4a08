use Rattle.std.proofs.Common.{◌≡◌, Option, inl, inr, ◌≤◌, ℕ, ◌+◌, length, true, refl, sym, ◌∙◌, ap, subst, arith, rules}
use Rattle.std.proofs.lemmas.Bool.{false≢true}
use Rattle.psb_settings.specs.declared.settings.PeerRow.{PeerRow}
use Rattle.psb_model.specs.State.{State}
use Rattle.psb_ledger.specs.View.{LedgerView}
use Rattle.psb_model.specs.Conditions.{peer_of as change_of, allowed}
use Rattle.psb_model.proofs.Prefixes.{changes_counted, state_snoc}
use Rattle.slot_places.specs.Moves.{IsMoved}
use Rattle.node_history.specs.Names.{Enters, Enter}
use Rattle.node_history.proofs.Entered.{names_same, is_new, enters_after, there_same, there_grown}
use Rattle.node_history.proofs.Ordering.{IsOrdered, ordered_state}
use Rattle.psb_station.proofs.Spans.{shows_wider}
use Rattle.psb_model.specs.Effects.{after}
use Rattle.psb_model.specs.Heads.{head_of}
use Rattle.psb_machine.specs.Volatile.{Note}
use Rattle.peer_states.specs.PeerStates.{states_noted, states_changed, states_probed}
use Rattle.node_core.proofs.Committing.{knows_still, counted_still, step_knows, step_stored, step_leaves, stored_room}
use Rattle.node_history.proofs.Presence.{on_err}
use Rattle.node_core.proofs.LogFaults.{log_failed}
use Rattle.node_core.proofs.node.Node.commit.Goals as goal

pub ready-requires-clause-own : goal.ready-requires-clause-own
ready-requires-clause-own g c =
    let n = c.requires.known.0 in
    let k = c.requires.known.1 in
    (subst IsOrdered (sym k.ledger) (ordered_state n.history k.valid.lawful)).own

pub ready-requires-clause-kept : goal.ready-requires-clause-kept
ready-requires-clause-kept g c =
    let n = c.requires.known.0 in
    let k = c.requires.known.1 in
    (subst IsOrdered (sym k.ledger) (ordered_state n.history k.valid.lawful)).kept

pub enter-requires-clause-fresh : goal.enter-requires-clause-fresh
enter-requires-clause-fresh g c =
    let n = c.requires.known.0 in
    let k = c.requires.known.1 in
    let node = c.args.self.now in
    is_new c.ready.new.names n.history node.ledger.state c.args.change c.in_ok-entering.entering.names (names_same node.names c.ready.new.names n.history (c.ready.ensures.names) k.names) k.ledger c.requires.may.may c.in_ok-entering.ensures.entering

pub returns-in_err-entering-clause-kept : goal.returns-in_err-entering-clause-kept
returns-in_err-entering-clause-kept g c = on_err c.from_residual-in_err-entering.result _ (λ whole. (
  λ n k. knows_still c.args.self.now _ n c.ready.ensures.state (c.ready.ensures.names) c.ready.ensures.slots (record { peers = refl; seed = refl; issued = omega arith }) refl (λ q. q) k,
  λ tells h s. stored_room g.L.Log.holds c.args.self.now _ h _ c.ready.ensures.holds s,
))

pub returns-in_err-entering-clause-again : goal.returns-in_err-entering-clause-again
returns-in_err-entering-clause-again g c = on_err c.from_residual-in_err-entering.result _ (λ whole. counted_still g.L.Log.size g.L.Log.keeps_body c.args.self.now _ c.ready.ensures.state (c.ready.ensures.names) c.ready.ensures.slots c.ready.ensures.size c.ready.ensures.bodies c.requires.counted)

pub returns-in_err-number-clause-any_moment : goal.returns-in_err-number-clause-any_moment
returns-in_err-number-clause-any_moment g c = λ tells n m valid step s.
    let head_is : c.deref.result.now ≡ head_of c.args.change = search rules in
    step_leaves g.L.Log.holds g.L.Log.stands c.args.self.now n m c.args.change c.deref.result.now c.body_part-body.result.now _ _ _ _ c.requires.may valid step head_is c.body_part-body.ensures s
    (c.in_err-number.ensures.any_moment (c.ready.ensures.broken ∙ c.requires.whole) tells s.records (shows_wider (g.L.Log.holds c.args.self.now.log s.records) (g.L.Log.holds c.ready.new.log s.records) _ (λ i held. c.ready.ensures.holds s.records i held) s.shows))

pub returns-clause-step : goal.returns-clause-step
returns-clause-step g c = λ n m k step note.
    let grown : c.apply.new.self.state ≡ after c.args.self.now.ledger.state c.args.change = search rules in
    let issued : c.apply.new.self.state.issued ≤ c.issue_to.new.claims.issued = omega (arith, c.issued.ensures, ap (λ (v : LedgerView). v.state.issued) c.ledger-left.ensures, c.issue_to.ensures.issued) in
    let entered = enters_after c.args.self.now.ledger.state c.apply.new.self.state n.history c.ready.new.names c.enter.new.names c.args.change c.in_ok-entering.entering.names c.in_ok-number.number k.ledger k.valid.lawful grown c.in_ok-entering.ensures.entering (subst (λ (v : LedgerView). Enter v.state.own c.ready.new.names c.enter.new.names c.in_ok-entering.entering.names c.in_ok-number.number) c.ledger-left.ensures c.enter.ensures.names) in
    let h = n.history in
    let here : c.in_ok-number.number ≡ length h = c.in_ok-number.ensures.number ∙ c.ready.ensures.size ∙ sym c.requires.counted.changes ∙ ap (λ (s : State). s.changes) k.ledger ∙ changes_counted h in
    let slots = c.enter.ensures.slots h c.args.change (subst (λ (s : State). allowed s c.args.change ≡ true) k.ledger c.requires.may.may) (subst (λ (s : State). IsMoved s c.args.change c.in_ok-entering.entering.slots) k.ledger c.in_ok-entering.ensures.moved)
    (ap (λ (v : LedgerView). v.state) c.ledger-left.ensures ∙ grown ∙ ap (λ (s : State). after s c.args.change) k.ledger ∙ sym (state_snoc h c.args.change)) here (λ p i direct. c.ready.ensures.slots p i ∙ k.slots p i direct) in
    step_knows c.args.self.now _ n m c.args.change c.ready.new.names c.in_ok-number.number c.requires.may k step grown (c.ready.ensures.names) entered
    (c.requires.counted.changes ∙ sym c.ready.ensures.size ∙ sym c.in_ok-number.ensures.number) (record { peers = refl; seed = c.issue_to.ensures.seed; issued = c.issue_to.ensures.stay }) issued slots
    (c.note_probe.ensures
    ∙ ap (λ (v : LedgerView). states_probed v.state c.peer_of-peer.result c.note_change.new.states.items) c.ledger-left.ensures
    ∙ ap (λ (t : State). states_probed t c.peer_of-peer.result c.note_change.new.states.items) grown
    ∙ ap (λ (o : Option ℕ). states_probed (after c.args.self.now.ledger.state c.args.change) o c.note_change.new.states.items) c.peer_of-peer.ensures
    ∙ ap (λ l. states_probed (after c.args.self.now.ledger.state c.args.change) (change_of c.args.change) l) (
    c.note_change.ensures
    ∙ ap (λ (r : PeerRow). states_changed r.id c.args.change c.take_note.new.states.items) c.own.ensures
    ∙ ap (λ l. states_changed c.args.self.now.peers.own.id c.args.change l) (c.take_note.ensures ∙ ap (λ (q : Note). states_noted q c.args.self.now.states.items) note))) c.note_question.ensures

pub returns-clause-counted : goal.returns-clause-counted
returns-clause-counted g c =
    let node = c.args.self.now in
    let grown : c.apply.new.self.state ≡ after node.ledger.state c.args.change = search rules in
    let long : g.L.Log.size c.append.new.self ≡ g.L.Log.size node.log + 1 = c.in_ok-number.ensures.size ∙ ap (λ (i : ℕ). i + 1) c.ready.ensures.size in
    let here : c.in_ok-number.number ≡ g.L.Log.size node.log = c.in_ok-number.ensures.number ∙ c.ready.ensures.size in
    let n = c.requires.known.0 in
    let k = c.requires.known.1 in
    let entered = enters_after node.ledger.state c.apply.new.self.state n.history c.ready.new.names c.enter.new.names c.args.change c.in_ok-entering.entering.names c.in_ok-number.number k.ledger k.valid.lawful grown c.in_ok-entering.ensures.entering (subst (λ (v : LedgerView). Enter v.state.own c.ready.new.names c.enter.new.names c.in_ok-entering.entering.names c.in_ok-number.number) c.ledger-left.ensures c.enter.ensures.names) in
    record {
      changes = omega (arith, ap (λ (s : State). s.changes) grown, c.requires.counted.changes, long);
      bodies = there_grown node.ledger.state c.ready.new.names c.enter.new.names c.args.change (g.L.Log.size node.log) (g.L.Log.size c.append.new.self) (g.L.Log.keeps_body node.log) (g.L.Log.keeps_body c.append.new.self) long
          (λ i lt. c.in_ok-number.ensures.bodies i (omega (arith, lt, c.ready.ensures.size)) ∙ c.ready.ensures.bodies i)
          (subst (λ (i : ℕ). g.L.Log.keeps_body c.append.new.self i ≡ true) c.ready.ensures.size c.in_ok-number.ensures.there)
          (there_same node.names c.ready.new.names (g.L.Log.size node.log) (g.L.Log.keeps_body node.log) (c.ready.ensures.names) c.requires.counted.bodies)
          (subst (λ (i : ℕ). Enters node.ledger.state c.ready.new.names c.enter.new.names c.args.change i) here entered);
      slots = λ p i k is. omega (arith, c.enter.ensures.below (λ q j r there. omega (arith, c.requires.counted.slots q j r (sym (c.ready.ensures.slots q j) ∙ there), here)) p i k is, here, long);
    }

pub returns-clause-disk : goal.returns-clause-disk
returns-clause-disk g c = λ tells n m step s.
    let head_is : c.deref.result.now ≡ head_of c.args.change = search rules in
    step_stored g.L.Log.holds c.args.self.now _ n m c.args.change c.deref.result.now c.body_part-body.result.now _ _ c.requires.may step head_is c.body_part-body.ensures s
    (c.in_ok-number.ensures.added tells s.records (shows_wider (g.L.Log.holds c.args.self.now.log s.records) (g.L.Log.holds c.ready.new.log s.records) _ (λ i held. c.ready.ensures.holds s.records i held) s.shows))

pub returns-clause-any_moment : goal.returns-clause-any_moment
returns-clause-any_moment g c = λ tells n m valid step s.
    let head_is : c.deref.result.now ≡ head_of c.args.change = search rules in
    step_leaves g.L.Log.holds g.L.Log.stands c.args.self.now n m c.args.change c.deref.result.now c.body_part-body.result.now _ _ _ _ c.requires.may valid step head_is c.body_part-body.ensures s
    (c.in_ok-number.ensures.any_moment (c.ready.ensures.broken ∙ c.requires.whole) tells s.records (shows_wider (g.L.Log.holds c.args.self.now.log s.records) (g.L.Log.holds c.ready.new.log s.records) _ (λ i held. c.ready.ensures.holds s.records i held) s.shows))

pub returns-in_err-number-clause-disk_cause : goal.returns-in_err-number-clause-disk_cause
returns-in_err-number-clause-disk_cause g c =
    let failed = log_failed _ c.from_residual-in_err-number.result _ _ (c.ready.ensures.broken ∙ c.requires.whole) c.in_err-number.ensures.refused c.in_err-number.ensures.only refl c.from_residual-in_err-number.ensures.0 c.from_residual-in_err-number.ensures.1 in
    λ _. c.in_err-number.ensures.disk_cause failed.0

pub returns-in_err-number-clause-steady : goal.returns-in_err-number-clause-steady
returns-in_err-number-clause-steady g c =
    let failed = log_failed _ c.from_residual-in_err-number.result _ _ (c.ready.ensures.broken ∙ c.requires.whole) c.in_err-number.ensures.refused c.in_err-number.ensures.only refl c.from_residual-in_err-number.ensures.0 c.from_residual-in_err-number.ensures.1 in
    inl failed.1

pub returns-in_err-number-clause-breaks : goal.returns-in_err-number-clause-breaks
returns-in_err-number-clause-breaks g c =
    let failed = log_failed _ c.from_residual-in_err-number.result _ _ (c.ready.ensures.broken ∙ c.requires.whole) c.in_err-number.ensures.refused c.in_err-number.ensures.only refl c.from_residual-in_err-number.ensures.0 c.from_residual-in_err-number.ensures.1 in
    (λ _. failed.1, λ _. c.in_err-number.ensures.breaks.1 (inr failed.0))

pub returns-in_err-number-clause-write_cause : goal.returns-in_err-number-clause-write_cause
returns-in_err-number-clause-write_cause g c =
    let failed = log_failed _ c.from_residual-in_err-number.result _ _ (c.ready.ensures.broken ∙ c.requires.whole) c.in_err-number.ensures.refused c.in_err-number.ensures.only refl c.from_residual-in_err-number.ensures.0 c.from_residual-in_err-number.ensures.1 in
    λ _. c.in_err-number.ensures.write_cause failed.0

pub returns-in_err-number-clause-again : goal.returns-in_err-number-clause-again
returns-in_err-number-clause-again g c =
    let failed = log_failed _ c.from_residual-in_err-number.result _ _ (c.ready.ensures.broken ∙ c.requires.whole) c.in_err-number.ensures.refused c.in_err-number.ensures.only refl c.from_residual-in_err-number.ensures.0 c.from_residual-in_err-number.ensures.1 in
    on_err c.from_residual-in_err-number.result _ (λ whole. absurd (false≢true (sym whole ∙ c.in_err-number.ensures.breaks.1 (inr failed.0))))

pub returns-in_err-number-clause-kept : goal.returns-in_err-number-clause-kept
returns-in_err-number-clause-kept g c =
    let failed = log_failed _ c.from_residual-in_err-number.result _ _ (c.ready.ensures.broken ∙ c.requires.whole) c.in_err-number.ensures.refused c.in_err-number.ensures.only refl c.from_residual-in_err-number.ensures.0 c.from_residual-in_err-number.ensures.1 in
    on_err c.from_residual-in_err-number.result _ (λ whole. absurd (false≢true (sym whole ∙ c.in_err-number.ensures.breaks.1 (inr failed.0))))

pub returns-in_err-number-clause-only : goal.returns-in_err-number-clause-only
returns-in_err-number-clause-only g c =
    let failed = log_failed _ c.from_residual-in_err-number.result _ _ (c.ready.ensures.broken ∙ c.requires.whole) c.in_err-number.ensures.refused c.in_err-number.ensures.only refl c.from_residual-in_err-number.ensures.0 c.from_residual-in_err-number.ensures.1 in
    on_err c.from_residual-in_err-number.result _ (inl failed.1)
