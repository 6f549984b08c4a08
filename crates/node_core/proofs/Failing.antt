-- What failures of a peer come to at a tick: the end of a probe that is late, or a discard that is due.
use Rattle.std.proofs.Common.{◌≡◌, ℕ, ◌+◌, ◌<◌, ◌≤◌, ◌^◌, Bool, true, false, cond, if◌then◌else◌, List, [], ◌++◌, length, is_some, unwrap_or, Option, Some, None, IfSome, refl, sym, ◌∙◌, ap, subst, arith}
use Rattle.probe.specs.Deadlines.{is_late}
use Rattle.psb_model.specs.State.{State, row}
use Rattle.psb_model.specs.Heads.{head_of, body_of}
use Rattle.psb_model.specs.History.{state}
use Rattle.psb_model.specs.declared.change.Change.{Change}
use Rattle.psb_model.proofs.ByObject.{by_cases}
use Rattle.psb_machine.specs.OwnProbes.{Run as MachineRun, silent_by}
use Rattle.psb_machine.specs.Volatile.{of_peer, later}
use Rattle.psb_machine.specs.Machine.{Situation, Rule, passes, ends_with, then_by, run_at, by_late, by_due, discarded_by}
use Rattle.psb_machine.proofs.Discarding.{discarded_may, discarded_short}
use Rattle.peer_states.specs.declared.peer_state.PeerState.{PeerState}
use Rattle.peer_states.specs.PeerStates.{state_of}
use Rattle.own_probes.specs.declared.run.Run.{Run}
use Rattle.node_core.specs.declared.node.Node.{Node}
use Rattle.node_core.specs.Reacting.{MayCome}
use Rattle.node_core.specs.Stored.{Knows}
use Rattle.node_core.specs.Ticking.{IsRunAt, by_failure}
use Rattle.node_core.proofs.OwnProbing.{Comes, may_come, IsOf, ticked_of, late_may_come}

-- ---- the discard

due_by : {P : Type 0} (s : State) (p : ℕ) (c : Change) → (by_due s p).grown ≡ Some c → ((row s p).due ≡ true → c ≡ discarded_by s p → P) → P
due_by s p c is f =
    by_cases (row s p).due
    (λ k. let is' : Some (discarded_by s p) ≡ Some c = rw k at is in let same : discarded_by s p ≡ c = cc (is') in f k (sym same))
    (λ k. let is' : None ≡ Some c = rw k at is in absurd (cc (is')))

due_ends : (s : State) (p : ℕ) (c : Change) → (by_due s p).grown ≡ Some c → by_due s p ≡ ends_with c []
due_ends s p c is = due_by s p c is (λ k same. rw k (ap (λ (d : Change). ends_with d []) (sym same)))

due_passes : (s : State) (p : ℕ) → (by_due s p).grown ≡ None → by_due s p ≡ passes
due_passes s p is =
    by_cases (row s p).due
    (λ k. let is' : Some (discarded_by s p) ≡ None = rw k at is in absurd (cc (is')))
    (λ k. rw k refl)

-- ---- both rules, the end of a late probe first

abbrev failing : ℕ → ℕ → State → Option MachineRun → Rule
failing p clock s o = then_by (by_late p clock o) (by_due s p)

-- one that makes a change is the last, and one that makes none lets the tick go on
failing_ends : (p clock : ℕ) (s : State) (o : Option MachineRun) (c : Change) → (failing p clock s o).grown ≡ Some c → failing p clock s o ≡ ends_with c []
failing_ends p clock s None c is = due_ends s p c is
failing_ends p clock s (Some r) c is =
    by_cases (is_late r.began clock)
    (λ k. let is' : Some (silent_by p r) ≡ Some c = rw k at is in let same : silent_by p r ≡ c = cc (is') in rw k (ap (λ (d : Change). ends_with d []) same))
    (λ k. rw k (due_ends s p c (rw k at is)))

failing_passes : (p clock : ℕ) (s : State) (o : Option MachineRun) → (failing p clock s o).grown ≡ None → failing p clock s o ≡ passes
failing_passes p clock s None is = due_passes s p is
failing_passes p clock s (Some r) is =
    by_cases (is_late r.began clock)
    (λ k. let is' : Some (silent_by p r) ≡ None = rw k at is in absurd (cc (is')))
    (λ k. rw k (due_passes s p (rw k at is)))

pub failure_ends : (n : Situation) (p : ℕ) (c : Change) → (by_failure n p).grown ≡ Some c → by_failure n p ≡ ends_with c []
failure_ends n p c is = failing_ends p (later (of_peer n.volatile p).clock) (state n.history) (run_at n p) c is

pub failure_passes : (n : Situation) (p : ℕ) → (by_failure n p).grown ≡ None → by_failure n p ≡ passes
failure_passes n p is = failing_passes p (later (of_peer n.volatile p).clock) (state n.history) (run_at n p) is

-- ---- as a node finds them

failing_late : (p clock : ℕ) (s : State) (o : Option MachineRun) (c : Change) → Some c ≡ (by_late p clock o).grown → Some c ≡ (failing p clock s o).grown
failing_late p clock s None c is = absurd (cc (is))
failing_late p clock s (Some r) c is =
    by_cases (is_late r.began clock)
    (λ k. rw k (rw k at is))
    (λ k. let is' : Some c ≡ None = rw k at is in absurd (cc (is')))

failing_due : (p clock : ℕ) (s : State) (o : Option MachineRun) → None ≡ (by_late p clock o).grown → (by_due s p).grown ≡ (failing p clock s o).grown
failing_due p clock s None none = refl
failing_due p clock s (Some r) none =
    by_cases (is_late r.began clock)
    (λ k. let none' : None ≡ Some (silent_by p r) = rw k at none in absurd (cc (none')))
    (λ k. rw k refl)

pub failure_late : (n : Situation) (p : ℕ) (c : Change) → Some c ≡ (by_late p (later (of_peer n.volatile p).clock) (run_at n p)).grown → Some c ≡ (by_failure n p).grown
failure_late n p c is = failing_late p (later (of_peer n.volatile p).clock) (state n.history) (run_at n p) c is

pub failure_due : (n : Situation) (p : ℕ) (o : Option Change) → None ≡ (by_late p (later (of_peer n.volatile p).clock) (run_at n p)).grown → o ≡ (by_due (state n.history) p).grown → o ≡ (by_failure n p).grown
failure_due n p o none is = is ∙ failing_due p (later (of_peer n.volatile p).clock) (state n.history) (run_at n p) none

-- ---- it may come next

discard_comes : {L : Type 0} (node : Node L) (n : Situation) (p : ℕ) (c : Change) → Knows node n → IsOf n p → (by_due (state n.history) p).grown ≡ Some c → Comes n c
discard_comes node n p c k of is =
    due_by (state n.history) p c is (λ due same. subst (Comes n) (sym same) (record {
      take = discarded_may n.history p k.valid of.peer of.fits due;
      there = refl;
      short = omega (arith, discarded_short n.history p k.valid);
      none = refl;
    }))

pub discard_may_come : {L : Type 0} (node : Node L) (p : ℕ) (x : PeerState) (o : Option Change) → p < 2 ^ 32 → node.ledger.state.changes < 2 ^ 62 → (n : Situation) × Knows node n → state_of node.states.items p ≡ Some x
    → ((n : Situation) → Knows node n → o ≡ (by_due (state n.history) p).grown) → IfSome o (MayCome Knows node)
discard_may_come node p x None small few known found is = tt
discard_may_come node p x (Some c) small few known found is = may_come node c known few (λ n k. discard_comes node n p c k (ticked_of node n p x k found small few) (sym (is n k)))
