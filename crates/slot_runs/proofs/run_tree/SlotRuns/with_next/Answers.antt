use Rattle.std.proofs.Common.{◌+◌, ◌<◌, ◌^◌, refl, sym, ◌∷◌, [], ◌∙◌, arith}
use Rattle.std.proofs.lemmas.Bool.{true≢false}
use Rattle.std.specs.BTreeMap.{is_at}
use Rattle.std.specs.Ordering.{nat_cmp}
use Rattle.slot_runs.specs.Runs.{covers}
use Rattle.slot_runs.specs.SlotRuns.{tree_runs, runs}
use Rattle.slot_runs.proofs.Runs.{front_runs}
use Rattle.slot_runs.proofs.Slots.{next_joined}
use Rattle.slot_runs.proofs.Longest.{in_out, fewer_longest, behind_none, behind_other, behind_joined}
use Rattle.slot_runs.proofs.run_tree.SlotRuns.with_next.Goals as goal

pub in_tree-requires : goal.in_tree-requires
in_tree-requires g c = front_runs (runs c.args.self.now) (c.args.run ∷ []) c.requires.runs

pub returns-clause-runs : goal.returns-clause-runs
returns-clause-runs g c = (next_joined c.args.self.now c.take_out.new.self c.saturating_add.result c.in-Some.next c.args.run c.joined.result c.requires.runs c.in-Some.ensures.ordered c.in-Some.ensures.run c.take_out.ensures.entries c.take_out.ensures.latest (omega (arith, c.saturating_add.ensures)) (c.if-not-goes_on.ensures.same refl) c.joined.ensures).are

pub returns-clause-rest : goal.returns-clause-rest
returns-clause-rest g c = (next_joined c.args.self.now c.take_out.new.self c.saturating_add.result c.in-Some.next c.args.run c.joined.result c.requires.runs c.in-Some.ensures.ordered c.in-Some.ensures.run c.take_out.ensures.entries c.take_out.ensures.latest (omega (arith, c.saturating_add.ensures)) (c.if-not-goes_on.ensures.same refl) c.joined.ensures).rest

pub returns-in_default-clause-behind : goal.returns-in_default-clause-behind
returns-in_default-clause-behind g c =
    let s = c.args.self.now in
    let are = front_runs (tree_runs s) s.latest.items (front_runs (runs s) (c.args.run ∷ []) c.requires.runs) in
    behind_none (tree_runs s) c.args.run c.saturating_add.result are (λ (lt : c.args.run.last + 1 < 2 ^ 32). omega (arith, c.saturating_add.ensures, lt)) c.in_default.ensures.run

pub returns-then-not-goes_on-clause-behind : goal.returns-then-not-goes_on-clause-behind
returns-then-not-goes_on-clause-behind g c =
    let s = c.args.self.now in
    let are = front_runs (tree_runs s) s.latest.items (front_runs (runs s) (c.args.run ∷ []) c.requires.runs) in
    behind_other (tree_runs s) c.args.run c.in-Some.next c.saturating_add.result are (λ (lt : c.args.run.last + 1 < 2 ^ 32). omega (arith, c.saturating_add.ensures, lt)) c.in-Some.ensures.run
    (λ h. true≢false (sym (c.goes_on.ensures.all h) ∙ c.if-not-goes_on.true))

pub returns-clause-longest : goal.returns-clause-longest
returns-clause-longest g c = fewer_longest (tree_runs c.take_out.new.self) (tree_runs c.args.self.now) (in_out (is_at (nat_cmp c.in-Some.next.last)) c.args.self.now.tree.entries c.take_out.new.self.tree.entries c.take_out.ensures.entries) c.requires.longest

pub returns-clause-behind : goal.returns-clause-behind
returns-clause-behind g c =
    behind_joined (tree_runs c.take_out.new.self) (tree_runs c.args.self.now) c.args.run c.in-Some.next c.joined.result (λ r. covers r c.saturating_add.result) c.requires.longest
    (in_out (is_at (nat_cmp c.in-Some.next.last)) c.args.self.now.tree.entries c.take_out.new.self.tree.entries c.take_out.ensures.entries) c.in-Some.ensures.run (c.if-not-goes_on.ensures.same refl).1 c.joined.ensures
