use Rattle.std.proofs.Common.{◌≤◌, refl, sym, ◌∷◌, [], ◌∙◌, arith}
use Rattle.std.proofs.lemmas.Bool.{true≢false}
use Rattle.std.specs.BTreeMap.{is_at}
use Rattle.std.specs.Ordering.{nat_cmp}
use Rattle.slot_runs.specs.Runs.{covers}
use Rattle.slot_runs.specs.SlotRuns.{tree_runs, runs}
use Rattle.slot_runs.proofs.Runs.{front_runs}
use Rattle.slot_runs.proofs.Slots.{before_joined}
use Rattle.slot_runs.proofs.Longest.{in_out, fewer_longest, behind_kept, front_none, front_other, front_joined}
use Rattle.slot_runs.proofs.run_tree.SlotRuns.with_before.Goals as goal

pub in_tree-requires : goal.in_tree-requires
in_tree-requires g c = front_runs (runs c.args.self.now) (c.args.run ∷ []) c.requires.runs

pub returns-clause-runs : goal.returns-clause-runs
returns-clause-runs g c = (before_joined c.args.self.now c.take_out.new.self c.saturating_sub.result c.in-Some.before c.args.run c.joined.result c.requires.runs c.in-Some.ensures.ordered c.in-Some.ensures.run c.take_out.ensures.entries c.take_out.ensures.latest (omega (arith, c.saturating_sub.ensures)) (c.if-not-goes_on.ensures.same refl) c.joined.ensures).are

pub returns-clause-rest : goal.returns-clause-rest
returns-clause-rest g c = (before_joined c.args.self.now c.take_out.new.self c.saturating_sub.result c.in-Some.before c.args.run c.joined.result c.requires.runs c.in-Some.ensures.ordered c.in-Some.ensures.run c.take_out.ensures.entries c.take_out.ensures.latest (omega (arith, c.saturating_sub.ensures)) (c.if-not-goes_on.ensures.same refl) c.joined.ensures).rest

pub returns-in_default-clause-front : goal.returns-in_default-clause-front
returns-in_default-clause-front g c =
    let s = c.args.self.now in
    let are = front_runs (tree_runs s) s.latest.items (front_runs (runs s) (c.args.run ∷ []) c.requires.runs) in
    front_none (tree_runs s) c.args.run c.saturating_sub.result are (λ (some : 1 ≤ c.args.run.first). omega (arith, c.saturating_sub.ensures, some)) c.in_default.ensures.run

pub returns-then-not-goes_on-clause-front : goal.returns-then-not-goes_on-clause-front
returns-then-not-goes_on-clause-front g c =
    let s = c.args.self.now in
    let are = front_runs (tree_runs s) s.latest.items (front_runs (runs s) (c.args.run ∷ []) c.requires.runs) in
    front_other (tree_runs s) c.args.run c.in-Some.before c.saturating_sub.result are (λ (some : 1 ≤ c.args.run.first). omega (arith, c.saturating_sub.ensures, some)) c.in-Some.ensures.run
    (λ h. true≢false (sym (c.goes_on.ensures.all h) ∙ c.if-not-goes_on.true))

pub returns-clause-longest : goal.returns-clause-longest
returns-clause-longest g c = fewer_longest (tree_runs c.take_out.new.self) (tree_runs c.args.self.now) (in_out (is_at (nat_cmp c.in-Some.before.last)) c.args.self.now.tree.entries c.take_out.new.self.tree.entries c.take_out.ensures.entries) c.requires.longest

pub returns-clause-behind : goal.returns-clause-behind
returns-clause-behind g c =
    behind_kept (tree_runs c.take_out.new.self) (tree_runs c.args.self.now) c.args.run c.in-Some.before c.joined.result
    (in_out (is_at (nat_cmp c.in-Some.before.last)) c.args.self.now.tree.entries c.take_out.new.self.tree.entries c.take_out.ensures.entries) c.requires.behind (c.if-not-goes_on.ensures.same refl).1 c.joined.ensures

pub returns-clause-front : goal.returns-clause-front
returns-clause-front g c =
    front_joined (tree_runs c.take_out.new.self) (tree_runs c.args.self.now) c.args.run c.in-Some.before c.joined.result (λ r. covers r c.saturating_sub.result) c.requires.longest
    (in_out (is_at (nat_cmp c.in-Some.before.last)) c.args.self.now.tree.entries c.take_out.new.self.tree.entries c.take_out.ensures.entries) c.in-Some.ensures.run c.joined.ensures
