-- The slot leaves its run, and comes alone, or with the latest run.
use Rattle.std.proofs.Common.{◌++◌, ◌∷◌, [], sym, ap, ◌∙◌, subst, arith}
use Rattle.slot_runs.specs.declared.run.Run.{Run}
use Rattle.slot_runs.specs.Runs.{rest_in, AreRuns}
use Rattle.slot_runs.specs.SlotRuns.{runs}
use Rattle.slot_runs.proofs.Longest.{longest_as}
use Rattle.slot_runs.proofs.Cuts.{alone}
use Rattle.slot_runs.proofs.run_tree.SlotRuns.put.Goals as goal

pub with_latest-run-requires : goal.with_latest-run-requires
with_latest-run-requires g c = subst (λ (r : Run _). AreRuns (runs c.remove.new.self ++ r ∷ [])) (sym c.run_of.ensures) (alone c.args.number c.args.rest (runs c.args.self.now) (runs c.remove.new.self) c.remove.ensures.kept.are c.remove.ensures.rest (omega arith)).are

pub returns-clause-kept : goal.returns-clause-kept
returns-clause-kept g c = record {
  are = subst AreRuns (sym c.add.ensures.runs) c.with_latest-run.ensures.runs;
  longest = longest_as c.remove.new.self c.add.new.self (c.add.ensures.tree ∙ c.with_latest-run.ensures.tree) c.remove.ensures.kept.longest;
}

pub returns-clause-rest : goal.returns-clause-rest
returns-clause-rest g c = λ n.
    let before = alone c.args.number c.args.rest (runs c.args.self.now) (runs c.remove.new.self) c.remove.ensures.kept.are c.remove.ensures.rest (omega arith) in
    ap (λ l. rest_in l n) c.add.ensures.runs ∙ c.with_latest-run.ensures.rest n ∙ ap (λ (r : Run _). rest_in (runs c.remove.new.self ++ r ∷ []) n) c.run_of.ensures ∙ before.rest n
