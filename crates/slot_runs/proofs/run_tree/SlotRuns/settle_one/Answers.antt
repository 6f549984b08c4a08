use Rattle.std.proofs.Common.{true, refl, ◌∷◌, [], ◌∙◌}
use Rattle.std.specs.Prelude.{nat_le}
use Rattle.std.proofs.lemmas.Bool.{and_parts, leb-true}
use Rattle.slot_runs.specs.SlotRuns.{runs}
use Rattle.slot_runs.proofs.Runs.{full-parts}
use Rattle.slot_runs.proofs.Longest.{settled_longest}
use Rattle.slot_runs.proofs.Slots.{settled}
use Rattle.slot_runs.proofs.run_tree.SlotRuns.settle_one.Goals as goal

pub returns-in-Ok-clause-rest : goal.returns-in-Ok-clause-rest
returns-in-Ok-clause-rest g c = λ n. (settled c.with_before-run.new.self.tree.entries c.insert.new.self.entries c.with_before-run.new.self.latest.items c.with_before-run.result (record { first = c.with_before-run.result.first; rest = c.with_before-run.result.rest }) c.with_before-run.ensures.runs c.in-Ok.ensures.entries refl).rest n ∙ c.with_before-run.ensures.rest n ∙ c.with_next-run.ensures.rest n

pub returns-in-Ok-clause-kept : goal.returns-in-Ok-clause-kept
returns-in-Ok-clause-kept g c =
    let s = c.with_before-run.new.self in
    let run = c.with_before-run.result in
    let full = (full-parts (λ r. nat_le r.first r.last) (runs s) (run ∷ []) c.with_before-run.ensures.runs.full).1 in
    record {
      are = (settled c.with_before-run.new.self.tree.entries c.insert.new.self.entries c.with_before-run.new.self.latest.items c.with_before-run.result (record { first = c.with_before-run.result.first; rest = c.with_before-run.result.rest }) c.with_before-run.ensures.runs c.in-Ok.ensures.entries refl).are;
      longest = settled_longest s.tree.entries c.insert.new.self.entries run (record { first = run.first; rest = run.rest }) c.with_before-run.ensures.longest c.with_before-run.ensures.behind c.with_before-run.ensures.front (leb-true run.first run.last (and_parts (nat_le run.first run.last) true full).0) c.in-Ok.ensures.entries refl;
    }
