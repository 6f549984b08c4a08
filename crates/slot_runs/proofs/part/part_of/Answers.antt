use Rattle.std.proofs.Common.{◌≡◌, not, None, Some, sym, ap, ◌∙◌, arith}
use Rattle.std.specs.Prelude.{find, nat_le}
use Rattle.slot_runs.specs.declared.run.Run.{Run}
use Rattle.slot_runs.proofs.Parts.{found_from, first_listed, none_up_to, none_after}
use Rattle.slot_runs.proofs.part.part_of.Goals as goal

pub returns-in-None-clause-sought : goal.returns-in-None-clause-sought
returns-in-None-clause-sought g c =
    let found : None ≡ find (λ n. nat_le c.args.run.now.first n) c.args.but.now = sym c.in-None.is ∙ c.first_from.ensures in
    λ n from to. none_after c.args.but.now c.args.run.now.first n c.requires.ascend found from ∙ ap not (sym c.up_to.ensures.sought)

pub returns-then-other-run-clause-sought : goal.returns-then-other-run-clause-sought
returns-then-other-run-clause-sought g c =
    let found : Some c.in-Some.other ≡ find (λ n. nat_le c.args.run.now.first n) c.args.but.now = sym c.in-Some.is ∙ c.first_from.ensures in
    let last = ap (λ (r : Run _). r.last) c.up_to-then-other-run.ensures.run in
    λ n from to. first_listed c.args.but.now c.args.run.now.first n c.in-Some.other found (omega (arith, last, from, to, c.if-other-run.true)) ∙ ap not (sym c.up_to-then-other-run.ensures.sought)

pub returns-else-other-run-clause-last : goal.returns-else-other-run-clause-last
returns-else-other-run-clause-last g c =
    let found : Some c.in-Some.other ≡ find (λ n. nat_le c.args.run.now.first n) c.args.but.now = sym c.in-Some.is ∙ c.first_from.ensures in
    let last = ap (λ (r : Run _). r.last) c.up_to-else-other-run.ensures.run in
    let from = found_from c.args.but.now c.args.run.now.first c.in-Some.other found in
    (omega (arith, last, from, c.if-other-run.false, c.min.ensures, c.saturating_sub.ensures, c.requires.run), omega (arith, last, c.min.ensures))

pub returns-else-other-run-clause-sought : goal.returns-else-other-run-clause-sought
returns-else-other-run-clause-sought g c =
    let found : Some c.in-Some.other ≡ find (λ n. nat_le c.args.run.now.first n) c.args.but.now = sym c.in-Some.is ∙ c.first_from.ensures in
    let last = ap (λ (r : Run _). r.last) c.up_to-else-other-run.ensures.run in
    let from = found_from c.args.but.now c.args.run.now.first c.in-Some.other found in
    λ n le to. none_up_to c.args.but.now c.args.run.now.first n c.in-Some.other c.requires.ascend found le (omega (arith, last, from, to, c.if-other-run.false, c.min.ensures, c.saturating_sub.ensures)) ∙ ap not (sym c.up_to-else-other-run.ensures.sought)
