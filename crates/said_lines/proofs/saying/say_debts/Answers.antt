use Rattle.std.proofs.Common.{◌≡◌, Err, refl, length, ap, sym, ◌∙◌, arith}
use Rattle.said_lines.specs.Lines.{debt_line}
use Rattle.said_lines.proofs.LinesSaid.{item_said, failed_line, all_said}
use Rattle.said_lines.proofs.Utterances.{utters_none, only_said, either_says}
use Rattle.said_lines.proofs.saying.say_debts.Goals as goal

pub loop-debt-init : goal.loop-debt-init
loop-debt-init g c = record { said = utters_none (g.S.Disk.view c.args.station.now); steady = refl }

pub loop-debt-preserved : goal.loop-debt-preserved
loop-debt-preserved g c = record {
  said = item_said debt_line c.args.debts.now (g.S.Disk.view c.args.station.now) (g.S.Disk.view c.loop-debt.station) (g.S.Disk.view c.say_debt.new.station) c.loop-debt.debt-index c.debt-item.result
      c.loop-debt-test.true (sym c.debt-item.is) c.loop-debt.invariant.said c.in-Ok.ensures.ok;
  steady = c.in-Ok.ensures.steady ∙ c.loop-debt.invariant.steady;
}

pub returns-in-Err-clause-says : goal.returns-in-Err-clause-says
returns-in-Err-clause-says g c =
    failed_line debt_line c.args.debts.now (g.S.Disk.view c.args.station.now) (g.S.Disk.view c.loop-debt.station) (g.S.Disk.view c.say_debt.new.station) c.loop-debt.debt-index c.in-Err.error (omega (arith, c.loop-debt-test.true)) c.loop-debt.invariant.said
    (λ is. c.in-Err.ensures.say (ap Err is)) (λ is i. g.S.Disk.view (c.in-Err.ensures.memory (ap Err is) i))

pub returns-clause-says : goal.returns-clause-says
returns-clause-says g c =
    let all : c.loop-debt.debt-index ≡ length c.args.debts.now = omega (arith, c.loop-debt-test.false, c.loop-debt.auto.debt-index-end) in
    all_said debt_line c.args.debts.now (g.S.Disk.view c.args.station.now) (g.S.Disk.view c.loop-debt.station) c.loop-debt.debt-index all c.loop-debt.invariant.said

pub returns-in-Err-clause-only_says : goal.returns-in-Err-clause-only_says
returns-in-Err-clause-only_says g c =
    either_says _ (g.S.Disk.view c.loop-debt.station) (g.S.Disk.view c.say_debt.new.station) c.in-Err.error (only_said _ _ _ _ c.loop-debt.invariant.said) (λ is. (c.in-Err.ensures.say (ap Err is)).0) (λ is i. g.S.Disk.view (c.in-Err.ensures.memory (ap Err is) i))

pub returns-clause-only_says : goal.returns-clause-only_says
returns-clause-only_says g c = only_said _ _ _ _ c.loop-debt.invariant.said
