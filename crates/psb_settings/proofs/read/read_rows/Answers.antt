use Rattle.std.proofs.Common.{ap, sym, ◌∙◌, arith, drop, ◌+◌}
use Rattle.psb_settings.proofs.Peers.{no_row, one_row, no_rows, all_rows, after_rows}
use Rattle.psb_settings.proofs.read.read_rows.Goals as goal

pub loop-value-init : goal.loop-value-init
loop-value-init c = no_rows c.new-rows.result.items c.new-rows.ensures.items _

pub returns-in_err-row-clause-bad : goal.returns-in_err-row-clause-bad
returns-in_err-row-clause-bad c = λ e. c.loop-value.invariant ∙ no_row c.loop-value.rows.items c.args.array.now c.loop-value.value-index c.value-item.result (omega arith) c.value-item.is (c.read_row.ensures.bad (grind arith))

pub loop-value-preserved : goal.loop-value-preserved
loop-value-preserved c =
    c.loop-value.invariant ∙ one_row c.loop-value.rows.items c.args.array.now c.loop-value.value-index c.value-item.result c.in_ok-row.row (omega arith) c.value-item.is c.in_ok-row.ensures.ok
    ∙ ap (λ rows. after_rows rows (drop (c.loop-value.value-index + 1) c.args.array.now)) (sym c.in_ok-push.ensures.items)

pub returns-clause-ok : goal.returns-clause-ok
returns-clause-ok c = c.loop-value.invariant ∙ all_rows c.loop-value.rows.items c.args.array.now c.loop-value.value-index (omega arith)
