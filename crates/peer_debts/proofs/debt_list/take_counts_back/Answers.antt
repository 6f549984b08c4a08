-- A row that is taken back is counted no more, and another is left.
use Rattle.std.proofs.Common.{◌+◌, sym, ◌∙◌}
use Rattle.psb_model.specs.Effects.{is_whole_listed}
use Rattle.peer_debts.proofs.Counts.{back_more, back_still, back_as}
use Rattle.peer_debts.proofs.debt_list.take_counts_back.Goals as goal
use Rattle.peer_debts.proofs.debt_list.take_counts_back.Goals.{then-is_whole_listed, else-is_whole_listed}

pub loop-row-preserved : goal.loop-row-preserved
loop-row-preserved c =
    let p = is_whole_listed c.args.objects.now in
    let rows = c.args.rows.now in
    let start = c.args.counts.now.entries in
    let r = c.row-item.result in
    let i = c.loop-row.row-index in
    let new = c.if-is_whole_listed in
    elim c.if-is_whole_listed.branch [
      | then-is_whole_listed w ↦ back_as p rows start w.take_count.new.counts.entries new.counts.entries c.loop-row.left new.left (i + 1) (λ j. (w.counts-is j).entries) w.left-is
          (back_more p rows start c.loop-row.counts.entries w.take_count.new.counts.entries c.loop-row.left i r c.loop-row-test.true c.row-item.is (sym c.is_whole_listed.ensures ∙ w.if-is_whole_listed.true) c.loop-row.invariant w.take_count.ensures)
      | else-is_whole_listed w ↦ back_as p rows start c.loop-row.counts.entries new.counts.entries (c.loop-row.left + 1) new.left (i + 1) (λ j. (w.counts-is j).entries) w.left-is
          (back_still p rows start c.loop-row.counts.entries c.loop-row.left i r c.loop-row-test.true c.row-item.is (sym c.is_whole_listed.ensures ∙ w.if-is_whole_listed.false) c.loop-row.invariant)
    ]
