-- The line of the numbers was said, and then those of the rows of debt, or some.
use Rattle.std.proofs.Common.{List, [], ◌∷◌, map, ap, ◌∙◌, subst}
use Rattle.psb_model.specs.declared.entries.DebtEntry.{DebtEntry}
use Rattle.psb_model.specs.State.{Row}
use Rattle.said_lines.specs.Lines.{debt_line}
use Rattle.said_lines.specs.Says.{SaysLines, line_of_row}
use Rattle.said_lines.proofs.LinesSaid.{lines_then, one_said}
use Rattle.said_lines.proofs.saying.say_account.Goals as goal

pub returns-in-Ok-clause-says : goal.returns-in-Ok-clause-says
returns-in-Ok-clause-says g c =
    let line = line_of_row c.args.ledger.now.state c.args.peer.now in
    let v0 = g.S.Disk.view c.args.station.now in
    let v1 = g.S.Disk.view c.say_peer.new.station in
    let v2 = g.S.Disk.view c.say_debts.new.station in
    let rows = c.debts.ensures ∙ ap (λ (r : Row). r.debts) c.row.ensures in
    subst (λ (ds : List DebtEntry). SaysLines (line ∷ map debt_line ds) v0 v2 c.say_debts.result) rows
    (lines_then (line ∷ []) (map debt_line c.debts.result.now) v0 v1 v2 c.say_debts.result (one_said line v0 v1 c.in-Ok.ensures.ok) c.say_debts.ensures.says)
