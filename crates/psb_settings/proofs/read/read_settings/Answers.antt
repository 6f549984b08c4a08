use Rattle.std.proofs.Common.{sym, ◌∙◌, arith}
use Rattle.std.proofs.lemmas.Bool.{false≢true}
use Rattle.std.proofs.lemmas.Result.{IfOk-weaker}
use Rattle.toml.specs.View.{table_view}
use Rattle.psb_settings.proofs.Ranges.{settings_in-are}
use Rattle.psb_settings.proofs.Texts.{long_text, read_text, no_document}
use Rattle.psb_settings.proofs.read.read_settings.Goals as goal

pub returns-then-text-gt-MAX_TEXT_LEN-clause-bad : goal.returns-then-text-gt-MAX_TEXT_LEN-clause-bad
returns-then-text-gt-MAX_TEXT_LEN-clause-bad c = λ _. long_text _ (omega arith)

pub returns-in-Ok-clause-ok : goal.returns-in-Ok-clause-ok
returns-in-Ok-clause-ok c =
    let same = read_text c.args.text.now (table_view c.in-Ok.table) c.in-Ok.ensures.ok.0 (omega arith) c.in-Ok.ensures.ok.1 in
    IfOk-weaker c.read_table.result _ _ (λ s e. same ∙ e) c.read_table.ensures.ok

pub returns-in-Ok-clause-bad : goal.returns-in-Ok-clause-bad
returns-in-Ok-clause-bad c = λ e. read_text c.args.text.now (table_view c.in-Ok.table) c.in-Ok.ensures.ok.0 (omega arith) c.in-Ok.ensures.ok.1 ∙ c.read_table.ensures.bad e

pub returns-in-Err-2-clause-bad : goal.returns-in-Err-2-clause-bad
returns-in-Err-2-clause-bad c = λ _. no_document c.args.text.now (c.in-Err.ensures.refused (λ m. false≢true (sym c.if-is_memory.false ∙ c.is_memory.ensures.1 m)))

pub returns-in-Ok-clause-ranges : goal.returns-in-Ok-clause-ranges
returns-in-Ok-clause-ranges c = IfOk-weaker c.read_table.result _ _ (λ s e. settings_in-are (table_view c.in-Ok.table) s e) c.read_table.ensures.ok
