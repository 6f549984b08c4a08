use Rattle.std.proofs.Common.{refl, sym, true≢false}
use Rattle.backup_cli.proofs.WordLemmas.{decimal_is_not_padded, parse_number_some, parse_number_none}
use Rattle.backup_cli.proofs.number.read_number.Goals as goal

pub returns-then-is_padded-clause-none : goal.returns-then-is_padded-clause-none
returns-then-is_padded-clause-none c = λ number small spelled. decimal_is_not_padded c.args.text.now number small spelled (c.if-is_padded.ensures.0 refl)

pub returns-clause-some : goal.returns-clause-some
returns-clause-some c = rw c.ok.ensures.value (parse_number_some c.args.text.now c.parse.result c.parse.ensures.value.0 (λ padded. true≢false (sym (c.if-is_padded.ensures.1 padded))))

pub returns-clause-none : goal.returns-clause-none
returns-clause-none c = rw c.ok.ensures.value (parse_number_none c.args.text.now c.parse.result c.parse.ensures.value.0)
