use Rattle.std.proofs.Common.{◌≡◌, arith}
use Rattle.backup_cli.proofs.WordLemmas.{decimal_fixed}
use Rattle.psb_cases.proofs.words.read_ordinal.Goals as goal

pub returns-then-number-eq0-clause-none : goal.returns-then-number-eq0-clause-none
returns-then-number-eq0-clause-none c = λ number least small spelled.
    let same : c.in_ok-number.number ≡ number = decimal_fixed c.args.word.now _ _ (omega arith) small c.in_ok-number.ensures.some spelled in
    omega (arith, same, least)
