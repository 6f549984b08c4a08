use Rattle.std.proofs.Common.{◌≡◌, arith}
use Rattle.backup_cli.proofs.WordLemmas.{decimal_fixed}
use Rattle.backup_cli.proofs.words.read_snapshot.Goals as goal

pub returns-then-number-gt-MOST_NUMBER-clause-none : goal.returns-then-number-gt-MOST_NUMBER-clause-none
returns-then-number-gt-MOST_NUMBER-clause-none c = λ number most spelled.
    let same : c.in_ok-number.number ≡ number = decimal_fixed c.args.text.now _ _ (omega arith) (omega (arith, most)) c.in_ok-number.ensures.some spelled in
    omega arith
