-- Where the list has no such place, nothing is lost.
use Rattle.std.proofs.Common.{◌≡◌, ◌++◌, [], None, true, sym, ap, ◌∙◌, arith}
use Rattle.std.specs.Prelude.{option_to_list, slice_get}
use Rattle.std.proofs.lemmas.Option.{slice_get_past}
use Rattle.peer_account.specs.View.{lost_row}
use Rattle.peer_account.proofs.Probed.{lost_first}
use Rattle.peer_account.proofs.account.Account.lose_at.Goals as goal

pub returns-in_default-clause-row : goal.returns-in_default-clause-row
returns-in_default-clause-row c =
    let none : slice_get c.args.objects.now c.args.place ≡ None = slice_get_past c.args.objects.now c.args.place (omega (arith, c.in_default.ensures.lookup.3, c.from.ensures)) in
    sym (ap (λ o. lost_row c.args.change true (option_to_list o ++ []) c.args.self.now.row) none ∙ lost_first c.args.change true c.args.self.now.row)
