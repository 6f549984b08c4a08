-- The account that is found by its id, or a blank one.
use Rattle.std.proofs.Common.{◌∙◌, ap}
use Rattle.std.specs.Prelude.{◌==◌, find}
use Rattle.psb_model.specs.State.{row}
use Rattle.peer_account.specs.View.{AccountView}
use Rattle.psb_ledger.specs.View.{LedgerView}
use Rattle.accounts.proofs.Places.{row_of, row_found}
use Rattle.psb_ledger.proofs.ledger.Ledger.row.Goals as goal

pub returns-in-None : goal.returns-in-None
returns-in-None c =
    c.self.invariant.blank_row
    ∙ ap row_of c.in-None.ensures
    ∙ ap (λ l. row_of (find (λ (v : AccountView). v.id == c.args.peer) l)) c.as_slice.ensures.value
    ∙ row_found c.self.inside.accounts.items c.args.peer
    ∙ ap (λ (v : LedgerView). row v.state c.args.peer) c.self.view_is

pub returns-in-Some : goal.returns-in-Some
returns-in-Some c =
    ap row_of c.in-Some.ensures
    ∙ ap (λ l. row_of (find (λ (v : AccountView). v.id == c.args.peer) l)) c.as_slice.ensures.value
    ∙ row_found c.self.inside.accounts.items c.args.peer
    ∙ ap (λ (v : LedgerView). row v.state c.args.peer) c.self.view_is
