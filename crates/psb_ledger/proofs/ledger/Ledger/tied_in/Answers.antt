-- Some account's pending deal ties it.
use Rattle.std.proofs.Common.{◌∙◌, ap}
use Rattle.std.specs.List.{list_any}
use Rattle.psb_model.specs.State.{ties_in, tied_in}
use Rattle.peer_account.specs.View.{AccountView}
use Rattle.psb_ledger.specs.View.{LedgerView}
use Rattle.psb_ledger.proofs.Peers.{tied_names}
use Rattle.psb_ledger.proofs.ledger.Ledger.tied_in.Goals as goal

pub returns : goal.returns
returns c =
    let p = c.args.peer in
    let o = c.args.object.now in
    c.ties_in.ensures
    ∙ ap (list_any (λ (v : AccountView). ties_in v.id v.row.pending p o)) c.as_slice.ensures.value
    ∙ tied_names c.self.inside.accounts.items p o
    ∙ ap (λ (v : LedgerView). tied_in v.state p o) c.self.view_is
