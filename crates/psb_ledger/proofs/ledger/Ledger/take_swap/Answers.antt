-- The account needs what follows from the condition and the room, once what its slots carry has come loose.
use Rattle.std.proofs.Common.{subst, sym}
use Rattle.psb_model.specs.Words.{slots}
use Rattle.accounts.specs.Freeing.{Freed}
use Rattle.psb_ledger.specs.View.{LedgerView}
use Rattle.psb_ledger.specs.Moves.{MaySwap}
use Rattle.psb_ledger.proofs.ledger.Ledger.take_swap.Goals as goal

pub take_swap-requires : goal.take_swap-requires
take_swap-requires c =
    let may = subst (λ (v : LedgerView). MaySwap v c.args.x.now c.args.at) (sym c.self.view_is) c.requires.may in
    let loose = subst (λ ns. Freed c.self.inside.accounts.items c.args.at (slots ns) c.free_slots.new.accounts.items) c.as_slice.ensures c.free_slots.ensures in
    (may c.units_of-u.result c.free_slots.new.accounts.items c.index_mut-account.result.now loose c.index_mut-account.ensures.value c.units_of-u.ensures).needs
