use Rattle.std.proofs.Common.{◌-◌, ◌≤◌, take, length}
use Rattle.psb_model.specs.Words.{slots}
use Rattle.peer_account.specs.States.{given}
use Rattle.accounts.specs.Freeing.{row_at}
use Rattle.accounts.proofs.Loosened.{Freeing}
use Rattle.accounts.proofs.freeing.free_given.Given as goal

abbrev pub invariant-loop-slot : goal.invariant-loop-slot
invariant-loop-slot l =
    let numbers = given (row_at l.fn.accounts.items l.place).pending in
    (l.count ≤ length numbers) × Freeing l.fn.accounts.items l.place (slots (take l.count numbers)) (slots numbers) (length (slots numbers) - l.count) l.accounts.items

abbrev pub decreases-loop-slot : goal.decreases-loop-slot
decreases-loop-slot l = length (given (row_at l.fn.accounts.items l.place).pending) - l.count
