use Rattle.accounts.proofs.Loosened.{Reserved}
use Rattle.accounts.proofs.freeing.reserve_outs.Given as goal

abbrev pub invariant-loop-place : goal.invariant-loop-place
invariant-loop-place l = Reserved l.fn.accounts.items l.count l.place l.accounts.items
