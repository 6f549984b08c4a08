use Rattle.std.proofs.Common.{◌-◌, take, length}
use Rattle.psb_model.specs.Words.{slots}
use Rattle.accounts.proofs.Loosened.{Freeing}
use Rattle.accounts.proofs.freeing.free_slots.Given as goal

abbrev pub invariant-loop-number : goal.invariant-loop-number
invariant-loop-number l = Freeing l.fn.accounts.items l.place (slots (take l.number-index l.numbers)) (slots l.numbers) (length (slots l.numbers) - l.number-index) l.accounts.items
