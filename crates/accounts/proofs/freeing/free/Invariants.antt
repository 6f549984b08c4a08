use Rattle.std.proofs.Common.{◌-◌, take, length}
use Rattle.accounts.proofs.Loosened.{Freeing}
use Rattle.accounts.proofs.freeing.free.Given as goal

abbrev pub invariant-loop-object : goal.invariant-loop-object
invariant-loop-object l = Freeing l.fn.accounts.items l.place (take l.object-index l.objects) l.objects (length l.objects - l.object-index) l.accounts.items
