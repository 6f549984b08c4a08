use Rattle.std.proofs.Common.{◌≡◌, map, take}
use Rattle.abstracts.specs.declared.least.Salted.{Salted}
use Rattle.abstracts.proofs.least.names_of.Given as goal

abbrev pub invariant-loop-one : goal.invariant-loop-one
invariant-loop-one l = l.names.items ≡ map (λ (s : Salted). s.name) (take l.one-index l.least)
