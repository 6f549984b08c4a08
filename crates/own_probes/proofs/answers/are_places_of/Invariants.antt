use Rattle.std.proofs.Common.{◌≡◌, nat_lt, drop}
use Rattle.std.specs.List.{list_all}
use Rattle.own_probes.proofs.answers.are_places_of.Given as goal

abbrev pub invariant-loop-j : goal.invariant-loop-j
invariant-loop-j l = list_all (λ k. nat_lt k l.count) l.places ≡ list_all (λ k. nat_lt k l.count) (drop l.j l.places)
