use Rattle.std.proofs.Common.{◌≡◌, [], map, take}
use Rattle.abstracts.specs.Least.{under_salt, put_all}
use Rattle.abstracts.proofs.least.abstract_of.Given as goal

abbrev pub invariant-loop-name : goal.invariant-loop-name
invariant-loop-name l = l.least.items ≡ take l.k (put_all [] (map (under_salt l.salt) (take l.name-index l.names)))
