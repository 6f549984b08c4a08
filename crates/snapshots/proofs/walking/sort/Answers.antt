use Rattle.std.proofs.Common.{rules}
use Rattle.std.proofs.lemmas.Cmp.{nat_list_cmp_total}
use Rattle.std.proofs.lemmas.Fn.{always_returns_same}
use Rattle.std.proofs.lemmas.List.Sorted.{ranks_by}
use Rattle.skeleton.specs.Paths.{is_below}
use Rattle.snapshots.specs.declared.walking.Found.{Found}
use Rattle.snapshots.proofs.Seen.{path_of}
use Rattle.snapshots.proofs.walking.sort.Goals as goal

pub returns-clause-sorted : goal.returns-clause-sorted
returns-clause-sorted c = c.sort_unstable_by.ensures.sorted (λ (f g : Found). is_below f.path g.path) (ranks_by nat_list_cmp_total path_of) (always_returns_same _ _ _ (λ a r f q. search rules))
