use Rattle.std.proofs.Common.{rules}
use Rattle.std.specs.Prelude.{nat_lt}
use Rattle.std.proofs.lemmas.List.Sorted.{IsPartitionPoint-from_clause, IsPartitionedBy-ltb}
use Rattle.slot_runs.proofs.Parts.{ascending, found_at}
use Rattle.slot_runs.proofs.part.place_from.Goals as goal

pub returns : goal.returns
returns c =
    let parted = IsPartitionedBy-ltb (λ n. n) c.args.numbers.now c.args.number (ascending c.args.numbers.now c.requires) in
    found_at c.args.numbers.now c.args.number c.partition_point.result (IsPartitionPoint-from_clause (λ n. nat_lt n c.args.number) _ _ c.partition_point.ensures.partitioned parted (λ a r q k. search rules))
