use Rattle.std.proofs.Common.{◌≡◌, map, take}
use Rattle.convergent_seal.specs.Sealing.{sealed_ref}
use Rattle.rolling_chunks.specs.Laws.{part}
use Rattle.snapshots.proofs.sealing.refs_of_text.Given as goal

abbrev pub invariant-loop-span : goal.invariant-loop-span
invariant-loop-span l = record {
  refs : l.refs.items ≡ map sealed_ref (map (part l.text) (take l.span-index l.span-items));
}
