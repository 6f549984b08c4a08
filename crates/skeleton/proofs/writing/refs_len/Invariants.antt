use Rattle.std.proofs.Common.{◌≡◌, ◌≤◌, ◌*◌, ◌^◌, length, take}
use Rattle.std.specs.Prelude.{flat_map}
use Rattle.skeleton.specs.Texts.{ref_bytes}
use Rattle.skeleton.proofs.writing.refs_len.Given as goal

abbrev pub invariant-loop-r : goal.invariant-loop-r
invariant-loop-r l = record { exact : l.len ≡ length (flat_map ref_bytes (take l.r-index l.refs)); bound : l.len ≤ 2 ^ 32 * l.r-index }
