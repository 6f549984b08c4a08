use Rattle.std.proofs.Common.{◌≡◌, ◌++◌, ℕ, List, length, take}
use Rattle.std.specs.List.{flat_map}
use Rattle.psb_bytes.specs.Numbers.{u16_bytes}
use Rattle.wire_codec.proofs.writing.put_names.Given as goal

abbrev pub invariant-loop-name : goal.invariant-loop-name
invariant-loop-name l = l.out.items ≡ l.fn.out.items ++ u16_bytes (length l.names) ++ flat_map (λ (name : List ℕ). name) (take l.name-index l.names)
