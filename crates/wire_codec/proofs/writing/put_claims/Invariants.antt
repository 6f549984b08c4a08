use Rattle.std.proofs.Common.{◌≡◌, ◌++◌, length, take}
use Rattle.std.specs.List.{flat_map}
use Rattle.psb_bytes.specs.Numbers.{u16_bytes}
use Rattle.wire_codec.specs.Fields.{claim_bytes}
use Rattle.wire_codec.proofs.writing.put_claims.Given as goal

abbrev pub invariant-loop-claim : goal.invariant-loop-claim
invariant-loop-claim l = l.out.items ≡ l.fn.out.items ++ u16_bytes (length l.claims) ++ flat_map claim_bytes (take l.claim-index l.claims)
