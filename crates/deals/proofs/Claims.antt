-- Claims, as a loop goes over them.
use Rattle.std.proofs.Common.{◌≡◌, ℕ, ◌+◌, List, [], ◌++◌, take, Some, sym, ap, ◌∙◌, slice_get}
use Rattle.std.proofs.lemmas.List.{flat_map_more}
use Rattle.psb_bytes.specs.declared.lists.SlotClaim.{SlotClaim}
use Rattle.wire_codec.proofs.Spans.{read_more}
use Rattle.psb_machine.specs.Deals.{claims_joined}

-- the bytes of one claim more
pub joined_more : (claims : List SlotClaim) (j : ℕ) (c : SlotClaim) → slice_get claims j ≡ Some c → claims_joined (take j claims) ++ c.bytes ≡ claims_joined (take (j + 1) claims)
joined_more claims j c there = flat_map_more (λ (c : SlotClaim). c.bytes) [] (take j claims) c ∙ ap claims_joined (sym (read_more claims j c there))
