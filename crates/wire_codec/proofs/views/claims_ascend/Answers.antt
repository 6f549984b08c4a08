use Rattle.std.proofs.Common.{arith}
use Rattle.std.proofs.Common.{map, ℕ}
use Rattle.std.proofs.lemmas.List.{length-map}
use Rattle.psb_bytes.specs.declared.lists.SlotClaim.{SlotClaim}
use Rattle.wire_codec.proofs.Ascending.{ordered_all}
use Rattle.wire_codec.proofs.views.claims_ascend.Goals as goal

pub returns : goal.returns
returns c = ordered_all (map (λ c'. c'.slot) c.args.claims.now) c.loop-j.j (omega (arith, c.len-j-end.ensures, c.loop-j-test.false, length-map {A = SlotClaim} {B = ℕ})) c.loop-j.invariant
