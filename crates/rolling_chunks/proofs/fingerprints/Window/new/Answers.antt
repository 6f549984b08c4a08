use Rattle.std.proofs.Common.{refl}
use Rattle.rolling_chunks.proofs.Rolling.{IsRolling-empty}
use Rattle.rolling_chunks.proofs.fingerprints.Window.new.Goals as goal

pub invariant_of-result : goal.invariant_of-result
invariant_of-result c = IsRolling-empty c.in_ok-bytes.bytes 48 c.in_ok-bytes.ensures refl
