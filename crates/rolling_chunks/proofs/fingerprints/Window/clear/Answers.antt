use Rattle.rolling_chunks.proofs.Rolling.{IsRolling-empty}
use Rattle.rolling_chunks.proofs.fingerprints.Window.clear.Goals as goal

pub invariant_of-self : goal.invariant_of-self
invariant_of-self c = IsRolling-empty c.clear.new.self c.self.inside.bytes.capacity c.clear.ensures c.self.invariant.room
