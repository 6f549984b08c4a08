use Rattle.std.proofs.Common.{rules}
use Rattle.psb_digest.specs.Hashes.{hmac}
use Rattle.psb_digest.proofs.hashes.hmac.Goals as goal

pub returns : goal.returns
unfolding hmac
returns c = search rules
