use Rattle.std.proofs.Common.{refl}
use Rattle.psb_digest.proofs.Streams.{length-masked_from, masked_from-twice}
use Rattle.convergent_seal.specs.Sealing.{seal_key, handle_of}
use Rattle.convergent_seal.proofs.laws.sealed_opens.Goals as goal

pub returns : goal.returns
returns c = λ plain.
    let key = seal_key (handle_of plain) in
    (record { named = refl; long = length-masked_from key 0 0 plain }, masked_from-twice key 0 0 plain)
