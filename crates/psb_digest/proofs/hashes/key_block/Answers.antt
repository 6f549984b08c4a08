use Rattle.std.proofs.Common.{◌∙◌, arith}
use Rattle.psb_digest.proofs.Digests.{key_block-short, key_block-long}
use Rattle.psb_digest.proofs.hashes.key_block.Goals as goal

pub returns-then-key-le64 : goal.returns-then-key-le64
returns-then-key-le64 c = key_block-short c.args.key.now _ c.if-key-le64.true c.copy_from_slice.ensures.after

pub returns-else-key-le64 : goal.returns-else-key-le64
returns-else-key-le64 c =
    let held = c.copy_from_slice-else-key-le64-2.ensures.after ∙ c.copy_from_slice-else-key-le64.view_is ∙ c.sha.ensures in
    key_block-long c.args.key.now _ (λ le. absurd (omega arith)) held
