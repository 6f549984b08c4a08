use Rattle.std.proofs.Common.{◌≡◌, ◌/◌, length, subst, arith}
use Rattle.psb_digest.proofs.Streams.{Masking, masking_begun, masking_next, masking_ended}
use Rattle.psb_digest.proofs.stream.mask.Goals as goal

pub loop-i-init : goal.loop-i-init
loop-i-init c = masking_begun c.args.key.now c.args.stream c.args.bytes.now c.new-words.result c.new-words.ensures

pub loop-i-preserved : goal.loop-i-preserved
loop-i-preserved c =
    masking_next c.args.key.now c.args.stream c.loop-i.i _ c.next.result c.args.bytes.now c.loop-i.bytes c.xor_word.new.bytes c.loop-i.words c.next.new.self
    (omega arith) (omega arith) (omega arith) c.loop-i.auto.bytes c.loop-i.invariant c.next.ensures.value c.next.ensures.moved c.xor_word.auto.bytes c.xor_word.ensures

pub returns-then-whole-bytes : goal.returns-then-whole-bytes
returns-then-whole-bytes c =
    let whole : c.loop-i.i ≡ length c.args.bytes.now / 4 = omega arith in
    let m : Masking c.args.key.now c.args.stream c.args.bytes.now c.loop-i.bytes c.loop-i.words (length c.args.bytes.now / 4) =
    subst (λ i. Masking c.args.key.now c.args.stream c.args.bytes.now c.loop-i.bytes c.loop-i.words i) whole c.loop-i.invariant in
    masking_ended c.args.key.now c.args.stream _ _ c.next-then-whole-bytes.result c.args.bytes.now c.loop-i.bytes c.xor_word-then-whole-bytes.new.bytes c.loop-i.words
    (omega arith) (omega arith) c.loop-i.auto.bytes m c.next-then-whole-bytes.ensures.value c.xor_word-then-whole-bytes.auto.bytes c.xor_word-then-whole-bytes.ensures
