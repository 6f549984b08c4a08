use Rattle.std.proofs.Common.{◌≡◌, Ok, rules, arith}
use Rattle.psb_bytes.specs.Numbers.{AreBytes}
use Rattle.skeleton.specs.Reading.{skeleton_of}
use Rattle.skeleton.proofs.TextLaws.{skeleton_has_text}
use Rattle.skeleton.proofs.reading.read_skeleton.Goals as goal

pub returns-clause-spelled : goal.returns-clause-spelled
unfolding skeleton_of
returns-clause-spelled c =
    let bytes : AreBytes c.args.text.now = λ i. omega (arith, c.type_inv.text i) in
    let read : skeleton_of c.args.text.now ≡ Ok c.in_ok-skeleton.skeleton = search rules in
    (skeleton_has_text c.args.text.now c.in_ok-skeleton.skeleton bytes read).1
