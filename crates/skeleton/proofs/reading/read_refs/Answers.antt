use Rattle.std.proofs.Common.{◌≡◌, Ok, rules, arith}
use Rattle.psb_bytes.specs.Numbers.{AreBytes}
use Rattle.skeleton.specs.Reading.{refs_of}
use Rattle.skeleton.proofs.TextLaws.{refs_have_text}
use Rattle.skeleton.proofs.reading.read_refs.Goals as goal

pub returns-clause-spelled : goal.returns-clause-spelled
unfolding refs_of
returns-clause-spelled c =
    let bytes : AreBytes c.args.text.now = λ i. omega (arith, c.type_inv.text i) in
    let read : refs_of c.args.text.now ≡ Ok c.in_ok-refs.refs = search rules in
    (refs_have_text c.args.text.now c.in_ok-refs.refs bytes read).1

pub returns-clause-valid : goal.returns-clause-valid
unfolding refs_of
returns-clause-valid c =
    let bytes : AreBytes c.args.text.now = λ i. omega (arith, c.type_inv.text i) in
    let read : refs_of c.args.text.now ≡ Ok c.in_ok-refs.refs = search rules in
    (refs_have_text c.args.text.now c.in_ok-refs.refs bytes read).0
