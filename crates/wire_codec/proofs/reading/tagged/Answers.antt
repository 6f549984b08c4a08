use Rattle.std.proofs.Common.{List, ℕ, ◌-◌, length, subst, sym, ◌∙◌, ap, drop, slice_index, arith}
use Rattle.psb_bytes.specs.Numbers.{AreBytes}
use Rattle.wire_codec.specs.Views.{frame_of}
use Rattle.wire_codec.specs.declared.limits.TheConstants.{HEADER_BYTES, TAG_BYTES}
use Rattle.byte_fields.proofs.FieldLaws.{AreBytes-take, AreBytes-drop}
use Rattle.wire_codec.proofs.BodyLaws.{body_takes}
use Rattle.wire_codec.proofs.reading.tagged.Goals as goal

pub returns-in-Some-clause-fits : goal.returns-in-Some-clause-fits
returns-in-Some-clause-fits c =
    let ok : AreBytes c.args.bytes.now = λ i. omega (arith, c.type_inv.bytes i) in
    let is = c.split_at-2.ensures.back ∙ ap (λ (l : List ℕ). drop HEADER_BYTES l) c.split_at.ensures.front in
    let each = subst AreBytes (sym is) (AreBytes-drop HEADER_BYTES _ (AreBytes-take (length c.args.bytes.now - TAG_BYTES) c.args.bytes.now ok)) in
    (body_takes (slice_index c.args.bytes.now 4) c.split_at-2.result.1.now (frame_of c.in-Some.body) each c.in-Some.ensures).1
