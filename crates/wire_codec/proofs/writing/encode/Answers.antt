use Rattle.std.proofs.Common.{ap, ◌∙◌, arith, length, List, ℕ, ◌+◌, ◌++◌, ◌≤◌}
use Rattle.wire_codec.specs.declared.limits.TheConstants.{HEADER_BYTES, TAG_BYTES, MOST_FRAME_BYTES}
use Rattle.wire_codec.specs.Frames.{body_of}
use Rattle.wire_codec.proofs.SizeLaws.{body_size}
use Rattle.wire_codec.proofs.FrameLaws.{written_size}
use Rattle.wire_codec.proofs.writing.encode.Goals as goal

pub overflow_cast-len : goal.overflow_cast-len
overflow_cast-len c =
    let h = body_size c.args.frame.now c.requires in
    let whole = c.in_ok-put_body.ensures ∙ ap (λ (l : List ℕ). l ++ body_of c.args.frame.now) c.new-body.ensures.items in
    omega (arith, h, c.len-2.ensures, ap (λ (l : List ℕ). length l) whole, c.put_body.new.out.ok)

pub returns-clause-size : goal.returns-clause-size
returns-clause-size c =
    let whole = c.in_ok-put_body.ensures ∙ ap (λ (l : List ℕ). l ++ body_of c.args.frame.now) c.new-body.ensures.items in
    let short : HEADER_BYTES + length c.put_body.new.out.items + TAG_BYTES ≤ MOST_FRAME_BYTES = omega (arith, body_size c.args.frame.now c.requires, ap (λ (l : List ℕ). length l) whole) in
    let body = c.in_ok-put_bytes.ensures ∙ ap (λ (l : List ℕ). c.put_header.new.out.items ++ l) c.deref.ensures.value in
    let out = c.in_ok-put_bytes-2.ensures ∙ ap (λ (l : List ℕ). l ++ c.tag.inside.0) body in
    written_size _ c.put_header.new.out.items c.put_body.new.out.items c.tag.inside.0 c.put_bytes-2.new.out.items c.in_ok-out.out.items _ _ _ _ _ _ c.in_ok-out.ensures.items c.in_ok-put_header.ensures short out (c.tag.view_is ∙ c.hmac-tag.ensures)
