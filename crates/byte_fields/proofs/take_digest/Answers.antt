use Rattle.std.proofs.Common.{◌≡◌, refl, ◌+◌, List, ℕ, length, drop, ◌∙◌, ap, arith, length-append, length-drop}
use Rattle.byte_fields.specs.Fields.{digest_at}
use Rattle.byte_fields.proofs.FieldLaws.{digest_again}
use Rattle.byte_fields.proofs.take_digest.Goals as goal

pub returns : goal.returns
returns c =
    let old = c.args.fields.now in
    let new = c.take_digest.new.self in
    let name = c.in_ok-take_digest.field-0 in
    let whole : length old ≡ length name + length new = ap (λ (l : List ℕ). length l) c.in_ok-take_digest.ensures.front ∙ length-append name new in
    let left : length new ≡ length (drop 32 old) = ap (λ (l : List ℕ). length l) c.in_ok-take_digest.ensures.moved in
    ap digest_at c.in_ok-take_digest.ensures.front ∙ digest_again name new (omega (arith, whole, left, length-drop 32 old, c.in_ok-take_digest.ensures.enough.0 refl))
