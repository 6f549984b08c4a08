use Rattle.std.proofs.Common.{rules, ◌≡◌, ℕ, ◌<◌, ◌&&◌, length, get_or, ◌∙◌, ap, sym}
use Rattle.wire_codec.specs.Fields.{is_digest, is_text, are_bytes, are_slots}
use Rattle.node_letters.proofs.Fields.{digest_fits, text_fits}
use Rattle.node_letters.proofs.frames.store_of.Goals as goal

pub returns-clause-fits : goal.returns-clause-fits
returns-clause-fits c =
    let long : length c.args.name ≡ 32 = search rules in
    let each : (k : ℕ) → get_or c.args.name k 0 < 256 = search rules in
    let slots : c.in_ok-copy.field-0 ≡ c.args.slots.now = search rules in
    ap (λ b. b && (are_slots 0 c.in_ok-copy.field-0 && is_text 1 c.from_vec.result)) (ap is_digest c.name.view_is ∙ digest_fits c.args.name long each)
    ∙ ap (λ b. b && is_text 1 c.from_vec.result) (ap (are_slots 0) slots ∙ c.requires.slots)
    ∙ ap (is_text 1) c.from_vec.ensures
    ∙ text_fits 1 c.args.bytes.items c.requires.some c.requires.short (ap are_bytes (sym c.deref.ensures.value) ∙ c.are_in_range.ensures)
