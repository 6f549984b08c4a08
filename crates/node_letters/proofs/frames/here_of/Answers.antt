use Rattle.std.proofs.Common.{arith, rules, ◌≡◌, ℕ, ◌<◌, ◌&&◌, length, get_or, ◌∙◌, ap, sym}
use Rattle.wire_codec.specs.Fields.{is_digest, is_text, are_bytes}
use Rattle.node_letters.proofs.Fields.{digest_fits, text_fits}
use Rattle.node_letters.proofs.frames.here_of.Goals as goal

pub returns-clause-fits : goal.returns-clause-fits
returns-clause-fits c =
    let long : length c.args.name ≡ 32 = search rules in
    let each : (k : ℕ) → get_or c.args.name k 0 < 256 = search rules in
    ap (λ b. b && is_text 0 c.from_vec.result) (ap is_digest c.name.view_is ∙ digest_fits c.args.name long each)
    ∙ ap (is_text 0) c.from_vec.ensures
    ∙ text_fits 0 c.args.bytes.items (omega arith) c.requires (ap are_bytes (sym c.deref.ensures.value) ∙ c.are_in_range.ensures)
