use Rattle.std.proofs.Common.{◌≡◌, length, None, Some, Option, List, ℕ, sym, subst, rules}
use Rattle.std.specs.Prelude.{◌↔◌, IsSome}
use Rattle.std.specs.List.{AllPass}
use Rattle.hex.specs.Hex.{is_hex_digit}
use Rattle.psb_bytes.specs.Hex.{digest_of_text}
use Rattle.psb_bytes.proofs.HexDigits.{IsSome-digest_of_text}
use Rattle.psb_bytes.proofs.digits.read_digest.Goals as goal

pub returns-in-Ok-clause-digits : goal.returns-in-Ok-clause-digits
returns-in-Ok-clause-digits c =
    let text = c.args.text.now in
    let value : Some c.in-Ok.bytes ≡ digest_of_text text = search rules in
    subst (λ (o : Option (List ℕ)). IsSome o ↔ ((length text ≡ 64) × AllPass is_hex_digit text)) (sym value) (IsSome-digest_of_text text)

pub returns-in-Err-clause-digits : goal.returns-in-Err-clause-digits
returns-in-Err-clause-digits c =
    let text = c.args.text.now in
    let value : None ≡ digest_of_text text = search rules in
    subst (λ (o : Option (List ℕ)). IsSome o ↔ ((length text ≡ 64) × AllPass is_hex_digit text)) (sym value) (IsSome-digest_of_text text)
