-- Digests as text.
use Rattle.std.proofs.Common.{◌≡◌, ℕ, ◌*◌, List, length, Result, Ok, Err, Some, IfOk, refl, sym, ◌∙◌, ap, arith}
use Rattle.std.specs.Prelude.{◌↔◌, IsSome, is_some, is_ok}
use Rattle.std.specs.List.{AllPass}
use Rattle.std.specs.Result.{result_ok}
use Rattle.hex.specs.Hex.{decode_of, decode_sized, encode_lower, lower_digits, is_hex_digit}
use Rattle.hex.specs.declared.error.FromHexError.{FromHexError}
use Rattle.hex.proofs.HexLemmas.{IsOk-decode_sized, decode_sized-twice, length-encode_with}
use Rattle.psb_bytes.specs.Hex.{digest_of_text}

some_where_ok : (r : Result (List ℕ) FromHexError) → is_some (result_ok r) ≡ is_ok r
some_where_ok (Ok bytes) = refl
some_where_ok (Err e) = refl

-- a text spells a digest exactly where it has 64 digits
pub IsSome-digest_of_text : (text : List ℕ) → IsSome (digest_of_text text) ↔ ((length text ≡ 64) × AllPass is_hex_digit text)
IsSome-digest_of_text text =
    let same = some_where_ok (decode_sized text 32) in
    let digits = IsOk-decode_sized text 32 in
    (λ some. digits.0 (sym same ∙ some), λ h. same ∙ digits.1 h)

-- the text of a digest spells it, as far as there is one
pub digest_read_back : {T E : Type 0} (text_of : T → List ℕ) (r : Result T E) (digest : List ℕ) → length digest ≡ 32
    → IfOk r (λ t. text_of t ≡ encode_lower digest) → IfOk r (λ t. decode_of (text_of t) ≡ Ok digest) → IfOk r (λ t. digest_of_text (text_of t) ≡ Some digest)
digest_read_back text_of (Ok t) digest len spelled read =
    let long : length (text_of t) ≡ 2 * 32 = omega (arith, ap length spelled, length-encode_with lower_digits digest, len) in
    ap result_ok (decode_sized-twice (text_of t) 32 long ∙ read)
digest_read_back text_of (Err e) digest len spelled read = tt
