-- A digest as text: 64 hexadecimal digits, two for each byte, the high four bits first.
use Rattle.std.specs.Prelude.{ℕ, List, Option}
use Rattle.std.specs.Result.{result_ok}
use Rattle.hex.specs.Hex.{decode_sized}

-- the digest that a text of exactly 64 digits spells, in either case
abbrev pub digest_of_text : List ℕ → Option (List ℕ)
digest_of_text text = result_ok (decode_sized text 32)
