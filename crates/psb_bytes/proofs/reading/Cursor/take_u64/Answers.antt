use Rattle.std.proofs.Common.{◌≡◌, ℕ, ◌<◌, length, get_or, arith, rules, sym, ◌∙◌, ◌++◌, ap}
use Rattle.std.proofs.lemmas.Nat.{be_bytes_8}
use Rattle.std.specs.Int.{from_be_bytes, w64}
use Rattle.psb_bytes.proofs.reading.Cursor.take_u64.Goals as goal

pub returns-clause-front : goal.returns-clause-front
returns-clause-front c =
    let s = c.in_ok-front.front in
    let read : c.read_u64.result ≡ from_be_bytes w64 s = omega (arith, c.read_u64.ensures) in
    let long : length s ≡ 8 = search rules in
    let small : (i : ℕ) → get_or s i 0 < 256 = λ i. search rules in
    c.in_ok-front.ensures.front ∙ ap (λ l. l ++ c.take_array.new.self) (sym (be_bytes_8 s c.read_u64.result long small read))
