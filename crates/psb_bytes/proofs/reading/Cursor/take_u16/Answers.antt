use Rattle.std.proofs.Common.{◌≡◌, ℕ, ◌<◌, length, get_or, arith, rules, sym, ◌∙◌, ◌++◌, ap}
use Rattle.std.proofs.lemmas.Nat.{be_bytes_2}
use Rattle.std.specs.Int.{from_be_bytes, w16}
use Rattle.psb_bytes.proofs.reading.Cursor.take_u16.Goals as goal

pub returns-clause-front : goal.returns-clause-front
returns-clause-front c =
    let s = c.in_ok-front.front in
    let read : c.read_u16.result ≡ from_be_bytes w16 s = omega (arith, c.read_u16.ensures) in
    let long : length s ≡ 2 = search rules in
    let small : (i : ℕ) → get_or s i 0 < 256 = λ i. search rules in
    c.in_ok-front.ensures.front ∙ ap (λ l. l ++ c.take_array.new.self) (sym (be_bytes_2 s c.read_u16.result long small read))
