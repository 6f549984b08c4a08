use Rattle.std.proofs.Common.{◌∙◌, sym, ap, length, ◌++◌, ◌%◌, ◌+◌, ◌∷◌, ◌≡◌, decimal, ◌/◌, arith}
use Rattle.std.proofs.lemmas.Fmt.{decimal_digit, decimal_nonempty}
use Rattle.said_lines.proofs.LineLemmas.{one_more_digit, last_digit_behind}
use Rattle.said_lines.proofs.short_line.ShortLine.+put_number.Goals as goal

pub put-requires : goal.put-requires
put-requires t c = omega (arith, c.requires, decimal_nonempty c.args.number (omega arith))

pub put_number-requires : goal.put_number-requires
put_number-requires t c = (omega (arith, c.decreases, c.if-number-ge10.true), omega (arith, c.requires, ap length c.put.ensures, one_more_digit c.args.number c.if-number-ge10.true (omega arith)))

pub returns-then-number-ge10 : goal.returns-then-number-ge10
returns-then-number-ge10 t c = c.put_number.ensures ∙ ap (λ l. decimal (c.args.number / 10) ++ l) c.put.ensures ∙ last_digit_behind c.args.number c.args.self.now c.if-number-ge10.true (omega arith)

pub returns-else-number-ge10 : goal.returns-else-number-ge10
returns-else-number-ge10 t c =
    let digit : c.args.number % 10 ≡ c.args.number = omega (arith, c.if-number-ge10.false) in
    c.put.ensures ∙ ap (λ d. (48 + d) ∷ c.args.self.now) digit ∙ ap (λ l. l ++ c.args.self.now) (sym (decimal_digit c.args.number c.if-number-ge10.false))
