use Rattle.std.proofs.Common.{◌≡◌, ◌+◌, decimal, length, ap, ◌∙◌, arith, length-append}
use Rattle.said_lines.proofs.LineLemmas.{few_digits}
use Rattle.said_lines.proofs.short_line.ShortLine.of_number.Goals as goal

pub put_number-requires : goal.put_number-requires
put_number-requires c =
    omega (arith, c.requires, few_digits c.args.number (omega arith), ap length c.put.ensures, length-append c.args.back.now c.new-line.result, ap length c.new-line.ensures)

pub put-requires-2 : goal.put-requires-2
put-requires-2 c =
    let long : length c.put_number.new.self ≡ length (decimal c.args.number) + length c.put.new.self = ap length c.put_number.ensures ∙ length-append (decimal c.args.number) c.put.new.self in
    omega (arith, c.requires, few_digits c.args.number (omega arith), long, ap length c.put.ensures, length-append c.args.back.now c.new-line.result, ap length c.new-line.ensures)
