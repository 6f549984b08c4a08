use Rattle.std.proofs.Common.{◌≡◌, ◌+◌, decimal, length, ap, ◌∙◌, arith, length-append}
use Rattle.said_lines.proofs.LineLemmas.{few_digits}
use Rattle.said_lines.proofs.short_line.ShortLine.of_fault.Goals as goal

pub put_number-requires : goal.put_number-requires
put_number-requires c = omega (arith, few_digits c.args.place (omega arith), ap length c.put.ensures, ap length c.new-line.ensures)

pub put-requires-2 : goal.put-requires-2
put-requires-2 c =
    let long : length c.put_number.new.self ≡ length (decimal c.args.place) + length c.put.new.self = ap length c.put_number.ensures ∙ length-append (decimal c.args.place) c.put.new.self in
    omega (arith, few_digits c.args.place (omega arith), long, ap length c.put.ensures, ap length c.new-line.ensures)

pub put_number-requires-2 : goal.put_number-requires-2
put_number-requires-2 c =
    let long : length c.put_number.new.self ≡ length (decimal c.args.place) + length c.put.new.self = ap length c.put_number.ensures ∙ length-append (decimal c.args.place) c.put.new.self in
    omega (arith, few_digits c.args.place (omega arith), few_digits c.args.fault (omega arith), long, ap length c.put.ensures, ap length c.new-line.ensures, ap length c.put-2.ensures)

pub put-requires-3 : goal.put-requires-3
put-requires-3 c =
    let long : length c.put_number.new.self ≡ length (decimal c.args.place) + length c.put.new.self = ap length c.put_number.ensures ∙ length-append (decimal c.args.place) c.put.new.self in
    let more : length c.put_number-2.new.self ≡ length (decimal c.args.fault) + length c.put-2.new.self = ap length c.put_number-2.ensures ∙ length-append (decimal c.args.fault) c.put-2.new.self in
    omega (arith, few_digits c.args.place (omega arith), few_digits c.args.fault (omega arith), long, more, ap length c.put.ensures, ap length c.new-line.ensures, ap length c.put-2.ensures)
