-- One object more of those from the place on.
use Rattle.std.proofs.Common.{◌≡◌, ◌<◌, ◌++◌, ◌∙◌, ap, min, length, take, drop, arith, rules}
use Rattle.std.specs.Prelude.{option_to_list}
use Rattle.psb_machine.specs.OwnProbes.{objects_to_ask}
use Rattle.asked_objects.proofs.Listed.{one_listed}
use Rattle.asked_objects.proofs.Turning.{take_few}
use Rattle.asked_objects.proofs.drawing.listed_from.Goals as goal

pub loop-preserved : goal.loop-preserved
loop-preserved c =
    let r = c.args.account.now.row in
    let less : c.loop.counter < length (objects_to_ask r) = omega (arith, c.loop-test.true, c.min-end.ensures, c.count-count.ensures.count) in
    let pushed : c.push_some.new.objects.items ≡ c.loop.objects.items ++ option_to_list c.take_next.result = search rules in
    one_listed (objects_to_ask r) r c.args.parts.now.chunks.items c.args.parts.now.debts.items c.args.first c.loop.counter c.count-count.result c.loop.objects.items c.push_some.new.objects.items c.take_next.result c.loop.place c.take_next.new.place c.go_round.new.place
    c.requires.first less c.count-count.ensures.count c.take_next.ensures.object c.take_next.ensures.number c.take_next.ensures.at pushed c.go_round.ensures c.loop.invariant

pub returns : goal.returns
returns c =
    let os = objects_to_ask c.args.account.now.row in
    let first = c.args.first in
    let all : c.loop.counter ≡ min c.count-count.result 32 = omega (arith, c.loop-test.false, c.min-end.ensures, c.loop.auto.counter-end) in
    let made : c.from_vec.result ≡ c.loop.objects.items = search rules in
    made ∙ c.loop.invariant.objects_are ∙ ap (λ n. take n (drop first os ++ take first os)) all ∙ take_few 32 c.count-count.result first os c.count-count.ensures.count
