use Rattle.std.proofs.Common.{rules}
use Rattle.change_codec.proofs.Distinct.{one_seen, seen_twice, was_there, was_absent}
use Rattle.change_codec.proofs.grammar.are_distinct.Goals as goal

pub returns-then-not-branch : goal.returns-then-not-branch
returns-then-not-branch c = seen_twice c.args.objects.now c.loop-last.rest.now c.in-Some.front.now c.in-Some.last.now c.loop-last.seen (search rules) (was_there _ _ c.in_ok-insert.ensures.added c.if-not-branch.true) c.loop-last.invariant

pub loop-last-preserved : goal.loop-last-preserved
loop-last-preserved c = one_seen c.args.objects.now c.loop-last.rest.now c.in-Some.front.now c.in-Some.last.now c.loop-last.seen c.insert.new.self (search rules) (was_absent _ _ c.in_ok-insert.ensures.added c.if-not-branch.false) c.in_ok-insert.ensures.updates.0 c.loop-last.invariant
