use Rattle.std.proofs.Common.{◌≡◌, ◌-◌, Some, None, ap, arith}
use Rattle.peer_debts.specs.Debts.{count_at}
use Rattle.peer_lists.proofs.Trees.{by_object}
use Rattle.peer_debts.proofs.Counts.{count_less, none_counted}
use Rattle.peer_debts.proofs.debt_list.take_count.Goals as goal

pub returns-then-count-lt2 : goal.returns-then-count-lt2
returns-then-count-lt2 c = count_less _ by_object c.args.counts.now c.remove.new.self c.args.object.now None c.remove.ensures.updates.0 (omega (arith, c.count_of-count.ensures, c.if-count-lt2.true))

pub returns-in-Ok : goal.returns-in-Ok
returns-in-Ok c = count_less _ by_object c.args.counts.now c.insert.new.self c.args.object.now (Some (c.count_of-count.result - 1)) c.in-Ok.ensures.updates.0 (ap (λ n. n - 1) c.count_of-count.ensures)

pub returns-in-Err : goal.returns-in-Err
returns-in-Err c = λ o.
    let none : count_at c.args.counts.now.entries c.args.object.now ≡ 0 = none_counted _ by_object c.args.counts.now c.args.object.now c.in-Err.ensures.absent in
    absurd (omega (arith, none, c.count_of-count.ensures, c.if-count-lt2.false))
