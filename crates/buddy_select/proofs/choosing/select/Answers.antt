use Rattle.std.proofs.Common.{rules, ◌≡◌, length, ap, ◌∙◌}
use Rattle.std.specs.Prelude.{min}
use Rattle.buddy_select.specs.Choice.{stand_in_order}
use Rattle.buddy_select.proofs.Ordering.{put_in_order}
use Rattle.buddy_select.proofs.choosing.select.Goals as goal

pub returns-clause-choice : goal.returns-clause-choice
returns-clause-choice c =
    let count : c.min-count.result ≡ min c.args.n (length c.args.candidates.now) = search rules in
    record {
      all = c.in_ok-ordered.ensures.all;
      order = ap stand_in_order c.in_ok-ordered.ensures.order ∙ put_in_order c.args.candidates.now c.requires.asked c.requires.distinct;
      count = count;
    }
