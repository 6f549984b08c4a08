-- The place goes on to a chunk that is not looked for.
use Rattle.std.proofs.Common.{◌≡◌, false, Some, IfSome, rules}
use Rattle.std.specs.Option.{option_map}
use Rattle.own_chunks.specs.OwnList.{next_own}
use Rattle.next_deals.proofs.Reaching.{may_place, missing_step, fall_step}
use Rattle.next_deals.proofs.seeking.seek_missing.Goals as goal

pub loop-name-smaller : goal.loop-name-smaller
loop-name-smaller c =
    let s = c.args.ledger.now.state in
    let next : option_map (λ e. e.name) (next_own c.loop-name.reached s.own) ≡ Some c.in-Some.name = search rules in
    fall_step s c.loop-name.reached c.in-Some.name next

pub loop-name-preserved : goal.loop-name-preserved
loop-name-preserved c =
    let s = c.args.ledger.now.state in
    let next : option_map (λ e. e.name) (next_own c.loop-name.reached s.own) ≡ Some c.in-Some.name = search rules in
    let other : IfSome (next_own c.loop-name.reached s.own) (λ e. may_place s c.args.peer c.args.most e ≡ false) = search rules in
    missing_step s c.args.peer c.args.most c.loop-name.reached c.in-Some.name c.next_passed.ensures.ordered next other c.loop-name.invariant
