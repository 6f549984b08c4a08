-- The place goes on to a chunk that is not marked.
use Rattle.std.proofs.Common.{◌≡◌, false, Some, rules}
use Rattle.psb_model.specs.State.{row, own_marked}
use Rattle.next_deals.specs.Searches.{next_out}
use Rattle.next_deals.proofs.Reaching.{marked_on, outs_fall}
use Rattle.next_deals.proofs.seeking.seek_marked.Goals as goal

pub loop-name-smaller : goal.loop-name-smaller
loop-name-smaller c =
    let outs = (row c.args.ledger.now.state c.args.peer).outs in
    let next : next_out c.loop-name.reached outs ≡ Some c.in-Some.name = search rules in
    outs_fall c.loop-name.reached outs c.in-Some.name next

pub loop-name-preserved : goal.loop-name-preserved
loop-name-preserved c =
    let own = c.args.ledger.now.state.own in
    let outs = (row c.args.ledger.now.state c.args.peer).outs in
    let next : next_out c.loop-name.reached outs ≡ Some c.in-Some.name = search rules in
    let free : own_marked own c.in-Some.name ≡ false = search rules in
    marked_on c.loop-name.reached own outs c.in-Some.name c.next_unmarked.ensures.ordered next free c.loop-name.invariant
