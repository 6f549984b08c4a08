use Rattle.std.proofs.Common.{rules, ◌≡◌, false, take}
use Rattle.psb_model.specs.Words.{name_listed}
use Rattle.psb_model.specs.State.{row}
use Rattle.psb_model.specs.Proposing.{slots_to_give}
use Rattle.deals.proofs.Placing.{with_enough, with_too_few}
use Rattle.deals.proofs.proposing.cancel.Goals as goal

pub returns-then-as_slice-units : goal.returns-then-as_slice-units
returns-then-as_slice-units c =
    let s = c.args.planner.now.state in
    let p = c.args.peer in
    let slots = c.in_ok-slots.slots in
    let is : slots ≡ take c.args.units (slots_to_give s p) = search rules in
    with_too_few s p c.args.name.now c.args.units slots is (search rules)

pub returns : goal.returns
returns c =
    let s = c.args.planner.now.state in
    let p = c.args.peer in
    let name = c.args.name.now in
    let slots = c.in_ok-slots.slots in
    let unturned : name_listed (row s p).turned_cancels name ≡ false = search rules in
    let is : slots ≡ take c.args.units (slots_to_give s p) = search rules in
    with_enough s p name c.args.units slots unturned is (search rules)
