use Rattle.std.proofs.Common.{rules, ◌≡◌, Err, subst, List}
use Rattle.std.proofs.lemmas.List.{take_all}
use Rattle.psb_station.specs.declared.item.Item.{Item}
use Rattle.snapshots.specs.WalkSteps.{Adds}
use Rattle.snapshots.specs.declared.walking.WalkFault.TheVariants as walk_fault
use Rattle.snapshots.proofs.WalkSteps.{adds_none, adds_more, full_at}
use Rattle.snapshots.proofs.walking.add_all.Goals as goal

pub loop-item-init : goal.loop-item-init
loop-item-init c = adds_none c.args.base.now c.args.walked.now c.requires

pub add-requires : goal.add-requires
add-requires c = c.loop-item.invariant.most

pub returns-in_err-add-clause-too_large : goal.returns-in_err-add-clause-too_large
returns-in_err-add-clause-too_large c = λ is.
    let same : c.add.result ≡ Err walk_fault.TooLarge = search rules in
    full_at c.args.base.now c.args.items.now c.loop-item.item-index c.item-item.result c.item-item.result c.args.walked.now c.loop-item.walked c.loop-item-test.true c.item-item.is c.loop-item.invariant (c.add.ensures.too_large same)

pub loop-item-preserved : goal.loop-item-preserved
loop-item-preserved c = adds_more c.args.base.now c.args.items.now c.loop-item.item-index c.item-item.result c.item-item.result c.args.walked.now c.loop-item.walked c.add.new.walked c.loop-item-test.true c.item-item.is c.loop-item.invariant c.in_ok-add.ensures.added

pub returns-clause-added : goal.returns-clause-added
returns-clause-added c = subst (λ (l : List Item). Adds c.args.base.now l c.args.walked.now c.loop-item.walked) (take_all c.loop-item.item-index c.args.items.now c.loop-item-test.false) c.loop-item.invariant
