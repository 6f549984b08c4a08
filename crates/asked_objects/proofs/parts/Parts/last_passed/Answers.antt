-- The last of so many first slots is at the place in front of their number.
use Rattle.std.proofs.Common.{◌-◌, sym, subst, ◌∙◌, arith}
use Rattle.asked_objects.specs.Places.{IsPassed}
use Rattle.asked_objects.proofs.Places.{none_passed, last_passed}
use Rattle.asked_objects.proofs.parts.Parts.last_passed.Goals as goal

pub returns-then-most-eq0 : goal.returns-then-most-eq0
returns-then-most-eq0 c = none_passed c.args.account.now.row c.args.count c.args.self.now.slots c.requires.parts.slots_are (sym c.min-most.ensures ∙ c.if-most-eq0.true)

pub returns : goal.returns
returns c =
    let r = c.args.account.now.row in
    subst (λ q. IsPassed r c.args.count q) (sym c.passed_with.ensures)
    (last_passed r c.args.count c.args.self.now.slots (c.min-most.result - 1) c.slot_at.result c.requires.parts.outs_ordered c.requires.parts.slots_are (omega (arith, c.min-most.ensures, c.if-most-eq0.false)) c.slot_at.ensures)
