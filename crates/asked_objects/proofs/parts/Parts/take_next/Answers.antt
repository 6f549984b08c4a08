-- The first behind the split is the object at the place, and is passed.
use Rattle.std.proofs.Common.{◌+◌, ◌-◌, ◌∙◌, length, sym, subst, arith}
use Rattle.psb_machine.specs.OwnProbes.{objects_to_ask}
use Rattle.asked_objects.specs.Parts.{outs_there}
use Rattle.asked_objects.specs.Places.{IsPassed}
use Rattle.asked_objects.proofs.Counting.{parts_joined}
use Rattle.asked_objects.proofs.Places.{pass_out}
use Rattle.asked_objects.proofs.Ranks.{first_owed, first_there, split_owed, split_there}
use Rattle.asked_objects.proofs.parts.Parts.take_next.Goals as goal

pub returns-then-is_first-clause-object : goal.returns-then-is_first-clause-object
returns-then-is_first-clause-object c =
    let r = c.args.account.now.row in
    let p = c.args.self.now in
    first_owed (objects_to_ask r) (outs_there r) p.debts.items c.args.place.now.number c.args.place.now.debts (parts_joined r p.chunks.items p.slots p.debts.items c.requires.parts c.requires.listable) c.requires.at.split c.debt_at-debt.result c.next_out-out.result c.debt_at-debt.ensures
    c.next_out-out.ensures (sym c.is_first.ensures ∙ c.if-is_first.true)

pub returns-then-is_first-clause-at : goal.returns-then-is_first-clause-at
returns-then-is_first-clause-at c =
    let r = c.args.account.now.row in
    let p = c.args.self.now in
    record {
      split =
          split_owed (objects_to_ask r) (outs_there r) p.debts.items c.args.place.now.number c.args.place.now.debts (parts_joined r p.chunks.items p.slots p.debts.items c.requires.parts c.requires.listable) c.requires.at.split c.debt_at-debt.result c.next_out-out.result c.debt_at-debt.ensures
          c.next_out-out.ensures (sym c.is_first.ensures ∙ c.if-is_first.true);
      passed = subst (λ n. IsPassed r n c.args.place.now.passed) (omega arith) c.requires.at.passed;
    }

pub returns-else-is_first-clause-object : goal.returns-else-is_first-clause-object
returns-else-is_first-clause-object c =
    let r = c.args.account.now.row in
    let p = c.args.self.now in
    first_there (objects_to_ask r) (outs_there r) p.debts.items c.args.place.now.number c.args.place.now.debts (parts_joined r p.chunks.items p.slots p.debts.items c.requires.parts c.requires.listable) c.requires.at.split c.debt_at-debt.result c.next_out-out.result c.debt_at-debt.ensures
    c.next_out-out.ensures (sym c.is_first.ensures ∙ c.if-is_first.false)

pub returns-else-is_first-clause-at : goal.returns-else-is_first-clause-at
returns-else-is_first-clause-at c =
    let r = c.args.account.now.row in
    let p = c.args.self.now in
    record {
      split =
          split_there (objects_to_ask r) (outs_there r) p.debts.items c.args.place.now.number c.args.place.now.debts (parts_joined r p.chunks.items p.slots p.debts.items c.requires.parts c.requires.listable) c.requires.at.split c.debt_at-debt.result c.next_out-out.result c.debt_at-debt.ensures
          c.next_out-out.ensures (sym c.is_first.ensures ∙ c.if-is_first.false);
      passed =
          subst (λ q. IsPassed r (c.args.place.now.number + 1 - c.args.place.now.debts - length p.chunks.items) q) (sym c.passed_with-place.ensures)
          (pass_out r p.chunks.items (c.args.place.now.number - c.args.place.now.debts) (c.args.place.now.number + 1 - c.args.place.now.debts) c.next_out-out.result c.args.place.now.passed c.requires.parts.outs_ordered c.requires.parts.chunks_are c.next_out-out.ensures (omega (arith, c.requires.at.split.few)) c.requires.at.passed);
    }
