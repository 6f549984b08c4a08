use Rattle.std.proofs.Common.{ap, ◌∙◌}
use Rattle.psb_ledger.specs.View.{LedgerView}
use Rattle.psb_ledger.proofs.Keeping.{chosen_one}
use Rattle.psb_ledger.proofs.ledger.Ledger.choose.Goals as goal

pub invariant_of-self : goal.invariant_of-self
invariant_of-self c =
    let l = c.self.inside in
    let made = chosen_one l c.args.self.now c.args.candidates.now c.swap.new.x.items c.self.view_is c.self.invariant.sound c.self.invariant.own_part c.requires.grammar c.requires.may (ap (λ v. v.items) c.swap.ensures.x_after ∙ ap (λ (v : LedgerView). v.next_chosen) c.self.view_is ∙ c.requires.room) in
    record { sound = made.sound; own_part = made.own_part; blank_row = c.self.invariant.blank_row }

pub returns : goal.returns
returns c =
    let l = c.self.inside in
    (chosen_one l c.args.self.now c.args.candidates.now c.swap.new.x.items c.self.view_is c.self.invariant.sound c.self.invariant.own_part c.requires.grammar c.requires.may (ap (λ v. v.items) c.swap.ensures.x_after ∙ ap (λ (v : LedgerView). v.next_chosen) c.self.view_is ∙ c.requires.room)).after_is
