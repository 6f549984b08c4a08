use Rattle.psb_ledger.proofs.Keeping.{kept_one}
use Rattle.psb_ledger.proofs.ledger.Ledger.keep.Goals as goal

pub invariant_of-self : goal.invariant_of-self
invariant_of-self c =
    let made = kept_one c.self.inside c.args.self.now c.args.x.now c.insert.new.self.items c.self.view_is c.self.invariant.sound c.self.invariant.own_part c.requires.grammar c.requires.may c.insert.ensures in
    record { sound = made.sound; own_part = made.own_part; blank_row = c.self.invariant.blank_row }

pub returns : goal.returns
returns c = (kept_one c.self.inside c.args.self.now c.args.x.now c.insert.new.self.items c.self.view_is c.self.invariant.sound c.self.invariant.own_part c.requires.grammar c.requires.may c.insert.ensures).after_is
