use Rattle.std.proofs.Common.{◌≡◌, ◌++◌, ◌∷◌, [], ◌∙◌, ap, rules}
use Rattle.psb_model.specs.Effects.{set_marks, kept_of}
use Rattle.own_chunks.specs.OwnList.{lifts}
use Rattle.psb_ledger.proofs.Keeping.{snapped_one}
use Rattle.psb_ledger.proofs.ledger.Ledger.snap.Goals as goal

pub invariant_of-self : goal.invariant_of-self
invariant_of-self c =
    let pushed : c.push.new.self.items ≡ c.self.inside.kept.items ++ kept_of c.args.x ∷ [] = search rules in
    let lifted = c.lift.ensures ∙ ap (λ ns. set_marks (lifts ns) c.self.inside.own.items) c.as_slice.ensures in
    let made = snapped_one c.self.inside c.args.self.now (kept_of c.args.x) c.push.new.self.items c.lift.new.self.items c.self.view_is c.self.invariant.sound c.self.invariant.own_part c.requires.grammar c.requires.may pushed lifted in
    record { sound = made.sound; own_part = made.own_part; blank_row = c.self.invariant.blank_row }

pub returns : goal.returns
returns c =
    let pushed : c.push.new.self.items ≡ c.self.inside.kept.items ++ kept_of c.args.x ∷ [] = search rules in
    let lifted = c.lift.ensures ∙ ap (λ ns. set_marks (lifts ns) c.self.inside.own.items) c.as_slice.ensures in
    (snapped_one c.self.inside c.args.self.now (kept_of c.args.x) c.push.new.self.items c.lift.new.self.items c.self.view_is c.self.invariant.sound c.self.invariant.own_part c.requires.grammar c.requires.may pushed lifted).after_is
