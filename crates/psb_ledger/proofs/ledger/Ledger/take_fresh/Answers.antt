-- The account needs what follows from the condition and the room.
use Rattle.std.proofs.Common.{subst, sym, ap, ◌∙◌, ◌+◌, arith}
use Rattle.psb_model.specs.Effects.{after}
use Rattle.psb_model.specs.declared.change.Change.TheVariants as change
use Rattle.psb_ledger.specs.View.{LedgerView}
use Rattle.psb_ledger.specs.Moves.{MayTake}
use Rattle.psb_ledger.proofs.ledger.Ledger.take_fresh.Goals as goal

pub take_fresh-requires : goal.take_fresh-requires
take_fresh-requires c =
    let may = subst (λ (v : LedgerView). MayTake v c.args.x.now c.args.at) (sym c.self.view_is) c.requires.may in
    (may c.units_of-u.result c.index_mut-account.result.now c.index_mut-account.ensures.value c.units_of-u.ensures).needs

pub overflow_add-self : goal.overflow_add-self
overflow_add-self c =
    let may = subst (λ (v : LedgerView). MayTake v c.args.x.now c.args.at) (sym c.self.view_is) c.requires.may in
    let here = may c.units_of-u.result c.index_mut-account.result.now c.index_mut-account.ensures.value c.units_of-u.ensures in
    omega (arith, here.issued_small)

pub overflow_add-self-2 : goal.overflow_add-self-2
overflow_add-self-2 c =
    let may = subst (λ (v : LedgerView). MayTake v c.args.x.now c.args.at) (sym c.self.view_is) c.requires.may in
    let here = may c.units_of-u.result c.index_mut-account.result.now c.index_mut-account.ensures.value c.units_of-u.ensures in
    omega (arith, here.total_small, c.self.invariant.sound.used_is)

pub invariant_of-self : goal.invariant_of-self
invariant_of-self c =
    let may = subst (λ (v : LedgerView). MayTake v c.args.x.now c.args.at) (sym c.self.view_is) c.requires.may in
    let here = may c.units_of-u.result c.index_mut-account.result.now c.index_mut-account.ensures.value c.units_of-u.ensures in
    let used = ap (λ n. n + c.units_of-u.result) c.self.invariant.sound.used_is in
    record {
      sound = (here.made c.take_fresh.new.self (c.self.inside.used + c.units_of-u.result) used c.take_fresh.ensures.id c.take_fresh.ensures.row).sound;
      own_part = c.self.invariant.own_part;
      blank_row = c.self.invariant.blank_row;
    }

pub returns : goal.returns
returns c =
    let may = subst (λ (v : LedgerView). MayTake v c.args.x.now c.args.at) (sym c.self.view_is) c.requires.may in
    let here = may c.units_of-u.result c.index_mut-account.result.now c.index_mut-account.ensures.value c.units_of-u.ensures in
    let used = ap (λ n. n + c.units_of-u.result) c.self.invariant.sound.used_is in
    (here.made c.take_fresh.new.self (c.self.inside.used + c.units_of-u.result) used c.take_fresh.ensures.id c.take_fresh.ensures.row).after_is
    ∙ ap (λ (v : LedgerView). after v.state (change.TookFresh c.args.x.now)) c.self.view_is
