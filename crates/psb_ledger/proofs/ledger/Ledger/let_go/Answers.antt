-- What the account gives up follows from the condition.
use Rattle.std.proofs.Common.{subst, sym, ap, ◌∙◌, ◌-◌, length, arith}
use Rattle.psb_model.specs.Effects.{after}
use Rattle.psb_model.specs.declared.change.Change.TheVariants as change
use Rattle.psb_ledger.specs.View.{LedgerView}
use Rattle.psb_ledger.specs.Moves.{MayLetGo}
use Rattle.psb_ledger.proofs.ledger.Ledger.let_go.Goals as goal

pub let_go-requires : goal.let_go-requires
let_go-requires c =
    let may = subst (λ (v : LedgerView). MayLetGo v c.args.x.now c.args.at) (sym c.self.view_is) c.requires.may in
    (may (length c.as_slice.result.now) c.index_mut-account.result.now c.index_mut-account.ensures.value (ap length c.as_slice.ensures)).needs

pub overflow_sub-self : goal.overflow_sub-self
overflow_sub-self c =
    let may = subst (λ (v : LedgerView). MayLetGo v c.args.x.now c.args.at) (sym c.self.view_is) c.requires.may in
    let here = may (length c.as_slice.result.now) c.index_mut-account.result.now c.index_mut-account.ensures.value (ap length c.as_slice.ensures) in
    omega (arith, here.enough, c.self.invariant.sound.used_is)

pub invariant_of-self : goal.invariant_of-self
invariant_of-self c =
    let may = subst (λ (v : LedgerView). MayLetGo v c.args.x.now c.args.at) (sym c.self.view_is) c.requires.may in
    let here = may (length c.as_slice.result.now) c.index_mut-account.result.now c.index_mut-account.ensures.value (ap length c.as_slice.ensures) in
    let made = here.made c.let_go.new.self (c.self.inside.used - length c.as_slice.result.now) (omega (arith, here.enough, c.self.invariant.sound.used_is)) c.let_go.ensures.id c.let_go.ensures.row in
    record { sound = made.sound; own_part = c.self.invariant.own_part; blank_row = c.self.invariant.blank_row }

pub returns : goal.returns
returns c =
    let may = subst (λ (v : LedgerView). MayLetGo v c.args.x.now c.args.at) (sym c.self.view_is) c.requires.may in
    let here = may (length c.as_slice.result.now) c.index_mut-account.result.now c.index_mut-account.ensures.value (ap length c.as_slice.ensures) in
    (here.made c.let_go.new.self (c.self.inside.used - length c.as_slice.result.now) (omega (arith, here.enough, c.self.invariant.sound.used_is)) c.let_go.ensures.id c.let_go.ensures.row).after_is
    ∙ ap (λ (v : LedgerView). after v.state (change.LetGo c.args.x.now)) c.self.view_is
