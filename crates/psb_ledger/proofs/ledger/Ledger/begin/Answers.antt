use Rattle.std.proofs.Common.{ap, ◌∙◌, map, arith}
use Rattle.psb_model.specs.declared.change.Change.TheVariants.{Begun}
use Rattle.psb_model.specs.Effects.{after}
use Rattle.psb_model.specs.Conditions.{allowed, capacity}
use Rattle.peer_account.specs.View.{named_row}
use Rattle.psb_ledger.specs.View.{LedgerView}
use Rattle.psb_ledger.proofs.Sound.{mine, begun_sound, text_capacity}
use Rattle.psb_ledger.proofs.ledger.Ledger.begin.Goals as goal

pub invariant_of-self : goal.invariant_of-self
invariant_of-self c =
    let l = c.self.inside in
    let next = ap (λ (v : LedgerView). v.next) c.self.view_is ∙ c.requires.room.settings in
    let rows = ap (λ v. map named_row v.items) c.swap.ensures.x_after ∙ ap (λ (v : LedgerView). map named_row v.next_accounts) c.self.view_is ∙ c.requires.room.accounts in
    let may = ap (λ (v : LedgerView). allowed v.state (Begun (record { body = c.args.body.now }))) c.self.view_is ∙ c.requires.may in
    let made = begun_sound (mine l) l.changes l.settings l.accounts.items l.issued l.used c.args.body.now c.take.result c.swap.new.x.items may c.self.invariant.sound (c.take.ensures.value ∙ next) rows (omega (arith, ap capacity (c.take.ensures.value ∙ next), text_capacity c.args.body.now)) in
    record { sound = made.1; own_part = c.self.invariant.own_part; blank_row = c.self.invariant.blank_row }

pub returns : goal.returns
returns c =
    let l = c.self.inside in
    let next = ap (λ (v : LedgerView). v.next) c.self.view_is ∙ c.requires.room.settings in
    let rows = ap (λ v. map named_row v.items) c.swap.ensures.x_after ∙ ap (λ (v : LedgerView). map named_row v.next_accounts) c.self.view_is ∙ c.requires.room.accounts in
    let may = ap (λ (v : LedgerView). allowed v.state (Begun (record { body = c.args.body.now }))) c.self.view_is ∙ c.requires.may in
    let made = begun_sound (mine l) l.changes l.settings l.accounts.items l.issued l.used c.args.body.now c.take.result c.swap.new.x.items may c.self.invariant.sound (c.take.ensures.value ∙ next) rows (omega (arith, ap capacity (c.take.ensures.value ∙ next), text_capacity c.args.body.now)) in
    made.0 ∙ ap (λ (v : LedgerView). after v.state (Begun (record { body = c.args.body.now }))) c.self.view_is
