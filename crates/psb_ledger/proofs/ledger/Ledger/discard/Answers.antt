-- The objects leave, and chunks that only rows of debt named may leave too.
use Rattle.std.proofs.Common.{◌≤◌, ◌+◌, ◌-◌, not, ◌||◌, List, length, map, set, sym, ap, ◌∙◌, subst, arith}
use Rattle.psb_bytes.specs.declared.ids.Object.{Object}
use Rattle.psb_model.specs.declared.entries.OwnEntry.{OwnEntry}
use Rattle.psb_model.specs.Effects.{after, given_up, is_named}
use Rattle.psb_model.specs.declared.change.Change.TheVariants as change
use Rattle.peer_lists.specs.Entries.{in_order}
use Rattle.peer_account.specs.View.{named_row, discarded_row}
use Rattle.own_chunks.specs.OwnList.{own_key}
use Rattle.own_chunks.proofs.OwnTrees.{ordered_kept}
use Rattle.accounts.specs.Freeing.{Freed}
use Rattle.psb_ledger.specs.View.{LedgerView}
use Rattle.psb_ledger.specs.Moves.{MayDiscard}
use Rattle.psb_ledger.proofs.Peers.{sound_small}
use Rattle.psb_ledger.proofs.Discarding.{not_fewer}
use Rattle.psb_ledger.proofs.ledger.Ledger.discard.Goals as goal

pub give_up-requires-clause-named : goal.give_up-requires-clause-named
give_up-requires-clause-named c = λ h.
    let l = c.self.inside in
    let x = c.args.x.now in
    let r = c.index_mut-account.result.now in
    let here = subst (λ (v : LedgerView). MayDiscard v x c.args.at) (sym c.self.view_is) c.requires.may c.free.new.accounts.items r (subst (λ (os : List Object). Freed l.accounts.items c.args.at os c.free.new.accounts.items) c.as_slice.ensures c.free.ensures) c.index_mut-account.ensures.value in
    let row = c.discard.ensures.row ∙ ap (λ (os : List Object). discarded_row os r.row) c.as_slice-2.ensures in
    let as_many : length r.row.debts ≤ length c.discard.new.self.row.debts = omega (arith, not_fewer (length c.debts.result.now) (length c.debts-rows.result.now) h, ap length c.debts.ensures, ap length c.debts-rows.ensures) in
    ap (λ vs. given_up (map named_row vs) l.own.items) c.as_slice-3.ensures.value ∙ here.stays c.discard.new.self c.discard.ensures.id row as_many

pub overflow_add-self : goal.overflow_add-self
overflow_add-self c =
    let l = c.self.inside in
    let x = c.args.x.now in
    let r = c.index_mut-account.result.now in
    let here = subst (λ (v : LedgerView). MayDiscard v x c.args.at) (sym c.self.view_is) c.requires.may c.free.new.accounts.items r (subst (λ (os : List Object). Freed l.accounts.items c.args.at os c.free.new.accounts.items) c.as_slice.ensures c.free.ensures) c.index_mut-account.ensures.value in
    let row = c.discard.ensures.row ∙ ap (λ (os : List Object). discarded_row os r.row) c.as_slice-2.ensures in
    let total = l.used - c.held-before.result + c.held-after.result in
    let own = c.give_up.ensures ∙ ap (λ vs. given_up (map named_row vs) l.own.items) c.as_slice-3.ensures.value in
    let made = here.made c.discard.new.self total c.give_up.new.own.items (omega (arith, here.before, c.held-before.ensures, c.held-after.ensures, c.self.invariant.sound.used_is)) own c.discard.ensures.id row in
    omega (arith, sound_small total _ made.sound)

pub invariant_of-self : goal.invariant_of-self
invariant_of-self c =
    let l = c.self.inside in
    let x = c.args.x.now in
    let r = c.index_mut-account.result.now in
    let here = subst (λ (v : LedgerView). MayDiscard v x c.args.at) (sym c.self.view_is) c.requires.may c.free.new.accounts.items r (subst (λ (os : List Object). Freed l.accounts.items c.args.at os c.free.new.accounts.items) c.as_slice.ensures c.free.ensures) c.index_mut-account.ensures.value in
    let row = c.discard.ensures.row ∙ ap (λ (os : List Object). discarded_row os r.row) c.as_slice-2.ensures in
    let total = l.used - c.held-before.result + c.held-after.result in
    let own = c.give_up.ensures ∙ ap (λ vs. given_up (map named_row vs) l.own.items) c.as_slice-3.ensures.value in
    let made = here.made c.discard.new.self total c.give_up.new.own.items (omega (arith, here.before, c.held-before.ensures, c.held-after.ensures, c.self.invariant.sound.used_is)) own c.discard.ensures.id row in
    let kept : OwnEntry → _ = λ e. not e.marked || is_named (map named_row (set c.free.new.accounts.items c.args.at c.discard.new.self)) e.name in
    record {
      sound = made.sound;
      own_part = record { own_ordered = ap (in_order own_key) own ∙ ordered_kept kept l.own.items c.self.invariant.own_part.own_ordered; names_ordered = c.self.invariant.own_part.names_ordered };
      blank_row = c.self.invariant.blank_row;
    }

pub returns : goal.returns
returns c =
    let l = c.self.inside in
    let x = c.args.x.now in
    let r = c.index_mut-account.result.now in
    let here = subst (λ (v : LedgerView). MayDiscard v x c.args.at) (sym c.self.view_is) c.requires.may c.free.new.accounts.items r (subst (λ (os : List Object). Freed l.accounts.items c.args.at os c.free.new.accounts.items) c.as_slice.ensures c.free.ensures) c.index_mut-account.ensures.value in
    let row = c.discard.ensures.row ∙ ap (λ (os : List Object). discarded_row os r.row) c.as_slice-2.ensures in
    let total = l.used - c.held-before.result + c.held-after.result in
    let own = c.give_up.ensures ∙ ap (λ vs. given_up (map named_row vs) l.own.items) c.as_slice-3.ensures.value in
    let made = here.made c.discard.new.self total c.give_up.new.own.items (omega (arith, here.before, c.held-before.ensures, c.held-after.ensures, c.self.invariant.sound.used_is)) own c.discard.ensures.id row in
    made.after_is ∙ ap (λ (v : LedgerView). after v.state (change.Discarded c.args.x.now)) c.self.view_is
