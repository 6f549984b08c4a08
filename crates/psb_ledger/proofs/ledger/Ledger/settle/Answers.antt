-- What the deal moves is settled, and its chunk may leave.
use Rattle.std.proofs.Common.{◌≡◌, ℕ, List, ◌+◌, ◌-◌, map, set, sym, ap, ◌∙◌, subst, arith}
use Rattle.std.specs.Prelude.{◌==◌, position}
use Rattle.psb_model.specs.Effects.{after}
use Rattle.peer_lists.specs.Entries.{in_order}
use Rattle.peer_account.specs.View.{AccountView, named_row, settled_row}
use Rattle.peer_account.specs.Settling.{Settles}
use Rattle.own_chunks.specs.OwnList.{own_key, own_units, released}
use Rattle.psb_model.specs.declared.change.Change.TheVariants as change
use Rattle.psb_ledger.specs.View.{LedgerView}
use Rattle.psb_ledger.specs.Moves.{MaySettle}
use Rattle.accounts.specs.Freeing.{row_at}
use Rattle.accounts.proofs.Settled.{set_length}
use Rattle.psb_ledger.proofs.Peers.{sound_small}
use Rattle.psb_ledger.proofs.Leaving.{place_within}
use Rattle.psb_ledger.proofs.Replies.{ordered_released}
use Rattle.psb_ledger.proofs.ledger.Ledger.settle.Goals as goal

pub index_mut-account-requires : goal.index_mut-account-requires
index_mut-account-requires c =
    let l = c.self.inside in
    omega (
      arith,
      set_length l.accounts.items c.set_states.new.accounts.items c.args.x.now.peer c.args.at (row_at l.accounts.items c.args.at).pending c.set_states.ensures,
      place_within l.accounts.items c.args.x.now.peer c.args.at (c.requires.place ∙ ap (λ (v : LedgerView). position (λ (y : AccountView). y.id == c.args.x.now.peer) v.accounts) (sym c.self.view_is)),
      c.set_states.new.accounts.ok,
    )

pub settle-requires : goal.settle-requires
settle-requires c =
    let l = c.self.inside in
    let may = subst (λ (v : LedgerView). MaySettle v c.args.x.now c.args.at) (sym c.self.view_is) c.requires.may in
    subst (λ (ns : List ℕ). Settles c.index_mut-account.result.now c.units_of-placed.result ns c.index_mut-account.result.now.row.pending) (sym c.as_slice-slots.ensures) (may c.units_of-placed.result c.set_states.new.accounts.items c.index_mut-account.result.now c.set_states.ensures c.index_mut-account.ensures.value (c.units_of-placed.ensures ∙ ap (own_units l.own.items) c.placed.ensures)).needs

pub overflow_add-before : goal.overflow_add-before
overflow_add-before c =
    let l = c.self.inside in
    let may = subst (λ (v : LedgerView). MaySettle v c.args.x.now c.args.at) (sym c.self.view_is) c.requires.may in
    let here = may c.units_of-placed.result c.set_states.new.accounts.items c.index_mut-account.result.now c.set_states.ensures c.index_mut-account.ensures.value (c.units_of-placed.ensures ∙ ap (own_units l.own.items) c.placed.ensures) in
    let u = c.units_of.ensures ∙ ap (own_units l.own.items) c.coming.ensures in
    omega (arith, here.before, here.small, u, c.held.ensures)

pub overflow_sub-self : goal.overflow_sub-self
overflow_sub-self c =
    let l = c.self.inside in
    let may = subst (λ (v : LedgerView). MaySettle v c.args.x.now c.args.at) (sym c.self.view_is) c.requires.may in
    let here = may c.units_of-placed.result c.set_states.new.accounts.items c.index_mut-account.result.now c.set_states.ensures c.index_mut-account.ensures.value (c.units_of-placed.ensures ∙ ap (own_units l.own.items) c.placed.ensures) in
    let u = c.units_of.ensures ∙ ap (own_units l.own.items) c.coming.ensures in
    omega (arith, here.before, u, c.held.ensures, c.self.invariant.sound.used_is)

pub overflow_add-self : goal.overflow_add-self
overflow_add-self c =
    let l = c.self.inside in
    let may = subst (λ (v : LedgerView). MaySettle v c.args.x.now c.args.at) (sym c.self.view_is) c.requires.may in
    let here = may c.units_of-placed.result c.set_states.new.accounts.items c.index_mut-account.result.now c.set_states.ensures c.index_mut-account.ensures.value (c.units_of-placed.ensures ∙ ap (own_units l.own.items) c.placed.ensures) in
    let u = c.units_of.ensures ∙ ap (own_units l.own.items) c.coming.ensures in
    let total = l.used - (c.held.result + c.units_of.result) + c.held-after.result in
    let rows = map named_row (set c.set_states.new.accounts.items c.args.at c.settle.new.self) in
    let own : c.release.new.self.items ≡ released rows c.named-named.result l.own.items = c.release.ensures ∙ ap (λ vs. released (map named_row vs) c.named-named.result l.own.items) c.as_slice.ensures.value in
    let made = here.made c.settle.new.self c.named-named.result total c.release.new.self.items c.named-named.ensures (omega (arith, here.before, u, c.held.ensures, c.held-after.ensures, c.self.invariant.sound.used_is)) own c.settle.ensures.id (c.settle.ensures.row ∙ ap (λ (ns : List ℕ). settled_row c.units_of-placed.result ns c.index_mut-account.result.now.row) c.as_slice-slots.ensures) in
    omega (arith, sound_small total _ made.sound)

pub invariant_of-self : goal.invariant_of-self
invariant_of-self c =
    let l = c.self.inside in
    let may = subst (λ (v : LedgerView). MaySettle v c.args.x.now c.args.at) (sym c.self.view_is) c.requires.may in
    let here = may c.units_of-placed.result c.set_states.new.accounts.items c.index_mut-account.result.now c.set_states.ensures c.index_mut-account.ensures.value (c.units_of-placed.ensures ∙ ap (own_units l.own.items) c.placed.ensures) in
    let u = c.units_of.ensures ∙ ap (own_units l.own.items) c.coming.ensures in
    let total = l.used - (c.held.result + c.units_of.result) + c.held-after.result in
    let rows = map named_row (set c.set_states.new.accounts.items c.args.at c.settle.new.self) in
    let own : c.release.new.self.items ≡ released rows c.named-named.result l.own.items = c.release.ensures ∙ ap (λ vs. released (map named_row vs) c.named-named.result l.own.items) c.as_slice.ensures.value in
    let made = here.made c.settle.new.self c.named-named.result total c.release.new.self.items c.named-named.ensures (omega (arith, here.before, u, c.held.ensures, c.held-after.ensures, c.self.invariant.sound.used_is)) own c.settle.ensures.id (c.settle.ensures.row ∙ ap (λ (ns : List ℕ). settled_row c.units_of-placed.result ns c.index_mut-account.result.now.row) c.as_slice-slots.ensures) in
    record {
      sound = made.sound;
      own_part = record { own_ordered = ap (in_order own_key) own ∙ ordered_released rows c.named-named.result l.own.items c.self.invariant.own_part.own_ordered; names_ordered = c.self.invariant.own_part.names_ordered };
      blank_row = c.self.invariant.blank_row;
    }

pub returns : goal.returns
returns c =
    let l = c.self.inside in
    let may = subst (λ (v : LedgerView). MaySettle v c.args.x.now c.args.at) (sym c.self.view_is) c.requires.may in
    let here = may c.units_of-placed.result c.set_states.new.accounts.items c.index_mut-account.result.now c.set_states.ensures c.index_mut-account.ensures.value (c.units_of-placed.ensures ∙ ap (own_units l.own.items) c.placed.ensures) in
    let u = c.units_of.ensures ∙ ap (own_units l.own.items) c.coming.ensures in
    let total = l.used - (c.held.result + c.units_of.result) + c.held-after.result in
    let rows = map named_row (set c.set_states.new.accounts.items c.args.at c.settle.new.self) in
    let own : c.release.new.self.items ≡ released rows c.named-named.result l.own.items = c.release.ensures ∙ ap (λ vs. released (map named_row vs) c.named-named.result l.own.items) c.as_slice.ensures.value in
    let made = here.made c.settle.new.self c.named-named.result total c.release.new.self.items c.named-named.ensures (omega (arith, here.before, u, c.held.ensures, c.held-after.ensures, c.self.invariant.sound.used_is)) own c.settle.ensures.id (c.settle.ensures.row ∙ ap (λ (ns : List ℕ). settled_row c.units_of-placed.result ns c.index_mut-account.result.now.row) c.as_slice-slots.ensures) in
    made.after_is ∙ ap (λ (v : LedgerView). after v.state (change.Settled c.args.x.now)) c.self.view_is
