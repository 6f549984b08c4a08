-- The reply is noted, and the chunk of the deal may leave.
use Rattle.std.proofs.Common.{◌≡◌, ◌-◌, map, set, sym, ap, ◌∙◌, subst, arith}
use Rattle.psb_model.specs.Effects.{after}
use Rattle.peer_lists.specs.Entries.{in_order}
use Rattle.peer_account.specs.View.{named_row}
use Rattle.own_chunks.specs.OwnList.{own_key, own_units, released}
use Rattle.psb_model.specs.declared.change.Change.TheVariants as change
use Rattle.psb_ledger.specs.View.{LedgerView}
use Rattle.psb_ledger.specs.Moves.{MayTurn}
use Rattle.psb_ledger.proofs.Replies.{ordered_released}
use Rattle.psb_ledger.proofs.ledger.Ledger.turn.Goals as goal

pub invariant_of-self : goal.invariant_of-self
invariant_of-self c =
    let l = c.self.inside in
    let here = subst (λ (v : LedgerView). MayTurn v c.args.x.now c.args.at) (sym c.self.view_is) c.requires.may c.index_mut-account.result.now c.index_mut-account.ensures.value in
    let u = c.units_of-coming.ensures ∙ ap (own_units l.own.items) c.coming.ensures in
    let rows = map named_row (set l.accounts.items c.args.at c.turn.new.self) in
    let own : c.release.new.self.items ≡ released rows c.named-named.result l.own.items = c.release.ensures ∙ ap (λ vs. released (map named_row vs) c.named-named.result l.own.items) c.as_slice.ensures.value in
    let made = here.made c.turn.new.self c.named-named.result (l.used - c.units_of-coming.result) c.release.new.self.items c.named-named.ensures (omega (arith, here.enough, u, c.self.invariant.sound.used_is)) own c.turn.ensures.id c.turn.ensures.row in
    record {
      sound = made.sound;
      own_part = record { own_ordered = ap (in_order own_key) own ∙ ordered_released rows c.named-named.result l.own.items c.self.invariant.own_part.own_ordered; names_ordered = c.self.invariant.own_part.names_ordered };
      blank_row = c.self.invariant.blank_row;
    }

pub returns : goal.returns
returns c =
    let l = c.self.inside in
    let here = subst (λ (v : LedgerView). MayTurn v c.args.x.now c.args.at) (sym c.self.view_is) c.requires.may c.index_mut-account.result.now c.index_mut-account.ensures.value in
    let u = c.units_of-coming.ensures ∙ ap (own_units l.own.items) c.coming.ensures in
    let rows = map named_row (set l.accounts.items c.args.at c.turn.new.self) in
    let own : c.release.new.self.items ≡ released rows c.named-named.result l.own.items = c.release.ensures ∙ ap (λ vs. released (map named_row vs) c.named-named.result l.own.items) c.as_slice.ensures.value in
    let made = here.made c.turn.new.self c.named-named.result (l.used - c.units_of-coming.result) c.release.new.self.items c.named-named.ensures (omega (arith, here.enough, u, c.self.invariant.sound.used_is)) own c.turn.ensures.id c.turn.ensures.row in
    made.after_is ∙ ap (λ (v : LedgerView). after v.state (change.Turned c.args.x.now)) c.self.view_is
