-- One object more leaves, and what leaves is the rest of what was answered for.
use Rattle.std.proofs.Common.{◌≡◌, refl, sym, ap, ◌∙◌, arith}
use Rattle.std.proofs.lemmas.List.{take_all}
use Rattle.psb_model.specs.State.{in_key, in_size, held_units}
use Rattle.psb_model.proofs.ByObject.{sum_by-without}
use Rattle.peer_account.specs.View.{left_row}
use Rattle.peer_account.proofs.Discarded.{left_first, left_more}
use Rattle.peer_account.proofs.account.Account.take_out_all.Goals as goal

pub loop-object-init : goal.loop-object-init
loop-object-init c = record { id = refl; row = sym (left_first c.args.self.now.row); in_room = omega arith }

pub loop-object-preserved : goal.loop-object-preserved
loop-object-preserved c =
    let was = c.loop-object.invariant in
    record {
      id = c.take_out.ensures.id ∙ was.id;
      row = left_more c.args.objects.now c.loop-object.object-index c.object-item.result c.args.self.now.row c.loop-object.self.row c.take_out.new.self.row c.loop-object-test.true c.object-item.is was.row c.take_out.ensures.row;
      in_room = omega (arith, was.in_room, c.take_out.ensures.in_room);
    }

pub overflow_sub-result : goal.overflow_sub-result
overflow_sub-result c =
    let r = c.args.self.now.row in
    let os = c.args.objects.now in
    let left : c.loop-object.self.row ≡ left_row os r = c.loop-object.invariant.row ∙ ap (λ l. left_row l r) (take_all c.loop-object.object-index os c.loop-object-test.false) in
    omega (arith, c.held-before.ensures, c.held.ensures, ap held_units left, sum_by-without in_key in_size os r.ins)

pub returns-clause-units : goal.returns-clause-units
returns-clause-units c =
    let r = c.args.self.now.row in
    let os = c.args.objects.now in
    let left : c.loop-object.self.row ≡ left_row os r = c.loop-object.invariant.row ∙ ap (λ l. left_row l r) (take_all c.loop-object.object-index os c.loop-object-test.false) in
    omega (arith, c.held-before.ensures, c.held.ensures, ap held_units left, sum_by-without in_key in_size os r.ins)
