-- Each object is lost as one of the list.
use Rattle.std.proofs.Common.{refl, sym, false, arith, ◌∙◌}
use Rattle.peer_account.proofs.Probed.{lost_first, lost_more}
use Rattle.peer_account.proofs.account.Account.lose_all.Goals as goal

pub loop-object-init : goal.loop-object-init
loop-object-init c = record {
  id = refl;
  row = sym (lost_first c.args.change false c.args.self.now.row);
  out_room = omega arith;
  debt_room = omega arith;
  small = c.requires.small;
}

pub loop-object-preserved : goal.loop-object-preserved
loop-object-preserved c =
    let was = c.loop-object.invariant in
    record {
      id = c.lose.ensures.id ∙ was.id;
      row = lost_more c.args.change false c.args.objects.now c.loop-object.object-index c.object-item.result c.args.self.now.row c.loop-object.self.row c.lose.new.self.row c.requires.distinct c.loop-object-test.true c.object-item.is was.row c.lose.ensures.row;
      out_room = omega (arith, was.out_room, c.lose.ensures.out_room);
      debt_room = omega (arith, was.debt_room, c.lose.ensures.debt_room);
      small = omega (arith, was.small, c.lose.ensures.sums);
    }
