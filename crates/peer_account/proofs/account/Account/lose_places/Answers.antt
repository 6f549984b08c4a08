-- Each object at a place is lost as one of the list.
use Rattle.std.proofs.Common.{refl, sym, true, get_or, arith, ◌∙◌}
use Rattle.peer_account.proofs.Probed.{lost_first, lost_at, at_count, at_item, at_next, at_one}
use Rattle.peer_account.proofs.account.Account.lose_places.Goals as goal

pub loop-place-init : goal.loop-place-init
loop-place-init c = record {
  id = refl;
  row = sym (lost_first c.args.change true c.args.self.now.row);
  out_room = omega arith;
  debt_room = omega arith;
  small = c.requires.small;
}

pub lose_at-requires : goal.lose_at-requires
lose_at-requires c =
    let was = c.loop-place.invariant in
    let k = get_or c.args.places.now c.loop-place.place-index 0 in
    let most = at_count c.args.objects.now c.args.places.now c.loop-place.place-index k c.loop-place-test.true (at_item c.args.places.now c.loop-place.place-index c.loop-place-test.true) in
    record {
      out_room = omega (arith, c.requires.out_room, was.out_room, most);
      debt_room = omega (arith, c.requires.debt_room, was.debt_room, most);
      distinct = at_one c.args.objects.now k;
      small = was.small;
    }

pub loop-place-preserved : goal.loop-place-preserved
loop-place-preserved c =
    let was = c.loop-place.invariant in
    let k = get_or c.args.places.now c.loop-place.place-index 0 in
    let item = at_item c.args.places.now c.loop-place.place-index c.loop-place-test.true in
    let next = at_next c.args.objects.now c.args.places.now c.loop-place.place-index k c.loop-place-test.true item in
    record {
      id = c.lose_at.ensures.id ∙ was.id;
      row = lost_at c.args.change c.args.objects.now c.args.places.now c.loop-place.place-index k c.args.self.now.row c.loop-place.self.row c.lose_at.new.self.row c.requires.distinct c.loop-place-test.true item was.row c.lose_at.ensures.row;
      out_room = omega (arith, was.out_room, c.lose_at.ensures.out_room, next);
      debt_room = omega (arith, was.debt_room, c.lose_at.ensures.debt_room, next);
      small = omega (arith, was.small, c.lose_at.ensures.sums);
    }
