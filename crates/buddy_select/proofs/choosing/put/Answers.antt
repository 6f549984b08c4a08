use Rattle.std.proofs.Common.{◌≡◌, length, sym, ap, ◌∙◌, arith}
use Rattle.std.specs.Prelude.{insert}
use Rattle.buddy_select.specs.Order.{place_in}
use Rattle.buddy_select.proofs.Ordering.{place_within, put_there}
use Rattle.buddy_select.proofs.choosing.put.Goals as goal

pub insert-requires : goal.insert-requires
insert-requires c =
    let at : c.place_in-place.result ≡ place_in c.args.new c.args.ordered.now.items = c.place_in-place.ensures ∙ ap (place_in c.args.new) c.deref.ensures.value in
    omega (arith, at, place_within c.args.new c.args.ordered.now.items, c.deref.ensures.len, ap length c.deref.ensures.value)

pub returns : goal.returns
returns c =
    let at : c.place_in-place.result ≡ place_in c.args.new c.args.ordered.now.items = c.place_in-place.ensures ∙ ap (place_in c.args.new) c.deref.ensures.value in
    c.in_ok-insert.ensures.items ∙ ap (λ i. insert c.args.ordered.now.items i c.args.new) at ∙ sym (put_there c.args.new c.args.ordered.now.items)
