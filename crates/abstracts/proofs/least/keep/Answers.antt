use Rattle.std.proofs.Common.{◌≡◌, length, take, sym, ap, ◌∙◌, arith}
use Rattle.std.specs.Prelude.{insert}
use Rattle.abstracts.specs.Least.{place_in}
use Rattle.abstracts.proofs.Puts.{place_within, put_there, left_out}
use Rattle.abstracts.proofs.least.keep.Goals as goal

pub returns-then-place-k : goal.returns-then-place-k
returns-then-place-k c =
    let at : c.place_in-place.result ≡ place_in c.args.new c.args.least.now.items = c.place_in-place.ensures ∙ ap (place_in c.args.new) c.deref.ensures.value in
    sym (left_out c.args.k c.args.new c.args.least.now.items c.requires (omega (arith, at, c.if-place-k.true)))

pub insert-requires : goal.insert-requires
insert-requires c =
    let at : c.place_in-place.result ≡ place_in c.args.new c.args.least.now.items = c.place_in-place.ensures ∙ ap (place_in c.args.new) c.deref.ensures.value in
    omega (arith, at, place_within c.args.new c.args.least.now.items, c.deref.ensures.len, ap length c.deref.ensures.value)

pub returns : goal.returns
returns c =
    let at : c.place_in-place.result ≡ place_in c.args.new c.args.least.now.items = c.place_in-place.ensures ∙ ap (place_in c.args.new) c.deref.ensures.value in
    c.truncate.ensures.items ∙ ap (take c.args.k) (c.in_ok-insert.ensures.items ∙ ap (λ i. insert c.args.least.now.items i c.args.new) at ∙ sym (put_there c.args.new c.args.least.now.items))
