-- The objects that leave, one after another.
use Rattle.std.proofs.Common.{◌≡◌, ◌-◌, ◌+◌, ◌++◌, ◌∷◌, [], sym, ap, ◌∙◌, subst, length, take, arith}
use Rattle.std.proofs.lemmas.List.{take_all, take_more}
use Rattle.accounts.specs.Freeing.{Freed}
use Rattle.accounts.proofs.Loosened.{Freeing, freeing_starts, freeing_room, freeing_on, same_count}
use Rattle.accounts.proofs.freeing.free.Goals as goal

pub loop-object-init : goal.loop-object-init
loop-object-init c =
    let vs = c.args.accounts.now.items in
    let os = c.args.objects.now in
    let all : length os ≡ length os - 0 = omega arith in
    subst (λ n. Freeing vs c.args.place [] os n vs) all (freeing_starts vs c.args.place os c.requires.room)

pub free_one-requires-clause-within : goal.free_one-requires-clause-within
free_one-requires-clause-within c = omega (arith, c.requires.within, same_count c.args.accounts.now.items c.loop-object.accounts.items c.loop-object.invariant.freed.rooms)

pub free_one-requires-clause-room : goal.free_one-requires-clause-room
free_one-requires-clause-room c = freeing_room c.args.accounts.now.items c.loop-object.accounts.items c.args.place c.loop-object.object-index (take c.loop-object.object-index c.args.objects.now) c.args.objects.now c.object-item.result c.loop-object.invariant c.loop-object-test.true c.object-item.is

pub loop-object-preserved : goal.loop-object-preserved
loop-object-preserved c =
    let vs = c.args.accounts.now.items in
    let os = c.args.objects.now in
    let k = c.loop-object.object-index in
    let o = c.object-item.result in
    let more : take k os ++ o ∷ [] ≡ take (k + 1) os = ap (λ x. take k os ++ x ∷ []) c.object-item.is ∙ sym (take_more os k o c.loop-object-test.true) in
    subst (λ done. Freeing vs c.args.place done os (length os - (k + 1)) c.free_one.new.accounts.items) more
    (freeing_on vs c.loop-object.accounts.items c.free_one.new.accounts.items c.args.place k (take k os) os o c.loop-object.invariant c.loop-object-test.true c.free_one.ensures.freed c.free_one.ensures.room)

pub returns : goal.returns
returns c = subst (λ done. Freed c.args.accounts.now.items c.args.place done c.loop-object.accounts.items) (take_all c.loop-object.object-index c.args.objects.now c.loop-object-test.false) c.loop-object.invariant.freed
