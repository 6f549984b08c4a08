-- The slots that leave, one after another.
use Rattle.std.proofs.Common.{◌≡◌, ◌<◌, ◌-◌, ◌+◌, [], subst, length, take, get_or, arith}
use Rattle.std.proofs.lemmas.List.{take_all}
use Rattle.psb_bytes.specs.declared.ids.Object.TheVariants.{Slot}
use Rattle.psb_model.specs.Words.{slots}
use Rattle.accounts.specs.Freeing.{Freed}
use Rattle.accounts.proofs.Loosened.{Freeing, freeing_starts, freeing_room, freeing_on, same_count, slots_more, slots_count, slot_at, same_at}
use Rattle.accounts.proofs.freeing.free_slots.Goals as goal

pub loop-number-init : goal.loop-number-init
loop-number-init c =
    let vs = c.args.accounts.now.items in
    let os = slots c.args.numbers.now in
    let all : length os ≡ length os - 0 = omega arith in
    subst (λ n. Freeing vs c.args.place [] os n vs) all (freeing_starts vs c.args.place os c.requires.room)

pub free_one-requires-clause-within : goal.free_one-requires-clause-within
free_one-requires-clause-within c = omega (arith, c.requires.within, same_count c.args.accounts.now.items c.loop-number.accounts.items c.loop-number.invariant.freed.rooms)

pub free_one-requires-clause-room : goal.free_one-requires-clause-room
free_one-requires-clause-room c =
    let ns = c.args.numbers.now in
    let k = c.loop-number.number-index in
    let n = get_or ns k 0 in
    let lt : k < length (slots ns) = omega (arith, c.loop-number-test.true, slots_count ns) in
    freeing_room c.args.accounts.now.items c.loop-number.accounts.items c.args.place k (slots (take k ns)) (slots ns) (Slot n) c.loop-number.invariant lt (slot_at ns k n c.loop-number-test.true (same_at ns k 0 c.loop-number-test.true))

pub loop-number-preserved : goal.loop-number-preserved
loop-number-preserved c =
    let vs = c.args.accounts.now.items in
    let ns = c.args.numbers.now in
    let k = c.loop-number.number-index in
    let n = get_or ns k 0 in
    let lt : k < length (slots ns) = omega (arith, c.loop-number-test.true, slots_count ns) in
    subst (λ done. Freeing vs c.args.place done (slots ns) (length (slots ns) - (k + 1)) c.free_one.new.accounts.items) (slots_more ns k n c.loop-number-test.true (same_at ns k 0 c.loop-number-test.true))
    (freeing_on vs c.loop-number.accounts.items c.free_one.new.accounts.items c.args.place k (slots (take k ns)) (slots ns) (Slot n) c.loop-number.invariant lt c.free_one.ensures.freed c.free_one.ensures.room)

pub returns : goal.returns
returns c = subst (λ done. Freed c.args.accounts.now.items c.args.place (slots done) c.loop-number.accounts.items) (take_all c.loop-number.number-index c.args.numbers.now c.loop-number-test.false) c.loop-number.invariant.freed
