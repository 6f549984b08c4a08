-- The slots that the pending Cancel gives, one after another.
use Rattle.std.proofs.Common.{◌≡◌, ◌<◌, ◌-◌, ◌+◌, ◌^◌, [], subst, length, take, arith}
use Rattle.std.proofs.lemmas.List.{take_all}
use Rattle.psb_bytes.specs.declared.ids.Object.TheVariants.{Slot}
use Rattle.psb_model.specs.Words.{slots}
use Rattle.peer_account.specs.States.{given}
use Rattle.accounts.specs.Freeing.{row_at, Freed}
use Rattle.accounts.proofs.Loosened.{Freeing, freeing_starts, freeing_room, freeing_on, same_count, slots_more, slots_count, slot_at, given_there, number_at, none_at}
use Rattle.accounts.proofs.freeing.free_given.Goals as goal

pub index-requires : goal.index-requires
index-requires c = omega (arith, c.requires.within, same_count c.args.accounts.now.items c.loop-slot.accounts.items c.loop-slot.invariant.1.freed.rooms, c.loop-slot.accounts.ok)

pub loop-slot-init : goal.loop-slot-init
loop-slot-init c =
    let vs = c.args.accounts.now.items in
    let os = slots (given (row_at vs c.args.place).pending) in
    let all : length os ≡ length os - 0 = omega arith in
    (omega arith, subst (λ n. Freeing vs c.args.place [] os n vs) all (freeing_starts vs c.args.place os c.requires.room))

pub free_one-requires-clause-within : goal.free_one-requires-clause-within
free_one-requires-clause-within c = omega (arith, c.requires.within, same_count c.args.accounts.now.items c.loop-slot.accounts.items c.loop-slot.invariant.1.freed.rooms)

pub free_one-requires-clause-room : goal.free_one-requires-clause-room
free_one-requires-clause-room c =
    let vs = c.args.accounts.now.items in
    let ns = given (row_at vs c.args.place).pending in
    let k = c.loop-slot.count in
    let there = number_at ns k c.in-Some.slot (given_there vs c.loop-slot.accounts.items c.args.place k c.index.result.now (slots (take k ns)) _ c.loop-slot.invariant.1.freed c.requires.within c.index.ensures c.in-Some.ensures.slot) in
    let lt : k < length (slots ns) = omega (arith, there.0, slots_count ns) in
    freeing_room vs c.loop-slot.accounts.items c.args.place k (slots (take k ns)) (slots ns) (Slot c.in-Some.slot) c.loop-slot.invariant.1 lt (slot_at ns k c.in-Some.slot there.0 there.1)

pub overflow_add-count : goal.overflow_add-count
overflow_add-count c = let fits : c.loop-slot.count + 1 < 2 ^ 64 = c.given.ensures.fits c.in-Some.slot c.in-Some.is in search (arith, fits)

pub loop-slot-smaller : goal.loop-slot-smaller
loop-slot-smaller c =
    let vs = c.args.accounts.now.items in
    let ns = given (row_at vs c.args.place).pending in
    let k = c.loop-slot.count in
    let there = number_at ns k c.in-Some.slot (given_there vs c.loop-slot.accounts.items c.args.place k c.index.result.now (slots (take k ns)) _ c.loop-slot.invariant.1.freed c.requires.within c.index.ensures c.in-Some.ensures.slot) in
    let less : length ns - (k + 1) < length ns - k = omega (arith, there.0) in
    less

pub loop-slot-preserved : goal.loop-slot-preserved
loop-slot-preserved c =
    let vs = c.args.accounts.now.items in
    let ns = given (row_at vs c.args.place).pending in
    let k = c.loop-slot.count in
    let n = c.in-Some.slot in
    let there = number_at ns k n (given_there vs c.loop-slot.accounts.items c.args.place k c.index.result.now (slots (take k ns)) _ c.loop-slot.invariant.1.freed c.requires.within c.index.ensures c.in-Some.ensures.slot) in
    let lt : k < length (slots ns) = omega (arith, there.0, slots_count ns) in (
      omega (arith, there.0),
      subst (λ done. Freeing vs c.args.place done (slots ns) (length (slots ns) - (k + 1)) c.free_one.new.accounts.items) (slots_more ns k n there.0 there.1)
          (freeing_on vs c.loop-slot.accounts.items c.free_one.new.accounts.items c.args.place k (slots (take k ns)) (slots ns) (Slot n) c.loop-slot.invariant.1 lt c.free_one.ensures.freed c.free_one.ensures.room),
    )

pub returns : goal.returns
returns c =
    let vs = c.args.accounts.now.items in
    let ns = given (row_at vs c.args.place).pending in
    let k = c.loop-slot.count in
    let none = none_at ns k (given_there vs c.loop-slot.accounts.items c.args.place k c.index.result.now (slots (take k ns)) _ c.loop-slot.invariant.1.freed c.requires.within c.index.ensures c.in_default.ensures.slot) in
    subst (λ done. Freed vs c.args.place (slots done) c.loop-slot.accounts.items) (take_all k ns none) c.loop-slot.invariant.1.freed
