-- Accounts get room, one after another.
use Rattle.std.proofs.Common.{refl, ◌∙◌}
use Rattle.accounts.proofs.Loosened.{named_set, rooms_set, reserved_on}
use Rattle.accounts.proofs.freeing.reserve_outs.Goals as goal

pub loop-place-init : goal.loop-place-init
loop-place-init c = record { rows = refl; rooms = refl; room = refl }

pub returns-in_err-reserve_outs-clause-rows : goal.returns-in_err-reserve_outs-clause-rows
returns-in_err-reserve_outs-clause-rows c = named_set c.loop-place.accounts.items c.loop-place.place c.index_mut-account.result.now c.reserve_outs.new.self c.index_mut-account.ensures.value c.reserve_outs.ensures.id c.reserve_outs.ensures.row ∙ c.loop-place.invariant.rows

pub returns-in_err-reserve_outs-clause-rooms : goal.returns-in_err-reserve_outs-clause-rooms
returns-in_err-reserve_outs-clause-rooms c = rooms_set c.loop-place.accounts.items c.loop-place.place c.index_mut-account.result.now c.reserve_outs.new.self c.index_mut-account.ensures.value c.reserve_outs.ensures.in_room ∙ c.loop-place.invariant.rooms

pub loop-place-preserved : goal.loop-place-preserved
loop-place-preserved c = reserved_on c.args.accounts.now.items c.loop-place.accounts.items c.args.count c.loop-place.place c.index_mut-account.result.now c.reserve_outs.new.self c.loop-place.invariant c.index_mut-account.ensures.value c.reserve_outs.ensures.id c.reserve_outs.ensures.row c.reserve_outs.ensures.in_room c.in_ok-reserve_outs.ensures.out_room
