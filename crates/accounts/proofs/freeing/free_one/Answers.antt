-- What is forwarded has one seat.
use Rattle.std.proofs.Common.{sym, ap, ◌∙◌, arith}
use Rattle.std.specs.Prelude.{◌+◌}
use Rattle.psb_model.specs.State.{Row}
use Rattle.peer_account.specs.States.{is_forwarded}
use Rattle.accounts.proofs.Loosened.{row_here, freed_where_none, freed_where_one, forwarded_one, less_room}
use Rattle.accounts.proofs.freeing.free_one.Goals as goal

pub loosen_at-requires : goal.loosen_at-requires
loosen_at-requires c =
    let here = row_here c.args.accounts.now.items c.args.place c.index.result.now c.requires.within c.index.ensures in
    c.requires.room (ap (λ (r : Row). is_forwarded r.ins c.args.object.now) (sym here) ∙ forwarded_one c.index.result.now.row.ins c.args.object.now c.in-Some.seat c.in-Some.ensures)

pub returns-in-Some-clause-freed : goal.returns-in-Some-clause-freed
returns-in-Some-clause-freed c =
    freed_where_one c.args.accounts.now.items c.loosen_at.new.accounts.items c.args.place c.args.object.now c.index.result.now c.in-Some.seat
    (row_here c.args.accounts.now.items c.args.place c.index.result.now c.requires.within c.index.ensures) c.in-Some.ensures c.loosen_at.ensures.rows c.loosen_at.ensures.rooms

pub returns-in_default-clause-freed : goal.returns-in_default-clause-freed
returns-in_default-clause-freed c =
    freed_where_none c.args.accounts.now.items c.args.place c.args.object.now c.index.result.now
    (row_here c.args.accounts.now.items c.args.place c.index.result.now c.requires.within c.index.ensures) c.in_default.ensures

pub returns-in_default-clause-room : goal.returns-in_default-clause-room
returns-in_default-clause-room c = λ n h. less_room (n + 2) n c.args.accounts.now.items (omega arith) h
