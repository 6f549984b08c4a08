use Rattle.std.proofs.Common.{sym, ◌∙◌, refl}
use Rattle.slot_places.specs.declared.tables.PeerSlots.{PeerSlots}
use Rattle.slot_places.proofs.Places.{table_none, same_set, table_now, has_now, has_none, no_items, ok_then}
use Rattle.slot_places.proofs.tables.SlotTables.make_room_for.Goals as goal

pub add_table-requires : goal.add_table-requires
add_table-requires c = table_none c.args.self.now.tables.items c.args.peer (sym c.in-None.is ∙ c.place_of.ensures)

pub returns-in-Some-clause-records : goal.returns-in-Some-clause-records
returns-in-Some-clause-records c = λ q n.
    same_set c.args.self.now.tables.items c.args.peer c.in-Some.place c.index_mut-table.result.now (record { peer = c.index_mut-table.result.now.peer; records = c.reserve.new.self }) (sym c.in-Some.is ∙ c.place_of.ensures) c.index_mut-table.ensures.value refl c.reserve.ensures.records q n

pub returns-in-Some-clause-room : goal.returns-in-Some-clause-room
returns-in-Some-clause-room c =
    let y : PeerSlots = record { peer = c.index_mut-table.result.now.peer; records = c.reserve.new.self } in
    ok_then c.reserve.result
    (λ room. has_now _ y c.args.given.now c.args.leaving.now (table_now c.args.self.now.tables.items c.args.peer c.in-Some.place c.index_mut-table.result.now y (sym c.in-Some.is ∙ c.place_of.ensures) c.index_mut-table.ensures.value refl) room)
    c.reserve.ensures.room

pub returns-in-None-clause-room : goal.returns-in-None-clause-room
returns-in-None-clause-room c =
    has_none _ c.args.given.now c.args.leaving.now (table_none c.args.self.now.tables.items c.args.peer (sym c.in-None.is ∙ c.place_of.ensures)) (no_items c.args.given.now (sym c.is_empty.ensures ∙ c.if-is_empty.true))
