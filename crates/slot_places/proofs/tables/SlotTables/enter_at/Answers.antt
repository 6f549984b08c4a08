use Rattle.std.proofs.Common.{sym, ◌∙◌}
use Rattle.psb_bytes.specs.declared.ids.Object.TheVariants.{Slot}
use Rattle.psb_model.specs.Words.{listed, slots, has}
use Rattle.psb_model.specs.State.{row, in_key}
use Rattle.slot_places.specs.Slots.{table_of}
use Rattle.slot_places.proofs.Places.{table_at, table_none, room_there, entered, entered_none, none_stays}
use Rattle.slot_places.proofs.tables.SlotTables.enter_at.Goals as goal

pub enter-requires : goal.enter-requires
enter-requires c =
    room_there (table_of c.args.self.now.tables.items c.args.peer) c.index_mut-table.result.now c.args.given.now c.args.leaving.now (table_at c.args.self.now.tables.items c.args.peer c.in-Some.place c.index_mut-table.result.now (sym c.in-Some.is ∙ c.place_of.ensures) c.index_mut-table.ensures.value) c.requires

pub returns-in-Some : goal.returns-in-Some
returns-in-Some c =
    entered c.args.self.now.tables.items c.args.peer c.in-Some.place c.index_mut-table.result.now c.enter.new.self
    (λ n. listed (slots c.args.given.now) (Slot n))
    (λ n. listed (slots c.args.leaving.now) (Slot n))
    (λ p n. has in_key (row c.args.left.now.state p).ins (Slot n))
    c.args.number (sym c.in-Some.is ∙ c.place_of.ensures) c.index_mut-table.ensures.value c.enter.ensures.peer c.enter.ensures.records

pub returns-in_default : goal.returns-in_default
returns-in_default c =
    let none = table_none c.args.self.now.tables.items c.args.peer (sym c.in_default.is ∙ c.place_of.ensures) in
    none_stays c.args.self.now.tables.items c.args.peer c.args.given.now c.args.leaving.now (λ p n. has in_key (row c.args.left.now.state p).ins (Slot n)) c.args.number none
    (entered_none (table_of c.args.self.now.tables.items c.args.peer) c.args.given.now c.args.leaving.now none c.requires)
