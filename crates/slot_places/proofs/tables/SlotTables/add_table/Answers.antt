use Rattle.std.proofs.Common.{ap, sym, ◌∙◌, subst, List, Option}
use Rattle.slot_places.specs.declared.tables.PeerSlots.{PeerSlots}
use Rattle.slot_places.specs.Slots.{table_of, record_in, has_runs}
use Rattle.slot_places.proofs.Places.{same_added, added_now}
use Rattle.slot_places.proofs.tables.SlotTables.add_table.Goals as goal

pub returns-clause-records : goal.returns-clause-records
returns-clause-records c = λ q n.
    ap (λ (ts : List PeerSlots). record_in (table_of ts q) n) c.in_ok-push.ensures.items
    ∙ same_added c.args.self.now.tables.items (record { peer = c.args.peer; records = c.reserve.new.self }) c.requires (λ m. c.reserve.ensures.records m ∙ c.new-records.ensures m) q n

pub returns-clause-room : goal.returns-clause-room
returns-clause-room c =
    subst (λ (o : Option PeerSlots). has_runs o c.args.count)
    (sym (ap (λ (ts : List PeerSlots). table_of ts c.args.peer) c.in_ok-push.ensures.items ∙ added_now c.args.self.now.tables.items (record { peer = c.args.peer; records = c.reserve.new.self }) c.requires))
    c.in_ok-reserve.ensures.room
