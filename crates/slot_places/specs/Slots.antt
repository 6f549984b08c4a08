-- The records of slots that the tables have.
use Rattle.std.specs.Prelude.{◌≡◌, ℕ, ◌+◌, ◌*◌, ◌≤◌, ◌<◌, ◌==◌, true, List, [], length, find, Option, Some, None}
use Rattle.psb_bytes.specs.declared.ids.Object.TheVariants.{Slot}
use Rattle.psb_model.specs.Words.{has_so}
use Rattle.psb_model.specs.State.{row, in_key}
use Rattle.psb_model.specs.Conditions.{is_direct}
use Rattle.psb_model.specs.History.{state}
use Rattle.psb_model.specs.Needed.{gives_slot, last_place}
use Rattle.psb_model.specs.declared.change.Change.{Change}
use Rattle.slot_runs.specs.Records.{record_at}
use Rattle.slot_places.specs.declared.moved.SlotsMoved.{SlotsMoved}
use Rattle.slot_places.specs.declared.moved.SlotsMoved.TheVariants.{Nothing, Moves}
use Rattle.slot_places.specs.declared.tables.PeerSlots.{PeerSlots}
use Rattle.slot_places.specs.declared.tables.SlotTables.{SlotTables}

-- the table of a peer
abbrev pub table_of : List PeerSlots → ℕ → Option PeerSlots
table_of tables p = find (λ (t : PeerSlots). t.peer == p) tables

-- the record of slot n in it
abbrev pub record_in : Option PeerSlots → ℕ → Option ℕ
record_in None n = None
record_in (Some t) n = record_at t.records n

-- the record that gave slot n of p its bytes
abbrev pub slot_record : SlotTables → ℕ → ℕ → Option ℕ
slot_record t p n = record_in (table_of t.tables.items p) n

-- the table has room for so many runs
abbrev pub has_runs : Option PeerSlots → ℕ → Type 0
has_runs None count = ⊥
has_runs (Some t) count = count ≤ t.records.room

-- room for what a change does: a peer whose slots are given their bytes has a table
abbrev pub has_room : Option PeerSlots → List ℕ → List ℕ → Type 0
has_room None given leaving = given ≡ []
has_room (Some t) given leaving = 2 * length given + length leaving ≤ t.records.room

abbrev pub HasSlotRoom : SlotTables → SlotsMoved → Type 0
HasSlotRoom t Nothing = Unit {0}
HasSlotRoom t (Moves p given leaving) = has_room (table_of t.tables.items p) given leaving

-- the tables have the record of each slot whose bytes are here, after the history
abbrev pub KnowsSlots : SlotTables → List Change → Type 0
KnowsSlots t h = (p n : ℕ) → has_so in_key is_direct (row (state h) p).ins (Slot n) ≡ true → slot_record t p n ≡ last_place 0 (gives_slot p n) h

-- each record is one of the first so many
abbrev pub AreBelow : SlotTables → ℕ → Type 0
AreBelow t size = (p n k : ℕ) → slot_record t p n ≡ Some k → k < size
