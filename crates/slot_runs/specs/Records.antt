-- What contracts see of the records that gave slots their bytes.
use Rattle.std.specs.Prelude.{ℕ, List, Option}
use Rattle.slot_runs.specs.declared.run.Run.{Run}
use Rattle.slot_runs.specs.Runs.{rest_in}

-- runs of slots, each with its record, and how many more have room
pub record RecordsView : Type 0 where
  pub runs : List (Run ℕ)
  pub room : ℕ

-- the record that gave the slot of this number its bytes
abbrev pub record_at : RecordsView → ℕ → Option ℕ
record_at v n = rest_in v.runs n
