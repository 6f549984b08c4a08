-- What a write that fails puts down, and which syncs settle.
use Rattle.std.specs.Prelude.{ℕ, ◌==◌, min, Bool, true, false, List, find, Option, Some, None}
use Rattle.std.specs.Option.{option_map}
use Rattle.psb_station.specs.declared.memory.tears.TornWrite.{TornWrite}
use Rattle.psb_station.specs.declared.memory.tears.Syncs.{Syncs}
use Rattle.psb_station.specs.declared.memory.tears.Syncs.TheVariants.{Each, UntilOneFails, NoMore}

-- how many bytes the write of this number puts down, where it is one that fails so
abbrev pub put_by : List TornWrite → ℕ → Option ℕ
put_by torn number = option_map (λ (w : TornWrite). w.put) (find (λ (w : TornWrite). w.number == number) torn)

-- of so many bytes that a write was given
abbrev pub part_of : Option ℕ → ℕ → ℕ
part_of None given = given
part_of (Some put) given = min put given

abbrev pub settles : Syncs → Bool
settles Each = true
settles UntilOneFails = true
settles NoMore = false

-- which syncs settle after one that failed
abbrev pub after_fault : Syncs → Syncs
after_fault Each = Each
after_fault UntilOneFails = NoMore
after_fault NoMore = NoMore
