-- How a chunk is placed, once what may be had is known.
use Rattle.std.specs.Prelude.{ℕ, ◌-◌, nat_le, max, min, if◌then◌else◌, List, length, take}
use Rattle.psb_model.specs.declared.entries.OwnEntry.{OwnEntry}
use Rattle.psb_model.specs.declared.deals.DealWhat.{DealWhat}
use Rattle.psb_model.specs.declared.deals.DealWhat.TheVariants.{Fresh, Swap}
use Rattle.psb_model.specs.Words.{units}
use Rattle.psb_model.specs.State.{State, used}

-- how many units a chunk may have at most, where there are so many slots; no chunk has more than 64
abbrev pub most_units : State → ℕ → ℕ → ℕ
most_units s slots capacity = min (max (capacity - used s) slots) 64

abbrev pub placed_with : List ℕ → OwnEntry → DealWhat
placed_with slots e = if nat_le (units e.len) (length slots) then Swap e.name (take (units e.len) slots) else Fresh e.name
