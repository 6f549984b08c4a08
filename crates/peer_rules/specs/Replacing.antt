-- What a Replaced asks of its peer's row: whether a deal ties the slot, and how many claim numbers were drawn, is given.
use Rattle.std.specs.Prelude.{ℕ, ◌+◌, ◌==◌, ◌&&◌, ◌||◌, nat_lt, Bool, List, [], ◌∷◌}
use Rattle.psb_bytes.specs.declared.ids.Object.TheVariants.{Slot}
use Rattle.psb_model.specs.declared.kinds.Replaced.{Replaced}
use Rattle.psb_model.specs.Words.{has}
use Rattle.psb_model.specs.State.{Row, in_key}

abbrev pub replace_tests : Row → Replaced → ℕ → Bool → List Bool
replace_tests r x issued untied =
    ((x.deal == r.last.number + 1)
    ∷ has in_key r.ins (Slot x.slot)
    ∷ untied
    ∷ ((x.place == 0 && x.home == 0) || (x.place == 1 && nat_lt x.home issued))
    ∷ [])
