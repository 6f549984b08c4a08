-- The slots that runs stand for, in object order.
use Rattle.std.specs.Prelude.{ℕ, zero, suc, ◌+◌, ◌-◌, List, [], ◌∷◌}
use Rattle.std.specs.List.{flat_map}
use Rattle.psb_bytes.specs.declared.ids.Object.{Object}
use Rattle.psb_bytes.specs.declared.ids.Object.TheVariants.{Slot}
use Rattle.psb_model.specs.Words.{with_all}
use Rattle.slot_runs.specs.declared.run.Run.{Run}

-- u slots from a number on, of which the same is said
abbrev pub slots_from : {E R : Type 0} → (Object → R → E) → R → ℕ → ℕ → List E
slots_from joined x n zero = []
slots_from joined x n (suc u) = joined (Slot n) x ∷ slots_from joined x (n + 1) u

abbrev pub expand : {E R : Type 0} → (Object → R → E) → Run R → List E
expand joined r = slots_from joined r.rest r.first (r.last + 1 - r.first)

abbrev pub slot_items : {E R : Type 0} → (E → Object) → (Object → R → E) → List (Run R) → List E
slot_items key joined runs = with_all key (flat_map (expand joined) runs) []
