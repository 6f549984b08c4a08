-- What a Declined asks of each place.
use Rattle.std.specs.Prelude.{ℕ, Bool, false, not, List, slice_get, Some, None}
use Rattle.psb_bytes.specs.declared.ids.Object.{Object}
use Rattle.psb_model.specs.State.{Row, ties_out}

-- the place is one of the list, and no deal ties its object there
abbrev pub is_untied_at : Row → List Object → ℕ → Bool
is_untied_at r objects k = elim (slice_get objects k) [ None ↦ false | Some o ↦ not (ties_out r.pending o) ]
