-- Which entries of an account are forwarded, and the slots that its pending deal gives.
use Rattle.std.specs.Prelude.{ℕ, Bool, true, List, [], ◌∷◌, ◌++◌, option_to_list, Option, Some, None}
use Rattle.std.specs.List.{list_any}
use Rattle.psb_bytes.specs.declared.ids.Object.{Object}
use Rattle.psb_bytes.specs.declared.ids.Seat.{Seat}
use Rattle.psb_model.specs.declared.entries.InEntry.{InEntry}
use Rattle.psb_model.specs.declared.entries.InState.{InState}
use Rattle.psb_model.specs.declared.entries.InState.TheVariants as at
use Rattle.psb_model.specs.declared.deals.Deal.{Deal}
use Rattle.psb_model.specs.declared.deals.DealWhat.TheVariants.{Cancel}
use Rattle.psb_model.specs.Words.{only}
use Rattle.psb_model.specs.State.{in_key}

-- the seat that an entry of this state is forwarded to
abbrev pub seat_of : InState → Option Seat
seat_of st = elim st [ at.Forwarded seat ↦ Some seat | _ ↦ None ]

-- those of a list
abbrev pub seats : List InEntry → List Seat
seats [] = []
seats (e ∷ es) = option_to_list (seat_of e.state) ++ seats es

-- whether what stands at the object is forwarded
abbrev pub is_forwarded : List InEntry → Object → Bool
is_forwarded l o = list_any (λ (s : Seat). true) (seats (only in_key (o ∷ []) l))

-- the slots that the pending deal gives for a chunk
abbrev pub given : Option Deal → List ℕ
given None = []
given (Some d) = elim d.what [ Cancel name theirs ↦ theirs | _ ↦ [] ]
