-- When two seats are one.
use Rattle.std.specs.Prelude.{Bool, false, ◌&&◌, ◌==◌, Option, Some, None}
use Rattle.psb_bytes.specs.declared.ids.Seat.{Seat}

abbrev pub seat_eq : Seat → Seat → Bool
seat_eq a b = a.peer == b.peer && a.slot == b.slot

-- whether there is a seat, and it is this one
abbrev pub is_seat : Option Seat → Seat → Bool
is_seat None s = false
is_seat (Some a) s = seat_eq a s
