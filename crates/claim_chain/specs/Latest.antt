-- The latest link, as long as the trees may not have it.
use Rattle.std.specs.Prelude.{Option, Some, None, if◌then◌else◌}
use Rattle.psb_bytes.specs.declared.ids.Seat.{Seat}
use Rattle.claim_chain.specs.declared.latest.Link.{Link}
use Rattle.claim_chain.specs.Seats.{seat_eq}

-- the first of two answers that there is
abbrev pub or_else : Option Seat → Option Seat → Option Seat
or_else (Some s) other = Some s
or_else None other = other

abbrev pub latest_next : Option Link → Seat → Option Seat
latest_next None s = None
latest_next (Some x) s = if seat_eq x.held s then Some x.out else None

abbrev pub latest_carried : Option Link → Seat → Option Seat
latest_carried None s = None
latest_carried (Some x) s = if seat_eq x.out s then Some x.held else None

-- the link, where it is another held seat's
abbrev pub latest_left : Option Link → Seat → Option Link
latest_left None s = None
latest_left (Some x) s = if seat_eq x.held s then None else Some x
