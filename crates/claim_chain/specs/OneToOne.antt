-- Links as a relation.
use Rattle.std.specs.Prelude.{◌≡◌, ◌↔◌, Option, Some}
use Rattle.psb_bytes.specs.declared.ids.Seat.{Seat}
use Rattle.claim_chain.specs.declared.latest.Link.{Link}
use Rattle.claim_chain.specs.declared.seat_map.SeatMap.{SeatMap}
use Rattle.claim_chain.specs.SeatMap.{seat_at}
use Rattle.claim_chain.specs.Latest.{or_else, latest_next, latest_carried}

-- the out seat of a held one, by the latest link or by the tree
abbrev pub next_by : Option Link → SeatMap → Seat → Option Seat
next_by latest nexts h = or_else (latest_next latest h) (seat_at nexts h)

-- the held seat of an out one
abbrev pub carried_by : Option Link → SeatMap → Seat → Option Seat
carried_by latest carried o = or_else (latest_carried latest o) (seat_at carried o)

-- each held seat has at most one out seat, and each out seat carries for at most one held seat
abbrev pub AreOneToOne : (Seat → Option Seat) → (Seat → Option Seat) → Type 0
AreOneToOne next carried = (h o : Seat) → (next h ≡ Some o) ↔ (carried o ≡ Some h)
