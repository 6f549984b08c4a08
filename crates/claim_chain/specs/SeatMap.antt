-- What the tree has of a seat.
use Rattle.std.specs.Prelude.{ℕ, Option}
use Rattle.std.specs.declared.cmp.Ordering.{Ordering}
use Rattle.std.specs.Ordering.{nat_cmp, ordering_then}
use Rattle.std.specs.BTreeMap.{get}
use Rattle.psb_bytes.specs.declared.ids.Seat.{Seat}
use Rattle.claim_chain.specs.declared.seat_map.SeatMap.{SeatMap}

-- by peer, then by slot
abbrev pub key_cmp : ℕ × ℕ → ℕ × ℕ → Ordering
key_cmp x y = ordering_then (nat_cmp x.0 y.0) (nat_cmp x.1 y.1)

abbrev pub seat_at : SeatMap → Seat → Option Seat
seat_at m s = get key_cmp m.tree (s.peer, s.slot)
