-- Links of held seats to the out seats that carry their bytes.
use Rattle.std.specs.Prelude.{Bool, Option}
use Rattle.std.specs.Option.{is_none}
use Rattle.psb_bytes.specs.declared.ids.Seat.{Seat}
use Rattle.claim_chain.specs.declared.links.Links.{Links}
use Rattle.claim_chain.specs.OneToOne.{next_by, carried_by}

-- the out seat that carries the bytes of a held one
unfoldable pub next_of : Links → Seat → Option Seat
next_of l h = next_by l.latest l.nexts h

-- the held seat whose bytes an out one carries
unfoldable pub carried_of : Links → Seat → Option Seat
carried_of l o = carried_by l.latest l.carried o

-- room was made since the last link
unfoldable pub has_room : Links → Bool
has_room l = is_none l.latest
