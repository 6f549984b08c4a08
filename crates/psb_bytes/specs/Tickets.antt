-- Refs and tickets in bytes: a name, a handle and a length make 68, and the levels are one more.
use Rattle.std.specs.Prelude.{ℕ, nat_le, Bool, ◌&&◌, List, [], ◌∷◌, ◌++◌, take, drop, slice_index}
use Rattle.psb_bytes.specs.Numbers.{u32_bytes, u32_of}
use Rattle.psb_bytes.specs.Units.{longest_chunk}
use Rattle.psb_bytes.specs.declared.ids.Ref.{Ref}
use Rattle.psb_bytes.specs.declared.ids.Ticket.{Ticket}

abbrev pub ref_bytes : Ref → List ℕ
ref_bytes r = r.name ++ r.handle ++ u32_bytes r.len

abbrev pub ticket_bytes : Ticket → List ℕ
ticket_bytes t = ref_bytes t.reference ++ t.levels ∷ []

-- the ref that the first 68 bytes spell
abbrev pub ref_of : List ℕ → Ref
ref_of bytes = record { name = take 32 bytes; handle = take 32 (drop 32 bytes); len = u32_of (take 4 (drop 64 bytes)) }

-- the ticket that 69 bytes spell
abbrev pub ticket_of : List ℕ → Ticket
ticket_of bytes = record { reference = ref_of bytes; levels = slice_index bytes 68 }

-- a chunk has at least one byte
abbrev pub is_chunk_len : ℕ → Bool
is_chunk_len len = nat_le 1 len && nat_le len longest_chunk

-- the length of a chunk, and at most 4 levels
abbrev pub is_ticket : Ticket → Bool
is_ticket t = is_chunk_len t.reference.len && nat_le t.levels 4
