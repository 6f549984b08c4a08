-- Which values of a change are in the grammar of records, and which fit their fields.
use Rattle.std.specs.Prelude.{ℕ, ◌*◌, ◌^◌, nat_lt, Bool, true, ◌&&◌, ◌==◌, if◌then◌else◌, List, [], ◌∷◌, length, is_some, Option, Some, None}
use Rattle.std.specs.List.{list_all}
use Rattle.psb_bytes.specs.declared.ids.Object.{Object}
use Rattle.psb_bytes.specs.declared.ids.Object.TheVariants.{Chunk, Slot}
use Rattle.psb_model.specs.declared.entries.Candidate.{Candidate}
use Rattle.psb_bytes.specs.declared.ids.Ticket.{Ticket}
pub use Rattle.psb_bytes.specs.Tickets.{is_chunk_len, is_ticket}
use Rattle.psb_model.specs.declared.deals.DealWhat.{DealWhat}
use Rattle.psb_model.specs.declared.deals.DealWhat.TheVariants.{Fresh, Swap, Cancel, PutBack, Forward, Return}
use Rattle.psb_model.specs.declared.change.Change.{Change}
use Rattle.psb_model.specs.declared.change.Change.TheVariants.{Begun, Kept, Snapped, Forgot, TookFresh, TookSwap, LetGo, LetGoBack, Replaced, Refused, Proposed, Settled, Turned, Asked, Passed, Failed, Declined, Discarded, Chose}
use Rattle.psb_model.specs.Words.{objects_distinct}

-- numbers ascend strictly
abbrev pub ascend : List ℕ → Bool
ascend [] = true
ascend (x ∷ []) = true
ascend (x ∷ y ∷ ys) = nat_lt x y && ascend (y ∷ ys)

-- a list's count is a field of four bytes
abbrev pub is_count : ℕ → Bool
is_count n = nat_lt n (2 ^ 32)

-- slots, or places, as a record lists them
abbrev pub numbers_listed : List ℕ → Bool
numbers_listed numbers = ascend numbers && is_count (length numbers)

-- objects as a record lists them: distinct, in any order
abbrev pub objects_listed : List Object → Bool
objects_listed objects = objects_distinct objects && is_count (length objects)

-- a body that is there has that many bytes
abbrev pub body_fits : ℕ → Option (List ℕ) → Bool
body_fits n None = true
body_fits n (Some bytes) = length bytes == n

-- a chunk's length, and its sealed bytes exactly where they are new
abbrev pub chunk_fits : ℕ → Bool → Option (List ℕ) → Bool
chunk_fits len new body = is_chunk_len len && body_fits (if new then len else 0) body

-- the slots of an own deal ascend
abbrev pub what_in_grammar : DealWhat → Bool
what_in_grammar (Swap name numbers) = numbers_listed numbers
what_in_grammar (Cancel name numbers) = numbers_listed numbers
what_in_grammar _ = true

-- The change is in the grammar: Begun has its text; a body that is there has the length that its
-- head tells; slots and places ascend, and the objects of a list are distinct.
abbrev pub in_grammar : Change → Bool
in_grammar (Begun x) = is_some x.body
in_grammar (Kept x) = chunk_fits x.len x.new x.body
in_grammar (Snapped x) = is_ticket x.ticket && is_count (length x.names)
in_grammar (Forgot x) = true
in_grammar (TookFresh x) = chunk_fits x.len x.new x.body
in_grammar (TookSwap x) = chunk_fits x.len x.new x.body && numbers_listed x.slots
in_grammar (LetGo x) = numbers_listed x.slots
in_grammar (LetGoBack x) = body_fits (512 * length x.slots) x.body && numbers_listed x.slots
in_grammar (Replaced x) = body_fits (if x.place == 0 then 512 else 0) x.body
in_grammar (Refused x) = true
in_grammar (Proposed x) = what_in_grammar x.what
in_grammar (Settled x) = body_fits (512 * length x.slots) x.body && numbers_listed x.slots
in_grammar (Turned x) = true
in_grammar (Asked x) = objects_listed x.objects
in_grammar (Passed x) = objects_listed x.objects
in_grammar (Failed x) = objects_listed x.objects
in_grammar (Declined x) = numbers_listed x.places
in_grammar (Discarded x) = objects_listed x.objects
in_grammar (Chose x) = is_count (length x.candidates)

-- What any change of the program has: each number is within the width of its field, each name has
-- 32 bytes, and a byte is below 256.
abbrev pub is_u8 : ℕ → Bool
is_u8 n = nat_lt n 256

abbrev pub is_u16 : ℕ → Bool
is_u16 n = nat_lt n (2 ^ 16)

abbrev pub is_u32 : ℕ → Bool
is_u32 n = nat_lt n (2 ^ 32)

abbrev pub is_u64 : ℕ → Bool
is_u64 n = nat_lt n (2 ^ 64)

abbrev pub is_digest : List ℕ → Bool
is_digest bytes = (length bytes == 32) && list_all is_u8 bytes

abbrev pub are_bytes : Option (List ℕ) → Bool
are_bytes None = true
are_bytes (Some bytes) = list_all is_u8 bytes

abbrev pub object_fits : Object → Bool
object_fits (Chunk name) = is_digest name
object_fits (Slot n) = is_u32 n

abbrev pub candidate_fits : Candidate → Bool
candidate_fits c = is_u32 c.peer && is_u32 c.got && is_u32 c.of && is_u32 c.hops

abbrev pub ticket_fits : Ticket → Bool
ticket_fits t = is_digest t.reference.name && is_digest t.reference.handle && is_u32 t.reference.len && is_u8 t.levels

abbrev pub what_fits : DealWhat → Bool
what_fits (Fresh name) = is_digest name
what_fits (Swap name numbers) = is_digest name && list_all is_u32 numbers
what_fits (Cancel name numbers) = is_digest name && list_all is_u32 numbers
what_fits (PutBack name first) = is_digest name && is_u32 first
what_fits (Forward slot entry) = is_u32 slot && is_u32 entry.peer && is_u32 entry.slot
what_fits (Return slot) = is_u32 slot

-- the change fits its fields
abbrev pub fits_widths : Change → Bool
fits_widths (Begun x) = are_bytes x.body
fits_widths (Kept x) = is_digest x.name && is_u32 x.len && are_bytes x.body
fits_widths (Snapped x) = is_u32 x.number && ticket_fits x.ticket && is_u32 x.files && is_u32 x.folders && is_u64 x.bytes && is_u32 x.left && list_all is_digest x.names
fits_widths (Forgot x) = is_u32 x.number
fits_widths (TookFresh x) = is_u32 x.peer && is_u64 x.deal && is_digest x.name && is_u32 x.first && is_u32 x.len && are_bytes x.body
fits_widths (TookSwap x) = is_u32 x.peer && is_u64 x.deal && is_digest x.name && list_all is_u32 x.slots && is_u32 x.len && are_bytes x.body
fits_widths (LetGo x) = is_u32 x.peer && is_u64 x.deal && is_digest x.name && list_all is_u32 x.slots
fits_widths (LetGoBack x) = is_u32 x.peer && is_u64 x.deal && is_digest x.name && list_all is_u32 x.slots && are_bytes x.body
fits_widths (Replaced x) = is_u32 x.peer && is_u64 x.deal && is_u32 x.slot && is_u8 x.place && is_u32 x.home && are_bytes x.body
fits_widths (Refused x) = is_u32 x.peer && is_u64 x.deal && is_u8 x.why && is_u64 x.detail
fits_widths (Proposed x) = is_u32 x.peer && is_u64 x.deal && what_fits x.what
fits_widths (Settled x) = is_u32 x.peer && is_u64 x.deal && list_all is_u32 x.slots && are_bytes x.body
fits_widths (Turned x) = is_u32 x.peer && is_u64 x.deal && is_u8 x.why && is_u64 x.detail
fits_widths (Asked x) = is_u32 x.peer && list_all object_fits x.objects
fits_widths (Passed x) = is_u32 x.peer && is_u64 x.asked && list_all object_fits x.objects
fits_widths (Failed x) = is_u32 x.peer && is_u64 x.asked && is_u8 x.how && is_digest x.got && list_all object_fits x.objects
fits_widths (Declined x) = is_u32 x.peer && is_u64 x.asked && list_all is_u16 x.places
fits_widths (Discarded x) = is_u32 x.peer && list_all object_fits x.objects
fits_widths (Chose x) = list_all candidate_fits x.candidates
