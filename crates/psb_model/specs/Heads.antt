-- The head and the body of a change: its one spelling as a record. Numbers are big-endian.
use Rattle.std.specs.Prelude.{ℕ, Bool, if◌then◌else◌, List, [], ◌∷◌, ◌++◌, length, Option, Some}
use Rattle.std.specs.List.{flat_map}
use Rattle.psb_bytes.specs.Numbers.{u16_bytes as u16, u32_bytes as u32, u64_bytes as u64}
use Rattle.psb_bytes.specs.declared.ids.Object.{Object}
use Rattle.psb_bytes.specs.declared.ids.Object.TheVariants.{Chunk, Slot}
use Rattle.psb_bytes.specs.declared.ids.Ticket.{Ticket}
use Rattle.psb_bytes.specs.Tickets.{ticket_bytes}
use Rattle.psb_model.specs.declared.entries.Candidate.{Candidate}
use Rattle.psb_model.specs.declared.deals.DealWhat.{DealWhat}
use Rattle.psb_model.specs.declared.deals.DealWhat.TheVariants.{Fresh, Swap, Cancel, PutBack, Forward, Return}
use Rattle.psb_model.specs.declared.change.Change.{Change}
use Rattle.psb_model.specs.declared.change.Change.TheVariants.{Begun, Kept, Snapped, Forgot, TookFresh, TookSwap, LetGo, LetGoBack, Replaced, Refused, Proposed, Settled, Turned, Asked, Passed, Failed, Declined, Discarded, Chose}

abbrev pub flag : Bool → List ℕ
flag b = (if b then 1 else 0) ∷ []

-- a count of four bytes, and the items
abbrev pub counted : {A : Type 0} → (A → List ℕ) → List A → List ℕ
counted spell items = u32 (length items) ++ flat_map spell items

abbrev pub object : Object → List ℕ
object (Chunk name) = 0 ∷ name
object (Slot number) = 1 ∷ u32 number

-- a snapshot's last ref (name, handle, length), and how many levels follow
abbrev pub ticket : Ticket → List ℕ
ticket = ticket_bytes

abbrev pub candidate : Candidate → List ℕ
candidate c = u32 c.peer ++ u32 c.got ++ u32 c.of ++ u32 c.hops

abbrev pub deal_fields : DealWhat → List ℕ
deal_fields (Fresh name) = 1 ∷ name
deal_fields (Swap name slots) = 2 ∷ (name ++ counted u32 slots)
deal_fields (Cancel name slots) = 3 ∷ (name ++ counted u32 slots)
deal_fields (PutBack name first) = 4 ∷ (name ++ u32 first)
deal_fields (Forward slot entry) = 5 ∷ (u32 slot ++ u32 entry.peer ++ u32 entry.slot)
deal_fields (Return slot) = 6 ∷ u32 slot

-- the kind, and the fields in order
abbrev pub head_of : Change → List ℕ
head_of (Begun x) = 1 ∷ []
head_of (Kept x) = 2 ∷ (x.name ++ u32 x.len ++ flag x.new)
head_of (Snapped x) = 3 ∷ (u32 x.number ++ ticket x.ticket ++ u32 x.files ++ u32 x.folders ++ u64 x.bytes ++ u32 x.left ++ counted (λ name. name) x.names)
head_of (Forgot x) = 4 ∷ u32 x.number
head_of (TookFresh x) = 5 ∷ (u32 x.peer ++ u64 x.deal ++ x.name ++ u32 x.first ++ u32 x.len ++ flag x.new)
head_of (TookSwap x) = 6 ∷ (u32 x.peer ++ u64 x.deal ++ x.name ++ counted u32 x.slots ++ u32 x.len ++ flag x.new)
head_of (LetGo x) = 7 ∷ (u32 x.peer ++ u64 x.deal ++ x.name ++ counted u32 x.slots)
head_of (LetGoBack x) = 8 ∷ (u32 x.peer ++ u64 x.deal ++ x.name ++ counted u32 x.slots)
head_of (Replaced x) = 9 ∷ (u32 x.peer ++ u64 x.deal ++ u32 x.slot ++ x.place ∷ u32 x.home)
head_of (Refused x) = 10 ∷ (u32 x.peer ++ u64 x.deal ++ x.why ∷ u64 x.detail)
head_of (Proposed x) = 11 ∷ (u32 x.peer ++ u64 x.deal ++ deal_fields x.what)
head_of (Settled x) = 12 ∷ (u32 x.peer ++ u64 x.deal ++ counted u32 x.slots)
head_of (Turned x) = 13 ∷ (u32 x.peer ++ u64 x.deal ++ x.why ∷ u64 x.detail)
head_of (Asked x) = 14 ∷ (u32 x.peer ++ counted object x.objects)
head_of (Passed x) = 15 ∷ (u32 x.peer ++ u64 x.asked ++ counted object x.objects)
head_of (Failed x) = 16 ∷ (u32 x.peer ++ u64 x.asked ++ x.how ∷ (x.got ++ counted object x.objects))
head_of (Declined x) = 17 ∷ (u32 x.peer ++ u64 x.asked ++ counted u16 x.places)
head_of (Discarded x) = 18 ∷ (u32 x.peer ++ counted object x.objects)
head_of (Chose x) = 19 ∷ counted candidate x.candidates

-- the body part, None where it was given up
abbrev pub body_of : Change → Option (List ℕ)
body_of (Begun x) = x.body
body_of (Kept x) = x.body
body_of (TookFresh x) = x.body
body_of (TookSwap x) = x.body
body_of (LetGoBack x) = x.body
body_of (Replaced x) = x.body
body_of (Settled x) = x.body
body_of _ = Some []
