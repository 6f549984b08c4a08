-- Deals, as they are read, judged and taken.
use Rattle.std.specs.Prelude.{◌≡◌, ◌≤◌, ℕ, Bool, true, List, length}
use Rattle.std.specs.List.{list_all}
use Rattle.psb_bytes.specs.Units.{longest_chunk}
use Rattle.psb_bytes.specs.declared.lists.SlotClaim.{SlotClaim}
use Rattle.psb_settings.specs.declared.settings.Settings.{Settings}
use Rattle.psb_model.specs.Grammar.{ascend, is_u8, is_u32, is_u64, is_digest}
use Rattle.psb_model.specs.State.{State}
use Rattle.psb_model.specs.declared.change.Change.{Change}
use Rattle.wire_codec.specs.Fields.{is_claim, are_places}
use Rattle.wire_codec.specs.declared.limits.TheConstants.{MOST_SLOTS, MOST_OBJECTS, CLAIM_BYTES}
use Rattle.psb_machine.specs.Deals.{Deal, StoreFresh, StoreSwap, Cancel, PutBack, Replace, slots_of, is_new, home_of, reasons, takes, judge, facts_at}
use Rattle.psb_machine.specs.Settling.{Reply, Accepts, Refuses}
use Rattle.psb_machine.specs.Messages.{Sender, Message, Deals, Replies, Asks, Probes, Proves, Declines}
use Rattle.psb_machine.specs.Sampling.{most_asked}
use Rattle.psb_machine.specs.declared.deals.Refusal.{Refusal}

-- ---- what a deal that was read has: its parts are within their bounds

-- slots: numbers that ascend, and not too many
pub record SlotsFit (numbers : List ℕ) : Type 0 where
  pub few : length numbers ≤ MOST_SLOTS
  pub widths : list_all is_u32 numbers ≡ true
  pub ascend : ascend numbers ≡ true

-- sealed bytes of a peer under a number and a name
pub record StoreFits (p number : ℕ) (name bytes : List ℕ) : Type 0 where
  pub peer : is_u32 p ≡ true
  pub number_fits : is_u64 number ≡ true
  pub name_fits : is_digest name ≡ true
  pub long : 1 ≤ length bytes
  pub short : length bytes ≤ longest_chunk
  pub bytes_fit : list_all is_u8 bytes ≡ true

-- the same, in place of slots
pub record SwapFits (p number : ℕ) (name numbers bytes : List ℕ) : Type 0 where
  pub store : StoreFits p number name bytes
  pub slots : SlotsFit numbers

-- a chunk that is let go, and slots
pub record CancelFits (p number : ℕ) (name numbers : List ℕ) : Type 0 where
  pub peer : is_u32 p ≡ true
  pub number_fits : is_u64 number ≡ true
  pub name_fits : is_digest name ≡ true
  pub slots : SlotsFit numbers

-- a chunk that is let go, and claims of 512 bytes each
pub record PutBackFits (p number : ℕ) (name : List ℕ) (claims : List SlotClaim) : Type 0 where
  pub peer : is_u32 p ≡ true
  pub number_fits : is_u64 number ≡ true
  pub name_fits : is_digest name ≡ true
  pub slots : SlotsFit (slots_of claims)
  pub claims_fit : list_all is_claim claims ≡ true

-- other bytes for a slot
pub record ReplaceFits (p number slot : ℕ) (bytes : List ℕ) : Type 0 where
  pub peer : is_u32 p ≡ true
  pub number_fits : is_u64 number ≡ true
  pub slot_fits : is_u32 slot ≡ true
  pub long : length bytes ≡ CLAIM_BYTES
  pub bytes_fit : list_all is_u8 bytes ≡ true

-- whatever its kind is
abbrev pub DealFits : ℕ → ℕ → Deal → Type 0
DealFits p number (StoreFresh name bytes) = StoreFits p number name bytes
DealFits p number (StoreSwap name numbers bytes) = SwapFits p number name numbers bytes
DealFits p number (Cancel name numbers) = CancelFits p number name numbers
DealFits p number (PutBack name claims) = PutBackFits p number name claims
DealFits p number (Replace slot bytes) = ReplaceFits p number slot bytes

-- and what a reply has: claims of 512 bytes in slots that ascend, or a reason's number with a detail
abbrev pub ReplyFits : Reply → Type 0
ReplyFits (Accepts claims) = SlotsFit (slots_of claims) × (list_all is_claim claims ≡ true)
ReplyFits (Refuses why detail) = (is_u8 why ≡ true) × (is_u64 detail ≡ true)

-- what a message has whose parts matter to what is made of it; a question has at most so many names, or objects
abbrev pub MessageFits : Sender → Message → Type 0
MessageFits from (Deals deal) = DealFits from.peer from.number deal
MessageFits from (Replies reply) = (is_u32 from.peer ≡ true) × (is_u64 from.number ≡ true) × ReplyFits reply
MessageFits from (Asks salt names) = length names ≤ most_asked
MessageFits from (Probes nonce objects) = length objects ≤ MOST_OBJECTS
MessageFits from (Proves nonce value) = (is_u32 from.peer ≡ true) × (is_digest value ≡ true)
MessageFits from (Declines nonce places) = (is_u32 from.peer ≡ true) × (are_places places ≡ true)
MessageFits from _ = Unit {0}

-- the chunk that it brings, if it brings one, is no longer than a chunk may be
abbrev pub IsShort : Deal → Type 0
IsShort (StoreFresh name bytes) = length bytes ≤ longest_chunk
IsShort (StoreSwap name numbers bytes) = length bytes ≤ longest_chunk
IsShort (Cancel name numbers) = Unit {0}
IsShort (PutBack name claims) = Unit {0}
IsShort (Replace slot bytes) = Unit {0}

-- ---- what is made of a deal at a state, where other bytes are held under its name or not

-- why it is refused
abbrev pub reasons_at : Settings → State → ℕ → Deal → Bool → List (Bool × Refusal)
reasons_at settings s p deal clash = reasons (facts_at settings s deal clash) s p deal

-- the change that takes it
abbrev pub taken_at : Settings → State → ℕ → ℕ → Deal → Change
taken_at settings s p number deal = takes s.issued (is_new s deal) (home_of settings.seed s.issued deal) p number deal

-- the change that it makes
abbrev pub judged_with : Settings → State → ℕ → ℕ → Deal → Bool → Change
judged_with settings s p number deal clash = judge (facts_at settings s deal clash) s p number deal
