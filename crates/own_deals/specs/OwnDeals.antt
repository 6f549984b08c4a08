-- What is kept of the node's own deals with a peer.
use Rattle.std.specs.Prelude.{◌≡◌, ℕ, ◌+◌, ◌*◌, Bool, true, ◌&&◌, ◌++◌, nat_le, if◌then◌else◌, length, map, List, [], ◌∷◌, Option, Some, None}
use Rattle.std.specs.Option.{option_or}
use Rattle.psb_model.specs.declared.deals.Deal.{Deal}
use Rattle.psb_model.specs.declared.deals.DealWhat.{DealWhat}
use Rattle.psb_model.specs.declared.deals.DealWhat.TheVariants.{Fresh, Swap, Cancel, PutBack, Forward, Return}
use Rattle.psb_model.specs.Words.{name_eq}
use Rattle.psb_model.specs.Effects.{deal_name, pending_name}
use Rattle.psb_model.specs.Grammar.{what_in_grammar}
use Rattle.own_deals.specs.declared.barred.Barring.{Barring}

-- names, each with the number of a change, and how many more there is room for
pub record BarredView : Type 0 where
  pub items : List (List ℕ × ℕ)
  pub room : ℕ

-- the names alone
abbrev pub names_of : List (List ℕ × ℕ) → List (List ℕ)
names_of = map (λ (b : List ℕ × ℕ). b.0)

-- the number that stands first with the name
abbrev pub number_of : List (List ℕ × ℕ) → List ℕ → Option ℕ
number_of [] n = None
number_of (b ∷ bs) n = if name_eq b.0 n then Some b.1 else number_of bs n

-- the number, where the one that waits has the name
abbrev pub latest_number : Option Barring → List ℕ → Option ℕ
latest_number None n = None
latest_number (Some b) n = if name_eq b.name n then Some b.change else None

abbrev pub barred_room : Option Barring → ℕ → ℕ
barred_room None free = free
barred_room (Some b) free = 0

-- the tree and the one that waits have the first number of each name of the list
abbrev pub KnowsNumbers : List (List ℕ × ℕ) → List (List ℕ × ℕ) → Option Barring → Type 0
KnowsNumbers items entries latest = (n : List ℕ) → number_of items n ≡ option_or (number_of entries n) (latest_number latest n)

-- the slots of the pending deal ascend
abbrev pub pending_listed : Option Deal → Bool
pending_listed None = true
pending_listed (Some d) = what_in_grammar d.what

-- what is barred after a reply that turns the pending deal down
abbrev pub barred_after : Option Deal → ℕ → ℕ → List (List ℕ × ℕ) → List (List ℕ × ℕ)
barred_after pending why change barred = if nat_le 2 why && nat_le why 4 then barred ++ map (λ (name : List ℕ). (name, change)) (pending_name deal_name pending) else barred

-- the node's own deals with a peer: the one that has no reply yet, the number of the last, what the peer
-- turned down, and how many more names the two lists of these have room for
pub record OwnDealsView : Type 0 where
  pub pending : Option Deal
  pub mine : ℕ
  pub barred : List (List ℕ × ℕ)
  pub turned_cancels : List (List ℕ)
  pub barred_room : ℕ
  pub cancel_room : ℕ

-- what comes to the two lists when the pending deal is settled, but for the slots of the reply: a chunk, or a run;
-- and each slot that goes, or gets another state, leaves two runs at most
abbrev pub ins_of : DealWhat → ℕ
ins_of (Cancel name numbers) = 2 * length numbers
ins_of _ = 0

abbrev pub outs_of : DealWhat → ℕ
outs_of (Fresh name) = 1
outs_of (Swap name numbers) = 1 + 2 * length numbers
outs_of (PutBack name first) = 1
outs_of (Forward slot entry) = 2
outs_of (Return slot) = 2
outs_of (Cancel name numbers) = 0
