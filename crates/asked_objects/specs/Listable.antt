-- What is known of each row of a valid history, and lets a search go by ranks.
use Rattle.std.specs.Prelude.{◌≡◌, ◌≤◌, ℕ, true, List, [], ◌∷◌, length, Option, Some, None}
use Rattle.psb_model.specs.declared.deals.Deal.{Deal}
use Rattle.psb_model.specs.declared.deals.DealWhat.{DealWhat}
use Rattle.psb_model.specs.declared.deals.DealWhat.TheVariants.{Swap, Forward, Return}
use Rattle.psb_model.specs.Grammar.{ascend}
use Rattle.psb_model.specs.State.{Row, back_units}
use Rattle.peer_account.specs.Probing.{StandOnce}

-- the numbers of the slots there that a deal ties
abbrev pub deal_ties : DealWhat → List ℕ
deal_ties (Swap name numbers) = numbers
deal_ties (Forward slot entry) = slot ∷ []
deal_ties (Return slot) = slot ∷ []
deal_ties _ = []

abbrev pub tied_slots : Option Deal → List ℕ
tied_slots None = []
tied_slots (Some d) = deal_ties d.what

-- No object stands there twice, or in debt twice, or both; the slots that the pending deal ties ascend; and each entry
-- there has a unit.
pub record IsListable (r : Row) : Type 0 where
  pub once : StandOnce r.outs r.debts
  pub ascends : ascend (tied_slots r.pending) ≡ true
  pub few : length r.outs ≤ back_units r
