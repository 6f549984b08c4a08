-- The numbers of deals in a lawful history: 1, 2, 3 and so on, those of a peer that were answered and the own ones to it.
use Rattle.std.specs.Prelude.{◌≡◌, ◌⊎◌, ℕ, zero, suc, ◌+◌, true, ◌==◌, if◌then◌else◌, List, [], ◌∷◌, ◌++◌, slice_get, option_map, Option, Some, None}
use Rattle.std.specs.List.{flat_map}
use Rattle.psb_model.specs.declared.deals.Deal.{Deal}
use Rattle.psb_model.specs.declared.deals.LastDeal.{LastDeal}
use Rattle.psb_model.specs.declared.deals.DealWhat.{DealWhat}
use Rattle.psb_model.specs.declared.change.Change.{Change}
use Rattle.psb_model.specs.State.{row}
use Rattle.psb_model.specs.History.{state, is_lawful}
use Rattle.model_laws.specs.Finding.{Found, deal_answered, deal_ended, deal_proposed, answer, proposed}

-- 1, 2, 3 and so on, up to n
abbrev pub up_to : ℕ → List ℕ
up_to zero = []
up_to (suc n) = up_to n ++ (n + 1) ∷ []

-- the number of a deal with p
abbrev pub number_with : ℕ → Option (ℕ × ℕ) → List ℕ
number_with p None = []
number_with p (Some x) = if x.0 == p then x.1 ∷ [] else []

-- the numbers of the deals of p that were answered; of the own ones that were proposed to it; and of those that ended
abbrev pub numbers_answered : ℕ → List Change → List ℕ
numbers_answered p h = flat_map (λ (c : Change). number_with p (deal_answered c)) h

abbrev pub numbered : ℕ × Deal → ℕ × ℕ
numbered x = (x.0, x.1.number)

abbrev pub numbers_proposed : ℕ → List Change → List ℕ
numbers_proposed p h = flat_map (λ (c : Change). number_with p (option_map numbered (deal_proposed c))) h

abbrev pub numbers_ended : ℕ → List Change → List ℕ
numbers_ended p h = flat_map (λ (c : Change). number_with p (deal_ended c)) h

abbrev pub number_pending : Option Deal → List ℕ
number_pending None = []
number_pending (Some d) = d.number ∷ []

-- what is pending was proposed under its number
pub record WasProposed (h : List Change) (p : ℕ) (d : Deal) : Type 0 where
  pub there : Found DealWhat
  pub is : proposed h p d.number ≡ Some there
  pub what : there.what ≡ d.what

-- the last deal was answered by the change that is noted
pub record WasAnswered (h : List Change) (p : ℕ) (last : LastDeal) : Type 0 where
  pub there : Found Change
  pub is : answer h p last.number ≡ Some there
  pub at : slice_get h last.change ≡ Some there.what

pub record AreNumbered (h : List Change) (p : ℕ) : Type 0 where
  pub answered : numbers_answered p h ≡ up_to (row (state h) p).last.number
  pub last : ((row (state h) p).last.number ≡ 0) ⊎ WasAnswered h p (row (state h) p).last
  pub proposed : numbers_proposed p h ≡ up_to (row (state h) p).mine
  -- each ended in its turn, but the last one where that is pending
  pub ended : numbers_ended p h ++ number_pending (row (state h) p).pending ≡ up_to (row (state h) p).mine
  pub pending : (d : Deal) → (row (state h) p).pending ≡ Some d → WasProposed h p d

abbrev pub AllAreNumbered : Type 0
AllAreNumbered = (h : List Change) (p : ℕ) → is_lawful h ≡ true → AreNumbered h p
