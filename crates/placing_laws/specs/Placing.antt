-- Which deals place a chunk with a peer and which release it, which changes of a peer's deal take one and let it go, by
-- which deal a chunk came where it is, and which changes say what a slot has.
use Rattle.std.specs.Prelude.{ℕ, Bool, false, ◌&&◌, ◌==◌, if◌then◌else◌, List, [], ◌∷◌, ◌++◌, Option, Some, None}
use Rattle.psb_model.specs.Words.{name_eq}
use Rattle.psb_model.specs.State.{State, row}
use Rattle.psb_model.specs.History.{state}
use Rattle.psb_model.specs.Needed.{gives_slot}
use Rattle.psb_model.specs.declared.deals.Deal.{Deal}
use Rattle.psb_model.specs.declared.deals.DealWhat.{DealWhat}
use Rattle.psb_model.specs.declared.deals.DealWhat.TheVariants.{Fresh, Swap, Cancel, PutBack}
use Rattle.psb_model.specs.declared.change.Change.{Change}
use Rattle.psb_model.specs.declared.change.Change.TheVariants.{TookFresh, TookSwap, LetGo, LetGoBack, Replaced, Settled}

-- the chunk that a deal places, and that it releases
abbrev pub places : DealWhat → List ℕ → Bool
places (Fresh name) n = name_eq name n
places (Swap name numbers) n = name_eq name n
places _ n = false

abbrev pub releases : DealWhat → List ℕ → Bool
releases (Cancel name numbers) n = name_eq name n
releases (PutBack name first) n = name_eq name n
releases _ n = false

-- the chunk that a change takes, and that it lets go
abbrev pub takes_chunk : Change → List ℕ → Bool
takes_chunk (TookFresh x) n = name_eq x.name n
takes_chunk (TookSwap x) n = name_eq x.name n
takes_chunk _ n = false

abbrev pub lets_go : Change → List ℕ → Bool
lets_go (LetGo x) n = name_eq x.name n
lets_go (LetGoBack x) n = name_eq x.name n
lets_go _ n = false

-- the number of the deal with p by which a change brings the chunk there
abbrev pub placing_by : Option Deal → List ℕ → Option ℕ
placing_by None n = None
placing_by (Some d) n = if places d.what n then Some d.number else None

abbrev pub brings_there : State → ℕ → List ℕ → Change → Option ℕ
brings_there s p n (Settled x) = if x.peer == p then placing_by (row s p).pending n else None
brings_there s p n _ = None

-- that of the last change which did
abbrev pub last_placed_from : List Change → ℕ → List ℕ → List Change → Option ℕ
last_placed_from before p n [] = None
last_placed_from before p n (c ∷ cs) = elim (last_placed_from (before ++ c ∷ []) p n cs) [ Some d ↦ Some d | None ↦ brings_there (state before) p n c ]

abbrev pub last_placed : List Change → ℕ → List ℕ → Option ℕ
last_placed h p n = last_placed_from [] p n h

-- ---- slots

-- the change says what the slot of p has: it carries the bytes, or it names the own claim that they are
abbrev pub sets_slot : ℕ → ℕ → Change → Bool
sets_slot p n (Replaced x) = (x.peer == p) && (x.slot == n)
sets_slot p n c = gives_slot p n c
