-- What a history gives, which histories obey the table, and what is proved of all of them.
use Rattle.std.specs.Prelude.{◌≡◌, ◌≤◌, ℕ, ◌+◌, Bool, true, false, not, ◌&&◌, ◌==◌, List, [], ◌∷◌, ◌++◌, length}
use Rattle.psb_bytes.specs.declared.ids.Object.{Object}
use Rattle.psb_model.specs.declared.entries.DebtEntry.{DebtEntry}
use Rattle.psb_model.specs.declared.change.Change.{Change}
use Rattle.psb_model.specs.declared.change.Change.TheVariants.{Passed, Failed, Declined}
use Rattle.psb_model.specs.Words.{listed, has, units_at, has_so, occurs, In}
use Rattle.psb_model.specs.State.{State, nothing_yet, row, used, held_units, back_units, debt_units, out_key, out_size, debt_key}
use Rattle.psb_model.specs.Grammar.{in_grammar}
use Rattle.psb_model.specs.Conditions.{allowed, capacity, declined_objects}
use Rattle.psb_model.specs.Effects.{after, is_whole_listed}

-- the state after some changes more
abbrev pub state_from : State → List Change → State
state_from s [] = s
state_from s (c ∷ cs) = state_from (after s c) cs

-- each change is in the grammar, and its condition holds after those before it
abbrev pub lawful_from : State → List Change → Bool
lawful_from s [] = true
lawful_from s (c ∷ cs) = in_grammar c && allowed s c && lawful_from (after s c) cs

-- from the beginning on
abbrev pub state : List Change → State
state h = state_from nothing_yet h

abbrev pub is_lawful : List Change → Bool
is_lawful h = lawful_from nothing_yet h

-- the three numbers of a peer
abbrev pub held : List Change → ℕ → ℕ
held h p = held_units (row (state h) p)

abbrev pub back : List Change → ℕ → ℕ
back h p = back_units (row (state h) p)

abbrev pub debt : List Change → ℕ → ℕ
debt h p = debt_units (row (state h) p)

-- what the node answers for to a peer is what it is owed back, plus debt
abbrev pub Balances : Type 0
Balances = (h : List Change) (p : ℕ) → is_lawful h ≡ true → held h p ≡ back h p + debt h p

-- What the node answers for, with what its pending deals will bring, stays within the capacity of its settings.
abbrev pub StaysWithin : Type 0
StaysWithin = (h : List Change) → is_lawful h ≡ true → used (state h) ≤ capacity (state h).settings

-- the row is a loss of one of these objects: it stood in out(q) with the row's units.
pub record IsLoss (s : State) (q : ℕ) (declined : Bool) (objects : List Object) (d : DebtEntry) : Type 0 where
  pub lists : listed objects d.object ≡ true
  pub flag : d.declined ≡ declined
  pub stood : has out_key (row s q).outs d.object ≡ true
  pub units : units_at out_key out_size (row s q).outs d.object ≡ d.units

-- the change, a Failed or Declined of q, lists the row's object
abbrev pub Books : State → Change → ℕ → DebtEntry → Type 0
Books s (Failed x) q d = (x.peer ≡ q) × IsLoss s q false x.objects d
Books s (Declined x) q d = (x.peer ≡ q) × IsLoss s q true (declined_objects s x.peer x.asked x.places) d
Books s _ q d = ⊥

-- a Passed of q gives the object back
abbrev pub gives_back : State → Change → ℕ → Object → Bool
gives_back s (Passed x) q o = x.peer == q && has_so debt_key (is_whole_listed x.objects) (row s q).debts o
gives_back s _ q o = false

-- none of these changes gives the object back
abbrev pub gives_none : State → List Change → ℕ → Object → Bool
gives_none s [] q o = true
gives_none s (c ∷ cs) q o = not (gives_back s c q o) && gives_none (after s c) cs q o

-- The history is some changes, then the row's cause, and later changes, none of which gave the object back.
pub record Explains (h : List Change) (q : ℕ) (d : DebtEntry) : Type 0 where
  pub before : List Change
  pub cause : Change
  pub later : List Change
  pub parts : h ≡ before ++ cause ∷ later
  pub number : length before ≡ d.cause
  pub books : Books (state before) cause q d
  pub stays : gives_none (after (state before) cause) later q d.object ≡ true
  pub least : 1 ≤ d.left
  pub most : d.left ≤ d.units

-- every row of a peer is explained, and no object is lost twice or both lost and there
pub record IsExplained (h : List Change) (q : ℕ) : Type 0 where
  pub rows : (d : DebtEntry) → In d (row (state h) q).debts → Explains h q d
  pub once : (o : Object) → occurs out_key (row (state h) q).outs o + occurs debt_key (row (state h) q).debts o ≤ 1

-- every row of debt, of every peer, in every lawful history
abbrev pub AllExplained : Type 0
AllExplained = (h : List Change) (q : ℕ) → is_lawful h ≡ true → IsExplained h q
