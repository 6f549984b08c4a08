-- The records of changes: which record is a change's, and what a reader of records answers.
use Rattle.std.specs.Prelude.{◌≡◌, Bool, true, false, List, ℕ, [], Option, unwrap_or, MatchBool}
use Rattle.psb_model.specs.declared.change.Change.{Change}
use Rattle.psb_model.specs.declared.change.Change.TheVariants.{Begun, Kept, TookFresh, TookSwap, LetGoBack, Replaced, Settled}
use Rattle.psb_model.specs.Heads.{head_of, body_of}
use Rattle.psb_model.specs.Grammar.{in_grammar, fits_widths}

-- the kinds that have a body part
abbrev pub has_body : Change → Bool
has_body (Begun x) = true
has_body (Kept x) = true
has_body (TookFresh x) = true
has_body (TookSwap x) = true
has_body (LetGoBack x) = true
has_body (Replaced x) = true
has_body (Settled x) = true
has_body _ = false

-- The record with this head and this body part is the change's. The body part is None where it was
-- given up, which changes nothing for a kind that has an empty one.
pub record IsRecord (c : Change) (head : List ℕ) (body : Option (List ℕ)) : Type 0 where
  pub head_is : head ≡ head_of c
  pub body_is : MatchBool (has_body c) (body ≡ body_of c) (unwrap_or body [] ≡ [])

-- a change that is in the grammar and within the widths of its fields has the record
pub record IsRead (c : Change) (head : List ℕ) (body : Option (List ℕ)) : Type 0 where
  pub grammar : in_grammar c ≡ true
  pub widths : fits_widths c ≡ true
  pub stands : IsRecord c head body

-- one record stands for one change
abbrev pub OneChangeEach : Type 0
OneChangeEach = (c d : Change) (head : List ℕ) (body : Option (List ℕ))
    → in_grammar c ≡ true → in_grammar d ≡ true → fits_widths c ≡ true → fits_widths d ≡ true
    → IsRecord c head body → IsRecord d head body → c ≡ d

-- no change is read from this record
abbrev pub NoneIsRead : List ℕ → Option (List ℕ) → Type 0
NoneIsRead head body = (c : Change) → IsRead c head body → ⊥
