-- Histories less bodies that were given up.
use Rattle.std.specs.Prelude.{◌≡◌, ◌⊎◌, ℕ, true, List, [], ◌∷◌, None}
use Rattle.psb_bytes.specs.declared.ids.Object.TheVariants.{Slot}
use Rattle.psb_model.specs.Words.{has_so}
use Rattle.psb_model.specs.State.{row, in_key, is_held}
use Rattle.psb_model.specs.Conditions.{is_direct}
use Rattle.psb_model.specs.History.{state}
use Rattle.psb_model.specs.Needed.{last_brought, slot_bytes, IsValid}
use Rattle.psb_model.specs.declared.change.Change.{Change}
use Rattle.psb_model.specs.declared.change.Change.TheVariants.{Kept, TookFresh, TookSwap, LetGoBack, Replaced, Settled}

-- The change without its body part. A kind that has none is as it is, and so is the beginning, whose body,
-- the settings, is always needed.
abbrev pub without_body : Change → Change
without_body (Kept x) = Kept (record { name = x.name; len = x.len; new = x.new; body = None })
without_body (TookFresh x) = TookFresh (record { peer = x.peer; deal = x.deal; name = x.name; first = x.first; len = x.len; new = x.new; body = None })
without_body (TookSwap x) = TookSwap (record { peer = x.peer; deal = x.deal; name = x.name; slots = x.slots; len = x.len; new = x.new; body = None })
without_body (LetGoBack x) = LetGoBack (record { peer = x.peer; deal = x.deal; name = x.name; slots = x.slots; body = None })
without_body (Replaced x) = Replaced (record { peer = x.peer; deal = x.deal; slot = x.slot; place = x.place; home = x.home; body = None })
without_body (Settled x) = Settled (record { peer = x.peer; deal = x.deal; slots = x.slots; body = None })
without_body c = c

-- the change, or what is left of it where its body was given up
abbrev pub IsLessOf : Change → Change → Type 0
IsLessOf c d = (d ≡ c) ⊎ (d ≡ without_body c)

-- as many changes, and each is that of the history at its place, or that without its body
abbrev pub IsLess : List Change → List Change → Type 0
IsLess [] [] = Unit {0}
IsLess [] (d ∷ ds) = ⊥
IsLess (c ∷ cs) [] = ⊥
IsLess (c ∷ cs) (d ∷ ds) = IsLessOf c d × IsLess cs ds

-- ---- the law

-- They give one state. Where what is left is valid, the same bytes were brought last for each name that is held, and
-- given last to each slot that is to have them here.
pub record IsTheSame (h less : List Change) : Type 0 where
  pub one_state : state less ≡ state h
  pub same_bytes : IsValid less → (name : List ℕ) → is_held (state h) name ≡ true → last_brought name less ≡ last_brought name h
  pub same_slots : IsValid less → (p n : ℕ) → has_so in_key is_direct (row (state h) p).ins (Slot n) ≡ true → slot_bytes p n less ≡ slot_bytes p n h

abbrev pub LessGivesTheSame : Type 0
LessGivesTheSame = (h less : List Change) → IsLess h less → IsTheSame h less
