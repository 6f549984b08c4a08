-- What is offered to a picker, and when it takes nothing more.
use Rattle.std.specs.Prelude.{ℕ, ◌==◌, ◌||◌, Bool, not, List, filter}
use Rattle.psb_model.specs.declared.entries.InEntry.{InEntry}
use Rattle.psb_model.specs.State.{State, tied_in}

-- the entries that no pending deal ties
abbrev pub untied : State → ℕ → List InEntry → List InEntry
untied s p = filter (λ (e : InEntry). not (tied_in s p e.object))

-- no unit of the debt is left, or no room for one entry more
abbrev pub is_spent : ℕ → ℕ → Bool
is_spent left room = left == 0 || room == 0
