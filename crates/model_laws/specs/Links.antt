-- Forwarded claims and the slots that carry them are linked one to one. A claim of q that the node holds, an entry of
-- in(q), may be forwarded to an own slot on p, which then carries it: each names the other, for as long as both stand.
use Rattle.std.specs.Prelude.{◌≡◌, ◌⊎◌, ℕ, Bool, true, ◌||◌, List}
use Rattle.psb_bytes.specs.declared.ids.Object.{Object}
use Rattle.psb_bytes.specs.declared.ids.Object.TheVariants.{Slot}
use Rattle.psb_bytes.specs.declared.ids.Seat.{Seat}
use Rattle.psb_model.specs.declared.entries.InEntry.{InEntry}
use Rattle.psb_model.specs.declared.entries.OutEntry.{OutEntry}
use Rattle.psb_model.specs.declared.entries.DebtEntry.{DebtEntry}
use Rattle.psb_model.specs.declared.entries.InState.TheVariants as at
use Rattle.psb_model.specs.declared.entries.OutState.TheVariants as on
use Rattle.psb_model.specs.declared.change.Change.{Change}
use Rattle.psb_model.specs.Words.{In, has}
use Rattle.psb_model.specs.State.{State, row, in_key, out_key, debt_key}
use Rattle.psb_model.specs.History.{state, is_lawful}

-- The entry of in(q) is a slot, and whatever stands at its seat, in out or in debt, carries it. Nothing need stand there:
-- the slot may have been lost, and its row of debt used up.
pub record IsForwarded (s : State) (q : ℕ) (e : InEntry) (seat : Seat) : Type 0 where
  pub slot : ℕ
  pub here : e.object ≡ Slot slot
  pub outs : (f : OutEntry) → In f (row s seat.peer).outs → f.object ≡ Slot seat.slot → f.state ≡ on.Carries (record { peer = q; slot = slot })
  pub debts : (d : DebtEntry) → In d (row s seat.peer).debts → d.object ≡ Slot seat.slot → d.state ≡ on.Carries (record { peer = q; slot = slot })

-- The object that carries a held claim on p is a slot, and the claim is there, forwarded to this slot.
pub record IsCarried (s : State) (p : ℕ) (o : Object) (held : Seat) : Type 0 where
  pub slot : ℕ
  pub here : o ≡ Slot slot
  pub there : has in_key (row s held.peer).ins (Slot held.slot) ≡ true
  pub each : (e : InEntry) → In e (row s held.peer).ins → e.object ≡ Slot held.slot → e.state ≡ at.Forwarded (record { peer = p; slot = slot })

-- slot n stands on p, in out or in debt, and carries the held claim
abbrev pub Carries : State → ℕ → ℕ → Seat → Type 0
Carries s p n held =
    ((f : OutEntry) × In f (row s p).outs × (f.object ≡ Slot n) × (f.state ≡ on.Carries held))
    ⊎ ((d : DebtEntry) × In d (row s p).debts × (d.object ≡ Slot n) × (d.state ≡ on.Carries held))

-- the slot of the seat stands, in out or in debt
abbrev pub stands : State → Seat → Bool
stands s seat = has out_key (row s seat.peer).outs (Slot seat.slot) || has debt_key (row s seat.peer).debts (Slot seat.slot)

pub record AreLinked (s : State) : Type 0 where
  pub forwarded : (q : ℕ) (e : InEntry) (seat : Seat) → In e (row s q).ins → e.state ≡ at.Forwarded seat → IsForwarded s q e seat
  pub carried : (p : ℕ) (f : OutEntry) (held : Seat) → In f (row s p).outs → f.state ≡ on.Carries held → IsCarried s p f.object held
  pub owed : (p : ℕ) (d : DebtEntry) (held : Seat) → In d (row s p).debts → d.state ≡ on.Carries held → IsCarried s p d.object held
  -- no two slots that stand carry one claim
  pub one_slot : (p n q m : ℕ) (held : Seat) → Carries s p n held → Carries s q m held → (p ≡ q) × (n ≡ m)
  -- and no two claims are forwarded to one slot that stands
  pub one_entry : (p q : ℕ) (e f : InEntry) (seat : Seat) → stands s seat ≡ true → In e (row s p).ins → e.state ≡ at.Forwarded seat → In f (row s q).ins → f.state ≡ at.Forwarded seat → (p ≡ q) × (e ≡ f)

-- after every lawful history
abbrev pub AllAreLinked : Type 0
AllAreLinked = (h : List Change) → is_lawful h ≡ true → AreLinked (state h)
