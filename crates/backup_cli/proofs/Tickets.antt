-- The ticket of a kept snapshot is looked up by its number.
use Rattle.std.proofs.Common.{◌≡◌, ℕ, ◌+◌, ◌<◌, ◌==◌, Bool, true, false, if◌then◌else◌, List, [], ◌∷◌, ◌++◌, length, take, drop, get_or, Option, Some, None, refl, sym, ◌∙◌, ap}
use Rattle.psb_bytes.specs.declared.ids.Ticket.{Ticket}
use Rattle.psb_model.specs.declared.snapshots.Snapshot.{Snapshot}
use Rattle.psb_model.proofs.ByObject.{by_cases}
use Rattle.snapshot_restore.proofs.Lists.{one_further, around}
use Rattle.backup_cli.specs.RestoredTo.{kept_ticket}

-- none of the first ones has the number
behind_none : (a b : List Snapshot) (number : ℕ) → kept_ticket a number ≡ None → kept_ticket (a ++ b) number ≡ kept_ticket b number
behind_none [] b number none = refl
behind_none (s ∷ a) b number none = by_cases (s.number == number)
    (λ yes. absurd (some_is_none s.ticket (sym (ap (λ (t : Bool). if t then Some s.ticket else kept_ticket a number) yes) ∙ none)))
    (λ not_it.
    ap (λ (t : Bool). if t then Some s.ticket else kept_ticket (a ++ b) number) not_it
    ∙ behind_none a b number (sym (ap (λ (t : Bool). if t then Some s.ticket else kept_ticket a number) not_it) ∙ none))
  where
    some_is_none : (t : Ticket) → ◌≡◌ {A = Option Ticket} (Some t) None → ⊥
    some_is_none t is = cc

pub found_at : (kept : List Snapshot) (i : ℕ) (s : Snapshot) (number : ℕ) → i < length kept → s ≡ get_or kept i s → kept_ticket (take i kept) number ≡ None → (s.number == number) ≡ true → Some s.ticket ≡ kept_ticket kept number
found_at kept i s number lt is none has =
    sym (ap (λ (l : List Snapshot). kept_ticket l number) (around kept i s s lt is)
    ∙ behind_none (take i kept) (s ∷ drop (i + 1) kept) number none
    ∙ ap (λ (t : Bool). if t then Some s.ticket else kept_ticket (drop (i + 1) kept) number) has)

pub none_further : (kept : List Snapshot) (i : ℕ) (s : Snapshot) (number : ℕ) → i < length kept → s ≡ get_or kept i s → kept_ticket (take i kept) number ≡ None → (s.number == number) ≡ false → kept_ticket (take (i + 1) kept) number ≡ None
none_further kept i s number lt is none not_it =
    ap (λ (l : List Snapshot). kept_ticket l number) (one_further kept i s s lt is)
    ∙ behind_none (take i kept) (s ∷ []) number none
    ∙ ap (λ (t : Bool). if t then Some s.ticket else None) not_it
