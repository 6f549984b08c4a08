-- The states that a pending deal sets, by its kind.
use Rattle.std.proofs.Common.{◌≡◌, ℕ, suc, ◌<◌, List, [], ◌∷◌, map, length, get_or, Option, Some, None, refl, sym, ap, ◌∙◌, subst}
use Rattle.std.specs.Prelude.{◌==◌, position}
use Rattle.psb_bytes.specs.declared.ids.Seat.{Seat}
use Rattle.psb_model.specs.declared.entries.InEntry.{InEntry}
use Rattle.psb_model.specs.declared.deals.Deal.{Deal}
use Rattle.psb_model.specs.declared.deals.DealWhat.{DealWhat}
use Rattle.psb_model.specs.declared.deals.DealWhat.TheVariants.{Fresh, Swap, Cancel, PutBack, Forward, Return}
use Rattle.psb_bytes.specs.declared.ids.Object.TheVariants.{Slot}
use Rattle.psb_model.specs.declared.entries.InState.TheVariants as at
use Rattle.psb_model.specs.declared.entries.OutState.TheVariants as on
use Rattle.psb_model.specs.State.{Row, at_row}
use Rattle.psb_model.specs.Effects.{relabel_in, relabel_out}
use Rattle.peer_account.specs.View.{AccountView, named_row}
use Rattle.peer_account.specs.States.{given}
use Rattle.accounts.specs.Freeing.{row_at, StatesSet, StatesRoom}
use Rattle.accounts.proofs.Places.{found, found_within}
use Rattle.accounts.proofs.Loosened.{row_here, same_count, keys_at}

pub within : (vs : List AccountView) (p i : ℕ) → Some i ≡ position (λ (v : AccountView). v.id == p) vs → i < length vs
within vs p i h = let f = found vs p i (sym h) in found_within vs p i f.0 f.1

-- what is pending in the account at a place
pub pending_here : (vs : List AccountView) (i : ℕ) (r : AccountView) (o : Option Deal) → i < length vs → r ≡ get_or vs i r → o ≡ r.row.pending → o ≡ (row_at vs i).pending
pending_here vs i r o lt at is = is ∙ ap (λ (x : Row). x.pending) (row_here vs i r lt at)

of_kind : (d : Deal) (w : DealWhat) (o : Option Deal) → Some d ≡ o → d.what ≡ w → o ≡ Some (record { number = d.number; what = w })
of_kind d w o is k = sym is ∙ ap (λ x. Some (record { number = d.number; what = x })) k

pub sets : (vs ws : List AccountView) (p i : ℕ) (d : Deal) (w : DealWhat) (o : Option Deal) → Some d ≡ o → d.what ≡ w → StatesSet vs p i (Some (record { number = d.number; what = w })) ws → StatesSet vs p i o ws
sets vs ws p i d w o is k h = subst (λ x. StatesSet vs p i x ws) (sym (of_kind d w o is k)) h

pub needs : (vs : List AccountView) (p : ℕ) (ins : List InEntry) (d : Deal) (w : DealWhat) (o : Option Deal) → Some d ≡ o → d.what ≡ w → StatesRoom vs p ins o → StatesRoom vs p ins (Some (record { number = d.number; what = w }))
needs vs p ins d w o is k h = subst (StatesRoom vs p ins) (of_kind d w o is k) h

pub given_of : (d : Deal) (name numbers : List ℕ) (o : Option Deal) → Some d ≡ o → d.what ≡ Cancel name numbers → given o ≡ numbers
given_of d name numbers o is k = ap given (of_kind d (Cancel name numbers) o is k)

pub sets_none : (vs : List AccountView) (p i : ℕ) (o : Option Deal) → None ≡ o → StatesSet vs p i o vs
sets_none vs p i o is = subst (λ x. StatesSet vs p i x vs) is refl

-- a deal of another kind sets none
pub sets_no_state : (vs : List AccountView) (p i : ℕ) (d : Deal) (o : Option Deal) → Some d ≡ o → ((name numbers : List ℕ) → d.what ≡ Cancel name numbers → ⊥) → ((slot : ℕ) (entry : Seat) → d.what ≡ Forward slot entry → ⊥) → ((slot : ℕ) → d.what ≡ Return slot → ⊥) → StatesSet vs p i o vs
sets_no_state vs p i d o is cancel forward return = by_what d.what refl
  where
    by_what : (w : DealWhat) → d.what ≡ w → StatesSet vs p i o vs
    by_what (Fresh name) k = sets vs vs p i d (Fresh name) o is k refl
    by_what (Swap name mine) k = sets vs vs p i d (Swap name mine) o is k refl
    by_what (Cancel name theirs) k = absurd (cancel name theirs k)
    by_what (PutBack name first) k = sets vs vs p i d (PutBack name first) o is k refl
    by_what (Forward slot entry) k = absurd (forward slot entry k)
    by_what (Return slot) k = absurd (return slot k)

-- as many accounts stand there as before
same_length : (vs ws : List AccountView) → map (λ (x : ℕ × Row). x.0) (map named_row ws) ≡ map (λ (x : ℕ × Row). x.0) (map named_row vs) → length ws ≡ length vs
same_length [] [] h = refl
same_length [] (w ∷ ws) h = absurd (cc (h))
same_length (v ∷ vs) [] h = absurd (cc (h))
same_length (v ∷ vs) (w ∷ ws) h = let rest : map (λ (x : ℕ × Row). x.0) (map named_row ws) ≡ map (λ (x : ℕ × Row). x.0) (map named_row vs) = cc (h) in ap suc (same_length vs ws rest)

pub set_length : (vs ws : List AccountView) (p i : ℕ) (o : Option Deal) → StatesSet vs p i o ws → length ws ≡ length vs
set_length vs ws p i None h = ap length h
set_length vs ws p i (Some d) h = by_what d.what h
  where
    by_what : (w : DealWhat) → StatesSet vs p i (Some (record { number = d.number; what = w })) ws → length ws ≡ length vs
    by_what (Fresh name) k = ap length k
    by_what (Swap name mine) k = ap length k
    by_what (Cancel name theirs) k = same_count vs ws k.rooms
    by_what (PutBack name first) k = ap length k
    by_what (Forward slot entry) k =
        let f = relabel_in (Slot entry.slot) (at.Forwarded (record { peer = p; slot = slot })) in
        let g = relabel_out (Slot slot) (on.Carries entry) in
        same_length vs ws (ap (map (λ (x : ℕ × Row). x.0)) k ∙ keys_at entry.peer f (at_row p g (map named_row vs)) ∙ keys_at p g (map named_row vs))
    by_what (Return slot) k = same_length vs ws (ap (map (λ (x : ℕ × Row). x.0)) k ∙ keys_at p (relabel_out (Slot slot) on.Own) (map named_row vs))
