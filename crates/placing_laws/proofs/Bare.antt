-- What a change of any kind does to the rows, seen by what does not look at the states of entries: the row of its peer
-- is changed, and the others stay.
use Rattle.std.proofs.Common.{◌≡◌, ℕ, ◌+◌, Bool, true, false, ◌||◌, ◌==◌, cond, Some, refl, sym, ap, ap₂, ◌∙◌}
use Rattle.psb_bytes.specs.declared.ids.Object.{Object}
use Rattle.psb_model.specs.declared.change.Change.{Change}
use Rattle.psb_model.specs.Words.{has, units_at}
use Rattle.psb_model.specs.State.{Row, State, row, is_peer, in_key, in_size, out_key, out_size, debt_key}
use Rattle.psb_model.specs.Conditions.{peer_of}
use Rattle.psb_model.specs.Effects.{after}
use Rattle.psb_model.proofs.ByObject.{units_at-map}
use Rattle.psb_model.proofs.Parts.{booked_units}
use Rattle.psb_model.proofs.Bare.{bare, bare_in, bare_out, bare_debt, has_bare, changed, row_bare}
use Rattle.psb_model.proofs.Lent.{lent}

-- it sees the same in a row without states
abbrev pub IsBlind : {X : Type 0} → (Row → X) → Type 0
IsBlind see = (r : Row) → see (bare r) ≡ see r

seen_then : {X : Type 0} (see : Row → X) → IsBlind see → (s : State) (c : Change) (q p : ℕ) → peer_of c ≡ Some q → is_peer s q ≡ true → see (row (after s c) p) ≡ see (cond (q == p) (changed s c (row s p)) (row s p))
seen_then see blind s c q p peer here = sym (blind (row (after s c) p)) ∙ ap see (row_bare s c q p peer here) ∙ blind (cond (q == p) (changed s c (row s p)) (row s p))

-- in the row of the change's peer
pub seen_at : {X : Type 0} (see : Row → X) → IsBlind see → (s : State) (c : Change) (q p : ℕ) → peer_of c ≡ Some q → is_peer s q ≡ true → (q == p) ≡ true → see (row (after s c) p) ≡ see (changed s c (row s p))
seen_at see blind s c q p peer here k = seen_then see blind s c q p peer here ∙ ap (λ (b : Bool). see (cond b (changed s c (row s p)) (row s p))) k

-- and in any other
pub seen_beside : {X : Type 0} (see : Row → X) → IsBlind see → (s : State) (c : Change) (q p : ℕ) → peer_of c ≡ Some q → is_peer s q ≡ true → (q == p) ≡ false → see (row (after s c) p) ≡ see (row s p)
seen_beside see blind s c q p peer here k = seen_then see blind s c q p peer here ∙ ap (λ (b : Bool). see (cond b (changed s c (row s p)) (row s p))) k

-- ---- what stands here, with its units

abbrev pub has_in : Object → Row → Bool
has_in o r = has in_key r.ins o

abbrev pub units_in : Object → Row → ℕ
units_in o r = units_at in_key in_size r.ins o

pub has_in_blind : (o : Object) → IsBlind (has_in o)
has_in_blind o r = has_bare in_key bare_in (λ e. refl) r.ins o

pub units_in_blind : (o : Object) → IsBlind (units_in o)
units_in_blind o r = units_at-map in_key in_size in_key in_size bare_in (λ e. refl) (λ e. refl) r.ins o

-- ---- what stands there, with its units, and what is owed for it

abbrev pub units_out : Object → Row → ℕ
units_out o r = units_at out_key out_size r.outs o

abbrev pub has_lent : Object → Row → Bool
has_lent o r = lent r o

abbrev pub units_lent : Object → Row → ℕ
units_lent o r = units_at out_key out_size r.outs o + units_at debt_key booked_units r.debts o

pub units_out_blind : (o : Object) → IsBlind (units_out o)
units_out_blind o r = units_at-map out_key out_size out_key out_size bare_out (λ e. refl) (λ e. refl) r.outs o

pub has_lent_blind : (o : Object) → IsBlind (has_lent o)
has_lent_blind o r = ap₂ (λ (a b : Bool). a || b) (has_bare out_key bare_out (λ e. refl) r.outs o) (has_bare debt_key bare_debt (λ e. refl) r.debts o)

pub units_lent_blind : (o : Object) → IsBlind (units_lent o)
units_lent_blind o r = ap₂ (λ (a b : ℕ). a + b) (units_out_blind o r) (units_at-map debt_key booked_units debt_key booked_units bare_debt (λ e. refl) (λ e. refl) r.debts o)
