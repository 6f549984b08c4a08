-- Each entry that the node answers for has a unit or more, so there are no more entries than the capacity has units.
use Rattle.std.proofs.Common.{◌≡◌, ℕ, ◌≤◌, Bool, true, List, [], ◌∷◌, length, sum_by, Option, Some, None, refl, subst, arith}
use Rattle.std.specs.Prelude.{nat_le}
use Rattle.std.specs.List.{list_all}
use Rattle.std.proofs.lemmas.Bool.{and_parts, leb-true}
use Rattle.std.proofs.lemmas.Bool.Decides.{nat_tests}
use Rattle.std.proofs.lemmas.List.Sums.{sum_by-cons}
use Rattle.psb_model.specs.declared.entries.InEntry.{InEntry}
use Rattle.psb_model.specs.declared.deals.Deal.{Deal}
use Rattle.psb_model.specs.declared.deals.DealWhat.{DealWhat}
use Rattle.psb_model.specs.declared.deals.DealWhat.TheVariants.{Fresh, Swap, Cancel, PutBack, Forward, Return}
use Rattle.psb_model.specs.declared.change.Change.{Change}
use Rattle.psb_model.specs.declared.change.Change.TheVariants.{TookFresh, TookSwap, LetGoBack, Settled}
use Rattle.psb_model.specs.Words.{units}
use Rattle.psb_model.specs.State.{Row, State, row, in_size}
use Rattle.psb_model.specs.Conditions.{capacity}
use Rattle.psb_model.specs.Effects.{move_of, settle_move, direct_slots}
use Rattle.psb_model.proofs.Steady.{use_within}
use Rattle.psb_model.proofs.Freed.{LeavesStates, each_entry}
use Rattle.psb_ledger.specs.View.{IsReached}
use Rattle.psb_ledger.proofs.Sound.{steady_of}

abbrev pub weighs : InEntry → Bool
weighs e = nat_le 1 e.units

-- WHAT COMES

direct_weigh : (numbers : List ℕ) → list_all weighs (direct_slots numbers) ≡ true
direct_weigh [] = refl
direct_weigh (n ∷ ns) = direct_weigh ns

settle_weigh : (s : State) (r : Row) (o : Option Deal) (numbers : List ℕ) → list_all weighs (settle_move s r o numbers).in_new ≡ true
settle_weigh s r None numbers = refl
settle_weigh s r (Some d) numbers = by_what d.what
  where
    by_what : (w : DealWhat) → list_all weighs (settle_move s r (Some (record { number = d.number; what = w })) numbers).in_new ≡ true
    by_what (Fresh name) = direct_weigh numbers
    by_what (Swap name mine) = refl
    by_what (Cancel name theirs) = refl
    by_what (PutBack name first) = refl
    by_what (Forward slot entry) = refl
    by_what (Return slot) = refl

chunk_weighs : (len : ℕ) → nat_le 1 (units len) ≡ true
chunk_weighs len = let some : 1 ≤ units len = omega arith in grind (arith, nat_tests, some)

weigh_comes : (s : State) (c : Change) → list_all weighs (move_of s c).in_new ≡ true
weigh_comes s (TookFresh x) = rw (chunk_weighs x.len) refl
weigh_comes s (TookSwap x) = rw (chunk_weighs x.len) refl
weigh_comes s (LetGoBack x) = direct_weigh x.slots
weigh_comes s (Settled x) = settle_weigh s (row s x.peer) (row s x.peer).pending x.slots
weigh_comes s _ = refl

-- EVERY HISTORY

weighs_stay : LeavesStates weighs
weighs_stay e n st k h = h

count_units : (l : List InEntry) → list_all weighs l ≡ true → length l ≤ sum_by in_size l
count_units [] h = omega arith
count_units (e ∷ es) h =
    let two = and_parts (weighs e) (list_all weighs es) h in
    omega (arith, leb-true 1 e.units two.0, count_units es two.1, sum_by-cons in_size e es)

pub weigh_row : (s : State) (p : ℕ) → IsReached s → list_all weighs (row s p).ins ≡ true
weigh_row s p r = subst (λ (t : State). list_all weighs (row t p).ins ≡ true) r.gives (each_entry weighs weighs_stay weigh_comes r.history p r.lawful)

pub few_ins : (s : State) (p : ℕ) → IsReached s → length (row s p).ins ≤ capacity s.settings
few_ins s p r = omega (arith, count_units (row s p).ins (weigh_row s p r), use_within s s.rows p, (steady_of s r).used)
