-- What each change adds to the three numbers of its peer, and takes from them.
use Rattle.std.specs.Prelude.{◌≡◌, ℕ, ◌+◌, true, ◌==◌, if◌then◌else◌, List, [], ◌∷◌, filter, length, sum_by, Option, Some, None}
use Rattle.psb_bytes.specs.declared.ids.Object.{Object}
use Rattle.psb_bytes.specs.declared.ids.Object.TheVariants.{Chunk}
use Rattle.psb_model.specs.declared.deals.Deal.{Deal}
use Rattle.psb_model.specs.declared.deals.DealWhat.TheVariants.{Fresh, Swap, Cancel, PutBack}
use Rattle.psb_model.specs.declared.change.Change.{Change}
use Rattle.psb_model.specs.declared.change.Change.TheVariants.{TookFresh, TookSwap, LetGo, LetGoBack, Settled, Passed, Failed, Declined, Discarded}
use Rattle.psb_model.specs.Words.{units, only, units_at}
use Rattle.psb_model.specs.State.{Row, State, row, in_key, in_size, out_key, out_size, debt_size, own_len, nothing_yet}
use Rattle.psb_model.specs.Conditions.{peer_of, declined_objects}
use Rattle.psb_model.specs.Effects.{is_whole_listed, after}
use Rattle.psb_model.specs.History.{held, back, debt, is_lawful}

-- what is added to held, back and debt, and what is taken from them
pub record Shift : Type 0 where
  pub held_up : ℕ
  pub held_down : ℕ
  pub back_up : ℕ
  pub back_down : ℕ
  pub debt_up : ℕ
  pub debt_down : ℕ

-- nothing moves
abbrev pub no_shift : Shift
no_shift = record { held_up = 0; held_down = 0; back_up = 0; back_down = 0; debt_up = 0; debt_down = 0 }

-- units of the listed objects in in(p), and in out(p)
abbrev pub in_units : Row → List Object → ℕ
in_units r objects = sum_by in_size (only in_key objects r.ins)

abbrev pub out_units : Row → List Object → ℕ
out_units r objects = sum_by out_size (only out_key objects r.outs)

-- units that were owed back are debt
abbrev pub lost : ℕ → Shift
lost n = record no_shift { back_down = n; debt_up = n }

-- what the pending deal moves when it is settled
abbrev pub settled_shift : State → Row → Option Deal → List ℕ → Shift
settled_shift s r None numbers = no_shift
settled_shift s r (Some d) numbers = elim d.what [
  | Fresh name ↦ record no_shift { held_up = length numbers; back_up = units (own_len s.own name) }
  | Swap name mine ↦ record no_shift { back_down = length mine; back_up = units (own_len s.own name) }
  | Cancel name theirs ↦ record no_shift { held_down = length theirs; back_down = units_at out_key out_size r.outs (Chunk name) }
  | PutBack name first ↦ record no_shift { back_down = units_at out_key out_size r.outs (Chunk name); back_up = units_at out_key out_size r.outs (Chunk name) }
  | _ ↦ no_shift
]

-- what each kind moves
abbrev pub shift_of : State → Change → Shift
shift_of s (TookFresh x) = record no_shift { held_up = units x.len; back_up = units x.len }
shift_of s (TookSwap x) = record no_shift { held_down = length x.slots; held_up = units x.len }
shift_of s (LetGo x) = record no_shift { held_down = units_at in_key in_size (row s x.peer).ins (Chunk x.name); back_down = length x.slots }
shift_of s (LetGoBack x) = record no_shift { held_down = units_at in_key in_size (row s x.peer).ins (Chunk x.name); held_up = length x.slots }
shift_of s (Settled x) = settled_shift s (row s x.peer) (row s x.peer).pending x.slots
shift_of s (Passed x) =
    let n = sum_by debt_size (filter (is_whole_listed x.objects) (row s x.peer).debts) in
    record no_shift { back_up = n; debt_down = n }
shift_of s (Failed x) = lost (out_units (row s x.peer) x.objects)
shift_of s (Declined x) = lost (out_units (row s x.peer) (declined_objects s x.peer x.asked x.places))
shift_of s (Discarded x) = let n = in_units (row s x.peer) x.objects in record no_shift { held_down = n; debt_down = n }
shift_of s _ = no_shift

-- what the change does to the numbers of q
abbrev pub shift_for : State → Change → ℕ → Shift
shift_for s c q = elim (peer_of c) [ None ↦ no_shift | Some p ↦ if p == q then shift_of s c else no_shift ]

-- one of the six numbers, summed over a history
abbrev pub sum_from : (Shift → ℕ) → State → List Change → ℕ → ℕ
sum_from f s [] q = 0
sum_from f s (c ∷ cs) q = f (shift_for s c q) + sum_from f (after s c) cs q

abbrev pub moved_sum : (Shift → ℕ) → List Change → ℕ → ℕ
moved_sum f h q = sum_from f nothing_yet h q

-- each of the three numbers is the sum of what was moved
pub record AreSums (h : List Change) (q : ℕ) : Type 0 where
  pub held : held h q + moved_sum (λ m. m.held_down) h q ≡ moved_sum (λ m. m.held_up) h q
  pub back : back h q + moved_sum (λ m. m.back_down) h q ≡ moved_sum (λ m. m.back_up) h q
  pub debt : debt h q + moved_sum (λ m. m.debt_down) h q ≡ moved_sum (λ m. m.debt_up) h q

-- of every peer, in every lawful history
abbrev pub AllAreSums : Type 0
AllAreSums = (h : List Change) (q : ℕ) → is_lawful h ≡ true → AreSums h q
