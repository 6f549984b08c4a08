-- Seats as keys of a tree.
use Rattle.std.proofs.Common.{◌≡◌, ℕ, Bool, true, false, ◌&&◌, cond, Option, refl, sym, ap, ◌∙◌, arith}
use Rattle.std.specs.Prelude.{◌==◌}
use Rattle.std.specs.Ordering.{nat_cmp, is_eq}
use Rattle.std.specs.Cmp.{tied_then}
use Rattle.std.specs.BTreeMap.{BTreeMap, get, UpdatesBy}
use Rattle.std.proofs.lemmas.Bool.{and_parts, eqb-true, eq-eqb}
use Rattle.std.proofs.lemmas.Bool.Decides.{nat_tests}
use Rattle.psb_bytes.specs.declared.ids.Seat.{Seat}
use Rattle.claim_chain.specs.Seats.{seat_eq}
use Rattle.claim_chain.specs.SeatMap.{key_cmp}

pub by_cases : {P : Type 0} (b : Bool) → (b ≡ true → P) → (b ≡ false → P) → P
by_cases true f g = f refl
by_cases false f g = g refl

pub seat_eq-refl : (s : Seat) → seat_eq s s ≡ true
seat_eq-refl s = rw (eq-eqb s.peer s.peer refl, eq-eqb s.slot s.slot refl) refl

pub same_seat : (a b : Seat) → seat_eq a b ≡ true → a ≡ b
same_seat a b e =
    let both = and_parts (a.peer == b.peer) (a.slot == b.slot) e in
    let peer : a.peer ≡ b.peer = eqb-true a.peer b.peer both.0 in
    let slot : a.slot ≡ b.slot = eqb-true a.slot b.slot both.1 in
    ap (λ (n : ℕ). let s : Seat = record { peer = n; slot = a.slot } in s) peer ∙ ap (λ (n : ℕ). let s : Seat = record { peer = b.peer; slot = n } in s) slot

tied : (a b : ℕ) → is_eq (nat_cmp a b) ≡ (a == b)
tied a b = grind (arith, nat_tests)

-- a key is a seat's where both of its parts are
is_key : (k q : ℕ × ℕ) → is_eq (key_cmp k q) ≡ (k.0 == q.0 && k.1 == q.1)
is_key k q = sym (tied_then (nat_cmp k.0 q.0) (nat_cmp k.1 q.1)) ∙ ap (λ (b : Bool). b && is_eq (nat_cmp k.1 q.1)) (tied k.0 q.0) ∙ ap (λ (b : Bool). k.0 == q.0 && b) (tied k.1 q.1)

-- a change at the key of a seat, seen at each seat
pub changed : (m n : BTreeMap (ℕ × ℕ) Seat) (k : ℕ × ℕ) (at : Seat) (w : Option Seat) → k.0 ≡ at.peer → k.1 ≡ at.slot → UpdatesBy key_cmp (key_cmp k) m n w
    → (s : Seat) → get key_cmp n (s.peer, s.slot) ≡ cond (seat_eq at s) w (get key_cmp m (s.peer, s.slot))
changed m n k at w peer slot step s =
    step.0 (s.peer, s.slot)
    ∙ ap (λ (b : Bool). cond b w (get key_cmp m (s.peer, s.slot)))
    (is_key k (s.peer, s.slot) ∙ ap (λ (p : ℕ). p == s.peer && k.1 == s.slot) peer ∙ ap (λ (i : ℕ). at.peer == s.peer && i == s.slot) slot)
