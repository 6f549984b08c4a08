-- Links stay one to one where one is made or cut.
use Rattle.std.proofs.Common.{◌≡◌, true, false, cond, Option, Some, None, sym, ap, ◌∙◌}
use Rattle.psb_bytes.specs.declared.ids.Seat.{Seat}
use Rattle.claim_chain.specs.Seats.{seat_eq}
use Rattle.claim_chain.specs.OneToOne.{AreOneToOne}
use Rattle.claim_chain.proofs.Seats.{by_cases, seat_eq-refl, same_seat}

-- the same functions, seat by seat
pub same : (n c n' c' : Seat → Option Seat) → ((h : Seat) → n' h ≡ n h) → ((o : Seat) → c' o ≡ c o) → AreOneToOne n c → AreOneToOne n' c'
same n c n' c' next carried all h o = (λ e. carried o ∙ (all h o).0 (sym (next h) ∙ e), λ e. next h ∙ (all h o).1 (sym (carried o) ∙ e))

-- one more link between seats that had none
pub linked : (n c n' c' : Seat → Option Seat) (held out : Seat) → n held ≡ None → c out ≡ None
    → ((h : Seat) → n' h ≡ cond (seat_eq held h) (Some out) (n h)) → ((o : Seat) → c' o ≡ cond (seat_eq out o) (Some held) (c o)) → AreOneToOne n c → AreOneToOne n' c'
linked n c n' c' held out free free' next carried all h o = by_cases (seat_eq held h)
    (λ k. by_cases (seat_eq out o)
    (λ l.
    let at_h : held ≡ h = same_seat held h k in
    let at_o : out ≡ o = same_seat out o l in
    (λ e. carried o ∙ rw l (ap Some at_h), λ e. next h ∙ rw k (ap Some at_o)))
    (λ l.
    let at_h : held ≡ h = same_seat held h k in (
      λ e. let is : Some out ≡ Some o = sym (rw k at (next h)) ∙ e in absurd (apart l is),
      λ e. let is : c o ≡ Some h = sym (rw l at (carried o)) ∙ e in let had : n h ≡ Some o = (all h o).1 is in let none : n h ≡ None = ap n (sym at_h) ∙ free in absurd (cc),
    )))
    (λ k. by_cases (seat_eq out o)
    (λ l.
    let at_o : out ≡ o = same_seat out o l in (
      λ e. let is : n h ≡ Some o = sym (rw k at (next h)) ∙ e in let had : c o ≡ Some h = (all h o).0 is in let none : c o ≡ None = ap c (sym at_o) ∙ free' in absurd (cc),
      λ e. let is : Some held ≡ Some h = sym (rw l at (carried o)) ∙ e in absurd (apart k is),
    ))
    (λ l. (λ e. carried o ∙ rw l ((all h o).0 (sym (rw k at (next h)) ∙ e)), λ e. next h ∙ rw k ((all h o).1 (sym (rw l at (carried o)) ∙ e)))))
  where
    apart : {a b : Seat} → seat_eq a b ≡ false → Some a ≡ Some b → ⊥
    apart {a = a} {b = b} differ is = let one : a ≡ b = cc in let yes : seat_eq a b ≡ true = ap (seat_eq a) (sym one) ∙ seat_eq-refl a in cc

-- one link less
pub cut : (n c n' c' : Seat → Option Seat) (held out : Seat) → n held ≡ Some out
    → ((h : Seat) → n' h ≡ cond (seat_eq held h) None (n h)) → ((o : Seat) → c' o ≡ cond (seat_eq out o) None (c o)) → AreOneToOne n c → AreOneToOne n' c'
cut n c n' c' held out had next carried all h o = by_cases (seat_eq held h)
    (λ k.
    let at_h : held ≡ h = same_seat held h k in (
      λ e. let none : n' h ≡ None = rw k at (next h) in absurd (cc),
      λ e. by_cases (seat_eq out o)
          (λ l. let none : c' o ≡ None = rw l at (carried o) in absurd (cc))
          (λ l.
          let is : c o ≡ Some h = sym (rw l at (carried o)) ∙ e in
          let back : n h ≡ Some o = (all h o).1 is in
          let one : n h ≡ Some out = ap n (sym at_h) ∙ had in
          absurd (apart l (sym one ∙ back))),
    ))
    (λ k. by_cases (seat_eq out o)
    (λ l.
    let at_o : out ≡ o = same_seat out o l in (
      λ e.
          let is : n h ≡ Some o = sym (rw k at (next h)) ∙ e in
          let back : c o ≡ Some h = (all h o).0 is in
          let one : c o ≡ Some held = ap c (sym at_o) ∙ (all held out).0 had in
          absurd (apart k (sym one ∙ back)),
      λ e. let none : c' o ≡ None = rw l at (carried o) in absurd (cc),
    ))
    (λ l. (λ e. carried o ∙ rw l ((all h o).0 (sym (rw k at (next h)) ∙ e)), λ e. next h ∙ rw k ((all h o).1 (sym (rw l at (carried o)) ∙ e)))))
  where
    apart : {a b : Seat} → seat_eq a b ≡ false → Some a ≡ Some b → ⊥
    apart {a = a} {b = b} differ is = let one : a ≡ b = cc in let yes : seat_eq a b ≡ true = ap (seat_eq a) (sym one) ∙ seat_eq-refl a in cc
