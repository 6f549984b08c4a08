-- The slots of a table: their order, by the peer and then by the number, and what is noted of several.
use Rattle.std.proofs.Common.{◌≡◌, ℕ, ◌+◌, ◌<◌, Bool, true, false, not, ◌||◌, ◌&&◌, ◌==◌, cond, List, [], ◌∷◌, ◌++◌, length, take, get_or, refl, sym, ◌∙◌, ap, arith}
use Rattle.std.specs.List.{list_any}
use Rattle.std.specs.declared.cmp.Ordering.{Ordering}
use Rattle.std.specs.declared.cmp.Ordering.TheVariants.{Less, Equal, Greater}
use Rattle.std.specs.Ordering.{nat_cmp, is_eq, ordering_then}
use Rattle.std.proofs.lemmas.Bool.{and_parts, eqb-true, eq-eqb}
use Rattle.std.proofs.lemmas.List.{take_more}
use Rattle.node_history.specs.declared.lacking.SlotAt.{SlotAt}
use Rattle.node_history.specs.contracts.lacking.SlotAtOrd.TheImpl.{cmp-value as slot_cmp}

number_eq : (a b : ℕ) → is_eq (nat_cmp a b) ≡ (a == b)
number_eq a b = grind (arith)

then_eq : (a b : Ordering) → is_eq (ordering_then a b) ≡ (is_eq a && is_eq b)
then_eq Less b = refl
then_eq Equal b = refl
then_eq Greater b = refl

slot_is : (a b : SlotAt) → is_eq (slot_cmp.it a b) ≡ ((a.peer == b.peer) && (a.slot == b.slot))
slot_is a b = then_eq (nat_cmp a.peer b.peer) (nat_cmp a.slot b.slot) ∙ (λ i. number_eq a.peer b.peer i && number_eq a.slot b.slot i)

pub slot_equal : (x : SlotAt) → is_eq (slot_cmp.it x x) ≡ true
slot_equal x = slot_is x x ∙ rw (eq-eqb x.peer x.peer refl, eq-eqb x.slot x.slot refl) refl

pub slot_one : (a b : SlotAt) → is_eq (slot_cmp.it a b) ≡ true → a ≡ b
slot_one a b h =
    let two = and_parts (a.peer == b.peer) (a.slot == b.slot) (sym (slot_is a b) ∙ h) in
    λ i. record { peer = eqb-true a.peer b.peer two.0 i; slot = eqb-true a.slot b.slot two.1 i }

-- ---- what is noted of the slots of a list, one after the other

abbrev pub slot_among : List ℕ → ℕ → Bool
slot_among slots n = list_any (λ m. m == n) slots

-- what is noted of a peer's slots, and what was before
abbrev pub AreNoted : (ℕ → ℕ → Bool) → (ℕ → ℕ → Bool) → ℕ → List ℕ → Bool → Type 0
AreNoted old new peer slots has_them = (p n : ℕ) → new p n ≡ cond (peer == p && slot_among slots n) (not has_them) (old p n)

and_none : (a : Bool) → (a && false) ≡ false
and_none true = refl
and_none false = refl

pub none_noted : (old : ℕ → ℕ → Bool) (peer : ℕ) (has_them : Bool) → AreNoted old old peer [] has_them
none_noted old peer has_them p n = ap (λ (b : Bool). cond b (not has_them) (old p n)) (sym (and_none (peer == p)))

one_or_other : (same others one a b : Bool) → cond (same && one) a (cond (same && others) a b) ≡ cond (same && (others || one)) a b
one_or_other false others one a b = refl
one_or_other true true true a b = refl
one_or_other true true false a b = refl
one_or_other true false true a b = refl
one_or_other true false false a b = refl

among_last : (slots : List ℕ) (slot n : ℕ) → slot_among (slots ++ slot ∷ []) n ≡ (slot_among slots n || (slot == n))
among_last [] slot n = or_none (slot == n)
  where
    or_none : (a : Bool) → (a || false) ≡ a
    or_none true = refl
    or_none false = refl
among_last (m ∷ ms) slot n = ap (λ (b : Bool). m == n || b) (among_last ms slot n) ∙ or_last (m == n) (slot_among ms n) (slot == n)
  where
    or_last : (a b c : Bool) → (a || (b || c)) ≡ ((a || b) || c)
    or_last true b c = refl
    or_last false b c = refl

pub one_noted : (old mid new : ℕ → ℕ → Bool) (peer : ℕ) (slots : List ℕ) (i : ℕ) (has_them : Bool) → i < length slots → AreNoted old mid peer (take i slots) has_them
    → ((p n : ℕ) → new p n ≡ cond (peer == p && get_or slots i 0 == n) (not has_them) (mid p n)) → AreNoted old new peer (take (i + 1) slots) has_them
one_noted old mid new peer slots i has_them lt noted step p n =
    let slot = get_or slots i 0 in
    step p n
    ∙ ap (λ (b : Bool). cond (peer == p && slot == n) (not has_them) b) (noted p n)
    ∙ one_or_other (peer == p) (slot_among (take i slots) n) (slot == n) (not has_them) (old p n)
    ∙ ap (λ (b : Bool). cond (peer == p && b) (not has_them) (old p n)) (sym (ap (λ (l : List ℕ). slot_among l n) (take_more slots i 0 lt) ∙ among_last (take i slots) slot n))
