-- A table of keys, looked up.
use Rattle.std.proofs.Common.{◌≡◌, ℕ, Bool, true, false, ◌==◌, nat_eq, cond, List, [], ◌∷◌, Option, Some, refl, sym, ap, ◌∙◌}
use Rattle.std.specs.Map.{lookup}
use Rattle.std.proofs.lemmas.Bool.{false≢true, eq-eqb, eqb-true}
use Rattle.wire_codec.specs.Frames.{key_in}

flipped : (a b : ℕ) → (a == b) ≡ (b == a)
flipped a b = by (a == b) (b == a) refl refl
  where
    by : (x y : Bool) → (a == b) ≡ x → (b == a) ≡ y → (a == b) ≡ (b == a)
    by true true p q = p ∙ sym q
    by true false p q = absurd (false≢true (sym q ∙ eq-eqb b a (sym (eqb-true a b p))))
    by false true p q = absurd (false≢true (sym p ∙ eq-eqb a b (sym (eqb-true b a q))))
    by false false p q = p ∙ sym q

pub looked_up : (rows : List (ℕ × List ℕ)) (peer : ℕ) → lookup (nat_eq peer) rows ≡ key_in rows peer
looked_up [] peer = refl
looked_up (row ∷ rows) peer =
    ap (λ (b : Bool). cond b (Some row.1) (lookup (nat_eq peer) rows)) (flipped peer row.0)
    ∙ ap (λ (o : Option (List ℕ)). cond (row.0 == peer) (Some row.1) o) (looked_up rows peer)
