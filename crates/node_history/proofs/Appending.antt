-- A change is made: its record goes behind those of the history.
use Rattle.std.proofs.Common.{◌≡◌, ◌⊎◌, inl, inr, ⊎_elim, ℕ, Bool, true, false, List, [], ◌∷◌, ◌++◌, Option, Some, None, is_some, refl, sym, ap, subst}
use Rattle.std.specs.Option.{unwrap_or}
use Rattle.std.specs.Bool.{MatchBool}
use Rattle.psb_station.specs.View.{View}
use Rattle.psb_station.specs.Span.{Leaves}
use Rattle.psb_station.proofs.Spans.{weakened}
use Rattle.node_journal.specs.Entry.{Entry, entry}
use Rattle.psb_model.specs.Heads.{head_of, body_of}
use Rattle.psb_model.specs.declared.change.Change.{Change}
use Rattle.change_codec.specs.Records.{has_body, IsRecord}
use Rattle.node_history.specs.Stands.{AreDecoded, HoldsHistory}
use Rattle.node_history.proofs.Reopened.{empty_body}
use Rattle.node_history.proofs.Reading.{decoded_push}

-- the record that is written is the change's
pub own_record : (c : Change) → is_some (body_of c) ≡ true → IsRecord c (head_of c) (Some (unwrap_or (body_of c) []))
own_record c there = record { head_is = refl; body_is = parts (has_body c) (body_of c) there (empty_body c) }
  where
    same : (o : Option (List ℕ)) → is_some o ≡ true → Some (unwrap_or o []) ≡ o
    same None h = absurd (cc)
    same (Some bytes) h = refl

    parts : (flag : Bool) (o : Option (List ℕ)) → is_some o ≡ true → (flag ≡ false → o ≡ Some []) → MatchBool flag (Some (unwrap_or o []) ≡ o) (unwrap_or (Some (unwrap_or o [])) [] ≡ [])
    parts true o h e = same o h
    parts false o h e = ap (λ (x : Option (List ℕ)). unwrap_or x []) (e refl)

pub pushed : (h : List Change) (es : List Entry) (c : Change) (head body : List ℕ) → AreDecoded h es → head ≡ head_of c → body ≡ unwrap_or (body_of c) [] → is_some (body_of c) ≡ true
    → AreDecoded (h ++ c ∷ []) (es ++ entry head body ∷ [])
pushed h es c head body are head_is body_is there =
    decoded_push h es c (entry head body) are
    (subst (λ (l : List ℕ). IsRecord c l (Some body)) (sym head_is) (subst (λ (l : List ℕ). IsRecord c (head_of c) (Some l)) (sym body_is) (own_record c there)))

-- what an append leaves, seen as histories
pub leaves_histories : (stands : List Entry → List ℕ → Type 0) (h : List Change) (es : List Entry) (c : Change) (head body : List ℕ) (told : ℕ) (old new : View)
    → AreDecoded h es → head ≡ head_of c → body ≡ unwrap_or (body_of c) [] → is_some (body_of c) ≡ true
    → Leaves old new (λ i k. (k ≡ told) × (stands es i ⊎ stands (es ++ entry head body ∷ []) i))
    → Leaves old new (λ i k. (k ≡ told) × (HoldsHistory stands h i ⊎ HoldsHistory stands (h ++ c ∷ []) i))
leaves_histories stands h es c head body told old new are head_is body_is there run =
    weakened old new (λ i k. (k ≡ told) × (stands es i ⊎ stands (es ++ entry head body ∷ []) i)) (λ i k. (k ≡ told) × (HoldsHistory stands h i ⊎ HoldsHistory stands (h ++ c ∷ []) i))
    (λ i k both. (
      both.0,
      ⊎_elim (λ s. inl (record { records = es; decoded = are; image_is = s }))
          (λ s. inr (record { records = es ++ entry head body ∷ []; decoded = pushed h es c head body are head_is body_is there; image_is = s })) both.1,
    ))
    run
