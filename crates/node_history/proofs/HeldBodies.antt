-- A name that is held was brought.
use Rattle.std.proofs.Common.{◌≡◌, ℕ, ◌+◌, Bool, true, false, not, cond, List, [], ◌∷◌, Option, Some, None, is_some, refl, sym, ◌∙◌, ap}
use Rattle.std.proofs.lemmas.Bool.{false≢true, true≢false}
use Rattle.psb_model.specs.State.{State, is_held}
use Rattle.psb_model.specs.Heads.{body_of}
use Rattle.psb_model.specs.History.{state}
use Rattle.psb_model.specs.Needed.{brings, brings_name, last_bringing, last_brought, is_body, body_is_right, IsValid}
use Rattle.psb_model.specs.declared.change.Change.{Change}
use Rattle.chunk_store.specs.declared.store.Store.{Store}
use Rattle.chunk_store.specs.Store.{record_of}
use Rattle.node_history.specs.Lacking.{lacks}
use Rattle.node_history.specs.Names.{brought_from, KnowsNames}
use Rattle.node_history.proofs.Brought.{or_this, bytes_of}
use Rattle.node_history.proofs.Lacks.{sound_lacks}

or_is : (o : Option Change) (b : Bool) (c : Change) → b ≡ true → is_some (or_this o b c) ≡ true
or_is None b c is = ap (λ (t : Bool). is_some (or_this None t c)) is
or_is (Some d) b c is = refl

or_was : (o : Option Change) (b : Bool) (c : Change) → is_some o ≡ true → is_some (or_this o b c) ≡ true
or_was None b c is = absurd (false≢true is)
or_was (Some d) b c is = refl

placed_last : (n : ℕ) (name : List ℕ) (h : List Change) (k : ℕ) → brought_from n name h ≡ Some k → is_some (last_bringing name h) ≡ true
placed_last n name [] k is = absurd (cc)
placed_last n name (c ∷ h) k is = by_rest (brought_from (n + 1) name h) refl (λ i some. placed_last (n + 1) name h i some)
  where
    by_this : (b : Bool) → brings_name name c ≡ b → brought_from (n + 1) name h ≡ None → is_some (last_bringing name (c ∷ h)) ≡ true
    by_this true it none = or_is (last_bringing name h) (brings_name name c) c it
    by_this false it none =
        let clash : None ≡ Some k = sym (ap (λ (o : Option ℕ). elim o [ Some i ↦ Some i | None ↦ cond (brings_name name c) (Some n) None ]) none ∙ ap (λ (b : Bool). cond b (Some n) None) it) ∙ is in
        absurd (cc)

    by_rest : (o : Option ℕ) → brought_from (n + 1) name h ≡ o → ((i : ℕ) → brought_from (n + 1) name h ≡ Some i → is_some (last_bringing name h) ≡ true) → is_some (last_bringing name (c ∷ h)) ≡ true
    by_rest None none rest = by_this (brings_name name c) refl none
    by_rest (Some i) some rest = or_was (last_bringing name h) (brings_name name c) c (rest i some)

right_body : (c : Change) → not (body_is_right c) ≡ false → is_some (body_of c) ≡ true
right_body c right = at (body_of c) (is_right (body_is_right c) right)
  where
    is_right : (b : Bool) → not b ≡ false → b ≡ true
    is_right true is = refl
    is_right false is = absurd (true≢false is)

    at : (b : Option (List ℕ)) → is_body (brings c) b ≡ true → is_some b ≡ true
    at None is = absurd (false≢true is)
    at (Some bytes) is = refl

pub held_brought : (names : Store) (h : List Change) (name : List ℕ) → KnowsNames names h → IsValid h → is_held (state h) name ≡ true → is_some (last_brought name h) ≡ true
held_brought names h name knows v held = by_place (record_of names name) refl
  where
    by_last : (o : Option Change) → last_bringing name h ≡ o → is_some o ≡ true → lacks o ≡ false → is_some (bytes_of o) ≡ true
    by_last None is some right = absurd (false≢true some)
    by_last (Some c) is some right = right_body c right

    by_place : (o : Option ℕ) → record_of names name ≡ o → is_some (last_brought name h) ≡ true
    by_place None none = absurd (false≢true (sym (ap is_some none) ∙ knows.held name ∙ held))
    by_place (Some k) is = by_last (last_bringing name h) refl (placed_last 0 name h k (knows.records name k is)) (sound_lacks (state h) name h held v.sound)
