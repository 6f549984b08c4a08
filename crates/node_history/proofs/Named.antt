-- A body that is held has its name as its SHA-256.
use Rattle.std.proofs.Common.{◌≡◌, ℕ, Bool, true, false, not, ◌||◌, List, [], ◌∷◌, is_some, Option, Some, None, refl, sym, ◌∙◌, ap}
use Rattle.std.specs.List.{list_any}
use Rattle.std.proofs.lemmas.Bool.{and_parts, false≢true}
use Rattle.psb_digest.specs.Hashes.{sha}
use Rattle.psb_station.proofs.Spans.{same_some}
use Rattle.psb_model.specs.Words.{name_eq}
use Rattle.psb_model.specs.State.{State, is_held}
use Rattle.psb_model.specs.Heads.{body_of}
use Rattle.psb_model.specs.History.{state}
use Rattle.psb_model.specs.Needed.{brings_name, last_that, last_bringing, last_brought, is_needed_by, body_is_right, is_body, brings, bodies_right, IsValid}
use Rattle.psb_model.specs.declared.change.Change.{Change}
use Rattle.psb_model.proofs.Own.{name_same}
use Rattle.chunk_store.specs.declared.store.Store.{Store}
use Rattle.chunk_store.specs.Store.{record_of}
use Rattle.node_history.specs.Names.{KnowsNames}
use Rattle.node_history.proofs.Brought.{or_this, bytes_of}
use Rattle.node_history.proofs.Lacks.{right_here}

none_later : (test : Change → Bool) (h : List Change) → last_that test h ≡ None → list_any test h ≡ false
none_later test [] none = refl
none_later test (c ∷ cs) none = at (last_that test cs) (test c) refl none (λ is. none_later test cs is)
  where
    at : (o : Option Change) (b : Bool) → test c ≡ b → or_this o b c ≡ None → (o ≡ None → list_any test cs ≡ false) → (test c || list_any test cs) ≡ false
    at None false free h rest = ap (λ (t : Bool). t || list_any test cs) free ∙ rest refl
    at None true free h rest = absurd (cc)
    at (Some d) b free h rest = absurd (cc)

-- the bytes that a held name was brought last have it as their hash
pub named_in : (s : State) (h : List Change) (name held : List ℕ) → bodies_right s h ≡ true → is_held s name ≡ true → last_brought name h ≡ Some held → name_eq (sha held) name ≡ true
named_in s [] name held right is last = absurd (cc)
named_in s (c ∷ cs) name held right is last = by_rest (last_bringing name cs) refl (λ there. named_in s cs name held (and_parts (not (is_needed_by s c cs) || body_is_right c) (bodies_right s cs) right).1 is there)
  where
    right_now : (not (is_needed_by s c cs) || body_is_right c) ≡ true
    right_now = (and_parts (not (is_needed_by s c cs) || body_is_right c) (bodies_right s cs) right).0

    by_name : (o : Option (List ℕ)) (b : Option (List ℕ)) → elim o [ None ↦ false | Some n ↦ name_eq n name ] ≡ true → b ≡ Some held → is_body o b ≡ true → name_eq (sha held) name ≡ true
    by_name None b same there fits = absurd (false≢true same)
    by_name (Some n) None same there fits = absurd (false≢true fits)
    by_name (Some n) (Some bytes) same there fits =
        let one : bytes ≡ held = same_some (Some bytes) bytes held refl there in
        ap (λ (l : List ℕ). name_eq (sha l) name) (sym one) ∙ ap (λ (m : List ℕ). name_eq (sha bytes) m) (sym (name_same n name same)) ∙ fits

    here : (b : Bool) → brings_name name c ≡ b → last_bringing name cs ≡ None → bytes_of (or_this None b c) ≡ Some held → name_eq (sha held) name ≡ true
    here true k none there = by_name (brings c) (body_of c) k there (right_here s name c cs k is (none_later (brings_name name) cs none) right_now)
    here false k none there = absurd (cc)

    by_rest : (o : Option Change) → last_bringing name cs ≡ o → (last_brought name cs ≡ Some held → name_eq (sha held) name ≡ true) → name_eq (sha held) name ≡ true
    by_rest None none rest = here (brings_name name c) refl none (ap (λ (o : Option Change). bytes_of (or_this o (brings_name name c) c)) (sym none) ∙ last)
    by_rest (Some d) there rest = rest (ap bytes_of there ∙ sym (ap (λ (o : Option Change). bytes_of (or_this o (brings_name name c) c)) there) ∙ last)

-- so have those of a name that has a record
pub named_there : (names : Store) (h : List Change) (name held : List ℕ) → IsValid h → KnowsNames names h → (record_of names name ≡ None → ⊥) → last_brought name h ≡ Some held → sha held ≡ name
named_there names h name held v knows some last = name_same (sha held) name (named_in (state h) h name held v.sound (sym (knows.held name) ∙ at (record_of names name) some) last)
  where
    at : (o : Option ℕ) → (o ≡ None → ⊥) → is_some o ≡ true
    at None some = absurd (some refl)
    at (Some k) some = refl
