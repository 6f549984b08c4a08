-- A slot that is to have its bytes here was given them, and a valid history has them.
use Rattle.std.proofs.Common.{◌≡◌, ℕ, Bool, true, false, not, cond, List, [], is_some, option_map, Option, Some, None, refl, sym, ◌∙◌, ap}
use Rattle.std.proofs.lemmas.Bool.{false≢true}
use Rattle.psb_model.specs.State.{State, row}
use Rattle.psb_model.specs.Heads.{body_of}
use Rattle.psb_model.specs.History.{state}
use Rattle.psb_model.specs.Needed.{brings, slots_given, gives_slot, body_is_right, last_that, piece_of, slot_bytes, IsValid}
use Rattle.psb_model.specs.declared.change.Change.{Change}
use Rattle.psb_model.proofs.ByObject.{by_cases}
use Rattle.psb_model.proofs.Prefixes.{state_snoc}
use Rattle.model_laws.proofs.Along.{last_is}
use Rattle.model_laws.proofs.Directs.{has_direct}
use Rattle.model_laws.proofs.Growth.{Steps, by_growth}
use Rattle.model_laws.proofs.HeldBytes.{none_ends}
use Rattle.slot_places.proofs.Grown.{direct_before}
use Rattle.node_history.specs.Lacking.{lacks}
use Rattle.node_history.proofs.Lacks.{sound_slot}
use Rattle.node_history.proofs.Less.{there_body, piece_by}

abbrev AllGiven : List Change → Type 0
AllGiven h = (p n : ℕ) → has_direct (row (state h) p).ins n ≡ true → (c : Change) × (last_that (gives_slot p n) h ≡ Some c)

given_step : Steps AllGiven
given_step h c lawful grammar may all p n direct =
    let now = ap (λ (s : State). has_direct (row s p).ins n) (sym (state_snoc h c)) ∙ direct in
    by_cases (gives_slot p n c)
    (λ k. (c, last_is (gives_slot p n) h c k))
    (λ k. let was = all p n (direct_before (state h) c p n may now k) in (was.0, none_ends (gives_slot p n) h c k ∙ was.1))

none_given : AllGiven []
none_given p n direct = absurd (false≢true direct)

right_body : (c : Change) → lacks (Some c) ≡ false → is_some (body_of c) ≡ true
right_body c fine = there_body (brings c) (body_of c) (at (body_is_right c) fine)
  where
    at : (b : Bool) → not b ≡ false → b ≡ true
    at true is = refl
    at false is = absurd (false≢true (sym is))

some_piece : (n : ℕ) (numbers : List ℕ) (body : Option (List ℕ)) → is_some body ≡ true → is_some (option_map (piece_of n numbers) body) ≡ true
some_piece n numbers None there = absurd (false≢true there)
some_piece n numbers (Some bytes) there = refl

pub direct_bytes : (h : List Change) (p n : ℕ) → IsValid h → has_direct (row (state h) p).ins n ≡ true → is_some (slot_bytes p n h) ≡ true
direct_bytes h p n v direct =
    let last = by_growth AllGiven none_given given_step h v.lawful p n direct in
    let fine : lacks (Some last.0) ≡ false = ap lacks (sym last.1) ∙ sound_slot (state h) p n h direct v.sound in
    ap (λ (o : Option Change). is_some (piece_by n o)) last.1
    ∙ some_piece n (slots_given last.0) (body_of last.0) (right_body last.0 fine)

-- so what is looked for in it is found
pub found_there : (h : List Change) (p n : ℕ) (found : Bool) (bytes : List ℕ) → IsValid h → has_direct (row (state h) p).ins n ≡ true → slot_bytes p n h ≡ cond found (Some bytes) None → found ≡ true
found_there h p n true bytes v direct is = refl
found_there h p n false bytes v direct is = absurd (false≢true (ap is_some (sym is) ∙ direct_bytes h p n v direct))
