-- Whether a pending deal may be settled, as it is looked up.
use Rattle.std.proofs.Common.{◌≡◌, ℕ, Bool, true, false, not, ◌&&◌, ◌==◌, is_none, unwrap_or, List, [], ◌∷◌, length, Option, Some, refl, sym, ap, ◌∙◌}
use Rattle.std.proofs.lemmas.Bool.{eq-eqb}
use Rattle.psb_bytes.specs.declared.ids.Object.{Object}
use Rattle.psb_bytes.specs.declared.ids.Object.TheVariants.{Slot}
use Rattle.psb_model.specs.declared.entries.OwnEntry.{OwnEntry}
use Rattle.psb_model.specs.declared.deals.Deal.{Deal}
use Rattle.psb_model.specs.declared.deals.DealWhat.TheVariants.{Fresh}
use Rattle.psb_model.specs.Words.{units, name_eq, has}
use Rattle.psb_model.specs.State.{State, row, in_key, own_has, own_len}
use Rattle.psb_model.specs.Conditions.{each_slot, may_settle}
use Rattle.psb_model.proofs.ByObject.{by_cases}
use Rattle.psb_machine.specs.Deals.{first_slot}
use Rattle.own_chunks.specs.OwnList.{known_len}

lacks_len : (own : List OwnEntry) (n : List ℕ) → own_has own n ≡ false → own_len own n ≡ 0
lacks_len [] n h = refl
lacks_len (e ∷ es) n h = by_cases (name_eq e.name n) (λ k. absurd (cc)) (λ k. rw k (lacks_len es n (rw k at h)))

-- an own chunk's length, 0 for a name that none has
pub known_or_none : (own : List OwnEntry) (n : List ℕ) → unwrap_or (known_len own n) 0 ≡ own_len own n
known_or_none own n = by_cases (own_has own n) (λ k. rw k refl) (λ k. rw k (sym (lacks_len own n k)))

-- no slot passes a test exactly where none is found
none_found : (test : Object → Bool) (numbers : List ℕ) → is_none (first_slot test numbers) ≡ each_slot (λ o. not (test o)) numbers
none_found test [] = refl
none_found test (n ∷ ns) = by_cases (test (Slot n)) (λ k. rw k refl) (λ k. rw k (none_found test ns))

-- a pending Fresh may be settled by as many claims as its chunk has units, where none of their slots is in use
pub fresh_settles : (s : State) (p : ℕ) (o : Option Deal) (d : Deal) (name numbers : List ℕ) → o ≡ Some d → d.what ≡ Fresh name → length numbers ≡ units (own_len s.own name) → is_none (first_slot (has in_key (row s p).ins) numbers) ≡ may_settle s p o numbers
fresh_settles s p o d name numbers pending is long =
    let same : (length numbers == units (own_len s.own name)) ≡ true = eq-eqb (length numbers) (units (own_len s.own name)) long in
    none_found (has in_key (row s p).ins) numbers
    ∙ sym (ap (λ b. b && each_slot (λ o. not (has in_key (row s p).ins o)) numbers) same)
    ∙ ap (λ w. may_settle s p (Some (record { number = d.number; what = w })) numbers) (sym is)
    ∙ ap (λ x. may_settle s p x numbers) (sym pending)
