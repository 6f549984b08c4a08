-- The bodies that a backup meets: those that the history brought before it, and its own pieces.
use Rattle.std.proofs.Common.{◌≡◌, ◌⊎◌, inl, inr, ⊎_elim, ℕ, Bool, true, false, not, ◌||◌, cond, List, [], ◌∷◌, ◌++◌, length, Some, refl, sym, ◌∙◌, ap}
use Rattle.std.proofs.lemmas.List.{append-nil}
use Rattle.psb_model.specs.Words.{name_eq}
use Rattle.psb_model.specs.State.{is_held, own_has}
use Rattle.psb_model.specs.History.{state}
use Rattle.psb_model.specs.Needed.{last_brought}
use Rattle.psb_model.specs.declared.change.Change.{Change}
use Rattle.psb_model.specs.declared.change.Change.TheVariants.{Kept}
use Rattle.psb_machine.specs.Deals.{meets_others}
use Rattle.psb_machine.specs.Machine.{Situation, Keep, kept_with, quiet, grows, changes_of, next}
use Rattle.psb_machine.specs.Course.{after_all}
use Rattle.convergent_seal.specs.Sealing.{sealed, sealed_ref}
use Rattle.snapshots.specs.WalkSteps.{In}
use Rattle.snapshots.proofs.Members.{by_cases}
use Rattle.psb_station.proofs.Spans.{same_some}
use Rattle.snapshot_backup.specs.Course.{keep_steps}
use Rattle.snapshot_backup.proofs.Keeping.{last_stays, last_is}

-- a Kept brings its bytes or none
kept_brings : (held : Bool) (name bytes q x : List ℕ) (h : List Change) → (let c = Kept (record { name = name; len = length bytes; new = not held; body = Some (cond (not held) bytes []) }) in last_brought q (h ++ c ∷ []) ≡ Some x) → (last_brought q h ≡ Some x) ⊎ (x ≡ bytes)
kept_brings true name bytes q x h is = inl (sym (last_stays q h (Kept (record { name = name; len = length bytes; new = false; body = Some [] })) refl) ∙ is)
kept_brings false name bytes q x h is =
    let c = Kept (record { name = name; len = length bytes; new = true; body = Some bytes }) in
    by_cases (name_eq name q)
    (λ same. inr (same_some (Some x) x bytes refl (sym is ∙ last_is q h c same)))
    (λ other. inl (sym (last_stays q h c other) ∙ is))

-- so the bytes of a name behind a piece are those before it, or its own
one_brings : (n : Situation) (name bytes q x : List ℕ) (b : Bool) → last_brought q (n.history ++ changes_of (cond b quiet (grows (kept_with (state n.history) name bytes)))) ≡ Some x → (last_brought q n.history ≡ Some x) ⊎ (x ≡ bytes)
one_brings n name bytes q x true is = inl (ap (last_brought q) (sym (append-nil n.history)) ∙ is)
one_brings n name bytes q x false is = kept_brings (is_held (state n.history) name) name bytes q x n.history is

pub brought_by : (ps : List (List ℕ)) (n : Situation) (q x : List ℕ) → last_brought q (after_all n (keep_steps ps)).history ≡ Some x → (last_brought q n.history ≡ Some x) ⊎ ((p : List ℕ) × In p ps × (x ≡ sealed p))
brought_by [] n q x is = inl is
brought_by (p ∷ ps) n q x is =
    let name = (sealed_ref p).name in
    ⊎_elim
    (λ before. ⊎_elim (λ first. inl first) (λ own. inr (p, inl refl, own)) (one_brings n name (sealed p) q x (own_has (state n.history).own name || meets_others n.history name (sealed p)) before))
    (λ later. inr (later.0, inr later.1, later.2))
    (brought_by ps (next n (Keep name (sealed p))) q x is)
