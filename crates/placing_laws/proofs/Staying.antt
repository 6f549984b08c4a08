-- A chunk stays where no change takes it away.
use Rattle.std.proofs.Common.{◌≡◌, ℕ, Bool, true, false, ◌&&◌, ◌==◌, List, [], ◌∷◌, ◌++◌, Option, Some, refl, ap, ◌∙◌}
use Rattle.psb_bytes.specs.declared.ids.Object.TheVariants.{Chunk}
use Rattle.psb_model.specs.declared.change.Change.{Change}
use Rattle.psb_model.specs.declared.change.Change.TheVariants.{LetGo, LetGoBack, Discarded}
use Rattle.psb_model.specs.Words.{name_eq, has, units_at}
use Rattle.psb_model.specs.State.{State, row, in_key, in_size}
use Rattle.psb_model.specs.History.{state}
use Rattle.psb_model.specs.Needed.{IsValid}
use Rattle.psb_model.proofs.Prefixes.{state_snoc}
use Rattle.placing_laws.specs.Laws.{takes_away, StaysHere}
use Rattle.placing_laws.proofs.Growing.{may_come, later_change}
use Rattle.placing_laws.proofs.Ins.{LeavesIt, ins_stay}
use Rattle.placing_laws.proofs.InUnits.{here_stays}

-- the deal that is let go is of this peer
lets_other : (q d p : ℕ) (b : Bool) (y : ℕ × ℕ) → ◌≡◌ {A = Option (ℕ × ℕ)} (Some (q, d)) (Some y) → (y.0 == p) ≡ true → ((q == p) && b) ≡ false → b ≡ false
lets_other q d p b y is k h =
    let same : (q, d) ≡ y = cc (is) in
    let here : (q == p) ≡ true = ap (λ (z : ℕ × ℕ). z.0 == p) same ∙ k in
    rw here at h

leaves : (c : Change) (p : ℕ) (n : List ℕ) → takes_away c p n ≡ false → LeavesIt c p n
leaves (LetGo x) p n h = record { lets = λ y is k. lets_other x.peer x.deal p (name_eq x.name n) y is k h; discards = refl }
leaves (LetGoBack x) p n h = record { lets = λ y is k. lets_other x.peer x.deal p (name_eq x.name n) y is k h; discards = refl }
leaves (Discarded x) p n h = record { lets = λ y is k. refl; discards = h }
leaves _ p n h = record { lets = λ y is k. refl; discards = refl }

pub chunk_stays : (h : List Change) (c : Change) (p : ℕ) (n : List ℕ) → IsValid h → IsValid (h ++ c ∷ []) → takes_away c p n ≡ false → has in_key (row (state h) p).ins (Chunk n) ≡ true → StaysHere (state h) (state (h ++ c ∷ [])) p n
chunk_stays h c p n v w kept is =
    let m = may_come h c v w in
    let later = later_change h c v w in
    let left = leaves c p n kept in
    record {
      there = ap (λ (s : State). has in_key (row s p).ins (Chunk n)) (state_snoc h c) ∙ ins_stay (state h) c p n m later left is;
      units = ap (λ (s : State). units_at in_key in_size (row s p).ins (Chunk n)) (state_snoc h c) ∙ here_stays (state h) c p n m later left is;
    }
