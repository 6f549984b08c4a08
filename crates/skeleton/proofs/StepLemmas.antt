-- One step of a run.
use Rattle.std.proofs.Common.{◌≡◌, ℕ, suc, ◌+◌, ◌-◌, ◌<◌, List, [], ◌∷◌, ◌++◌, Ok, refl, ap, ◌∙◌, arith}
use Rattle.skeleton.specs.Reading.{Unread, Reading, run_from}

-- one of those to come, and the others
left_step : (n i : ℕ) → i < n → n - i ≡ suc (n - (i + 1))
left_step n i lt = omega arith

-- where the next item is read, the run goes on behind it
pub run_step : {A : Type 0} (item : List A → Unread → Reading A) (n i : ℕ) (items : List A) (unread : Unread) (next : A) (behind : Unread) → i < n → item items unread ≡ Ok (next, behind) → run_from item (n - i) items unread ≡ run_from item (n - (i + 1)) (items ++ next ∷ []) behind
run_step item n i items unread next behind lt e = ap (λ (k : ℕ). run_from item k items unread) (left_step n i lt) ∙ rw e refl
