-- Each change that a course makes of the node's own probes is just.
use Rattle.std.proofs.Common.{◌≡◌, true, List, [], ◌∷◌, ◌++◌, refl, subst}
use Rattle.psb_model.specs.History.{is_lawful}
use Rattle.psb_model.specs.declared.change.Change.{Change}
use Rattle.psb_machine.specs.Machine.{Situation, fresh, next}
use Rattle.psb_machine.specs.Course.{Step, Absorb, Tell, after_all}
use Rattle.probe_laws.specs.Courses.{CoursesAreJust}
use Rattle.probe_laws.proofs.Just.{outcomes_are_just}
use Rattle.probe_laws.proofs.Silence.{silence_is_just}
use Rattle.probe_laws.proofs.Sound.{lawful_before}

after_then : (n : Situation) (a b : List Step) → after_all n (a ++ b) ≡ after_all (after_all n a) b
after_then n [] b = refl
after_then n (Absorb x ∷ a) b = after_then (next n x) a b
after_then n (Tell t ∷ a) b = after_then n a b

-- the history in front of a step of a lawful course is lawful
lawful_front : (h : List Change) (ss before since : List Step) → ss ≡ before ++ since → is_lawful (after_all (fresh h) ss).history ≡ true → is_lawful (after_all (fresh h) before).history ≡ true
lawful_front h ss before since parts lawful =
    lawful_before (after_all (fresh h) before) since
    (subst (λ (n : Situation). is_lawful n.history ≡ true) (after_then (fresh h) before since) (subst (λ (l : List Step). is_lawful (after_all (fresh h) l).history ≡ true) parts lawful))

pub courses_are_just : CoursesAreJust
courses_are_just h ss v lawful = record {
  reasons = λ before since x c parts grown. outcomes_are_just (after_all (fresh h) before) x c grown;
  silence = λ before since x f parts grown how. silence_is_just h before x f v (lawful_front h ss before (Absorb x ∷ since) parts lawful) grown how;
}
