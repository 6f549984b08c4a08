-- What holds of each change that a course makes of the node's own probes.
use Rattle.std.specs.Prelude.{◌≡◌, true, List, ◌∷◌, ◌++◌, Some}
use Rattle.psb_model.specs.History.{is_lawful}
use Rattle.psb_model.specs.Needed.{IsValid}
use Rattle.psb_model.specs.declared.change.Change.{Change}
use Rattle.psb_model.specs.declared.change.Change.TheVariants.{Failed}
use Rattle.psb_model.specs.declared.kinds.Failed.{Failed as Failure}
use Rattle.psb_machine.specs.Machine.{Input, fresh, react}
use Rattle.psb_machine.specs.Course.{Step, Absorb, after_all}
use Rattle.probe_laws.specs.Just.{JustOutcome}
use Rattle.probe_laws.specs.Answers.{HadNoAnswer}

-- Each change that an input of these steps makes has its reason in that input, and a probe that failed for want of an
-- answer had none.
pub record ProbesAreJust (h : List Change) (ss : List Step) : Type 0 where
  pub reasons : (before since : List Step) (x : Input) (c : Change) → ss ≡ before ++ Absorb x ∷ since → (react (after_all (fresh h) before) x).grown ≡ Some c → JustOutcome (after_all (fresh h) before) x c
  pub silence : (before since : List Step) (x : Input) (f : Failure) → ss ≡ before ++ Absorb x ∷ since → (react (after_all (fresh h) before) x).grown ≡ Some (Failed f) → f.how ≡ 0 → HadNoAnswer h before f

-- so it is of each course since a node was opened, where the history is lawful at its end
abbrev pub CoursesAreJust : Type 0
CoursesAreJust = (h : List Change) (ss : List Step) → IsValid h → is_lawful (after_all (fresh h) ss).history ≡ true → ProbesAreJust h ss
