-- What a peer answers to the probe of it that runs, and which probes have no answer.
use Rattle.std.specs.Prelude.{◌≡◌, ℕ, true, List, [], ◌∷◌, ◌++◌, length, if◌then◌else◌, Some, None}
use Rattle.psb_bytes.specs.Objects.{name_eq}
use Rattle.psb_model.specs.History.{is_lawful}
use Rattle.psb_model.specs.Needed.{IsValid}
use Rattle.psb_model.specs.declared.change.Change.{Change}
use Rattle.psb_model.specs.declared.change.Change.TheVariants.{Asked, Failed}
use Rattle.psb_model.specs.declared.kinds.Failed.{Failed as Failure}
use Rattle.probe.specs.Deadlines.{is_late}
use Rattle.psb_machine.specs.Volatile.{of_peer, later}
use Rattle.psb_machine.specs.Probing.{chain_over}
use Rattle.psb_machine.specs.OwnProbes.{Run, nonce_of, own_bytes, passed_by, wrong_by}
use Rattle.psb_machine.specs.Machine.{Situation, Input, fresh, run_at, react, next}
use Rattle.psb_machine.specs.Course.{Step, Absorb, Tell, after_all}
use Rattle.probe_laws.specs.Just.{IsProof}

-- ---- answers

-- A Proof of the probe that runs is compared with the chain over the node's own bytes and noted as its outcome, after
-- which none of that peer runs.
pub record IsNoted (n : Situation) (x : Input) (p : ℕ) (r : Run) (value seed : List ℕ) : Type 0 where
  pub own : List ℕ
  pub chain : chain_over (own_bytes seed n.history) (nonce_of seed r.asked) r.objects ≡ Some own
  pub outcome : (react n x).grown ≡ Some (if name_eq own value then passed_by p r else wrong_by p value r)
  pub ended : run_at (next n x) p ≡ None

-- so it is behind each course since a node was opened, where the history is lawful
abbrev pub AnswersAreNoted : Type 0
AnswersAreNoted = (h : List Change) (ss : List Step) (x : Input) (p : ℕ) (r : Run) (value : List ℕ) → IsValid h → is_lawful (after_all (fresh h) ss).history ≡ true → run_at (after_all (fresh h) ss) p ≡ Some r
    → (proof : IsProof (after_all (fresh h) ss).history x p r.asked value) → IsNoted (after_all (fresh h) ss) x p r value proof.settings.seed

-- ---- none

-- In these steps comes no Proof of p of the probe with this number, whatever its value.
abbrev pub NoneProves : Situation → List Step → ℕ → ℕ → Type 0
NoneProves n [] p asked = Unit {0}
NoneProves n (Absorb x ∷ ss) p asked = ((value : List ℕ) → IsProof n.history x p asked value → ⊥) × NoneProves (next n x) ss p asked
NoneProves n (Tell t ∷ ss) p asked = NoneProves n ss p asked

-- A probe began at a step, with the change of its number and by the peer's clock then, and no Proof of it came since.
pub record IsUnanswered (h : List Change) (ss : List Step) (p : ℕ) (r : Run) : Type 0 where
  pub before : List Step
  pub start : Input
  pub since : List Step
  pub parts : ss ≡ before ++ Absorb start ∷ since
  pub asks : (react (after_all (fresh h) before) start).grown ≡ Some (Asked (record { peer = p; objects = r.objects }))
  pub number : length (after_all (fresh h) before).history ≡ r.asked
  pub began : later (of_peer (after_all (fresh h) before).volatile p).clock ≡ r.began
  pub unproved : NoneProves (next (after_all (fresh h) before) start) since p r.asked

-- so it is of each probe that runs behind such a course
abbrev pub ProbesRunUnanswered : Type 0
ProbesRunUnanswered = (h : List Change) (ss : List Step) (p : ℕ) (r : Run) → IsValid h → is_lawful (after_all (fresh h) ss).history ≡ true → run_at (after_all (fresh h) ss) p ≡ Some r → IsUnanswered h ss p r

-- A probe that fails for want of an answer had none since it began, for as long as its peer has to answer.
pub record HadNoAnswer (h : List Change) (ss : List Step) (f : Failure) : Type 0 where
  pub began : ℕ
  pub unanswered : IsUnanswered h ss f.peer (record { asked = f.asked; objects = f.objects; began = began })
  pub late : is_late began (later (of_peer (after_all (fresh h) ss).volatile f.peer).clock) ≡ true

abbrev pub SilenceIsJust : Type 0
SilenceIsJust = (h : List Change) (ss : List Step) (x : Input) (f : Failure) → IsValid h → is_lawful (after_all (fresh h) ss).history ≡ true → (react (after_all (fresh h) ss) x).grown ≡ Some (Failed f) → f.how ≡ 0 → HadNoAnswer h ss f
