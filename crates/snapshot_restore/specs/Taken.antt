-- The places whose bodies were taken, each the node's own or one that came, and those for which none came.
use Rattle.std.specs.Prelude.{◌≡◌, ◌⊎◌, ℕ, ◌<◌, true, false, if◌then◌else◌, List, [], ◌∷◌, ◌++◌, length, map, flat_map, Option, Some, None}
use Rattle.psb_bytes.specs.declared.ids.Ref.{Ref}
use Rattle.convergent_seal.specs.Sealing.{opened}
use Rattle.psb_station.specs.View.{Heard}
use Rattle.psb_settings.specs.declared.settings.Settings.{Settings}
use Rattle.psb_model.specs.State.{is_held}
use Rattle.psb_model.specs.History.{state}
use Rattle.psb_model.specs.Needed.{last_brought}
use Rattle.psb_model.specs.declared.change.Change.{Change}
use Rattle.psb_machine.specs.Machine.{Situation}
use Rattle.psb_machine.specs.Course.{after_all}
use Rattle.psb_machine.specs.Commands.{Turn}
use Rattle.node_serve.specs.Hears.{clock_of, of_turn}
use Rattle.snapshots.specs.Meaning.{opens}
use Rattle.snapshots.specs.Got.{Use}
use Rattle.snapshot_restore.specs.Answers.{answers}
use Rattle.snapshot_restore.specs.Course.{Fetch, all_of, fetch_steps}

-- a place, the body that was taken for it, and what was heard in its turns
pub record Taken : Type 0 where
  pub reference : Ref
  pub body : List ℕ
  pub rounds : List (List Heard)

abbrev pub taken_refs : List Taken → List Ref
taken_refs ts = map (λ (t : Taken). t.reference) ts

abbrev pub taken_uses : List Taken → List Use
taken_uses ts = map (λ (t : Taken). record { name = t.reference.name; body = t.body }) ts

-- the plain bytes of all of them, joined
abbrev pub taken_text : List Taken → List ℕ
taken_text ts = flat_map (λ (t : Taken). opened t.reference t.body) ts

abbrev pub fetches : List Taken → List Fetch
fetches ts = map (λ (t : Taken). record { name = t.reference.name; rounds = t.rounds }) ts

-- each body opens
abbrev pub AllOpen : List Taken → Type 0
AllOpen [] = Unit {0}
AllOpen (t ∷ ts) = (opens t.reference t.body ≡ true) × AllOpen ts

-- ---- where a body came from

-- the body that the node has under a name
abbrev pub own_body : List Change → List ℕ → Option (List ℕ)
own_body h name = if is_held (state h) name then last_brought name h else None

-- it is this one, and it opens
abbrev pub OwnOpens : List Change → Ref → List ℕ → Type 0
OwnOpens h r body = (own_body h r.name ≡ Some body) × (opens r body ≡ true)

-- it has none that opens
abbrev pub NoneOwn : List Change → Ref → Type 0
NoneOwn h r = (body : List ℕ) → own_body h r.name ≡ Some body → opens r body ≡ false

-- none of these opens
abbrev pub NoneOpens : Ref → List (List ℕ) → Type 0
NoneOpens r [] = Unit {0}
NoneOpens r (body ∷ bodies) = (opens r body ≡ false) × NoneOpens r bodies

abbrev pub last_of : List (List ℕ) → Option (List ℕ)
last_of [] = None
last_of (body ∷ bodies) = elim (last_of bodies) [ None ↦ Some body | Some last ↦ Some last ]

-- whole turns
abbrev pub AreWhole : List (List Heard) → Type 0
AreWhole [] = Unit {0}
AreWhole (heard ∷ rounds) = ((t : Turn) × (heard ≡ of_turn t)) × AreWhole rounds

-- The last of these turns, of which there are no more than so many, brought this body, the first that opens.
pub record IsAnswered (settings : Settings) (turns : ℕ) (r : Ref) (body : List ℕ) (rounds : List (List Heard)) : Type 0 where
  pub front : List (List Heard)
  pub turn : Turn
  pub parts : rounds ≡ front ++ of_turn turn ∷ []
  pub soon : length front < turns
  pub whole : AreWhole front
  pub others : NoneOpens r (answers settings r.name (all_of front))
  pub brings : answers settings r.name (of_turn turn) ≡ body ∷ []
  pub opens_it : opens r body ≡ true

-- The body is the node's own; or the node has none that opens, and this one came.
abbrev pub IsTaken : Settings → ℕ → Situation → Taken → Type 0
IsTaken settings turns n t = ((t.rounds ≡ []) × OwnOpens n.history t.reference t.body) ⊎ (NoneOwn n.history t.reference × IsAnswered settings turns t.reference t.body t.rounds)

-- so it is at each place, one after another
abbrev pub AreTaken : Settings → ℕ → Situation → ℕ → List Taken → Type 0
AreTaken settings turns n clock [] = Unit {0}
AreTaken settings turns n clock (t ∷ ts) =
    IsTaken settings turns n t × AreTaken settings turns (after_all n (fetch_steps settings t.reference.name clock 0 t.rounds)) (clock_of clock (all_of t.rounds)) ts

-- ---- none came

-- all turns of a place were made
pub record IsSpent (turns : ℕ) (rounds : List (List Heard)) : Type 0 where
  pub many : length rounds ≡ turns
  pub whole : AreWhole rounds

-- The node has no body that opens, and in these turns came none; this one came last, if one did.
pub record IsVain (settings : Settings) (n : Situation) (r : Ref) (rounds : List (List Heard)) (last : Option (List ℕ)) : Type 0 where
  pub none : NoneOwn n.history r
  pub others : NoneOpens r (answers settings r.name (all_of rounds))
  pub last_is : last_of (answers settings r.name (all_of rounds)) ≡ last
