-- What stands before what in a lawful history: a failure before each discard, and the Asked before each outcome of a probe.
use Rattle.std.specs.Prelude.{◌≡◌, ℕ, nat_lt, Bool, true, false, ◌==◌, if◌then◌else◌, List, ◌∷◌, ◌++◌, length, Option, Some, None}
use Rattle.std.specs.List.{list_any, list_all}
use Rattle.psb_bytes.specs.declared.ids.Object.{Object}
use Rattle.psb_model.specs.declared.change.Change.{Change}
use Rattle.psb_model.specs.declared.change.Change.TheVariants.{Asked, Passed, Failed, Declined, Discarded}
use Rattle.psb_model.specs.History.{is_lawful}

-- whether the change is a Failed or Declined of p
abbrev pub is_failure : ℕ → Change → Bool
is_failure p (Failed x) = x.peer == p
is_failure p (Declined x) = x.peer == p
is_failure p _ = false

-- whether it is a Discarded of p
abbrev pub is_discard : ℕ → Change → Bool
is_discard p (Discarded x) = x.peer == p
is_discard p _ = false

-- The changes are some, then a failure of p, and others since, none of them a discard of p.
pub record HasFailure (h : List Change) (p : ℕ) : Type 0 where
  pub earlier : List Change
  pub failure : Change
  pub since : List Change
  pub parts : h ≡ earlier ++ failure ∷ since
  pub fails : is_failure p failure ≡ true
  pub none_since : list_any (is_discard p) since ≡ false

-- so it is before each discard, of every peer, in every lawful history
abbrev pub AllDiscardsFollow : Type 0
AllDiscardsFollow = (before later : List Change) (p : ℕ) (objects : List Object) → is_lawful (before ++ Discarded (record { peer = p; objects = objects }) ∷ later) ≡ true → HasFailure before p

-- The probe of the node's own whose outcome the change is, by its peer and the number of its Asked: that of a Declined, and of a
-- Passed or Failed whose number is not 0.
abbrev pub probe_of : Change → Option (ℕ × ℕ)
probe_of (Passed x) = if x.asked == 0 then None else Some (x.peer, x.asked)
probe_of (Failed x) = if x.asked == 0 then None else Some (x.peer, x.asked)
probe_of (Declined x) = Some (x.peer, x.asked)
probe_of _ = None

-- whether the change is the outcome of an own probe of p, or an Asked of p
abbrev pub probes : ℕ → Change → Bool
probes p (Asked x) = x.peer == p
probes p c = elim (probe_of c) [ None ↦ false | Some probe ↦ probe.0 == p ]

-- The changes are n, then the Asked of p for these objects, and others since, none of them an Asked of p or the outcome of one.
pub record HasAsked (h : List Change) (p n : ℕ) (objects : List Object) : Type 0 where
  pub earlier : List Change
  pub since : List Change
  pub parts : h ≡ earlier ++ Asked (record { peer = p; objects = objects }) ∷ since
  pub number : length earlier ≡ n
  pub none_since : list_any (probes p) since ≡ false

-- the outcome of a probe for these objects lists the same, or declines places among them
abbrev pub Suits : List Object → Change → Type 0
Suits objects (Passed x) = x.objects ≡ objects
Suits objects (Failed x) = x.objects ≡ objects
Suits objects (Declined x) = list_all (λ k. nat_lt k (length objects)) x.places ≡ true
Suits objects _ = ⊥

-- the outcome c of probe n of p comes after these changes, behind its Asked
pub record Answers (before : List Change) (c : Change) (p n : ℕ) : Type 0 where
  pub objects : List Object
  pub asked : HasAsked before p n objects
  pub suits : Suits objects c

-- of every outcome, in every lawful history
pub record AllOutcomesOnce : Type 0 where
  pub answers : (before : List Change) (c : Change) (later : List Change) (p n : ℕ) → is_lawful (before ++ c ∷ later) ≡ true → probe_of c ≡ Some (p, n) → Answers before c p n
  -- no two outcomes name one Asked
  pub once : (before : List Change) (c : Change) (between : List Change) (d : Change) (later : List Change) (p q n : ℕ) → is_lawful ((before ++ c ∷ between) ++ d ∷ later) ≡ true → probe_of c ≡ Some (p, n) → probe_of d ≡ Some (q, n) → ⊥
