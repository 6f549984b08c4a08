-- The bodies that a node has for itself.
use Rattle.std.specs.Prelude.{◌≡◌, ℕ, true, List, [], ◌∷◌, map, if◌then◌else◌, Some, None}
use Rattle.std.specs.List.{list_all}
use Rattle.convergent_seal.specs.Sealing.{sealed, sealed_ref}
use Rattle.psb_model.specs.State.{State, own_has, snaps_made}
use Rattle.psb_model.specs.History.{state}
use Rattle.psb_model.specs.Needed.{last_brought}
use Rattle.psb_model.specs.declared.change.Change.{Change}
use Rattle.snapshots.specs.Meaning.{Bodies}

-- the bodies of the names that are its own: the bytes that were brought last
abbrev pub own_bodies : List Change → Bodies
own_bodies h name = if own_has (state h).own name then last_brought name h else None

-- the names of pieces
abbrev pub names_of : List (List ℕ) → List (List ℕ)
names_of pieces = map (λ (p : List ℕ). (sealed_ref p).name) pieces

-- the name is one of its own, and these are the bytes that were brought for it last
pub record IsKept (h : List Change) (name bytes : List ℕ) : Type 0 where
  pub own : own_has (state h).own name ≡ true
  pub last : last_brought name h ≡ Some bytes

abbrev pub AreKept : List Change → List (List ℕ) → Type 0
AreKept h [] = Unit {0}
AreKept h (p ∷ ps) = IsKept h (sealed_ref p).name (sealed p) × AreKept h ps

-- from one history to a longer one: what was kept stays, and so are these pieces
pub record KeepsAll (before now : List Change) (pieces : List (List ℕ)) : Type 0 where
  pub stay : (name bytes : List ℕ) → IsKept before name bytes → IsKept now name bytes
  pub each : AreKept now pieces

-- from one state to a later one: the names that it has for itself stay, those of these pieces are among them, and no
-- snapshot was made
pub record Owns (before now : State) (pieces : List (List ℕ)) : Type 0 where
  pub stay : (name : List ℕ) → own_has before.own name ≡ true → own_has now.own name ≡ true
  pub each : list_all (own_has now.own) (names_of pieces) ≡ true
  pub made : snaps_made now ≡ snaps_made before
