-- Runs of slots, in any order, and what they say of each number.
use Rattle.std.specs.Prelude.{◌≡◌, ◌≤◌, ℕ, zero, suc, ◌+◌, ◌-◌, ◌^◌, nat_le, nat_lt, Bool, true, ◌&&◌, if◌then◌else◌, List, [], ◌∷◌, find, Option, Some, None, option_map, max, ◌<◌}
use Rattle.std.specs.List.{list_all}
use Rattle.psb_model.specs.Words.{In}
use Rattle.slot_runs.specs.declared.run.Run.{Run}

-- the run has the number
abbrev pub covers : {R : Type 0} → Run R → ℕ → Bool
covers r n = nat_le r.first n && nat_le n r.last

-- how many of the runs have it
abbrev pub times : {R : Type 0} → List (Run R) → ℕ → ℕ
times [] n = 0
times (r ∷ rs) n = (if covers r n then 1 else 0) + times rs n

-- what is said of the number, by the first run that has it
abbrev pub rest_in : {R : Type 0} → List (Run R) → ℕ → Option R
rest_in {R = R} runs n = option_map (λ (r : Run R). r.rest) (find (λ (r : Run R). covers r n) runs)

-- no number is in two runs, no run is empty, and the numbers have four bytes
pub record AreRuns {R : Type 0} (runs : List (Run R)) : Type 0 where
  pub apart : (n : ℕ) → times runs n ≤ 1
  pub full : list_all (λ (r : Run R). nat_le r.first r.last) runs ≡ true
  pub small : list_all (λ (r : Run R). nat_lt r.last (2 ^ 32)) runs ≡ true

-- of two runs that follow one another not the same is said: so each is as long as it can be
pub record AreLongest {R : Type 0} (runs : List (Run R)) : Type 0 where
  pub differ : (a b : Run R) → In a runs → In b runs → b.first ≡ a.last + 1 → a.rest ≡ b.rest → ⊥

-- none of the runs goes on behind a run, or ends in front of it, and says the same
pub record NoneBehind {R : Type 0} (runs : List (Run R)) (r : Run R) : Type 0 where
  pub differ : (b : Run R) → In b runs → b.first ≡ r.last + 1 → r.rest ≡ b.rest → ⊥

pub record NoneInFront {R : Type 0} (runs : List (Run R)) (r : Run R) : Type 0 where
  pub differ : (a : Run R) → In a runs → r.first ≡ a.last + 1 → a.rest ≡ r.rest → ⊥

-- the runs without the first that passes the test
abbrev pub less_first : {A : Type 0} → (A → Bool) → List A → List A
less_first test [] = []
less_first test (x ∷ xs) = if test x then xs else x ∷ less_first test xs

-- the parts of a run in front of a number, and behind it
abbrev pub in_front : {R : Type 0} → Run R → ℕ → List (Run R)
in_front r n = if nat_lt r.first n then record r { last = n - 1 } ∷ [] else []

abbrev pub behind : {R : Type 0} → Run R → ℕ → List (Run R)
behind r n = if nat_lt n r.last then record r { first = n + 1 } ∷ [] else []

-- the part of a run from a number on
abbrev pub from_number : {R : Type 0} → ℕ → Option (Run R) → Option (Run R)
from_number n None = None
from_number n (Some r) = if nat_le n r.last then Some (record r { first = max r.first n }) else None

-- the one of two that begins first
abbrev pub nearer : {R : Type 0} → Option (Run R) → Option (Run R) → Option (Run R)
nearer None b = b
nearer (Some x) None = Some x
nearer (Some x) (Some y) = if nat_lt y.first x.first then Some y else Some x

-- no run has a number from here to there
pub record HasNone {R : Type 0} (runs : List (Run R)) (from to : ℕ) : Type 0 where
  pub none : (n : ℕ) → from ≤ n → n < to → rest_in runs n ≡ None

-- the runs say of each number of this run what it says
pub record HasRun {R : Type 0} (runs : List (Run R)) (r : Run R) : Type 0 where
  pub all : (n : ℕ) → r.first ≤ n → n ≤ r.last → rest_in runs n ≡ Some r.rest

-- the first number from n on that a run has begins this run, of which the runs say the same
abbrev pub IsNext : {R : Type 0} → List (Run R) → ℕ → Option (Run R) → Type 0
IsNext runs n None = (m : ℕ) → n ≤ m → rest_in runs m ≡ None
IsNext runs n (Some r) = (n ≤ r.first) × (r.first ≤ r.last) × HasRun runs r × HasNone runs n r.first

-- so many numbers from one on
abbrev pub count_up : ℕ → ℕ → List ℕ
count_up n zero = []
count_up n (suc u) = n ∷ count_up (n + 1) u
