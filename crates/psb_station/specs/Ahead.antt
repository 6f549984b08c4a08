-- What is known of the calls of a device that are still to come.
use Rattle.std.specs.Prelude.{◌≡◌, ◌⊎◌, ℕ, Bool, true, List, [], ◌∷◌, drop, Contains, Option, Some, None}
use Rattle.std.specs.Option.{option_map}
use Rattle.psb_station.specs.Calls.{raised}
use Rattle.psb_station.specs.Plan.{is_planned, counted}
use Rattle.psb_station.specs.declared.plan.Planned.{Planned}
use Rattle.psb_station.specs.declared.call_log.CallKind.{CallKind}
use Rattle.psb_station.specs.declared.memory.calls.StationCall.{StationCall}
use Rattle.psb_station.specs.contracts.call_log.CallKindPartialEq.TheImpl.{eq-value as same_folder_call}
use Rattle.psb_station.specs.contracts.memory.calls.StationCallPartialEq.TheImpl.{eq-value as same_station_call}

-- which calls fail, of those that are of a kind of K
pub record Dues (K : Type 0) : Type 0 where
  -- how many calls were made, where they are counted. The count stands still at 2^64 - 1
  pub calls : Option ℕ
  -- the numbers of calls that fail, counted from 1
  pub numbers : List ℕ
  -- the calls that fail by their kind
  pub planned : List (Planned K)

-- the number of the next call is among those that fail
abbrev pub IsDueNumber : Option ℕ → List ℕ → Type 0
IsDueNumber None numbers = ⊥
IsDueNumber (Some calls) numbers = Contains numbers (raised calls)

-- the next call fails, if it is of this kind
abbrev pub IsDueIn : {K : Type 0} → (K → K → Bool) → K → Dues K → Type 0
IsDueIn same kind d = IsDueNumber d.calls d.numbers ⊎ (is_planned same kind d.planned ≡ true)

-- a call of this kind came
abbrev pub counted_in : {K : Type 0} → (K → K → Bool) → K → Dues K → Dues K
counted_in same kind d = record d { calls = option_map raised d.calls; planned = counted same kind d.planned }

-- nothing is known of them
abbrev pub no_dues : {K : Type 0} → Dues K
no_dues = record { calls = None; numbers = []; planned = [] }

-- of a folder
abbrev pub FolderDues : Type 0
FolderDues = Dues CallKind

abbrev pub IsFolderDue : CallKind → FolderDues → Type 0
IsFolderDue kind d = IsDueIn same_folder_call.it kind d

abbrev pub after_folder_call : CallKind → FolderDues → FolderDues
after_folder_call kind d = counted_in same_folder_call.it kind d

-- of a station
pub record Ahead : Type 0 where
  pub dues : Dues StationCall
  -- the frames that are still to come, in their order, where they are known
  pub frames : Option (List (List ℕ))
  -- the numbers that the clock still gives, where they are known: the last one again at the end, and 0 where there is none
  pub times : Option (List ℕ)

abbrev pub nothing_known : Ahead
nothing_known = record { dues = no_dues; frames = None; times = None }

abbrev pub IsDue : StationCall → Ahead → Type 0
IsDue kind a = IsDueIn same_station_call.it kind a.dues

-- a call of this kind came
abbrev pub called : StationCall → Ahead → Ahead
called kind a = record a { dues = counted_in same_station_call.it kind a.dues }

-- a `recv` found the next frame, or that there is none
abbrev pub received : Ahead → Ahead
received a = record a { frames = option_map (drop 1) a.frames }

-- what a clock gives after its next number
abbrev pub later_times : List ℕ → List ℕ
later_times [] = []
later_times (t ∷ []) = t ∷ []
later_times (t ∷ u ∷ times) = u ∷ times

-- a call of `now` came, which is of no kind that fails
abbrev pub ticked : Ahead → Ahead
ticked a = record a { dues = record a.dues { calls = option_map raised a.dues.calls }; times = option_map later_times a.times }
