-- The course of a restore, by what was heard at each place whose body the node did not have itself: a Get to every
-- peer, and then turns, with the Gets again after each eighth turn that another one follows.
use Rattle.std.specs.Prelude.{ℕ, suc, ◌%◌, ◌==◌, if◌then◌else◌, List, [], ◌∷◌, ◌++◌, flat_map}
use Rattle.psb_station.specs.View.{Heard}
use Rattle.psb_settings.specs.declared.settings.Settings.{Settings}
use Rattle.psb_machine.specs.Course.{Step}
use Rattle.psb_machine.specs.Commands.{peer_ids}
use Rattle.node_serve.specs.Asks.{get_steps}
use Rattle.node_serve.specs.Hears.{steps_of, clock_of}

-- the Gets in front of the turn with this index
abbrev pub gets_at : Settings → List ℕ → ℕ → List Step
gets_at settings name i = if i % 8 == 0 then get_steps settings name else []

-- a turn in which this was heard, with the Gets in front of it
abbrev pub round_steps : Settings → List ℕ → ℕ → ℕ → List Heard → List Step
round_steps settings name clock i heard = gets_at settings name i ++ steps_of (peer_ids settings) clock heard

-- all that was heard in turns
abbrev pub all_of : List (List Heard) → List Heard
all_of rounds = flat_map (λ (heard : List Heard). heard) rounds

-- the turns of one place, from an index on
abbrev pub fetch_steps : Settings → List ℕ → ℕ → ℕ → List (List Heard) → List Step
fetch_steps settings name clock i [] = []
fetch_steps settings name clock i (heard ∷ rounds) = round_steps settings name clock i heard ++ fetch_steps settings name (clock_of clock heard) (suc i) rounds

-- what was heard in the turns of a place, and the name that was asked for
pub record Fetch : Type 0 where
  pub name : List ℕ
  pub rounds : List (List Heard)

abbrev pub heard_in : List Fetch → List Heard
heard_in fetches = flat_map (λ (f : Fetch). all_of f.rounds) fetches

-- those of all places, with one clock
abbrev pub restore_steps : Settings → ℕ → List Fetch → List Step
restore_steps settings clock [] = []
restore_steps settings clock (f ∷ fs) = fetch_steps settings f.name clock 0 f.rounds ++ restore_steps settings (clock_of clock (all_of f.rounds)) fs
