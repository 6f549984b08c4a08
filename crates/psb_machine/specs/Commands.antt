-- The courses of the commands, by what was heard.
use Rattle.std.specs.Prelude.{ℕ, nat_lt, if◌then◌else◌, List, [], ◌∷◌, ◌++◌, map, Option, Some, None}
use Rattle.psb_settings.specs.declared.settings.PeerRow.{PeerRow}
use Rattle.psb_settings.specs.declared.settings.Settings.{Settings}
use Rattle.wire_codec.specs.Frames.{datagram}
use Rattle.wire_codec.specs.declared.frame.Frame.TheVariants.{Get}
use Rattle.psb_machine.specs.Machine.{Datagram, Tick}
use Rattle.psb_machine.specs.Course.{Say, Step, Absorb, Tell}

-- ---- a turn

-- the peers in their order
abbrev pub peer_ids : Settings → List ℕ
peer_ids settings = map (λ (p : PeerRow). p.id) settings.peers

-- a tick of each of them
abbrev pub ticks : List ℕ → List Step
ticks [] = []
ticks (p ∷ ps) = Absorb (Tick p) ∷ ticks ps

-- what one answer of `recv` makes: an input where it is a frame
abbrev pub came_steps : Option (List ℕ) → List Step
came_steps None = []
came_steps (Some x) = Absorb (Datagram x) ∷ []

-- what one answer of `now` makes: a tick of each peer where it is above the call's clock
abbrev pub clock_steps : List ℕ → ℕ → ℕ → List Step
clock_steps peers clock t = if nat_lt clock t then ticks peers else []

-- what a turn hears: one answer of `recv`, then one of `now`
pub record Turn : Type 0 where
  pub came : Option (List ℕ)
  pub time : ℕ

abbrev pub turn_steps : List ℕ → ℕ → Turn → List Step
turn_steps peers clock t = came_steps t.came ++ clock_steps peers clock t.time

-- the call's clock after an answer of `now`
abbrev pub clock_after : ℕ → ℕ → ℕ
clock_after clock t = if nat_lt clock t then t else clock

-- ---- `serve`: its turns one after another, with a clock that begins at 0

abbrev pub serve_steps : List ℕ → ℕ → List Turn → List Step
serve_steps peers clock [] = []
serve_steps peers clock (t ∷ ts) = turn_steps peers clock t ++ serve_steps peers (clock_after clock t.time) ts

-- ---- the Gets of the bytes under a name: one to each peer in their order, each with the number 0

abbrev pub get_by : ℕ → List ℕ → PeerRow → ℕ × List ℕ
get_by own name p = (p.id, datagram p.key own p.id 0 (Get name))

abbrev pub gets : Settings → List ℕ → List (ℕ × List ℕ)
gets settings name = map (get_by settings.id name) settings.peers

-- ---- the lines of any command, at its end

abbrev pub says : List (List ℕ) → List Step
says [] = []
says (line ∷ lines) = Tell (Say line) ∷ says lines
