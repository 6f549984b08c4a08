-- A body that is asked for.
use Rattle.std.specs.Prelude.{ℕ, List, [], ◌∷◌}
use Rattle.psb_settings.specs.declared.settings.Settings.{Settings}
use Rattle.psb_machine.specs.Course.{Send, Step, Tell}
use Rattle.psb_machine.specs.Commands.{gets}
use Rattle.node_serve.specs.Spans.{Tally}

-- letters that are sent beside those of an input
abbrev pub sends : List (ℕ × List ℕ) → List Step
sends [] = []
sends (letter ∷ letters) = Tell (Send letter) ∷ sends letters

-- a Get of the bytes under a name is sent to each peer
abbrev pub get_steps : Settings → List ℕ → List Step
get_steps settings name = sends (gets settings name)

-- nothing came, and so many letters were lost
abbrev pub only_lost : ℕ → Tally
only_lost lost = record { taken = 0; dropped = 0; lost = lost }
