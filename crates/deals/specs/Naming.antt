-- Why bytes are not kept under their name: the three reasons that both kinds of Store have.
use Rattle.std.specs.Prelude.{ℕ, not, if◌then◌else◌, List, Option, Some, None}
use Rattle.psb_bytes.specs.declared.ids.Object.TheVariants.{Chunk}
use Rattle.psb_model.specs.Words.{has}
use Rattle.psb_model.specs.State.{State, row, in_key}
use Rattle.psb_machine.specs.Deals.{Facts}
use Rattle.psb_machine.specs.declared.deals.Reason.{Reason}
use Rattle.psb_machine.specs.declared.deals.Reason.TheVariants.{BadName, Already, Clash}

abbrev pub name_reason : Facts → State → ℕ → List ℕ → Option Reason
name_reason facts s p name =
    if not facts.name_fits then Some BadName
    else if has in_key (row s p).ins (Chunk name) then Some Already
    else if facts.clash then Some Clash
    else None
