-- The bounds `Start` and `StartFolder` ask nothing of the code. So what is proved of a function over `S: Start` is
-- proved of what `main` runs at `Unknown`, for each first content and each set of images that has it, and the same
-- of folders.
use Rattle.std.proofs.Common.{ℕ, List}
use seplogic.Ra.Ura.{Ura}
use mir.Syntax.{Dict}
use prog.Model.{Model}
use types.Logic.{Logic}
use contract.Running.{Running}
use denote.RattleType.{RattleType}
use Rattle.psb_station.specs.Folder.{Content}
use Rattle.psb_host.specs.declared.start.Start as start
use Rattle.psb_host.specs.declared.start.StartFolder as folder
use Rattle.psb_host.specs.contracts.start.Start.TheBound as bound
use Rattle.psb_host.specs.contracts.start.StartFolder.TheBound as folder_bound

pub any_start : {M : Type 1} {𝓤 : Ura M} (𝓛 : Logic 𝓤) (𝓜 : Model 𝓤 𝓛.H) (𝓡 : Running 𝓤 𝓛.H 𝓜) (S : RattleType) (known : start.Ghosts S.Denot) (methods : Dict) (first : List ℕ) (left : List ℕ → Type 0) (reads : left first)
    → bound.Met 𝓛 𝓜 𝓡 𝓡.env S known methods → bound.Met 𝓛 𝓜 𝓡 𝓡.env S (record { first = first; left = left; reads = reads }) methods
any_start 𝓛 𝓜 𝓡 S known methods first left reads met = record {}

pub any_folder : {M : Type 1} {𝓤 : Ura M} (𝓛 : Logic 𝓤) (𝓜 : Model 𝓤 𝓛.H) (𝓡 : Running 𝓤 𝓛.H 𝓜) (S : RattleType) (known : folder.Ghosts S.Denot) (methods : Dict) (tree : Content)
    → folder_bound.Met 𝓛 𝓜 𝓡 𝓡.env S known methods → folder_bound.Met 𝓛 𝓜 𝓡 𝓡.env S (record { tree = tree }) methods
any_folder 𝓛 𝓜 𝓡 S known methods tree met = record {}
