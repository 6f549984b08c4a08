-- Why a fresh deal is refused, and the facts that say so.
use Rattle.std.specs.Prelude.{ℕ, ◌≡◌, Bool, Option, Some, None}
use Rattle.psb_settings.specs.declared.settings.Settings.{Settings}
use Rattle.psb_model.specs.State.{State}
use Rattle.psb_machine.specs.Deals.{Deal, first_that_holds, facts_at}
use Rattle.psb_machine.specs.Judging.{reasons_at}
use Rattle.psb_machine.specs.declared.deals.Refusal.{Refusal}
use Rattle.deals.specs.declared.facts.Facts.{Facts}
use Rattle.deals.specs.Views.{facts_in}

-- Why a fresh deal is refused, by the settings of the state; `clash` is whether other bytes are held under
-- its name.
abbrev pub refused_by : Option Settings → State → ℕ → Deal → Bool → Option Refusal
refused_by None s p deal clash = None
refused_by (Some settings) s p deal clash = first_that_holds (reasons_at settings s p deal clash)

abbrev pub why_refused : State → ℕ → Deal → Bool → Option Refusal
why_refused s p deal clash = refused_by s.settings s p deal clash

-- these are the deal's facts by the settings of the state, but for whether other bytes are held under its name
abbrev pub AreFacts : Facts → State → Deal → Type 0
AreFacts f s deal = (settings : Settings) → s.settings ≡ Some settings → facts_in f ≡ facts_at settings s deal f.clash
