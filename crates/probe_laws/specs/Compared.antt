-- What is proved can be compared.
use Rattle.std.specs.Prelude.{◌≡◌, ℕ, true, List, is_some, Some}
use Rattle.psb_model.specs.History.{is_lawful}
use Rattle.psb_model.specs.Needed.{IsValid}
use Rattle.psb_model.specs.declared.change.Change.{Change}
use Rattle.psb_machine.specs.Course.{Step, after_all}
use Rattle.psb_machine.specs.Machine.{fresh, run_at}
use Rattle.psb_machine.specs.OwnProbes.{Run, own_bytes}
use Rattle.psb_machine.specs.Probing.{chain_over}

-- While a probe runs, the node has the bytes of all that it lists, so that there is a chain over them for each nonce: over
-- any course since it was opened with a valid history, where the history is lawful at the end.
abbrev pub ProbesAreCompared : Type 0
ProbesAreCompared = (h : List Change) (ss : List Step) (p : ℕ) (r : Run) (seed nonce : List ℕ) → IsValid h → is_lawful (after_all (fresh h) ss).history ≡ true → run_at (after_all (fresh h) ss) p ≡ Some r
    → is_some (chain_over (own_bytes seed (after_all (fresh h) ss).history) nonce r.objects) ≡ true
