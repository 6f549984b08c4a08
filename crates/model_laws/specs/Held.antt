-- Each held name has its bytes: the last change that brought it has them, and they hash to it.
use Rattle.std.specs.Prelude.{◌≡◌, true, ℕ, List, Some}
use Rattle.psb_digest.specs.Hashes.{sha}
use Rattle.psb_model.specs.declared.change.Change.{Change}
use Rattle.psb_model.specs.Words.{name_eq}
use Rattle.psb_model.specs.State.{is_held}
use Rattle.psb_model.specs.History.{state}
use Rattle.psb_model.specs.Needed.{IsValid, last_brought}

pub record HasBytes (h : List Change) (n : List ℕ) : Type 0 where
  pub bytes : List ℕ
  pub brought : last_brought n h ≡ Some bytes
  pub named : name_eq (sha bytes) n ≡ true

abbrev pub AllHeldHaveBytes : Type 0
AllHeldHaveBytes = (h : List Change) (n : List ℕ) → IsValid h → is_held (state h) n ≡ true → HasBytes h n
