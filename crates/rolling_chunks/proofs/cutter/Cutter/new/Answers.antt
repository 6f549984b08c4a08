use Rattle.rolling_chunks.specs.Cuts.{longest}
use Rattle.std.proofs.Common.{ℕ, List, ap, ◌∙◌}
use Rattle.rolling_chunks.specs.Pushes.{Progress}
use Rattle.rolling_chunks.proofs.Pushing.{progress-nil}
use Rattle.rolling_chunks.proofs.cutter.Cutter.new.Goals as goal

pub returns : goal.returns
returns c = ap (λ (w : List ℕ). let p : Progress = record { window = w; len = 0 } in p) c.in_ok-window.ensures ∙ progress-nil longest
