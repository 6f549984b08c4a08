-- Where a disk holds what a node knows, no piece that it is asked for is altered: also behind pieces that were kept.
use Rattle.std.proofs.Common.{◌≡◌, ℕ, Bool, List, None, refl, sym, ◌∙◌, subst}
use Rattle.psb_station.specs.View.{View}
use Rattle.psb_station.specs.Span.{DiskWorks}
use Rattle.node_journal.specs.Entry.{Entry}
use Rattle.psb_machine.specs.Course.{Step, after_all}
use Rattle.node_core.specs.declared.node.Node.{Node}
use Rattle.node_core.specs.Stored.{Knows, Stored}
use Rattle.node_serve.proofs.Runs.{all_done}
use Rattle.snapshot_backup.specs.Course.{keep_steps}
use Rattle.snapshot_backup.specs.Endings.{AllKept}
use Rattle.snapshot_backup.specs.Runs.{KeepsSo, NoneAltered}
use Rattle.snapshot_backup.proofs.Fronts.{front_all}

module _ {L : Type 0} (holds : L → List Entry → List ℕ → Type 0) (stands : List Entry → List ℕ → Type 0) (size : L → ℕ) (keeps : L → ℕ → Bool) (broken : L → Bool) (law : (log : L) (es : List Entry) (c : List ℕ) → holds log es c → stands es c) where
  -- what is not altered behind pieces that were all kept was not altered in front of them
  pub none_altered_then : (n0 n1 n2 : Node L) (v0 v1 v2 : View) (ps : List (List ℕ)) (says : List ℕ → Type 0) → KeepsSo holds stands size keeps broken n0 n1 v0 v1 ps AllKept → DiskWorks v1 v2 → NoneAltered holds n1 v1 v2 says → NoneAltered holds n0 v0 v2 says
  none_altered_then n0 n1 n2 v0 v1 v2 ps says a works none = λ name said tells n k s.
      let r = front_all holds stands broken law n0 n1 v0 v1 n ps (a.front (works.tells tells) n k s) in
      let done : keep_steps ps ≡ r.fed.done = sym r.steps_are ∙ all_done holds stands broken law n0 n1 v0 v1 n r.steps None r.fed in
      let whole = (a.up refl).whole in
      none name said tells (after_all n (keep_steps ps))
      (subst (λ (d : List Step). Knows n1 (after_all n d)) (sym done) (r.fed.knows whole))
      (subst (λ (d : List Step). Stored holds n1 (after_all n d).history v1) (sym done) (r.fed.stored whole))
