use Rattle.std.proofs.Common.{◌≤◌, ℕ, List, length, sym, subst}
use Rattle.psb_settings.specs.Settings.{most_peers}
use Rattle.node_serve.proofs.Joined.{few_peers}
use Rattle.snapshot_restore.proofs.waiting.Waiting.new.Goals as goal

pub invariant_of-result : goal.invariant_of-result
invariant_of-result g c = record {
  few = subst (λ (l : List ℕ). length l ≤ most_peers) (sym c.in_ok-peers.ensures.ids) (few_peers c.args.node.now c.requires.known.0 c.requires.known.1);
}
