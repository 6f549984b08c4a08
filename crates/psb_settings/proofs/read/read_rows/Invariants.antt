use Rattle.std.proofs.Common.{◌≡◌, drop}
use Rattle.toml.specs.View.{items_view}
use Rattle.psb_settings.specs.Settings.{peers_in}
use Rattle.psb_settings.proofs.Peers.{after_rows}
use Rattle.psb_settings.proofs.read.read_rows.Given as goal

abbrev pub invariant-loop-value : goal.invariant-loop-value
invariant-loop-value l = peers_in (items_view l.array) ≡ after_rows l.rows.items (drop l.value-index l.array)
