use Rattle.std.proofs.Common.{◌≡◌, ◌+◌, ◌≤◌, ◌*◌, Some, false}
use Rattle.psb_settings.specs.Settings.{most_peers}
use Rattle.psb_station.specs.Span.{Tells_bytes}
use Rattle.node_core.specs.Stored.{IsCounted}
use Rattle.node_serve.specs.Hears.{Whole}
use Rattle.node_serve.specs.Spans.{IsReady, Counts, RanTurns}
use Rattle.node_serve.specs.Turns.{peers_in, total_tally}
use Rattle.node_serve.proofs.serving.serve.Given as goal

abbrev pub invariant-loop-turn : goal.invariant-loop-turn
invariant-loop-turn g l = record {
  ran : RanTurns g.L.Log.holds g.L.Log.stands g.L.Log.is_broken (peers_in l.fn.node.ledger.state.settings) 0 l.clock l.fn.node l.node (g.S.Disk.view l.fn.station) (g.S.Disk.view l.station) l._turn (Some (total_tally l.total)) Whole;
  tells : Tells_bytes (g.S.Disk.view l.station) → Tells_bytes (g.S.Disk.view l.fn.station);
  ready : IsReady g.L.Log.holds l.node (g.S.Disk.view l.station);
  counts : Counts (g.S.Disk.view l.fn.station) (g.S.Disk.view l.station);
  unsaid : (g.S.Disk.view l.station).outside.say_faults ≡ (g.S.Disk.view l.fn.station).outside.say_faults;
  disk : (g.S.Disk.view l.station).disk_faults ≡ (g.S.Disk.view l.fn.station).disk_faults;
  link : (g.S.Disk.view l.station).outside.link_faults ≡ (g.S.Disk.view l.fn.station).outside.link_faults;
  whole : g.L.Log.is_broken l.node.log ≡ false;
  counted : IsCounted g.L.Log.size g.L.Log.keeps_body l.node;
  turns : l.total.turns ≡ l.turns;
  small : l.total.taken + l.total.dropped ≤ (2 * most_peers + 2) * l._turn;
  few : l.total.lost ≤ (2 * most_peers + 2) * l._turn;
}
