use Rattle.std.proofs.Common.{◌≡◌, ◌+◌, ◌≤◌, ◌*◌, take, Some, true, false}
use Rattle.psb_station.specs.Span.{Tells_bytes}
use Rattle.psb_machine.specs.Machine.{Situation}
use Rattle.psb_machine.specs.Commands.{ticks}
use Rattle.node_core.specs.Stored.{Knows, Stored, IsCounted}
use Rattle.node_serve.specs.Spans.{IsReady, Counts, Fed}
use Rattle.node_serve.specs.Turns.{OnlySends, turn_tally}
use Rattle.node_serve.proofs.serving.tick_all.Given as goal

abbrev pub invariant-loop-peer : goal.invariant-loop-peer
invariant-loop-peer g l = record {
  fed : Tells_bytes (g.S.Disk.view l.station) → (n : Situation) → Knows l.fn.node n → Stored g.L.Log.holds l.fn.node n.history (g.S.Disk.view l.fn.station)
      → Fed g.L.Log.holds g.L.Log.stands g.L.Log.is_broken l.fn.node l.node (g.S.Disk.view l.fn.station) (g.S.Disk.view l.station) n (ticks (take l.peer-index l.peers)) (Some (turn_tally l.sum)) true;
  tells : Tells_bytes (g.S.Disk.view l.station) → Tells_bytes (g.S.Disk.view l.fn.station);
  only_sends : OnlySends (g.S.Disk.view l.fn.station) (g.S.Disk.view l.station);
  ready : IsReady g.L.Log.holds l.node (g.S.Disk.view l.station);
  counts : Counts (g.S.Disk.view l.fn.station) (g.S.Disk.view l.station);
  steady : (g.S.Disk.view l.station).disk_faults ≡ (g.S.Disk.view l.fn.station).disk_faults;
  whole : g.L.Log.is_broken l.node.log ≡ false;
  counted : IsCounted g.L.Log.size g.L.Log.keeps_body l.node;
  small : l.sum.taken + l.sum.dropped ≤ 2 * l.peer-index;
  few : l.sum.lost ≤ 2 * l.peer-index;
}
