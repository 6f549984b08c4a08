use Rattle.std.proofs.Common.{◌≡◌, List, drop}
use Rattle.psb_station.specs.Span.{Shows, Tells_bytes, Keeps}
use Rattle.node_journal.specs.Entry.{Entry}
use Rattle.psb_model.specs.declared.change.Change.{Change}
use Rattle.psb_machine.specs.Probing.{chain_over, object_bytes}
use Rattle.node_history.specs.Stands.{AreDecoded}
use Rattle.node_facts.specs.Probed.{Knows}
use Rattle.node_facts.proofs.probing.chain_over.Given as goal

abbrev pub invariant-loop-place : goal.invariant-loop-place
invariant-loop-place g l = record {
  log : l.log ≡ l.fn.log;
  seed : l.claims.seed ≡ l.fn.claims.seed;
  issued : l.claims.issued ≡ l.fn.claims.issued;
  keeps : Keeps (g.D.Disk.view l.fn.disk) (g.D.Disk.view l.disk);
  steady : (g.D.Disk.view l.disk).disk_faults ≡ (g.D.Disk.view l.fn.disk).disk_faults;
  unwritten : (g.D.Disk.view l.disk).write_faults ≡ (g.D.Disk.view l.fn.disk).write_faults;
  value : Tells_bytes (g.D.Disk.view l.disk) → (h : List Change) (es : List Entry) → Knows l.held h → AreDecoded h es → Shows (g.L.Log.holds l.fn.log es) (g.D.Disk.view l.fn.disk)
      → chain_over (object_bytes l.fn.claims.seed h l.peer) l.nonce l.objects ≡ chain_over (object_bytes l.fn.claims.seed h l.peer) l.chain (drop l.place l.objects);
}
