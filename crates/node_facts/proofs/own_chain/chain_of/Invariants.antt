use Rattle.std.proofs.Common.{◌≡◌, true, List, drop}
use Rattle.psb_station.specs.Span.{Shows, Tells_bytes, Keeps}
use Rattle.node_journal.specs.Entry.{Entry}
use Rattle.psb_model.specs.History.{state}
use Rattle.psb_model.specs.declared.change.Change.{Change}
use Rattle.psb_machine.specs.Probing.{chain_over}
use Rattle.psb_machine.specs.OwnProbes.{own_bytes}
use Rattle.node_history.specs.Stands.{AreDecoded}
use Rattle.node_history.specs.Names.{KnowsNames}
use Rattle.node_facts.specs.OwnChain.{are_own, has_no_chunk}
use Rattle.node_facts.proofs.own_chain.chain_of.Given as goal

abbrev pub invariant-loop-object : goal.invariant-loop-object
invariant-loop-object g l = record {
  log : l.log ≡ l.fn.log;
  seed : l.claims.seed ≡ l.fn.claims.seed;
  keeps : Keeps (g.D.Disk.view l.fn.disk) (g.D.Disk.view l.disk);
  steady : (g.D.Disk.view l.disk).disk_faults ≡ (g.D.Disk.view l.fn.disk).disk_faults;
  unwritten : (g.D.Disk.view l.disk).write_faults ≡ (g.D.Disk.view l.fn.disk).write_faults;
  rests : has_no_chunk l.objects ≡ true → l.disk ≡ l.fn.disk;
  made : (h : List Change) → has_no_chunk l.objects ≡ true → chain_over (own_bytes l.fn.claims.seed h) l.nonce l.objects ≡ chain_over (own_bytes l.fn.claims.seed h) l.chain (drop l.object-index l.objects);
  value : Tells_bytes (g.D.Disk.view l.disk) → (h : List Change) (es : List Entry) → KnowsNames l.names h → AreDecoded h es → Shows (g.L.Log.holds l.fn.log es) (g.D.Disk.view l.fn.disk) → are_own (state h) l.objects ≡ true
      → chain_over (own_bytes l.fn.claims.seed h) l.nonce l.objects ≡ chain_over (own_bytes l.fn.claims.seed h) l.chain (drop l.object-index l.objects);
}
