use Rattle.std.proofs.Common.{rules, ◌+◌, List, take, drop, refl, sym, subst}
use Rattle.skeleton.specs.declared.entry.Entry.{Entry}
use Rattle.snapshot_restore.specs.Written.{WritesAll, StopsTree}
use Rattle.snapshot_restore.proofs.Lists.{one_further, around}
use Rattle.snapshot_restore.proofs.TreeRuns.{tree_none, tree_then, tree_stopped}
use Rattle.snapshot_restore.proofs.tree.write_entries.Goals as goal

pub loop-entry-init : goal.loop-entry-init
loop-entry-init g c = record {
  so_far = tree_none g.L.Log.holds g.L.Log.stands g.L.Log.is_broken g.met.L.Log.holds_stands c.args.waiting.now c.args.node.now (g.S.Disk.view c.args.station.now) c.args.root.now (g.F.Folder.view c.args.folder.now) c.requires.up.whole;
  up = c.requires.up;
  faults = record { disk = refl; link = refl; said = refl };
  folder_faults = refl;
}

pub returns-in-Err-clause-stopped : goal.returns-in-Err-clause-stopped
returns-in-Err-clause-stopped g c =
    let entries = c.args.entries.now in
    let i = c.loop-entry.entry-index in
    let e = c.entry-item.result in
    subst (λ (l : List Entry). StopsTree g.L.Log.holds g.L.Log.stands g.L.Log.is_broken c.args.waiting.now c.write_entry.new.waiting c.args.node.now c.write_entry.new.node (g.S.Disk.view c.args.station.now) (g.S.Disk.view c.write_entry.new.station) c.args.root.now (g.F.Folder.view c.args.folder.now) (g.F.Folder.view c.write_entry.new.folder) l c.in-Err.fault) (sym (around entries i e e c.loop-entry-test.true c.entry-item.is))
    (tree_stopped g.L.Log.holds g.L.Log.stands g.L.Log.is_broken g.met.L.Log.holds_stands c.args.waiting.now c.loop-entry.waiting c.write_entry.new.waiting c.args.node.now c.loop-entry.node c.write_entry.new.node (g.S.Disk.view c.args.station.now) (g.S.Disk.view c.loop-entry.station) (g.S.Disk.view c.write_entry.new.station) c.args.root.now (g.F.Folder.view c.args.folder.now) (g.F.Folder.view c.loop-entry.folder) (g.F.Folder.view c.write_entry.new.folder) (take i entries) (drop (i + 1) entries) e c.in-Err.fault
    c.loop-entry.invariant.so_far c.in-Err.ensures.stopped)

pub loop-entry-preserved : goal.loop-entry-preserved
loop-entry-preserved g c =
    let entries = c.args.entries.now in
    let i = c.loop-entry.entry-index in
    let e = c.entry-item.result in
    record {
      so_far = subst (λ (l : List Entry). WritesAll g.L.Log.holds g.L.Log.stands g.L.Log.is_broken c.args.waiting.now c.write_entry.new.waiting c.args.node.now c.write_entry.new.node (g.S.Disk.view c.args.station.now) (g.S.Disk.view c.write_entry.new.station) c.args.root.now (g.F.Folder.view c.args.folder.now) (g.F.Folder.view c.write_entry.new.folder) l) (sym (one_further entries i e e c.loop-entry-test.true c.entry-item.is))
          (tree_then g.L.Log.holds g.L.Log.stands g.L.Log.is_broken g.met.L.Log.holds_stands c.args.waiting.now c.loop-entry.waiting c.write_entry.new.waiting c.args.node.now c.loop-entry.node c.write_entry.new.node (g.S.Disk.view c.args.station.now) (g.S.Disk.view c.loop-entry.station) (g.S.Disk.view c.write_entry.new.station) c.args.root.now (g.F.Folder.view c.args.folder.now) (g.F.Folder.view c.loop-entry.folder) (g.F.Folder.view c.write_entry.new.folder) (take i entries) e
          c.loop-entry.invariant.so_far c.in-Ok.ensures.written);
      up = c.in-Ok.ensures.up;
      faults = search rules;
      folder_faults = search rules;
    }
