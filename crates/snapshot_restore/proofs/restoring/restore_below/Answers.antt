use Rattle.std.proofs.Common.{List, [], sym, subst}
use Rattle.skeleton.specs.declared.entry.Entry.{Entry}
use Rattle.snapshot_restore.specs.Restored.{StopsBelow}
use Rattle.snapshot_restore.specs.Written.{WritesAll, StopsTree}
use Rattle.snapshot_restore.specs.declared.fault.RestoreFault.TheVariants as restore_fault
use Rattle.snapshot_restore.proofs.Restores.{writes_none, tries_none, unbegun, texts_stopped, tree_stopped, tree_restored}
use Rattle.snapshot_restore.proofs.restoring.restore_below.Goals as goal

pub returns-in-Err-clause-stopped : goal.returns-in-Err-clause-stopped
returns-in-Err-clause-stopped g c =
    let node = c.args.node.now in
    let v = g.S.Disk.view c.args.station.now in
    let w = g.F.Folder.view c.args.folder.now in
    subst (StopsBelow g.L.Log.holds g.L.Log.stands g.L.Log.is_broken node node v v w w c.args.ticket.now c.args.path.now c.args.turns []) (sym c.from.ensures)
    (unbegun g.L.Log.holds g.L.Log.stands g.L.Log.is_broken g.met.L.Log.holds_stands node v w w c.args.ticket.now c.args.path.now c.args.turns [] restore_fault.Memory c.requires.up.whole tt (writes_none c.args.path.now w) (tries_none w))

pub returns-in-Err-fetch_skeleton-clause-stopped : goal.returns-in-Err-fetch_skeleton-clause-stopped
returns-in-Err-fetch_skeleton-clause-stopped g c =
    texts_stopped g.L.Log.holds g.L.Log.stands g.L.Log.is_broken g.met.L.Log.holds_stands c.in-Ok.waiting c.fetch_skeleton.new.waiting c.args.node.now c.fetch_skeleton.new.node (g.S.Disk.view c.args.station.now) (g.S.Disk.view c.fetch_skeleton.new.station) (g.F.Folder.view c.args.folder.now) c.args.ticket.now c.args.path.now c.args.turns c.in-Err-fetch_skeleton.fault
    (record { peers = c.in-Ok.ensures.peers; clock = c.in-Ok.ensures.clock; turns_are = c.in-Ok.ensures.turns }) c.in-Err-fetch_skeleton.ensures.only c.in-Err-fetch_skeleton.ensures.stopped

pub returns-in-Err-write_entries-clause-stopped : goal.returns-in-Err-write_entries-clause-stopped
returns-in-Err-write_entries-clause-stopped g c =
    let r = c.in-Ok-fetch_skeleton.ensures.read in
    let n1 = c.fetch_skeleton.new.node in
    let n2 = c.write_entries.new.node in
    let v1 = g.S.Disk.view c.fetch_skeleton.new.station in
    let v2 = g.S.Disk.view c.write_entries.new.station in
    let was = g.F.Folder.view c.args.folder.now in
    let is = g.F.Folder.view c.write_entries.new.folder in
    tree_stopped g.L.Log.holds g.L.Log.stands g.L.Log.is_broken g.met.L.Log.holds_stands c.in-Ok.waiting c.fetch_skeleton.new.waiting c.write_entries.new.waiting c.args.node.now n1 n2 (g.S.Disk.view c.args.station.now) v1 v2 was is c.args.ticket.now c.args.path.now c.args.turns r.0 r.1 c.in-Ok-fetch_skeleton.skeleton c.in-Err-write_entries.fault
    (record { peers = c.in-Ok.ensures.peers; clock = c.in-Ok.ensures.clock; turns_are = c.in-Ok.ensures.turns }) c.in-Err-write_entries.ensures.only r.2 r.3 r.4
    (subst (λ (es : List Entry). StopsTree g.L.Log.holds g.L.Log.stands g.L.Log.is_broken c.fetch_skeleton.new.waiting c.write_entries.new.waiting n1 n2 v1 v2 c.args.path.now was is es c.in-Err-write_entries.fault) c.entries.ensures.all c.in-Err-write_entries.ensures.stopped)

pub returns-clause-restored : goal.returns-clause-restored
returns-clause-restored g c =
    let r = c.in-Ok-fetch_skeleton.ensures.read in
    let n1 = c.fetch_skeleton.new.node in
    let n2 = c.write_entries.new.node in
    let v1 = g.S.Disk.view c.fetch_skeleton.new.station in
    let v2 = g.S.Disk.view c.write_entries.new.station in
    let was = g.F.Folder.view c.args.folder.now in
    let is = g.F.Folder.view c.write_entries.new.folder in
    tree_restored g.L.Log.holds g.L.Log.stands g.L.Log.is_broken g.met.L.Log.holds_stands c.in-Ok.waiting c.fetch_skeleton.new.waiting c.write_entries.new.waiting c.args.node.now n1 n2 (g.S.Disk.view c.args.station.now) v1 v2 was is c.args.ticket.now c.args.path.now c.args.turns r.0 r.1 c.in-Ok-fetch_skeleton.skeleton _
    (record { peers = c.in-Ok.ensures.peers; clock = c.in-Ok.ensures.clock; turns_are = c.in-Ok.ensures.turns }) r.2 r.3 r.4
    (subst (λ (es : List Entry). WritesAll g.L.Log.holds g.L.Log.stands g.L.Log.is_broken c.fetch_skeleton.new.waiting c.write_entries.new.waiting n1 n2 v1 v2 c.args.path.now was is es) c.entries.ensures.all c.in-Ok-write_entries.ensures.written)
    c.count-files.ensures.files c.count-files.ensures.folders c.count-files.ensures.bytes
