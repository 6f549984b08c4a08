use Rattle.std.proofs.Common.{sym, ap, subst, Ok}
use Rattle.snapshots.specs.declared.writing.WriteFault.{WriteFault}
use Rattle.snapshots.specs.declared.writing.WriteFault.TheVariants as write_fault
use Rattle.snapshot_restore.specs.Faults.{of_writing}
use Rattle.snapshot_restore.specs.declared.fault.RestoreFault.TheVariants as restore_fault
use Rattle.snapshot_restore.proofs.Restores.{IsEarly, refused, stopped, restored}
use Rattle.snapshot_restore.proofs.restoring.restore.Goals as goal

early_writing : (f : WriteFault) → IsEarly (of_writing f)
early_writing write_fault.Folder = tt
early_writing write_fault.Memory = tt

pub returns-in-Ok-false-clause-stopped : goal.returns-in-Ok-false-clause-stopped
returns-in-Ok-false-clause-stopped g c =
    refused g.L.Log.holds g.L.Log.stands g.L.Log.is_broken g.met.L.Log.holds_stands c.args.node.now (g.S.Disk.view c.args.station.now) (g.F.Folder.view c.args.folder.now) (g.F.Folder.view c.is_empty.new.folder) c.args.ticket.now c.args.path.now c.args.turns restore_fault.NotEmpty
    c.requires.up.whole tt c.is_empty.ensures.content c.is_empty.ensures.tries

pub returns-in-Err-clause-stopped : goal.returns-in-Err-clause-stopped
returns-in-Err-clause-stopped g c =
    refused g.L.Log.holds g.L.Log.stands g.L.Log.is_broken g.met.L.Log.holds_stands c.args.node.now (g.S.Disk.view c.args.station.now) (g.F.Folder.view c.args.folder.now) (g.F.Folder.view c.is_empty.new.folder) c.args.ticket.now c.args.path.now c.args.turns c.from.result
    c.requires.up.whole (subst IsEarly (sym c.from.ensures) (early_writing c.in-Err.fault)) c.is_empty.ensures.content c.is_empty.ensures.tries

pub returns-in-Ok-clause-restored : goal.returns-in-Ok-clause-restored
returns-in-Ok-clause-restored g c =
    restored g.L.Log.holds g.L.Log.stands g.L.Log.is_broken g.met.L.Log.holds_stands c.args.node.now c.restore_below.new.node (g.S.Disk.view c.args.station.now) (g.S.Disk.view c.restore_below.new.station) (g.F.Folder.view c.args.folder.now) (g.F.Folder.view c.is_empty.new.folder) (g.F.Folder.view c.restore_below.new.folder) c.args.ticket.now c.args.path.now c.args.turns c.in-Ok.restored
    c.is_empty.ensures.content (c.in-Ok-true.ensures.empty (ap (λ b. Ok b) c.in-Ok-true.field-0-test)) c.is_empty.ensures.tries c.in-Ok.ensures.restored

pub returns-in-Err-restore_below-clause-stopped : goal.returns-in-Err-restore_below-clause-stopped
returns-in-Err-restore_below-clause-stopped g c =
    stopped g.L.Log.holds g.L.Log.stands g.L.Log.is_broken g.met.L.Log.holds_stands c.args.node.now c.restore_below.new.node (g.S.Disk.view c.args.station.now) (g.S.Disk.view c.restore_below.new.station) (g.F.Folder.view c.args.folder.now) (g.F.Folder.view c.is_empty.new.folder) (g.F.Folder.view c.restore_below.new.folder) c.args.ticket.now c.args.path.now c.args.turns c.in-Err-restore_below.fault
    c.in-Err-restore_below.ensures.only c.is_empty.ensures.content (c.in-Ok-true.ensures.empty (ap (λ b. Ok b) c.in-Ok-true.field-0-test)) c.is_empty.ensures.tries c.in-Err-restore_below.ensures.stopped
