use Rattle.std.proofs.Common.{◌≡◌, Err, [], ◌∷◌, rules}
use Rattle.skeleton.specs.Entries.{total}
use Rattle.skeleton.specs.declared.entry.EntryKind.TheVariants as kind
use Rattle.psb_station.specs.Folder.{child}
use Rattle.node_history.proofs.Presence.{err_as}
use Rattle.snapshot_backup.specs.declared.fault.BackupFault.TheVariants as backup_fault
use Rattle.snapshot_backup.proofs.Fronts.{if_err}
use Rattle.snapshot_backup.proofs.PlaceRuns.{reads_file, files_none, folder_kept, file_kept, place_untried, place_stopped}
use Rattle.snapshot_backup.proofs.places.keep_place.Goals as goal

pub returns-in_err-path-clause-stopped : goal.returns-in_err-path-clause-stopped
returns-in_err-path-clause-stopped g c =
    let short : c.from_residual.result ≡ Err backup_fault.Memory = search rules in
    if_err c.from_residual.result backup_fault.Memory _ short
    (place_untried g.L.Log.holds g.L.Log.stands g.L.Log.size g.L.Log.keeps_body g.L.Log.is_broken g.met.L.Log.holds_stands c.args.node.now (g.D.Disk.view c.args.disk.now) c.args.root.now c.args.found.now (g.F.Folder.view c.args.folder.now) c.args.room.now backup_fault.Memory tt)

pub returns-in_err-at-in-File-clause-stopped : goal.returns-in_err-at-in-File-clause-stopped
returns-in_err-at-in-File-clause-stopped g c =
    let short : c.from_residual-in_err-at-in-File.result ≡ Err backup_fault.Memory = search rules in
    if_err c.from_residual-in_err-at-in-File.result backup_fault.Memory _ short
    (place_untried g.L.Log.holds g.L.Log.stands g.L.Log.size g.L.Log.keeps_body g.L.Log.is_broken g.met.L.Log.holds_stands c.args.node.now (g.D.Disk.view c.args.disk.now) c.args.root.now c.args.found.now (g.F.Folder.view c.args.folder.now) c.args.room.now backup_fault.Memory tt)

pub returns-in-Err-clause-stopped : goal.returns-in-Err-clause-stopped
returns-in-Err-clause-stopped g c =
    let file : c.args.found.now.kind ≡ kind.File = search rules in
    let there : c.as_str-in-File-2.result.now ≡ child c.args.root.now c.args.found.now.path = search rules in
    place_stopped g.L.Log.holds g.L.Log.stands g.L.Log.size g.L.Log.keeps_body g.L.Log.is_broken g.met.L.Log.holds_stands c.args.node.now c.keep_file.new.node (g.D.Disk.view c.args.disk.now) (g.D.Disk.view c.keep_file.new.disk) c.args.root.now c.args.found.now (g.F.Folder.view c.keep_file.new.folder) c.as_str-in-File-2.result.now c.args.room.now c.in-Err.fault file there c.in-Err.ensures.stopped

pub returns-in-Err-clause-altered : goal.returns-in-Err-clause-altered
returns-in-Err-clause-altered g c = λ name said. c.in-Err.ensures.altered name (err_as c.in-Err.fault _ said)

pub returns-in-Folder-clause-kept : goal.returns-in-Folder-clause-kept
returns-in-Folder-clause-kept g c =
    let folder : c.args.found.now.kind ≡ kind.Folder = search rules in
    let place : c.in_ok-path.path ≡ c.args.found.now.path = search rules in
    let none : c.from_vec.result ≡ [] = search rules in
    folder_kept g.L.Log.holds g.L.Log.stands g.L.Log.size g.L.Log.keeps_body g.L.Log.is_broken g.met.L.Log.holds_stands c.args.node.now (g.D.Disk.view c.args.disk.now) c.args.root.now c.args.found.now (g.F.Folder.view c.args.folder.now) c.in_ok-path.path c.from_vec.result c.requires.up folder place none

pub returns-in-Ok-clause-kept : goal.returns-in-Ok-clause-kept
returns-in-Ok-clause-kept g c =
    let file : c.args.found.now.kind ≡ kind.File = search rules in
    let place : c.in_ok-path.path ≡ c.args.found.now.path = search rules in
    let there : c.as_str-in-File-2.result.now ≡ child c.args.root.now c.in_ok-path.path = search rules in
    let sum : c.bytes_in.result ≡ total c.in-Ok.refs = search rules in
    file_kept g.L.Log.holds g.L.Log.stands g.L.Log.size g.L.Log.keeps_body g.L.Log.is_broken g.met.L.Log.holds_stands c.args.node.now c.keep_file.new.node (g.D.Disk.view c.args.disk.now) (g.D.Disk.view c.keep_file.new.disk) c.args.root.now c.args.found.now (g.F.Folder.view c.keep_file.new.folder) c.in_ok-path.path c.as_str-in-File-2.result.now c.bytes_in.result c.in-Ok.refs file place there sum c.in-Ok.ensures.kept

pub returns-in_err-path-clause-reads : goal.returns-in_err-path-clause-reads
returns-in_err-path-clause-reads g c = files_none c.args.root.now (c.args.found.now ∷ []) (g.F.Folder.view c.args.folder.now)

pub returns-in-Folder-clause-reads : goal.returns-in-Folder-clause-reads
returns-in-Folder-clause-reads g c = files_none c.args.root.now (c.args.found.now ∷ []) (g.F.Folder.view c.args.folder.now)

pub returns-in_err-at-in-File-clause-reads : goal.returns-in_err-at-in-File-clause-reads
returns-in_err-at-in-File-clause-reads g c = files_none c.args.root.now (c.args.found.now ∷ []) (g.F.Folder.view c.args.folder.now)

pub returns-in-Err-clause-reads : goal.returns-in-Err-clause-reads
returns-in-Err-clause-reads g c =
    let file : c.args.found.now.kind ≡ kind.File = search rules in
    let there : c.as_str-in-File-2.result.now ≡ child c.args.root.now c.args.found.now.path = search rules in
    reads_file c.args.root.now c.as_str-in-File-2.result.now c.args.found.now (g.F.Folder.view c.args.folder.now) (g.F.Folder.view c.keep_file.new.folder) file there c.keep_file.ensures.reads

pub returns-in-Ok-clause-reads : goal.returns-in-Ok-clause-reads
returns-in-Ok-clause-reads g c =
    let file : c.args.found.now.kind ≡ kind.File = search rules in
    let there : c.as_str-in-File-2.result.now ≡ child c.args.root.now c.args.found.now.path = search rules in
    reads_file c.args.root.now c.as_str-in-File-2.result.now c.args.found.now (g.F.Folder.view c.args.folder.now) (g.F.Folder.view c.keep_file.new.folder) file there c.keep_file.ensures.reads

pub returns-in-Err-clause-of_piece : goal.returns-in-Err-clause-of_piece
returns-in-Err-clause-of_piece g c = λ f is. c.in-Err.ensures.of_piece f (err_as c.in-Err.fault _ is)
