use Rattle.std.proofs.Common.{rules, ◌≡◌, ℕ, List, [], ◌∷◌, Err, sym, ◌∙◌, ap, subst}
use Rattle.psb_bytes.specs.declared.ids.Ref.{Ref}
use Rattle.node_journal.proofs.Heads.{on_ok}
use Rattle.psb_station.specs.Folder.{Tries, child}
use Rattle.snapshots.specs.Writing.{Writes, made_at, making}
use Rattle.snapshot_restore.specs.Faults.{of_writing}
use Rattle.snapshot_restore.specs.Written.{AppendsAll, StopsAppending, WritesEntry, StopsEntry}
use Rattle.snapshot_restore.specs.declared.fault.RestoreFault.{RestoreFault}
use Rattle.snapshot_restore.proofs.Results.{err_also}
use Rattle.snapshot_restore.proofs.EntryRuns.{entry_refused, folder_written, file_written, file_stopped}
use Rattle.snapshot_restore.proofs.tree.write_entry.Goals as goal

pub returns-in-Err-clause-stopped : goal.returns-in-Err-clause-stopped
returns-in-Err-clause-stopped g c =
    let e = c.args.entry.now in
    let root = c.args.root.now in
    let path : c.as_str.result.now ≡ e.path = search rules in
    let fault_is : c.from.result ≡ of_writing c.in-Err.fault = search rules in
    let refused : Writes root (g.F.Folder.view c.args.folder.now) (g.F.Folder.view c.make_place.new.folder) [] = search rules in
    subst (λ (f : RestoreFault). StopsEntry g.L.Log.holds g.L.Log.stands g.L.Log.is_broken c.args.waiting.now c.args.waiting.now c.args.node.now c.args.node.now (g.S.Disk.view c.args.station.now) (g.S.Disk.view c.args.station.now) root (g.F.Folder.view c.args.folder.now) (g.F.Folder.view c.make_place.new.folder) e f) (sym fault_is)
    (entry_refused g.L.Log.holds g.L.Log.stands g.L.Log.is_broken g.met.L.Log.holds_stands c.args.waiting.now c.args.node.now (g.S.Disk.view c.args.station.now) root (g.F.Folder.view c.args.folder.now) (g.F.Folder.view c.make_place.new.folder) e c.in-Err.fault c.requires.up.whole refused
    (λ is. subst (λ (l : List ℕ). Tries (making e.kind (child root l)) (g.F.Folder.view c.args.folder.now) (g.F.Folder.view c.make_place.new.folder)) path (c.make_place.ensures.failed (c.in-Err.is ∙ ap Err is)))
    (λ is. ap g.F.Folder.view (c.make_place.ensures.idle (c.in-Err.is ∙ ap Err is))))

pub returns-in-Folder-clause-written : goal.returns-in-Folder-clause-written
returns-in-Folder-clause-written g c =
    let e = c.args.entry.now in
    let root = c.args.root.now in
    let path : c.as_str.result.now ≡ e.path = search rules in
    folder_written g.L.Log.holds g.L.Log.stands g.L.Log.is_broken g.met.L.Log.holds_stands c.args.waiting.now c.args.node.now (g.S.Disk.view c.args.station.now) root (g.F.Folder.view c.args.folder.now) (g.F.Folder.view c.make_place.new.folder) e c.requires.up.whole c.in-Folder.is
    (subst (λ (l : List ℕ). Writes root (g.F.Folder.view c.args.folder.now) (g.F.Folder.view c.make_place.new.folder) (made_at l e.kind ∷ [])) path c.in-Ok.ensures.made)
    (subst (λ (l : List ℕ). Tries (making e.kind (child root l)) (g.F.Folder.view c.args.folder.now) (g.F.Folder.view c.make_place.new.folder)) path c.in-Ok.ensures.called)

pub returns-clause-written : goal.returns-clause-written
returns-clause-written g c =
    let e = c.args.entry.now in
    let root = c.args.root.now in
    let path : c.as_str.result.now ≡ e.path = search rules in
    let at : c.as_str-in-File.result.now ≡ child root e.path = search rules in
    let refs : c.as_slice.result.now ≡ e.refs = search rules in
    on_ok c.append_all.result
    (AppendsAll g.L.Log.holds g.L.Log.stands g.L.Log.is_broken c.args.waiting.now c.append_all.new.waiting c.args.node.now c.append_all.new.node (g.S.Disk.view c.args.station.now) (g.S.Disk.view c.append_all.new.station) (g.F.Folder.view c.make_place.new.folder) (g.F.Folder.view c.append_all.new.folder) c.as_str-in-File.result.now c.as_slice.result.now)
    (WritesEntry g.L.Log.holds g.L.Log.stands g.L.Log.is_broken c.args.waiting.now c.append_all.new.waiting c.args.node.now c.append_all.new.node (g.S.Disk.view c.args.station.now) (g.S.Disk.view c.append_all.new.station) root (g.F.Folder.view c.args.folder.now) (g.F.Folder.view c.append_all.new.folder) e)
    c.append_all.ensures.appended
    (λ a.
    file_written g.L.Log.holds g.L.Log.stands g.L.Log.is_broken g.met.L.Log.holds_stands c.args.waiting.now c.append_all.new.waiting c.args.node.now c.append_all.new.node (g.S.Disk.view c.args.station.now) (g.S.Disk.view c.append_all.new.station) root (g.F.Folder.view c.args.folder.now) (g.F.Folder.view c.make_place.new.folder) (g.F.Folder.view c.append_all.new.folder) e c.in-File.is
    (subst (λ (l : List ℕ). Writes root (g.F.Folder.view c.args.folder.now) (g.F.Folder.view c.make_place.new.folder) (made_at l e.kind ∷ [])) path c.in-Ok.ensures.made)
    (subst (λ (l : List ℕ). Tries (making e.kind (child root l)) (g.F.Folder.view c.args.folder.now) (g.F.Folder.view c.make_place.new.folder)) path c.in-Ok.ensures.called)
    (subst (λ (l : List Ref). AppendsAll g.L.Log.holds g.L.Log.stands g.L.Log.is_broken c.args.waiting.now c.append_all.new.waiting c.args.node.now c.append_all.new.node (g.S.Disk.view c.args.station.now) (g.S.Disk.view c.append_all.new.station) (g.F.Folder.view c.make_place.new.folder) (g.F.Folder.view c.append_all.new.folder) (child root e.path) l) refs
    (subst (λ (l : List ℕ). AppendsAll g.L.Log.holds g.L.Log.stands g.L.Log.is_broken c.args.waiting.now c.append_all.new.waiting c.args.node.now c.append_all.new.node (g.S.Disk.view c.args.station.now) (g.S.Disk.view c.append_all.new.station) (g.F.Folder.view c.make_place.new.folder) (g.F.Folder.view c.append_all.new.folder) l c.as_slice.result.now) at a)))

pub returns-clause-stopped : goal.returns-clause-stopped
returns-clause-stopped g c =
    let e = c.args.entry.now in
    let root = c.args.root.now in
    let path : c.as_str.result.now ≡ e.path = search rules in
    let at : c.as_str-in-File.result.now ≡ child root e.path = search rules in
    let refs : c.as_slice.result.now ≡ e.refs = search rules in
    err_also c.append_all.result
    (λ f. StopsAppending g.L.Log.holds g.L.Log.stands g.L.Log.is_broken c.args.waiting.now c.append_all.new.waiting c.args.node.now c.append_all.new.node (g.S.Disk.view c.args.station.now) (g.S.Disk.view c.append_all.new.station) (g.F.Folder.view c.make_place.new.folder) (g.F.Folder.view c.append_all.new.folder) c.as_str-in-File.result.now c.as_slice.result.now f)
    (λ f. StopsEntry g.L.Log.holds g.L.Log.stands g.L.Log.is_broken c.args.waiting.now c.append_all.new.waiting c.args.node.now c.append_all.new.node (g.S.Disk.view c.args.station.now) (g.S.Disk.view c.append_all.new.station) root (g.F.Folder.view c.args.folder.now) (g.F.Folder.view c.append_all.new.folder) e f)
    (λ f s.
    file_stopped g.L.Log.holds g.L.Log.stands g.L.Log.is_broken g.met.L.Log.holds_stands c.args.waiting.now c.append_all.new.waiting c.args.node.now c.append_all.new.node (g.S.Disk.view c.args.station.now) (g.S.Disk.view c.append_all.new.station) root (g.F.Folder.view c.args.folder.now) (g.F.Folder.view c.make_place.new.folder) (g.F.Folder.view c.append_all.new.folder) e f c.in-File.is
    (subst (λ (l : List ℕ). Writes root (g.F.Folder.view c.args.folder.now) (g.F.Folder.view c.make_place.new.folder) (made_at l e.kind ∷ [])) path c.in-Ok.ensures.made)
    (subst (λ (l : List ℕ). Tries (making e.kind (child root l)) (g.F.Folder.view c.args.folder.now) (g.F.Folder.view c.make_place.new.folder)) path c.in-Ok.ensures.called)
    (subst (λ (l : List Ref). StopsAppending g.L.Log.holds g.L.Log.stands g.L.Log.is_broken c.args.waiting.now c.append_all.new.waiting c.args.node.now c.append_all.new.node (g.S.Disk.view c.args.station.now) (g.S.Disk.view c.append_all.new.station) (g.F.Folder.view c.make_place.new.folder) (g.F.Folder.view c.append_all.new.folder) (child root e.path) l f) refs
    (subst (λ (l : List ℕ). StopsAppending g.L.Log.holds g.L.Log.stands g.L.Log.is_broken c.args.waiting.now c.append_all.new.waiting c.args.node.now c.append_all.new.node (g.S.Disk.view c.args.station.now) (g.S.Disk.view c.append_all.new.station) (g.F.Folder.view c.make_place.new.folder) (g.F.Folder.view c.append_all.new.folder) l c.as_slice.result.now f) at s)))
    c.append_all.ensures.stopped
