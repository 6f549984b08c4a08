use Rattle.std.proofs.Common.{◌≡◌, ◌+◌, ◌≤◌, ℕ, List, [], ◌∷◌, ◌++◌, length, take, drop, Err, rules, arith, refl, sym, subst}
use Rattle.node_history.proofs.Presence.{err_as}
use Rattle.snapshots.specs.declared.walking.Found.{Found}
use Rattle.snapshot_backup.specs.Course.{pieces_of_files}
use Rattle.snapshot_backup.specs.Endings.{StoppedFor}
use Rattle.snapshot_backup.specs.declared.fault.BackupFault.TheVariants as backup_fault
use Rattle.snapshot_backup.specs.Files.{AreFirstIn, HasMoreIn}
use Rattle.snapshot_backup.specs.Runs.{KeepsSo}
use Rattle.snapshot_backup.proofs.Honest.{none_altered_then}
use Rattle.snapshots.specs.Walks.{AreFound}
use Rattle.snapshot_backup.proofs.Fronts.{if_err}
use Rattle.snapshot_backup.proofs.PlaceRuns.{files_none, files_further, files_up_to, around, places_start, places_fit, places_untried, places_stopped, places_too_large, places_further, places_cut_at}
use Rattle.snapshot_backup.proofs.TreeTexts.{room_kept}
use Rattle.snapshot_backup.proofs.places.keep_places.Goals as goal

pub returns-in_err-reader-clause-stopped : goal.returns-in_err-reader-clause-stopped
returns-in_err-reader-clause-stopped g c =
    let short : c.from_residual.result ≡ Err backup_fault.Memory = search rules in
    if_err c.from_residual.result backup_fault.Memory _ short
    (places_untried g.L.Log.holds g.L.Log.stands g.L.Log.size g.L.Log.keeps_body g.L.Log.is_broken g.met.L.Log.holds_stands c.args.node.now (g.D.Disk.view c.args.disk.now) c.args.root.now c.args.found.now (g.F.Folder.view c.args.folder.now) c.args.room backup_fault.Memory tt)

pub returns-in_err-reader-clause-reads : goal.returns-in_err-reader-clause-reads
returns-in_err-reader-clause-reads g c = files_none c.args.root.now c.args.found.now (g.F.Folder.view c.args.folder.now)

pub loop-place-init : goal.loop-place-init
loop-place-init g c = record {
  so_far = places_start g.L.Log.holds g.L.Log.stands g.L.Log.size g.L.Log.keeps_body g.L.Log.is_broken g.met.L.Log.holds_stands c.args.node.now (g.D.Disk.view c.args.disk.now) c.args.root.now (g.F.Folder.view c.args.folder.now) c.new-skeleton.result c.args.room c.requires.up c.new-skeleton.ensures;
  up = c.requires.up;
  few = omega arith;
  reads = files_none c.args.root.now (take 0 c.args.found.now) (g.F.Folder.view c.args.folder.now);
  steady = refl;
  same = refl;
}

pub returns-in-Err-clause-stopped : goal.returns-in-Err-clause-stopped
returns-in-Err-clause-stopped g c =
    let fs = c.args.found.now in
    let i = c.loop-place.place-index in
    let f = c.place-item.result in
    let v0 = g.D.Disk.view c.args.disk.now in
    let v1 = g.D.Disk.view c.loop-place.disk in
    let v2 = g.D.Disk.view c.keep_place.new.disk in
    let w2 = g.F.Folder.view c.keep_place.new.folder in
    subst (λ (l : List Found). (pieces : List (List ℕ)) × AreFirstIn w2.content c.args.root.now l pieces × (length pieces ≤ c.args.room) × KeepsSo g.L.Log.holds g.L.Log.stands g.L.Log.size g.L.Log.keeps_body g.L.Log.is_broken c.args.node.now c.keep_place.new.node v0 v2 pieces (StoppedFor c.in-Err.fault)) (sym (around fs i f f c.loop-place-test.true c.place-item.is))
    (places_stopped g.L.Log.holds g.L.Log.stands g.L.Log.size g.L.Log.keeps_body g.L.Log.is_broken g.met.L.Log.holds_stands c.args.node.now c.loop-place.node c.keep_place.new.node v0 v1 v2 c.args.root.now (take i fs) (drop (i + 1) fs) f (g.F.Folder.view c.loop-place.folder) w2 c.loop-place.skeleton c.args.room c.loop-place.left c.in-Err.fault c.loop-place.invariant.so_far c.keep_place.ensures.reads.content c.in-Err.ensures.stopped)

pub returns-in-Err-clause-too_large : goal.returns-in-Err-clause-too_large
returns-in-Err-clause-too_large g c = λ is.
    let fs = c.args.found.now in
    let i = c.loop-place.place-index in
    let f = c.place-item.result in
    let w2 = g.F.Folder.view c.keep_place.new.folder in
    subst (λ (l : List Found). HasMoreIn w2.content c.args.root.now l c.args.room) (sym (around fs i f f c.loop-place-test.true c.place-item.is))
    (places_too_large g.L.Log.holds g.L.Log.stands g.L.Log.size g.L.Log.keeps_body g.L.Log.is_broken g.met.L.Log.holds_stands c.args.node.now c.loop-place.node (g.D.Disk.view c.args.disk.now) (g.D.Disk.view c.loop-place.disk) c.args.root.now (take i fs) (drop (i + 1) fs) f (g.F.Folder.view c.loop-place.folder) w2 c.loop-place.skeleton c.args.room c.loop-place.left c.loop-place.invariant.so_far c.keep_place.ensures.reads.content (c.in-Err.ensures.too_large (err_as c.in-Err.fault _ is)))

pub returns-in-Err-clause-reads : goal.returns-in-Err-clause-reads
returns-in-Err-clause-reads g c =
    files_up_to c.args.root.now c.args.found.now (c.loop-place.place-index + 1) (g.F.Folder.view c.args.folder.now) (g.F.Folder.view c.keep_place.new.folder)
    (files_further c.args.root.now c.args.found.now c.loop-place.place-index c.place-item.result c.place-item.result (g.F.Folder.view c.args.folder.now) (g.F.Folder.view c.loop-place.folder) (g.F.Folder.view c.keep_place.new.folder) c.loop-place-test.true c.place-item.is c.loop-place.invariant.reads c.keep_place.ensures.reads)

pub returns-in-Err-clause-altered : goal.returns-in-Err-clause-altered
returns-in-Err-clause-altered g c = λ name said.
    let so_far = c.loop-place.invariant.so_far in
    none_altered_then g.L.Log.holds g.L.Log.stands g.L.Log.size g.L.Log.keeps_body g.L.Log.is_broken g.met.L.Log.holds_stands c.args.node.now c.loop-place.node c.keep_place.new.node (g.D.Disk.view c.args.disk.now) (g.D.Disk.view c.loop-place.disk) (g.D.Disk.view c.keep_place.new.disk) (pieces_of_files so_far.places) _ so_far.kept c.keep_place.ensures.ran.works c.in-Err.ensures.altered
    name (err_as c.in-Err.fault _ said)

pub push_entry-requires : goal.push_entry-requires
push_entry-requires g c =
    let fs = c.args.found.now in
    let i = c.loop-place.place-index in
    let f = c.place-item.result in
    places_fit g.L.Log.holds g.L.Log.stands g.L.Log.size g.L.Log.keeps_body g.L.Log.is_broken g.met.L.Log.holds_stands c.args.node.now c.loop-place.node c.keep_place.new.node (g.D.Disk.view c.args.disk.now) (g.D.Disk.view c.loop-place.disk) (g.D.Disk.view c.keep_place.new.disk) c.args.root.now (take i fs) (drop (i + 1) fs) f (g.F.Folder.view c.loop-place.folder) (g.F.Folder.view c.keep_place.new.folder) c.loop-place.skeleton c.in-Ok.entry c.args.room c.loop-place.left c.loop-place.invariant.so_far (subst AreFound (around fs i f f c.loop-place-test.true c.place-item.is) c.requires.found) c.in-Ok.ensures.kept

pub returns-in_err-push_entry-clause-stopped : goal.returns-in_err-push_entry-clause-stopped
returns-in_err-push_entry-clause-stopped g c =
    let fs = c.args.found.now in
    let i = c.loop-place.place-index in
    let f = c.place-item.result in
    let e = c.in-Ok.entry in
    let now = c.loop-place.skeleton ++ e ∷ [] in
    let v0 = g.D.Disk.view c.args.disk.now in
    let v2 = g.D.Disk.view c.keep_place.new.disk in
    let w2 = g.F.Folder.view c.keep_place.new.folder in
    let short : c.from_residual-in_err-push_entry.result ≡ Err backup_fault.Memory = search rules in
    if_err c.from_residual-in_err-push_entry.result backup_fault.Memory _ short
    (places_cut_at g.L.Log.holds g.L.Log.stands g.L.Log.size g.L.Log.keeps_body g.L.Log.is_broken g.met.L.Log.holds_stands c.args.node.now c.keep_place.new.node v0 v2 c.args.root.now fs (i + 1) w2 now c.args.room c.keep_place.new.room backup_fault.Memory tt
    (places_further g.L.Log.holds g.L.Log.stands g.L.Log.size g.L.Log.keeps_body g.L.Log.is_broken g.met.L.Log.holds_stands c.args.node.now c.loop-place.node c.keep_place.new.node v0 (g.D.Disk.view c.loop-place.disk) v2 c.args.root.now fs i f f (g.F.Folder.view c.loop-place.folder) w2 c.loop-place.skeleton now e c.args.room c.loop-place.left c.keep_place.new.room c.loop-place-test.true c.place-item.is c.loop-place.invariant.so_far c.keep_place.ensures.reads.content c.in-Ok.ensures.kept c.in-Ok.ensures.room refl))

pub returns-in_err-push_entry-clause-reads : goal.returns-in_err-push_entry-clause-reads
returns-in_err-push_entry-clause-reads g c =
    files_up_to c.args.root.now c.args.found.now (c.loop-place.place-index + 1) (g.F.Folder.view c.args.folder.now) (g.F.Folder.view c.keep_place.new.folder)
    (files_further c.args.root.now c.args.found.now c.loop-place.place-index c.place-item.result c.place-item.result (g.F.Folder.view c.args.folder.now) (g.F.Folder.view c.loop-place.folder) (g.F.Folder.view c.keep_place.new.folder) c.loop-place-test.true c.place-item.is c.loop-place.invariant.reads c.keep_place.ensures.reads)

pub loop-place-preserved : goal.loop-place-preserved
loop-place-preserved g c =
    let w2 = g.F.Folder.view c.keep_place.new.folder in
    let f = c.place-item.result in
    record {
      so_far = places_further g.L.Log.holds g.L.Log.stands g.L.Log.size g.L.Log.keeps_body g.L.Log.is_broken g.met.L.Log.holds_stands c.args.node.now c.loop-place.node c.keep_place.new.node (g.D.Disk.view c.args.disk.now) (g.D.Disk.view c.loop-place.disk) (g.D.Disk.view c.keep_place.new.disk) c.args.root.now c.args.found.now c.loop-place.place-index f f (g.F.Folder.view c.loop-place.folder) w2 c.loop-place.skeleton c.push_entry.new.skeleton c.in-Ok.entry c.args.room c.loop-place.left c.keep_place.new.room c.loop-place-test.true c.place-item.is
          c.loop-place.invariant.so_far c.keep_place.ensures.reads.content c.in-Ok.ensures.kept c.in-Ok.ensures.room c.in_ok-push_entry.ensures;
      up = c.in-Ok.ensures.kept.5.up refl;
      few = omega (arith, c.loop-place.invariant.few, c.in-Ok.ensures.room);
      reads = files_further c.args.root.now c.args.found.now c.loop-place.place-index c.place-item.result c.place-item.result (g.F.Folder.view c.args.folder.now) (g.F.Folder.view c.loop-place.folder) (g.F.Folder.view c.keep_place.new.folder) c.loop-place-test.true c.place-item.is c.loop-place.invariant.reads c.keep_place.ensures.reads;
      steady = search rules;
      same = search rules;
    }

pub returns-in-Err-clause-of_piece : goal.returns-in-Err-clause-of_piece
returns-in-Err-clause-of_piece g c = λ f is. c.in-Err.ensures.of_piece f (err_as c.in-Err.fault _ is)

pub returns-clause-fits : goal.returns-clause-fits
returns-clause-fits g c = let r = c.loop-place.invariant.so_far in room_kept c.loop-place.skeleton r.places c.loop-place.left c.args.room r.are r.left

pub returns-clause-reads : goal.returns-clause-reads
returns-clause-reads g c = files_up_to c.args.root.now c.args.found.now c.loop-place.place-index (g.F.Folder.view c.args.folder.now) (g.F.Folder.view c.loop-place.folder) c.loop-place.invariant.reads
