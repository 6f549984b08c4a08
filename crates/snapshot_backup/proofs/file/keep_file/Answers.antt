use Rattle.std.proofs.Common.{◌≡◌, ◌≤◌, ◌+◌, ◌-◌, ℕ, true, List, [], ◌∷◌, ◌++◌, length, rules, arith, refl, sym, ◌∙◌, ap, subst}
use Rattle.convergent_seal.specs.Sealing.{sealed_ref}
use Rattle.node_core.specs.declared.fault.Fault.TheVariants as fault
use Rattle.snapshots.proofs.ChunkReads.{reads_none, reads_then}
use Rattle.snapshot_backup.specs.Endings.{backup_fault_of, AllKept, StoppedFor}
use Rattle.snapshot_backup.specs.Files.{AreFirst}
use Rattle.snapshot_backup.specs.declared.fault.BackupFault.{BackupFault}
use Rattle.snapshot_backup.specs.declared.fault.BackupFault.TheVariants as backup_fault
use Rattle.snapshot_backup.specs.Runs.{KeepsSo}
use Rattle.snapshot_backup.proofs.Honest.{none_altered_then}
use Rattle.snapshot_backup.proofs.NodeFaults.{fails_as_node, fails_of_piece}
use Rattle.snapshot_backup.proofs.FileRuns.{GoesOn, KeepsFile, file_start, file_then, file_ended, file_stopped, file_too_large, file_failed}
use Rattle.snapshot_backup.proofs.file.keep_file.Goals as goal

pub loop-refs-init : goal.loop-refs-init
loop-refs-init g c = record {
  so_far = file_start g.L.Log.holds g.L.Log.stands g.L.Log.size g.L.Log.keeps_body g.L.Log.is_broken g.met.L.Log.holds_stands c.args.node.now (g.D.Disk.view c.args.disk.now) c.args.path.now (g.F.Folder.view c.args.folder.now) c.restart.new.self c.new-refs.result.items c.args.room.now c.requires.up c.restart.ensures.behind c.restart.ensures.goes_on c.new-refs.ensures.items;
  up = c.requires.up;
  near = omega (arith, c.restart.ensures.behind.at);
  reads = reads_none c.args.path.now (g.F.Folder.view c.args.folder.now);
  steady = refl;
  same = refl;
}

pub returns-in-Ok-false-clause-kept : goal.returns-in-Ok-false-clause-kept
returns-in-Ok-false-clause-kept g c =
    let w2 = g.F.Folder.view c.next.new.folder in
    let ended : c.next.new.self.ended ≡ true = search rules in
    let all = file_ended g.L.Log.holds g.L.Log.stands g.L.Log.size g.L.Log.keeps_body g.L.Log.is_broken g.met.L.Log.holds_stands c.args.node.now c.loop-refs.node (g.D.Disk.view c.args.disk.now) (g.D.Disk.view c.loop-refs.disk) c.args.path.now (g.F.Folder.view c.loop-refs.folder) w2 c.loop-refs.reader c.next.new.self c.loop-refs.refs.items c.args.room.now c.loop-refs.room
    c.loop-refs.invariant.so_far c.next.ensures.reads.content (subst (GoesOn c.args.path.now w2 c.loop-refs.reader c.next.new.self) c.in-Ok-false.field-0-test c.in-Ok-false.ensures.next) ended in
    (all.0, c.from_vec.ensures ∙ all.1, all.2, all.3)

pub returns-in-Ok-false-clause-reads : goal.returns-in-Ok-false-clause-reads
returns-in-Ok-false-clause-reads g c = reads_then c.args.path.now (g.F.Folder.view c.args.folder.now) (g.F.Folder.view c.loop-refs.folder) (g.F.Folder.view c.next.new.folder) c.loop-refs.invariant.reads c.next.ensures.reads

pub returns-in-Err-clause-stopped : goal.returns-in-Err-clause-stopped
returns-in-Err-clause-stopped g c =
    file_stopped g.L.Log.holds g.L.Log.stands g.L.Log.size g.L.Log.keeps_body g.L.Log.is_broken g.met.L.Log.holds_stands c.args.node.now c.loop-refs.node (g.D.Disk.view c.args.disk.now) (g.D.Disk.view c.loop-refs.disk) c.args.path.now (g.F.Folder.view c.loop-refs.folder) (g.F.Folder.view c.next.new.folder) c.loop-refs.reader c.loop-refs.refs.items c.args.room.now c.loop-refs.room backup_fault.Folder tt
    c.loop-refs.invariant.so_far c.next.ensures.reads.content

pub returns-in-Err-clause-reads : goal.returns-in-Err-clause-reads
returns-in-Err-clause-reads g c = reads_then c.args.path.now (g.F.Folder.view c.args.folder.now) (g.F.Folder.view c.loop-refs.folder) (g.F.Folder.view c.next.new.folder) c.loop-refs.invariant.reads c.next.ensures.reads

pub returns-then-room-eq0-clause-stopped : goal.returns-then-room-eq0-clause-stopped
returns-then-room-eq0-clause-stopped g c =
    file_stopped g.L.Log.holds g.L.Log.stands g.L.Log.size g.L.Log.keeps_body g.L.Log.is_broken g.met.L.Log.holds_stands c.args.node.now c.loop-refs.node (g.D.Disk.view c.args.disk.now) (g.D.Disk.view c.loop-refs.disk) c.args.path.now (g.F.Folder.view c.loop-refs.folder) (g.F.Folder.view c.next.new.folder) c.loop-refs.reader c.loop-refs.refs.items c.args.room.now c.loop-refs.room backup_fault.TooLarge tt
    c.loop-refs.invariant.so_far c.next.ensures.reads.content

pub returns-then-room-eq0-clause-too_large : goal.returns-then-room-eq0-clause-too_large
returns-then-room-eq0-clause-too_large g c = λ is.
    let w2 = g.F.Folder.view c.next.new.folder in
    let none : c.loop-refs.room ≡ 0 = search rules in
    file_too_large g.L.Log.holds g.L.Log.stands g.L.Log.size g.L.Log.keeps_body g.L.Log.is_broken g.met.L.Log.holds_stands c.args.node.now c.loop-refs.node (g.D.Disk.view c.args.disk.now) (g.D.Disk.view c.loop-refs.disk) c.args.path.now (g.F.Folder.view c.loop-refs.folder) w2 c.loop-refs.reader c.next.new.self c.loop-refs.refs.items c.args.room.now c.loop-refs.room
    c.loop-refs.invariant.so_far c.next.ensures.reads.content (subst (GoesOn c.args.path.now w2 c.loop-refs.reader c.next.new.self) c.in-Ok-true.field-0-test c.in-Ok-true.ensures.next) none

pub returns-then-room-eq0-clause-reads : goal.returns-then-room-eq0-clause-reads
returns-then-room-eq0-clause-reads g c = reads_then c.args.path.now (g.F.Folder.view c.args.folder.now) (g.F.Folder.view c.loop-refs.folder) (g.F.Folder.view c.next.new.folder) c.loop-refs.invariant.reads c.next.ensures.reads

pub loop-refs-preserved : goal.loop-refs-preserved
loop-refs-preserved g c =
    let w2 = g.F.Folder.view c.next.new.folder in
    let some : 1 ≤ c.loop-refs.room = search rules in
    let fewer : c.loop-refs.room ≡ c.loop-refs.room - 1 + 1 = omega (arith, some) in
    record {
      so_far =
          file_then g.L.Log.holds g.L.Log.stands g.L.Log.size g.L.Log.keeps_body g.L.Log.is_broken g.met.L.Log.holds_stands c.args.node.now c.loop-refs.node c.keep_piece.new.node (g.D.Disk.view c.args.disk.now) (g.D.Disk.view c.loop-refs.disk) (g.D.Disk.view c.keep_piece.new.disk) c.args.path.now (g.F.Folder.view c.loop-refs.folder) w2 c.loop-refs.reader c.next.new.self c.loop-refs.refs.items c.keep_piece.new.refs.items c.args.room.now (c.loop-refs.room - 1)
          (subst (λ (room : ℕ). KeepsFile g.L.Log.holds g.L.Log.stands g.L.Log.size g.L.Log.keeps_body g.L.Log.is_broken c.args.node.now c.loop-refs.node (g.D.Disk.view c.args.disk.now) (g.D.Disk.view c.loop-refs.disk) c.args.path.now (g.F.Folder.view c.loop-refs.folder) c.loop-refs.reader c.loop-refs.refs.items c.args.room.now room) fewer c.loop-refs.invariant.so_far)
          c.next.ensures.reads.content (subst (GoesOn c.args.path.now w2 c.loop-refs.reader c.next.new.self) c.in-Ok-true.field-0-test c.in-Ok-true.ensures.next)
          (subst (λ (l : List ℕ). KeepsSo g.L.Log.holds g.L.Log.stands g.L.Log.size g.L.Log.keeps_body g.L.Log.is_broken c.loop-refs.node c.keep_piece.new.node (g.D.Disk.view c.loop-refs.disk) (g.D.Disk.view c.keep_piece.new.disk) (l ∷ []) AllKept) c.chunk.ensures c.in-Ok.ensures.keeps)
          (c.in-Ok.ensures.refs ∙ ap (λ (l : List ℕ). c.loop-refs.refs.items ++ sealed_ref l ∷ []) c.chunk.ensures);
      up = c.in-Ok.ensures.keeps.up refl;
      near = omega (arith, some, c.loop-refs.invariant.near, c.next.ensures.near);
      reads = reads_then c.args.path.now (g.F.Folder.view c.args.folder.now) (g.F.Folder.view c.loop-refs.folder) w2 c.loop-refs.invariant.reads c.next.ensures.reads;
      steady = search rules;
      same = search rules;
    }

pub returns-in-Err-keep_piece-clause-stopped : goal.returns-in-Err-keep_piece-clause-stopped
returns-in-Err-keep_piece-clause-stopped g c =
    let w2 = g.F.Folder.view c.next.new.folder in
    let e = backup_fault_of c.in-Err-keep_piece.fault in
    let some : 1 ≤ c.loop-refs.room = search rules in
    subst (λ (x : BackupFault). (pieces : List (List ℕ)) × AreFirst w2.content c.args.path.now pieces × (length pieces ≤ c.args.room.now) × KeepsSo g.L.Log.holds g.L.Log.stands g.L.Log.size g.L.Log.keeps_body g.L.Log.is_broken c.args.node.now c.keep_piece.new.node (g.D.Disk.view c.args.disk.now) (g.D.Disk.view c.keep_piece.new.disk) pieces (StoppedFor x)) (sym c.from.ensures)
    (file_failed g.L.Log.holds g.L.Log.stands g.L.Log.size g.L.Log.keeps_body g.L.Log.is_broken g.met.L.Log.holds_stands c.args.node.now c.loop-refs.node c.keep_piece.new.node (g.D.Disk.view c.args.disk.now) (g.D.Disk.view c.loop-refs.disk) (g.D.Disk.view c.keep_piece.new.disk) c.args.path.now (g.F.Folder.view c.loop-refs.folder) w2 c.loop-refs.reader c.next.new.self c.loop-refs.refs.items c.args.room.now c.loop-refs.room e some
    c.loop-refs.invariant.so_far c.next.ensures.reads.content (subst (GoesOn c.args.path.now w2 c.loop-refs.reader c.next.new.self) c.in-Ok-true.field-0-test c.in-Ok-true.ensures.next)
    (subst (λ (l : List ℕ). KeepsSo g.L.Log.holds g.L.Log.stands g.L.Log.size g.L.Log.keeps_body g.L.Log.is_broken c.loop-refs.node c.keep_piece.new.node (g.D.Disk.view c.loop-refs.disk) (g.D.Disk.view c.keep_piece.new.disk) (l ∷ []) (StoppedFor e)) c.chunk.ensures c.in-Err-keep_piece.ensures.keeps))

pub returns-in-Err-keep_piece-clause-reads : goal.returns-in-Err-keep_piece-clause-reads
returns-in-Err-keep_piece-clause-reads g c = reads_then c.args.path.now (g.F.Folder.view c.args.folder.now) (g.F.Folder.view c.loop-refs.folder) (g.F.Folder.view c.next.new.folder) c.loop-refs.invariant.reads c.next.ensures.reads

pub returns-in-Err-keep_piece-clause-altered : goal.returns-in-Err-keep_piece-clause-altered
returns-in-Err-keep_piece-clause-altered g c = λ name said.
    let so_far = c.loop-refs.invariant.so_far in
    none_altered_then g.L.Log.holds g.L.Log.stands g.L.Log.size g.L.Log.keeps_body g.L.Log.is_broken g.met.L.Log.holds_stands c.args.node.now c.loop-refs.node c.keep_piece.new.node (g.D.Disk.view c.args.disk.now) (g.D.Disk.view c.loop-refs.disk) (g.D.Disk.view c.keep_piece.new.disk) so_far.chunks _ so_far.kept c.keep_piece.ensures.ran.works c.in-Err-keep_piece.ensures.altered
    name (fails_as_node c.in-Err-keep_piece.fault (fault.Altered name) c.from.result c.from.ensures said)

pub returns-in-Err-keep_piece-clause-of_piece : goal.returns-in-Err-keep_piece-clause-of_piece
returns-in-Err-keep_piece-clause-of_piece g c = fails_of_piece c.in-Err-keep_piece.fault c.from.result c.from.ensures c.in-Err-keep_piece.ensures.only
