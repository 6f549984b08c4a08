use Rattle.std.proofs.Common.{◌∙◌, ap}
use Rattle.skeleton.specs.declared.entry.Entry.{Entry}
use Rattle.snapshot_backup.specs.Naming.{has_name, count_of}
use Rattle.snapshot_backup.proofs.SkeletonNames.{names_next, count_next}
use Rattle.snapshot_backup.proofs.note.name_files.Goals as goal

pub loop-entry-preserved : goal.loop-entry-preserved
loop-entry-preserved c =
    let are = c.as_slice.ensures ∙ ap (λ (e : Entry). e.refs) c.entry-item.is in
    record {
      named = λ q. names_next c.args.entries.now c.loop-entry.entry-index _ c.as_slice.result.now q (has_name c.loop-entry.names q) (has_name c.add.new.self q) are c.loop-entry-test.true (c.loop-entry.invariant.named q) (c.in_ok-add.ensures.added q);
      count = count_next c.args.entries.now c.loop-entry.entry-index _ c.as_slice.result.now (count_of c.loop-entry.names) (count_of c.add.new.self) are c.loop-entry-test.true c.loop-entry.invariant.count c.in_ok-add.ensures.count;
    }
