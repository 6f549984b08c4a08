use Rattle.snapshots.proofs.SkeletonCounts.{files_fit, folders_fit, bytes_fit}
use Rattle.snapshots.proofs.counting.count.Goals as goal

pub add-requires-clause-files : goal.add-requires-clause-files
add-requires-clause-files c =
    files_fit c.args.skeleton.now c.entries-entry-items.result.now c.loop-entry.entry-index _ c.entry-item.result c.loop-entry.counts.files c.entries-entry-items.ensures.all c.entries-entry-items.ensures.skeleton c.requires.short c.entry-item.is c.loop-entry.invariant.files c.loop-entry-test.true

pub add-requires-clause-folders : goal.add-requires-clause-folders
add-requires-clause-folders c =
    folders_fit c.args.skeleton.now c.entries-entry-items.result.now c.loop-entry.entry-index _ c.entry-item.result c.loop-entry.counts.folders c.entries-entry-items.ensures.all c.entries-entry-items.ensures.skeleton c.requires.short c.entry-item.is c.loop-entry.invariant.folders c.loop-entry-test.true

pub add-requires-clause-bytes : goal.add-requires-clause-bytes
add-requires-clause-bytes c =
    bytes_fit c.args.skeleton.now c.entries-entry-items.result.now c.loop-entry.entry-index _ c.entry-item.result c.loop-entry.counts.bytes c.entries-entry-items.ensures.all c.entries-entry-items.ensures.skeleton c.requires.short c.entry-item.is c.loop-entry.invariant.bytes c.loop-entry-test.true
