use Rattle.std.proofs.Common.{◌+◌, ◌-◌, length}
use Rattle.rolling_chunks.specs.Cuts.{longest}
use Rattle.snapshots.specs.Gathering.{begun}
use Rattle.snapshots.proofs.ChunkReads.{SoFar}
use Rattle.snapshots.proofs.reading.ChunkReader.next.Given as goal

abbrev pub invariant-loop-self : goal.invariant-loop-self
invariant-loop-self g l = SoFar l.path (g.F.Folder.view l.fn.folder) (g.F.Folder.view l.folder) l.fn.self l.self

abbrev pub decreases-loop-self : goal.decreases-loop-self
decreases-loop-self g l = length (begun l.fn.self.chunk) + longest + 1 - length (begun l.self.chunk)
