use Rattle.psb_station.proofs.Spans.{at_some}
use Rattle.snapshots.proofs.Written.{added, part_added}
use Rattle.snapshots.proofs.writing.add_piece.Goals as goal

pub returns-in-Ok-clause-added : goal.returns-in-Ok-clause-added
returns-in-Ok-clause-added g c =
    let old = g.F.Folder.view c.args.folder.now in
    let new = g.F.Folder.view c.append.new.self in
    added old new c.args.at.now c.args.piece.now c.append.ensures.tries.tells c.append.ensures.tries.no_fall
    (λ content was told. at_some old.content _ content (c.in-Ok.ensures.added told) was)

pub returns-in-Err-clause-part : goal.returns-in-Err-clause-part
returns-in-Err-clause-part g c = λ told.
    let old = g.F.Folder.view c.args.folder.now in
    let new = g.F.Folder.view c.append.new.self in
    part_added old new c.args.at.now c.args.piece.now c.append.ensures.tries.tells c.append.ensures.tries.no_fall told (c.in-Err.ensures.refused told)
