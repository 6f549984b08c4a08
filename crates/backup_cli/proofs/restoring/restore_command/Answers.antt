use Rattle.std.proofs.Common.{true, false, Err, ap}
use Rattle.backup_cli.proofs.Ends.{why_unopened}
use Rattle.backup_cli.proofs.Opened.{held, is_node, known_as}
use Rattle.backup_cli.proofs.Restorings.{unrestored, restores_from}
use Rattle.backup_cli.proofs.restoring.restore_command.Goals as goal

-- ---- the node was not opened

pub returns-in-Err-clause-restores : goal.returns-in-Err-clause-restores
returns-in-Err-clause-restores g c = λ tells h settings is present.
    let v0 = g.S.Disk.view c.args.station.now in
    let why = why_unopened g.L.Log.stands h v0 c.in-Err.status c.in-Err.ensures.only (λ none. c.in-Err.ensures.not_node (ap Err none) tells) is in
    (false, unrestored g.L.Log.stands h settings c.args.which.now c.args.path.now c.args.turns v0 (g.S.Disk.view c.open_or_refuse.new.station) (g.F.Folder.view c.args.folder.now) c.in-Err.status tells why c.in-Err.ensures.refused)

-- ---- it was opened

pub returns-clause-restores : goal.returns-clause-restores
returns-clause-restores g c = λ tells h settings is present.
    let v0 = g.S.Disk.view c.args.station.now in
    let v1 = g.S.Disk.view c.open_or_refuse.new.station in
    let known = known_as g.L.Log.holds g.L.Log.stands g.met.L.Log.holds_stands g.met.L.Log.stands_one c.in-Ok.node v0 v1 h c.in-Ok.ensures.keeps c.in-Ok.ensures.ok (c.restore_opened.ensures.tells tells) is in (
      true,
      restores_from g.L.Log.stands h settings c.args.which.now c.args.path.now c.args.turns v0 v1 (g.S.Disk.view c.restore_opened.new.station) (g.F.Folder.view c.args.folder.now) (g.F.Folder.view c.restore_opened.new.folder) c.restore_opened.result (λ i k left. g.met.S.Disk.only_now c.args.station.now i k left) c.in-Ok.ensures.keeps
          (c.restore_opened.ensures.restores tells h settings known.0 present known.1),
    )

pub returns-clause-opened : goal.returns-clause-opened
returns-clause-opened g c = λ not_node not_disk not_memory tells.
    held g.L.Log.holds g.L.Log.stands g.met.L.Log.holds_stands c.in-Ok.node (g.S.Disk.view c.args.station.now) (g.S.Disk.view c.open_or_refuse.new.station) c.in-Ok.ensures.keeps c.in-Ok.ensures.ok (c.restore_opened.ensures.tells tells)

pub returns-clause-unharmed : goal.returns-clause-unharmed
returns-clause-unharmed g c = λ none tells i k left.
    let node = is_node g.L.Log.holds g.L.Log.stands g.met.L.Log.holds_stands c.in-Ok.node (g.S.Disk.view c.args.station.now) (g.S.Disk.view c.open_or_refuse.new.station) c.in-Ok.ensures.keeps c.in-Ok.ensures.ok (c.restore_opened.ensures.tells tells) in
    absurd (none node.0 node.1)

pub returns-clause-refuses : goal.returns-clause-refuses
returns-clause-refuses g c = λ none tells.
    let node = is_node g.L.Log.holds g.L.Log.stands g.met.L.Log.holds_stands c.in-Ok.node (g.S.Disk.view c.args.station.now) (g.S.Disk.view c.open_or_refuse.new.station) c.in-Ok.ensures.keeps c.in-Ok.ensures.ok (c.restore_opened.ensures.tells tells) in
    absurd (none node.0 node.1)

pub returns-clause-untouched : goal.returns-clause-untouched
returns-clause-untouched g c = λ none tells.
    let node = is_node g.L.Log.holds g.L.Log.stands g.met.L.Log.holds_stands c.in-Ok.node (g.S.Disk.view c.args.station.now) (g.S.Disk.view c.open_or_refuse.new.station) c.in-Ok.ensures.keeps c.in-Ok.ensures.ok (c.restore_opened.ensures.tells tells) in
    absurd (none node.0 node.1)
