use Rattle.std.proofs.Common.{true, false, Err, ap}
use Rattle.backup_cli.proofs.Ends.{why_unopened, quiet_since}
use Rattle.backup_cli.proofs.Forgettings.{unforgotten, forgets_from}
use Rattle.backup_cli.proofs.Opened.{held, is_node, known_as}
use Rattle.backup_cli.proofs.forgetting.forget_command.Goals as goal

pub returns-in-Err-clause-forgets : goal.returns-in-Err-clause-forgets
returns-in-Err-clause-forgets g c = λ tells h is.
    let v0 = g.S.Disk.view c.args.station.now in
    let why = why_unopened g.L.Log.stands h v0 c.in-Err.status c.in-Err.ensures.only (λ none. c.in-Err.ensures.not_node (ap Err none) tells) is in
    (false, unforgotten g.L.Log.stands h c.args.number v0 (g.S.Disk.view c.open_or_refuse.new.station) c.in-Err.status tells why c.in-Err.ensures.refused)

pub returns-in-Err-clause-unharmed : goal.returns-in-Err-clause-unharmed
returns-in-Err-clause-unharmed g c = λ none tells. c.in-Err.ensures.refused.images

pub returns-in-Err-clause-refuses : goal.returns-in-Err-clause-refuses
returns-in-Err-clause-refuses g c = λ none tells. c.in-Err.ensures.refused.refuses tells

pub returns-in-Err-clause-quiet : goal.returns-in-Err-clause-quiet
returns-in-Err-clause-quiet g c = c.in-Err.ensures.refused.kept

pub returns-clause-forgets : goal.returns-clause-forgets
returns-clause-forgets g c = λ tells h is.
    let v0 = g.S.Disk.view c.args.station.now in
    let v1 = g.S.Disk.view c.open_or_refuse.new.station in
    let known = known_as g.L.Log.holds g.L.Log.stands g.met.L.Log.holds_stands g.met.L.Log.stands_one c.in-Ok.node v0 v1 h c.in-Ok.ensures.keeps c.in-Ok.ensures.ok (c.forget_opened.ensures.tells tells) is in (
      true,
      forgets_from g.L.Log.stands h c.args.number v0 v1 (g.S.Disk.view c.forget_opened.new.station) c.forget_opened.result (λ i k left. g.met.S.Disk.only_now c.args.station.now i k left) c.in-Ok.ensures.keeps
          (c.forget_opened.ensures.forgets tells h known.0 known.1),
    )

pub returns-clause-unharmed : goal.returns-clause-unharmed
returns-clause-unharmed g c = λ none tells i k left.
    let node = is_node g.L.Log.holds g.L.Log.stands g.met.L.Log.holds_stands c.in-Ok.node (g.S.Disk.view c.args.station.now) (g.S.Disk.view c.open_or_refuse.new.station) c.in-Ok.ensures.keeps c.in-Ok.ensures.ok (c.forget_opened.ensures.tells tells) in
    absurd (none node.0 node.1)

pub returns-clause-refuses : goal.returns-clause-refuses
returns-clause-refuses g c = λ none tells.
    let node = is_node g.L.Log.holds g.L.Log.stands g.met.L.Log.holds_stands c.in-Ok.node (g.S.Disk.view c.args.station.now) (g.S.Disk.view c.open_or_refuse.new.station) c.in-Ok.ensures.keeps c.in-Ok.ensures.ok (c.forget_opened.ensures.tells tells) in
    absurd (none node.0 node.1)

pub returns-clause-opened : goal.returns-clause-opened
returns-clause-opened g c = λ is tells.
    held g.L.Log.holds g.L.Log.stands g.met.L.Log.holds_stands c.in-Ok.node (g.S.Disk.view c.args.station.now) (g.S.Disk.view c.open_or_refuse.new.station) c.in-Ok.ensures.keeps c.in-Ok.ensures.ok (c.forget_opened.ensures.tells tells)

pub returns-clause-quiet : goal.returns-clause-quiet
returns-clause-quiet g c = quiet_since (g.S.Disk.view c.args.station.now) (g.S.Disk.view c.open_or_refuse.new.station) (g.S.Disk.view c.forget_opened.new.station) c.in-Ok.ensures.keeps c.forget_opened.ensures.kept
