use Rattle.std.proofs.Common.{inr, ⊎_elim, true, false, Err, ◌∙◌, ap, rules}
use Rattle.backup_cli.proofs.Backups.{no_calls, unbacked, backs_from, comes_to_end}
use Rattle.backup_cli.proofs.Ends.{why_unopened}
use Rattle.backup_cli.proofs.Opened.{held, is_node, known_as}
use Rattle.backup_cli.proofs.backing_up.backup_command.Goals as goal

-- ---- the node was not opened

pub returns-in-Err-clause-backs_up : goal.returns-in-Err-clause-backs_up
returns-in-Err-clause-backs_up g c = λ tells h is.
    let v0 = g.S.Disk.view c.args.station.now in
    let why = why_unopened g.L.Log.stands h v0 c.in-Err.status c.in-Err.ensures.only (λ none. c.in-Err.ensures.not_node (ap Err none) tells) is in
    (false, unbacked g.L.Log.stands h c.args.path.now v0 (g.S.Disk.view c.open_or_refuse.new.station) (g.F.Folder.view c.args.folder.now) c.in-Err.status tells why c.in-Err.ensures.refused)

pub returns-in-Err-clause-calls : goal.returns-in-Err-clause-calls
returns-in-Err-clause-calls g c = no_calls c.args.path.now (g.F.Folder.view c.args.folder.now)

-- ---- it was opened

pub returns-clause-backs_up : goal.returns-clause-backs_up
returns-clause-backs_up g c = λ tells h is.
    let v0 = g.S.Disk.view c.args.station.now in
    let v1 = g.S.Disk.view c.open_or_refuse.new.station in
    let known = known_as g.L.Log.holds g.L.Log.stands g.met.L.Log.holds_stands g.met.L.Log.stands_one c.in-Ok.node v0 v1 h c.in-Ok.ensures.keeps c.in-Ok.ensures.ok (c.backup_opened.ensures.tells tells) is in (
      true,
      backs_from g.L.Log.stands h c.args.path.now v0 v1 (g.S.Disk.view c.backup_opened.new.station) (g.F.Folder.view c.backup_opened.new.folder) c.backup_opened.result (λ i k left. g.met.S.Disk.only_now c.args.station.now i k left) c.in-Ok.ensures.keeps
          (c.backup_opened.ensures.backs_up tells h known.0 known.1),
    )

pub returns-clause-opened : goal.returns-clause-opened
returns-clause-opened g c = λ is tells.
    held g.L.Log.holds g.L.Log.stands g.met.L.Log.holds_stands c.in-Ok.node (g.S.Disk.view c.args.station.now) (g.S.Disk.view c.open_or_refuse.new.station) c.in-Ok.ensures.keeps c.in-Ok.ensures.ok (c.backup_opened.ensures.tells tells)

pub returns-clause-unharmed : goal.returns-clause-unharmed
returns-clause-unharmed g c = λ none tells i k left.
    let node = is_node g.L.Log.holds g.L.Log.stands g.met.L.Log.holds_stands c.in-Ok.node (g.S.Disk.view c.args.station.now) (g.S.Disk.view c.open_or_refuse.new.station) c.in-Ok.ensures.keeps c.in-Ok.ensures.ok (c.backup_opened.ensures.tells tells) in
    absurd (none node.0 node.1)

pub returns-clause-refuses : goal.returns-clause-refuses
returns-clause-refuses g c = λ none tells.
    let node = is_node g.L.Log.holds g.L.Log.stands g.met.L.Log.holds_stands c.in-Ok.node (g.S.Disk.view c.args.station.now) (g.S.Disk.view c.open_or_refuse.new.station) c.in-Ok.ensures.keeps c.in-Ok.ensures.ok (c.backup_opened.ensures.tells tells) in
    absurd (none node.0 node.1)

pub returns-clause-untouched : goal.returns-clause-untouched
returns-clause-untouched g c = λ none tells.
    let node = is_node g.L.Log.holds g.L.Log.stands g.met.L.Log.holds_stands c.in-Ok.node (g.S.Disk.view c.args.station.now) (g.S.Disk.view c.open_or_refuse.new.station) c.in-Ok.ensures.keeps c.in-Ok.ensures.ok (c.backup_opened.ensures.tells tells) in
    absurd (none node.0 node.1)

pub returns-clause-idle : goal.returns-clause-idle
returns-clause-idle g c = λ tells h is most.
    let v0 = g.S.Disk.view c.args.station.now in
    let v1 = g.S.Disk.view c.open_or_refuse.new.station in
    let known = known_as g.L.Log.holds g.L.Log.stands g.met.L.Log.holds_stands g.met.L.Log.stands_one c.in-Ok.node v0 v1 h c.in-Ok.ensures.keeps c.in-Ok.ensures.ok (c.backup_opened.ensures.tells tells) is in
    c.backup_opened.ensures.idle h known.0 most

-- ---- when it comes to its end

pub returns-in-Err-clause-complete : goal.returns-in-Err-clause-complete
returns-in-Err-clause-complete g c = λ tells told h is content places before can room none disk folder say.
    let v0 = g.S.Disk.view c.args.station.now in
    let why = why_unopened g.L.Log.stands h v0 c.in-Err.status c.in-Err.ensures.only (λ no_. c.in-Err.ensures.not_node (ap Err no_) tells) is in
    ⊎_elim (λ e. absurd (disk (c.in-Err.ensures.disk_cause (ap Err e)))) (λ e. inr e) why

pub returns-clause-complete : goal.returns-clause-complete
returns-clause-complete g c = λ tells told h is content places before can room none disk folder say.
    let v0 = g.S.Disk.view c.args.station.now in
    let v1 = g.S.Disk.view c.open_or_refuse.new.station in
    let v3 = g.S.Disk.view c.backup_opened.new.station in
    let w3 = g.F.Folder.view c.backup_opened.new.folder in
    let known = known_as g.L.Log.holds g.L.Log.stands g.met.L.Log.holds_stands g.met.L.Log.stands_one c.in-Ok.node v0 v1 h c.in-Ok.ensures.keeps c.in-Ok.ensures.ok (c.backup_opened.ensures.tells tells) is in
    let backs = backs_from g.L.Log.stands h c.args.path.now v0 v1 v3 w3 c.backup_opened.result (λ i k left. g.met.S.Disk.only_now c.args.station.now i k left) c.in-Ok.ensures.keeps
    (c.backup_opened.ensures.backs_up tells h known.0 known.1) in
    comes_to_end g.L.Log.stands h c.args.path.now v0 v3 w3 c.backup_opened.result content places (true, backs) (c.backup_opened.ensures.content told ∙ before) can room none
    (λ e. disk (search rules)) (λ e. folder (c.backup_opened.ensures.folder_cause e)) (λ e. say (search rules))
