use Rattle.backup_cli.proofs.Supplied.{supplied_by}
use Rattle.backup_cli.proofs.restoring.bodies_supply.Goals as goal

pub returns : goal.returns
returns g c = λ h settings t turns b. supplied_by h settings t turns (g.S.Disk.view c.args.old.now) (g.S.Disk.view c.args.new.now) b
