use Rattle.psb_machine.specs.Machine.{fresh}
use Rattle.backup_cli.proofs.Outcomes.{ready_then}
use Rattle.backup_cli.proofs.Restorings.{fares_restored, fares_short, fares_unjoined}
use Rattle.backup_cli.proofs.restoring.restore_joined.Goals as goal

pub restore-requires : goal.restore-requires
restore-requires g c = record {
  up = record {
    ready = ready_then g.L.Log.holds g.L.Log.stands g.L.Log.is_broken g.met.L.Log.holds_stands c.args.node.now (g.S.Disk.view c.args.station.now) (g.S.Disk.view c.join_all.new.station) c.requires.up.whole c.requires.up.ready (λ n settings k present. c.in-Ok.ensures.joined n settings k present);
    whole = c.requires.up.whole;
    counted = c.requires.up.counted;
  };
}

pub returns-in-Err-clause-fares : goal.returns-in-Err-clause-fares
returns-in-Err-clause-fares g c = λ tells h settings k present st.
    fares_unjoined g.L.Log.holds g.L.Log.stands g.L.Log.is_broken g.met.L.Log.holds_stands c.args.node.now h settings (g.S.Disk.view c.args.station.now) (g.S.Disk.view c.join_all.new.station) c.args.ticket.now c.args.path.now c.args.turns (g.F.Folder.view c.args.folder.now) c.requires.up.whole st tells (c.in-Err.ensures.joined (fresh h) settings k present)

pub returns-in-Ok-restore-clause-fares : goal.returns-in-Ok-restore-clause-fares
returns-in-Ok-restore-clause-fares g c = λ tells h settings k present st.
    fares_restored g.L.Log.holds g.L.Log.stands g.L.Log.is_broken g.met.L.Log.holds_stands c.args.node.now c.restore.new.node h settings (g.S.Disk.view c.args.station.now) (g.S.Disk.view c.join_all.new.station) (g.S.Disk.view c.restore.new.station) c.args.ticket.now c.args.path.now c.args.turns (g.F.Folder.view c.args.folder.now) (g.F.Folder.view c.restore.new.folder) c.in-Ok-restore.restored
    c.requires.up.whole k present st tells (c.in-Ok.ensures.joined (fresh h) settings k present) c.in-Ok-restore.ensures.restored

pub returns-in-Err-restore-clause-fares : goal.returns-in-Err-restore-clause-fares
returns-in-Err-restore-clause-fares g c = λ tells h settings k present st.
    fares_short g.L.Log.holds g.L.Log.stands g.L.Log.is_broken g.met.L.Log.holds_stands c.args.node.now c.restore.new.node h settings (g.S.Disk.view c.args.station.now) (g.S.Disk.view c.join_all.new.station) (g.S.Disk.view c.restore.new.station) c.args.ticket.now c.args.path.now c.args.turns (g.F.Folder.view c.args.folder.now) (g.F.Folder.view c.restore.new.folder) c.in-Err-restore.fault c.status_of.result
    c.status_of.ensures c.requires.up.whole k present st tells (c.in-Ok.ensures.joined (fresh h) settings k present) c.in-Err-restore.ensures.stopped
