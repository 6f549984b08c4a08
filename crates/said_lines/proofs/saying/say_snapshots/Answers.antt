use Rattle.std.proofs.Common.{◌≡◌, Err, refl, length, ap, sym, ◌∙◌, arith}
use Rattle.said_lines.specs.Lines.{snapshot_line}
use Rattle.said_lines.proofs.LinesSaid.{item_said, failed_line, all_said}
use Rattle.said_lines.proofs.Utterances.{utters_none, only_said, either_says}
use Rattle.said_lines.proofs.saying.say_snapshots.Goals as goal

pub loop-snapshot-init : goal.loop-snapshot-init
loop-snapshot-init g c = record { said = utters_none (g.S.Disk.view c.args.station.now); steady = refl }

pub loop-snapshot-preserved : goal.loop-snapshot-preserved
loop-snapshot-preserved g c = record {
  said = item_said snapshot_line c.args.kept.now (g.S.Disk.view c.args.station.now) (g.S.Disk.view c.loop-snapshot.station) (g.S.Disk.view c.say_snapshot.new.station) c.loop-snapshot.snapshot-index c.snapshot-item.result
      c.loop-snapshot-test.true (sym c.snapshot-item.is) c.loop-snapshot.invariant.said c.in-Ok.ensures.ok;
  steady = c.in-Ok.ensures.steady ∙ c.loop-snapshot.invariant.steady;
}

pub returns-in-Err-clause-says : goal.returns-in-Err-clause-says
returns-in-Err-clause-says g c =
    failed_line snapshot_line c.args.kept.now (g.S.Disk.view c.args.station.now) (g.S.Disk.view c.loop-snapshot.station) (g.S.Disk.view c.say_snapshot.new.station) c.loop-snapshot.snapshot-index c.in-Err.error (omega (arith, c.loop-snapshot-test.true)) c.loop-snapshot.invariant.said
    (λ is. c.in-Err.ensures.say (ap Err is)) (λ is i. g.S.Disk.view (c.in-Err.ensures.memory (ap Err is) i))

pub returns-clause-says : goal.returns-clause-says
returns-clause-says g c =
    let all : c.loop-snapshot.snapshot-index ≡ length c.args.kept.now = omega (arith, c.loop-snapshot-test.false, c.loop-snapshot.auto.snapshot-index-end) in
    all_said snapshot_line c.args.kept.now (g.S.Disk.view c.args.station.now) (g.S.Disk.view c.loop-snapshot.station) c.loop-snapshot.snapshot-index all c.loop-snapshot.invariant.said

pub returns-in-Err-clause-only_says : goal.returns-in-Err-clause-only_says
returns-in-Err-clause-only_says g c =
    either_says _ (g.S.Disk.view c.loop-snapshot.station) (g.S.Disk.view c.say_snapshot.new.station) c.in-Err.error (only_said _ _ _ _ c.loop-snapshot.invariant.said) (λ is. (c.in-Err.ensures.say (ap Err is)).0) (λ is i. g.S.Disk.view (c.in-Err.ensures.memory (ap Err is) i))

pub returns-clause-only_says : goal.returns-clause-only_says
returns-clause-only_says g c = only_said _ _ _ _ c.loop-snapshot.invariant.said
