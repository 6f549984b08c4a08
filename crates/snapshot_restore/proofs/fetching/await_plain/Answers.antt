use Rattle.std.proofs.Common.{rules, ◌≡◌, ◌+◌, ◌<◌, refl, sym, subst, arith}
use Rattle.snapshot_restore.specs.Fetching.{MakesRound}
use Rattle.snapshot_restore.proofs.Awaiting.{Listens, listens_none, listens_on, listens_other, awaited, awaiting_stopped, awaited_nothing, awaited_others}
use Rattle.snapshot_restore.proofs.fetching.await_plain.Goals.{in-Nothing, in-Other}
use Rattle.snapshot_restore.proofs.fetching.await_plain.Goals as goal

pub loop-made-init : goal.loop-made-init
loop-made-init g c = record {
  so_far = listens_none g.L.Log.holds g.L.Log.stands g.L.Log.is_broken g.met.L.Log.holds_stands c.args.waiting.now c.args.node.now (g.S.Disk.view c.args.station.now) c.args.reference.now c.requires.up.whole;
  up = c.requires.up;
  faults = record { disk = refl; link = refl; said = refl };
  within = omega arith;
  end = refl;
}

pub returns-in-Err-clause-stopped : goal.returns-in-Err-clause-stopped
returns-in-Err-clause-stopped g c =
    let soon : c.loop-made.made < c.args.waiting.now.turns = search rules in
    awaiting_stopped g.L.Log.holds g.L.Log.stands g.L.Log.is_broken g.met.L.Log.holds_stands c.args.waiting.now c.loop-made.waiting c.make_round.new.waiting c.args.node.now c.loop-made.node c.make_round.new.node (g.S.Disk.view c.args.station.now) (g.S.Disk.view c.loop-made.station) (g.S.Disk.view c.make_round.new.station) c.args.reference.now c.loop-made.made c.loop-made.last c.in-Err.fault
    soon c.in-Err.ensures.only c.loop-made.invariant.so_far c.in-Err.ensures.stopped

pub returns-in-Plain-clause-came : goal.returns-in-Plain-clause-came
returns-in-Plain-clause-came g c =
    let soon : c.loop-made.made < c.args.waiting.now.turns = search rules in
    awaited g.L.Log.holds g.L.Log.stands g.L.Log.is_broken g.met.L.Log.holds_stands c.args.waiting.now c.loop-made.waiting c.make_round.new.waiting c.args.node.now c.loop-made.node c.make_round.new.node (g.S.Disk.view c.args.station.now) (g.S.Disk.view c.loop-made.station) (g.S.Disk.view c.make_round.new.station) c.args.reference.now c.loop-made.made c.loop-made.last c.in-Plain.plain
    soon c.loop-made.invariant.so_far
    (subst (λ came. MakesRound g.L.Log.holds g.L.Log.stands g.L.Log.is_broken c.loop-made.waiting c.make_round.new.waiting c.loop-made.node c.make_round.new.node (g.S.Disk.view c.loop-made.station) (g.S.Disk.view c.make_round.new.station) c.args.reference.now c.loop-made.made came) c.in-Plain.is c.in-Ok.ensures.made)

pub loop-made-preserved : goal.loop-made-preserved
loop-made-preserved g c = record {
  so_far =
      let Next = Listens g.L.Log.holds g.L.Log.stands g.L.Log.is_broken c.args.waiting.now c.make_round.new.waiting c.args.node.now c.make_round.new.node (g.S.Disk.view c.args.station.now) (g.S.Disk.view c.make_round.new.station) c.args.reference.now (c.loop-made.made + 1) in
      let Made = MakesRound g.L.Log.holds g.L.Log.stands g.L.Log.is_broken c.loop-made.waiting c.make_round.new.waiting c.loop-made.node c.make_round.new.node (g.S.Disk.view c.loop-made.station) (g.S.Disk.view c.make_round.new.station) c.args.reference.now c.loop-made.made in
      elim c.match-came.branch [
        | in-Nothing w ↦ subst Next (sym w.last-is)
            (listens_on g.L.Log.holds g.L.Log.stands g.L.Log.is_broken g.met.L.Log.holds_stands c.args.waiting.now c.loop-made.waiting c.make_round.new.waiting c.args.node.now c.loop-made.node c.make_round.new.node (g.S.Disk.view c.args.station.now) (g.S.Disk.view c.loop-made.station) (g.S.Disk.view c.make_round.new.station) c.args.reference.now c.loop-made.made c.loop-made.last
            c.in-Ok.ensures.up.whole c.loop-made.invariant.so_far (subst Made w.in-Nothing.is c.in-Ok.ensures.made))
        | in-Other w ↦ subst Next (sym w.last-is)
            (listens_other g.L.Log.holds g.L.Log.stands g.L.Log.is_broken g.met.L.Log.holds_stands c.args.waiting.now c.loop-made.waiting c.make_round.new.waiting c.args.node.now c.loop-made.node c.make_round.new.node (g.S.Disk.view c.args.station.now) (g.S.Disk.view c.loop-made.station) (g.S.Disk.view c.make_round.new.station) c.args.reference.now c.loop-made.made c.loop-made.last w.in-Other.body
            c.in-Ok.ensures.up.whole c.loop-made.invariant.so_far (subst Made w.in-Other.is c.in-Ok.ensures.made))
      ];
  up = c.in-Ok.ensures.up;
  faults = search rules;
  within = search rules;
  end = refl;
}

pub returns-in-None-clause-stopped : goal.returns-in-None-clause-stopped
returns-in-None-clause-stopped g c =
    let all : c.loop-made.made ≡ c.args.waiting.now.turns = search rules in
    awaited_nothing g.L.Log.holds g.L.Log.stands g.L.Log.is_broken g.met.L.Log.holds_stands c.args.waiting.now c.loop-made.waiting c.args.node.now c.loop-made.node (g.S.Disk.view c.args.station.now) (g.S.Disk.view c.loop-made.station) c.args.reference.now c.loop-made.made all
    (subst (Listens g.L.Log.holds g.L.Log.stands g.L.Log.is_broken c.args.waiting.now c.loop-made.waiting c.args.node.now c.loop-made.node (g.S.Disk.view c.args.station.now) (g.S.Disk.view c.loop-made.station) c.args.reference.now c.loop-made.made) c.in-None.is c.loop-made.invariant.so_far)

pub returns-in-Some-clause-stopped : goal.returns-in-Some-clause-stopped
returns-in-Some-clause-stopped g c =
    let all : c.loop-made.made ≡ c.args.waiting.now.turns = search rules in
    awaited_others g.L.Log.holds g.L.Log.stands g.L.Log.is_broken g.met.L.Log.holds_stands c.args.waiting.now c.loop-made.waiting c.args.node.now c.loop-made.node (g.S.Disk.view c.args.station.now) (g.S.Disk.view c.loop-made.station) c.args.reference.now c.loop-made.made c.in-Some.got all
    (subst (Listens g.L.Log.holds g.L.Log.stands g.L.Log.is_broken c.args.waiting.now c.loop-made.waiting c.args.node.now c.loop-made.node (g.S.Disk.view c.args.station.now) (g.S.Disk.view c.loop-made.station) c.args.reference.now c.loop-made.made) c.in-Some.is c.loop-made.invariant.so_far)
