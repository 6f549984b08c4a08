use Rattle.std.proofs.Common.{◌<◌, Some, None, sym, subst, arith}
use Rattle.psb_station.specs.View.Heard.{Clock}
use Rattle.node_serve.specs.Buffers.{last_of}
use Rattle.node_serve.specs.Hears.{End, Stopped}
use Rattle.node_serve.specs.Spans.{MadeTurn}
use Rattle.node_serve.specs.Turns.{turn_tally}
use Rattle.node_serve.proofs.OneTurn.{clocked, ready_still, turn_early, turn_still, turn_ticked}
use Rattle.node_serve.proofs.serving.turn.Goals as goal

pub returns-in-Err-clause-ran : goal.returns-in-Err-clause-ran
returns-in-Err-clause-ran g c =
    turn_early g.L.Log.holds g.L.Log.stands g.L.Log.is_broken g.met.L.Log.holds_stands c.args.peers.now c.args.clock.now c.args.node.now c.receive.new.node (g.S.Disk.view c.args.station.now) (g.S.Disk.view c.receive.new.station) None _ _
    c.in-Err.ensures.early c.in-Err.ensures.ran

pub returns-then-time-clock-clause-ran : goal.returns-then-time-clock-clause-ran
returns-then-time-clock-clause-ran g c =
    let v1 = g.S.Disk.view c.receive.new.station in
    let v2 = g.S.Disk.view c.now-time.new.self in
    turn_still g.L.Log.holds g.L.Log.stands g.L.Log.is_broken g.met.L.Log.holds_stands c.args.peers.now c.args.clock.now c.args.node.now c.receive.new.node (g.S.Disk.view c.args.station.now) v1 v2 c.now-time.result (turn_tally c.in-Ok.turned) _
    c.in-Ok.ensures.whole c.if-time-clock.true c.in-Ok.ensures.ran (clocked v1 v2 (Clock c.now-time.result) c.now-time.ensures.listens c.now-time.ensures.kept c.now-time.ensures.heard)

pub returns-in-Err-tick_all-clause-ran : goal.returns-in-Err-tick_all-clause-ran
returns-in-Err-tick_all-clause-ran g c =
    let v0 = g.S.Disk.view c.args.station.now in
    let v1 = g.S.Disk.view c.receive.new.station in
    let v2 = g.S.Disk.view c.now-time.new.self in
    let v3 = g.S.Disk.view c.tick_all.new.station in
    let above : c.args.clock.now < c.now-time.result = omega (arith, c.if-time-clock.false) in
    subst (λ (e : End). MadeTurn g.L.Log.holds g.L.Log.stands g.L.Log.is_broken c.args.peers.now c.args.clock.now c.now-time.result c.args.node.now c.tick_all.new.node v0 v3 None e (last_of c.receive.new.buffer)) (sym c.in-Err-tick_all.ensures.stops)
    (turn_ticked g.L.Log.holds g.L.Log.stands g.L.Log.is_broken g.met.L.Log.holds_stands c.args.peers.now c.args.clock.now c.args.node.now c.receive.new.node c.tick_all.new.node v0 v1 v2 v3 c.now-time.result (Some (turn_tally c.in-Ok.turned)) None Stopped _ tt
    c.in-Ok.ensures.whole above c.in-Ok.ensures.ran (clocked v1 v2 (Clock c.now-time.result) c.now-time.ensures.listens c.now-time.ensures.kept c.now-time.ensures.heard) c.tick_all.ensures.only_sends c.tick_all.ensures.tells c.in-Err-tick_all.ensures.fed)

pub returns-clause-ran : goal.returns-clause-ran
returns-clause-ran g c =
    let v0 = g.S.Disk.view c.args.station.now in
    let v1 = g.S.Disk.view c.receive.new.station in
    let v2 = g.S.Disk.view c.now-time.new.self in
    let v3 = g.S.Disk.view c.tick_all.new.station in
    let above : c.args.clock.now < c.now-time.result = omega (arith, c.if-time-clock.false) in
    turn_ticked g.L.Log.holds g.L.Log.stands g.L.Log.is_broken g.met.L.Log.holds_stands c.args.peers.now c.args.clock.now c.args.node.now c.receive.new.node c.tick_all.new.node v0 v1 v2 v3 c.now-time.result (Some (turn_tally c.in-Ok.turned)) (Some (turn_tally c.in-Ok-tick_all.turned)) _ _ tt
    c.in-Ok.ensures.whole above c.in-Ok.ensures.ran (clocked v1 v2 (Clock c.now-time.result) c.now-time.ensures.listens c.now-time.ensures.kept c.now-time.ensures.heard) c.tick_all.ensures.only_sends c.tick_all.ensures.tells c.in-Ok-tick_all.ensures.fed

pub tick_all-requires-clause-ready : goal.tick_all-requires-clause-ready
tick_all-requires-clause-ready g c = ready_still g.L.Log.holds c.receive.new.node (g.S.Disk.view c.receive.new.station) (g.S.Disk.view c.now-time.new.self) c.now-time.ensures.listens.rests c.in-Ok.ensures.ready

pub returns-then-time-clock-clause-ready : goal.returns-then-time-clock-clause-ready
returns-then-time-clock-clause-ready g c = ready_still g.L.Log.holds c.receive.new.node (g.S.Disk.view c.receive.new.station) (g.S.Disk.view c.now-time.new.self) c.now-time.ensures.listens.rests c.in-Ok.ensures.ready
