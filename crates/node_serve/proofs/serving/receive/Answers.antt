use Rattle.std.proofs.Common.{◌≡◌, List, [], ℕ, take, Some, sym, ◌∙◌, ap, rules}
use Rattle.psb_station.specs.View.Heard.{Frame, Nothing, Fault}
use Rattle.psb_machine.specs.Machine.{Datagram}
use Rattle.node_core.proofs.Committing.{same_counted}
use Rattle.node_serve.specs.Turns.{Listened, turn_tally, fault_end}
use Rattle.node_serve.proofs.OneTurn.{fault_stops, written_back, received, idle, ready_walked, cut, received_fed, received_stopped}
use Rattle.node_serve.proofs.serving.receive.Goals as goal

pub returns-in-Err-clause-ran : goal.returns-in-Err-clause-ran
returns-in-Err-clause-ran g c =
    cut g.L.Log.holds g.L.Log.stands g.L.Log.is_broken g.met.L.Log.holds_stands c.args.node.now (g.S.Disk.view c.args.station.now) (g.S.Disk.view c.recv.new.self) _
    (received _ _ Fault c.recv.ensures.listens c.recv.ensures.kept c.in-Err.ensures.fault)

pub returns-in-Ok-None-clause-ran : goal.returns-in-Ok-None-clause-ran
returns-in-Ok-None-clause-ran g c =
    idle g.L.Log.holds g.L.Log.stands g.L.Log.is_broken g.met.L.Log.holds_stands c.args.node.now c.walk_claims.new.self (g.S.Disk.view c.args.station.now) (g.S.Disk.view c.recv.new.self) c.walk_claims.ensures.same
    (received _ _ Nothing c.recv.ensures.listens c.recv.ensures.kept (rw c.in-Ok-None.field-0-is at c.in-Ok-None.ensures.nothing))

pub returns-in-Ok-None-clause-ready : goal.returns-in-Ok-None-clause-ready
returns-in-Ok-None-clause-ready g c = ready_walked g.L.Log.holds c.args.node.now c.walk_claims.new.self (g.S.Disk.view c.args.station.now) (g.S.Disk.view c.recv.new.self) c.walk_claims.ensures.same c.recv.ensures.listens.rests c.requires.ready

pub returns-in-Ok-None-clause-counted : goal.returns-in-Ok-None-clause-counted
returns-in-Ok-None-clause-counted g c = same_counted g.L.Log.size g.L.Log.keeps_body c.args.node.now c.walk_claims.new.self c.walk_claims.ensures.same c.requires.counted

pub returns-in-Ok-clause-ran : goal.returns-in-Ok-clause-ran
returns-in-Ok-clause-ran g c =
    let x = take c.in-Ok-Some.count c.recv.new.into in
    let same : c.deref.result.now ≡ c.recv.new.into = written_back c.deref.result.now c.recv.new.into _ c.args.buffer.now.bytes.len (search rules) c.deref.ensures.value in
    let v0 = g.S.Disk.view c.args.station.now in
    let v1 = g.S.Disk.view c.recv.new.self in
    let v2 = g.S.Disk.view c.feed.new.station in
    let l : Listened v0 v1 [] (Frame x) = received v0 v1 (Frame x) c.recv.ensures.listens c.recv.ensures.kept (rw c.in-Ok-Some.field-0-is at c.in-Ok-Some.ensures.frame) in
    received_fed g.L.Log.holds g.L.Log.stands g.L.Log.is_broken g.met.L.Log.holds_stands c.args.node.now c.feed.new.node v0 v1 v2 x _ (Datagram _) (turn_tally c.in-Ok.turned)
    (ap (λ (l : List ℕ). Some (take c.in-Ok-Some.count l)) (sym same ∙ c.deref.ensures.value)) (ap (λ (m : List ℕ). Datagram (take c.in-Ok-Some.count m)) same) c.requires.whole l c.feed.ensures.only_sends c.feed.ensures.tells c.in-Ok.ensures.fed

pub returns-in-Err-feed-clause-ran : goal.returns-in-Err-feed-clause-ran
returns-in-Err-feed-clause-ran g c =
    let x = take c.in-Ok-Some.count c.recv.new.into in
    let same : c.deref.result.now ≡ c.recv.new.into = written_back c.deref.result.now c.recv.new.into _ c.args.buffer.now.bytes.len (search rules) c.deref.ensures.value in
    let v0 = g.S.Disk.view c.args.station.now in
    let v1 = g.S.Disk.view c.recv.new.self in
    let v2 = g.S.Disk.view c.feed.new.station in
    let l : Listened v0 v1 [] (Frame x) = received v0 v1 (Frame x) c.recv.ensures.listens c.recv.ensures.kept (rw c.in-Ok-Some.field-0-is at c.in-Ok-Some.ensures.frame) in
    received_stopped g.L.Log.holds g.L.Log.stands g.L.Log.is_broken g.met.L.Log.holds_stands c.args.node.now c.feed.new.node v0 v1 v2 x _ (Datagram _) _ (ap fault_end (search rules) ∙ fault_stops c.in-Err-feed.fault)
    (ap (λ (m : List ℕ). Datagram (take c.in-Ok-Some.count m)) same) c.requires.whole l c.feed.ensures.only_sends c.feed.ensures.tells c.in-Err-feed.ensures.fed
