use Rattle.std.proofs.Common.{rules, ◌≡◌, IfOk, subst}
use Rattle.psb_station.specs.Span.{Tells_bytes}
use Rattle.psb_machine.specs.Machine.{Situation, Datagram, Tick, Keep, react}
use Rattle.node_core.specs.Inputs.{input_of}
use Rattle.node_core.specs.Reacting.{Reacts, ReactsSo}
use Rattle.node_core.specs.Unread.{IsUnread}
use Rattle.node_core.specs.Stored.{Knows, Stored}
use Rattle.node_history.proofs.Presence.{ok_map2}
use Rattle.node_core.proofs.Owned.{keep_so}
use Rattle.node_core.proofs.node.Node.react.Goals as goal

pub returns-in-Frame-clause-exact : goal.returns-in-Frame-clause-exact
returns-in-Frame-clause-exact g c =
    let here : Datagram c.in-Frame.datagram.now ≡ input_of c.args.input.now = search rules in
    subst (λ i. IfOk c.on_datagram.result (λ r. Tells_bytes (g.D.Disk.view c.on_datagram.new.disk) → (n : Situation) → Knows c.args.self.now n → Stored g.L.Log.holds c.args.self.now n.history (g.D.Disk.view c.args.disk.now) → Reacts r n (react n i)))
    here c.on_datagram.ensures.exact

pub returns-in-Tick-clause-exact : goal.returns-in-Tick-clause-exact
returns-in-Tick-clause-exact g c =
    let here : Tick c.in-Tick.peer ≡ input_of c.args.input.now = search rules in
    subst (λ i. IfOk c.on_tick.result (λ r. Tells_bytes (g.D.Disk.view c.on_tick.new.disk) → (n : Situation) → Knows c.args.self.now n → Stored g.L.Log.holds c.args.self.now n.history (g.D.Disk.view c.args.disk.now) → Reacts r n (react n i)))
    here c.on_tick.ensures.exact

pub returns-in-Keep-clause-exact : goal.returns-in-Keep-clause-exact
returns-in-Keep-clause-exact g c =
    let here : Keep c.reference.result.now.name c.body.result.now ≡ input_of c.args.input.now = search rules in
    subst (λ i. IfOk c.on_keep.result (λ r. Tells_bytes (g.D.Disk.view c.on_keep.new.disk) → (n : Situation) → Knows c.args.self.now n → Stored g.L.Log.holds c.args.self.now n.history (g.D.Disk.view c.args.disk.now) → Reacts r n (react n i)))
    here c.on_keep.ensures.exact

pub returns-in-Tick-clause-unread : goal.returns-in-Tick-clause-unread
returns-in-Tick-clause-unread g c =
    let here : Tick c.in-Tick.peer ≡ input_of c.args.input.now = search rules in
    subst (λ i. IfOk c.on_tick.result (λ r. (n : Situation) → Knows c.args.self.now n → IsUnread n i → Reacts r n (react n i))) here c.on_tick.ensures.unread

pub returns-in-Tick-clause-so : goal.returns-in-Tick-clause-so
returns-in-Tick-clause-so g c =
    let here : Tick c.in-Tick.peer ≡ input_of c.args.input.now = search rules in
    subst (λ i. IfOk c.on_tick.result (λ r. (n : Situation) → Knows c.args.self.now n → ReactsSo r n i)) here c.on_tick.ensures.so

pub returns-in-Keep-clause-so : goal.returns-in-Keep-clause-so
returns-in-Keep-clause-so g c =
    let here : Keep c.reference.result.now.name c.body.result.now ≡ input_of c.args.input.now = search rules in
    ok_map2 c.on_keep.result _ _ _ (λ r unheld dropped n k. subst (λ i. ReactsSo r n i) here (keep_so r n c.reference.result.now.name c.body.result.now dropped (λ free. unheld n k free)))
    c.on_keep.ensures.unheld c.on_keep.ensures.dropped
