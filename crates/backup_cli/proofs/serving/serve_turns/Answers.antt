use Rattle.std.proofs.Common.{◌≡◌, inl, inr, ⊎_elim, Some, Err, ap, subst, ◌∙◌}
use Rattle.psb_settings.specs.declared.settings.Settings.{Settings}
use Rattle.psb_model.specs.State.{State}
use Rattle.psb_model.specs.History.{state}
use Rattle.psb_model.specs.declared.change.Change.{Change}
use Rattle.std.proofs.Common.{List}
use Rattle.psb_machine.specs.Machine.{fresh}
use Rattle.psb_machine.specs.Commands.{peer_ids}
use Rattle.node_serve.specs.Hears.{is_fed}
use Rattle.node_serve.specs.Turns.{peers_in, IsEnd}
use Rattle.node_serve.specs.declared.serving.ServeFault.{ServeFault}
use Rattle.node_serve.specs.declared.serving.Total.{Total}
use Rattle.node_core.specs.declared.node.Node.{Node}
use Rattle.node_core.specs.Stored.{Knows}
use Rattle.said_lines.specs.declared.status.Status.TheVariants.{Done, DiskFault, LinkFault, Memory}
use Rattle.backup_cli.proofs.Outcomes.{ready_then, fares_turns, fares_joins}
use Rattle.backup_cli.proofs.serving.serve_turns.Goals as goal

own_peers : {L : Type 0} (node : Node L) (h : List Change) (settings : Settings) → Knows node (fresh h) → (state h).settings ≡ Some settings → peers_in node.ledger.state.settings ≡ peer_ids settings
own_peers node h settings k present = ap peers_in (ap (λ (s : State). s.settings) k.ledger ∙ present)

pub serve-requires-clause-ready : goal.serve-requires-clause-ready
serve-requires-clause-ready g c =
    ready_then g.L.Log.holds g.L.Log.stands g.L.Log.is_broken g.met.L.Log.holds_stands c.args.node.now (g.S.Disk.view c.args.station.now) (g.S.Disk.view c.join_all.new.station) c.requires.whole c.requires.ready (λ n settings k present. c.in-Ok.ensures.joined n settings k present)

pub returns-in-Err-clause-fares : goal.returns-in-Err-clause-fares
returns-in-Err-clause-fares g c = λ tells h settings k present st.
    fares_joins g.L.Log.holds g.L.Log.stands g.L.Log.is_broken g.met.L.Log.holds_stands c.args.node.now h settings (g.S.Disk.view c.args.station.now) (g.S.Disk.view c.join_all.new.station) c.args.turns c.requires.whole st tells (c.in-Err.ensures.joined (fresh h) settings k present)

pub returns-in-Ok-serve-clause-fares : goal.returns-in-Ok-serve-clause-fares
returns-in-Ok-serve-clause-fares g c = λ tells h settings k present st.
    let r = c.in-Ok-serve.ensures.ran in
    fares_turns g.L.Log.holds g.L.Log.stands g.L.Log.is_broken g.met.L.Log.holds_stands Done c.args.node.now c.serve.new.node h settings (g.S.Disk.view c.args.station.now) (g.S.Disk.view c.join_all.new.station) (g.S.Disk.view c.serve.new.station) c.args.turns _ r.0 r.2 _
    c.requires.whole r.1 (ap is_fed r.1) (own_peers c.args.node.now h settings k present) st tells (c.serve.ensures.tells tells) (c.in-Ok.ensures.joined (fresh h) settings k present) r.3

pub returns-in-Err-Node-clause-fares : goal.returns-in-Err-Node-clause-fares
returns-in-Err-Node-clause-fares g c = λ tells h settings k present st.
    let r = c.in-Err-Node.ensures.ran in
    let by = subst (λ (f : ServeFault). IsEnd {A = Total} (Err f) r.0) c.in-Err-Node.field-0-is r.1 in
    fares_turns g.L.Log.holds g.L.Log.stands g.L.Log.is_broken g.met.L.Log.holds_stands DiskFault c.args.node.now c.serve.new.node h settings (g.S.Disk.view c.args.station.now) (g.S.Disk.view c.join_all.new.station) (g.S.Disk.view c.serve.new.station) c.args.turns _ r.0 r.2 _
    c.requires.whole by (ap is_fed by) (own_peers c.args.node.now h settings k present) st tells (c.serve.ensures.tells tells) (c.in-Ok.ensures.joined (fresh h) settings k present) r.3

pub returns-in-Err-Link-clause-fares : goal.returns-in-Err-Link-clause-fares
returns-in-Err-Link-clause-fares g c = λ tells h settings k present st.
    let r = c.in-Err-Link.ensures.ran in
    let by = subst (λ (f : ServeFault). IsEnd {A = Total} (Err f) r.0) c.in-Err-Link.field-0-is r.1 in
    fares_turns g.L.Log.holds g.L.Log.stands g.L.Log.is_broken g.met.L.Log.holds_stands LinkFault c.args.node.now c.serve.new.node h settings (g.S.Disk.view c.args.station.now) (g.S.Disk.view c.join_all.new.station) (g.S.Disk.view c.serve.new.station) c.args.turns _ r.0 r.2 _
    c.requires.whole by (ap is_fed by) (own_peers c.args.node.now h settings k present) st tells (c.serve.ensures.tells tells) (c.in-Ok.ensures.joined (fresh h) settings k present) r.3

pub returns-clause-fares : goal.returns-clause-fares
returns-clause-fares g c = λ tells h settings k present st.
    let r = c.in-Err-Memory.ensures.ran in
    let by = subst (λ (f : ServeFault). IsEnd {A = Total} (Err f) r.0) c.in-Err-Memory.field-0-is r.1 in
    fares_turns g.L.Log.holds g.L.Log.stands g.L.Log.is_broken g.met.L.Log.holds_stands Memory c.args.node.now c.serve.new.node h settings (g.S.Disk.view c.args.station.now) (g.S.Disk.view c.join_all.new.station) (g.S.Disk.view c.serve.new.station) c.args.turns _ r.0 r.2 _
    c.requires.whole (⊎_elim (λ a. inl a) (λ b. inr (inl b)) by) tt (own_peers c.args.node.now h settings k present) st tells (c.serve.ensures.tells tells) (c.in-Ok.ensures.joined (fresh h) settings k present) r.3
