use Rattle.std.proofs.Common.{◌≡◌, List, ℕ, Err, map, refl, length, ap, sym, subst, ◌∙◌, arith}
use Rattle.psb_station.proofs.Spans.{same_some}
use Rattle.psb_settings.specs.declared.settings.PeerRow.{PeerRow}
use Rattle.psb_settings.specs.declared.settings.Settings.{Settings}
use Rattle.said_lines.specs.Lines.{joined_lines}
use Rattle.said_lines.specs.Says.{Utters, SaysLines, line_of_row}
use Rattle.said_lines.proofs.LinesSaid.{item_said, failed_line, all_said}
use Rattle.said_lines.proofs.Utterances.{utters_none, only_said, either_says}
use Rattle.said_lines.proofs.saying.say_peers.Goals as goal

pub returns-in-Err-clause-says : goal.returns-in-Err-clause-says
returns-in-Err-clause-says g c = λ settings present.
    let same = same_some c.args.ledger.now.state.settings c.in-Some.settings.now settings (sym c.in-Some.ensures) present in
    let peers = c.as_slice-peer-items.ensures ∙ ap (λ (s : Settings). s.peers) same in
    let line : PeerRow → List ℕ = line_of_row c.args.ledger.now.state in
    let v0 = g.S.Disk.view c.args.station.now in
    let v2 = g.S.Disk.view c.say_peer.new.station in
    subst (λ (l : List PeerRow). SaysLines (map line l) v0 v2 (Err c.in-Err.error)) peers
    (failed_line line c.as_slice-peer-items.result.now v0 (g.S.Disk.view c.loop-peer.station) v2 c.loop-peer.peer-index c.in-Err.error (omega (arith, c.loop-peer-test.true)) c.loop-peer.invariant.said
    (λ is. c.in-Err.ensures.say (ap Err is)) (λ is i. g.S.Disk.view (c.in-Err.ensures.memory (ap Err is) i)))

pub loop-peer-preserved : goal.loop-peer-preserved
loop-peer-preserved g c = record {
  said = item_said (line_of_row c.args.ledger.now.state) c.as_slice-peer-items.result.now (g.S.Disk.view c.args.station.now) (g.S.Disk.view c.loop-peer.station) (g.S.Disk.view c.say_peer.new.station) c.loop-peer.peer-index c.peer-item.result
      c.loop-peer-test.true (sym c.peer-item.is) c.loop-peer.invariant.said c.in-Ok.ensures.ok;
  steady = c.in-Ok.ensures.steady ∙ c.loop-peer.invariant.steady;
}

pub returns-clause-says : goal.returns-clause-says
returns-clause-says g c = λ settings present.
    let same = same_some c.args.ledger.now.state.settings c.in-Some.settings.now settings (sym c.in-Some.ensures) present in
    let peers = c.as_slice-peer-items.ensures ∙ ap (λ (s : Settings). s.peers) same in
    let line : PeerRow → List ℕ = line_of_row c.args.ledger.now.state in
    let v0 = g.S.Disk.view c.args.station.now in
    let v1 = g.S.Disk.view c.loop-peer.station in
    let all : c.loop-peer.peer-index ≡ length c.as_slice-peer-items.result.now = omega (arith, c.loop-peer-test.false, c.loop-peer.auto.peer-index-end) in
    subst (λ (l : List PeerRow). Utters v0 v1 (length (map line l)) (joined_lines (map line l))) peers
    (all_said line c.as_slice-peer-items.result.now v0 v1 c.loop-peer.peer-index all c.loop-peer.invariant.said)

pub loop-peer-init : goal.loop-peer-init
loop-peer-init g c = record { said = utters_none (g.S.Disk.view c.args.station.now); steady = refl }

pub returns-in-Err-clause-only_says : goal.returns-in-Err-clause-only_says
returns-in-Err-clause-only_says g c =
    either_says _ (g.S.Disk.view c.loop-peer.station) (g.S.Disk.view c.say_peer.new.station) c.in-Err.error (only_said _ _ _ _ c.loop-peer.invariant.said) (λ is. (c.in-Err.ensures.say (ap Err is)).0) (λ is i. g.S.Disk.view (c.in-Err.ensures.memory (ap Err is) i))

pub returns-clause-only_says : goal.returns-clause-only_says
returns-clause-only_says g c = only_said _ _ _ _ c.loop-peer.invariant.said
