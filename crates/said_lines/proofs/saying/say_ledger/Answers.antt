use Rattle.std.proofs.Common.{◌≡◌, List, ℕ, Err, flat_map, refl, length, ap, sym, subst, ◌∙◌, arith}
use Rattle.psb_station.proofs.Spans.{same_some}
use Rattle.psb_settings.specs.declared.settings.PeerRow.{PeerRow}
use Rattle.psb_settings.specs.declared.settings.Settings.{Settings}
use Rattle.said_lines.specs.Lines.{joined_lines}
use Rattle.said_lines.specs.Says.{Utters, SaysLines, lines_of_row}
use Rattle.said_lines.proofs.LinesSaid.{each_said, each_failed, all_of_each}
use Rattle.said_lines.proofs.Utterances.{utters_none, only_said, only_only}
use Rattle.said_lines.proofs.saying.say_ledger.Goals as goal

pub returns-in-Err-clause-says : goal.returns-in-Err-clause-says
returns-in-Err-clause-says g c = λ settings present.
    let same = same_some c.args.ledger.now.state.settings c.in-Some.settings.now settings (sym c.in-Some.ensures) present in
    let peers = c.as_slice-peer-items.ensures ∙ ap (λ (s : Settings). s.peers) same in
    let each : PeerRow → List (List ℕ) = lines_of_row c.args.ledger.now.state in
    let v0 = g.S.Disk.view c.args.station.now in
    let v2 = g.S.Disk.view c.say_account.new.station in
    subst (λ (l : List PeerRow). SaysLines (flat_map each l) v0 v2 (Err c.in-Err.error)) peers
    (each_failed each c.as_slice-peer-items.result.now v0 (g.S.Disk.view c.loop-peer.station) v2 c.loop-peer.peer-index c.peer-item.result c.in-Err.error c.loop-peer-test.true (sym c.peer-item.is) c.loop-peer.invariant.said c.in-Err.ensures.says)

pub loop-peer-preserved : goal.loop-peer-preserved
loop-peer-preserved g c = record {
  said = each_said (lines_of_row c.args.ledger.now.state) c.as_slice-peer-items.result.now (g.S.Disk.view c.args.station.now) (g.S.Disk.view c.loop-peer.station) (g.S.Disk.view c.say_account.new.station) c.loop-peer.peer-index c.peer-item.result
      c.loop-peer-test.true (sym c.peer-item.is) c.loop-peer.invariant.said c.in-Ok.ensures.says;
  steady = c.in-Ok.ensures.steady ∙ c.loop-peer.invariant.steady;
}

pub returns-clause-says : goal.returns-clause-says
returns-clause-says g c = λ settings present.
    let same = same_some c.args.ledger.now.state.settings c.in-Some.settings.now settings (sym c.in-Some.ensures) present in
    let peers = c.as_slice-peer-items.ensures ∙ ap (λ (s : Settings). s.peers) same in
    let each : PeerRow → List (List ℕ) = lines_of_row c.args.ledger.now.state in
    let v0 = g.S.Disk.view c.args.station.now in
    let v1 = g.S.Disk.view c.loop-peer.station in
    let all : c.loop-peer.peer-index ≡ length c.as_slice-peer-items.result.now = omega (arith, c.loop-peer-test.false, c.loop-peer.auto.peer-index-end) in
    subst (λ (l : List PeerRow). Utters v0 v1 (length (flat_map each l)) (joined_lines (flat_map each l))) peers
    (all_of_each each c.as_slice-peer-items.result.now v0 v1 c.loop-peer.peer-index all c.loop-peer.invariant.said)

pub loop-peer-init : goal.loop-peer-init
loop-peer-init g c = record { said = utters_none (g.S.Disk.view c.args.station.now); steady = refl }

pub returns-in-Err-clause-only_says : goal.returns-in-Err-clause-only_says
returns-in-Err-clause-only_says g c =
    only_only _ (g.S.Disk.view c.loop-peer.station) (g.S.Disk.view c.say_account.new.station) (only_said _ _ _ _ c.loop-peer.invariant.said) c.in-Err.ensures.only_says

pub returns-clause-only_says : goal.returns-clause-only_says
returns-clause-only_says g c = only_said _ _ _ _ c.loop-peer.invariant.said
