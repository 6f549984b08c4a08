use Rattle.std.proofs.Common.{◌≡◌, true, false, refl, ap, sym, ◌∙◌, rules}
use Rattle.std.proofs.lemmas.Bool.{true≢false}
use Rattle.psb_station.specs.Span.{Tells_bytes}
use Rattle.node_letters.specs.Letters.{letters_of}
use Rattle.node_core.specs.Inputs.{input_of}
use Rattle.node_serve.proofs.OneTurn.{Now, refused, answered}
use Rattle.node_serve.proofs.Runs.{ready_after}
use Rattle.node_serve.proofs.Tries.{sends_tells}
use Rattle.node_serve.proofs.OwnInputs.{apt_of_peer, peer_fails}
use Rattle.node_serve.proofs.feeding.feed.Goals as goal

pub returns-in-Err-clause-fed : goal.returns-in-Err-clause-fed
returns-in-Err-clause-fed g c = λ tells n k st.
    let v1 = g.S.Disk.view c.args.station.now in
    let v2 = g.S.Disk.view c.absorb.new.disk in
    let now1 : Now v1 = record { counts = λ t i le left. g.met.S.Disk.counts_now c.args.station.now t i le left; only = λ i k left. g.met.S.Disk.only_now c.args.station.now i k left } in
    let now2 : Now v2 = record { counts = λ t i le left. g.met.S.Disk.counts_now c.absorb.new.disk t i le left; only = λ i k left. g.met.S.Disk.only_now c.absorb.new.disk i k left } in
    refused g.L.Log.holds g.L.Log.stands g.L.Log.is_broken g.met.L.Log.holds_stands c.args.node.now c.absorb.new.self n v1 v2 (input_of c.args.input.now) now1 now2 k st c.absorb.ensures.works tells
    (c.absorb.ensures.any_moment c.requires.whole tells n k st) c.in-Err.ensures.kept

pub returns-clause-fed : goal.returns-clause-fed
returns-clause-fed g c = λ tells n k st.
    let v1 = g.S.Disk.view c.args.station.now in
    let v2 = g.S.Disk.view c.absorb.new.disk in
    let v3 = g.S.Disk.view c.send_all-lost.new.station in
    let t2 = sends_tells v2 v3 _ _ c.send_all-lost.ensures.sends tells in
    let machine = c.in-Ok.ensures.machine t2 n k st in
    answered g.L.Log.holds g.L.Log.stands g.L.Log.is_broken g.met.L.Log.holds_stands c.args.node.now c.absorb.new.self n v1 v2 v3 (input_of c.args.input.now)
    (record { taken = c.taken_in.result; dropped = c.dropped_in.result; lost = c.send_all-lost.result }) k c.absorb.ensures.works tells
    (c.absorb.ensures.any_moment c.requires.whole t2 n k st) machine.0 (c.in-Ok.ensures.disk t2 n k st)
    (letters_of c.as_slice.result.now) (ap letters_of c.as_slice.ensures ∙ machine.1) c.send_all-lost.ensures.sends
    c.in-Ok.outcome.dropped (c.in-Ok.ensures.dropped n k) c.taken_in.ensures.count c.dropped_in.ensures.count

pub returns-clause-ready : goal.returns-clause-ready
returns-clause-ready g c =
    let v1 = g.S.Disk.view c.args.station.now in
    let v2 = g.S.Disk.view c.absorb.new.disk in
    let v3 = g.S.Disk.view c.send_all-lost.new.station in
    let same : Tells_bytes v3 → Tells_bytes v1 = λ tells. c.absorb.ensures.works.tells (sends_tells v2 v3 _ _ c.send_all-lost.ensures.sends tells) in
    let whole : g.L.Log.is_broken c.absorb.new.self.log ≡ false = search rules in
    ready_after g.L.Log.holds g.L.Log.stands g.L.Log.is_broken g.met.L.Log.holds_stands c.args.node.now c.absorb.new.self v1 v3 whole c.requires.ready same c.in-Ok.ensures.known
    (λ tells n k st. let f = returns-clause-fed g c tells n k st in (_, f.knows whole, f.stored whole))

pub absorb-requires-clause-apt : goal.absorb-requires-clause-apt
absorb-requires-clause-apt g c = λ whole. apt_of_peer c.args.node.now.ledger.state c.args.input.now c.requires.of_peer

pub returns-in-Err-clause-only : goal.returns-in-Err-clause-only
returns-in-Err-clause-only g c =
    peer_fails (input_of c.args.input.now) _ c.in-Err.fault c.requires.of_peer refl
    (λ broken. let clash : true ≡ false = sym (c.absorb.ensures.refused.0 (c.in-Err.is ∙ broken)) ∙ c.requires.whole in true≢false clash) c.in-Err.ensures.only
