use Rattle.std.proofs.Common.{◌∙◌, ◌++◌, inl, inr, ⊎_elim, ℕ, true, List, Option, Err, refl, sym, ap, subst}
use Rattle.std.proofs.lemmas.Bool.{false≢true}
use Rattle.node_letters.specs.Peers.{PeersView}
use Rattle.node_serve.specs.Buffers.{last_of}
use Rattle.node_serve.specs.Hears.{Whole, of_turns, is_fed}
use Rattle.node_serve.specs.Turns.{fault_end}
use Rattle.snapshot_restore.specs.Fetching.{IsBrought, came_in, EndsTurn}
use Rattle.snapshot_restore.specs.declared.fault.RestoreFault.{RestoreFault}
use Rattle.snapshot_restore.proofs.Listening.{sound, ends_by, ends_whole, hears_turn, hears_part}
use Rattle.snapshot_restore.proofs.fetching.listen.Goals as goal

pub returns-in-Err-clause-stopped : goal.returns-in-Err-clause-stopped
returns-in-Err-clause-stopped g c =
    hears_part g.L.Log.holds g.L.Log.stands g.L.Log.is_broken g.met.L.Log.holds_stands c.args.waiting.now _ c.args.node.now c.turn.new.node (g.S.Disk.view c.args.station.now) (g.S.Disk.view c.turn.new.station) _ _ (fault_end c.in-Err.fault) c.from.result
    c.as_slice.result.now c.as_slice.ensures (record { peers = refl; turns = refl }) c.turn.ensures.tells c.turn.ensures.counts
    (sound c.in-Err.fault c.from.result (g.L.Log.is_broken c.turn.new.node.log) c.from.ensures
    (λ is. c.in-Err.ensures.unbroken (⊎_elim (λ m. inl (ap (λ f. Err f) m)) (λ l. inr (ap (λ f. Err f) l)) is)))
    (λ full last ends. subst (λ (e : RestoreFault). EndsTurn e (of_turns full ++ last) (is_fed (fault_end c.in-Err.fault))) (sym c.from.ensures) (ends_by c.in-Err.fault full last ends))
    c.in-Err.ensures.ran

pub returns-in-Ok-brought-clause-heard : goal.returns-in-Ok-brought-clause-heard
returns-in-Ok-brought-clause-heard g c =
    let is = subst (λ (o : Option (List ℕ)). IsBrought c.args.reference.now (came_in c.peers.result.now c.args.reference.now.name o) c.in-Ok-brought.came) c.last.ensures c.in-Ok-brought.ensures in
    hears_turn g.L.Log.holds g.L.Log.stands g.L.Log.is_broken g.met.L.Log.holds_stands c.args.waiting.now _ c.args.node.now c.turn.new.node (g.S.Disk.view c.args.station.now) (g.S.Disk.view c.turn.new.station) c.args.reference.now (last_of c.turn.new.buffer) _ c.in-Ok-brought.came
    c.as_slice.result.now c.as_slice.ensures (record { peers = refl; turns = refl }) c.turn.ensures.tells c.turn.ensures.counts c.in-Ok.ensures.whole c.in-Ok.ensures.ran
    (subst (λ (p : PeersView). IsBrought c.args.reference.now (came_in p c.args.reference.now.name (last_of c.turn.new.buffer)) c.in-Ok-brought.came) c.peers.ensures is)

pub returns-in-Err-brought-clause-stopped : goal.returns-in-Err-brought-clause-stopped
returns-in-Err-brought-clause-stopped g c =
    hears_part g.L.Log.holds g.L.Log.stands g.L.Log.is_broken g.met.L.Log.holds_stands c.args.waiting.now _ c.args.node.now c.turn.new.node (g.S.Disk.view c.args.station.now) (g.S.Disk.view c.turn.new.station) _ _ Whole c.from-in-Err-brought.result
    c.as_slice.result.now c.as_slice.ensures (record { peers = refl; turns = refl }) c.turn.ensures.tells c.turn.ensures.counts
    (λ broke. absurd (false≢true (sym c.in-Ok.ensures.whole ∙ broke)))
    (λ full last ends. subst (λ (e : RestoreFault). EndsTurn e (of_turns full ++ last) true) (sym c.from-in-Err-brought.ensures) (ends_whole full last ends))
    c.in-Ok.ensures.ran
