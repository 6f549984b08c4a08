use Rattle.std.proofs.Common.{⊎_elim, ℕ, List, sym, ap, subst, ◌∙◌}
use Rattle.psb_station.specs.Span.{Shows}
use Rattle.psb_station.proofs.Spans.{keeps_then, shows_keeps}
use Rattle.probe.specs.Chains.{link_on}
use Rattle.psb_machine.specs.Probing.{object_bytes}
use Rattle.node_history.specs.Names.{AreThere}
use Rattle.node_facts.specs.Probed.{IsRead}
use Rattle.node_facts.proofs.Probed.{chain_none, chain_next}
use Rattle.node_facts.proofs.probing.chain_over.Goals as goal

pub read_object-requires-clause-there : goal.read_object-requires-clause-there
read_object-requires-clause-there g c =
    subst (λ (l : g.row.L.Denot). AreThere c.args.held.now.names.now (g.L.Log.size l) (g.L.Log.keeps_body l)) (sym c.loop-place.invariant.log) c.requires.there

pub returns-then-not-branch-clause-value : goal.returns-then-not-branch-clause-value
returns-then-not-branch-clause-value g c = λ tells h es knows are shows.
    let first = g.D.Disk.view c.args.disk.now in
    let now = g.D.Disk.view c.loop-place.disk in
    let at = c.loop-place.invariant in
    let before = c.in_ok-read_object.ensures.looked.keeps.works.tells tells in
    let shows_now = shows_keeps (g.L.Log.holds c.args.log.now es) first now at.keeps before shows in
    let read = subst (λ (seed : List ℕ). IsRead c.in_ok-read_object.field-0 c.read_object.new.into.items (object_bytes seed h c.args.peer c.at-object.result)) at.seed (c.in_ok-read_object.ensures.bytes tells h es knows are (subst (λ (l : g.row.L.Denot). Shows (g.L.Log.holds l es) now) (sym at.log) shows_now)) in
    sym (at.value before h es knows are shows ∙ chain_none (object_bytes c.args.claims.now.seed h c.args.peer) c.loop-place.chain c.args.objects.now c.loop-place.place c.at-object.result c.in_ok-read_object.field-0 _ c.at-object.ensures c.if-not-branch.true read)

pub loop-place-preserved : goal.loop-place-preserved
loop-place-preserved g c =
    let first = g.D.Disk.view c.args.disk.now in
    let now = g.D.Disk.view c.loop-place.disk in
    let later = g.D.Disk.view c.read_object.new.disk in
    let at = c.loop-place.invariant in
    let done = c.in_ok-read_object.ensures in
    record {
      log = done.log ∙ at.log;
      seed = done.seed ∙ at.seed;
      issued = done.issued ∙ at.issued;
      keeps = keeps_then first now later at.keeps done.looked.keeps;
      steady = ⊎_elim (λ bad. absurd (cc (bad))) (λ same. same ∙ at.steady) done.looked.steady;
      unwritten = done.reads ∙ at.unwritten;
      value = λ tells h es knows are shows.
          let before = done.looked.keeps.works.tells tells in
          let shows_now = shows_keeps (g.L.Log.holds c.args.log.now es) first now at.keeps before shows in
          let read = subst (λ (seed : List ℕ). IsRead c.in_ok-read_object.field-0 c.read_object.new.into.items (object_bytes seed h c.args.peer c.at-object.result)) at.seed (done.bytes tells h es knows are (subst (λ (l : g.row.L.Denot). Shows (g.L.Log.holds l es) now) (sym at.log) shows_now)) in
          at.value before h es knows are shows
          ∙ chain_next (object_bytes c.args.claims.now.seed h c.args.peer) c.loop-place.chain _ c.args.objects.now c.loop-place.place c.at-object.result c.in_ok-read_object.field-0 _ c.at-object.ensures c.if-not-branch.false read (c.add.ensures.value ∙ ap (link_on c.loop-place.chain) c.deref.ensures.value);
    }
