use Rattle.std.proofs.Common.{◌≡◌, ◌≤◌, ⊎_elim, ℕ, List, length, slice_get, Some, sym, ap, subst, ◌∙◌, arith}
use Rattle.std.proofs.lemmas.Option.{slice_get-get_or, slice_get_past}
use Rattle.std.proofs.lemmas.Bool.{false≢true}
use Rattle.psb_station.specs.Span.{Shows}
use Rattle.psb_station.proofs.Spans.{keeps_then, shows_keeps}
use Rattle.psb_model.specs.History.{state}
use Rattle.probe.specs.Chains.{link_on}
use Rattle.psb_machine.specs.OwnProbes.{own_bytes}
use Rattle.node_history.specs.Names.{AreThere}
use Rattle.node_facts.specs.Probed.{IsRead}
use Rattle.node_facts.specs.OwnChain.{is_own, is_slot}
use Rattle.node_facts.proofs.Probed.{chain_none, chain_next, chain_end}
use Rattle.node_facts.proofs.OwnChain.{one_of_all}
use Rattle.node_facts.proofs.own_chain.chain_of.Goals as goal

pub read_own-requires-clause-there : goal.read_own-requires-clause-there
read_own-requires-clause-there g c =
    subst (λ (l : g.row.L.Denot). AreThere c.args.names.now (g.L.Log.size l) (g.L.Log.keeps_body l)) (sym c.loop-object.invariant.log) c.requires.there

pub returns-then-not-branch-clause-value : goal.returns-then-not-branch-clause-value
returns-then-not-branch-clause-value g c = λ tells h es knows are shows own.
    let objects = c.args.objects.now in
    let i = c.loop-object.object-index in
    let object = c.object-item.result in
    let there : slice_get objects i ≡ Some object = slice_get-get_or objects i object c.loop-object-test.true ∙ ap (λ (x : _). Some x) (sym c.object-item.is) in
    absurd (false≢true (sym c.if-not-branch.true ∙ c.in_ok-read_own.ensures.some h knows (one_of_all (is_own (state h)) objects i object own there)))

pub returns-then-not-branch-clause-made : goal.returns-then-not-branch-clause-made
returns-then-not-branch-clause-made g c = λ h all.
    let objects = c.args.objects.now in
    let i = c.loop-object.object-index in
    let object = c.object-item.result in
    let at = c.loop-object.invariant in
    let there : slice_get objects i ≡ Some object = slice_get-get_or objects i object c.loop-object-test.true ∙ ap (λ (x : _). Some x) (sym c.object-item.is) in
    let read = subst (λ (seed : List ℕ). IsRead c.in_ok-read_own.field-0 c.read_own.new.into.items (own_bytes seed h object)) at.seed (c.in_ok-read_own.ensures.made h (one_of_all is_slot objects i object all there)) in
    sym (at.made h all ∙ chain_none (own_bytes c.args.claims.now.seed h) c.loop-object.chain objects i object c.in_ok-read_own.field-0 _ there c.if-not-branch.true read)

pub returns-then-not-branch-clause-some : goal.returns-then-not-branch-clause-some
returns-then-not-branch-clause-some g c = λ h knows own.
    let objects = c.args.objects.now in
    let i = c.loop-object.object-index in
    let object = c.object-item.result in
    let there : slice_get objects i ≡ Some object = slice_get-get_or objects i object c.loop-object-test.true ∙ ap (λ (x : _). Some x) (sym c.object-item.is) in
    absurd (false≢true (sym c.if-not-branch.true ∙ c.in_ok-read_own.ensures.some h knows (one_of_all (is_own (state h)) objects i object own there)))

pub loop-object-preserved : goal.loop-object-preserved
loop-object-preserved g c =
    let first = g.D.Disk.view c.args.disk.now in
    let now = g.D.Disk.view c.loop-object.disk in
    let later = g.D.Disk.view c.read_own.new.disk in
    let objects = c.args.objects.now in
    let i = c.loop-object.object-index in
    let object = c.object-item.result in
    let at = c.loop-object.invariant in
    let done = c.in_ok-read_own.ensures in
    let there : slice_get objects i ≡ Some object = slice_get-get_or objects i object c.loop-object-test.true ∙ ap (λ (x : _). Some x) (sym c.object-item.is) in
    record {
      log = done.log ∙ at.log;
      seed = done.seed ∙ at.seed;
      keeps = keeps_then first now later at.keeps done.looked.keeps;
      steady = ⊎_elim (λ bad. absurd (cc (bad))) (λ same. same ∙ at.steady) done.looked.steady;
      unwritten = done.reads ∙ at.unwritten;
      rests = λ all. done.rests (one_of_all is_slot objects i object all there) ∙ at.rests all;
      made = λ h all.
          let read = subst (λ (seed : List ℕ). IsRead c.in_ok-read_own.field-0 c.read_own.new.into.items (own_bytes seed h object)) at.seed (done.made h (one_of_all is_slot objects i object all there)) in
          at.made h all
          ∙ chain_next (own_bytes c.args.claims.now.seed h) c.loop-object.chain _ objects i object c.in_ok-read_own.field-0 _ there c.if-not-branch.false read (c.add.ensures.value ∙ ap (link_on c.loop-object.chain) c.deref.ensures.value);
      value = λ tells h es knows are shows own.
          let before = done.looked.keeps.works.tells tells in
          let shows_now = shows_keeps (g.L.Log.holds c.args.log.now es) first now at.keeps before shows in
          let read = subst (λ (seed : List ℕ). IsRead c.in_ok-read_own.field-0 c.read_own.new.into.items (own_bytes seed h object)) at.seed (done.bytes tells h es knows are (subst (λ (l : g.row.L.Denot). Shows (g.L.Log.holds l es) now) (sym at.log) shows_now) (one_of_all (is_own (state h)) objects i object own there)) in
          at.value before h es knows are shows own
          ∙ chain_next (own_bytes c.args.claims.now.seed h) c.loop-object.chain _ objects i object c.in_ok-read_own.field-0 _ there c.if-not-branch.false read (c.add.ensures.value ∙ ap (link_on c.loop-object.chain) c.deref.ensures.value);
    }

pub returns-clause-made : goal.returns-clause-made
returns-clause-made g c = λ h all.
    let objects = c.args.objects.now in
    let i = c.loop-object.object-index in
    let past : length objects ≤ i = omega (arith, c.loop-object-test.false) in
    ap (λ (v : List ℕ). Some v) c.value.ensures
    ∙ sym (c.loop-object.invariant.made h all ∙ chain_end (own_bytes c.args.claims.now.seed h) c.loop-object.chain objects i (slice_get_past objects i past))
