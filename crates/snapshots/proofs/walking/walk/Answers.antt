use Rattle.std.proofs.Common.{rules, ◌≡◌, ◌≤◌, ⊎_elim, ℕ, List, [], Err, length, take, refl, sym, ◌∙◌, subst, arith}
use Rattle.snapshots.specs.Walks.{OnlyLists}
use Rattle.snapshots.specs.WalkSteps.{folders}
use Rattle.snapshots.specs.declared.walking.WalkFault.TheVariants as walk_fault
use Rattle.snapshots.proofs.WalkSteps.{not_if_ok}
use Rattle.snapshots.proofs.WalkTurns.{lists_first, on_first, large_first, few}
use Rattle.snapshots.proofs.WalkEnds.{bare_moved, are_found, walks, all_listed}
use Rattle.snapshots.proofs.walking.walk.Goals as goal

pub returns-in_err-enter-clause-too_large : goal.returns-in_err-enter-clause-too_large
returns-in_err-enter-clause-too_large g c = λ is.
    let same : c.enter.result ≡ Err walk_fault.TooLarge = search rules in
    large_first (g.F.Folder.view c.enter.new.folder).content c.args.root.now _ c.new.ensures.items refl refl (c.enter.ensures.too_large same)

pub loop-index-init : goal.loop-index-init
loop-index-init g c = record {
  on = on_first (g.F.Folder.view c.enter.new.folder).content c.args.root.now _ c.enter.new.walked c.new.ensures.items refl refl c.in_ok-enter.ensures.entered;
  lists = lists_first c.args.root.now (g.F.Folder.view c.args.folder.now) (g.F.Folder.view c.enter.new.folder) c.enter.ensures.content c.enter.ensures.tries;
  steady = ⊎_elim (λ bad. absurd (cc (bad))) (λ same. same) c.in_ok-enter.ensures.steady;
}

pub returns-in_err-enter-clause-lists : goal.returns-in_err-enter-clause-lists
returns-in_err-enter-clause-lists g c = (
  [],
  lists_first c.args.root.now (g.F.Folder.view c.args.folder.now) (g.F.Folder.view c.enter.new.folder) c.enter.ensures.content c.enter.ensures.tries,
  not_if_ok c.from_residual.result _ c.from_residual.ensures.0,
)

pub returns-in_err-go_on-clause-lists : goal.returns-in_err-go_on-clause-lists
returns-in_err-go_on-clause-lists g c =
    let l = c.go_on.ensures.lists (g.F.Folder.view c.args.folder.now) c.loop-index.invariant.lists in
    (l.0, l.1, not_if_ok c.from_residual-in_err-go_on.result _ c.from_residual-in_err-go_on.ensures.0)

pub returns-in_err-go_on-clause-content : goal.returns-in_err-go_on-clause-content
returns-in_err-go_on-clause-content g c = (c.go_on.ensures.lists (g.F.Folder.view c.args.folder.now) c.loop-index.invariant.lists).1.content

pub returns-in_err-go_on-clause-tells : goal.returns-in_err-go_on-clause-tells
returns-in_err-go_on-clause-tells g c = (c.go_on.ensures.lists (g.F.Folder.view c.args.folder.now) c.loop-index.invariant.lists).1.tells

pub loop-index-smaller : goal.loop-index-smaller
loop-index-smaller g c = omega (arith, c.loop-index-test.true, c.len.ensures, few (g.F.Folder.view c.loop-index.folder).content c.args.root.now c.loop-index.index c.loop-index.walked c.loop-index.invariant.on)

pub loop-index-preserved : goal.loop-index-preserved
loop-index-preserved g c = record {
  on = c.in_ok-go_on.ensures.on;
  lists =
      let l = c.in_ok-go_on.ensures.lists (g.F.Folder.view c.args.folder.now) c.loop-index.invariant.lists in
      subst (λ (below : List (List ℕ)). OnlyLists c.args.root.now below (g.F.Folder.view c.args.folder.now) (g.F.Folder.view c.go_on.new.folder)) l.2 l.1;
  steady = ⊎_elim (λ bad. absurd (cc (bad))) (λ same. same ∙ c.loop-index.invariant.steady) c.in_ok-go_on.ensures.steady;
}

pub returns-clause-found : goal.returns-clause-found
returns-clause-found g c =
    let le : length c.loop-index.walked.found.items ≤ c.loop-index.index = omega (arith, c.loop-index-test.false, c.len.ensures) in
    are_found (g.F.Folder.view c.loop-index.folder).content c.args.root.now c.loop-index.index c.loop-index.walked c.sort.new.found.items le c.loop-index.invariant.on c.sort.ensures.same c.sort.ensures.sorted

pub returns-clause-text : goal.returns-clause-text
returns-clause-text g c = (
  c.loop-index.invariant.on.so_far.text ∙ sym (bare_moved c.loop-index.walked.found.items c.sort.new.found.items c.sort.ensures.same),
  c.loop-index.invariant.on.so_far.most,
)

pub returns-clause-walk : goal.returns-clause-walk
returns-clause-walk g c =
    let le : length c.loop-index.walked.found.items ≤ c.loop-index.index = omega (arith, c.loop-index-test.false, c.len.ensures) in
    walks (g.F.Folder.view c.loop-index.folder).content c.args.root.now c.loop-index.index c.loop-index.walked c.sort.new.found.items le c.loop-index.invariant.on c.sort.ensures.same

pub returns-clause-lists : goal.returns-clause-lists
returns-clause-lists g c =
    let le : length c.loop-index.walked.found.items ≤ c.loop-index.index = omega (arith, c.loop-index-test.false, c.len.ensures) in (
      folders (take c.loop-index.index c.loop-index.walked.found.items),
      c.loop-index.invariant.lists,
      all_listed c.loop-index.walked.found.items c.sort.new.found.items c.loop-index.index le c.sort.ensures.same,
    )
