use Rattle.std.proofs.Common.{rules, ◌≡◌, ◌++◌, ◌∷◌, [], List, ℕ, map, take, subst}
use Rattle.psb_station.specs.Folder.{child, Listing, Tries}
use Rattle.snapshots.specs.WalkSteps.{Enters, Exceeds, folders, founds, child_of}
use Rattle.snapshots.proofs.WalkSteps.{on_ok, not_ok}
use Rattle.snapshots.proofs.WalkTurns.{on_file, on_folder, large_folder, lists_next, may_be_listed, next_file, next_folder}
use Rattle.snapshots.proofs.walking.go_on.Goals as goal

pub returns-in-File-clause-on : goal.returns-in-File-clause-on
returns-in-File-clause-on g c = on_file (g.F.Folder.view c.args.folder.now).content c.args.root.now c.args.index c.args.walked.now c.index-found.result.now c.index-found.result.now c.requires.index c.index-found.ensures c.in-File.is c.requires.on

pub returns-in_ok-path-in-Folder-clause-on : goal.returns-in_ok-path-in-Folder-clause-on
returns-in_ok-path-in-Folder-clause-on g c =
    let f = c.index-found.result.now in
    let base : c.as_str-in-Folder-3.result.now ≡ c.index-found.result.now.path = search rules in
    let path : c.as_str-in-Folder-2.result.now ≡ child c.args.root.now c.index-found.result.now.path = search rules in
    on_ok c.enter.result
    (λ e. on_folder (g.F.Folder.view c.args.folder.now).content (g.F.Folder.view c.enter.new.folder).content c.args.root.now c.args.index c.args.walked.now c.enter.new.walked f f c.requires.index c.index-found.ensures c.in-Folder.is c.requires.on
    c.enter.ensures.content
    (subst (λ (p : List ℕ). Enters (g.F.Folder.view c.enter.new.folder).content p c.index-found.result.now.path c.args.walked.now c.enter.new.walked) path
    (subst (λ (p : List ℕ). Enters (g.F.Folder.view c.enter.new.folder).content c.as_str-in-Folder-2.result.now p c.args.walked.now c.enter.new.walked) base e)))
    c.enter.ensures.entered

pub returns-in_ok-path-in-Folder-clause-too_large :
    goal.returns-in_ok-path-in-Folder-clause-too_large
returns-in_ok-path-in-Folder-clause-too_large g c = λ is.
    let f = c.index-found.result.now in
    let base : c.as_str-in-Folder-3.result.now ≡ c.index-found.result.now.path = search rules in
    let path : c.as_str-in-Folder-2.result.now ≡ child c.args.root.now c.index-found.result.now.path = search rules in
    large_folder (g.F.Folder.view c.args.folder.now).content (g.F.Folder.view c.enter.new.folder).content c.args.root.now c.args.index c.args.walked.now f f c.requires.index c.index-found.ensures c.in-Folder.is c.requires.on
    c.enter.ensures.content
    (subst (λ (p : List ℕ). Exceeds (g.F.Folder.view c.enter.new.folder).content p c.index-found.result.now.path c.args.walked.now) path
    (subst (λ (p : List ℕ). Exceeds (g.F.Folder.view c.enter.new.folder).content c.as_str-in-Folder-2.result.now p c.args.walked.now) base (c.enter.ensures.too_large is)))

-- ---- the calls

pub returns-in-File-clause-lists : goal.returns-in-File-clause-lists
returns-in-File-clause-lists g c = λ first lists. (
  folders (take c.args.index c.args.walked.now.found.items),
  lists,
  next_file c.args.index c.args.walked.now c.index-found.result.now c.index-found.result.now c.requires.index c.index-found.ensures c.in-File.is,
)

pub returns-in_err-base-in-Folder-clause-lists : goal.returns-in_err-base-in-Folder-clause-lists
returns-in_err-base-in-Folder-clause-lists g c = λ first lists. (folders (take c.args.index c.args.walked.now.found.items), lists, not_ok c.from_residual.result _ c.from_residual.ensures.0)

pub returns-in_err-path-in-Folder-clause-lists : goal.returns-in_err-path-in-Folder-clause-lists
returns-in_err-path-in-Folder-clause-lists g c = λ first lists. (folders (take c.args.index c.args.walked.now.found.items), lists, not_ok c.from_residual-in_err-path-in-Folder.result _ c.from_residual-in_err-path-in-Folder.ensures.0)

pub returns-in_ok-path-in-Folder-clause-lists : goal.returns-in_ok-path-in-Folder-clause-lists
returns-in_ok-path-in-Folder-clause-lists g c = λ first lists.
    let f = c.index-found.result.now in
    let v0 = g.F.Folder.view c.args.folder.now in
    let v1 = g.F.Folder.view c.enter.new.folder in
    let path : c.as_str-in-Folder-2.result.now ≡ child c.args.root.now f.path = search rules in (
      folders (take c.args.index c.args.walked.now.found.items) ++ f.path ∷ [],
      lists_next c.args.root.now (folders (take c.args.index c.args.walked.now.found.items)) f.path first v0 v1 lists
          (may_be_listed v0.content c.args.root.now c.args.index c.args.walked.now f f c.requires.index c.index-found.ensures c.in-Folder.is c.requires.on lists.folders)
          c.enter.ensures.content (subst (λ (p : List ℕ). Tries (Listing p) v0 v1) path c.enter.ensures.tries),
      on_ok c.enter.result (λ e. next_folder c.args.index c.args.walked.now c.enter.new.walked f f (founds (map (child_of c.as_str-in-Folder-3.result.now) e.items)) c.requires.index c.index-found.ensures c.in-Folder.is e.adds.found) c.enter.ensures.entered,
    )
