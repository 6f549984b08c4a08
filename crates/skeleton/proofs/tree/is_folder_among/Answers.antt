use Rattle.std.proofs.Common.{◌∙◌, rules}
use Rattle.std.proofs.lemmas.Fn.{always_returns_same}
use Rattle.std.specs.Ordering.{nat_cmp}
use Rattle.std.specs.Cmp.Lexicographic.{slice_cmp}
use Rattle.skeleton.proofs.Order.{found, missing, rises}
use Rattle.skeleton.proofs.tree.is_folder_among.Goals as goal

pub returns-in-Ok : goal.returns-in-Ok
returns-in-Ok c =
    let path = c.args.path.now in
    let equal = c.in-Ok.ensures.position (λ e. slice_cmp nat_cmp e.path path) (always_returns_same _ _ _ (λ a r f called. search rules)) in
    let d = c.index-entries-i.result in
    c.is_folder.ensures ∙ found c.args.entries.now c.requires path c.in-Ok.i d c.in-Ok.ensures.bound (equal d)

pub returns-in-Err : goal.returns-in-Err
returns-in-Err c =
    let path = c.args.path.now in
    let apart = c.in-Err.ensures.position (λ e. slice_cmp nat_cmp e.path path) (always_returns_same _ _ _ (λ a r f called. search rules)) in
    missing c.args.entries.now path c.in-Err.field-0 (apart (rises c.args.entries.now c.requires path))
