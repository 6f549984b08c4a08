use Rattle.std.proofs.Common.{◌≡◌, ◌∙◌, sym}
use Rattle.skeleton.proofs.Order.{last_decides}
use Rattle.skeleton.proofs.tree.ascends.Goals as goal

pub returns-in-Some : goal.returns-in-Some
returns-in-Some c =
    let same : c.as_bytes.result.now ≡ c.in-Some.last.now.path = c.as_bytes.ensures.value ∙ c.as_str.ensures in
    c.comes_before.ensures ∙ rw same (last_decides c.args.entries.now c.requires c.in-Some.last.now c.args.path.now (sym c.in-Some.ensures.value))
