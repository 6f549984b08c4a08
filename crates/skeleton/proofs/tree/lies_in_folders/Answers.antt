use Rattle.std.proofs.Common.{◌∙◌, refl}
use Rattle.skeleton.proofs.Order.{nearest_decides}
use Rattle.skeleton.proofs.tree.lies_in_folders.Goals as goal

pub returns-in-None : goal.returns-in-None
returns-in-None c = rw c.in-None.ensures.none refl

pub returns-in-Some : goal.returns-in-Some
returns-in-Some c =
    let folder = c.in-Some.folder.now in
    c.is_folder_among.ensures ∙ rw c.as_bytes.ensures.value (nearest_decides c.args.entries.now c.requires c.args.path.now folder c.in-Some.ensures.some)
