use Rattle.std.proofs.Common.{◌≡◌, ◌++◌, ◌∷◌, [], true, List, sym, subst}
use Rattle.std.proofs.lemmas.Bool.{cond_both}
use Rattle.std.specs.Prelude.{is_ok}
use Rattle.skeleton.specs.declared.entry.Entry.{Entry}
use Rattle.skeleton.specs.Entries.{IsSkeleton, fits_behind}
use Rattle.skeleton.proofs.Order.{grows}
use Rattle.skeleton.proofs.tree.Skeleton.keep.Goals as goal

pub invariant_of-self : goal.invariant_of-self
invariant_of-self c =
    let entries : List Entry = c.self.inside.entries.items in
    let fits : fits_behind entries c.args.entry ≡ true = subst (λ (v : List Entry). fits_behind v c.args.entry ≡ true) (sym c.self.view_is) c.requires in
    rw c.push.ensures.items (cond_both (is_ok c.push.result) (entries ++ c.args.entry ∷ []) entries IsSkeleton (λ _. grows entries c.self.invariant c.args.entry fits) (λ _. c.self.invariant))
