use Rattle.std.proofs.Common.{ℕ, List, Bool, cond, true, ap, ◌∙◌}
use Rattle.std.proofs.lemmas.Map.Text.{is_eq-slice_cmp}
use Rattle.psb_model.specs.Words.{name_eq}
use Rattle.snapshot_backup.specs.Naming.{has_name}
use Rattle.snapshot_backup.proofs.NameSets.{or_last}
use Rattle.snapshot_backup.proofs.naming.Names.add_one.Goals as goal

pub returns-clause-added : goal.returns-clause-added
returns-clause-added c = λ q.
    let old : Bool = has_name c.args.self.now q in
    c.in_ok-insert.ensures.updates.0 q
    ∙ ap (λ (b : Bool). cond b true old) (is_eq-slice_cmp c.name.inside.0 q)
    ∙ ap (λ (n : List ℕ). cond (name_eq n q) true old) c.name.view_is
    ∙ or_last old (name_eq c.args.name.now q)
