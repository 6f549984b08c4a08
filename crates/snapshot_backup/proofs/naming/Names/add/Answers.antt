use Rattle.std.proofs.Common.{arith, ◌||◌, ◌∙◌, ap}
use Rattle.psb_bytes.specs.declared.ids.Ref.{Ref}
use Rattle.psb_model.specs.Words.{name_eq}
use Rattle.snapshot_backup.specs.Naming.{has_name}
use Rattle.snapshot_backup.proofs.NameSets.{names_more}
use Rattle.snapshot_backup.proofs.naming.Names.add.Goals as goal

pub loop-r-preserved : goal.loop-r-preserved
loop-r-preserved c = record {
  named = λ q.
      names_more c.args.refs.now c.loop-r.r-index _ q (has_name c.args.self.now q) (has_name c.loop-r.self q) _ c.loop-r-test.true (c.loop-r.invariant.named q)
      (c.in_ok-add_one.ensures.added q ∙ ap (λ (r : Ref). has_name c.loop-r.self q || name_eq r.name q) c.r-item.is);
  count = omega (arith, c.loop-r.invariant.count, c.in_ok-add_one.ensures.count);
}
