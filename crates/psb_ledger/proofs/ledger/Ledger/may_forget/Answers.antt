use Rattle.std.proofs.Common.{◌∙◌, ap}
use Rattle.std.specs.Prelude.{◌==◌}
use Rattle.std.specs.List.{list_any}
use Rattle.psb_model.specs.declared.snapshots.Snapshot.{Snapshot}
use Rattle.psb_ledger.proofs.Keeping.{allowed_forgot}
use Rattle.psb_ledger.proofs.ledger.Ledger.may_forget.Goals as goal

pub returns-then-self-ne0 : goal.returns-then-self-ne0
returns-then-self-ne0 c = allowed_forgot c.self.inside c.args.self.now c.args.number c.has_number.result c.self.view_is c.if-self-ne0.true (c.has_number.ensures ∙ ap (list_any (λ (k : Snapshot). k.number == c.args.number)) c.as_slice.ensures.value)
