use Rattle.std.proofs.Common.{refl, ap, ◌∙◌, sym}
use Rattle.psb_model.specs.State.{out_key}
use Rattle.peer_lists.specs.Joined.{out_joined}
use Rattle.peer_lists.specs.ListViews.{ListView}
use Rattle.peer_lists.specs.Entries.{in_order}
use Rattle.peer_lists.proofs.Both.{list_ordered}
use Rattle.psb_model.specs.declared.entries.OutEntry.{OutEntry}
use Rattle.peer_lists.proofs.out_list.OutList.slot_after.Goals as goal

pub returns-clause-ordered : goal.returns-clause-ordered
returns-clause-ordered c = ap (λ (v : ListView OutEntry). in_order out_key v.items) (sym c.self.view_is) ∙ list_ordered out_key out_joined (λ o r. refl) c.self.inside.list c.self.invariant
