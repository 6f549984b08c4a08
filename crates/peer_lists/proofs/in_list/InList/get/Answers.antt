use Rattle.std.proofs.Common.{refl, ap, ◌∙◌, sym}
use Rattle.psb_model.specs.State.{in_key}
use Rattle.peer_lists.specs.Joined.{in_joined}
use Rattle.peer_lists.specs.ListViews.{ListView}
use Rattle.peer_lists.specs.Entries.{in_order}
use Rattle.peer_lists.proofs.Both.{list_ordered}
use Rattle.psb_model.specs.declared.entries.InEntry.{InEntry}
use Rattle.peer_lists.proofs.in_list.InList.get.Goals as goal

pub returns-clause-ordered : goal.returns-clause-ordered
returns-clause-ordered c = ap (λ (v : ListView InEntry). in_order in_key v.items) (sym c.self.view_is) ∙ list_ordered in_key in_joined (λ o r. refl) c.self.inside.list c.self.invariant
