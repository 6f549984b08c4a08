-- A walk over the latest, up to the one at the object.
use Rattle.std.proofs.Common.{rules}
use Rattle.std.proofs.lemmas.Iterator.{YieldsList-from_slice}
use Rattle.std.proofs.lemmas.Iterator.Search.{find_from_yields_List}
use Rattle.psb_model.specs.Words.{object_eq}
use Rattle.peer_lists.proofs.entry_tree.waiting.Goals as goal

pub returns : goal.returns
returns g c = find_from_yields_List (λ e. object_eq (g.E.Entry.key e) c.args.object.now) _ _ _ c.find.ensures.ran (YieldsList-from_slice c.args.latest.now c.iter.ensures.rest) (λ x b q called. search rules)
