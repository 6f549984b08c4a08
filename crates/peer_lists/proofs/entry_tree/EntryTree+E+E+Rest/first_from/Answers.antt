use Rattle.std.proofs.Common.{Some, ap, ◌∙◌, rules}
use Rattle.peer_lists.proofs.Trees.{by_object}
use Rattle.peer_lists.proofs.Walks.{first_none, first_some}
use Rattle.peer_lists.proofs.entry_tree.EntryTree+E+E+Rest.first_from.Goals as goal

pub returns-in_err-object : goal.returns-in_err-object
returns-in_err-object g c = c.from_residual.ensures ∙ first_none g.E.Entry.key g.E.Entry.joined g.met.E.Entry.key_joined _ by_object c.args.start c.args.self.now.tree.entries c.range.result (c.range.ensures.between tt) (search rules)

pub returns : goal.returns
returns g c = ap (λ e. Some e) c.join.ensures ∙ first_some g.E.Entry.key g.E.Entry.joined g.met.E.Entry.key_joined _ by_object c.args.start c.args.self.now.tree.entries c.range.result c.next.new.self c.in_ok-object.object.now c.in_ok-object.rest.now (c.range.ensures.between tt) (search rules)
