use Rattle.std.proofs.Common.{◌≡◌, None, sym, ap, ◌∙◌, rules}
use Rattle.own_chunks.specs.OwnList.{known_len, own_units}
use Rattle.own_chunks.proofs.OwnTrees.{units_none}
use Rattle.own_chunks.proofs.own.Own.units_of.Goals as goal

pub returns-in-None : goal.returns-in-None
returns-in-None c =
    let none : None ≡ known_len c.args.self.now.items c.in-Some.n = search rules in
    c.units_of.ensures ∙ units_none c.args.self.now.items c.in-Some.n none ∙ ap (own_units c.args.self.now.items) (sym c.in-Some.is)
