use Rattle.std.proofs.Common.{◌≡◌, [], ◌∷◌, ◌++◌, None, nat_eq, ◌∙◌, rules}
use Rattle.indexmap.proofs.CallerLemmas.{insert_entry-new}
use Rattle.wire_codec.specs.Frames.{key_in}
use Rattle.wire_codec.proofs.Tables.{looked_up}
use Rattle.wire_codec.proofs.keys.Keys.put.Goals as goal

pub returns-clause-ok : goal.returns-clause-ok
returns-clause-ok c =
    let table = c.self.inside.rows in
    let peer = c.peer.inside.0 in
    let none : key_in c.args.self.now c.args.peer ≡ None = search rules in
    c.in_ok-insert.ensures.entries
    ∙ insert_entry-new nat_eq table peer c.args.key (looked_up table.entries peer ∙ (λ i. key_in (c.self.view_is i) (c.peer.view_is i)) ∙ none)
    ∙ (λ i. c.self.view_is i ++ (c.peer.view_is i, c.args.key) ∷ [])
