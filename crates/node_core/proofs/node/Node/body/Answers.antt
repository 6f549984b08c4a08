use Rattle.std.proofs.Common.{◌≡◌, None, true, false, ◌∙◌, rules}
use Rattle.chunk_store.specs.Store.{record_of}
use Rattle.node_history.proofs.Presence.{one_there}
use Rattle.node_history.proofs.Brought.{read_exact}
use Rattle.node_history.proofs.Less.{last_bytes_less, names_less}
use Rattle.node_history.proofs.Named.{named_there}
use Rattle.node_core.proofs.node.Node.body.Goals as goal

pub read-requires-clause-below : goal.read-requires-clause-below
read-requires-clause-below g c =
    let whole : g.L.Log.is_broken c.args.self.now.log ≡ false = search rules in
    one_there (record_of c.args.self.now.names c.args.name.now) _ (λ k is. ((c.requires.counted whole).bodies c.args.name.now k is).0)

pub read-requires-clause-there : goal.read-requires-clause-there
read-requires-clause-there g c =
    let whole : g.L.Log.is_broken c.args.self.now.log ≡ false = search rules in
    one_there (record_of c.args.self.now.names c.args.name.now) _ (λ k is. ((c.requires.counted whole).bodies c.args.name.now k is).1)

pub returns-in-Ok-clause-bytes : goal.returns-in-Ok-clause-bytes
returns-in-Ok-clause-bytes g c = λ is tells n k s.
    let whole : g.L.Log.is_broken c.args.self.now.log ≡ false = search rules in
    let names = c.args.self.now.names in
    let log = c.args.self.now.log in
    let name = c.args.name.now in
    let some : record_of names name ≡ None → ⊥ = λ none. (let yes : c.in-Ok.there ≡ true = cc (is) in let no = c.in-Ok.ensures.none.1 none in absurd (cc (c.in-Ok.is, no, yes))) in
    last_bytes_less n.history s.less name s.is_less s.valid names (names_less names n.history s.less s.is_less k.names) some
    ∙ read_exact names s.less s.records name _ (g.L.Log.size log) (names_less names n.history s.less s.is_less k.names) s.decoded some (c.requires.counted whole).bodies (g.met.L.Log.holds_size log s.records s.shows.bytes s.shows.reads) (c.in-Ok.ensures.bytes tells s.records s.shows)

pub returns-in-Ok-clause-named : goal.returns-in-Ok-clause-named
returns-in-Ok-clause-named g c = λ is tells n k s.
    let some : record_of c.args.self.now.names c.args.name.now ≡ None → ⊥ = λ none. (let yes : c.in-Ok.there ≡ true = cc (is) in let no = c.in-Ok.ensures.none.1 none in absurd (cc (c.in-Ok.is, no, yes))) in
    named_there c.args.self.now.names n.history c.args.name.now _ k.valid k.names some (returns-in-Ok-clause-bytes g c is tells n k s)
