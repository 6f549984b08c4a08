use Rattle.std.proofs.Common.{◌≡◌, is_some, None, sym, ap, ◌∙◌}
use Rattle.std.proofs.lemmas.Bool.{false≢true}
use Rattle.psb_model.specs.Needed.{last_brought}
use Rattle.psb_model.proofs.ByObject.{by_cases}
use Rattle.chunk_store.specs.Store.{record_of}
use Rattle.node_history.proofs.Presence.{one_there}
use Rattle.node_history.proofs.Brought.{read_exact}
use Rattle.node_facts.proofs.Probed.{is_read}
use Rattle.node_facts.proofs.bytes.read_chunk.Goals as goal

pub read-requires-clause-below : goal.read-requires-clause-below
read-requires-clause-below g c = one_there (record_of c.args.names.now c.args.name.now) _ (λ k is. (c.requires.there c.args.name.now k is).0)

pub read-requires-clause-there : goal.read-requires-clause-there
read-requires-clause-there g c = one_there (record_of c.args.names.now c.args.name.now) _ (λ k is. (c.requires.there c.args.name.now k is).1)

pub returns-in-Ok-clause-bytes : goal.returns-in-Ok-clause-bytes
returns-in-Ok-clause-bytes g c = λ tells h es knows are shows held.
    let names = c.args.names.now in
    let name = c.args.name.now in
    let log = c.args.log.now in
    is_read c.in-Ok.there c.read.new.into.items (last_brought name h)
    (λ yes.
    let some : record_of names name ≡ None → ⊥ = λ none. (let no = c.in-Ok.ensures.none.1 none in absurd (cc (c.in-Ok.is, no, yes))) in
    read_exact names h es name _ (g.L.Log.size log) knows are some c.requires.there (g.met.L.Log.holds_size log es shows.bytes shows.reads) (c.in-Ok.ensures.bytes tells es shows))
    (λ no.
    let none : record_of names name ≡ None = c.in-Ok.ensures.none.0 (cc (c.in-Ok.is, no)) in
    absurd (false≢true (ap is_some (sym none) ∙ knows.held name ∙ held)))

pub returns-in-Ok-clause-some : goal.returns-in-Ok-clause-some
returns-in-Ok-clause-some g c = λ h knows held.
    let name = c.args.name.now in
    by_cases c.in-Ok.there (λ yes. yes)
    (λ no.
    let none : record_of c.args.names.now name ≡ None = c.in-Ok.ensures.none.0 (cc (c.in-Ok.is, no)) in
    absurd (false≢true (ap is_some (sym none) ∙ knows.held name ∙ held)))
