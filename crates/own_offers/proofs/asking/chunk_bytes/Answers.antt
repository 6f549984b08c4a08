use Rattle.std.proofs.Common.{◌≡◌, ◌<◌, length, false, rules, arith, sym, ◌∙◌}
use Rattle.std.proofs.lemmas.Bool.{true≢false}
use Rattle.chunk_store.specs.Store.{record_of}
use Rattle.node_history.proofs.Presence.{one_there}
use Rattle.node_history.proofs.Brought.{read_exact}
use Rattle.own_offers.proofs.Chunks.{brought_chunk, some_there}
use Rattle.own_offers.proofs.asking.chunk_bytes.Goals as goal
use Rattle.own_offers.proofs.asking.chunk_bytes.Goals.{then-not-there-via-then-not-there, then-not-there-via-else-not-there+then-len-lt1, then-not-there-via-else-not-there+else-len-lt1+then-len}

pub read-requires-clause-below : goal.read-requires-clause-below
read-requires-clause-below g c = one_there (record_of c.args.names.now c.args.name.now) _ (λ k is. (c.requires.there c.args.name.now k is).0)

pub read-requires-clause-there : goal.read-requires-clause-there
read-requires-clause-there g c = one_there (record_of c.args.names.now c.args.name.now) _ (λ k is. (c.requires.there c.args.name.now k is).1)

pub returns-then-not-there-clause-exact : goal.returns-then-not-there-clause-exact
returns-then-not-there-clause-exact g c = λ tells h es valid knows are shows held.
    let names = c.args.names.now in
    let name = c.args.name.now in
    let log = c.args.log.now in
    let bytes = c.read.new.into.items in
    let at = some_there names h name c.in-Ok.there knows held (λ no. c.in-Ok.ensures.none.0 (cc (no))) in
    let chunk =
    brought_chunk h name bytes valid
    (read_exact names h es name _ (g.L.Log.size log) knows are at.1 c.requires.there (g.met.L.Log.holds_size log es shows.bytes shows.reads) (c.in-Ok.ensures.bytes tells es shows)) in
    elim c.then-not-there.branch [
      | then-not-there-via-then-not-there w ↦ (let no : c.in-Ok.there ≡ false = search rules in absurd (true≢false (sym at.0 ∙ no)))
      | then-not-there-via-else-not-there+then-len-lt1 w ↦ (let none : length bytes < 1 = search rules in absurd (omega (arith, none, chunk.some)))
      | then-not-there-via-else-not-there+else-len-lt1+then-len w ↦ (let long : 32768 < length bytes = search rules in absurd (omega (arith, long, chunk.short)))
    ]

pub returns-clause-exact : goal.returns-clause-exact
returns-clause-exact g c = λ tells h es valid knows are shows held.
    let names = c.args.names.now in
    let name = c.args.name.now in
    let log = c.args.log.now in
    let at = some_there names h name c.in-Ok.there knows held (λ no. c.in-Ok.ensures.none.0 (cc (no))) in
    sym (read_exact names h es name _ (g.L.Log.size log) knows are at.1 c.requires.there (g.met.L.Log.holds_size log es shows.bytes shows.reads) (c.in-Ok.ensures.bytes tells es shows))
