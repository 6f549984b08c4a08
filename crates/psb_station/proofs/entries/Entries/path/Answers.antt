use Rattle.std.proofs.Common.{◌≡◌, ◌<◌, List, ℕ, length, Some, arith, sym, ap, subst, ◌∙◌}
use Rattle.std.proofs.lemmas.List.{length-map}
use Rattle.std.specs.Prelude.{slice_get}
use Rattle.std.specs.Str.{IsUtf8}
use Rattle.psb_station.specs.Entry.{entry_in}
use Rattle.psb_station.specs.Piece.{piece_of}
use Rattle.psb_station.specs.Entries.{entries_of}
use Rattle.psb_station.specs.declared.node.Node.{Node}
use Rattle.psb_station.proofs.Places.{stands, text_at, read_ok, read_is}
use Rattle.psb_station.proofs.Spans.{if_some, same_some}
use Rattle.psb_station.proofs.entries.Entries.path.Goals as goal

pub unwrap-requires : goal.unwrap-requires
unwrap-requires c =
    let m = c.args.self.now in
    let e = c.index.result.now in
    let lt : c.args.i < length m.list.items = omega (arith, c.requires, length-map m.list.items (entry_in m.paths.items)) in
    let at : slice_get (entries_of m) c.args.i ≡ Some (entry_in m.paths.items e) = stands (entry_in m.paths.items) m.list.items c.args.i e lt c.index.ensures in
    let bytes : c.of.result.now ≡ piece_of m.paths.items e.path = c.of.ensures ∙ ap (λ (b : List ℕ). piece_of b e.path) c.deref.ensures.value in
    let text : IsUtf8 c.of.result.now = subst IsUtf8 (sym bytes) (text_at (entries_of m) c.args.i (entry_in m.paths.items e) m.names at) in
    read_ok c.from_utf8.result _ _ c.from_utf8.ensures.cases (λ x bad. bad.0 text)

pub returns : goal.returns
returns c =
    let m = c.args.self.now in
    let e = c.index.result.now in
    let lt : c.args.i < length m.list.items = omega (arith, c.requires, length-map m.list.items (entry_in m.paths.items)) in
    let at : slice_get (entries_of m) c.args.i ≡ Some (entry_in m.paths.items e) = stands (entry_in m.paths.items) m.list.items c.args.i e lt c.index.ensures in
    let bytes : c.of.result.now ≡ piece_of m.paths.items e.path = c.of.ensures ∙ ap (λ (b : List ℕ). piece_of b e.path) c.deref.ensures.value in
    let read = read_is c.from_utf8.result c.unwrap.result _ _ c.from_utf8.ensures.cases c.unwrap.ensures in
    if_some (slice_get (entries_of m) c.args.i) (λ x. c.unwrap.result.now ≡ x.0) (λ x is. read.0 ∙ bytes ∙ ap (λ (y : List ℕ × Node). y.0) (same_some (slice_get (entries_of m) c.args.i) (entry_in m.paths.items e) x at is))
