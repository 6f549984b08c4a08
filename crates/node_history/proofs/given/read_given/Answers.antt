use Rattle.std.proofs.Common.{rules, ◌≡◌, ℕ, List, Option, false, Some, IfSome, slice_get, sym, subst}
use Rattle.psb_station.specs.Span.{Shows, Tells_bytes}
use Rattle.psb_station.proofs.Spans.{shows_keeps}
use Rattle.node_journal.specs.Entry.{Entry}
use Rattle.node_history.specs.Given.{IsPlaceIn}
use Rattle.node_history.proofs.GivenBytes.{no_place, no_body, piece_found}
use Rattle.node_history.proofs.given.read_given.Goals as goal

pub returns-in_default-clause-bytes : goal.returns-in_default-clause-bytes
returns-in_default-clause-bytes g c = λ tells es shows.
    no_place (slice_get es c.args.number) c.args.slot c.as_slice.result.now c.head.new.into.items
    (subst (λ (l : List ℕ). IfSome (slice_get es c.args.number) (λ e. l ≡ e.head)) (sym c.as_slice.ensures.value) (c.in_ok-head.ensures.bytes tells es shows))
    (subst (λ (o : Option ℕ). IsPlaceIn o c.args.slot c.as_slice.result.now) c.in_default.is c.in_ok-place.ensures.place)

pub returns-then-not-has_body-clause-bytes : goal.returns-then-not-has_body-clause-bytes
returns-then-not-has_body-clause-bytes g c = λ tells es shows.
    no_body (slice_get es c.args.number) c.args.slot (g.L.Log.keeps_body c.args.log.now c.args.number) c.head.new.into.items
    (g.met.L.Log.holds_bodies c.args.log.now es shows.bytes c.args.number shows.reads)
    (let kept : g.L.Log.keeps_body c.args.log.now c.args.number ≡ false = search rules in kept)

pub returns-clause-bytes : goal.returns-clause-bytes
returns-clause-bytes g c = λ tells es shows.
    let told = c.in_ok-body.ensures.keeps.works.tells tells in
    let log = c.args.log.now in
    let mid = g.D.Disk.view c.head.new.disk in
    let read : Tells_bytes (g.D.Disk.view c.body.new.disk) → (es : List Entry) → Shows (g.L.Log.holds log es) mid → IfSome (slice_get es c.args.number) (λ e. e.body ≡ Some c.body.new.into.items) =
    subst (λ (l : g.row.L.Denot). Tells_bytes (g.D.Disk.view c.body.new.disk) → (es : List Entry) → Shows (g.L.Log.holds l es) mid → IfSome (slice_get es c.args.number) (λ e. e.body ≡ Some c.body.new.into.items)) c.in_ok-head.ensures.log c.in_ok-body.ensures.bytes in
    piece_found (slice_get es c.args.number) c.args.slot c.in-Some.place c.as_slice.result.now c.body.new.into.items c.take_piece.new.body.items c.take_piece.result
    (subst (λ (l : List ℕ). IfSome (slice_get es c.args.number) (λ e. l ≡ e.head)) (sym c.as_slice.ensures.value) (c.in_ok-head.ensures.bytes told es shows))
    (read tells es (shows_keeps (g.L.Log.holds log es) (g.D.Disk.view c.args.disk.now) mid c.in_ok-head.ensures.keeps told shows))
    (subst (λ (o : Option ℕ). IsPlaceIn o c.args.slot c.as_slice.result.now) c.in-Some.is c.in_ok-place.ensures.place)
    c.take_piece.ensures.piece
