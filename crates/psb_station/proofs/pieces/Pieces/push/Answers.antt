use Rattle.std.proofs.Common.{◌≡◌, ◌++◌, [], ◌∷◌, List, ℕ, length, map, ◌∙◌, ap}
use Rattle.psb_station.specs.Pieces.{labelled_of}
use Rattle.psb_station.specs.declared.pieces.Labelled.{Labelled}
use Rattle.psb_station.proofs.Grown.{pieces_put}
use Rattle.psb_station.proofs.pieces.Pieces.push.Goals as goal

pub returns : goal.returns
returns g c =
    let p = c.args.self.now in
    let more = c.args.content.now in
    let now = c.put-piece.new.bytes.items in
    let x : Labelled _ = record { label = c.args.label; piece = c.put-piece.result } in
    let grown : now ≡ p.bytes.items ++ more = c.put-piece.ensures.put in
    ap (λ (l : List (Labelled _)). map (labelled_of now) l) c.push_reserved.ensures.items
    ∙ ap (λ (b : List ℕ). map (labelled_of b) (p.list.items ++ x ∷ [])) grown
    ∙ pieces_put p.bytes.items more p.list.items x c.put-piece.ensures.begin (c.put-piece.ensures.end ∙ ap (λ (l : List ℕ). length l) grown) p.within
