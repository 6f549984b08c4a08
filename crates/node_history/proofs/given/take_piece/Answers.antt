use Rattle.std.specs.List.{copy_within}
use Rattle.std.proofs.Common.{◌≡◌, ◌*◌, ◌+◌, length, List, ℕ, take, refl, sym, ◌∙◌, ap, arith}
use Rattle.node_history.proofs.GivenBytes.{front_of, piece_taken}
use Rattle.node_history.proofs.given.take_piece.Goals as goal

pub returns-clause-piece : goal.returns-clause-piece
returns-clause-piece c = λ long.
    let xs = c.args.body.now.items in
    let ys = c.copy_within.new.self in
    let full : c.args.body.now.len ≡ length xs = sym c.as_mut_slice.ensures.len ∙ ap length c.as_mut_slice.ensures.value in
    let start_is : c.saturating_mul-start.result ≡ 512 * c.args.place = omega (arith, c.saturating_mul-start.ensures, long) in
    (refl, c.truncate.ensures.items ∙ front_of xs ys c.args.body.now.len 512 full (c.copy_within.ensures.len ∙ ap length c.as_mut_slice.ensures.value) ∙ ap (take 512) c.copy_within.ensures.after ∙ ap (λ (l : List ℕ). take 512 (copy_within l c.saturating_mul-start.result (c.saturating_mul-start.result + 512) 0)) c.as_mut_slice.ensures.value ∙ piece_taken xs c.saturating_mul-start.result c.args.place start_is long)
