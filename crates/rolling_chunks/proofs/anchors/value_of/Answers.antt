use Rattle.std.proofs.Common.{◌≡◌, ℕ, ◌+◌, ◌*◌, ◌<◌, List, length, take, get_or, sym, subst, arith}
use Rattle.std.proofs.lemmas.List.{take_more}
use Rattle.rolling_chunks.specs.Steps.{StandsFor}
use Rattle.rolling_chunks.proofs.Loose.{parts_of, StandsFor-nil, StandsFor-push}
use Rattle.rolling_chunks.proofs.anchors.value_of.Goals as goal

pub loop-byte-init : goal.loop-byte-init
loop-byte-init c = StandsFor-nil

pub loop-byte-preserved : goal.loop-byte-preserved
loop-byte-preserved c =
    let window = c.args.window.now in
    let i = c.loop-byte.byte-index in
    let within : i < length window = omega arith in
    let byte : ℕ = get_or window i 0 in
    let small : byte < 256 = omega (arith, c.type_inv.window i) in
    let is : c.folded.result + c.from.result + 1 ≡ parts_of (c.loop-byte.value * 1099511628211) + byte + 1 = omega arith in
    subst (λ (w : List ℕ). StandsFor (c.folded.result + c.from.result + 1) w) (sym (take_more window i 0 within))
    (StandsFor-push c.loop-byte.value (c.folded.result + c.from.result + 1) byte (take i window) c.loop-byte.invariant small is)
