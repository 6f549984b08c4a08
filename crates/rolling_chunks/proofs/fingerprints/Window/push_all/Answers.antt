use Rattle.std.proofs.Common.{◌≡◌, ℕ, ◌-◌, ◌≤◌, List, ◌++◌, length, take, drop, sym, ap, ◌∙◌, arith, append-nil, length-drop}
use Rattle.std.proofs.lemmas.List.{take_all}
use Rattle.circular_buffer.specs.Buffer.{keep_last}
use Rattle.rolling_chunks.proofs.Windows.{keep_last-byte, keep_last-last}
use Rattle.rolling_chunks.proofs.fingerprints.Window.push_all.Goals as goal

pub loop-byte-init : goal.loop-byte-init
loop-byte-init c = λ text at. at ∙ ap (keep_last 48) (sym (append-nil text))

pub loop-byte-preserved : goal.loop-byte-preserved
loop-byte-preserved c = λ text at.
    let bytes = c.args.bytes.now in
    let k = c.saturating_sub.result in
    let last : List ℕ = take (length bytes - k) (drop k bytes) in
    keep_last-byte text last c.loop-byte.self c.push.new.self c.loop-byte.byte-index c.loop-byte-test.true (c.loop-byte.invariant text at) c.push.ensures.bytes

pub returns : goal.returns
returns c = λ text at.
    let bytes = c.args.bytes.now in
    let k = c.saturating_sub.result in
    let last : List ℕ = take (length bytes - k) (drop k bytes) in
    let whole : take c.loop-byte.byte-index last ≡ last = take_all c.loop-byte.byte-index last c.loop-byte-test.false in
    let short : length (drop k bytes) ≤ length bytes - k = omega (arith, length-drop k bytes) in
    let is : last ≡ keep_last 48 bytes = take_all (length bytes - k) (drop k bytes) short ∙ ap (λ (n : ℕ). drop n bytes) c.saturating_sub.ensures in
    c.loop-byte.invariant text at ∙ ap (λ (l : List ℕ). keep_last 48 (text ++ l)) (whole ∙ is) ∙ keep_last-last text bytes
