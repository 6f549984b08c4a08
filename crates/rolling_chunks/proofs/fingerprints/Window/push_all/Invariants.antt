use Rattle.std.proofs.Common.{◌≡◌, ℕ, List, ◌++◌, take}
use Rattle.circular_buffer.specs.Buffer.{keep_last}
use Rattle.rolling_chunks.proofs.fingerprints.Window.push_all.Given as goal

abbrev pub invariant-loop-byte : goal.invariant-loop-byte
invariant-loop-byte l = (text : List ℕ) → l.fn.self ≡ keep_last 48 text → l.self ≡ keep_last 48 (text ++ take l.byte-index l.byte-items)
