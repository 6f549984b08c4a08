-- The chunks of a text as spans of it.
use Rattle.std.specs.Prelude.{ℕ, ◌+◌, List, [], ◌∷◌}
use Rattle.rolling_chunks.specs.declared.spans.Span.{Span}
use Rattle.rolling_chunks.specs.Cuts.{chunk_lengths}

-- spans of these lengths side by side, the first from a place on
unfoldable pub spans_from : ℕ → List ℕ → List Span
spans_from start [] = []
spans_from start (len ∷ lens) = record { start = start; len = len } ∷ spans_from (start + len) lens

unfoldable pub spans : ℕ → List ℕ → List Span
spans m text = spans_from 0 (chunk_lengths m text)
