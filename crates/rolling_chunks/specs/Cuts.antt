-- Where a text is cut by its content (cutting by content is of Pastiche, OSDI 2002).
use Rattle.std.specs.Prelude.{ℕ, zero, suc, ◌+◌, ◌-◌, ◌%◌, Bool, ◌&&◌, ◌||◌, ◌==◌, nat_le, if◌then◌else◌, List, [], ◌∷◌, length, take, drop, Option, Some, None}
use Rattle.std.specs.Option.{option_map_or}
use Rattle.psb_bytes.specs.Units.{longest_chunk}
use Rattle.rolling_chunks.specs.Fingerprints.{fingerprint}

-- the greatest length of a chunk; the definitions take any as m
abbrev pub longest : ℕ
longest = longest_chunk

-- the 48 bytes before a place
abbrev pub window_before : List ℕ → ℕ → List ℕ
window_before text e = take 48 (drop (e - 48) text)

unfoldable pub is_anchor : List ℕ → ℕ → Bool
is_anchor text e = nat_le 48 e && (fingerprint (window_before text e) % 8192 == 4095)

-- whether a chunk from place c may end at place e of a text that goes on
unfoldable pub may_end : ℕ → List ℕ → ℕ → ℕ → Bool
may_end m text c e = nat_le 2048 (e - c) && ((e - c == m) || is_anchor text e)

-- whether it may end there where the text may end there too
unfoldable pub may_end_or_stop : ℕ → List ℕ → ℕ → ℕ → Bool
may_end_or_stop m text c e = (e == length text) || may_end m text c e

-- the least place that passes the test, of n places from k on
unfoldable pub least : (ℕ → Bool) → ℕ → ℕ → Option ℕ
least test k zero = None
least test k (suc n) = if test k then Some k else least test (k + 1) n

-- The cuts after c, up to place n: the least place that the rule lets the chunk from c end at, and
-- then again from there. Each cut takes a place at least, so n turns are enough.
unfoldable pub cuts_after : (ℕ → ℕ → Bool) → ℕ → ℕ → ℕ → List ℕ
cuts_after rule n zero c = []
cuts_after rule n (suc turns) c =
    option_map_or (λ e. e ∷ cuts_after rule n turns e) (least (rule c) (c + 1) (n - c)) []

-- the places where the text is cut
unfoldable pub cuts : ℕ → List ℕ → List ℕ
cuts m text = cuts_after (may_end_or_stop m text) (length text) (length text) 0

-- those of them that stand however the text goes on
unfoldable pub standing_cuts : ℕ → List ℕ → List ℕ
standing_cuts m text = cuts_after (may_end m text) (length text) (length text) 0

-- the last of the places, or c where there is none
unfoldable pub last_after : ℕ → List ℕ → ℕ
last_after c [] = c
last_after c (e ∷ es) = last_after e es

-- the lengths of the chunks that end at these places, the first from c
unfoldable pub lengths_after : ℕ → List ℕ → List ℕ
lengths_after c [] = []
lengths_after c (e ∷ es) = (e - c) ∷ lengths_after e es

abbrev pub chunk_lengths : ℕ → List ℕ → List ℕ
chunk_lengths m text = lengths_after 0 (cuts m text)

abbrev pub standing_lengths : ℕ → List ℕ → List ℕ
standing_lengths m text = lengths_after 0 (standing_cuts m text)
