-- What a cutter knows, and what its calls answer, for any text that was pushed since it was new.
use Rattle.std.specs.Prelude.{◌≡◌, ℕ, ◌+◌, ◌-◌, ◌<◌, ◌↔◌, Bool, if◌then◌else◌, List, [], ◌∷◌, ◌++◌, length, sum, Contains, Option, option_to_list, IsSome}
use Rattle.circular_buffer.specs.Buffer.{keep_last}
use Rattle.rolling_chunks.specs.Cuts.{standing_cuts, last_after, chunk_lengths, standing_lengths}

-- the last 48 bytes, and how many bytes came after the last cut
pub record Progress : Type 0 where
  pub window : List ℕ
  pub len : ℕ

-- what is known after a text
unfoldable pub progress : ℕ → List ℕ → Progress
progress m text = record { window = keep_last 48 text; len = length text - last_after 0 (standing_cuts m text) }

-- a push of one byte
pub record IsPush (m : ℕ) (old : Progress) (byte : ℕ) (answer : Option ℕ) (new : Progress) : Type 0 where
  pub follows : (text : List ℕ) → old ≡ progress m text → new ≡ progress m (text ++ byte ∷ [])
  -- an answer exactly where the text has a cut behind the byte however it goes on
  pub cut : (text : List ℕ) → old ≡ progress m text → IsSome answer ↔ Contains (standing_cuts m (text ++ byte ∷ [])) (length text + 1)
  pub lengths : (text : List ℕ) → old ≡ progress m text → standing_lengths m (text ++ byte ∷ []) ≡ standing_lengths m text ++ option_to_list answer

-- what follows the standing chunks of a text: the bytes behind them, where a chunk ends with them
abbrev pub last_length : Bool → List ℕ → List ℕ → List ℕ
last_length ends before text = if ends then (length text - sum before) ∷ [] else []

-- Bytes were pushed, of which none but the last ends a chunk, and that one where it is said to.
pub record Runs (m : ℕ) (old : Progress) (bytes : List ℕ) (ends : Bool) (new : Progress) : Type 0 where
  pub follows : (text : List ℕ) → old ≡ progress m text → new ≡ progress m (text ++ bytes)
  pub lengths : (text : List ℕ) → old ≡ progress m text → standing_lengths m (text ++ bytes) ≡ standing_lengths m text ++ last_length ends (standing_lengths m text) (text ++ bytes)

-- the end of the text
pub record IsFinish (m : ℕ) (old : Progress) (answer : Option ℕ) (new : Progress) : Type 0 where
  pub anew : new ≡ progress m []
  pub left_over : IsSome answer ↔ (0 < old.len)
  pub lengths : (text : List ℕ) → old ≡ progress m text → chunk_lengths m text ≡ standing_lengths m text ++ option_to_list answer
