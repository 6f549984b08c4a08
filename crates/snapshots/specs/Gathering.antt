-- A chunk that is put together of the bytes of a text.
use Rattle.std.specs.Prelude.{◌≡◌, ℕ, ◌≤◌, Bool, true, false, if◌then◌else◌, List, [], ◌++◌, length, take}
use Rattle.rolling_chunks.specs.Cuts.{longest, standing_lengths, chunk_lengths}
use Rattle.rolling_chunks.specs.Pushes.{Progress, progress, Runs, last_length}

-- what the cutter knows, the bytes of the chunk, and whether it ended
pub record Gathered : Type 0 where
  pub cutter : Progress
  pub bytes : List ℕ
  pub whole : Bool

-- the bytes of the chunk that did not end yet
abbrev pub begun : Gathered → List ℕ
begun g = if g.whole then [] else g.bytes

-- at the start of a text
abbrev pub nothing_gathered : Gathered
nothing_gathered = record { cutter = progress longest []; bytes = []; whole = false }

-- The cutter was fed some text, and the bytes begun are those behind its last cut. There is room for the
-- longest chunk.
pub record IsGathered (g : Gathered) (capacity : ℕ) : Type 0 where
  pub text : List ℕ
  pub fed : g.cutter ≡ progress longest text
  pub long : length (begun g) ≡ g.cutter.len
  pub short : length g.bytes ≤ longest
  pub room : longest ≤ capacity

-- so many bytes of these were taken: those up to the end of the chunk, or all
pub record Takes (old : Gathered) (bytes : List ℕ) (count : ℕ) (new : Gathered) : Type 0 where
  pub within : count ≤ length bytes
  pub some : new.whole ≡ true → 1 ≤ count
  pub all : new.whole ≡ false → count ≡ length bytes
  pub bytes_are : new.bytes ≡ begun old ++ take count bytes
  pub runs : Runs longest old.cutter (take count bytes) new.whole new.cutter

-- the text ended: the bytes that are left over are its last chunk
pub record Finishes (old : Gathered) (left : Bool) (new : Gathered) : Type 0 where
  pub anew : new.cutter ≡ progress longest []
  pub bytes_are : new.bytes ≡ begun old
  pub some : left ≡ true → 1 ≤ length (begun old)
  pub none : left ≡ false → begun old ≡ []
  pub lengths : (text : List ℕ) → old.cutter ≡ progress longest text
      → chunk_lengths longest text ≡ standing_lengths longest text ++ last_length left (standing_lengths longest text) text
