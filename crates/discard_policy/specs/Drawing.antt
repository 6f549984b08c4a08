-- The words that a reader draws in turn.
use Rattle.std.specs.Prelude.{ℕ, zero, suc, ◌+◌, ◌%◌, ◌^◌}
use Rattle.psb_digest.specs.Words.{Reader, word}

-- the reader after so many words
abbrev pub past : Reader → ℕ → Reader
past r zero = r
past r (suc n) = let s = past r n in record s { place = (s.place + 1) % 2 ^ 68 }

-- the word that it draws after so many others
abbrev pub drawn : Reader → ℕ → ℕ
drawn r j = let s = past r j in word s.key s.stream s.place
