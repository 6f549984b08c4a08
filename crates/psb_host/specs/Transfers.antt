-- What is read from a file and written to it at a place, where the file tells its bytes.
use Rattle.std.specs.Prelude.{◌≡◌, ℕ, List, length, take, min, Option, Some, IfSome}

-- so many bytes came: as many as stand there, at most the buffer's length
abbrev pub Fills : Option (List ℕ) → ℕ → List ℕ → Type 0
Fills remaining count buffer = IfSome remaining (λ bytes. (count ≡ min (length buffer) (length bytes)) × (take count buffer ≡ take count bytes))

-- a file that told its position went to this one
abbrev pub WentTo : Option ℕ → Option ℕ → ℕ → Type 0
WentTo old new at = IfSome old (λ _. new ≡ Some at)
