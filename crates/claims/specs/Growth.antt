-- How much of a list may stand empty.
use Rattle.std.specs.Prelude.{ℕ, ◌+◌, ◌*◌, ◌≤◌, max}

-- a list with room for so many items has little to spare: an eighth of what is in it, or 1,024 items
abbrev pub IsTight : ℕ → ℕ → Type 0
IsTight capacity len = 8 * capacity ≤ 8 * len + max len (8 * 1024)
