-- Units: what a chunk weighs in the accounts of two peers.
use Rattle.std.specs.Prelude.{ℕ, ◌+◌, ◌/◌, max}

-- a unit is 512 bytes, and every chunk has at least one
abbrev pub units : ℕ → ℕ
units len = max 1 ((len + 511) / 512)

-- the most bytes that a chunk has
abbrev pub longest_chunk : ℕ
longest_chunk = 32768
