-- How many of the lowest bits of a number are ones.
use Rattle.std.specs.Prelude.{ℕ, zero, suc, ◌+◌, ◌/◌, ◌%◌}

abbrev pub coverage : ℕ → ℕ → ℕ
coverage bits zero = 0
coverage bits (suc n) = bits % 2 + coverage (bits / 2) n
