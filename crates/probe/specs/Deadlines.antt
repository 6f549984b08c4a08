-- When the answer to a probe is late.
use Rattle.std.specs.Prelude.{ℕ, ◌-◌, Bool, nat_le}

-- a probe that began at one count of ticks has no answer at another, eight or more later
abbrev pub is_late : ℕ → ℕ → Bool
is_late began clock = nat_le 8 (clock - began)
