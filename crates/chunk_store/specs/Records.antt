-- Records by name.
use Rattle.std.specs.Prelude.{ℕ, Option, Some, None}

-- the first record, or else the second
abbrev pub or_else : Option ℕ → Option ℕ → Option ℕ
or_else (Some record_no) other = Some record_no
or_else None other = other
