-- How often entries are let go.
use Rattle.std.specs.Prelude.{ℕ, nat_lt, Bool, true, ◌==◌, if◌then◌else◌}
use Rattle.discard_policy.specs.declared.grades.Grade.{Grade}
use Rattle.discard_policy.specs.declared.grades.Grade.TheVariants.{Nothing, OneIn, All}

-- one entry in how many: 0 stands for none
abbrev pub every : Grade → ℕ
every Nothing = 0
every (OneIn n) = n
every All = 1

-- the grade of one entry in so many
abbrev pub grade_of : ℕ → Grade
grade_of n = if n == 0 then Nothing else if n == 1 then All else OneIn n

-- there is no one in 0
abbrev pub is_grade : Grade → Bool
is_grade Nothing = true
is_grade (OneIn n) = nat_lt 0 n
is_grade All = true
