-- The names of which paths are made.
use Rattle.std.specs.Prelude.{ℕ, Bool, not, ◌&&◌, ◌==◌, List, length, bytes_eq, codes}
use Rattle.std.specs.List.{list_all, list_any, slice_split}
use Rattle.std.specs.Str.{is_utf8}

abbrev pub is_slash : ℕ → Bool
is_slash b = b == 47

-- what may stand between two slashes: not empty, without NUL, and neither `.` nor `..`
abbrev pub is_name : List ℕ → Bool
is_name part = not (length part == 0) && (not (list_any (λ b. b == 0) part) && (not (bytes_eq part (codes ".")) && not (bytes_eq part (codes ".."))))

-- the parts of a path
abbrev pub parts : List ℕ → List (List ℕ)
parts path = slice_split is_slash path

-- what a path is, of any length: UTF-8 whose parts are names
abbrev pub has_names : List ℕ → Bool
has_names path = is_utf8 path && list_all is_name (parts path)
