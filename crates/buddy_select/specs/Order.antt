-- Candidates put in order one after another.
use Rattle.std.specs.Prelude.{ℕ, suc, if◌then◌else◌, List, [], ◌∷◌}
use Rattle.psb_model.specs.declared.entries.Candidate.{Candidate}
use Rattle.psb_model.specs.Candidates.{comes_before}

-- in its place
abbrev pub put_in : Candidate → List Candidate → List Candidate
put_in x [] = x ∷ []
put_in x (y ∷ ys) = if comes_before x y then x ∷ y ∷ ys else y ∷ put_in x ys

-- one after another
abbrev pub put_all : List Candidate → List Candidate → List Candidate
put_all l [] = l
put_all l (x ∷ xs) = put_all (put_in x l) xs

-- how many stand before it
abbrev pub place_in : Candidate → List Candidate → ℕ
place_in x [] = 0
place_in x (y ∷ ys) = if comes_before x y then 0 else suc (place_in x ys)
