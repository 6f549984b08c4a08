-- The folders that a path lies in.
use Rattle.std.specs.Prelude.{ℕ, if◌then◌else◌, List, [], ◌∷◌, map}
use Rattle.psb_bytes.specs.Names.{is_slash}

-- what stands before each slash of a path, the topmost first
abbrev pub parents : List ℕ → List (List ℕ)
parents [] = []
parents (b ∷ rest) = if is_slash b then [] ∷ map (λ front. b ∷ front) (parents rest) else map (λ front. b ∷ front) (parents rest)
