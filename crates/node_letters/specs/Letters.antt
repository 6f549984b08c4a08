-- The letters of a node, as the machine has them.
use Rattle.std.specs.Prelude.{ℕ, List, map}
use Rattle.node_letters.specs.declared.letter.Letter.{Letter}

abbrev pub letters_of : List Letter → List (ℕ × List ℕ)
letters_of out = map (λ (l : Letter). (l.to, l.frame)) out
