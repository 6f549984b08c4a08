-- A page: bytes that are written in turn, into room that was taken before.
use Rattle.std.specs.Prelude.{ℕ, List}

-- what a contract sees of a page: the bytes so far, and how many it holds at most
pub record Written : Type 0 where
  pub bytes : List ℕ
  pub room : ℕ
