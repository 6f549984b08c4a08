-- What contracts see of a list.
use Rattle.std.specs.Prelude.{ℕ, List}

-- its entries in object order, and how many more chunks, and runs of slots, have room
pub record ListView (E : Type 0) : Type 0 where
  pub items : List E
  pub room : ℕ
