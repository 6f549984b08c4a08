-- What contracts see of own chunks: the list in byte order, and how many more have room.
use Rattle.std.specs.Prelude.{ℕ, List}
use Rattle.psb_model.specs.declared.entries.OwnEntry.{OwnEntry}

pub record OwnView : Type 0 where
  pub items : List OwnEntry
  pub room : ℕ
