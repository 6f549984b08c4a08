use Rattle.std.proofs.Common.{ap, ◌∙◌}
use Rattle.std.specs.Prelude.{is_some}
use Rattle.accounts.proofs.Places.{some_there}
use Rattle.accounts.proofs.table.place_in.Goals as goal

pub unwrap-requires : goal.unwrap-requires
unwrap-requires c = ap is_some c.place_of.ensures ∙ some_there c.args.accounts.now c.args.peer c.requires
