use Rattle.std.proofs.Common.{rules}
use Rattle.slot_places.proofs.Grown.{moved_enters, moved_grown}
use Rattle.slot_places.proofs.tables.SlotTables.enter.Goals as goal

pub returns-in-Nothing-clause-knows : goal.returns-in-Nothing-clause-knows
returns-in-Nothing-clause-knows c = moved_grown c.args.self.now c.args.self.now c.args.moved.now c.args.number c.args.left.now.state (search rules)

pub returns-in-Moves-clause-enters : goal.returns-in-Moves-clause-enters
returns-in-Moves-clause-enters c = λ s d. moved_enters c.args.self.now c.enter_at.new.self c.args.moved.now c.args.number c.args.left.now.state s d (search rules)

pub returns-in-Moves-clause-knows : goal.returns-in-Moves-clause-knows
returns-in-Moves-clause-knows c = moved_grown c.args.self.now c.enter_at.new.self c.args.moved.now c.args.number c.args.left.now.state (search rules)
