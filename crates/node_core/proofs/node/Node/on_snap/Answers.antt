use Rattle.std.proofs.Common.{rules}
use Rattle.node_core.proofs.Owned.{snap_may_come}
use Rattle.node_core.proofs.node.Node.on_snap.Goals as goal

pub returns-clause-may : goal.returns-clause-may
returns-clause-may g c = snap_may_come c.made.result c.args.self.now c.args.note.now c.in_ok-change.change (search rules) (search rules) c.requires.fits c.requires.known c.requires.few
