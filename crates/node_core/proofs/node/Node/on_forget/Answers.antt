use Rattle.std.proofs.Common.{rules, ◌^◌, arith}
use Rattle.std.proofs.lemmas.Bool.{lt-ltb}
use Rattle.node_core.proofs.Owned.{forget_may_come}
use Rattle.node_core.proofs.node.Node.on_forget.Goals as goal

pub returns-clause-may : goal.returns-clause-may
returns-clause-may g c = forget_may_come c.made.result c.args.self.now c.args.number (search rules) (lt-ltb c.args.number (2 ^ 32) (omega (arith, c.ranges.number.fits))) (search rules) c.requires.known c.requires.few
