use Rattle.std.proofs.Common.{◌≡◌, Some, length, rules, ap, arith}
use Rattle.psb_machine.specs.Sampling.{open_question}
use Rattle.psb_machine.proofs.Choosing.{few_asked, open_is}
use Rattle.node_core.proofs.node.Node.question_to.Goals as goal

pub ask_frame-requires-clause-few : goal.ask_frame-requires-clause-few
ask_frame-requires-clause-few g c =
    let q = c.in-Some.question.now in
    let opened : open_question c.args.self.now.ledger.state ≡ Some q = search rules in
    let few = few_asked c.args.self.now.ledger.state q (open_is c.args.self.now.ledger.state q opened).asked in
    omega (arith, few, ap length c.as_slice.ensures)
