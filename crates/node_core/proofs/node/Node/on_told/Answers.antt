use Rattle.std.proofs.Common.{◌≡◌, Some, rules}
use Rattle.psb_machine.specs.Sampling.{open_question}
use Rattle.psb_machine.proofs.Choosing.{few_asked, open_is}
use Rattle.node_core.proofs.node.Node.on_told.Goals as goal

pub is_answer_to-requires : goal.is_answer_to-requires
is_answer_to-requires g c =
    let s = c.work_out_question.new.self.ledger.state in
    let q = c.in-Some.question.now in
    let opened : open_question s ≡ Some q = search rules in
    record { few = few_asked s q (open_is s q opened).asked }
