use Rattle.std.proofs.Common.{◌≡◌, true, false, Some, length, rules, sym, ◌∙◌, ap, subst, arith}
use Rattle.psb_model.specs.declared.change.Change.{Change}
use Rattle.psb_machine.specs.Sampling.{open_question, is_last, is_ready, candidates}
use Rattle.psb_machine.specs.Volatile.{later}
use Rattle.psb_machine.proofs.Choosing.{few_asked, open_is}
use Rattle.peer_states.specs.PeerStates.{sample_of}
use Rattle.node_core.proofs.Choices.{can_choose, CanChoose, chooses, chooses_none}
use Rattle.node_core.proofs.node.Node.choice_at.Goals as goal

pub overflow_cast-names : goal.overflow_cast-names
overflow_cast-names g c =
    let s = c.args.self.now.ledger.state in
    let q = c.in-Some.question.now in
    let opened : open_question s ≡ Some q = search rules in
    omega (arith, few_asked s q (open_is s q opened).asked, ap length c.as_slice.ensures)

pub candidates_of-requires : goal.candidates_of-requires
candidates_of-requires g c =
    let s = c.args.self.now.ledger.state in
    let q = c.in-Some.question.now in
    let opened : open_question s ≡ Some q = search rules in
    record { few = omega (arith, few_asked s q (open_is s q opened).asked, ap length c.as_slice.ensures) }

pub returns-then-not-is_ready : goal.returns-then-not-is_ready
returns-then-not-is_ready g c = record {
  choice = λ n settings k present.
      let node = c.args.self.now in
      let q = c.in-Some.question.now in
      let opened : open_question node.ledger.state ≡ Some q = search rules in
      let last : is_last node.peers.rows c.args.peer ≡ true = search rules in
      let found : c.in_ok-found.found.items ≡ candidates node.peers.rows (sample_of node.states.items) (length q.names) = search rules in
      let not_ready : is_ready (length node.peers.rows) (length c.in_ok-found.found.items) (later c.args.at.now.clock) ≡ false = search rules in
      chooses_none node n settings c.args.peer c.args.at.now q k present c.requires.kept opened last
      (subst (λ l. is_ready (length node.peers.rows) (length l) (later c.args.at.now.clock) ≡ false) found not_ready);
}

pub choose-requires-clause-asked : goal.choose-requires-clause-asked
choose-requires-clause-asked g c =
    let node = c.args.self.now in
    let q = c.in-Some.question.now in
    let opened : open_question node.ledger.state ≡ Some q = search rules in
    let found : c.deref-2.result.now ≡ candidates node.peers.rows (sample_of node.states.items) (length q.names) = search rules in
    (subst CanChoose (sym found) (can_choose node c.requires.known.0 q c.requires.known.1 opened)).asked

pub choose-requires-clause-distinct : goal.choose-requires-clause-distinct
choose-requires-clause-distinct g c =
    let node = c.args.self.now in
    let q = c.in-Some.question.now in
    let opened : open_question node.ledger.state ≡ Some q = search rules in
    let found : c.deref-2.result.now ≡ candidates node.peers.rows (sample_of node.states.items) (length q.names) = search rules in
    (subst CanChoose (sym found) (can_choose node c.requires.known.0 q c.requires.known.1 opened)).distinct

pub returns : goal.returns
returns g c = record {
  choice = λ n settings k present.
      let node = c.args.self.now in
      let q = c.in-Some.question.now in
      let opened : open_question node.ledger.state ≡ Some q = search rules in
      let last : is_last node.peers.rows c.args.peer ≡ true = search rules in
      let found : c.in_ok-found.found.items ≡ candidates node.peers.rows (sample_of node.states.items) (length q.names) = search rules in
      let ready : is_ready (length node.peers.rows) (length c.in_ok-found.found.items) (later c.args.at.now.clock) ≡ true = search rules in
      ap (λ (d : Change). Some d) (search rules)
      ∙ chooses node n settings c.args.peer c.args.at.now q k present c.requires.kept opened last
      (subst (λ l. is_ready (length node.peers.rows) (length l) (later c.args.at.now.clock) ≡ true) found ready);
}
