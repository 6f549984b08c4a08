use Rattle.std.proofs.Common.{◌≡◌, ◌<◌, length, Ok, true, rules, arith, sym, ◌∙◌, ap}
use Rattle.psb_settings.specs.declared.settings.PeerRow.{PeerRow}
use Rattle.wire_codec.specs.Frames.{datagram}
use Rattle.wire_codec.specs.declared.frame.Frame.TheVariants.{Here}
use Rattle.node_letters.specs.Letters.{letters_of}
use Rattle.node_core.specs.declared.node.Node.{Node}
use Rattle.node_core.proofs.Gets.{given_none, given_bytes}
use Rattle.node_core.proofs.Hearing.{one_letter_is}
use Rattle.node_core.proofs.node.Node.give.Goals as goal

pub returns-then-not-there-clause-given : goal.returns-then-not-there-clause-given
returns-then-not-there-clause-given g c = λ tells n k s. given_none c.args.self.now n c.args.sender.now c.args.name.now (letters_of c.quiet.result.out) (sym c.if-not-there.true ∙ c.in-Ok.ensures.held n k)

pub returns-then-len-clause-given : goal.returns-then-len-clause-given
returns-then-len-clause-given g c = λ tells n k s.
    let yes : c.in-Ok.there ≡ true = search rules in
    let long : 32768 < length c.body.new.into.items = search rules in
    given_bytes c.args.self.now n c.args.sender.now c.args.name.now c.body.new.into.items (letters_of c.quiet-then-len.result.out) k (c.body.ensures.bytes (c.in-Ok.is ∙ ap (λ b. Ok b) yes) tells n k s) (λ short. absurd (omega (arith, long, short)))

pub returns-clause-given : goal.returns-clause-given
returns-clause-given g c = λ tells n k s.
    let yes : c.in-Ok.there ≡ true = search rules in
    let q = c.args.sender.now in
    let bytes = c.body.new.into.items in
    given_bytes c.args.self.now n q c.args.name.now bytes (letters_of c.made.result.out) k (c.body.ensures.bytes (c.in-Ok.is ∙ ap (λ b. Ok b) yes) tells n k s) (λ short.
    one_letter_is c.made.result.out c.in_ok-letter.letter q.peer (datagram q.key c.args.self.now.peers.own.id q.peer q.number (Here c.args.name.now bytes)) (c.made.ensures.out ∙ c.in_ok-one_letter.ensures) c.in_ok-letter.ensures.to
    (c.in_ok-letter.ensures.frame ∙ ap (λ (r : PeerRow). datagram q.key r.id q.peer q.number (Here c.args.name.now bytes)) (c.own.ensures ∙ ap (λ (m : Node _). m.peers.own) c.body.ensures.same)))
