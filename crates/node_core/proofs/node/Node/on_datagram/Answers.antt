use Rattle.node_history.proofs.Presence.{ok_map}
use Rattle.node_core.proofs.Heard.{heard_is, fails_reacts, other_reacts, reacts_so, said_reacts, said_reacts_so, said_unread, said_none}
use Rattle.psb_machine.specs.Machine.{Datagram}
use Rattle.node_core.proofs.node.Node.on_datagram.Goals as goal

pub returns-in-Fails-clause-exact : goal.returns-in-Fails-clause-exact
returns-in-Fails-clause-exact g c = λ tells n k s. fails_reacts c.quiet.result c.args.self.now n c.args.datagram.now c.in-Fails.why k c.in-Fails.ensures c.quiet.ensures.change c.quiet.ensures.note c.quiet.ensures.dropped c.quiet.ensures.out

pub returns-in-Fails-clause-unread : goal.returns-in-Fails-clause-unread
returns-in-Fails-clause-unread g c = λ n k u. fails_reacts c.quiet.result c.args.self.now n c.args.datagram.now c.in-Fails.why k c.in-Fails.ensures c.quiet.ensures.change c.quiet.ensures.note c.quiet.ensures.dropped c.quiet.ensures.out

pub returns-in-Fails-clause-so : goal.returns-in-Fails-clause-so
returns-in-Fails-clause-so g c = λ n k. reacts_so c.quiet.result n (Datagram c.args.datagram.now) (fails_reacts c.quiet.result c.args.self.now n c.args.datagram.now c.in-Fails.why k c.in-Fails.ensures c.quiet.ensures.change c.quiet.ensures.note c.quiet.ensures.dropped c.quiet.ensures.out)

pub returns-in-Other-clause-exact : goal.returns-in-Other-clause-exact
returns-in-Other-clause-exact g c = λ tells n k s. other_reacts c.quiet-in-Other.result c.args.self.now n c.args.datagram.now k c.in-Other.ensures c.quiet-in-Other.ensures.change c.quiet-in-Other.ensures.note c.quiet-in-Other.ensures.dropped c.quiet-in-Other.ensures.out

pub returns-in-Other-clause-unread : goal.returns-in-Other-clause-unread
returns-in-Other-clause-unread g c = λ n k u. other_reacts c.quiet-in-Other.result c.args.self.now n c.args.datagram.now k c.in-Other.ensures c.quiet-in-Other.ensures.change c.quiet-in-Other.ensures.note c.quiet-in-Other.ensures.dropped c.quiet-in-Other.ensures.out

pub returns-in-Other-clause-so : goal.returns-in-Other-clause-so
returns-in-Other-clause-so g c = λ n k. reacts_so c.quiet-in-Other.result n (Datagram c.args.datagram.now) (other_reacts c.quiet-in-Other.result c.args.self.now n c.args.datagram.now k c.in-Other.ensures c.quiet-in-Other.ensures.change c.quiet-in-Other.ensures.note c.quiet-in-Other.ensures.dropped c.quiet-in-Other.ensures.out)

pub on_message-requires-clause-heard : goal.on_message-requires-clause-heard
on_message-requires-clause-heard g c = heard_is c.args.self.now.peers.own.id c.args.self.now.peers.keys c.args.datagram.now c.in-Says.sender c.in-Says.message c.in-Says.ensures

pub returns-in-Says-clause-exact : goal.returns-in-Says-clause-exact
returns-in-Says-clause-exact g c = ok_map c.on_message.result _ _ (λ r hears tells n k s. said_reacts r c.args.self.now n c.args.datagram.now c.in-Says.sender c.in-Says.message k c.in-Says.ensures (hears tells n k s)) c.on_message.ensures.exact

pub returns-in-Says-clause-unread : goal.returns-in-Says-clause-unread
returns-in-Says-clause-unread g c = ok_map c.on_message.result _ _ (λ r hears n k u. said_reacts r c.args.self.now n c.args.datagram.now c.in-Says.sender c.in-Says.message k c.in-Says.ensures (hears n k (said_unread c.args.self.now n c.args.datagram.now c.in-Says.sender c.in-Says.message k c.in-Says.ensures u))) c.on_message.ensures.unread

pub returns-in-Says-clause-so : goal.returns-in-Says-clause-so
returns-in-Says-clause-so g c = ok_map c.on_message.result _ _ (λ r hears n k. said_reacts_so r c.args.self.now n c.args.datagram.now c.in-Says.sender c.in-Says.message k c.in-Says.ensures (hears n k)) c.on_message.ensures.so

pub returns-in-Says-clause-rests : goal.returns-in-Says-clause-rests
returns-in-Says-clause-rests g c = λ n k u none.
    c.on_message.ensures.rests n k (said_unread c.args.self.now n c.args.datagram.now c.in-Says.sender c.in-Says.message k c.in-Says.ensures u) (said_none c.args.self.now n c.args.datagram.now c.in-Says.sender c.in-Says.message k c.in-Says.ensures none)
