use Rattle.std.proofs.Common.{sym, ◌∙◌}
use Rattle.std.proofs.lemmas.Bool.{true≢false}
use Rattle.chunk_store.specs.declared.owner.Owner.TheVariants.{Peer}
use Rattle.node_letters.specs.Messages.{sender_in}
use Rattle.node_history.proofs.Presence.{ok_map, ok_map2}
use Rattle.node_core.proofs.Hearing.{get_passes, get_hears}
use Rattle.node_core.proofs.node.Node.on_get.Goals as goal

pub returns-then-not-holds-clause-exact : goal.returns-then-not-holds-clause-exact
returns-then-not-holds-clause-exact g c = λ tells n k s.
    get_passes c.quiet.result c.args.self.now n (sender_in c.args.sender.now) c.args.name.now k (sym (k.names.owners (Peer c.args.sender.now.peer) c.args.name.now) ∙ sym c.holds.ensures ∙ c.if-not-holds.true) c.quiet.ensures.change c.quiet.ensures.note c.quiet.ensures.dropped c.quiet.ensures.out

pub returns-then-not-holds-clause-unread : goal.returns-then-not-holds-clause-unread
returns-then-not-holds-clause-unread g c = λ n k none. get_passes c.quiet.result c.args.self.now n (sender_in c.args.sender.now) c.args.name.now k none c.quiet.ensures.change c.quiet.ensures.note c.quiet.ensures.dropped c.quiet.ensures.out

pub returns-clause-exact : goal.returns-clause-exact
returns-clause-exact g c =
    ok_map2 c.give.result _ _ _ (λ r given plain tells n k s.
    get_hears r c.args.self.now n c.args.sender.now c.args.name.now k c.requires.heard (sym (k.names.owners (Peer c.args.sender.now.peer) c.args.name.now) ∙ sym c.holds.ensures ∙ c.if-not-holds.false) plain (given tells n k s))
    c.give.ensures.given c.give.ensures.none

pub returns-clause-unread : goal.returns-clause-unread
returns-clause-unread g c =
    ok_map c.give.result _ _ (λ r plain n k none. absurd (true≢false (sym (sym (k.names.owners (Peer c.args.sender.now.peer) c.args.name.now) ∙ sym c.holds.ensures ∙ c.if-not-holds.false) ∙ none)))
    c.give.ensures.none

pub returns-clause-rests : goal.returns-clause-rests
returns-clause-rests g c = λ n k none. absurd (true≢false (sym (sym (k.names.owners (Peer c.args.sender.now.peer) c.args.name.now) ∙ sym c.holds.ensures ∙ c.if-not-holds.false) ∙ none))
