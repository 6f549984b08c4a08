use Rattle.std.proofs.Common.{ap, ◌∙◌, arith}
use Rattle.psb_model.specs.State.{Row, row}
use Rattle.psb_ledger.specs.View.{LedgerView}
use Rattle.psb_machine.specs.Messages.{Deals}
use Rattle.deals.specs.Views.{deal_in}
use Rattle.node_letters.specs.Messages.{sender_in}
use Rattle.node_history.proofs.Presence.{ok_map, ok_map2}
use Rattle.node_core.proofs.Hearing.{hears_so, passes_deal, can_make, made_hears, made_hears_so, made_may_come, makes_few, unread_unheld, fresh_grows, never_unread, last_inside, again_hears, again_hears_so}
use Rattle.node_core.proofs.node.Node.on_deal.Goals as goal

pub judge-requires-clause-can : goal.judge-requires-clause-can
judge-requires-clause-can g c = (can_make c.args.self.now c.requires.known.0 c.args.sender.now (deal_in c.args.deal.now) c.last-last.result c.standing.result c.requires.known.1 c.requires.heard (c.last-last.ensures ∙ ap (λ (r : Row). r.last) (c.row.ensures ∙ ap (λ (v : LedgerView). row v.state c.args.sender.now.peer) c.ledger.ensures)) c.standing.ensures c.in-Fresh.is c.requires.few).0

pub judge-requires-clause-short : goal.judge-requires-clause-short
judge-requires-clause-short g c = (can_make c.args.self.now c.requires.known.0 c.args.sender.now (deal_in c.args.deal.now) c.last-last.result c.standing.result c.requires.known.1 c.requires.heard (c.last-last.ensures ∙ ap (λ (r : Row). r.last) (c.row.ensures ∙ ap (λ (v : LedgerView). row v.state c.args.sender.now.peer) c.ledger.ensures)) c.standing.ensures c.in-Fresh.is c.requires.few).1

pub judge-requires-clause-next : goal.judge-requires-clause-next
judge-requires-clause-next g c = (can_make c.args.self.now c.requires.known.0 c.args.sender.now (deal_in c.args.deal.now) c.last-last.result c.standing.result c.requires.known.1 c.requires.heard (c.last-last.ensures ∙ ap (λ (r : Row). r.last) (c.row.ensures ∙ ap (λ (v : LedgerView). row v.state c.args.sender.now.peer) c.ledger.ensures)) c.standing.ensures c.in-Fresh.is c.requires.few).2

pub returns-in-Fresh-clause-exact : goal.returns-in-Fresh-clause-exact
returns-in-Fresh-clause-exact g c = ok_map c.judge.result _ _ (λ r makes tells n k s. made_hears r c.args.self.now n c.args.sender.now (deal_in c.args.deal.now) c.last-last.result c.standing.result k c.requires.heard (c.last-last.ensures ∙ ap (λ (r : Row). r.last) (c.row.ensures ∙ ap (λ (v : LedgerView). row v.state c.args.sender.now.peer) c.ledger.ensures)) c.standing.ensures c.in-Fresh.is (makes tells n k s)) c.judge.ensures.exact

pub returns-in-Fresh-clause-unread : goal.returns-in-Fresh-clause-unread
returns-in-Fresh-clause-unread g c =
    ok_map c.judge.result _ _ (λ r makes n k u.
    made_hears r c.args.self.now n c.args.sender.now (deal_in c.args.deal.now) c.last-last.result c.standing.result k c.requires.heard (c.last-last.ensures ∙ ap (λ (r : Row). r.last) (c.row.ensures ∙ ap (λ (v : LedgerView). row v.state c.args.sender.now.peer) c.ledger.ensures)) c.standing.ensures c.in-Fresh.is
    (makes n k (unread_unheld c.args.self.now n (sender_in c.args.sender.now) (deal_in c.args.deal.now) c.last-last.result c.standing.result k (c.last-last.ensures ∙ ap (λ (r : Row). r.last) (c.row.ensures ∙ ap (λ (v : LedgerView). row v.state c.args.sender.now.peer) c.ledger.ensures)) c.standing.ensures c.in-Fresh.is u)))
    c.judge.ensures.unheld

pub returns-in-Fresh-clause-so : goal.returns-in-Fresh-clause-so
returns-in-Fresh-clause-so g c = ok_map c.judge.result _ _ (λ r makes n k. made_hears_so r c.args.self.now n c.args.sender.now (deal_in c.args.deal.now) c.last-last.result c.standing.result _ k (c.last-last.ensures ∙ ap (λ (r : Row). r.last) (c.row.ensures ∙ ap (λ (v : LedgerView). row v.state c.args.sender.now.peer) c.ledger.ensures)) c.standing.ensures c.in-Fresh.is makes.1) c.judge.ensures.somehow

pub returns-in-Fresh-clause-may : goal.returns-in-Fresh-clause-may
returns-in-Fresh-clause-may g c = ok_map c.judge.result _ _ (λ r makes. made_may_come r c.args.self.now c.args.sender.now (deal_in c.args.deal.now) c.last-last.result c.standing.result makes.0 c.requires.known c.requires.heard (c.last-last.ensures ∙ ap (λ (r : Row). r.last) (c.row.ensures ∙ ap (λ (v : LedgerView). row v.state c.args.sender.now.peer) c.ledger.ensures)) c.standing.ensures c.in-Fresh.is c.requires.few makes.1) c.judge.ensures.somehow

pub returns-in-Fresh-clause-few : goal.returns-in-Fresh-clause-few
returns-in-Fresh-clause-few g c = ok_map c.judge.result _ _ (λ r makes. makes_few r c.args.self.now c.args.sender.now _ makes.1) c.judge.ensures.somehow

pub returns-in-Fresh-clause-rests : goal.returns-in-Fresh-clause-rests
returns-in-Fresh-clause-rests g c = λ n k u none. fresh_grows c.args.self.now n (sender_in c.args.sender.now) (deal_in c.args.deal.now) c.last-last.result c.standing.result k (c.last-last.ensures ∙ ap (λ (r : Row). r.last) (c.row.ensures ∙ ap (λ (v : LedgerView). row v.state c.args.sender.now.peer) c.ledger.ensures)) c.standing.ensures c.in-Fresh.is none

pub tell_again-requires-clause-below : goal.tell_again-requires-clause-below
tell_again-requires-clause-below g c =
    let k = c.requires.known in
    omega (arith, last_inside c.args.self.now k.0 c.args.sender.now.peer c.args.sender.now.number c.last-last.result c.standing.result k.1 (c.last-last.ensures ∙ ap (λ (r : Row). r.last) (c.row.ensures ∙ ap (λ (v : LedgerView). row v.state c.args.sender.now.peer) c.ledger.ensures)) c.standing.ensures c.in-Repeat.is, c.requires.counted.changes)

pub returns-in-Repeat-clause-exact : goal.returns-in-Repeat-clause-exact
returns-in-Repeat-clause-exact g c =
    ok_map2 c.tell_again.result _ _ _ (λ r told plain tells n k s. again_hears r c.args.self.now n c.args.sender.now (deal_in c.args.deal.now) c.last-last.result c.standing.result k c.requires.heard (c.last-last.ensures ∙ ap (λ (r : Row). r.last) (c.row.ensures ∙ ap (λ (v : LedgerView). row v.state c.args.sender.now.peer) c.ledger.ensures)) c.standing.ensures c.in-Repeat.is plain (told tells n k s))
    c.tell_again.ensures.told c.tell_again.ensures.none

pub returns-in-Repeat-clause-unread : goal.returns-in-Repeat-clause-unread
returns-in-Repeat-clause-unread g c = ok_map c.tell_again.result _ _ (λ r plain n k u. never_unread c.args.self.now n (sender_in c.args.sender.now) (deal_in c.args.deal.now) c.last-last.result c.standing.result k (c.last-last.ensures ∙ ap (λ (r : Row). r.last) (c.row.ensures ∙ ap (λ (v : LedgerView). row v.state c.args.sender.now.peer) c.ledger.ensures)) c.standing.ensures c.in-Repeat.is u) c.tell_again.ensures.none

pub returns-in-Repeat-clause-so : goal.returns-in-Repeat-clause-so
returns-in-Repeat-clause-so g c = ok_map c.tell_again.result _ _ (λ r plain n k. again_hears_so r c.args.self.now n c.args.sender.now (deal_in c.args.deal.now) c.last-last.result c.standing.result k (c.last-last.ensures ∙ ap (λ (r : Row). r.last) (c.row.ensures ∙ ap (λ (v : LedgerView). row v.state c.args.sender.now.peer) c.ledger.ensures)) c.standing.ensures c.in-Repeat.is plain) c.tell_again.ensures.none

pub returns-in-Repeat-clause-rests : goal.returns-in-Repeat-clause-rests
returns-in-Repeat-clause-rests g c = λ n k u none. never_unread c.args.self.now n (sender_in c.args.sender.now) (deal_in c.args.deal.now) c.last-last.result c.standing.result k (c.last-last.ensures ∙ ap (λ (r : Row). r.last) (c.row.ensures ∙ ap (λ (v : LedgerView). row v.state c.args.sender.now.peer) c.ledger.ensures)) c.standing.ensures c.in-Repeat.is u

pub returns-in-Stale-clause-exact : goal.returns-in-Stale-clause-exact
returns-in-Stale-clause-exact g c = λ tells n k s. passes_deal c.quiet.result c.args.self.now n (sender_in c.args.sender.now) (deal_in c.args.deal.now) c.last-last.result c.standing.result k (c.last-last.ensures ∙ ap (λ (r : Row). r.last) (c.row.ensures ∙ ap (λ (v : LedgerView). row v.state c.args.sender.now.peer) c.ledger.ensures)) c.standing.ensures c.in-Stale.is c.quiet.ensures.change c.quiet.ensures.note c.quiet.ensures.dropped c.quiet.ensures.out

pub returns-in-Stale-clause-unread : goal.returns-in-Stale-clause-unread
returns-in-Stale-clause-unread g c = λ n k u. passes_deal c.quiet.result c.args.self.now n (sender_in c.args.sender.now) (deal_in c.args.deal.now) c.last-last.result c.standing.result k (c.last-last.ensures ∙ ap (λ (r : Row). r.last) (c.row.ensures ∙ ap (λ (v : LedgerView). row v.state c.args.sender.now.peer) c.ledger.ensures)) c.standing.ensures c.in-Stale.is c.quiet.ensures.change c.quiet.ensures.note c.quiet.ensures.dropped c.quiet.ensures.out

pub returns-in-Stale-clause-so : goal.returns-in-Stale-clause-so
returns-in-Stale-clause-so g c = λ n k. hears_so c.quiet.result n (sender_in c.args.sender.now) (Deals (deal_in c.args.deal.now)) (passes_deal c.quiet.result c.args.self.now n (sender_in c.args.sender.now) (deal_in c.args.deal.now) c.last-last.result c.standing.result k (c.last-last.ensures ∙ ap (λ (r : Row). r.last) (c.row.ensures ∙ ap (λ (v : LedgerView). row v.state c.args.sender.now.peer) c.ledger.ensures)) c.standing.ensures c.in-Stale.is c.quiet.ensures.change c.quiet.ensures.note c.quiet.ensures.dropped c.quiet.ensures.out)
