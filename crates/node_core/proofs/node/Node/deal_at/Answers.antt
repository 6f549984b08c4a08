use Rattle.std.proofs.Common.{rules, ◌≡◌, ◌<◌, ◌^◌, true, inl, inr, sym, ◌∙◌, ap, subst}
use Rattle.std.specs.Option.{option_map}
use Rattle.psb_machine.specs.Proposals.{is_askable}
use Rattle.own_offers.specs.Offers.{offer_in}
use Rattle.node_core.specs.Stored.{Knows, Stored}
use Rattle.node_history.proofs.Presence.{ok_map, ok_map2, ok_map3}
use Rattle.node_core.proofs.Ticking.{offered_now, none_offered, none_offered_so, offered_here, deal_offered, deal_offered_so, offered_askable, offered_bare, offer_may_come, next_number}
use Rattle.node_core.proofs.node.Node.deal_at.Goals as goal

pub offer_at-requires : goal.offer_at-requires
offer_at-requires g c = record { more = next_number c.args.self.now c.requires.known.0 c.args.peer c.requires.known.1 c.requires.few }

pub offer-requires-clause-askable : goal.offer-requires-clause-askable
offer-requires-clause-askable g c =
    let node = c.args.self.now in
    let n = c.requires.known.0 in
    let k = c.requires.known.1 in
    let o = offer_in c.in-Some.offer in
    let offered = offered_now node n c.args.peer c.args.at.now c.args.run.now c.in_ok-offer_at.field-0 k c.requires.kept c.requires.run c.in_ok-offer_at.ensures.offers in
    let q = offered_here node n c.args.peer c.args.at.now o k c.requires.kept (λ settings present. sym (ap (option_map offer_in) c.in-Some.is) ∙ offered settings present) in
    subst (λ l. is_askable l.state c.args.peer o.deal.what ≡ true) (sym c.in_ok-offer_at.ensures.same) (offered_askable node n c.args.peer o k q)

pub returns-in-None-clause-exact : goal.returns-in-None-clause-exact
returns-in-None-clause-exact g c = λ tells n k s.
    none_offered c.quiet.result c.args.self.now n c.args.peer
    (λ settings present. sym (ap (option_map offer_in) c.in-None.is) ∙ offered_now c.args.self.now n c.args.peer c.args.at.now c.args.run.now c.in_ok-offer_at.field-0 k c.requires.kept c.requires.run c.in_ok-offer_at.ensures.offers settings present)
    c.quiet.ensures.change c.quiet.ensures.dropped c.quiet.ensures.out

pub returns-in-None-clause-unread : goal.returns-in-None-clause-unread
returns-in-None-clause-unread g c = λ n k bare.
    none_offered c.quiet.result c.args.self.now n c.args.peer
    (λ settings present. sym (ap (option_map offer_in) c.in-None.is) ∙ offered_now c.args.self.now n c.args.peer c.args.at.now c.args.run.now c.in_ok-offer_at.field-0 k c.requires.kept c.requires.run c.in_ok-offer_at.ensures.offers settings present)
    c.quiet.ensures.change c.quiet.ensures.dropped c.quiet.ensures.out

pub returns-in-None-clause-so : goal.returns-in-None-clause-so
returns-in-None-clause-so g c = λ n k.
    none_offered_so c.quiet.result n c.args.peer
    (λ settings present. sym (ap (option_map offer_in) c.in-None.is) ∙ offered_now c.args.self.now n c.args.peer c.args.at.now c.args.run.now c.in_ok-offer_at.field-0 k c.requires.kept c.requires.run c.in_ok-offer_at.ensures.offers settings present)
    c.quiet.ensures.change c.quiet.ensures.dropped

pub returns-in-Some-clause-exact : goal.returns-in-Some-clause-exact
returns-in-Some-clause-exact g c =
    let node = c.args.self.now in
    let o = offer_in c.in-Some.offer in
    let same = c.in_ok-offer_at.ensures.same in
    ok_map3 c.offer.result _ _ _ _ (λ r letters change plain tells n k s.
    let offered = offered_now node n c.args.peer c.args.at.now c.args.run.now c.in_ok-offer_at.field-0 k c.requires.kept c.requires.run c.in_ok-offer_at.ensures.offers in
    deal_offered r node n c.args.peer o (λ settings present. sym (ap (option_map offer_in) c.in-Some.is) ∙ offered settings present) change plain
    (λ settings key present here. letters n settings key (subst (λ l. Knows (record node { ledger = l }) n) (sym same) k) present here
    (inl (tells, subst (λ l. Stored g.L.Log.holds (record node { ledger = l }) n.history (g.D.Disk.view c.args.disk.now)) (sym same) s))))
    c.offer.ensures.letters c.offer.ensures.change c.offer.ensures.plain

pub returns-in-Some-clause-unread : goal.returns-in-Some-clause-unread
returns-in-Some-clause-unread g c =
    let node = c.args.self.now in
    let o = offer_in c.in-Some.offer in
    let same = c.in_ok-offer_at.ensures.same in
    ok_map3 c.offer.result _ _ _ _ (λ r letters change plain n k bare.
    let offered = offered_now node n c.args.peer c.args.at.now c.args.run.now c.in_ok-offer_at.field-0 k c.requires.kept c.requires.run c.in_ok-offer_at.ensures.offers in
    let q = offered_here node n c.args.peer c.args.at.now o k c.requires.kept (λ settings present. sym (ap (option_map offer_in) c.in-Some.is) ∙ offered settings present) in
    deal_offered r node n c.args.peer o (λ settings present. sym (ap (option_map offer_in) c.in-Some.is) ∙ offered settings present) change plain
    (λ settings key present keyed. letters n settings key (subst (λ l. Knows (record node { ledger = l }) n) (sym same) k) present keyed (inr (offered_bare node n c.args.peer o q bare))))
    c.offer.ensures.letters c.offer.ensures.change c.offer.ensures.plain

pub returns-in-Some-clause-so : goal.returns-in-Some-clause-so
returns-in-Some-clause-so g c =
    let o = offer_in c.in-Some.offer in
    ok_map2 c.offer.result _ _ _ (λ r change plain n k.
    let offered = offered_now c.args.self.now n c.args.peer c.args.at.now c.args.run.now c.in_ok-offer_at.field-0 k c.requires.kept c.requires.run c.in_ok-offer_at.ensures.offers in
    deal_offered_so r n c.args.peer o (λ settings present. sym (ap (option_map offer_in) c.in-Some.is) ∙ offered settings present) change plain)
    c.offer.ensures.change c.offer.ensures.plain

pub returns-in-Some-clause-may : goal.returns-in-Some-clause-may
returns-in-Some-clause-may g c =
    let node = c.args.self.now in
    let o = offer_in c.in-Some.offer in
    let small : c.args.peer < 2 ^ 32 = search rules in
    ok_map c.offer.result _ _ (λ r change. offer_may_come r node c.args.peer o small c.requires.few c.requires.known
    (λ n k. offered_here node n c.args.peer c.args.at.now o k c.requires.kept (λ settings present. sym (ap (option_map offer_in) c.in-Some.is) ∙ offered_now node n c.args.peer c.args.at.now c.args.run.now c.in_ok-offer_at.field-0 k c.requires.kept c.requires.run c.in_ok-offer_at.ensures.offers settings present))
    change)
    c.offer.ensures.change

pub returns-in-Some-clause-rests : goal.returns-in-Some-clause-rests
returns-in-Some-clause-rests g c = λ n k bare.
    let node = c.args.self.now in
    let o = offer_in c.in-Some.offer in
    let offered = offered_now node n c.args.peer c.args.at.now c.args.run.now c.in_ok-offer_at.field-0 k c.requires.kept c.requires.run c.in_ok-offer_at.ensures.offers in
    let q = offered_here node n c.args.peer c.args.at.now o k c.requires.kept (λ settings present. sym (ap (option_map offer_in) c.in-Some.is) ∙ offered settings present) in
    c.offer.ensures.unread (offered_bare node n c.args.peer o q bare)
