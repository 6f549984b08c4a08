use Rattle.std.proofs.Common.{◌≡◌, sym, subst}
use Rattle.psb_model.specs.History.{state}
use Rattle.psb_machine.specs.Deals.{clashes}
use Rattle.deals.specs.declared.deal.DealView.{DealView}
use Rattle.deals.specs.Views.{deal_in}
use Rattle.node_facts.specs.Refused.{refused_by}
use Rattle.node_history.proofs.Presence.{ok_map}
use Rattle.node_facts.proofs.Judged.{idle_fresh, idle_swap, idle_of}
use Rattle.node_facts.proofs.facts.looked_up.Goals as goal

pub returns-in-StoreFresh-clause-exact : goal.returns-in-StoreFresh-clause-exact
returns-in-StoreFresh-clause-exact g c =
    ok_map c.sealed_facts.result _ _ (λ f exact tells h es knows are shows.
    let p = c.args.peer in
    let name = c.in-StoreFresh.name in
    let bytes = c.in-StoreFresh.bytes.now in
    subst (λ (d : DealView). refused_by (state h).settings (state h) p (deal_in d) f.clash ≡ refused_by (state h).settings (state h) p (deal_in d) (clashes h (deal_in d))) (sym c.in-StoreFresh.is)
    (idle_fresh (state h).settings (state h) p name bytes f.clash _
    (idle_of c.args.names.now h p name bytes f.clash knows (exact tells h es knows are shows))))
    c.sealed_facts.ensures.exact

pub returns-in-StoreSwap-clause-exact : goal.returns-in-StoreSwap-clause-exact
returns-in-StoreSwap-clause-exact g c =
    ok_map c.sealed_facts-in-StoreSwap.result _ _ (λ f exact tells h es knows are shows.
    let p = c.args.peer in
    let name = c.in-StoreSwap.name in
    let bytes = c.in-StoreSwap.bytes.now in
    subst (λ (d : DealView). refused_by (state h).settings (state h) p (deal_in d) f.clash ≡ refused_by (state h).settings (state h) p (deal_in d) (clashes h (deal_in d))) (sym c.in-StoreSwap.is)
    (idle_swap (state h).settings (state h) p name c.in-StoreSwap.slots bytes f.clash _
    (idle_of c.args.names.now h p name bytes f.clash knows (exact tells h es knows are shows))))
    c.sealed_facts-in-StoreSwap.ensures.exact
