-- What was passed over stays so, but for what the change starts anew.
use Rattle.std.proofs.Common.{◌≡◌, ◌∙◌, true, length, ap, rules}
use Rattle.psb_model.specs.Conditions.{allowed}
use Rattle.psb_model.specs.Effects.{after}
use Rattle.next_deals.specs.declared.search.Search.{Search}
use Rattle.next_deals.specs.Searches.{restarts_of, restarted, all_restarted}
use Rattle.psb_ledger.specs.View.{LedgerView}
use Rattle.psb_ledger.proofs.Sound.{steady_of}
use Rattle.next_deals.proofs.Searched.{carried, passed_after, written_back}
use Rattle.next_deals.proofs.planner.Planner.apply.Goals as goal

pub invariant_of-self : goal.invariant_of-self
invariant_of-self c =
    let s = c.self.inside.ledger.state in
    let l = c.self.inside.searches in
    let may : allowed s c.args.c ≡ true = ap (λ (v : LedgerView). allowed v.state c.args.c) c.self.view_is ∙ c.requires.may in
    let grown : c.apply.new.self.state ≡ after s c.args.c = search rules in
    let long : length l.items ≡ l.len = search rules in
    let made : c.restart.new.searches ≡ all_restarted (restarts_of s c.args.c) l.items = search rules in
    carried (after s c.args.c) c.apply.new.self.state (all_restarted (restarts_of s c.args.c) l.items) _ grown
    (written_back (λ (x : Search). restarted (restarts_of s c.args.c) x.peer x) l.items c.restart.new.searches l.len long made)
    (passed_after s c.args.c l.items (steady_of s c.is_reached.ensures) may c.self.invariant)
