use Rattle.std.proofs.Common.{rules, ◌≡◌, Some, length, ◌∙◌, is_none}
use Rattle.std.proofs.lemmas.List.{length-map}
use Rattle.psb_bytes.specs.declared.lists.SlotClaim.{SlotClaim}
use Rattle.psb_model.specs.declared.deals.DealWhat.TheVariants.{Fresh}
use Rattle.psb_model.specs.Words.{units, has}
use Rattle.psb_model.specs.State.{row, own_len, in_key}
use Rattle.psb_machine.specs.Deals.{slots_of, first_slot}
use Rattle.deals.proofs.Pending.{fresh_settles}
use Rattle.deals.proofs.settling.may_settle.Goals as goal

pub returns-then-len-own_units : goal.returns-then-len-own_units
returns-then-len-own_units c =
    let s = c.args.ledger.now.state in
    let p = c.args.peer in
    let claims = c.args.claims.now in
    let d = c.in-Some.deal.now in
    let name = c.in-Fresh.name in
    let pending : (row s p).pending ≡ Some d = search rules in
    let is : d.what ≡ Fresh name = search rules in
    let as_many : length claims ≡ units (own_len s.own name) = search rules in
    let found : c.is_none.result ≡ is_none (first_slot (has in_key (row s p).ins) (slots_of claims)) = search rules in
    found ∙ fresh_settles s p (row s p).pending d name (slots_of claims) pending is (length-map claims (λ (c : SlotClaim). c.slot) ∙ as_many)
