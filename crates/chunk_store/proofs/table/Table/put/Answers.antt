use Rattle.std.specs.BTreeMap.{BTreeMap}
use Rattle.std.proofs.Common.{◌≡◌, ℕ, List, subst, ◌||◌, Option, Some, None, refl, sym, ap, ◌∙◌, rules}
use Rattle.chunk_store.specs.declared.table.Held.{Held}
use Rattle.chunk_store.specs.Owners.{owner_eq}
use Rattle.chunk_store.specs.Records.{or_else}
use Rattle.chunk_store.specs.Table.{record_in, owner_in}
use Rattle.chunk_store.proofs.Names.{at, Changes, changed, owners_changed, record_put, records_stay, or_false, on_err}
use Rattle.chunk_store.proofs.table.Table.put.Goals as goal

pub returns-in_err-push-clause-owners_stay : goal.returns-in_err-push-clause-owners_stay
returns-in_err-push-clause-owners_stay c = on_err c.from_residual.result (λ o q.
    let held = c.in-Some.held.now in
    let now : Held = record { record_no = held.record_no; owners = c.push.new.self } in
    let m = c.args.self.now.names in
    let n = c.get_mut.follows.lender now in
    let k = c.name.inside.0 in
    let there : at m k ≡ Some held = sym c.in-Some.ensures.value in
    owners_changed (λ x b. x) (λ x. refl) m n k c.args.name.now (Some now) c.args.owner c.name.view_is (changed c.args.self.now.names (c.get_mut.follows.lender now) c.name.inside.0 (Some now) ((c.get_mut.follows.holds now).3 (search rules)))
    (λ p. c.in_err-push.ensures.same p ∙ ap (λ (h : Option Held). owner_in h p) (sym there)) o q)

pub returns-in_err-push-clause-records_stay : goal.returns-in_err-push-clause-records_stay
returns-in_err-push-clause-records_stay c = on_err c.from_residual.result (λ q.
    let held = c.in-Some.held.now in
    let now : Held = record { record_no = held.record_no; owners = c.push.new.self } in
    let there : at c.args.self.now.names c.name.inside.0 ≡ Some held = sym c.in-Some.ensures.value in
    records_stay c.args.self.now.names (c.get_mut.follows.lender now) c.name.inside.0 (Some now) (changed c.args.self.now.names (c.get_mut.follows.lender now) c.name.inside.0 (Some now) ((c.get_mut.follows.holds now).3 (search rules))) (ap record_in (sym there)) q)

pub returns-in-Some-clause-owners : goal.returns-in-Some-clause-owners
returns-in-Some-clause-owners c = λ o q.
    let held = c.in-Some.held.now in
    let now : Held = record { record_no = held.record_no; owners = c.push.new.self } in
    let m = c.args.self.now.names in
    let n = c.get_mut.follows.lender now in
    let k = c.name.inside.0 in
    let there : at m k ≡ Some held = sym c.in-Some.ensures.value in
    owners_changed (λ x b. x || b) or_false m n k c.args.name.now (Some now) c.args.owner c.name.view_is (changed c.args.self.now.names (c.get_mut.follows.lender now) c.name.inside.0 (Some now) ((c.get_mut.follows.holds now).3 (search rules)))
    (λ p. c.in_ok-push.ensures.pushed p ∙ ap (λ (h : Option Held). owner_in h p || owner_eq c.args.owner p) (sym there)) o q

pub returns-in-Some-clause-records : goal.returns-in-Some-clause-records
returns-in-Some-clause-records c = λ q.
    let held = c.in-Some.held.now in
    let now : Held = record { record_no = held.record_no; owners = c.push.new.self } in
    let m = c.args.self.now.names in
    let k = c.name.inside.0 in
    let there : at m k ≡ Some held = sym c.in-Some.ensures.value in
    record_put m (c.get_mut.follows.lender now) k c.args.name.now (Some now) c.args.record_no c.name.view_is (changed c.args.self.now.names (c.get_mut.follows.lender now) c.name.inside.0 (Some now) ((c.get_mut.follows.holds now).3 (search rules)))
    (ap (λ (h : Option Held). or_else (record_in h) (Some c.args.record_no)) (sym there)) q

pub returns-clause-owners : goal.returns-clause-owners
returns-clause-owners c = λ o q.
    let now : Held = record { record_no = c.args.record_no; owners = c.one-owners.result } in
    let m = c.args.self.now.names in
    let k = c.name.inside.0 in
    let there : at m k ≡ None = search rules in
    let same : c.get_mut.follows.lender-at-none ≡ m = c.get_mut.follows.holds-at-none in
    let step : Changes m c.insert.new.self k (Some now) = subst (λ (x : BTreeMap (List ℕ) Held). Changes x c.insert.new.self k (Some now)) same (changed c.get_mut.follows.lender-at-none c.insert.new.self c.name.inside.0 (Some now) c.in_ok-insert.ensures.updates) in
    owners_changed (λ x b. x || b) or_false m c.insert.new.self k c.args.name.now (Some now) c.args.owner c.name.view_is step
    (λ p. c.one-owners.ensures p ∙ ap (λ (h : Option Held). owner_in h p || owner_eq c.args.owner p) (sym there)) o q

pub returns-clause-records : goal.returns-clause-records
returns-clause-records c = λ q.
    let now : Held = record { record_no = c.args.record_no; owners = c.one-owners.result } in
    let m = c.args.self.now.names in
    let k = c.name.inside.0 in
    let there : at m k ≡ None = search rules in
    let same : c.get_mut.follows.lender-at-none ≡ m = c.get_mut.follows.holds-at-none in
    let step : Changes m c.insert.new.self k (Some now) = subst (λ (x : BTreeMap (List ℕ) Held). Changes x c.insert.new.self k (Some now)) same (changed c.get_mut.follows.lender-at-none c.insert.new.self c.name.inside.0 (Some now) c.in_ok-insert.ensures.updates) in
    record_put m c.insert.new.self k c.args.name.now (Some now) c.args.record_no c.name.view_is step
    (ap (λ (h : Option Held). or_else (record_in h) (Some c.args.record_no)) (sym there)) q
