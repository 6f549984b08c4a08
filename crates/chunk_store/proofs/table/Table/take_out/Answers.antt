use Rattle.std.proofs.Common.{◌≡◌, true, false, not, ◌&&◌, Option, Some, None, sym, ap, ◌∙◌, inl, inr, rules, ℕ, List}
use Rattle.chunk_store.specs.declared.table.Held.{Held}
use Rattle.chunk_store.specs.Owners.{owner_eq}
use Rattle.chunk_store.specs.Table.{record_in, owner_in}
use Rattle.chunk_store.proofs.Names.{at, Changes, owners_changed, others_stay, records_stay, changed, changed_here, changed_again, and_not_false}
use Rattle.chunk_store.proofs.table.Table.take_out.Goals as goal

pub returns-else-not-take_out-clause-owners : goal.returns-else-not-take_out-clause-owners
returns-else-not-take_out-clause-owners c = λ o q.
    let held = c.in-Some.held.now in
    let now : Held = record { record_no = held.record_no; owners = c.take_out.new.self } in
    let m = c.args.self.now.names in
    let k = c.name.inside.0 in
    let owner = c.args.owner.now in
    let there : at m k ≡ Some held = sym c.in-Some.ensures.value in
    let left : c.take_out.result ≡ true = search rules in
    owners_changed (λ x b. x && not b) and_not_false m (c.get_mut.follows.lender now) k c.args.name.now (Some now) owner c.name.view_is (changed c.args.self.now.names (c.get_mut.follows.lender now) c.name.inside.0 (Some now) ((c.get_mut.follows.holds now).3 (search rules)))
    (λ p. c.take_out.ensures.left left p ∙ ap (λ (h : Option Held). owner_in h p && not (owner_eq owner p)) (sym there)) o q

pub returns-else-not-take_out-clause-others : goal.returns-else-not-take_out-clause-others
returns-else-not-take_out-clause-others c = λ q other.
    let now : Held = record { record_no = c.in-Some.held.now.record_no; owners = c.take_out.new.self } in
    others_stay c.args.self.now.names (c.get_mut.follows.lender now) c.name.inside.0 c.args.name.now (Some now) c.name.view_is (changed c.args.self.now.names (c.get_mut.follows.lender now) c.name.inside.0 (Some now) ((c.get_mut.follows.holds now).3 (search rules))) q other

pub returns-else-not-take_out-clause-record : goal.returns-else-not-take_out-clause-record
returns-else-not-take_out-clause-record c =
    let held = c.in-Some.held.now in
    let now : Held = record { record_no = held.record_no; owners = c.take_out.new.self } in
    let there : at c.args.self.now.names c.name.inside.0 ≡ Some held = sym c.in-Some.ensures.value in
    inl (records_stay c.args.self.now.names (c.get_mut.follows.lender now) c.name.inside.0 (Some now) (changed c.args.self.now.names (c.get_mut.follows.lender now) c.name.inside.0 (Some now) ((c.get_mut.follows.holds now).3 (search rules))) (ap record_in (sym there)) c.args.name.now)

pub returns-then-not-take_out-clause-owners : goal.returns-then-not-take_out-clause-owners
returns-then-not-take_out-clause-owners c = λ o q.
    let held = c.in-Some.held.now in
    let now : Held = record { record_no = held.record_no; owners = c.take_out.new.self } in
    let m = c.args.self.now.names in
    let k = c.name.inside.0 in
    let owner = c.args.owner.now in
    let there : at m k ≡ Some held = sym c.in-Some.ensures.value in
    let none : c.take_out.result ≡ false = search rules in
    let step : Changes m c.remove.new.self k None = changed_again m (c.get_mut.follows.lender now) c.remove.new.self k (Some now) None (changed c.args.self.now.names (c.get_mut.follows.lender now) c.name.inside.0 (Some now) ((c.get_mut.follows.holds now).3 (search rules))) (changed (c.get_mut.follows.lender now) c.remove.new.self c.name.inside.0 None c.remove.ensures.updates) in
    owners_changed (λ x b. x && not b) and_not_false m c.remove.new.self k c.args.name.now None owner c.name.view_is step
    (λ p. sym (c.take_out.ensures.none none p) ∙ ap (λ (h : Option Held). owner_in h p && not (owner_eq owner p)) (sym there)) o q

pub returns-then-not-take_out-clause-others : goal.returns-then-not-take_out-clause-others
returns-then-not-take_out-clause-others c = λ q other.
    let now : Held = record { record_no = c.in-Some.held.now.record_no; owners = c.take_out.new.self } in
    let m = c.args.self.now.names in
    let k = c.name.inside.0 in
    let step : Changes m c.remove.new.self k None = changed_again m (c.get_mut.follows.lender now) c.remove.new.self k (Some now) None (changed c.args.self.now.names (c.get_mut.follows.lender now) c.name.inside.0 (Some now) ((c.get_mut.follows.holds now).3 (search rules))) (changed (c.get_mut.follows.lender now) c.remove.new.self c.name.inside.0 None c.remove.ensures.updates) in
    others_stay m c.remove.new.self k c.args.name.now None c.name.view_is step q other

pub returns-then-not-take_out-clause-record : goal.returns-then-not-take_out-clause-record
returns-then-not-take_out-clause-record c =
    let now : Held = record { record_no = c.in-Some.held.now.record_no; owners = c.take_out.new.self } in
    let m = c.args.self.now.names in
    let k = c.name.inside.0 in
    let gone : at c.remove.new.self k ≡ None = changed_here (c.get_mut.follows.lender now) c.remove.new.self k None (changed (c.get_mut.follows.lender now) c.remove.new.self c.name.inside.0 None c.remove.ensures.updates) in
    inr (ap (λ (x : List ℕ). record_in (at c.remove.new.self x)) (sym c.name.view_is) ∙ ap record_in gone)
