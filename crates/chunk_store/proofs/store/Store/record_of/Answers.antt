use Rattle.std.proofs.Common.{◌≡◌, ◌↔◌, ℕ, true, Option, Some, IsSome, sym, subst, rules}
use Rattle.chunk_store.specs.declared.owner.Owner.{Owner}
use Rattle.chunk_store.specs.Store.{record_of, is_owner}
use Rattle.chunk_store.proofs.Whole.{owned}
use Rattle.chunk_store.proofs.store.Store.record_of.Goals as goal

pub returns-in-Some-clause-owned : goal.returns-in-Some-clause-owned
returns-in-Some-clause-owned c =
    let s = c.args.self.now in
    let name = c.args.name.now in
    let is : Some c.in-Some.record_no ≡ record_of s name = search rules in
    subst (λ (r : Option ℕ). IsSome r ↔ ((o : Owner) × (is_owner s o name ≡ true))) (sym is) (owned s name)

pub returns-in-None-clause-owned : goal.returns-in-None-clause-owned
returns-in-None-clause-owned c =
    let s = c.args.self.now in
    let name = c.args.name.now in
    let is : c.added_record.result ≡ record_of s name = search rules in
    subst (λ (r : Option ℕ). IsSome r ↔ ((o : Owner) × (is_owner s o name ≡ true))) (sym is) (owned s name)
