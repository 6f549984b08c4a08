use Rattle.std.proofs.Common.{◌≡◌, ◌↔◌, Bool, true, false, not, ◌&&◌, ◌||◌, cond, Some, None, sym, ap, ◌∙◌, subst, rules}
use Rattle.std.specs.Option.{is_none}
use Rattle.psb_bytes.specs.Objects.{name_eq}
use Rattle.chunk_store.specs.declared.owner.Owner.{Owner}
use Rattle.chunk_store.specs.declared.store.Store.{Store}
use Rattle.chunk_store.specs.Owners.{owner_eq}
use Rattle.chunk_store.specs.Latest.{added_owner}
use Rattle.chunk_store.specs.Table.{listed}
use Rattle.chunk_store.specs.Store.{record_of, is_owner}
use Rattle.chunk_store.proofs.Whole.{last_went, both_less, records_left}
use Rattle.chunk_store.proofs.store.Store.remove.Goals as goal

pub returns-clause-owners : goal.returns-clause-owners
returns-clause-owners c = λ o q.
    let s = c.args.self.now in
    let gone = name_eq c.args.name.now q && owner_eq c.args.owner o in
    ap (λ (l : Bool). l || added_owner c.left_of-self.result o q) (c.take_out.ensures.owners o q)
    ∙ ap (λ (a : Bool). (listed s.table o q && not gone) || a) (c.left_of-self.ensures.owners o q)
    ∙ both_less (listed s.table o q) (added_owner s.latest o q) gone

pub returns-clause-last : goal.returns-clause-last
returns-clause-last c =
    let new : Store = record { table = c.take_out.new.self; latest = c.left_of-self.result } in
    let name = c.args.name.now in
    let is : c.is_none.result ≡ is_none (record_of new name) = search rules in
    subst (λ (b : Bool). (b ≡ true) ↔ ((o : Owner) → is_owner new o name ≡ false)) (sym is) (last_went new name)

pub returns-clause-records : goal.returns-clause-records
returns-clause-records c = λ q.
    let s = c.args.self.now in
    let new : Store = record { table = c.take_out.new.self; latest = c.left_of-self.result } in
    let name = c.args.name.now in
    let is : c.is_none.result ≡ is_none (record_of new name) = search rules in
    let had : record_of s name ≡ Some c.in-Some.record_no = search rules in
    records_left s new name c.in-Some.record_no had c.take_out.ensures.others c.take_out.ensures.record c.left_of-self.ensures.others c.left_of-self.ensures.takes_over q
    ∙ ap (λ (b : Bool). cond (name_eq name q && b) None (record_of s q)) (sym is)
