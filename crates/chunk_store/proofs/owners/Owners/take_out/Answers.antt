use Rattle.std.proofs.Common.{◌≡◌, Bool, true, false, not, ◌||◌, List, [], ◌∷◌, ◌++◌, sym, ap, ◌∙◌, rules}
use Rattle.std.specs.List.{filter}
use Rattle.std.proofs.lemmas.Fn.{filter_same}
use Rattle.chunk_store.specs.declared.owner.Owner.{Owner}
use Rattle.chunk_store.specs.Owners.{owner_eq}
use Rattle.chunk_store.proofs.OwnerLists.{among, among_left, kept_first, taken_first, taken_last}
use Rattle.chunk_store.proofs.owners.Owners.take_out.Goals as goal

pub returns-then-ne-clause-left : goal.returns-then-ne-clause-left
returns-then-ne-clause-left c = λ _ o.
    let owner = c.args.owner.now in
    let first = c.args.self.now.first in
    let all = c.args.self.now.more.items in
    let other : owner_eq first owner ≡ false = search rules in
    let kept : c.retain.new.self.items ≡ filter (λ x. not (owner_eq x owner)) all = filter_same _ (λ x. not (owner_eq x owner)) _ (λ x b f' k. search rules) all c.retain.new.self.items c.retain.ensures.filtered in
    ap (λ (os : List Owner). owner_eq first o || among os o) kept ∙ ap (λ (b : Bool). owner_eq first o || b) (among_left all owner o) ∙ kept_first first owner o (among all o) other

pub returns-in-Some-clause-left : goal.returns-in-Some-clause-left
returns-in-Some-clause-left c = λ _ o.
    let owner = c.args.owner.now in
    let first = c.args.self.now.first in
    let all = c.args.self.now.more.items in
    let this : owner_eq first owner ≡ true = search rules in
    let kept : c.retain.new.self.items ≡ filter (λ x. not (owner_eq x owner)) all = filter_same _ (λ x. not (owner_eq x owner)) _ (λ x b f' k. search rules) all c.retain.new.self.items c.retain.ensures.filtered in
    let parts : c.retain.new.self.items ≡ c.pop.new.self.items ++ c.in-Some.next ∷ [] = search rules in
    taken_last c.pop.new.self.items c.in-Some.next o ∙ ap (λ (os : List Owner). among os o) (sym parts ∙ kept) ∙ among_left all owner o ∙ sym (taken_first first owner o (among all o) this)

pub returns-in-None-clause-none : goal.returns-in-None-clause-none
returns-in-None-clause-none c = λ _ o.
    let owner = c.args.owner.now in
    let first = c.args.self.now.first in
    let all = c.args.self.now.more.items in
    let this : owner_eq first owner ≡ true = search rules in
    let kept : c.retain.new.self.items ≡ filter (λ x. not (owner_eq x owner)) all = filter_same _ (λ x. not (owner_eq x owner)) _ (λ x b f' k. search rules) all c.retain.new.self.items c.retain.ensures.filtered in
    let none : c.retain.new.self.items ≡ [] = search rules in
    taken_first first owner o (among all o) this ∙ sym (among_left all owner o) ∙ ap (λ (os : List Owner). among os o) (sym kept ∙ none)
