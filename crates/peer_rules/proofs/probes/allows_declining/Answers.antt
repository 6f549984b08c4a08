-- Each place is one of the list, and no deal ties what is there.
use Rattle.std.proofs.Common.{◌≡◌, Bool, ◌&&◌, not, Option, List, [], Some, None, sym, ap, ◌∙◌}
use Rattle.std.specs.Prelude.{is_some, nat_lt}
use Rattle.std.specs.List.{list_all}
use Rattle.psb_bytes.specs.declared.ids.Object.{Object}
use Rattle.psb_model.specs.State.{ties_out}
use Rattle.psb_model.specs.Conditions.{asked_count, at_places, each}
use Rattle.peer_rules.specs.Probing.{is_untied_at}
use Rattle.peer_rules.proofs.Asked.{all_at}
use Rattle.peer_rules.proofs.probes.allows_declining.Goals as goal

and_true : (b : Bool) → b ≡ (b && Rattle.std.proofs.Common.true)
and_true Rattle.std.proofs.Common.true = Rattle.std.proofs.Common.refl
and_true Rattle.std.proofs.Common.false = Rattle.std.proofs.Common.refl

pub returns-in-Some : goal.returns-in-Some
returns-in-Some c =
    let r = c.args.account.now.row in
    let places = c.args.x.now.places in
    let os = c.in-Some.objects.now in
    let test : Object → Bool = λ o. not (ties_out r.pending o) in
    let said : Option (List Object) → Bool = λ a. is_some a && (list_all (λ k. nat_lt k (asked_count a)) places && (each test (elim a [ None ↦ [] | Some l ↦ at_places l places ]) && Rattle.std.proofs.Common.true)) in
    c.are_untied_at.ensures
    ∙ ap (list_all (is_untied_at r os)) c.as_slice.ensures
    ∙ all_at test os places
    ∙ ap (λ b. list_all (λ k. nat_lt k (Rattle.std.specs.Prelude.length os)) places && b) (and_true (each test (at_places os places)))
    ∙ ap said c.in-Some.ensures
