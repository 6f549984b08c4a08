use Rattle.std.proofs.Common.{◌≡◌, not, map, ◌∙◌, ap, rules}
use Rattle.std.specs.Prelude.{◌==◌}
use Rattle.std.specs.List.{list_all}
use Rattle.std.proofs.lemmas.Fn.{filter_same}
use Rattle.psb_model.specs.declared.snapshots.Snapshot.{Snapshot}
use Rattle.psb_model.specs.Conditions.{names_ascend}
use Rattle.psb_model.specs.Effects.{given_up, set_marks, kept_without}
use Rattle.peer_account.specs.View.{named_row}
use Rattle.own_chunks.specs.OwnList.{marks}
use Rattle.psb_ledger.proofs.Keeping.{less_ordered, forgot_one}
use Rattle.psb_ledger.proofs.ledger.Ledger.forget.Goals as goal

pub mark_unlisted-requires-clause-names : goal.mark_unlisted-requires-clause-names
mark_unlisted-requires-clause-names c =
    let less : c.retain.new.self.items ≡ kept_without c.args.number c.self.inside.kept.items = filter_same _ (λ (k : Snapshot). not (k.number == c.args.number)) _ (λ x b f' k. search rules) c.self.inside.kept.items c.retain.new.self.items c.retain.ensures.filtered in
    ap (list_all (λ (k : Snapshot). names_ascend k.names)) c.as_slice.ensures.value ∙ less_ordered c.self.inside c.args.number c.retain.new.self.items c.self.invariant.own_part less

pub invariant_of-self : goal.invariant_of-self
invariant_of-self c =
    let less : c.retain.new.self.items ≡ kept_without c.args.number c.self.inside.kept.items = filter_same _ (λ (k : Snapshot). not (k.number == c.args.number)) _ (λ x b f' k. search rules) c.self.inside.kept.items c.retain.new.self.items c.retain.ensures.filtered in
    let left = c.mark_unlisted.ensures ∙ (λ i. given_up (map named_row (c.as_slice-2.ensures.value i)) (set_marks (marks (c.as_slice.ensures.value i)) c.self.inside.own.items)) in
    let made = forgot_one c.self.inside c.args.self.now c.args.number c.retain.new.self.items c.mark_unlisted.new.self.items c.self.view_is c.self.invariant.sound c.self.invariant.own_part c.requires.may less left in
    record { sound = made.sound; own_part = made.own_part; blank_row = c.self.invariant.blank_row }

pub returns : goal.returns
returns c =
    let less : c.retain.new.self.items ≡ kept_without c.args.number c.self.inside.kept.items = filter_same _ (λ (k : Snapshot). not (k.number == c.args.number)) _ (λ x b f' k. search rules) c.self.inside.kept.items c.retain.new.self.items c.retain.ensures.filtered in
    let left = c.mark_unlisted.ensures ∙ (λ i. given_up (map named_row (c.as_slice-2.ensures.value i)) (set_marks (marks (c.as_slice.ensures.value i)) c.self.inside.own.items)) in
    (forgot_one c.self.inside c.args.self.now c.args.number c.retain.new.self.items c.mark_unlisted.new.self.items c.self.view_is c.self.invariant.sound c.self.invariant.own_part c.requires.may less left).after_is
