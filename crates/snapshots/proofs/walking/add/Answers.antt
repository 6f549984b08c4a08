use Rattle.std.proofs.Common.{◌≡◌, refl, sym, ap, subst, ◌∙◌, List, ℕ, true}
use Rattle.std.specs.Str.{is_utf8}
use Rattle.std.proofs.lemmas.Str.{is_utf8-from_IsUtf8}
use Rattle.psb_station.specs.MemTree.{under}
use Rattle.snapshots.specs.WalkSteps.{Pushes, IsOver}
use Rattle.snapshots.proofs.WalkSteps.{on_ok, adds_found, adds_special}
use Rattle.snapshots.proofs.walking.add.Goals as goal

pub returns-in_ok-below-in-Some-clause-added : goal.returns-in_ok-below-in-Some-clause-added
returns-in_ok-below-in-Some-clause-added c = on_ok c.push.result
    (λ pushed. adds_found c.args.base.now c.args.item.now c.in-Some.kind c.args.walked.now c.push.new.walked (sym c.entry_kind.ensures ∙ c.in-Some.is)
    (subst (λ (t : List ℕ). is_utf8 t ≡ true) c.as_str-name.ensures (is_utf8-from_IsUtf8 c.as_str-name.result.now c.as_str-name.utf8))
    (subst (λ (p : List ℕ). Pushes (record { path = p; kind = c.in-Some.kind }) c.args.walked.now c.push.new.walked) (c.in_ok-below-in-Some.ensures ∙ ap (under c.args.base.now) c.as_str-name.ensures) pushed))
    c.push.ensures.pushed

pub returns-in_ok-below-in-Some-clause-too_large : goal.returns-in_ok-below-in-Some-clause-too_large
returns-in_ok-below-in-Some-clause-too_large c = λ is. record {
  text = subst (λ (t : List ℕ). is_utf8 t ≡ true) c.as_str-name.ensures (is_utf8-from_IsUtf8 c.as_str-name.result.now c.as_str-name.utf8);
  entry = c.in-Some.kind;
  kind = sym c.entry_kind.ensures ∙ c.in-Some.is;
  over = subst (λ (p : List ℕ). IsOver c.args.walked.now.text_len p c.in-Some.kind) (c.in_ok-below-in-Some.ensures ∙ ap (under c.args.base.now) c.as_str-name.ensures) (c.push.ensures.too_large is);
}

pub returns-in-None-clause-added : goal.returns-in-None-clause-added
returns-in-None-clause-added c = adds_special c.args.base.now c.args.item.now c.args.walked.now _ (sym c.entry_kind.ensures ∙ c.in-None.is)
    (subst (λ (t : List ℕ). is_utf8 t ≡ true) c.as_str-name.ensures (is_utf8-from_IsUtf8 c.as_str-name.result.now c.as_str-name.utf8))
    refl c.saturating_add-walked.ensures refl c.requires
