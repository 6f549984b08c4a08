use Rattle.std.proofs.Common.{ℕ, List, Bool, cond, not, true, false, refl, ap, sym, ◌∙◌}
use Rattle.std.proofs.lemmas.Map.Text.{is_eq-slice_cmp}
use Rattle.psb_bytes.specs.Objects.{name_eq}
use Rattle.node_history.specs.Lacking.{is_lacking}
use Rattle.node_history.proofs.lacking.Lacking.note.Goals as goal

pub returns-then-has_them : goal.returns-then-has_them
returns-then-has_them c = record {
  noted = λ q.
      let old : Bool = is_lacking c.args.self.now q in
      c.remove.ensures.updates.0 q
      ∙ ap (λ (b : Bool). cond b false old) (is_eq-slice_cmp c.name.inside.0 q)
      ∙ ap (λ (n : List ℕ). cond (name_eq n q) false old) c.name.view_is
      ∙ ap (λ (b : Bool). cond (name_eq c.args.name.now q) (not b) old) (sym c.if-has_them.true);
  slots = λ p n. refl;
}

pub returns-in_ok-insert : goal.returns-in_ok-insert
returns-in_ok-insert c = record {
  noted = λ q.
      let old : Bool = is_lacking c.args.self.now q in
      c.in_ok-insert.ensures.updates.0 q
      ∙ ap (λ (b : Bool). cond b true old) (is_eq-slice_cmp c.name.inside.0 q)
      ∙ ap (λ (n : List ℕ). cond (name_eq n q) true old) c.name.view_is
      ∙ ap (λ (b : Bool). cond (name_eq c.args.name.now q) (not b) old) (sym c.if-has_them.false);
  slots = λ p n. refl;
}
