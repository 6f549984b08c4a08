use Rattle.std.proofs.Common.{◌≡◌, length, Some, Option, inl, inr, ⊎_elim, sym, ap, subst, ◌∙◌}
use Rattle.std.specs.Option.{option_map}
use Rattle.std.proofs.lemmas.Result.{IfOk-weaker, on_err_weaker}
use Rattle.psb_station.specs.Node.{stored_of, bytes_in, IsFullFor}
use Rattle.psb_station.specs.Entry.{by_path}
use Rattle.psb_station.specs.Entries.{entries_of}
use Rattle.psb_station.specs.declared.node.Node.{Node}
use Rattle.psb_station.proofs.Places.{set_kept, set_shows, same_put, found_node, found_gap}
use Rattle.psb_station.proofs.entries.Entries.append.Goals as goal

pub invariant_of-self : goal.invariant_of-self
invariant_of-self c =
    let m = c.args.self.now in
    let at = c.in-Ok.ensures.place in
    let kept = set_kept m.paths.items m.list.items c.in-Ok.place c.index_mut.result.now c.lengthen.new.node c.args.path.now at.0 (m.within, m.names, m.ascend) c.index_mut.ensures.value at.1 in
    record { within = kept.0; names = kept.1; ascend = kept.2 }

pub returns-in-Ok-clause-ok : goal.returns-in-Ok-clause-ok
returns-in-Ok-clause-ok c =
    let m = c.args.self.now in
    let at = c.in-Ok.ensures.place in
    let e = c.index_mut.result.now in
    IfOk-weaker c.lengthen.result _ _ (λ _ h. record {
      was = e.node;
      now = c.lengthen.new.node;
      bytes = h.0;
      found = sym (found_node m.paths.items m.list.items c.in-Ok.place e c.args.path.now at.0 m.ascend c.index_mut.ensures.value at.1);
      before = h.1;
      after = h.2;
      updates = set_shows m.paths.items m.list.items c.in-Ok.place e c.lengthen.new.node c.args.path.now at.0 m.ascend c.index_mut.ensures.value at.1;
    }) c.lengthen.ensures.ok

pub returns-in-Ok-clause-err : goal.returns-in-Ok-clause-err
returns-in-Ok-clause-err c =
    let m = c.args.self.now in
    let at = c.in-Ok.ensures.place in
    let e = c.index_mut.result.now in
    on_err_weaker c.lengthen.result (λ h. same_put (entries_of m) _ c.args.path.now e.node c.lengthen.new.node
    (sym (found_node m.paths.items m.list.items c.in-Ok.place e c.args.path.now at.0 m.ascend c.index_mut.ensures.value at.1))
    (set_shows m.paths.items m.list.items c.in-Ok.place e c.lengthen.new.node c.args.path.now at.0 m.ascend c.index_mut.ensures.value at.1) h) c.lengthen.ensures.err

pub returns-in-Ok-clause-cause : goal.returns-in-Ok-clause-cause
returns-in-Ok-clause-cause c =
    let m = c.args.self.now in
    let at = c.in-Ok.ensures.place in
    let found : Some c.index_mut.result.now.node ≡ by_path (entries_of m) c.args.path.now = found_node m.paths.items m.list.items c.in-Ok.place c.index_mut.result.now c.args.path.now at.0 m.ascend c.index_mut.ensures.value at.1 in
    on_err_weaker c.lengthen.result (λ h. ⊎_elim
    (λ none. inl (ap (λ (o : Option Node). bytes_in (option_map stored_of o)) (sym found) ∙ none))
    (λ full. inr (subst (IsFullFor (length c.args.piece.now)) found full)) h) c.lengthen.ensures.cause

pub returns-in-Err-clause-cause : goal.returns-in-Err-clause-cause
returns-in-Err-clause-cause c =
    let m = c.args.self.now in
    let gap = c.in-Err.ensures.place in
    inl (ap (λ (o : Option Node). bytes_in (option_map stored_of o)) (found_gap (entries_of m) c.in-Err.field-0 c.args.path.now m.ascend gap.1 gap.2))
