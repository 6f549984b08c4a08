use Rattle.std.proofs.Common.{◌≡◌, List, ℕ, map, take, arith, refl, sym, ap, subst, ◌∙◌}
use Rattle.std.specs.Prelude.{slice_get}
use Rattle.std.specs.String.{string_bytes}
use Rattle.std.specs.Map.{keys_of}
use Rattle.std.proofs.lemmas.List.{take_all, length-map}
use Rattle.psb_station.specs.Entries.{entries_of}
use Rattle.psb_station.specs.MemTree.{held, ArePathsOf}
use Rattle.psb_station.specs.declared.node.Node.{Node}
use Rattle.psb_station.proofs.PathLists.{paths_are, copied, not_copied}
use Rattle.psb_station.proofs.Places.{is_there}
use Rattle.psb_station.proofs.Spans.{at_some}
use Rattle.psb_station.proofs.mem_tree.Tree.paths.Goals as goal

pub loop-i-init : goal.loop-i-init
loop-i-init c = ap (map string_bytes) c.new-paths.ensures.items

pub returns-in_err-from_str-clause-err : goal.returns-in_err-from_str-clause-err
returns-in_err-from_str-clause-err c =
    let m = c.args.self.now in
    let e = is_there (entries_of m.entries) c.loop-i.i (omega (arith, c.loop-i-test.true, c.len-i-end.ensures)) in
    not_copied c.from_residual.result (entries_of m.entries) (held m) c.loop-i.i e.0 refl m.entries.names m.entries.ascend e.1

pub returns-in_err-push-clause-err : goal.returns-in_err-push-clause-err
returns-in_err-push-clause-err c =
    let m = c.args.self.now in
    let e = is_there (entries_of m.entries) c.loop-i.i (omega (arith, c.loop-i-test.true, c.len-i-end.ensures)) in
    not_copied c.from_residual-in_err-push.result (entries_of m.entries) (held m) c.loop-i.i e.0 refl m.entries.names m.entries.ascend e.1

pub loop-i-preserved : goal.loop-i-preserved
loop-i-preserved c =
    let es = entries_of c.args.self.now.entries in
    let e = is_there es c.loop-i.i (omega (arith, c.loop-i-test.true, c.len-i-end.ensures)) in
    let path : c.path.result.now ≡ e.0.0 = at_some (slice_get es c.loop-i.i) (λ x. c.path.result.now ≡ x.0) e.0 c.path.ensures e.1 in
    ap (map string_bytes) c.in_ok-push.ensures.items ∙ copied es c.loop-i.i e.0 c.loop-i.paths.items c.in_ok-from_str.field-0 e.1 (c.in_ok-from_str.ensures.ok ∙ path) c.loop-i.invariant

pub returns-clause-paths : goal.returns-clause-paths
returns-clause-paths c =
    let m = c.args.self.now in
    let es = entries_of m.entries in
    let all : take c.loop-i.i (keys_of es) ≡ keys_of es = take_all c.loop-i.i (keys_of es) (omega (arith, c.loop-i-test.false, c.len-i-end.ensures, length-map es (λ (x : List ℕ × Node). x.0))) in
    subst (ArePathsOf (held m)) (sym (c.loop-i.invariant ∙ all)) (paths_are es (held m) refl m.entries.names m.entries.ascend)
