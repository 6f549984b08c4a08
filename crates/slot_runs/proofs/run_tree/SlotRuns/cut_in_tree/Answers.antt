-- What is behind the number stands in the place of the run, or the run leaves the tree.
use Rattle.std.proofs.Common.{IsSome, option_to_list, sym, ◌∙◌, subst}
use Rattle.std.specs.Ordering.{nat_cmp}
use Rattle.std.specs.Map.{remove_entry}
use Rattle.std.specs.BTreeMap.{get, is_at, insert_entry}
use Rattle.slot_runs.specs.SlotRuns.{tree_runs}
use Rattle.slot_runs.proofs.Longest.{in_out, fewer_longest, cut_longest}
use Rattle.slot_runs.proofs.Cuts.{left_there, cut_over, cut_out}
use Rattle.slot_runs.proofs.run_tree.SlotRuns.cut_in_tree.Goals as goal

pub put_over-requires : goal.put_over-requires
put_over-requires g c = subst (λ t. IsSome (get nat_cmp t c.in-Some.left.last)) (sym c.add_some.ensures.tree) (left_there c.args.self.now.tree.entries c.args.number c.args.run.now c.in-Some.left c.requires.run c.in-Some.ensures)

pub returns-in-Some-clause-rest : goal.returns-in-Some-clause-rest
returns-in-Some-clause-rest g c =
    let s = c.args.self.now in
    let left = c.in-Some.left in
    let new = c.put_over.new.self in
    (cut_over s new.tree.entries new.latest.items (option_to_list c.in_front.result) c.args.number c.args.run.now left c.requires.kept.are c.requires.ordered c.requires.run c.in_front.ensures c.in-Some.ensures
    ((λ i. (c.put_over.ensures.latest i).items) ∙ c.add_some.ensures.latest)
    (c.put_over.ensures.entries ∙ (λ i. insert_entry nat_cmp (c.add_some.ensures.tree i).entries left.last (record { first = left.first; rest = left.rest })))).rest

pub returns-in-None-clause-rest : goal.returns-in-None-clause-rest
returns-in-None-clause-rest g c =
    let s = c.args.self.now in
    let r = c.args.run.now in
    let new = c.take_out.new.self in
    (cut_out s new.tree.entries new.latest.items (option_to_list c.in_front.result) c.args.number r c.requires.kept.are c.requires.ordered c.requires.run c.in_front.ensures c.in-None.ensures
    ((λ i. (c.take_out.ensures.latest i).items) ∙ c.add_some.ensures.latest)
    (c.take_out.ensures.entries ∙ (λ i. remove_entry (is_at (nat_cmp r.last)) (c.add_some.ensures.tree i).entries))).rest

pub returns-in-Some-clause-kept : goal.returns-in-Some-clause-kept
returns-in-Some-clause-kept g c =
    let s = c.args.self.now in
    let left = c.in-Some.left in
    let new = c.put_over.new.self in
    let put = c.put_over.ensures.entries ∙ (λ i. insert_entry nat_cmp (c.add_some.ensures.tree i).entries left.last (record { first = left.first; rest = left.rest })) in
    record {
      are = (cut_over s new.tree.entries new.latest.items (option_to_list c.in_front.result) c.args.number c.args.run.now left c.requires.kept.are c.requires.ordered c.requires.run c.in_front.ensures c.in-Some.ensures ((λ i. (c.put_over.ensures.latest i).items) ∙ c.add_some.ensures.latest) put).are;
      longest = cut_longest s new.tree.entries c.args.number c.args.run.now left c.requires.kept.are c.requires.kept.longest c.requires.run c.in-Some.ensures put;
    }

pub returns-in-None-clause-kept : goal.returns-in-None-clause-kept
returns-in-None-clause-kept g c =
    let s = c.args.self.now in
    let r = c.args.run.now in
    let new = c.take_out.new.self in
    let out = c.take_out.ensures.entries ∙ (λ i. remove_entry (is_at (nat_cmp r.last)) (c.add_some.ensures.tree i).entries) in
    record {
      are = (cut_out s new.tree.entries new.latest.items (option_to_list c.in_front.result) c.args.number r c.requires.kept.are c.requires.ordered c.requires.run c.in_front.ensures c.in-None.ensures ((λ i. (c.take_out.ensures.latest i).items) ∙ c.add_some.ensures.latest) out).are;
      longest = fewer_longest (tree_runs new) (tree_runs s) (in_out (is_at (nat_cmp r.last)) s.tree.entries new.tree.entries out) c.requires.kept.longest;
    }
