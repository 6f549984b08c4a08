use Rattle.std.proofs.Common.{◌≡◌, ◌+◌, length, take, map, rules, refl, arith}
use Rattle.psb_bytes.specs.declared.ids.Object.TheVariants.{Slot}
use Rattle.peer_lists.specs.Entries.{from_object}
use Rattle.peer_lists.specs.Trees.{tree_items}
use Rattle.slot_runs.specs.SlotRuns.{runs}
use Rattle.peer_lists.specs.EntryLists.{items}
use Rattle.peer_lists.specs.Sought.{sought}
use Rattle.peer_lists.proofs.Parts.{from_first, next_is, none_pushed, pushed, all_pushed}
use Rattle.peer_lists.proofs.sought.EntryList+E+E+Rest.least_sought.Goals as goal

pub loop-part-init : goal.loop-part-init
loop-part-init g c =
    let key = g.E.Entry.key in
    let joined = g.E.Entry.joined in
    let t = c.args.self.now in
    let test = g.E.Entry.passes c.args.test.now in
    let but = c.args.but.now in
    let all = items key joined t in
    record { same = none_pushed key c.new-numbers.result.items (sought key test but (from_object key (Slot 0) all)) (sought key test but all) c.args.most c.new-numbers.ensures.items (from_first key joined g.met.E.Entry.key_joined test but (tree_items key joined t.chunks) (runs t.slots) c.requires.list.chunks c.requires.list.slots.are); from = omega arith }

pub loop-part-preserved : goal.loop-part-preserved
loop-part-preserved g c =
    let key = g.E.Entry.key in
    let joined = g.E.Entry.joined in
    let t = c.args.self.now in
    let test = g.E.Entry.passes c.args.test.now in
    let but = c.args.but.now in
    let all = items key joined t in
    let p = c.in-Some.part in
    let s = sought key test but (from_object key (Slot c.loop-part.from) all) in
    let s' = sought key test but (from_object key (Slot (c.from-from.result + 1)) all) in
    let is = next_is key joined test but all c.loop-part.from p c.from-from.result c.in-Some.ensures c.from-from.ensures in
    record {
      same = pushed key joined g.met.E.Entry.key_joined p s s' c.loop-part.numbers.items c.push_to.new.numbers.items c.args.most (take c.args.most (map key (sought key test but all))) is c.in_ok-push_to.ensures c.loop-part.invariant.same;
      from = omega (arith, c.from-from.ensures);
    }

pub returns-then-len-most : goal.returns-then-len-most
returns-then-len-most g c =
    let key = g.E.Entry.key in
    let joined = g.E.Entry.joined in
    let t = c.args.self.now in
    let test = g.E.Entry.passes c.args.test.now in
    let but = c.args.but.now in
    let all = items key joined t in
    let p = c.in-Some.part in
    let s = sought key test but (from_object key (Slot c.loop-part.from) all) in
    let s' = sought key test but (from_object key (Slot (p.run.last + 1)) all) in
    let is = next_is key joined test but all c.loop-part.from p p.run.last c.in-Some.ensures refl in
    let full : length c.push_to.new.numbers.items ≡ c.args.most = search rules in
    all_pushed c.push_to.new.numbers.items c.from_vec.result (map key s') (take c.args.most (map key (sought key test but all))) c.args.most
    (pushed key joined g.met.E.Entry.key_joined p s s' c.loop-part.numbers.items c.push_to.new.numbers.items c.args.most (take c.args.most (map key (sought key test but all))) is c.in_ok-push_to.ensures c.loop-part.invariant.same)
    full c.from_vec.ensures
