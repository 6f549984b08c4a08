use Rattle.std.proofs.Common.{◌+◌, ◌-◌, refl, ap, ◌∙◌, arith}
use Rattle.std.specs.List.{slice_get}
use Rattle.psb_bytes.specs.declared.ids.Object.TheVariants.{Slot}
use Rattle.peer_lists.specs.Entries.{from_object}
use Rattle.peer_lists.specs.Trees.{tree_items}
use Rattle.slot_runs.specs.SlotRuns.{runs}
use Rattle.peer_lists.specs.EntryLists.{items}
use Rattle.peer_lists.specs.Sought.{sought}
use Rattle.peer_lists.proofs.Parts.{from_first, next_is, is_here, is_behind}
use Rattle.peer_lists.proofs.sought.EntryList+E+E+Rest.sought_at.Goals as goal

pub loop-part-init : goal.loop-part-init
loop-part-init g c =
    let key = g.E.Entry.key in
    let joined = g.E.Entry.joined in
    let t = c.args.self.now in
    let test = g.E.Entry.passes c.args.test.now in
    let but = c.args.but.now in
    record { same = ap (λ l. slice_get l c.args.place) (from_first key joined g.met.E.Entry.key_joined test but (tree_items key joined t.chunks) (runs t.slots) c.requires.list.chunks c.requires.list.slots.are); from = omega arith }

pub loop-part-preserved : goal.loop-part-preserved
loop-part-preserved g c =
    let key = g.E.Entry.key in
    let joined = g.E.Entry.joined in
    let t = c.args.self.now in
    let test = g.E.Entry.passes c.args.test.now in
    let but = c.args.but.now in
    let all = items key joined t in
    let p = c.in-Some.part in
    let s = sought key test but (from_object key (Slot c.loop-part.from) all) in
    let s' = sought key test but (from_object key (Slot (c.from-from.result + 1)) all) in
    let is = next_is key joined test but all c.loop-part.from p c.from-from.result c.in-Some.ensures c.from-from.ensures in
    record {
      same = is_behind joined p s s' (sought key test but all) c.count-count.result c.loop-part.left (c.loop-part.left - c.count-count.result) c.args.place is c.count-count.ensures.count c.if-left-count.false refl c.loop-part.invariant.same;
      from = omega (arith, c.from-from.ensures);
    }

pub returns-then-left-count : goal.returns-then-left-count
returns-then-left-count g c =
    let key = g.E.Entry.key in
    let joined = g.E.Entry.joined in
    let t = c.args.self.now in
    let test = g.E.Entry.passes c.args.test.now in
    let but = c.args.but.now in
    let all = items key joined t in
    let p = c.in-Some.part in
    let s = sought key test but (from_object key (Slot c.loop-part.from) all) in
    let s' = sought key test but (from_object key (Slot (p.run.last + 1)) all) in
    let is = next_is key joined test but all c.loop-part.from p p.run.last c.in-Some.ensures refl in
    is_here joined p s s' (sought key test but all) c.count-count.result c.loop-part.left c.args.place (p.run.first + c.loop-part.left) c.join.result is c.count-count.ensures.count c.if-left-count.true c.loop-part.invariant.same refl (c.join.ensures ∙ ap (λ n. joined (Slot n) p.run.rest) (omega (arith, c.from.ensures)))
