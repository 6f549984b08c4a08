use Rattle.std.proofs.Common.{◌+◌, length, refl, ap, arith}
use Rattle.psb_bytes.specs.declared.ids.Object.TheVariants.{Slot}
use Rattle.peer_lists.specs.Entries.{from_object}
use Rattle.peer_lists.specs.Trees.{tree_items}
use Rattle.slot_runs.specs.SlotRuns.{runs}
use Rattle.peer_lists.specs.EntryLists.{items}
use Rattle.peer_lists.specs.Sought.{sought}
use Rattle.peer_lists.proofs.Parts.{from_first, next_is, few_more, counted}
use Rattle.peer_lists.proofs.sought.EntryList+E+E+Rest.count_sought.Goals as goal

pub loop-part-init : goal.loop-part-init
loop-part-init g c =
    let key = g.E.Entry.key in
    let joined = g.E.Entry.joined in
    let t = c.args.self.now in
    let test = g.E.Entry.passes c.args.test.now in
    let but = c.args.but.now in
    record { sum = omega (arith, ap length (from_first key joined g.met.E.Entry.key_joined test but (tree_items key joined t.chunks) (runs t.slots) c.requires.list.chunks c.requires.list.slots.are)); few = omega arith; place = omega arith }

pub loop-part-preserved : goal.loop-part-preserved
loop-part-preserved g c =
    let key = g.E.Entry.key in
    let joined = g.E.Entry.joined in
    let t = c.args.self.now in
    let test = g.E.Entry.passes c.args.test.now in
    let but = c.args.but.now in
    let all = items key joined t in
    let p = c.in-Some.part in
    let s = sought key test but (from_object key (Slot c.loop-part.from) all) in
    let s' = sought key test but (from_object key (Slot (c.from-from.result + 1)) all) in
    let is = next_is key joined test but all c.loop-part.from p c.from-from.result c.in-Some.ensures c.from-from.ensures in
    let small = few_more p.is_sought p.run.first p.run.last c.count-count.result c.loop-part.count c.loop-part.from c.loop-part.invariant.few c.in-Some.ensures.0 c.in-Some.ensures.1 c.count-count.ensures.count in
    record {
      sum = counted joined p s s' c.count-count.result c.loop-part.count (c.loop-part.count + c.count-count.result) (length (sought key test but all)) is c.count-count.ensures.count refl c.loop-part.invariant.sum;
      few = omega (arith, small, c.from-from.ensures);
      place = omega (arith, c.from-from.ensures);
    }
