use Rattle.std.proofs.Common.{◌+◌, Some, refl, sym, ap, ◌∙◌, arith}
use Rattle.psb_bytes.specs.declared.ids.Object.TheVariants.{Slot}
use Rattle.peer_lists.specs.Entries.{from_object}
use Rattle.peer_lists.specs.EntryLists.{items}
use Rattle.peer_lists.specs.Sought.{sought}
use Rattle.peer_lists.proofs.Next.{first_of}
use Rattle.peer_lists.proofs.Parts.{next_is, first_behind, part_skipped, part_first}
use Rattle.peer_lists.proofs.sought.EntryList+E+E+Rest.sought_after.Goals as goal

pub loop-part-init : goal.loop-part-init
loop-part-init g c =
    let key = g.E.Entry.key in
    let joined = g.E.Entry.joined in
    let t = c.args.self.now in
    let test = g.E.Entry.passes c.args.test.now in
    let but = c.args.but.now in
    record {
      same = first_behind key joined g.met.E.Entry.key_joined test but t c.args.place c.number_behind-from.result c.requires.list c.number_behind-from.ensures.number;
      from = c.number_behind-from.ensures.fits;
    }

pub loop-part-preserved : goal.loop-part-preserved
loop-part-preserved g c =
    let key = g.E.Entry.key in
    let joined = g.E.Entry.joined in
    let t = c.args.self.now in
    let test = g.E.Entry.passes c.args.test.now in
    let but = c.args.but.now in
    let all = items key joined t in
    let p = c.in-Some.part in
    let s = sought key test but (from_object key (Slot c.loop-part.from) all) in
    let s' = sought key test but (from_object key (Slot (c.from-from.result + 1)) all) in
    let is = next_is key joined test but all c.loop-part.from p c.from-from.result c.in-Some.ensures c.from-from.ensures in
    record {
      same = ap first_of (sym (part_skipped joined p s s' is c.if-part.false)) ∙ c.loop-part.invariant.same;
      from = omega (arith, c.from-from.ensures);
    }

pub returns-then-part : goal.returns-then-part
returns-then-part g c =
    let key = g.E.Entry.key in
    let joined = g.E.Entry.joined in
    let t = c.args.self.now in
    let test = g.E.Entry.passes c.args.test.now in
    let but = c.args.but.now in
    let all = items key joined t in
    let p = c.in-Some.part in
    let s = sought key test but (from_object key (Slot c.loop-part.from) all) in
    let s' = sought key test but (from_object key (Slot (p.run.last + 1)) all) in
    let is = next_is key joined test but all c.loop-part.from p p.run.last c.in-Some.ensures refl in
    ap Some c.join.ensures ∙ part_first joined p s s' is c.if-part.true c.in-Some.ensures.1 ∙ c.loop-part.invariant.same
