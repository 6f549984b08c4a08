use Rattle.peer_lists.specs.EntryLists.{items}
use Rattle.peer_lists.proofs.Parts.{part_fails, part_passes}
use Rattle.peer_lists.proofs.sought.EntryList+E+E+Rest.part_from.Goals as goal

pub returns-then-passes : goal.returns-then-passes
returns-then-passes g c =
    let key = g.E.Entry.key in
    let joined = g.E.Entry.joined in
    part_passes key joined g.met.E.Entry.key_joined (g.E.Entry.passes c.args.test.now) c.args.but.now (items key joined c.args.self.now) c.args.number c.in_ok-run.run' c.part_of.result c.passes.result c.in_ok-run.ensures c.passes.ensures c.if-passes.true c.part_of.ensures.first c.part_of.ensures.last c.part_of.ensures.rest c.part_of.ensures.sought

pub returns-else-passes : goal.returns-else-passes
returns-else-passes g c =
    let key = g.E.Entry.key in
    let joined = g.E.Entry.joined in
    part_fails key joined g.met.E.Entry.key_joined (g.E.Entry.passes c.args.test.now) c.args.but.now (items key joined c.args.self.now) c.args.number c.in_ok-run.run' c.passes.result c.in_ok-run.ensures c.passes.ensures c.if-passes.false
