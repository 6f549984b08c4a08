use Rattle.std.proofs.Common.{sym, ◌∙◌, ap}
use Rattle.std.specs.Prelude.{is_some}
use Rattle.wire_codec.proofs.Starts.{object_there}
use Rattle.wire_codec.proofs.objects.ObjectsView.at.Goals as goal

pub object_from-requires : goal.object_from-requires
object_from-requires c =
    let h = object_there c.self.inside.count c.self.inside.bytes.now c.self.inside.starts c.args.j c.args.self.now c.self.view_is c.requires c.self.invariant in
    record { within = h.0; inside = h.1; there = ap is_some h.2 ∙ h.3 }

pub returns : goal.returns
returns c =
    let h = object_there c.self.inside.count c.self.inside.bytes.now c.self.inside.starts c.args.j c.args.self.now c.self.view_is c.requires c.self.invariant in
    sym h.2 ∙ c.object_from.ensures
