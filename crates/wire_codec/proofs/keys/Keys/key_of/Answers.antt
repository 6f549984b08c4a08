use Rattle.std.proofs.Common.{◌∙◌}
use Rattle.wire_codec.specs.Frames.{key_in}
use Rattle.wire_codec.proofs.Tables.{looked_up}
use Rattle.wire_codec.proofs.keys.Keys.key_of.Goals as goal

pub returns : goal.returns
returns c = c.get.ensures.value ∙ looked_up c.self.inside.rows.entries c.peer.inside.0 ∙ (λ i. key_in (c.self.view_is i) (c.peer.view_is i))
