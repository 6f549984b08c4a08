use Rattle.wire_codec.proofs.Spans.{claim_read}
use Rattle.wire_codec.proofs.views.ClaimsView.at.Goals as goal

pub returns-clause-value : goal.returns-clause-value
returns-clause-value c = claim_read c.self.inside.count c.self.inside.bytes.now c.cell-claim.result.now c.args.j c.u32_in.result c.args.self.now c.self.view_is c.requires c.cell-claim.ensures.value c.u32_in.ensures
