use Rattle.std.proofs.Common.{◌∷◌, [], ◌++◌, ap, sym, ◌∙◌}
use Rattle.wire_codec.proofs.Spans.{read_more}
use Rattle.wire_codec.proofs.objects.ObjectsView.to_list.Goals as goal

pub loop-j-preserved : goal.loop-j-preserved
loop-j-preserved c = c.in_ok-push.ensures.items ∙ ap (λ l. l ++ c.at.result ∷ []) c.loop-j.invariant ∙ sym (read_more c.args.self.now c.loop-j.j c.at.result c.at.ensures)
