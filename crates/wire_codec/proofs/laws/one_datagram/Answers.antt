use Rattle.std.proofs.Common.{List, ℕ, sym, ◌∙◌, ap}
use Rattle.wire_codec.specs.Frames.{datagram, key_in}
use Rattle.wire_codec.proofs.FrameLaws.{takes, one_key}
use Rattle.wire_codec.proofs.laws.one_datagram.Goals as goal

pub returns : goal.returns
returns c = λ own keys bytes others incoming ok ok' e e'.
    let t = takes own keys bytes incoming ok e in
    let u = takes own keys others incoming ok' e' in
    t.whole ∙ ap (λ (k : List ℕ). datagram k incoming.from own incoming.number incoming.frame) (one_key t.key u.key (key_in keys incoming.from) t.known u.known) ∙ sym u.whole
