use Rattle.rolling_chunks.specs.Cuts.{longest}
use Rattle.rolling_chunks.proofs.Pushing.{no_cut_pushed, cut_pushed}
use Rattle.rolling_chunks.proofs.cutter.Cutter.push.Goals as goal

pub returns-then-not-ends_chunk : goal.returns-then-not-ends_chunk
returns-then-not-ends_chunk c =
    no_cut_pushed longest c.self.inside.window c.push-fingerprint.new.self c.self.inside.len c.push-fingerprint.result c.args.byte c.args.self.now c.ends_chunk.result c.self.view_is c.push-fingerprint.ensures.bytes c.push-fingerprint.ensures.value c.ends_chunk.ensures c.if-not-ends_chunk.true

pub returns : goal.returns
returns c =
    cut_pushed longest c.self.inside.window c.push-fingerprint.new.self c.self.inside.len c.push-fingerprint.result c.args.byte c.take.result c.take.new.dest c.args.self.now c.ends_chunk.result c.self.view_is c.push-fingerprint.ensures.bytes c.push-fingerprint.ensures.value c.ends_chunk.ensures c.if-not-ends_chunk.false c.take.ensures.value c.take.ensures.after
