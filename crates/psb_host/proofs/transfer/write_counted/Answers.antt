use Rattle.std.proofs.Common.{◌-◌, length, drop, refl, arith, length-take, length-drop}
use Rattle.psb_host.proofs.Filling.{appends_more}
use Rattle.psb_host.proofs.transfer.write_counted.Goals as goal

pub loop-done-preserved : goal.loop-done-preserved
loop-done-preserved g c =
    let contents = g.F.Write.contents in
    let n = c.in_ok-count.count in
    (omega (arith, c.in_ok-count.ensures.bound, length-take (length c.args.from.now - c.loop-done.done) (drop c.loop-done.done c.args.from.now), length-drop c.loop-done.done c.args.from.now), refl, appends_more (contents c.args.file.now) (contents c.loop-done.file) (contents c.write.new.self) c.loop-done.done n c.args.from.now c.loop-done.invariant.2 c.in_ok-count.ensures.bytes)
