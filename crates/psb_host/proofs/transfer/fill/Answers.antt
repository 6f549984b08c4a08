use Rattle.std.proofs.Common.{◌≡◌, ◌≤◌, ◌-◌, length, arith}
use borrow.Rule.Slice.PartMut.{put_mid}
use Rattle.psb_host.proofs.Filling.{fills_more, length-put_mid}
use Rattle.psb_host.proofs.transfer.fill.Goals as goal

pub loop-filled-preserved : goal.loop-filled-preserved
loop-filled-preserved g c =
    let a = c.loop-filled.filled in
    let n = c.in_ok-count.count in
    let xs = c.loop-filled.into in
    let ys = c.read.new.buf in
    let k = length xs - a in
    let room : a ≤ length xs = c.loop-filled.invariant.0 in
    let whole : length (put_mid a k xs ys) ≡ length xs = length-put_mid a k xs ys (omega arith) (omega arith) in
    let few : n ≤ length ys = c.in_ok-count.ensures.bound.0 in
    (omega arith, fills_more (g.F.Read.remaining c.args.file.now) (g.F.Read.remaining c.loop-filled.file) (g.F.Read.remaining c.read.new.self) a k n xs ys room few c.loop-filled.invariant.1 (c.in_ok-count.ensures.bytes.0))
