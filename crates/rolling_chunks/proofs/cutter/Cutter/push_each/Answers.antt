use Rattle.std.proofs.Common.{◌<◌, length, arith}
use Rattle.rolling_chunks.specs.Cuts.{longest}
use Rattle.rolling_chunks.proofs.Running.{runs_none, runs_last}
use Rattle.rolling_chunks.proofs.cutter.Cutter.push_each.Goals as goal

pub loop-i-init : goal.loop-i-init
loop-i-init c = runs_none longest c.args.self.now

pub returns-in-Some-clause-runs : goal.returns-in-Some-clause-runs
returns-in-Some-clause-runs c =
    let within : c.loop-i.i < length c.args.bytes.now = omega arith in
    runs_last longest c.args.self.now c.loop-i.self c.push.new.self c.args.bytes.now c.loop-i.i c.in-Some.field-0 within c.loop-i.invariant c.in-Some.ensures
