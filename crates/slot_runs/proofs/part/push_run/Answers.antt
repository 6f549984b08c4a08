use Rattle.std.proofs.Common.{rules, ◌≡◌, ◌+◌, ◌++◌, ◌∷◌, [], refl}
use Rattle.slot_runs.proofs.Parts.{pushed_one}
use Rattle.slot_runs.proofs.part.push_run.Goals as goal

pub loop-offset-preserved : goal.loop-offset-preserved
loop-offset-preserved c =
    let now : c.push.new.self.items ≡ c.loop-offset.numbers.items ++ (c.args.first + c.loop-offset.offset) ∷ [] = search rules in
    pushed_one c.args.numbers.now.items c.loop-offset.numbers.items c.push.new.self.items c.args.first c.loop-offset.offset (c.args.first + c.loop-offset.offset) c.loop-offset.invariant now refl
