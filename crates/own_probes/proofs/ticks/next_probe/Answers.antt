use Rattle.std.proofs.Common.{rules, length, ◌%◌}
use Rattle.psb_digest.specs.Words.{own_word}
use Rattle.psb_machine.specs.OwnProbes.{objects_to_ask}
use Rattle.own_probes.proofs.Outcomes.{drawn_few}
use Rattle.own_probes.proofs.ticks.next_probe.Goals as goal

pub returns-clause-fit : goal.returns-clause-fit
returns-clause-fit c =
    let all = objects_to_ask c.row.result.now.row in
    drawn_few (own_word c.args.seed.now c.changes-asked.result 8 % length all) all c.in_ok-objects.objects c.in_ok-objects.ensures (search rules)
