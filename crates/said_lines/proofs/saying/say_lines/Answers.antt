use Rattle.std.proofs.Common.{[], ◌∷◌}
use Rattle.said_lines.specs.Lines.{turns_line}
use Rattle.said_lines.specs.Says.{peer_lines}
use Rattle.said_lines.proofs.LinesSaid.{more_lines, last_line}
use Rattle.said_lines.proofs.Utterances.{says_only}
use Rattle.said_lines.proofs.saying.say_lines.Goals as goal

pub returns-in-Err-clause-says : goal.returns-in-Err-clause-says
returns-in-Err-clause-says g c = λ settings present.
    let t = c.args.total.now in
    more_lines (peer_lines settings c.args.ledger.now.state) (turns_line t.turns t.taken t.dropped t.lost ∷ []) (g.S.Disk.view c.args.station.now) (g.S.Disk.view c.say_peers.new.station) c.in-Err.error (c.in-Err.ensures.says settings present)

pub returns-in-Ok-clause-says : goal.returns-in-Ok-clause-says
returns-in-Ok-clause-says g c = λ settings present.
    let t = c.args.total.now in
    last_line (peer_lines settings c.args.ledger.now.state) (turns_line t.turns t.taken t.dropped t.lost) (g.S.Disk.view c.args.station.now) (g.S.Disk.view c.say_peers.new.station) (g.S.Disk.view c.say_turns.new.station) c.say_turns.result
    (c.in-Ok.ensures.says settings present) c.say_turns.ensures.ok c.say_turns.ensures.say (λ is i. g.S.Disk.view (c.say_turns.ensures.memory is i))

pub returns-in-Ok-clause-only_says : goal.returns-in-Ok-clause-only_says
returns-in-Ok-clause-only_says g c =
    says_only _ (g.S.Disk.view c.say_peers.new.station) (g.S.Disk.view c.say_turns.new.station) _ c.say_turns.result c.in-Ok.ensures.only_says
    c.say_turns.ensures.ok (λ is. (c.say_turns.ensures.say is).0) (λ is i. g.S.Disk.view (c.say_turns.ensures.memory is i))
