use Rattle.std.proofs.Common.{subst, sym, arith}
use Rattle.psb_station.specs.declared.answer.Answered.{Answered}
use Rattle.psb_station.specs.Answers.{TicksBy}
use Rattle.psb_station.proofs.Hearing.{grows_push, ticks_push}
use Rattle.psb_station.proofs.memory.link.keep.Goals as goal

pub returns-in-Ok-clause-grows : goal.returns-in-Ok-clause-grows
returns-in-Ok-clause-grows c = λ clock arrivals.
    grows_push c.args.whole.now clock arrivals c.args.heard.now.items c.push.new.self.items (record { answer = c.args.answer; ticks = c.args.ticks }) c.in-Ok.ensures.items

pub returns-in-Ok-clause-timed : goal.returns-in-Ok-clause-timed
returns-in-Ok-clause-timed c = λ by.
    let a : Answered = record { answer = c.args.answer; ticks = c.args.ticks } in
    subst (TicksBy c.args.ticks) (sym c.in-Ok.ensures.items) (ticks_push c.args.ticks c.args.heard.now.items a by (omega arith))
