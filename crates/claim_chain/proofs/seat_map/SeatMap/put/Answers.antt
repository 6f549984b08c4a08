use Rattle.std.proofs.Common.{Some}
use Rattle.claim_chain.proofs.Seats.{changed}
use Rattle.claim_chain.proofs.seat_map.SeatMap.put.Goals as goal

pub returns-clause-put : goal.returns-clause-put
returns-clause-put c = changed c.args.self.now.tree c.insert.new.self c.key_of.result c.args.seat.now (Some c.args.value.now) c.key_of.ensures.peer c.key_of.ensures.slot c.in_ok-insert.ensures.updates
