use Rattle.std.proofs.Common.{None}
use Rattle.claim_chain.proofs.Seats.{changed}
use Rattle.claim_chain.proofs.seat_map.SeatMap.take_out.Goals as goal

pub returns : goal.returns
returns c = changed c.args.self.now.tree c.remove.new.self c.key_of.result c.args.seat.now None c.key_of.ensures.peer c.key_of.ensures.slot c.remove.ensures.updates
