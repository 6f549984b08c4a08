-- Room in out changes neither a row nor the room in what is answered for.
use Rattle.std.proofs.Common.{arith}
use Rattle.psb_ledger.proofs.Rooms.{none_needed, ins_stay}
use Rattle.psb_ledger.proofs.ledger.Ledger.make_room_to_free.Goals as goal

pub returns-then-count-eq0-clause-loose : goal.returns-then-count-eq0-clause-loose
returns-then-count-eq0-clause-loose c = none_needed c.args.count c.args.self.now.accounts c.if-count-eq0.true

pub returns-clause-lists : goal.returns-clause-lists
returns-clause-lists c = λ p ins room. record {
  in_room = λ peer. ins_stay c.self.inside c.args.self.now c.reserve_outs.new.accounts.items p ins c.self.view_is c.reserve_outs.ensures.rows c.reserve_outs.ensures.rooms room peer;
  out_room = λ peer. omega arith;
}
