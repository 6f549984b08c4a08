use Rattle.std.proofs.Common.{arith}
use Rattle.peer_debts.proofs.Counts.{with_state, state_more}
use Rattle.peer_debts.proofs.debt_list.set_states.Goals as goal

pub loop-place-preserved : goal.loop-place-preserved
loop-place-preserved c =
    let before = c.loop-place.invariant in
    record {
      items = state_more (with_state c.args.slot c.args.state) c.args.rows.now.items c.loop-place.rows.items c.loop-place.place c.index.result.now c.with_state-row.result (omega (arith, c.loop-place-test.true, before.end)) before.items c.index.ensures c.with_state-row.ensures;
      end = before.end;
      capacity = before.capacity;
    }
