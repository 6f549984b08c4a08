use Rattle.std.proofs.Common.{◌≡◌, ◌+◌, ◌≤◌, length, filter, take, sum_by}
use Rattle.psb_model.specs.Words.{with_all}
use Rattle.psb_model.specs.State.{out_key, out_size}
use Rattle.psb_model.specs.Effects.{is_whole_listed}
use Rattle.peer_account.specs.View.{out_anew}
use Rattle.peer_account.proofs.account.probing.put_again.Given as goal

abbrev pub invariant-loop-row : goal.invariant-loop-row
invariant-loop-row l = record {
  items : l.outs.items ≡ with_all out_key (out_anew l.objects (take l.row-index l.rows)) l.fn.outs.items;
  units : l.units ≡ sum_by out_size (out_anew l.objects (take l.row-index l.rows));
  room : length (filter (is_whole_listed l.objects) l.rows) ≤ l.outs.room + length (out_anew l.objects (take l.row-index l.rows));
}
