use Rattle.std.proofs.Common.{ap, ◌∙◌, sym, map, take, get_or}
use Rattle.std.proofs.lemmas.List.{take_more}
use Rattle.psb_model.specs.Effects.{blank_rows}
use Rattle.peer_account.specs.View.{named_row}
use Rattle.accounts.proofs.Places.{more_blank}
use Rattle.accounts.proofs.table.empty_accounts.Goals as goal

pub loop-peer-preserved : goal.loop-peer-preserved
loop-peer-preserved c =
    let i = c.loop-peer.peer-index in
    let here = c.peer-item.result in
    ap (map named_row) c.in_ok-push.ensures.items
    ∙ more_blank c.loop-peer.accounts.items c.new.result (take i c.args.peers.now) (get_or c.args.peers.now i here) c.loop-peer.invariant (c.new.ensures.id ∙ ap (λ p. p.id) c.peer-item.is) c.new.ensures.row
    ∙ ap blank_rows (sym (take_more c.args.peers.now i here c.loop-peer-test.true))
