use Rattle.std.proofs.Common.{◌≡◌, Err, slice_get, rules}
use Rattle.change_codec.proofs.RecordLaws.{one_change}
use Rattle.node_history.specs.declared.fault.ReadFault.TheVariants.{NotNode}
use Rattle.node_history.proofs.Presence.{on_ok_map}
use Rattle.node_history.proofs.Reading.{not_next, not_any}
use Rattle.node_history.proofs.history.Reader.read_next.Goals as goal

pub returns-clause-read : goal.returns-clause-read
returns-clause-read g c =
    let read = c.in_ok-change.ensures in
    on_ok_map c.take_up.result _ _ (λ takes. (c.in_ok-change.change, read.readable, takes, read.record_is, read.there)) c.take_up.ensures.taken

pub returns-clause-not_node : goal.returns-clause-not_node
returns-clause-not_node g c = λ is tells es shows.
    let read = c.in_ok-change.ensures in
    not_next one_change (slice_get es c.args.number) c.args.self.now.tables.ledger.state c.in_ok-change.change read.readable (c.take_up.ensures.not_node is) (read.record_is tells es shows)

pub returns-in_err-change-clause-not_node : goal.returns-in_err-change-clause-not_node
returns-in_err-change-clause-not_node g c = λ is tells es shows.
    let failed : c.read_change.result ≡ Err NotNode = search rules in
    not_any (slice_get es c.args.number) c.args.self.now.tables.ledger.state (c.read_change.ensures.not_node failed tells es shows)
