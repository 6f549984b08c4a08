use Rattle.std.proofs.Common.{IfOk, sym, ap, subst, ◌≡◌}
use Rattle.psb_station.specs.Span.{Tells_bytes}
use Rattle.psb_machine.specs.Machine.{Situation}
use Rattle.psb_machine.specs.Messages.{Message}
use Rattle.node_letters.specs.Messages.{sender_in, message_in}
use Rattle.node_core.specs.Hearing.{Hears, HearsSo, MakesNo}
use Rattle.node_core.specs.Stored.{Knows, Stored}
use Rattle.node_core.specs.Unread.{IsUnreadMessage}
use Rattle.node_core.proofs.node.Node.on_message.Goals as goal

pub returns-in-Deal-clause-unread : goal.returns-in-Deal-clause-unread
returns-in-Deal-clause-unread g c =
    let from = sender_in c.args.sender.now in
    subst (λ (m : Message). IfOk c.on_deal.result (λ r. (n : Situation) → Knows c.args.self.now n → IsUnreadMessage n from m → Hears r n from m)) (sym (ap message_in c.in-Deal.is)) c.on_deal.ensures.unread

pub returns-in-Deal-clause-rests : goal.returns-in-Deal-clause-rests
returns-in-Deal-clause-rests g c =
    let from = sender_in c.args.sender.now in
    subst (λ (m : Message). (n : Situation) → Knows c.args.self.now n → IsUnreadMessage n from m → MakesNo n from m → c.on_deal.new.disk ≡ c.args.disk.now) (sym (ap message_in c.in-Deal.is)) c.on_deal.ensures.rests

pub returns-in-Get-clause-exact : goal.returns-in-Get-clause-exact
returns-in-Get-clause-exact g c =
    let from = sender_in c.args.sender.now in
    subst (λ (m : Message). IfOk c.on_get.result (λ r. Tells_bytes (g.D.Disk.view c.on_get.new.disk) → (n : Situation) → Knows c.args.self.now n → Stored g.L.Log.holds c.args.self.now n.history (g.D.Disk.view c.args.disk.now) → Hears r n from m))
    (sym (ap message_in c.in-Get.is)) c.on_get.ensures.exact

pub returns-in-Proof-clause-exact : goal.returns-in-Proof-clause-exact
returns-in-Proof-clause-exact g c =
    let from = sender_in c.args.sender.now in
    subst (λ (m : Message). IfOk c.on_proof.result (λ r. Tells_bytes (g.D.Disk.view c.on_proof.new.disk) → (n : Situation) → Knows c.args.self.now n → Stored g.L.Log.holds c.args.self.now n.history (g.D.Disk.view c.args.disk.now) → Hears r n from m))
    (sym (ap message_in c.in-Proof.is)) c.on_proof.ensures.exact

pub returns-in-Proof-clause-unread : goal.returns-in-Proof-clause-unread
returns-in-Proof-clause-unread g c =
    let from = sender_in c.args.sender.now in
    subst (λ (m : Message). IfOk c.on_proof.result (λ r. (n : Situation) → Knows c.args.self.now n → IsUnreadMessage n from m → Hears r n from m)) (sym (ap message_in c.in-Proof.is)) c.on_proof.ensures.unread

pub returns-in-Proof-clause-so : goal.returns-in-Proof-clause-so
returns-in-Proof-clause-so g c =
    let from = sender_in c.args.sender.now in
    subst (λ (m : Message). IfOk c.on_proof.result (λ r. (n : Situation) → Knows c.args.self.now n → HearsSo r n from m)) (sym (ap message_in c.in-Proof.is)) c.on_proof.ensures.so
