use Rattle.std.proofs.Common.{◌≡◌, inl, inr, ⊎_elim, List, Err, sym, ◌∙◌, ap, subst}
use Rattle.psb_model.specs.declared.snapshots.Snapshot.{Snapshot}
use Rattle.psb_machine.specs.Machine.{fresh}
use Rattle.psb_station.specs.View.{View}
use Rattle.said_lines.specs.Says.{Utters, IsRefusal}
use Rattle.backup_cli.specs.RestoredTo.{RestoresOn, kept_ticket, ticket_at}
use Rattle.said_lines.specs.declared.status.Status.TheVariants.{Memory}
use Rattle.backup_cli.proofs.Restorings.{line_said, line_failed, line_unmade, short_by, absent}
use Rattle.said_lines.proofs.Utterances.{utters_tells}
use Rattle.backup_cli.proofs.restoring.restore_opened.Goals as goal

pub returns-in-Err-clause-restores : goal.returns-in-Err-clause-restores
returns-in-Err-clause-restores g c = λ tells h settings k present st.
    let v1 = g.S.Disk.view c.args.station.now in
    let v3 = g.S.Disk.view c.refuse.new.station in
    let was = g.F.Folder.view c.args.folder.now in
    let said = c.refuse.ensures.said in
    let kept = c.snapshots.ensures.known (fresh h) k in
    subst (RestoresOn g.L.Log.stands h settings c.args.which.now c.args.path.now c.args.turns v1 v3 was was) (sym c.refuse.ensures.same)
    (absent g.L.Log.holds g.L.Log.stands g.L.Log.is_broken g.met.L.Log.holds_stands c.args.node.now h settings c.args.which.now c.in-Err.number c.args.path.now c.args.turns v1 v3 was said.0
    c.requires.up.whole (λ i j left. g.met.S.Disk.only_now c.args.station.now i j left) tells k st c.in-Err.ensures.absent.0 (ap (λ (l : List Snapshot). kept_ticket l c.in-Err.number) (sym kept) ∙ c.in-Err.ensures.absent.1)
    said.1 said.2)

pub returns-in-Err-restore_joined-clause-restores : goal.returns-in-Err-restore_joined-clause-restores
returns-in-Err-restore_joined-clause-restores g c = λ tells h settings k present st.
    let v1 = g.S.Disk.view c.args.station.now in
    let v2 = g.S.Disk.view c.restore_joined.new.station in
    let v3 = g.S.Disk.view c.refuse-in-Err-restore_joined.new.station in
    let was = g.F.Folder.view c.args.folder.now in
    let is = g.F.Folder.view c.restore_joined.new.folder in
    let said = c.refuse-in-Err-restore_joined.ensures.said in
    let t2 = utters_tells v2 v3 1 said.0 said.1 tells in
    let found = ap (λ (l : List Snapshot). ticket_at l c.args.which.now) (sym (c.snapshots.ensures.known (fresh h) k)) ∙ c.in-Ok.ensures.found in
    subst (RestoresOn g.L.Log.stands h settings c.args.which.now c.args.path.now c.args.turns v1 v3 was is) (sym c.refuse-in-Err-restore_joined.ensures.same)
    (short_by g.L.Log.holds g.L.Log.stands g.L.Log.is_broken g.met.L.Log.holds_stands c.in-Err-restore_joined.status c.args.node.now c.restore_joined.new.node h settings c.args.which.now c.in-Ok.ticket c.args.path.now c.args.turns v1 v2 v3 was is said.0
    (⊎_elim (λ e. inl (cc (e))) (λ well. inr well) c.in-Err-restore_joined.ensures.unbroken) (λ i j left. g.met.S.Disk.only_now c.args.station.now i j left) tells found c.restore_joined.ensures.unsaid
    (c.in-Err-restore_joined.ensures.fares t2 h settings k present st) said.1 said.2)

pub returns-in-Ok-say_restored-clause-restores : goal.returns-in-Ok-say_restored-clause-restores
returns-in-Ok-say_restored-clause-restores g c = λ tells h settings k present st.
    let v1 = g.S.Disk.view c.args.station.now in
    let v2 = g.S.Disk.view c.restore_joined.new.station in
    let v3 = g.S.Disk.view c.say_restored.new.station in
    let was = g.F.Folder.view c.args.folder.now in
    let is = g.F.Folder.view c.restore_joined.new.folder in
    let u = c.in-Ok-say_restored.ensures.ok in
    let t2 = utters_tells v2 v3 1 _ u tells in
    let sound = ⊎_elim (λ e. absurd (cc (e))) (λ well. well) c.in-Ok-restore_joined.ensures.unbroken in
    let found = ap (λ (l : List Snapshot). ticket_at l c.args.which.now) (sym (c.snapshots.ensures.known (fresh h) k)) ∙ c.in-Ok.ensures.found in
    line_said g.L.Log.holds g.L.Log.stands g.L.Log.is_broken g.met.L.Log.holds_stands c.args.node.now c.restore_joined.new.node h settings c.args.which.now c.in-Ok.ticket c.args.path.now c.args.turns v1 v2 v3 was is c.in-Ok-restore_joined.restored
    sound (λ i j left. g.met.S.Disk.only_now c.args.station.now i j left) tells found (c.in-Ok-restore_joined.ensures.fares t2 h settings k present st) u

pub returns-in-Err-Say-clause-restores : goal.returns-in-Err-Say-clause-restores
returns-in-Err-Say-clause-restores g c = λ tells h settings k present st.
    let v1 = g.S.Disk.view c.args.station.now in
    let v2 = g.S.Disk.view c.restore_joined.new.station in
    let v3 = g.S.Disk.view c.say_restored.new.station in
    let was = g.F.Folder.view c.args.folder.now in
    let is = g.F.Folder.view c.restore_joined.new.folder in
    let u = (c.in-Err-Say.ensures.say (ap Err c.in-Err-Say.field-0-is)).0 in
    let t2 = utters_tells v2 v3 1 _ u tells in
    let sound = ⊎_elim (λ e. absurd (cc (e))) (λ well. well) c.in-Ok-restore_joined.ensures.unbroken in
    let found = ap (λ (l : List Snapshot). ticket_at l c.args.which.now) (sym (c.snapshots.ensures.known (fresh h) k)) ∙ c.in-Ok.ensures.found in
    line_failed g.L.Log.holds g.L.Log.stands g.L.Log.is_broken g.met.L.Log.holds_stands c.args.node.now c.restore_joined.new.node h settings c.args.which.now c.in-Ok.ticket c.args.path.now c.args.turns v1 v2 v3 was is c.in-Ok-restore_joined.restored
    sound (λ i j left. g.met.S.Disk.only_now c.args.station.now i j left) tells found (c.in-Ok-restore_joined.ensures.fares t2 h settings k present st) u

pub returns-in-Err-Memory-clause-restores : goal.returns-in-Err-Memory-clause-restores
returns-in-Err-Memory-clause-restores g c = λ tells h settings k present st.
    let v1 = g.S.Disk.view c.args.station.now in
    let v2 = g.S.Disk.view c.restore_joined.new.station in
    let v3 = g.S.Disk.view c.refuse-in-Err-Memory.new.station in
    let was = g.F.Folder.view c.args.folder.now in
    let is = g.F.Folder.view c.restore_joined.new.folder in
    let same : g.S.Disk.view c.say_restored.new.station ≡ v2 = ap (λ s. g.S.Disk.view s) (c.in-Err-Memory.ensures.memory (ap Err c.in-Err-Memory.field-0-is)) in
    let said = c.refuse-in-Err-Memory.ensures.said in
    let u = subst (λ (w : View). Utters w v3 1 said.0) same said.1 in
    let how = subst (λ (w : View). IsRefusal Memory said.0 w v3) same said.2 in
    let t2 = utters_tells v2 v3 1 said.0 u tells in
    let sound = ⊎_elim (λ e. absurd (cc (e))) (λ well. well) c.in-Ok-restore_joined.ensures.unbroken in
    let found = ap (λ (l : List Snapshot). ticket_at l c.args.which.now) (sym (c.snapshots.ensures.known (fresh h) k)) ∙ c.in-Ok.ensures.found in
    subst (RestoresOn g.L.Log.stands h settings c.args.which.now c.args.path.now c.args.turns v1 v3 was is) (sym c.refuse-in-Err-Memory.ensures.same)
    (line_unmade g.L.Log.holds g.L.Log.stands g.L.Log.is_broken g.met.L.Log.holds_stands c.args.node.now c.restore_joined.new.node h settings c.args.which.now c.in-Ok.ticket c.args.path.now c.args.turns v1 v2 v3 was is c.in-Ok-restore_joined.restored said.0
    sound (λ i j left. g.met.S.Disk.only_now c.args.station.now i j left) tells found c.restore_joined.ensures.unsaid (c.in-Ok-restore_joined.ensures.fares t2 h settings k present st) u how)
