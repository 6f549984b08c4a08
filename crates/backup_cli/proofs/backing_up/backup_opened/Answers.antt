use Rattle.std.proofs.Common.{◌≡◌, ℕ, List, Err, ◌+◌, ◌++◌, ◌∷◌, [], refl, sym, ◌∙◌, ap, subst}
use Rattle.psb_model.specs.State.{State, snaps_made}
use Rattle.psb_model.specs.History.{state}
use Rattle.psb_ledger.specs.View.{LedgerView}
use Rattle.psb_machine.specs.Machine.{fresh}
use Rattle.psb_station.specs.View.{View}
use Rattle.snapshot_backup.specs.Backed.{snapshot_of}
use Rattle.said_lines.specs.Lines.{snapshot_line}
use Rattle.said_lines.specs.Says.{Utters, IsRefusal}
use Rattle.backup_cli.specs.BackedUp.{BacksUpOn, noted_line}
use Rattle.said_lines.specs.declared.status.Status.{Status}
use Rattle.said_lines.specs.declared.status.Status.TheVariants.{Memory}
use Rattle.backup_cli.proofs.Backups.{last_is, line_said, line_failed, line_unmade, halted_by, altered_by}
use Rattle.said_lines.proofs.Utterances.{utters_tells}
use Rattle.backup_cli.proofs.backing_up.backup_opened.Goals as goal

pub returns-in-Err-clause-backs_up : goal.returns-in-Err-clause-backs_up
returns-in-Err-clause-backs_up g c = λ tells h k st.
    let v1 = g.S.Disk.view c.args.station.now in
    let v2 = g.S.Disk.view c.backup.new.disk in
    let v3 = g.S.Disk.view c.refuse.new.station in
    let folder = g.F.Folder.view c.backup.new.folder in
    let s = c.refuse.ensures.said in
    let t2 = utters_tells v2 v3 1 s.0 s.1 tells in
    subst (λ (status : Status). BacksUpOn g.L.Log.stands h c.args.path.now v1 v3 folder status) (sym (c.refuse.ensures.same ∙ c.status_of.ensures.by))
    (halted_by g.L.Log.holds g.L.Log.stands g.L.Log.is_broken g.met.L.Log.holds_stands c.in-Err.fault c.args.node.now c.backup.new.node h c.args.path.now v1 v2 v3 folder s.0
    (λ f is. c.in-Err.ensures.only f (ap Err is)) (λ name is. c.in-Err.ensures.altered name (ap Err is) t2 (fresh h) k st) (λ pair is. c.status_of.ensures.clashes pair (c.status_of.ensures.by ∙ is))
    (λ is. cc (c.in-Err.ensures.unbroken is)) (λ most. cc ((c.in-Err.ensures.full (ap snaps_made k.ledger ∙ most)).0))
    (λ i j left. g.met.S.Disk.only_now c.args.station.now i j left) tells c.backup.ensures.ran.works.outside (c.in-Err.ensures.stopped t2 (fresh h) k st)
    s.1 (subst (λ (status : Status). IsRefusal status s.0 v2 v3) c.status_of.ensures.by s.2))

pub returns-in-Ok-say_snapshot-clause-backs_up : goal.returns-in-Ok-say_snapshot-clause-backs_up
returns-in-Ok-say_snapshot-clause-backs_up g c = λ tells h k st.
    let v1 = g.S.Disk.view c.args.station.now in
    let v2 = g.S.Disk.view c.backup.new.disk in
    let v3 = g.S.Disk.view c.say_snapshot.new.station in
    let folder = g.F.Folder.view c.backup.new.folder in
    let note = c.in-Ok.field-0 in
    let u = c.in-Ok-say_snapshot.ensures.ok in
    let m = c.in-Ok.ensures.made in
    let up = c.in-Ok.ensures.up in
    let b = m.4 (utters_tells v2 v3 1 (snapshot_line c.in-Some.snapshot.now) u tells) (fresh h) k st in
    let n = c.in-Ok.ensures.noted in
    let kept : c.kept.result.now ≡ n.0 ++ snapshot_of (snaps_made (state h) + 1) note ∷ [] =
    c.kept.ensures ∙ ap (λ (l : LedgerView). l.state.kept) c.ledger.ensures ∙ n.1 ∙ ap (λ (s : State). n.0 ++ snapshot_of (snaps_made s + 1) note ∷ []) k.ledger in
    let line : snapshot_line c.in-Some.snapshot.now ≡ noted_line h note = ap snapshot_line (last_is c.kept.result.now n.0 (snapshot_of (snaps_made (state h) + 1) note) c.in-Some.snapshot.now kept c.in-Some.ensures.value) in
    line_said g.L.Log.holds g.L.Log.stands g.L.Log.is_broken g.met.L.Log.holds_stands c.args.node.now c.backup.new.node h c.args.path.now v1 v2 v3 folder m.0 note
    up.whole (λ most. absurd (cc ((c.in-Ok.ensures.full (ap snaps_made k.ledger ∙ most)).0)))
    (λ i j left. g.met.S.Disk.only_now c.args.station.now i j left) tells c.backup.ensures.ran.works.outside
    (record { places = m.0; note = note; notes = m.1; of = m.2; short = m.3; steps_are = refl; means_it = b.means_it }) b.fed (subst (λ (l : List ℕ). Utters v2 v3 1 l) line u)

pub returns-in-Err-Say-clause-backs_up : goal.returns-in-Err-Say-clause-backs_up
returns-in-Err-Say-clause-backs_up g c = λ tells h k st.
    let v1 = g.S.Disk.view c.args.station.now in
    let v2 = g.S.Disk.view c.backup.new.disk in
    let v3 = g.S.Disk.view c.say_snapshot.new.station in
    let folder = g.F.Folder.view c.backup.new.folder in
    let note = c.in-Ok.field-0 in
    let u = (c.in-Err-Say.ensures.say (ap Err c.in-Err-Say.field-0-is)).0 in
    let m = c.in-Ok.ensures.made in
    let up = c.in-Ok.ensures.up in
    let b = m.4 (utters_tells v2 v3 1 [] u tells) (fresh h) k st in
    line_failed g.L.Log.holds g.L.Log.stands g.L.Log.is_broken g.met.L.Log.holds_stands c.args.node.now c.backup.new.node h c.args.path.now v1 v2 v3 folder m.0 note
    up.whole (λ most. absurd (cc ((c.in-Ok.ensures.full (ap snaps_made k.ledger ∙ most)).0)))
    (λ i j left. g.met.S.Disk.only_now c.args.station.now i j left) tells c.backup.ensures.ran.works.outside
    (record { places = m.0; note = note; notes = m.1; of = m.2; short = m.3; steps_are = refl; means_it = b.means_it }) b.fed u

pub returns-in-Err-Memory-clause-backs_up : goal.returns-in-Err-Memory-clause-backs_up
returns-in-Err-Memory-clause-backs_up g c = λ tells h k st.
    let v1 = g.S.Disk.view c.args.station.now in
    let v2 = g.S.Disk.view c.backup.new.disk in
    let v3 = g.S.Disk.view c.refuse-in-Err-Memory.new.station in
    let folder = g.F.Folder.view c.backup.new.folder in
    let note = c.in-Ok.field-0 in
    let same : g.S.Disk.view c.say_snapshot.new.station ≡ v2 = ap (λ s. g.S.Disk.view s) (c.in-Err-Memory.ensures.memory (ap Err c.in-Err-Memory.field-0-is)) in
    let s = c.refuse-in-Err-Memory.ensures.said in
    let u = subst (λ (w : View). Utters w v3 1 s.0) same s.1 in
    let how = subst (λ (w : View). IsRefusal Memory s.0 w v3) same s.2 in
    let m = c.in-Ok.ensures.made in
    let up = c.in-Ok.ensures.up in
    let b = m.4 (utters_tells v2 v3 1 s.0 u tells) (fresh h) k st in
    subst (λ (status : Status). BacksUpOn g.L.Log.stands h c.args.path.now v1 v3 folder status) (sym c.refuse-in-Err-Memory.ensures.same)
    (line_unmade g.L.Log.holds g.L.Log.stands g.L.Log.is_broken g.met.L.Log.holds_stands c.args.node.now c.backup.new.node h c.args.path.now v1 v2 v3 folder m.0 note s.0
    up.whole (λ most. absurd (cc ((c.in-Ok.ensures.full (ap snaps_made k.ledger ∙ most)).0)))
    (λ i j left. g.met.S.Disk.only_now c.args.station.now i j left) tells c.backup.ensures.ran.works.outside
    (record { places = m.0; note = note; notes = m.1; of = m.2; short = m.3; steps_are = refl; means_it = b.means_it }) b.fed u how)

pub returns-in-Err-clause-altered : goal.returns-in-Err-clause-altered
returns-in-Err-clause-altered g c = λ is tells h k st.
    let v2 = g.S.Disk.view c.backup.new.disk in
    let v3 = g.S.Disk.view c.refuse.new.station in
    let s = c.refuse.ensures.said in
    let name = altered_by c.in-Err.fault (sym c.status_of.ensures.by ∙ sym c.refuse.ensures.same ∙ is) in
    c.in-Err.ensures.altered name.0 (ap Err name.1) (utters_tells v2 v3 1 s.0 s.1 tells) (fresh h) k st

pub returns-in-Err-clause-idle : goal.returns-in-Err-clause-idle
returns-in-Err-clause-idle g c = λ h k most. (c.backup.ensures.full (ap snaps_made k.ledger ∙ most)).1

pub returns-in-Ok-say_snapshot-clause-idle : goal.returns-in-Ok-say_snapshot-clause-idle
returns-in-Ok-say_snapshot-clause-idle g c = λ h k most. (c.backup.ensures.full (ap snaps_made k.ledger ∙ most)).1

pub returns-in-Err-Say-clause-idle : goal.returns-in-Err-Say-clause-idle
returns-in-Err-Say-clause-idle g c = λ h k most. (c.backup.ensures.full (ap snaps_made k.ledger ∙ most)).1

pub returns-in-Err-Memory-clause-idle : goal.returns-in-Err-Memory-clause-idle
returns-in-Err-Memory-clause-idle g c = λ h k most. (c.backup.ensures.full (ap snaps_made k.ledger ∙ most)).1
