use Rattle.std.proofs.Common.{◌≡◌, inl, inr, ⊎_elim, List, ℕ, IfSome, Err, sym, subst, rules}
use Rattle.psb_station.specs.Span.{Keeps}
use Rattle.psb_station.proofs.Spans.{rose_last}
use Rattle.node_core.specs.declared.fault.Fault.TheVariants as fault
use Rattle.backup_cli.specs.Files.{IsFrontOf}
use Rattle.backup_cli.proofs.Beginnings.{is_settings, is_no_settings, disk_begun, stops_bad, stops_disk}
use Rattle.backup_cli.proofs.beginning.begin_from.Goals as goal

pub returns-in-Ok-begin-clause-begun : goal.returns-in-Ok-begin-clause-begun
returns-in-Ok-begin-clause-begun g c =
    let f1 = g.F.Folder.view c.read_file.new.folder in
    let text = c.deref.result.now in
    let front = subst (λ (l : List ℕ). IfSome f1.content (λ k. IsFrontOf k c.args.file.now 65537 l)) (sym c.deref.ensures.value) c.in-Ok-read_file.ensures.front in
    let s = c.in-Ok-begin.ensures.settings in (
      record {
        has = is_settings c.args.file.now f1 text s.0 front s.1;
        disk = disk_begun g.L.Log.holds g.L.Log.stands g.met.L.Log.holds_stands c.in-Ok-begin.node text (g.S.Disk.view c.args.station.now) (g.S.Disk.view c.expect_empty.new.station) (g.S.Disk.view c.begin.new.disk)
            c.in-Ok.ensures.keeps c.in-Ok-begin.ensures.knows c.in-Ok-begin.ensures.stored;
      },
      s.2,
    )

pub returns-in-Err-BadSettings-clause-stops : goal.returns-in-Err-BadSettings-clause-stops
returns-in-Err-BadSettings-clause-stops g c =
    let v0 = g.S.Disk.view c.args.station.now in
    let f1 = g.F.Folder.view c.read_file.new.folder in
    let front = subst (λ (l : List ℕ). IfSome f1.content (λ k. IsFrontOf k c.args.file.now 65537 l)) (sym c.deref.ensures.value) c.in-Ok-read_file.ensures.front in
    let failed : c.begin.result ≡ Err fault.BadSettings = search rules in
    stops_bad c.args.file.now v0 (g.S.Disk.view c.begin.new.disk) (g.F.Folder.view c.args.folder.now) f1
    (subst (λ (d : g.row.S.Denot). Keeps v0 (g.S.Disk.view d)) (sym (c.begin.ensures.untouched (inl failed))) c.in-Ok.ensures.keeps)
    (λ tells. c.in-Ok.ensures.ok (c.begin.ensures.works.tells tells)) (is_no_settings c.args.file.now f1 c.deref.result.now front (c.begin.ensures.bad_settings failed))

pub returns-in-Err-DiskFault-clause-stops : goal.returns-in-Err-DiskFault-clause-stops
returns-in-Err-DiskFault-clause-stops g c =
    let v0 = g.S.Disk.view c.args.station.now in
    let v1 = g.S.Disk.view c.expect_empty.new.station in
    let v2 = g.S.Disk.view c.begin.new.disk in
    let f1 = g.F.Folder.view c.read_file.new.folder in
    let front = subst (λ (l : List ℕ). IfSome f1.content (λ k. IsFrontOf k c.args.file.now 65537 l)) (sym c.deref.ensures.value) c.in-Ok-read_file.ensures.front in
    let failed : c.begin.result ≡ Err fault.DiskFault = search rules in
    stops_disk c.args.file.now v0 v2 (g.F.Folder.view c.args.folder.now) f1
    (⊎_elim (λ same. inl (subst (λ (d : g.row.S.Denot). Keeps v0 (g.S.Disk.view d)) (sym same) c.in-Ok.ensures.keeps))
    (λ s. inr (record { empty = λ tells. c.in-Ok.ensures.ok (c.begin.ensures.works.tells tells); has = is_settings c.args.file.now f1 c.deref.result.now s.0 front s.1 })) c.begin.ensures.written)
    (rose_last v0.disk_faults v1.disk_faults v2.disk_faults c.in-Ok.ensures.keeps.works.disk_faults (c.begin.ensures.disk_cause failed))
