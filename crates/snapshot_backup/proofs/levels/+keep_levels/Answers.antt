use Rattle.std.proofs.Common.{◌≡◌, ◌-◌, ◌<◌, Result, Err, refl, sym, ◌∙◌, ap, arith, rules}
use Rattle.psb_bytes.specs.declared.ids.Ticket.{Ticket}
use Rattle.node_core.specs.declared.fault.Fault.{Fault}
use Rattle.node_core.specs.declared.fault.Fault.TheVariants as fault
use Rattle.skeleton.specs.Texts.{refs_text}
use Rattle.snapshots.specs.Tickets.{chunks_of, one_of}
use Rattle.snapshot_backup.specs.Course.{pieces_of_levels}
use Rattle.snapshot_backup.specs.Endings.{backup_fault_of, AllKept, StoppedFor}
use Rattle.snapshot_backup.specs.Naming.{has_name, count_of}
use Rattle.snapshot_backup.proofs.Fronts.{so_lacking}
use Rattle.snapshot_backup.proofs.Honest.{none_altered_then}
use Rattle.snapshot_backup.proofs.LevelParts.{one_ticket, is_below, above_short, above_fits, names_then, names_alone, count_then, count_alone, levels_cut, levels_stopped, levels_alone, levels_then}
use Rattle.snapshot_backup.proofs.levels.+keep_levels.Goals as goal

pub returns-in-Err-clause-keeps : goal.returns-in-Err-clause-keeps
returns-in-Err-clause-keeps g t c = levels_cut g.L.Log.holds g.L.Log.stands g.L.Log.size g.L.Log.keeps_body g.L.Log.is_broken g.met.L.Log.holds_stands c.args.node.now c.keep_text.new.node (g.D.Disk.view c.args.disk.now) (g.D.Disk.view c.keep_text.new.disk) c.args.most c.args.text.now (backup_fault_of c.in-Err.fault) c.in-Err.ensures.keeps

pub returns-in_err-add-clause-keeps : goal.returns-in_err-add-clause-keeps
returns-in_err-add-clause-keeps g t c =
    let short : c.from_residual.result ≡ Err fault.Memory = search rules in
    so_lacking g.L.Log.holds g.L.Log.stands g.L.Log.size g.L.Log.keeps_body g.L.Log.is_broken g.met.L.Log.holds_stands c.args.node.now c.keep_text.new.node (g.D.Disk.view c.args.disk.now) (g.D.Disk.view c.keep_text.new.disk) (pieces_of_levels c.args.most c.args.text.now) c.from_residual.result short
    (levels_stopped g.L.Log.holds g.L.Log.stands g.L.Log.size g.L.Log.keeps_body g.L.Log.is_broken g.met.L.Log.holds_stands c.args.node.now c.keep_text.new.node (g.D.Disk.view c.args.disk.now) (g.D.Disk.view c.keep_text.new.disk) c.args.most c.args.text.now c.in-Ok.ensures.keeps)

pub returns-in-Some-clause-ticket : goal.returns-in-Some-clause-ticket
returns-in-Some-clause-ticket g t c = one_ticket c.args.most c.args.text.now c.in-Some.reference (ap one_of (sym c.in-Ok.ensures.refs) ∙ ap one_of (sym c.as_slice-2.ensures) ∙ sym c.only_one.ensures ∙ c.in-Some.is)

pub returns-in-Some-clause-keeps : goal.returns-in-Some-clause-keeps
returns-in-Some-clause-keeps g t c = levels_alone g.L.Log.holds g.L.Log.stands g.L.Log.size g.L.Log.keeps_body g.L.Log.is_broken g.met.L.Log.holds_stands c.args.node.now c.keep_text.new.node (g.D.Disk.view c.args.disk.now) (g.D.Disk.view c.keep_text.new.disk) c.args.most c.args.text.now c.in-Some.reference (ap one_of (sym c.in-Ok.ensures.refs) ∙ ap one_of (sym c.as_slice-2.ensures) ∙ sym c.only_one.ensures ∙ c.in-Some.is) c.in-Ok.ensures.keeps

pub returns-in-Some-clause-names : goal.returns-in-Some-clause-names
returns-in-Some-clause-names g t c = λ q. names_alone c.args.most c.args.text.now q c.as_slice.result.now c.in-Some.reference (has_name c.args.names.now q) (has_name c.add.new.self q) (ap one_of (sym c.in-Ok.ensures.refs) ∙ ap one_of (sym c.as_slice-2.ensures) ∙ sym c.only_one.ensures ∙ c.in-Some.is) (c.as_slice.ensures ∙ c.in-Ok.ensures.refs) (c.in_ok-add.ensures.added q)

pub returns-in-Some-clause-count : goal.returns-in-Some-clause-count
returns-in-Some-clause-count g t c = count_alone c.args.most c.args.text.now c.as_slice.result.now c.in-Some.reference (count_of c.args.names.now) (count_of c.add.new.self) (ap one_of (sym c.in-Ok.ensures.refs) ∙ ap one_of (sym c.as_slice-2.ensures) ∙ sym c.only_one.ensures ∙ c.in-Some.is) (c.as_slice.ensures ∙ c.in-Ok.ensures.refs) c.in_ok-add.ensures.count

pub write_refs-requires : goal.write_refs-requires
write_refs-requires g t c = above_fits c.args.text.now c.in-Ok.refs c.in-Ok.ensures.refs

pub returns-in-Err-Memory-clause-keeps : goal.returns-in-Err-Memory-clause-keeps
returns-in-Err-Memory-clause-keeps g t c = levels_stopped g.L.Log.holds g.L.Log.stands g.L.Log.size g.L.Log.keeps_body g.L.Log.is_broken g.met.L.Log.holds_stands c.args.node.now c.keep_text.new.node (g.D.Disk.view c.args.disk.now) (g.D.Disk.view c.keep_text.new.disk) c.args.most c.args.text.now c.in-Ok.ensures.keeps

pub unreachable-requires : goal.unreachable-requires
unreachable-requires g t c =
    omega (arith, above_short c.args.text.now (refs_text c.in-Ok.refs) (ap refs_text c.in-Ok.ensures.refs) c.requires.short, c.write_refs.ensures.too_large.0 (c.in-Err-TooLarge.is ∙ ap (λ e. Err e) c.in-Err-TooLarge.field-0-is))

pub keep_levels-requires : goal.keep_levels-requires
keep_levels-requires g t c κs within =
    let b = is_below c.args.most c.args.text.now c.deref.result.now (c.deref.ensures.value ∙ c.in-Ok-write_refs.ensures.exact ∙ ap refs_text c.in-Ok.ensures.refs) (ap one_of (sym c.in-Ok.ensures.refs) ∙ ap one_of (sym c.as_slice-2.ensures) ∙ sym c.only_one.ensures ∙ c.in-None.is) c.requires.enough in
    let lt : c.args.most - 1 < t = omega (arith, c.decreases, b.fewer) in
    (lt, (within.0, (within.1, (c.in-Ok.ensures.keeps.up refl, (above_short c.args.text.now c.deref.result.now (c.deref.ensures.value ∙ c.in-Ok-write_refs.ensures.exact ∙ ap refs_text c.in-Ok.ensures.refs) c.requires.short, b.enough)))))

pub returns-in-Ok-keep_levels-clause-ticket : goal.returns-in-Ok-keep_levels-clause-ticket
returns-in-Ok-keep_levels-clause-ticket g t c =
    let b = is_below c.args.most c.args.text.now c.deref.result.now (c.deref.ensures.value ∙ c.in-Ok-write_refs.ensures.exact ∙ ap refs_text c.in-Ok.ensures.refs) (ap one_of (sym c.in-Ok.ensures.refs) ∙ ap one_of (sym c.as_slice-2.ensures) ∙ sym c.only_one.ensures ∙ c.in-None.is) c.requires.enough in
    b.ticket c.in-Ok-keep_levels.ticket c.in-Ok-keep_levels.ensures.ticket

pub returns-in-Ok-keep_levels-clause-keeps : goal.returns-in-Ok-keep_levels-clause-keeps
returns-in-Ok-keep_levels-clause-keeps g t c =
    let b = is_below c.args.most c.args.text.now c.deref.result.now (c.deref.ensures.value ∙ c.in-Ok-write_refs.ensures.exact ∙ ap refs_text c.in-Ok.ensures.refs) (ap one_of (sym c.in-Ok.ensures.refs) ∙ ap one_of (sym c.as_slice-2.ensures) ∙ sym c.only_one.ensures ∙ c.in-None.is) c.requires.enough in
    levels_then g.L.Log.holds g.L.Log.stands g.L.Log.size g.L.Log.keeps_body g.L.Log.is_broken g.met.L.Log.holds_stands c.args.node.now c.keep_text.new.node c.keep_levels.new.node (g.D.Disk.view c.args.disk.now) (g.D.Disk.view c.keep_text.new.disk) (g.D.Disk.view c.keep_levels.new.disk) c.args.text.now (pieces_of_levels c.args.most c.args.text.now) (pieces_of_levels (c.args.most - 1) c.deref.result.now) AllKept b.pieces c.in-Ok.ensures.keeps c.in-Ok-keep_levels.ensures.keeps

pub returns-in-Ok-keep_levels-clause-names : goal.returns-in-Ok-keep_levels-clause-names
returns-in-Ok-keep_levels-clause-names g t c = λ q.
    let b = is_below c.args.most c.args.text.now c.deref.result.now (c.deref.ensures.value ∙ c.in-Ok-write_refs.ensures.exact ∙ ap refs_text c.in-Ok.ensures.refs) (ap one_of (sym c.in-Ok.ensures.refs) ∙ ap one_of (sym c.as_slice-2.ensures) ∙ sym c.only_one.ensures ∙ c.in-None.is) c.requires.enough in
    names_then c.args.text.now q c.as_slice.result.now (pieces_of_levels c.args.most c.args.text.now) (pieces_of_levels (c.args.most - 1) c.deref.result.now) (has_name c.args.names.now q) (has_name c.add.new.self q) (has_name c.keep_levels.new.names q) b.pieces (c.as_slice.ensures ∙ c.in-Ok.ensures.refs)
    (c.in_ok-add.ensures.added q) (c.in-Ok-keep_levels.ensures.names q)

pub returns-in-Ok-keep_levels-clause-count : goal.returns-in-Ok-keep_levels-clause-count
returns-in-Ok-keep_levels-clause-count g t c =
    let b = is_below c.args.most c.args.text.now c.deref.result.now (c.deref.ensures.value ∙ c.in-Ok-write_refs.ensures.exact ∙ ap refs_text c.in-Ok.ensures.refs) (ap one_of (sym c.in-Ok.ensures.refs) ∙ ap one_of (sym c.as_slice-2.ensures) ∙ sym c.only_one.ensures ∙ c.in-None.is) c.requires.enough in
    count_then c.args.text.now c.as_slice.result.now (pieces_of_levels c.args.most c.args.text.now) (pieces_of_levels (c.args.most - 1) c.deref.result.now) (count_of c.args.names.now) (count_of c.add.new.self) (count_of c.keep_levels.new.names) b.pieces (c.as_slice.ensures ∙ c.in-Ok.ensures.refs)
    c.in_ok-add.ensures.count c.in-Ok-keep_levels.ensures.count

pub returns-clause-keeps : goal.returns-clause-keeps
returns-clause-keeps g t c =
    let b = is_below c.args.most c.args.text.now c.deref.result.now (c.deref.ensures.value ∙ c.in-Ok-write_refs.ensures.exact ∙ ap refs_text c.in-Ok.ensures.refs) (ap one_of (sym c.in-Ok.ensures.refs) ∙ ap one_of (sym c.as_slice-2.ensures) ∙ sym c.only_one.ensures ∙ c.in-None.is) c.requires.enough in
    levels_then g.L.Log.holds g.L.Log.stands g.L.Log.size g.L.Log.keeps_body g.L.Log.is_broken g.met.L.Log.holds_stands c.args.node.now c.keep_text.new.node c.keep_levels.new.node (g.D.Disk.view c.args.disk.now) (g.D.Disk.view c.keep_text.new.disk) (g.D.Disk.view c.keep_levels.new.disk) c.args.text.now (pieces_of_levels c.args.most c.args.text.now) (pieces_of_levels (c.args.most - 1) c.deref.result.now) (StoppedFor (backup_fault_of c.in-Err-keep_levels.fault)) b.pieces c.in-Ok.ensures.keeps c.in-Err-keep_levels.ensures.keeps

pub returns-clause-altered : goal.returns-clause-altered
returns-clause-altered g t c =
    none_altered_then g.L.Log.holds g.L.Log.stands g.L.Log.size g.L.Log.keeps_body g.L.Log.is_broken g.met.L.Log.holds_stands c.args.node.now c.keep_text.new.node c.keep_levels.new.node (g.D.Disk.view c.args.disk.now) (g.D.Disk.view c.keep_text.new.disk) (g.D.Disk.view c.keep_levels.new.disk) (chunks_of c.args.text.now)
    (λ name. ◌≡◌ {A = Result Ticket Fault} (Err c.in-Err-keep_levels.fault) (Err (fault.Altered name))) c.in-Ok.ensures.keeps c.in-Err-keep_levels.ensures.keeps.works c.in-Err-keep_levels.ensures.altered
