use Rattle.std.proofs.Common.{◌≡◌, ◌≤◌, ◌||◌, ℕ, List, length, Err, sym, ◌∙◌, ap, subst, rules}
use Rattle.psb_model.specs.Words.{name_listed}
use Rattle.psb_machine.specs.declared.snap_note.SnapNote.{SnapNote}
use Rattle.node_core.specs.declared.fault.Fault.TheVariants as fault
use Rattle.node_history.proofs.Presence.{err_as}
use Rattle.skeleton.specs.declared.entry.Entry.{Entry}
use Rattle.skeleton.specs.declared.limits.TheConstants.{MOST_TEXT_BYTES}
use Rattle.skeleton.specs.Texts.{skeleton_text}
use Rattle.snapshots.specs.Meaning.{refs_in}
use Rattle.snapshots.specs.Tickets.{ticket_from, most_levels}
use Rattle.snapshots.proofs.Levels.{text_has_ticket}
use Rattle.snapshot_backup.specs.Course.{pieces_of_levels}
use Rattle.snapshot_backup.specs.Endings.{backup_fault_of, AllKept, StoppedFor}
use Rattle.snapshot_backup.specs.declared.fault.BackupFault.TheVariants as backup_fault
use Rattle.snapshot_backup.specs.Kept.{names_of}
use Rattle.snapshot_backup.specs.Naming.{count_of, names_in}
use Rattle.snapshot_backup.proofs.Fronts.{so_untried, so_lacking}
use Rattle.snapshot_backup.proofs.LevelParts.{levels_as, levels_then_not}
use Rattle.snapshot_backup.proofs.SkeletonNames.{few_refs}
use Rattle.snapshot_backup.proofs.Noted.{noted, few_names}
use Rattle.snapshot_backup.proofs.note.keep_skeleton.Goals as goal

pub returns-in_err-names-clause-keeps : goal.returns-in_err-names-clause-keeps
returns-in_err-names-clause-keeps g c =
    let short : c.from_residual.result ≡ Err fault.Memory = search rules in
    so_lacking g.L.Log.holds g.L.Log.stands g.L.Log.size g.L.Log.keeps_body g.L.Log.is_broken g.met.L.Log.holds_stands c.args.node.now c.args.node.now (g.D.Disk.view c.args.disk.now) (g.D.Disk.view c.args.disk.now) (pieces_of_levels most_levels (skeleton_text c.args.skeleton.now)) c.from_residual.result short
    (so_untried g.L.Log.holds g.L.Log.stands g.L.Log.size g.L.Log.keeps_body g.L.Log.is_broken g.met.L.Log.holds_stands c.args.node.now (g.D.Disk.view c.args.disk.now) (pieces_of_levels most_levels (skeleton_text c.args.skeleton.now)) backup_fault.Memory tt)

pub returns-in-Err-Memory-clause-keeps : goal.returns-in-Err-Memory-clause-keeps
returns-in-Err-Memory-clause-keeps g c = so_untried g.L.Log.holds g.L.Log.stands g.L.Log.size g.L.Log.keeps_body g.L.Log.is_broken g.met.L.Log.holds_stands c.args.node.now (g.D.Disk.view c.args.disk.now) (pieces_of_levels most_levels (skeleton_text c.args.skeleton.now)) backup_fault.Memory tt

pub keep_levels-requires-clause-enough : goal.keep_levels-requires-clause-enough
keep_levels-requires-clause-enough g c = text_has_ticket c.deref.result.now (subst (λ (t : List ℕ). length t ≤ MOST_TEXT_BYTES) (sym (c.deref.ensures.value ∙ c.in-Ok.ensures.exact)) c.requires.short)

pub returns-in-Err-clause-keeps : goal.returns-in-Err-clause-keeps
returns-in-Err-clause-keeps g c = levels_as g.L.Log.holds g.L.Log.stands g.L.Log.size g.L.Log.keeps_body g.L.Log.is_broken g.met.L.Log.holds_stands c.args.node.now c.keep_levels.new.node (g.D.Disk.view c.args.disk.now) (g.D.Disk.view c.keep_levels.new.disk) most_levels c.deref.result.now (skeleton_text c.args.skeleton.now) (StoppedFor (backup_fault_of c.in-Err.fault)) (c.deref.ensures.value ∙ c.in-Ok.ensures.exact) c.in-Err.ensures.keeps

pub returns-in-Err-clause-altered : goal.returns-in-Err-clause-altered
returns-in-Err-clause-altered g c = λ name said. c.in-Err.ensures.altered name (err_as c.in-Err.fault (fault.Altered name) said)

pub returns-in_err-list-clause-keeps : goal.returns-in_err-list-clause-keeps
returns-in_err-list-clause-keeps g c =
    let short : c.from_residual-in_err-list.result ≡ Err fault.Memory = search rules in
    so_lacking g.L.Log.holds g.L.Log.stands g.L.Log.size g.L.Log.keeps_body g.L.Log.is_broken g.met.L.Log.holds_stands c.args.node.now c.keep_levels.new.node (g.D.Disk.view c.args.disk.now) (g.D.Disk.view c.keep_levels.new.disk) (pieces_of_levels most_levels (skeleton_text c.args.skeleton.now)) c.from_residual-in_err-list.result short
    (levels_then_not g.L.Log.holds g.L.Log.stands g.L.Log.size g.L.Log.keeps_body g.L.Log.is_broken g.met.L.Log.holds_stands c.args.node.now c.keep_levels.new.node (g.D.Disk.view c.args.disk.now) (g.D.Disk.view c.keep_levels.new.disk) most_levels c.deref.result.now (skeleton_text c.args.skeleton.now) (c.deref.ensures.value ∙ c.in-Ok.ensures.exact) c.in-Ok-keep_levels.ensures.keeps)

pub returns-clause-keeps : goal.returns-clause-keeps
returns-clause-keeps g c = levels_as g.L.Log.holds g.L.Log.stands g.L.Log.size g.L.Log.keeps_body g.L.Log.is_broken g.met.L.Log.holds_stands c.args.node.now c.keep_levels.new.node (g.D.Disk.view c.args.disk.now) (g.D.Disk.view c.keep_levels.new.disk) most_levels c.deref.result.now (skeleton_text c.args.skeleton.now) AllKept (c.deref.ensures.value ∙ c.in-Ok.ensures.exact) c.in-Ok-keep_levels.ensures.keeps

pub returns-clause-note : goal.returns-clause-note
returns-clause-note g c =
    let note : SnapNote = record { ticket = c.in-Ok-keep_levels.ticket; files = c.count-files.result.files; folders = c.count-files.result.folders; bytes = c.count-files.result.bytes; left = c.args.left; names = c.in_ok-list.field-0 } in
    let is = (c.deref.ensures.value ∙ c.in-Ok.ensures.exact) in
    noted c.args.skeleton.now note
    (ap (ticket_from most_levels) (sym is) ∙ c.in-Ok-keep_levels.ensures.ticket)
    c.count-files.ensures.files
    c.count-files.ensures.folders
    c.count-files.ensures.bytes
    c.in_ok-list.ensures.ascend
    (λ q.
    c.in_ok-list.ensures.same q ∙ c.in-Ok-keep_levels.ensures.names q
    ∙ ap (λ b. b || name_listed (names_of (pieces_of_levels most_levels c.deref.result.now)) q) (c.in_ok-names.ensures.names q ∙ ap (λ (es : List Entry). name_listed (names_in (refs_in es)) q) c.entries.ensures.all)
    ∙ ap (λ (t : List ℕ). name_listed (names_in (refs_in c.args.skeleton.now)) q || name_listed (names_of (pieces_of_levels most_levels t)) q) is)

pub returns-clause-few : goal.returns-clause-few
returns-clause-few g c =
    subst (λ (n : ℕ). n ≤ 1048576) (sym c.in_ok-list.ensures.count)
    (few_names c.deref.result.now (length (refs_in c.args.skeleton.now)) (count_of c.in_ok-names.names) (count_of c.keep_levels.new.names)
    (subst (λ (t : List ℕ). length t ≤ MOST_TEXT_BYTES) (sym (c.deref.ensures.value ∙ c.in-Ok.ensures.exact)) c.requires.short)
    (few_refs c.args.skeleton.now c.entries.ensures.skeleton c.requires.short)
    (subst (λ (es : List Entry). count_of c.in_ok-names.names ≤ length (refs_in es)) c.entries.ensures.all c.in_ok-names.ensures.count)
    c.in-Ok-keep_levels.ensures.count)
