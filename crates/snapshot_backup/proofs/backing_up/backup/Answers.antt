use Rattle.std.proofs.Common.{◌≡◌, inl, inr, ⊎_elim, ◌≤◌, ℕ, List, [], length, IfSome, Err, rules, refl, sym, ◌∙◌, ap, subst, arith}
use Rattle.psb_station.specs.Span.{Tells_bytes}
use Rattle.psb_model.specs.State.{snaps_made}
use Rattle.psb_model.specs.History.{state}
use Rattle.psb_machine.specs.Machine.{Situation, Snap}
use Rattle.node_history.proofs.Presence.{err_as, err_is}
use Rattle.node_core.specs.Stored.{Knows, Stored}
use Rattle.node_core.specs.declared.fault.Fault.TheVariants as fault
use Rattle.skeleton.specs.declared.entry.Entry.{Entry}
use Rattle.skeleton.specs.declared.limits.TheConstants.{MOST_TEXT_BYTES}
use Rattle.skeleton.specs.Texts.{skeleton_text}
use Rattle.snapshots.specs.Tickets.{skeleton_of_tree, most_levels}
use Rattle.snapshots.specs.Walks.{bare_len, AreFound, AreFoldersOf, IsWalk}
use Rattle.snapshots.specs.declared.walking.WalkFault.{WalkFault}
use Rattle.snapshots.specs.declared.walking.Found.{Found}
use Rattle.snapshot_backup.specs.Backed.{IsSnapOf, StopsBackup}
use Rattle.snapshot_backup.specs.Course.{pieces_of_files, pieces_of_levels, pieces_of, keep_steps}
use Rattle.snapshot_backup.specs.Endings.{backup_fault_of, AllKept, StoppedFor}
use Rattle.snapshot_backup.specs.Faults.{walked_as}
use Rattle.snapshot_backup.specs.Runs.{KeepsSo, most_refs}
use Rattle.snapshot_backup.specs.declared.fault.BackupFault.{BackupFault}
use Rattle.snapshot_backup.specs.declared.fault.BackupFault.TheVariants as backup_fault
use Rattle.snapshot_backup.proofs.Fronts.{if_err, so_untried, so_then}
use Rattle.snapshot_backup.proofs.Honest.{none_altered_then}
use Rattle.snapshot_backup.proofs.NodeFaults.{fails_as_node, fails_of_piece, of_pieces, walk_left, walk_large}
use Rattle.snapshot_backup.proofs.NoteFits.{note_fits}
use Rattle.snapshot_backup.proofs.TreeTexts.{text_fits, refs_within, refs_few}
use Rattle.snapshot_backup.proofs.Stops.{calls_none, calls_listed, calls_then, has_tree, is_snap, is_skeleton, none_in_front, none_tried, files_tried, pieces_tried, comes_of_node, few_steps, long_with_refs}
use Rattle.snapshot_backup.proofs.Backups.{is_noted, never_large, stopped_at, not_noted, backed_up}
use Rattle.snapshot_backup.proofs.backing_up.backup.Goals as goal

-- ---- no room for another snapshot

pub returns-then-snapshots_made-eq4294967295-clause-stopped :
    goal.returns-then-snapshots_made-eq4294967295-clause-stopped
returns-then-snapshots_made-eq4294967295-clause-stopped g c = λ tells n k s.
    let content = (g.F.Folder.view c.args.folder.now).content in
    let was : c.snapshots_made.result ≡ snaps_made c.args.node.now.ledger.state = c.snapshots_made.ensures ∙ ap (λ l. snaps_made l.state) c.ledger.ensures in
    let made : snaps_made (state n.history) ≡ 4294967295 = ap snaps_made (sym k.ledger) ∙ sym was ∙ c.if-snapshots_made-eq4294967295.true in
    stopped_at g.L.Log.holds g.L.Log.stands g.L.Log.size g.L.Log.keeps_body g.L.Log.is_broken g.met.L.Log.holds_stands c.args.node.now c.args.node.now (g.D.Disk.view c.args.disk.now) (g.D.Disk.view c.args.disk.now) n [] backup_fault.TooLarge content c.args.path.now
    (so_untried g.L.Log.holds g.L.Log.stands g.L.Log.size g.L.Log.keeps_body g.L.Log.is_broken g.met.L.Log.holds_stands c.args.node.now (g.D.Disk.view c.args.disk.now) [] backup_fault.TooLarge tt)
    (none_tried backup_fault.TooLarge content c.args.path.now) (λ tried rest is large. inl (made, ap keep_steps (none_in_front tried rest is))) tells k s

pub returns-then-snapshots_made-eq4294967295-clause-calls :
    goal.returns-then-snapshots_made-eq4294967295-clause-calls
returns-then-snapshots_made-eq4294967295-clause-calls g c = calls_none c.args.path.now (g.F.Folder.view c.args.folder.now)

-- ---- the walk failed

pub returns-in_err-walked-clause-stopped : goal.returns-in_err-walked-clause-stopped
returns-in_err-walked-clause-stopped g c =
    let content = (g.F.Folder.view c.walk.new.folder).content in
    let f = c.in_err-walked.field-0.0 in
    let short : c.from_residual.result ≡ Err (walked_as f) = search rules in
    if_err c.from_residual.result (walked_as f) _ short (λ tells n k s.
    stopped_at g.L.Log.holds g.L.Log.stands g.L.Log.size g.L.Log.keeps_body g.L.Log.is_broken g.met.L.Log.holds_stands c.args.node.now c.args.node.now (g.D.Disk.view c.args.disk.now) (g.D.Disk.view c.args.disk.now) n [] (walked_as f) content c.args.path.now
    (so_untried g.L.Log.holds g.L.Log.stands g.L.Log.size g.L.Log.keeps_body g.L.Log.is_broken g.met.L.Log.holds_stands c.args.node.now (g.D.Disk.view c.args.disk.now) [] (walked_as f) (walk_left f))
    (none_tried (walked_as f) content c.args.path.now)
    (λ tried rest is large. inr (inl (c.walk.ensures.too_large (c.in_err-walked.was ∙ ap (λ (x : WalkFault). Err x) (walk_large f large)), ap keep_steps (none_in_front tried rest is)))) tells k s)

pub returns-in_err-walked-clause-calls : goal.returns-in_err-walked-clause-calls
returns-in_err-walked-clause-calls g c = calls_listed c.args.path.now c.walk.ensures.lists.0 (g.F.Folder.view c.args.folder.now) (g.F.Folder.view c.walk.new.folder) c.walk.ensures.lists.1

pub keep_places-requires-clause-few : goal.keep_places-requires-clause-few
keep_places-requires-clause-few g c = omega (arith, c.in_ok-walked.ensures.text.0)

-- ---- a file was not kept

pub returns-in-Err-clause-stopped : goal.returns-in-Err-clause-stopped
returns-in-Err-clause-stopped g c = λ tells n k s.
    let fs = c.deref.result.now in
    let root = c.args.path.now in
    let left = c.in_ok-walked.walked.left in
    let found : AreFound fs = subst AreFound (sym c.deref.ensures.value) c.in_ok-walked.ensures.found in
    let first = (g.F.Folder.view c.walk.new.folder).content in
    let content = (g.F.Folder.view c.keep_places.new.folder).content in
    let walk : IfSome first (λ d. IsWalk d root fs left) = subst (λ (l : List Found). IfSome first (λ d. IsWalk d root l left)) (sym c.deref.ensures.value) c.in_ok-walked.ensures.walk in
    let kept = c.in-Err.ensures.stopped in
    let tree = has_tree root fs left found first content walk c.keep_places.ensures.reads.content in
    let bare : c.in_ok-walked.walked.text_len ≡ bare_len fs = c.in_ok-walked.ensures.text.0 ∙ ap bare_len (sym c.deref.ensures.value) in
    let few : length kept.0 ≤ most_refs = omega (arith, kept.2, bare) in
    stopped_at g.L.Log.holds g.L.Log.stands g.L.Log.size g.L.Log.keeps_body g.L.Log.is_broken g.met.L.Log.holds_stands c.args.node.now c.keep_places.new.node (g.D.Disk.view c.args.disk.now) (g.D.Disk.view c.keep_places.new.disk) n kept.0 c.in-Err.fault content root kept.3
    (λ tried rest is. files_tried c.in-Err.fault content root fs kept.0 tried rest tree kept.1 few is)
    (λ tried rest is large. inr (inr (long_with_refs root fs left found first content walk c.keep_places.ensures.reads.content c.in_ok-walked.walked.text_len _ bare c.in_ok-walked.ensures.text.1 (omega (arith, c.in_ok-walked.ensures.text.1)) (c.in-Err.ensures.too_large (ap (λ (x : BackupFault). Err x) large)), few_steps kept.0 tried rest few is))) tells k s

pub returns-in-Err-clause-altered : goal.returns-in-Err-clause-altered
returns-in-Err-clause-altered g c = λ name is. c.in-Err.ensures.altered name (err_as c.in-Err.fault _ is)

pub returns-in-Err-clause-calls : goal.returns-in-Err-clause-calls
returns-in-Err-clause-calls g c =
    let fs = c.deref.result.now in
    let root = c.args.path.now in
    let left = c.in_ok-walked.walked.left in
    let found : AreFound fs = subst AreFound (sym c.deref.ensures.value) c.in_ok-walked.ensures.found in
    let first = (g.F.Folder.view c.walk.new.folder).content in
    let walk : IfSome first (λ d. IsWalk d root fs left) = subst (λ (l : List Found). IfSome first (λ d. IsWalk d root l left)) (sym c.deref.ensures.value) c.in_ok-walked.ensures.walk in
    let lists = c.in_ok-walked.ensures.lists in
    calls_then c.args.path.now lists.0 fs left (g.F.Folder.view c.args.folder.now) (g.F.Folder.view c.walk.new.folder) (g.F.Folder.view c.keep_places.new.folder) lists.1
    (subst (λ (l : List Found). AreFoldersOf l lists.0) (sym c.deref.ensures.value) lists.2) found walk c.keep_places.ensures.reads

pub returns-in-Err-clause-too_large : goal.returns-in-Err-clause-too_large
returns-in-Err-clause-too_large g c = λ is.
    let fs = c.deref.result.now in
    let root = c.args.path.now in
    let left = c.in_ok-walked.walked.left in
    let found : AreFound fs = subst AreFound (sym c.deref.ensures.value) c.in_ok-walked.ensures.found in
    let first = (g.F.Folder.view c.walk.new.folder).content in
    let content = (g.F.Folder.view c.keep_places.new.folder).content in
    let walk : IfSome first (λ d. IsWalk d root fs left) = subst (λ (l : List Found). IfSome first (λ d. IsWalk d root l left)) (sym c.deref.ensures.value) c.in_ok-walked.ensures.walk in
    let bare : c.in_ok-walked.walked.text_len ≡ bare_len fs = c.in_ok-walked.ensures.text.0 ∙ ap bare_len (sym c.deref.ensures.value) in
    inr (inr (long_with_refs root fs left found first content walk c.keep_places.ensures.reads.content c.in_ok-walked.walked.text_len _ bare c.in_ok-walked.ensures.text.1 (omega (arith, c.in_ok-walked.ensures.text.1)) (c.in-Err.ensures.too_large (err_as c.in-Err.fault _ is))))

pub returns-in-Err-clause-only : goal.returns-in-Err-clause-only
returns-in-Err-clause-only g c = of_pieces c.in-Err.fault c.in-Err.ensures.of_piece

-- ---- the skeleton

pub keep_skeleton-requires-clause-short : goal.keep_skeleton-requires-clause-short
keep_skeleton-requires-clause-short g c =
    let fs = c.deref.result.now in
    let bare : c.in_ok-walked.walked.text_len ≡ bare_len fs = c.in_ok-walked.ensures.text.0 ∙ ap bare_len (sym c.deref.ensures.value) in
    let kept = c.in-Ok.ensures.kept in
    subst (λ (es : List Entry). length (skeleton_text es) ≤ MOST_TEXT_BYTES) (sym kept.1)
    (text_fits fs kept.0 c.in_ok-walked.walked.text_len _ kept.2 bare (omega (arith, c.in_ok-walked.ensures.text.1)) (refs_within _ _ kept.1 c.in-Ok.ensures.fits))

pub returns-in-Err-keep_skeleton-clause-stopped : goal.returns-in-Err-keep_skeleton-clause-stopped
returns-in-Err-keep_skeleton-clause-stopped g c =
    let f = c.in-Err-keep_skeleton.fault in
    let e = backup_fault_of f in
    let fs = c.deref.result.now in
    let root = c.args.path.now in
    let left = c.in_ok-walked.walked.left in
    let found : AreFound fs = subst AreFound (sym c.deref.ensures.value) c.in_ok-walked.ensures.found in
    let first = (g.F.Folder.view c.walk.new.folder).content in
    let content = (g.F.Folder.view c.keep_places.new.folder).content in
    let walk : IfSome first (λ d. IsWalk d root fs left) = subst (λ (l : List Found). IfSome first (λ d. IsWalk d root l left)) (sym c.deref.ensures.value) c.in_ok-walked.ensures.walk in
    let kept = c.in-Ok.ensures.kept in
    let places = kept.0 in
    let snap = is_snap root fs left found first content places walk c.keep_places.ensures.reads.content kept.2 kept.3 in
    let v0 = g.D.Disk.view c.args.disk.now in
    let v1 = g.D.Disk.view c.keep_places.new.disk in
    let v2 = g.D.Disk.view c.keep_skeleton.new.disk in
    let so = so_then g.L.Log.holds g.L.Log.stands g.L.Log.size g.L.Log.keeps_body g.L.Log.is_broken g.met.L.Log.holds_stands c.args.node.now c.keep_places.new.node c.keep_skeleton.new.node v0 v1 v2 (pieces_of_files places) (pieces_of_levels most_levels (skeleton_text (skeleton_of_tree places))) (StoppedFor e) kept.4
    (subst (λ (es : List Entry). KeepsSo g.L.Log.holds g.L.Log.stands g.L.Log.size g.L.Log.keeps_body g.L.Log.is_broken c.keep_places.new.node c.keep_skeleton.new.node v1 v2 (pieces_of_levels most_levels (skeleton_text es)) (StoppedFor e)) kept.1 c.in-Err-keep_skeleton.ensures.keeps) in
    let few = refs_few places (refs_within _ _ kept.1 c.in-Ok.ensures.fits) in
    let bare : c.in_ok-walked.walked.text_len ≡ bare_len fs = c.in_ok-walked.ensures.text.0 ∙ ap bare_len (sym c.deref.ensures.value) in
    subst (λ (x : BackupFault). Tells_bytes v2 → (n : Situation) → Knows c.args.node.now n → Stored g.L.Log.holds c.args.node.now n.history v0 → StopsBackup g.L.Log.holds g.L.Log.stands g.L.Log.is_broken c.args.node.now c.keep_skeleton.new.node v0 v2 n x content root) (sym c.from.ensures) (λ tells n k s.
    stopped_at g.L.Log.holds g.L.Log.stands g.L.Log.size g.L.Log.keeps_body g.L.Log.is_broken g.met.L.Log.holds_stands c.args.node.now c.keep_skeleton.new.node v0 v2 n (pieces_of places) e content root so
    (λ tried rest is. pieces_tried e content root places left tried rest (comes_of_node f) (omega (arith, few, bare)) snap is) (λ tried rest is large. absurd (never_large f large)) tells k s)

pub returns-in-Err-keep_skeleton-clause-altered : goal.returns-in-Err-keep_skeleton-clause-altered
returns-in-Err-keep_skeleton-clause-altered g c =
    none_altered_then g.L.Log.holds g.L.Log.stands g.L.Log.size g.L.Log.keeps_body g.L.Log.is_broken g.met.L.Log.holds_stands c.args.node.now c.keep_places.new.node c.keep_skeleton.new.node (g.D.Disk.view c.args.disk.now) (g.D.Disk.view c.keep_places.new.disk) (g.D.Disk.view c.keep_skeleton.new.disk) (pieces_of_files c.in-Ok.ensures.kept.0) _ c.in-Ok.ensures.kept.4 c.keep_skeleton.ensures.ran.works
    (λ name is. c.in-Err-keep_skeleton.ensures.altered name (fails_as_node c.in-Err-keep_skeleton.fault (fault.Altered name) c.from.result c.from.ensures is))

pub returns-in-Err-keep_skeleton-clause-calls : goal.returns-in-Err-keep_skeleton-clause-calls
returns-in-Err-keep_skeleton-clause-calls g c =
    let fs = c.deref.result.now in
    let root = c.args.path.now in
    let left = c.in_ok-walked.walked.left in
    let found : AreFound fs = subst AreFound (sym c.deref.ensures.value) c.in_ok-walked.ensures.found in
    let first = (g.F.Folder.view c.walk.new.folder).content in
    let walk : IfSome first (λ d. IsWalk d root fs left) = subst (λ (l : List Found). IfSome first (λ d. IsWalk d root l left)) (sym c.deref.ensures.value) c.in_ok-walked.ensures.walk in
    let lists = c.in_ok-walked.ensures.lists in
    calls_then c.args.path.now lists.0 fs left (g.F.Folder.view c.args.folder.now) (g.F.Folder.view c.walk.new.folder) (g.F.Folder.view c.keep_places.new.folder) lists.1
    (subst (λ (l : List Found). AreFoldersOf l lists.0) (sym c.deref.ensures.value) lists.2) found walk c.keep_places.ensures.reads

pub returns-in-Err-keep_skeleton-clause-only : goal.returns-in-Err-keep_skeleton-clause-only
returns-in-Err-keep_skeleton-clause-only g c = of_pieces c.from.result (fails_of_piece {S = Unit {0}} c.in-Err-keep_skeleton.fault c.from.result c.from.ensures c.in-Err-keep_skeleton.ensures.only)

-- ---- the note

pub feed_own-requires-clause-apt : goal.feed_own-requires-clause-apt
feed_own-requires-clause-apt g c =
    let kept = c.in-Ok.ensures.kept in
    let places = kept.0 in
    let note = c.in-Ok-keep_skeleton.note in
    let v0 = g.D.Disk.view c.args.disk.now in
    let v1 = g.D.Disk.view c.keep_places.new.disk in
    let v2 = g.D.Disk.view c.keep_skeleton.new.disk in
    let so = so_then g.L.Log.holds g.L.Log.stands g.L.Log.size g.L.Log.keeps_body g.L.Log.is_broken g.met.L.Log.holds_stands c.args.node.now c.keep_places.new.node c.keep_skeleton.new.node v0 v1 v2 (pieces_of_files places) (pieces_of_levels most_levels (skeleton_text (skeleton_of_tree places))) AllKept kept.4
    (subst (λ (es : List Entry). KeepsSo g.L.Log.holds g.L.Log.stands g.L.Log.size g.L.Log.keeps_body g.L.Log.is_broken c.keep_places.new.node c.keep_skeleton.new.node v1 v2 (pieces_of_levels most_levels (skeleton_text es)) AllKept) kept.1 c.in-Ok-keep_skeleton.ensures.keeps) in
    let owns = so.owns refl in
    let was : c.snapshots_made.result ≡ snaps_made c.args.node.now.ledger.state = c.snapshots_made.ensures ∙ ap (λ l. snaps_made l.state) c.ledger.ensures in
    let widths = c.in-Ok-keep_skeleton.ensures.widths in
    note_fits c.keep_skeleton.new.node.ledger.state places note (c.in-Ok-keep_skeleton.ensures.note places kept.1) owns.each c.in-Ok-keep_skeleton.ensures.few
    (omega (arith, owns.made, was, c.snapshots_made.type_inv, c.if-snapshots_made-eq4294967295.false)) widths.0 widths.1 widths.2 widths.3

pub returns-in-Ok-feed_own-clause-made : goal.returns-in-Ok-feed_own-clause-made
returns-in-Ok-feed_own-clause-made g c =
    let fs = c.deref.result.now in
    let root = c.args.path.now in
    let left = c.in_ok-walked.walked.left in
    let found : AreFound fs = subst AreFound (sym c.deref.ensures.value) c.in_ok-walked.ensures.found in
    let first = (g.F.Folder.view c.walk.new.folder).content in
    let content = (g.F.Folder.view c.keep_places.new.folder).content in
    let walk : IfSome first (λ d. IsWalk d root fs left) = subst (λ (l : List Found). IfSome first (λ d. IsWalk d root l left)) (sym c.deref.ensures.value) c.in_ok-walked.ensures.walk in
    let kept = c.in-Ok.ensures.kept in
    let places = kept.0 in
    let note = c.in-Ok-keep_skeleton.note in
    let notes = c.in-Ok-keep_skeleton.ensures.note places kept.1 in
    let snap : IfSome content (λ d. IsSnapOf d root places note.left) = subst (λ (n : ℕ). IfSome content (λ d. IsSnapOf d root places n)) (sym c.in-Ok-keep_skeleton.ensures.left) (is_snap root fs left found first content places walk c.keep_places.ensures.reads.content kept.2 kept.3) in
    let v0 = g.D.Disk.view c.args.disk.now in
    let v1 = g.D.Disk.view c.keep_places.new.disk in
    let v2 = g.D.Disk.view c.keep_skeleton.new.disk in
    let v3 = g.D.Disk.view c.feed_own.new.disk in
    let bare : c.in_ok-walked.walked.text_len ≡ bare_len fs = c.in_ok-walked.ensures.text.0 ∙ ap bare_len (sym c.deref.ensures.value) in
    let short = text_fits fs places c.in_ok-walked.walked.text_len _ kept.2 bare (omega (arith, c.in_ok-walked.ensures.text.1)) (refs_within _ _ kept.1 c.in-Ok.ensures.fits) in
    let so = so_then g.L.Log.holds g.L.Log.stands g.L.Log.size g.L.Log.keeps_body g.L.Log.is_broken g.met.L.Log.holds_stands c.args.node.now c.keep_places.new.node c.keep_skeleton.new.node v0 v1 v2 (pieces_of_files places) (pieces_of_levels most_levels (skeleton_text (skeleton_of_tree places))) AllKept kept.4
    (subst (λ (es : List Entry). KeepsSo g.L.Log.holds g.L.Log.stands g.L.Log.size g.L.Log.keeps_body g.L.Log.is_broken c.keep_places.new.node c.keep_skeleton.new.node v1 v2 (pieces_of_levels most_levels (skeleton_text es)) AllKept) kept.1 c.in-Ok-keep_skeleton.ensures.keeps) in (
      places,
      notes,
      snap,
      short,
      λ tells n k s.
          backed_up g.L.Log.holds g.L.Log.stands g.L.Log.size g.L.Log.keeps_body g.L.Log.is_broken g.met.L.Log.holds_stands c.args.node.now c.keep_skeleton.new.node c.feed_own.new.node v0 v2 v3 n places note (Snap note) refl so c.feed_own.ensures.works (λ told m known stored. c.in-Ok-feed_own.ensures.fed told m known stored) notes
          (is_skeleton root fs left found places kept.2) short tells k s,
    )

pub returns-in-Ok-feed_own-clause-noted : goal.returns-in-Ok-feed_own-clause-noted
returns-in-Ok-feed_own-clause-noted g c =
    let kept = c.in-Ok.ensures.kept in
    let places = kept.0 in
    let v0 = g.D.Disk.view c.args.disk.now in
    let v1 = g.D.Disk.view c.keep_places.new.disk in
    let v2 = g.D.Disk.view c.keep_skeleton.new.disk in
    let so = so_then g.L.Log.holds g.L.Log.stands g.L.Log.size g.L.Log.keeps_body g.L.Log.is_broken g.met.L.Log.holds_stands c.args.node.now c.keep_places.new.node c.keep_skeleton.new.node v0 v1 v2 (pieces_of_files places) (pieces_of_levels most_levels (skeleton_text (skeleton_of_tree places))) AllKept kept.4
    (subst (λ (es : List Entry). KeepsSo g.L.Log.holds g.L.Log.stands g.L.Log.size g.L.Log.keeps_body g.L.Log.is_broken c.keep_places.new.node c.keep_skeleton.new.node v1 v2 (pieces_of_levels most_levels (skeleton_text es)) AllKept) kept.1 c.in-Ok-keep_skeleton.ensures.keeps) in
    let ready = (so.up refl).ready in
    is_noted c.keep_skeleton.new.node c.feed_own.new.node ready.0 c.in-Ok-keep_skeleton.note (snaps_made c.args.node.now.ledger.state) ready.1 (c.in-Ok-feed_own.ensures.taken ready.0 ready.1) (so.owns refl).made

pub returns-in-Ok-feed_own-clause-calls : goal.returns-in-Ok-feed_own-clause-calls
returns-in-Ok-feed_own-clause-calls g c =
    let fs = c.deref.result.now in
    let root = c.args.path.now in
    let left = c.in_ok-walked.walked.left in
    let found : AreFound fs = subst AreFound (sym c.deref.ensures.value) c.in_ok-walked.ensures.found in
    let first = (g.F.Folder.view c.walk.new.folder).content in
    let walk : IfSome first (λ d. IsWalk d root fs left) = subst (λ (l : List Found). IfSome first (λ d. IsWalk d root l left)) (sym c.deref.ensures.value) c.in_ok-walked.ensures.walk in
    let lists = c.in_ok-walked.ensures.lists in
    calls_then c.args.path.now lists.0 fs left (g.F.Folder.view c.args.folder.now) (g.F.Folder.view c.walk.new.folder) (g.F.Folder.view c.keep_places.new.folder) lists.1
    (subst (λ (l : List Found). AreFoldersOf l lists.0) (sym c.deref.ensures.value) lists.2) found walk c.keep_places.ensures.reads

pub returns-clause-stopped : goal.returns-clause-stopped
returns-clause-stopped g c =
    let fs = c.deref.result.now in
    let root = c.args.path.now in
    let left = c.in_ok-walked.walked.left in
    let found : AreFound fs = subst AreFound (sym c.deref.ensures.value) c.in_ok-walked.ensures.found in
    let first = (g.F.Folder.view c.walk.new.folder).content in
    let content = (g.F.Folder.view c.keep_places.new.folder).content in
    let walk : IfSome first (λ d. IsWalk d root fs left) = subst (λ (l : List Found). IfSome first (λ d. IsWalk d root l left)) (sym c.deref.ensures.value) c.in_ok-walked.ensures.walk in
    let kept = c.in-Ok.ensures.kept in
    let places = kept.0 in
    let note = c.in-Ok-keep_skeleton.note in
    let notes = c.in-Ok-keep_skeleton.ensures.note places kept.1 in
    let snap : IfSome content (λ d. IsSnapOf d root places note.left) = subst (λ (n : ℕ). IfSome content (λ d. IsSnapOf d root places n)) (sym c.in-Ok-keep_skeleton.ensures.left) (is_snap root fs left found first content places walk c.keep_places.ensures.reads.content kept.2 kept.3) in
    let v0 = g.D.Disk.view c.args.disk.now in
    let v1 = g.D.Disk.view c.keep_places.new.disk in
    let v2 = g.D.Disk.view c.keep_skeleton.new.disk in
    let v3 = g.D.Disk.view c.feed_own.new.disk in
    let so = so_then g.L.Log.holds g.L.Log.stands g.L.Log.size g.L.Log.keeps_body g.L.Log.is_broken g.met.L.Log.holds_stands c.args.node.now c.keep_places.new.node c.keep_skeleton.new.node v0 v1 v2 (pieces_of_files places) (pieces_of_levels most_levels (skeleton_text (skeleton_of_tree places))) AllKept kept.4
    (subst (λ (es : List Entry). KeepsSo g.L.Log.holds g.L.Log.stands g.L.Log.size g.L.Log.keeps_body g.L.Log.is_broken c.keep_places.new.node c.keep_skeleton.new.node v1 v2 (pieces_of_levels most_levels (skeleton_text es)) AllKept) kept.1 c.in-Ok-keep_skeleton.ensures.keeps) in
    let f = c.in-Err-feed_own.fault in
    subst (λ (x : BackupFault). Tells_bytes v3 → (n : Situation) → Knows c.args.node.now n → Stored g.L.Log.holds c.args.node.now n.history v0 → StopsBackup g.L.Log.holds g.L.Log.stands g.L.Log.is_broken c.args.node.now c.feed_own.new.node v0 v3 n x content root) (sym c.from-in-Err-feed_own.ensures) (λ tells n k s.
    not_noted g.L.Log.holds g.L.Log.stands g.L.Log.size g.L.Log.keeps_body g.L.Log.is_broken g.met.L.Log.holds_stands c.args.node.now c.keep_skeleton.new.node c.feed_own.new.node v0 v2 v3 n places note (Snap note) f content root refl so c.feed_own.ensures.works (λ told m known stored. c.in-Err-feed_own.ensures.fed told m known stored)
    (⊎_elim (λ disk. inl (err_is f fault.DiskFault disk)) (λ rest. ⊎_elim (λ memory. inr (err_is f fault.Memory memory)) (λ no_. absurd no_) rest) c.in-Err-feed_own.ensures.only) notes snap tells k s)

pub returns-clause-calls : goal.returns-clause-calls
returns-clause-calls g c =
    let fs = c.deref.result.now in
    let root = c.args.path.now in
    let left = c.in_ok-walked.walked.left in
    let found : AreFound fs = subst AreFound (sym c.deref.ensures.value) c.in_ok-walked.ensures.found in
    let first = (g.F.Folder.view c.walk.new.folder).content in
    let walk : IfSome first (λ d. IsWalk d root fs left) = subst (λ (l : List Found). IfSome first (λ d. IsWalk d root l left)) (sym c.deref.ensures.value) c.in_ok-walked.ensures.walk in
    let lists = c.in_ok-walked.ensures.lists in
    calls_then c.args.path.now lists.0 fs left (g.F.Folder.view c.args.folder.now) (g.F.Folder.view c.walk.new.folder) (g.F.Folder.view c.keep_places.new.folder) lists.1
    (subst (λ (l : List Found). AreFoldersOf l lists.0) (sym c.deref.ensures.value) lists.2) found walk c.keep_places.ensures.reads
