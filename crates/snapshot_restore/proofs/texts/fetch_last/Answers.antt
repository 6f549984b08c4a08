use Rattle.std.proofs.Common.{◌≤◌, length, ◌∙◌, ℕ, List, sym, ap, subst}
use Rattle.skeleton.specs.Answers.{IsRefusalOf}
use Rattle.skeleton.specs.Reading.{skeleton_of}
use Rattle.skeleton.specs.declared.limits.TheConstants.{MOST_TEXT_BYTES}
use Rattle.snapshots.proofs.GotReads.{skeleton_text_short}
use Rattle.snapshot_restore.proofs.LevelRuns.{skeleton_bad, skeleton_failed}
use Rattle.snapshot_restore.proofs.texts.fetch_last.Goals as goal

pub returns-in-Err-Bad-clause-stopped : goal.returns-in-Err-Bad-clause-stopped
returns-in-Err-Bad-clause-stopped g c =
    let read = c.in-Ok.ensures.read in
    let text = sym (c.deref.ensures.value ∙ read.2) in
    skeleton_bad g.L.Log.holds g.L.Log.stands g.L.Log.is_broken g.met.L.Log.holds_stands c.args.waiting.now c.fetch_text.new.waiting c.args.node.now c.fetch_text.new.node (g.S.Disk.view c.args.station.now) (g.S.Disk.view c.fetch_text.new.station) c.args.refs.now read.0 c.in-Err-Bad.fault c.in-Err-Bad.place
    read.1 (ap skeleton_of text ∙ subst (λ e. IsRefusalOf e (skeleton_of c.deref.result.now)) c.in-Err-Bad.field-0-is c.in-Err-Bad.ensures.bad) read.3

pub returns-clause-stopped : goal.returns-clause-stopped
returns-clause-stopped g c =
    let read = c.in-Ok.ensures.read in
    skeleton_failed g.L.Log.holds g.L.Log.stands g.L.Log.is_broken g.met.L.Log.holds_stands c.args.waiting.now c.fetch_text.new.waiting c.args.node.now c.fetch_text.new.node (g.S.Disk.view c.args.station.now) (g.S.Disk.view c.fetch_text.new.station) c.args.refs.now read.0 read.1 read.3

pub returns-in-Ok-read_skeleton-clause-short : goal.returns-in-Ok-read_skeleton-clause-short
returns-in-Ok-read_skeleton-clause-short g c =
    subst (λ (l : List ℕ). length l ≤ MOST_TEXT_BYTES) c.in-Ok-read_skeleton.ensures.spelled (skeleton_text_short c.deref.result.now c.in-Ok-read_skeleton.skeleton c.in-Ok-read_skeleton.ensures.ok)
