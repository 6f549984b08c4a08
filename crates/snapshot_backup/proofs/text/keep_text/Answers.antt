use Rattle.std.proofs.Common.{◌≡◌, ◌+◌, List, ℕ, map, take, drop, Result, Err, refl, sym, ◌∙◌, subst, rules}
use Rattle.psb_bytes.specs.declared.ids.Ref.{Ref}
use Rattle.node_core.specs.declared.fault.Fault.{Fault}
use Rattle.node_core.specs.declared.fault.Fault.TheVariants as fault
use Rattle.node_history.proofs.Presence.{err_as}
use Rattle.rolling_chunks.specs.Laws.{part}
use Rattle.snapshots.specs.Tickets.{chunks_of}
use Rattle.snapshots.proofs.Tickets.{span_is_piece}
use Rattle.snapshot_backup.specs.Endings.{backup_fault_of, AllKept, StoppedFor}
use Rattle.snapshot_backup.specs.declared.fault.BackupFault.TheVariants as backup_fault
use Rattle.snapshot_backup.specs.Runs.{KeepsSo}
use Rattle.snapshot_backup.proofs.Fronts.{so_none, so_untried, so_lacking, so_then, so_more}
use Rattle.snapshot_backup.proofs.Honest.{none_altered_then}
use Rattle.snapshot_backup.proofs.TextParts.{parts_more, parts_around, refs_pushed, fails_as}
use Rattle.snapshot_backup.proofs.text.keep_text.Goals as goal

pub returns-in_err-spans-clause-keeps : goal.returns-in_err-spans-clause-keeps
returns-in_err-spans-clause-keeps g c =
    let short : c.from_residual.result ≡ Err fault.Memory = search rules in
    so_lacking g.L.Log.holds g.L.Log.stands g.L.Log.size g.L.Log.keeps_body g.L.Log.is_broken g.met.L.Log.holds_stands c.args.node.now c.args.node.now (g.D.Disk.view c.args.disk.now) (g.D.Disk.view c.args.disk.now) (chunks_of c.args.text.now) c.from_residual.result short
    (so_untried g.L.Log.holds g.L.Log.stands g.L.Log.size g.L.Log.keeps_body g.L.Log.is_broken g.met.L.Log.holds_stands c.args.node.now (g.D.Disk.view c.args.disk.now) (chunks_of c.args.text.now) backup_fault.Memory tt)

pub loop-span-init : goal.loop-span-init
loop-span-init g c = record {
  refs = c.new-refs.ensures.items;
  keeps = so_none g.L.Log.holds g.L.Log.stands g.L.Log.size g.L.Log.keeps_body g.L.Log.is_broken g.met.L.Log.holds_stands c.args.node.now (g.D.Disk.view c.args.disk.now) c.requires.up;
  same = refl;
}

pub keep_span-requires-clause-inside : goal.keep_span-requires-clause-inside
keep_span-requires-clause-inside g c = (span_is_piece c.args.text.now c.as_slice-span-items.result.now (c.as_slice-span-items.ensures.value ∙ c.in_ok-spans.ensures) c.loop-span.span-index _ c.loop-span-test.true).inside

pub keep_span-requires-clause-some : goal.keep_span-requires-clause-some
keep_span-requires-clause-some g c = (span_is_piece c.args.text.now c.as_slice-span-items.result.now (c.as_slice-span-items.ensures.value ∙ c.in_ok-spans.ensures) c.loop-span.span-index _ c.loop-span-test.true).some

pub keep_span-requires-clause-short : goal.keep_span-requires-clause-short
keep_span-requires-clause-short g c = (span_is_piece c.args.text.now c.as_slice-span-items.result.now (c.as_slice-span-items.ensures.value ∙ c.in_ok-spans.ensures) c.loop-span.span-index _ c.loop-span-test.true).short

pub returns-in-Err-clause-keeps : goal.returns-in-Err-clause-keeps
returns-in-Err-clause-keeps g c =
    let text = c.args.text.now in
    let ss = c.as_slice-span-items.result.now in
    let i = c.loop-span.span-index in
    let v0 = g.D.Disk.view c.args.disk.now in
    let v1 = g.D.Disk.view c.loop-span.disk in
    let v2 = g.D.Disk.view c.keep_span.new.disk in
    subst (λ (l : List (List ℕ)). KeepsSo g.L.Log.holds g.L.Log.stands g.L.Log.size g.L.Log.keeps_body g.L.Log.is_broken c.args.node.now c.keep_span.new.node v0 v2 l (StoppedFor (backup_fault_of c.in-Err.fault))) (sym (parts_around text ss i _ (c.as_slice-span-items.ensures.value ∙ c.in_ok-spans.ensures) c.loop-span-test.true))
    (so_more g.L.Log.holds g.L.Log.stands g.L.Log.size g.L.Log.keeps_body g.L.Log.is_broken g.met.L.Log.holds_stands c.args.node.now c.keep_span.new.node v0 v2 _ (map (part text) (drop (i + 1) ss)) (backup_fault_of c.in-Err.fault)
    (so_then g.L.Log.holds g.L.Log.stands g.L.Log.size g.L.Log.keeps_body g.L.Log.is_broken g.met.L.Log.holds_stands c.args.node.now c.loop-span.node c.keep_span.new.node v0 v1 v2 (map (part text) (take i ss)) _ (StoppedFor (backup_fault_of c.in-Err.fault)) c.loop-span.invariant.keeps c.in-Err.ensures.keeps))

pub returns-in-Err-clause-altered : goal.returns-in-Err-clause-altered
returns-in-Err-clause-altered g c =
    let text = c.args.text.now in
    let ss = c.as_slice-span-items.result.now in
    let v0 = g.D.Disk.view c.args.disk.now in
    let v1 = g.D.Disk.view c.loop-span.disk in
    let v2 = g.D.Disk.view c.keep_span.new.disk in
    none_altered_then g.L.Log.holds g.L.Log.stands g.L.Log.size g.L.Log.keeps_body g.L.Log.is_broken g.met.L.Log.holds_stands c.args.node.now c.loop-span.node c.keep_span.new.node v0 v1 v2 (map (part text) (take c.loop-span.span-index ss))
    (λ name. ◌≡◌ {A = Result (List Ref) Fault} (Err c.in-Err.fault) (Err (fault.Altered name))) c.loop-span.invariant.keeps c.in-Err.ensures.keeps.works (λ name said. c.in-Err.ensures.altered name (err_as c.in-Err.fault (fault.Altered name) said))

pub returns-in-Err-clause-only : goal.returns-in-Err-clause-only
returns-in-Err-clause-only g c = fails_as c.in-Err.fault c.in-Err.ensures.only

pub loop-span-preserved : goal.loop-span-preserved
loop-span-preserved g c =
    let text = c.args.text.now in
    let ss = c.as_slice-span-items.result.now in
    let i = c.loop-span.span-index in
    let v0 = g.D.Disk.view c.args.disk.now in
    let v1 = g.D.Disk.view c.loop-span.disk in
    let v2 = g.D.Disk.view c.keep_span.new.disk in
    record {
      refs = refs_pushed text ss i _ c.loop-span.refs.items c.keep_span.new.refs.items c.loop-span-test.true c.loop-span.invariant.refs c.in-Ok.ensures.refs;
      keeps =
          subst (λ (l : List (List ℕ)). KeepsSo g.L.Log.holds g.L.Log.stands g.L.Log.size g.L.Log.keeps_body g.L.Log.is_broken c.args.node.now c.keep_span.new.node v0 v2 l AllKept) (sym (parts_more text ss i _ c.loop-span-test.true))
          (so_then g.L.Log.holds g.L.Log.stands g.L.Log.size g.L.Log.keeps_body g.L.Log.is_broken g.met.L.Log.holds_stands c.args.node.now c.loop-span.node c.keep_span.new.node v0 v1 v2 (map (part text) (take i ss)) _ AllKept c.loop-span.invariant.keeps c.in-Ok.ensures.keeps);
      same = search rules ∙ c.loop-span.invariant.same;
    }
