use Rattle.std.proofs.Common.{rules, ◌≡◌, ◌+◌, ℕ, List, take, drop, refl, sym, subst}
use Rattle.psb_bytes.specs.declared.ids.Ref.{Ref}
use Rattle.snapshots.specs.Writing.{Adds}
use Rattle.psb_station.specs.Folder.{Tells_content}
use Rattle.snapshot_restore.specs.Written.{AppendsAll, StopsAppending}
use Rattle.snapshot_restore.specs.declared.fault.RestoreFault.{RestoreFault}
use Rattle.snapshot_restore.specs.declared.fault.RestoreFault.TheVariants as restore_fault
use Rattle.snapshot_restore.proofs.Lists.{one_further, around}
use Rattle.snapshot_restore.proofs.AppendRuns.{appends_none, appends_then, appends_stopped, appends_failed}
use Rattle.snapshot_restore.proofs.tree.append_all.Goals as goal

pub loop-reference-init : goal.loop-reference-init
loop-reference-init g c = record {
  so_far = appends_none g.L.Log.holds g.L.Log.stands g.L.Log.is_broken g.met.L.Log.holds_stands c.args.waiting.now c.args.node.now (g.S.Disk.view c.args.station.now) (g.F.Folder.view c.args.folder.now) c.args.at.now c.requires.up.whole;
  up = c.requires.up;
  faults = record { disk = refl; link = refl; said = refl };
  folder_faults = refl;
}

pub returns-in-Err-clause-stopped : goal.returns-in-Err-clause-stopped
returns-in-Err-clause-stopped g c =
    let refs = c.args.refs.now in
    let i = c.loop-reference.reference-index in
    let r = c.reference-item.result in
    subst (λ (l : List Ref). StopsAppending g.L.Log.holds g.L.Log.stands g.L.Log.is_broken c.args.waiting.now c.fetch.new.waiting c.args.node.now c.fetch.new.node (g.S.Disk.view c.args.station.now) (g.S.Disk.view c.fetch.new.station) (g.F.Folder.view c.args.folder.now) (g.F.Folder.view c.loop-reference.folder) c.args.at.now l c.in-Err.fault) (sym (around refs i r r c.loop-reference-test.true c.reference-item.is))
    (appends_stopped g.L.Log.holds g.L.Log.stands g.L.Log.is_broken g.met.L.Log.holds_stands c.args.waiting.now c.loop-reference.waiting c.fetch.new.waiting c.args.node.now c.loop-reference.node c.fetch.new.node (g.S.Disk.view c.args.station.now) (g.S.Disk.view c.loop-reference.station) (g.S.Disk.view c.fetch.new.station) (g.F.Folder.view c.args.folder.now) (g.F.Folder.view c.loop-reference.folder) c.args.at.now (take i refs) (drop (i + 1) refs) r c.in-Err.fault
    c.loop-reference.invariant.so_far c.in-Err.ensures.stopped)

pub returns-in-Err-add_piece-clause-stopped : goal.returns-in-Err-add_piece-clause-stopped
returns-in-Err-add_piece-clause-stopped g c =
    let refs = c.args.refs.now in
    let i = c.loop-reference.reference-index in
    let r = c.reference-item.result in
    let plain = c.in-Ok.plain.items in
    let fault_is : c.from.result ≡ restore_fault.Folder = search rules in
    let value : c.deref.result.now ≡ plain = search rules in
    subst (λ (e : RestoreFault). StopsAppending g.L.Log.holds g.L.Log.stands g.L.Log.is_broken c.args.waiting.now c.fetch.new.waiting c.args.node.now c.fetch.new.node (g.S.Disk.view c.args.station.now) (g.S.Disk.view c.fetch.new.station) (g.F.Folder.view c.args.folder.now) (g.F.Folder.view c.add_piece.new.folder) c.args.at.now refs e) (sym fault_is)
    (subst (λ (l : List Ref). StopsAppending g.L.Log.holds g.L.Log.stands g.L.Log.is_broken c.args.waiting.now c.fetch.new.waiting c.args.node.now c.fetch.new.node (g.S.Disk.view c.args.station.now) (g.S.Disk.view c.fetch.new.station) (g.F.Folder.view c.args.folder.now) (g.F.Folder.view c.add_piece.new.folder) c.args.at.now l restore_fault.Folder) (sym (around refs i r r c.loop-reference-test.true c.reference-item.is))
    (appends_failed g.L.Log.holds g.L.Log.stands g.L.Log.is_broken g.met.L.Log.holds_stands c.args.waiting.now c.loop-reference.waiting c.fetch.new.waiting c.args.node.now c.loop-reference.node c.fetch.new.node (g.S.Disk.view c.args.station.now) (g.S.Disk.view c.loop-reference.station) (g.S.Disk.view c.fetch.new.station) (g.F.Folder.view c.args.folder.now) (g.F.Folder.view c.loop-reference.folder) (g.F.Folder.view c.add_piece.new.folder) c.args.at.now (take i refs) (drop (i + 1) refs) r plain
    c.loop-reference.invariant.so_far c.in-Ok.ensures.taken
    (subst (λ (l : List ℕ). Tells_content (g.F.Folder.view c.add_piece.new.folder) → (n : ℕ) × Adds (g.F.Folder.view c.loop-reference.folder) (g.F.Folder.view c.add_piece.new.folder) c.args.at.now (take n l)) value c.in-Err-add_piece.ensures.part)
    c.add_piece.ensures.tries))

pub loop-reference-preserved : goal.loop-reference-preserved
loop-reference-preserved g c =
    let refs = c.args.refs.now in
    let i = c.loop-reference.reference-index in
    let r = c.reference-item.result in
    let plain = c.in-Ok.plain.items in
    let value : c.deref.result.now ≡ plain = search rules in
    record {
      so_far = subst (λ (l : List Ref). AppendsAll g.L.Log.holds g.L.Log.stands g.L.Log.is_broken c.args.waiting.now c.fetch.new.waiting c.args.node.now c.fetch.new.node (g.S.Disk.view c.args.station.now) (g.S.Disk.view c.fetch.new.station) (g.F.Folder.view c.args.folder.now) (g.F.Folder.view c.add_piece.new.folder) c.args.at.now l) (sym (one_further refs i r r c.loop-reference-test.true c.reference-item.is))
          (appends_then g.L.Log.holds g.L.Log.stands g.L.Log.is_broken g.met.L.Log.holds_stands c.args.waiting.now c.loop-reference.waiting c.fetch.new.waiting c.args.node.now c.loop-reference.node c.fetch.new.node (g.S.Disk.view c.args.station.now) (g.S.Disk.view c.loop-reference.station) (g.S.Disk.view c.fetch.new.station) (g.F.Folder.view c.args.folder.now) (g.F.Folder.view c.loop-reference.folder) (g.F.Folder.view c.add_piece.new.folder) c.args.at.now (take i refs) r plain
          c.loop-reference.invariant.so_far c.in-Ok.ensures.taken
          (subst (λ (l : List ℕ). Adds (g.F.Folder.view c.loop-reference.folder) (g.F.Folder.view c.add_piece.new.folder) c.args.at.now l) value c.in-Ok-add_piece.ensures.added)
          c.add_piece.ensures.tries);
      up = c.in-Ok.ensures.up;
      faults = search rules;
      folder_faults = search rules;
    }
