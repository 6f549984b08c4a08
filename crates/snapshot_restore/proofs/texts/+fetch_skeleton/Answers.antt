use Rattle.std.proofs.Common.{◌≡◌, ◌-◌, ℕ, suc, List, ◌++◌, refl, subst, rules}
use Rattle.psb_bytes.specs.declared.ids.Ref.{Ref}
use Rattle.snapshot_restore.specs.Reading.{IsTextRead}
use Rattle.snapshot_restore.specs.StoppedTexts.{StopsLevels}
use Rattle.node_history.proofs.Presence.{ok_map}
use Rattle.snapshot_restore.proofs.Results.{err_also}
use Rattle.snapshot_restore.proofs.Taking.{takes_then}
use Rattle.snapshot_restore.proofs.LevelRuns.{levels_cut, levels_stopped}
use Rattle.snapshot_restore.proofs.texts.+fetch_skeleton.Goals as goal

pub returns-in-Err-clause-stopped : goal.returns-in-Err-clause-stopped
returns-in-Err-clause-stopped g n c =
    let some : suc (c.args.levels - 1) ≡ c.args.levels = search rules in
    subst (λ (k : ℕ). StopsLevels g.L.Log.holds g.L.Log.stands g.L.Log.is_broken c.args.waiting.now c.fetch_refs.new.waiting c.args.node.now c.fetch_refs.new.node (g.S.Disk.view c.args.station.now) (g.S.Disk.view c.fetch_refs.new.station) k c.args.refs.now c.in-Err.fault) some
    (levels_cut g.L.Log.holds g.L.Log.stands g.L.Log.is_broken g.met.L.Log.holds_stands c.args.waiting.now c.fetch_refs.new.waiting c.args.node.now c.fetch_refs.new.node (g.S.Disk.view c.args.station.now) (g.S.Disk.view c.fetch_refs.new.station) (c.args.levels - 1) c.args.refs.now c.in-Err.fault c.in-Err.ensures.stopped)

pub returns-clause-read : goal.returns-clause-read
returns-clause-read g n c =
    let some : suc (c.args.levels - 1) ≡ c.args.levels = search rules in
    let first = c.in-Ok.ensures.read in
    let next = c.as_slice.ensures in
    ok_map c.fetch_skeleton.result _ _
    (λ s r.
    let ts = first.0 ++ r.0 in (
      ts,
      r.1,
      subst (λ (k : ℕ). IsTextRead k c.args.refs.now ts r.1) some (first.0, r.0, c.in-Ok.next, refl, first.1, subst (λ (l : List Ref). IsTextRead (c.args.levels - 1) l r.0 r.1) next r.2),
      r.3,
      takes_then g.L.Log.holds g.L.Log.stands g.L.Log.is_broken g.met.L.Log.holds_stands c.args.waiting.now c.fetch_refs.new.waiting c.fetch_skeleton.new.waiting c.args.node.now c.fetch_refs.new.node c.fetch_skeleton.new.node (g.S.Disk.view c.args.station.now) (g.S.Disk.view c.fetch_refs.new.station) (g.S.Disk.view c.fetch_skeleton.new.station) first.0 r.0 first.2 r.4,
    ))
    c.fetch_skeleton.ensures.read

pub returns-clause-stopped : goal.returns-clause-stopped
returns-clause-stopped g n c =
    let some : suc (c.args.levels - 1) ≡ c.args.levels = search rules in
    let first = c.in-Ok.ensures.read in
    err_also c.fetch_skeleton.result _ _
    (λ e s.
    subst (λ (k : ℕ). StopsLevels g.L.Log.holds g.L.Log.stands g.L.Log.is_broken c.args.waiting.now c.fetch_skeleton.new.waiting c.args.node.now c.fetch_skeleton.new.node (g.S.Disk.view c.args.station.now) (g.S.Disk.view c.fetch_skeleton.new.station) k c.args.refs.now e) some
    (levels_stopped g.L.Log.holds g.L.Log.stands g.L.Log.is_broken g.met.L.Log.holds_stands c.args.waiting.now c.fetch_refs.new.waiting c.fetch_skeleton.new.waiting c.args.node.now c.fetch_refs.new.node c.fetch_skeleton.new.node (g.S.Disk.view c.args.station.now) (g.S.Disk.view c.fetch_refs.new.station) (g.S.Disk.view c.fetch_skeleton.new.station) (c.args.levels - 1) c.args.refs.now first.0 c.in-Ok.next e
    first.1 first.2 (subst (λ (l : List Ref). StopsLevels g.L.Log.holds g.L.Log.stands g.L.Log.is_broken c.fetch_refs.new.waiting c.fetch_skeleton.new.waiting c.fetch_refs.new.node c.fetch_skeleton.new.node (g.S.Disk.view c.fetch_refs.new.station) (g.S.Disk.view c.fetch_skeleton.new.station) (c.args.levels - 1) l e) c.as_slice.ensures s)))
    c.fetch_skeleton.ensures.stopped
