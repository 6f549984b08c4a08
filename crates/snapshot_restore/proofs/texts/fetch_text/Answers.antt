use Rattle.std.proofs.Common.{rules, ◌≡◌, ◌<◌, ◌≤◌, ◌+◌, List, [], ◌∷◌, ◌++◌, take, drop, refl, sym, ◌∙◌, subst, arith, append_assoc}
use Rattle.std.proofs.lemmas.List.{take_all}
use Rattle.psb_bytes.specs.declared.ids.Ref.{Ref}
use Rattle.skeleton.specs.declared.limits.TheConstants.{MOST_TEXT_BYTES}
use Rattle.skeleton.specs.Entries.{total}
use Rattle.snapshot_restore.specs.StoppedTexts.{StopsText}
use Rattle.snapshot_restore.specs.declared.fault.RestoreFault.TheVariants as restore_fault
use Rattle.snapshot_restore.proofs.Lists.{one_further, around}
use Rattle.snapshot_restore.proofs.Taking.{stops_none}
use Rattle.snapshot_restore.proofs.TextRuns.{ReadsText, text_none, text_then, text_stopped, text_failed}
use Rattle.snapshot_restore.proofs.texts.fetch_text.Goals as goal

pub returns-then-is_too_long-clause-stopped : goal.returns-then-is_too_long-clause-stopped
returns-then-is_too_long-clause-stopped g c =
    let long : MOST_TEXT_BYTES < total c.args.refs.now = search rules in
    record {
      ts = [];
      next = [];
      here = (record { none = refl; long = long; fault_is = refl; place_is = refl }, refl);
      stops = stops_none g.L.Log.holds g.L.Log.stands g.L.Log.is_broken g.met.L.Log.holds_stands c.args.waiting.now c.args.node.now (g.S.Disk.view c.args.station.now) [] _ c.requires.up.whole tt;
    }

pub loop-reference-init : goal.loop-reference-init
loop-reference-init g c = record {
  so_far = text_none g.L.Log.holds g.L.Log.stands g.L.Log.is_broken g.met.L.Log.holds_stands c.args.waiting.now c.args.node.now (g.S.Disk.view c.args.station.now) c.new-text.result.items c.requires.up.whole c.new-text.ensures.items;
  up = c.requires.up;
  faults = record { disk = refl; link = refl; said = refl };
}

pub returns-in-Err-clause-stopped : goal.returns-in-Err-clause-stopped
returns-in-Err-clause-stopped g c =
    let refs = c.args.refs.now in
    let i = c.loop-reference.reference-index in
    let r = c.reference-item.result in
    let whole = around refs i r r c.loop-reference-test.true c.reference-item.is in
    let fits : total refs ≤ MOST_TEXT_BYTES = search rules in
    subst (λ (l : List Ref). StopsText g.L.Log.holds g.L.Log.stands g.L.Log.is_broken c.args.waiting.now c.fetch.new.waiting c.args.node.now c.fetch.new.node (g.S.Disk.view c.args.station.now) (g.S.Disk.view c.fetch.new.station) l c.in-Err.fault) (sym whole)
    (text_stopped g.L.Log.holds g.L.Log.stands g.L.Log.is_broken g.met.L.Log.holds_stands c.args.waiting.now c.loop-reference.waiting c.fetch.new.waiting c.args.node.now c.loop-reference.node c.fetch.new.node (g.S.Disk.view c.args.station.now) (g.S.Disk.view c.loop-reference.station) (g.S.Disk.view c.fetch.new.station) (take i refs) (drop (i + 1) refs) r c.loop-reference.text.items c.in-Err.fault
    (subst (λ (l : List Ref). total l ≤ MOST_TEXT_BYTES) whole fits) c.in-Err.ensures.only c.loop-reference.invariant.so_far c.in-Err.ensures.stopped)

pub returns-in-Err-extend_from_slice-clause-stopped : goal.returns-in-Err-extend_from_slice-clause-stopped
returns-in-Err-extend_from_slice-clause-stopped g c =
    let refs = c.args.refs.now in
    let i = c.loop-reference.reference-index in
    let r = c.reference-item.result in
    let text = c.loop-reference.text.items in
    let plain = c.in-Ok.plain.items in
    let more = text_then g.L.Log.holds g.L.Log.stands g.L.Log.is_broken g.met.L.Log.holds_stands c.args.waiting.now c.loop-reference.waiting c.fetch.new.waiting c.args.node.now c.loop-reference.node c.fetch.new.node (g.S.Disk.view c.args.station.now) (g.S.Disk.view c.loop-reference.station) (g.S.Disk.view c.fetch.new.station) (take i refs) r text plain (text ++ plain)
    refl c.loop-reference.invariant.so_far c.in-Ok.ensures.taken in
    let whole : refs ≡ (take i refs ++ r ∷ []) ++ drop (i + 1) refs = around refs i r r c.loop-reference-test.true c.reference-item.is ∙ sym (append_assoc (take i refs) (r ∷ []) (drop (i + 1) refs)) in
    let fits : total refs ≤ MOST_TEXT_BYTES = search rules in
    subst (λ (l : List Ref). StopsText g.L.Log.holds g.L.Log.stands g.L.Log.is_broken c.args.waiting.now c.fetch.new.waiting c.args.node.now c.fetch.new.node (g.S.Disk.view c.args.station.now) (g.S.Disk.view c.fetch.new.station) l restore_fault.Memory) (sym whole)
    (text_failed g.L.Log.holds g.L.Log.stands g.L.Log.is_broken g.met.L.Log.holds_stands c.args.waiting.now c.fetch.new.waiting c.args.node.now c.fetch.new.node (g.S.Disk.view c.args.station.now) (g.S.Disk.view c.fetch.new.station) (take i refs ++ r ∷ []) (drop (i + 1) refs) (text ++ plain) (subst (λ (l : List Ref). total l ≤ MOST_TEXT_BYTES) whole fits) more)

pub loop-reference-preserved : goal.loop-reference-preserved
loop-reference-preserved g c =
    let refs = c.args.refs.now in
    let i = c.loop-reference.reference-index in
    let r = c.reference-item.result in
    let text = c.loop-reference.text.items in
    let plain = c.in-Ok.plain.items in
    let all : c.extend_from_slice.new.self.items ≡ text ++ plain = search rules in
    record {
      so_far = subst (λ (l : List Ref). ReadsText g.L.Log.holds g.L.Log.stands g.L.Log.is_broken c.args.waiting.now c.fetch.new.waiting c.args.node.now c.fetch.new.node (g.S.Disk.view c.args.station.now) (g.S.Disk.view c.fetch.new.station) l c.extend_from_slice.new.self.items) (sym (one_further refs i r r c.loop-reference-test.true c.reference-item.is))
          (text_then g.L.Log.holds g.L.Log.stands g.L.Log.is_broken g.met.L.Log.holds_stands c.args.waiting.now c.loop-reference.waiting c.fetch.new.waiting c.args.node.now c.loop-reference.node c.fetch.new.node (g.S.Disk.view c.args.station.now) (g.S.Disk.view c.loop-reference.station) (g.S.Disk.view c.fetch.new.station) (take i refs) r text plain c.extend_from_slice.new.self.items
          all c.loop-reference.invariant.so_far c.in-Ok.ensures.taken);
      up = c.in-Ok.ensures.up;
      faults = search rules;
    }

pub returns-clause-read : goal.returns-clause-read
returns-clause-read g c =
    let refs = c.args.refs.now in
    let so = c.loop-reference.invariant.so_far in
    let fits : total refs ≤ MOST_TEXT_BYTES = search rules in
    let all : take c.loop-reference.reference-index refs ≡ refs = take_all c.loop-reference.reference-index refs (omega (arith, c.loop-reference-test.false)) in
    (so.ts, record { places = so.refs_are ∙ all; fits = fits }, so.text_is, so.takes)
