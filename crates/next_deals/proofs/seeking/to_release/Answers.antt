-- The chunks there are passed one by one, and no slot is released.
use Rattle.std.proofs.Common.{◌∙◌, sym}
use Rattle.psb_model.specs.State.{row}
use Rattle.psb_model.specs.Proposing.{may_release}
use Rattle.next_deals.proofs.Reaching.{releases_no_slot, skipped_first, first_found, none_found, passed_on}
use Rattle.next_deals.proofs.seeking.to_release.Goals as goal

pub loop-entry-init : goal.loop-entry-init
loop-entry-init c =
    let s = c.args.ledger.now.state in
    skipped_first s c.args.peer c.args.probed.now c.args.place.now (row s c.args.peer).outs c.requires

pub returns-then-may_release : goal.returns-then-may_release
returns-then-may_release c =
    let s = c.args.ledger.now.state in
    let p = c.args.peer in
    let probed = c.args.probed.now in
    first_found (may_release s p probed) c.loop-entry.passed (row s p).outs c.in-Some.entry (releases_no_slot s p probed) c.loop-entry.invariant (sym c.in-Some.is ∙ c.chunk_there.ensures.chunk) (sym c.may_release.ensures ∙ c.if-may_release.true)

pub loop-entry-smaller : goal.loop-entry-smaller
loop-entry-smaller c =
    let s = c.args.ledger.now.state in
    let p = c.args.peer in
    let probed = c.args.probed.now in
    (passed_on (may_release s p probed) c.loop-entry.passed c.chunk_name-passed.result (row s p).outs c.in-Some.entry (releases_no_slot s p probed) c.chunk_there.ensures.ordered c.loop-entry.invariant (sym c.in-Some.is ∙ c.chunk_there.ensures.chunk) (sym c.may_release.ensures ∙ c.if-may_release.false) c.chunk_name-passed.ensures).1

pub loop-entry-preserved : goal.loop-entry-preserved
loop-entry-preserved c =
    let s = c.args.ledger.now.state in
    let p = c.args.peer in
    let probed = c.args.probed.now in
    (passed_on (may_release s p probed) c.loop-entry.passed c.chunk_name-passed.result (row s p).outs c.in-Some.entry (releases_no_slot s p probed) c.chunk_there.ensures.ordered c.loop-entry.invariant (sym c.in-Some.is ∙ c.chunk_there.ensures.chunk) (sym c.may_release.ensures ∙ c.if-may_release.false) c.chunk_name-passed.ensures).0

pub returns : goal.returns
returns c =
    let s = c.args.ledger.now.state in
    let p = c.args.peer in
    let probed = c.args.probed.now in
    none_found (may_release s p probed) c.loop-entry.passed (row s p).outs (releases_no_slot s p probed) c.loop-entry.invariant (sym c.in_default.is ∙ c.chunk_there.ensures.chunk)
