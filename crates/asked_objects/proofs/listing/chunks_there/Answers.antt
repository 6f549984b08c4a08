-- The chunks there are passed one by one.
use Rattle.std.proofs.Common.{◌∙◌, sym, ap, map, rules}
use Rattle.psb_model.specs.State.{out_key}
use Rattle.asked_objects.specs.Parts.{is_listed_chunk}
use Rattle.asked_objects.proofs.Walking.{one_gathered, fewer_left, all_gathered, all_chunks}
use Rattle.asked_objects.proofs.listing.chunks_there.Goals as goal

pub loop-entry-smaller : goal.loop-entry-smaller
loop-entry-smaller c = fewer_left c.args.account.now.row.outs c.loop-entry.passed c.name_of-passed.result c.in-Some.entry c.chunk_there.ensures.ordered (sym c.in-Some.is ∙ c.chunk_there.ensures.chunk) c.name_of-passed.ensures

pub loop-entry-preserved : goal.loop-entry-preserved
loop-entry-preserved c =
    let r = c.args.account.now.row in
    one_gathered (is_listed_chunk r) r.outs c.loop-entry.passed c.name_of-passed.result c.loop-entry.chunks.items c.push_if.new.objects.items c.in-Some.entry c.chunk_there.ensures.ordered (sym c.in-Some.is ∙ c.chunk_there.ensures.chunk) c.name_of-passed.ensures
    (search rules) c.loop-entry.invariant

pub returns-clause-chunks : goal.returns-clause-chunks
returns-clause-chunks c =
    let r = c.args.account.now.row in
    all_gathered (is_listed_chunk r) r.outs c.loop-entry.passed c.loop-entry.chunks.items (sym c.in_default.is ∙ c.chunk_there.ensures.chunk) c.loop-entry.invariant ∙ ap (map out_key) (all_chunks r)
