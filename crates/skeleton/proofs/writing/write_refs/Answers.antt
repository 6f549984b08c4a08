use Rattle.std.proofs.Common.{◌≡◌, ◌≤◌, ◌∙◌, length, ap, rules, arith}
use Rattle.skeleton.specs.Texts.{refs_text}
use Rattle.skeleton.specs.Reading.{refs_of}
use Rattle.skeleton.specs.declared.limits.TheConstants.{MOST_TEXT_BYTES}
use Rattle.skeleton.proofs.TextLaws.{few_refs, refs_are_read, both_parts}
use Rattle.skeleton.proofs.writing.write_refs.Goals as goal

pub put_refs-requires : goal.put_refs-requires
put_refs-requires c = few_refs c.as_slice-refs.result.now (omega (arith, c.if-len.false, c.refs_len-len.ensures.exact))

pub returns-clause-read : goal.returns-clause-read
returns-clause-read c =
    let whole : c.put_refs.new.out.items ≡ refs_text c.args.refs.now = search rules in
    let room : length (refs_text c.args.refs.now) ≤ MOST_TEXT_BYTES = search rules in
    ap refs_of whole ∙ refs_are_read c.args.refs.now (both_parts c.args.refs.now (search rules) c.requires) room
