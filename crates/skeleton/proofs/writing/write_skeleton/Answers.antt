use Rattle.std.proofs.Common.{◌≡◌, ◌≤◌, ◌∙◌, length, ap, rules}
use Rattle.skeleton.specs.Texts.{skeleton_text}
use Rattle.skeleton.specs.Reading.{skeleton_of}
use Rattle.skeleton.specs.declared.limits.TheConstants.{MOST_TEXT_BYTES}
use Rattle.skeleton.proofs.TextLaws.{skeleton_is_read}
use Rattle.skeleton.proofs.writing.write_skeleton.Goals as goal

pub returns-clause-read : goal.returns-clause-read
returns-clause-read c =
    let whole : c.put_entries.new.out.items ≡ skeleton_text c.args.skeleton.now = search rules in
    let room : length (skeleton_text c.args.skeleton.now) ≤ MOST_TEXT_BYTES = search rules in
    ap skeleton_of whole ∙ skeleton_is_read c.args.skeleton.now c.entries-entries.ensures.skeleton room
