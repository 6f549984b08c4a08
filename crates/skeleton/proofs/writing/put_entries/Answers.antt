use Rattle.std.proofs.Common.{arith}
use Rattle.skeleton.proofs.TextLaws.{item_writable, few_entries}
use Rattle.skeleton.proofs.writing.put_entries.Goals as goal

pub overflow_cast-entries : goal.overflow_cast-entries
overflow_cast-entries c = omega (arith, few_entries c.args.entries.now c.requires.room)

pub put_entry-requires-clause-path : goal.put_entry-requires-clause-path
put_entry-requires-clause-path c =
    let item = c.entry-item.result in
    (item_writable c.args.entries.now c.requires.skeleton c.requires.room c.loop-entry.entry-index item c.entry-item.is c.loop-entry-test.true).path

pub put_entry-requires-clause-refs : goal.put_entry-requires-clause-refs
put_entry-requires-clause-refs c =
    let item = c.entry-item.result in
    (item_writable c.args.entries.now c.requires.skeleton c.requires.room c.loop-entry.entry-index item c.entry-item.is c.loop-entry-test.true).refs
