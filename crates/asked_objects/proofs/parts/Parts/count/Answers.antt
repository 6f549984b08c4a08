use Rattle.std.proofs.Common.{arith}
use Rattle.asked_objects.proofs.Counting.{few_outs, count_is}
use Rattle.asked_objects.proofs.parts.Parts.count.Goals as goal

pub overflow_add-result : goal.overflow_add-result
overflow_add-result c =
    let p = c.args.self.now in
    omega (arith, few_outs c.args.account.now.row p.chunks.items p.slots p.debts.items c.requires.parts c.requires.listable, c.back-back.ensures, c.len.ensures, c.back-back.type_inv)

pub overflow_add-result-2 : goal.overflow_add-result-2
overflow_add-result-2 c =
    let p = c.args.self.now in
    omega (arith, few_outs c.args.account.now.row p.chunks.items p.slots p.debts.items c.requires.parts c.requires.listable, c.back-back.ensures, c.len.ensures, c.len-2.ensures)

pub returns-clause-count : goal.returns-clause-count
returns-clause-count c =
    let p = c.args.self.now in
    omega (arith, count_is c.args.account.now.row p.chunks.items p.slots p.debts.items c.requires.parts c.requires.listable, c.len.ensures, c.len-2.ensures)

pub returns-clause-few : goal.returns-clause-few
returns-clause-few c =
    let p = c.args.self.now in
    omega (arith, few_outs c.args.account.now.row p.chunks.items p.slots p.debts.items c.requires.parts c.requires.listable, c.back-back.ensures, c.len.ensures, c.len-2.ensures)
