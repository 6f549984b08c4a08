-- What is left of the list is compared with what is still to be taken.
use Rattle.std.proofs.Common.{drop, sym, ap, ◌∙◌, arith}
use Rattle.psb_model.specs.Conditions.{same_objects}
use Rattle.discard_policy.specs.Grades.{every}
use Rattle.accounts.proofs.Taken.{take_first, take_step, take_fewer, take_end, goes_on, goes_on_listed, not_listed}
use Rattle.accounts.proofs.discards.are_taken.Goals as goal

pub loop-entry-init : goal.loop-entry-init
loop-entry-init c =
    let picker = c.args.picker.now in
    record {
      same = ap (same_objects c.args.objects.now) (take_first c.args.accounts.now c.args.peer c.args.words.now (every picker.grade) picker.left picker.room c.args.ins.now.items);
      within = omega arith;
    }

pub returns-then-not-is_at : goal.returns-then-not-is_at
returns-then-not-is_at c =
    let was = c.loop-entry.picker in
    let then = c.takes.new.picker in
    let step = take_step c.args.accounts.now c.args.peer c.args.ins.now.items c.loop-entry.place c.in-Some.entry c.takes.result c.loop-entry.words c.takes.new.words (every was.grade) (every then.grade) was.left then.left was.room then.room c.in-Some.ensures.ordered c.in-Some.ensures.entry c.takes.ensures in
    sym (not_listed c.args.objects.now c.loop-entry.count _ _ c.in-Some.entry.object _ c.takes.result c.is_at.result c.loop-entry.invariant.same step c.if-takes.true c.is_at.ensures.same c.if-not-is_at.true)

pub loop-entry-smaller-then-takes : goal.loop-entry-smaller-then-takes
loop-entry-smaller-then-takes c = take_fewer c.args.ins.now.items c.loop-entry.place c.in-Some.entry c.in-Some.ensures.ordered c.in-Some.ensures.entry

pub loop-entry-preserved-then-takes : goal.loop-entry-preserved-then-takes
loop-entry-preserved-then-takes c =
    let was = c.loop-entry.picker in
    let then = c.takes.new.picker in
    let step = take_step c.args.accounts.now c.args.peer c.args.ins.now.items c.loop-entry.place c.in-Some.entry c.takes.result c.loop-entry.words c.takes.new.words (every was.grade) (every then.grade) was.left then.left was.room then.room c.in-Some.ensures.ordered c.in-Some.ensures.entry c.takes.ensures in
    record {
      same = goes_on_listed c.args.objects.now c.loop-entry.count _ _ c.in-Some.entry.object _ c.takes.result c.is_at.result c.loop-entry.invariant.same step c.if-takes.true c.is_at.ensures.same c.if-not-is_at.false;
      within = omega (arith, c.is_at.ensures.within c.if-not-is_at.false);
    }

pub loop-entry-smaller : goal.loop-entry-smaller
loop-entry-smaller c = take_fewer c.args.ins.now.items c.loop-entry.place c.in-Some.entry c.in-Some.ensures.ordered c.in-Some.ensures.entry

pub loop-entry-preserved : goal.loop-entry-preserved
loop-entry-preserved c =
    let was = c.loop-entry.picker in
    let then = c.takes.new.picker in
    let step = take_step c.args.accounts.now c.args.peer c.args.ins.now.items c.loop-entry.place c.in-Some.entry c.takes.result c.loop-entry.words c.takes.new.words (every was.grade) (every then.grade) was.left then.left was.room then.room c.in-Some.ensures.ordered c.in-Some.ensures.entry c.takes.ensures in
    record {
      same = goes_on (drop c.loop-entry.count c.args.objects.now) _ _ c.in-Some.entry.object _ c.takes.result c.loop-entry.invariant.same step c.if-takes.false;
      within = c.loop-entry.invariant.within;
    }

pub returns : goal.returns
returns c =
    let picker = c.loop-entry.picker in
    sym (c.loop-entry.invariant.same ∙ take_end c.args.accounts.now c.args.peer c.args.ins.now.items c.loop-entry.place c.loop-entry.words (every picker.grade) picker.left picker.room c.loop-entry.count c.args.objects.now c.loop-entry.invariant.within c.in_default.ensures.entry)
