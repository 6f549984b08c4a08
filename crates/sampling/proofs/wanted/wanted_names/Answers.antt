use Rattle.std.proofs.Common.{◌≡◌, ◌<◌, Option, None, sym, ◌∙◌, subst, rules}
use Rattle.psb_model.specs.declared.entries.OwnEntry.{OwnEntry}
use Rattle.psb_model.specs.Effects.{kept_lists}
use Rattle.own_chunks.proofs.Walks.{own_left}
use Rattle.sampling.proofs.Walking.{ListsTo, lists_on, lists_done, lists_falls}
use Rattle.sampling.proofs.wanted.wanted_names.Goals as goal

pub loop-next-smaller : goal.loop-next-smaller
loop-next-smaller c =
    let s = c.args.ledger.now.state in
    let e = c.in-Some.own in
    let w = subst (λ (o : Option OwnEntry). ListsTo s.own (kept_lists s.kept) o c.loop-next.names.items) c.in-Some.is c.loop-next.invariant in
    subst (λ (o : Option OwnEntry). own_left c.own_after-next-in-Some.result s.own < own_left o s.own) (sym c.in-Some.is)
    (lists_falls s.own (kept_lists s.kept) e c.own_after-next-in-Some.result c.loop-next.names.items c.own_after-next-in-Some.ensures.ordered w c.own_after-next-in-Some.ensures.chunk)

pub loop-next-preserved : goal.loop-next-preserved
loop-next-preserved c =
    let s = c.args.ledger.now.state in
    let e = c.in-Some.own in
    let w = subst (λ (o : Option OwnEntry). ListsTo s.own (kept_lists s.kept) o c.loop-next.names.items) c.in-Some.is c.loop-next.invariant in
    let grown = c.in_ok-add_wanted.ensures in
    lists_on s.own (kept_lists s.kept) e c.own_after-next-in-Some.result c.loop-next.names.items c.add_wanted.new.names.items c.own_after-next-in-Some.ensures.ordered w c.own_after-next-in-Some.ensures.chunk grown

pub returns : goal.returns
returns c =
    let s = c.args.ledger.now.state in
    let none : c.loop-next.next ≡ None = search rules in
    let w = subst (λ (o : Option OwnEntry). ListsTo s.own (kept_lists s.kept) o c.loop-next.names.items) none c.loop-next.invariant in
    c.from_vec.ensures ∙ lists_done s.own (kept_lists s.kept) c.loop-next.names.items w
