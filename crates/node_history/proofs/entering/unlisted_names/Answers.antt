use Rattle.std.proofs.Common.{◌≡◌, ◌<◌, ℕ, List, Option, None, sym, ◌∙◌, ap, subst, rules}
use Rattle.psb_model.specs.declared.entries.OwnEntry.{OwnEntry}
use Rattle.psb_model.specs.Words.{name_listed}
use Rattle.psb_model.specs.Effects.{kept_lists, kept_without}
use Rattle.own_chunks.proofs.Walks.{own_left}
use Rattle.node_history.proofs.Walking.{WalkedTo, walk_on, walk_done, walk_falls}
use Rattle.node_history.proofs.entering.unlisted_names.Goals as goal

pub loop-next-smaller : goal.loop-next-smaller
loop-next-smaller c =
    let s = c.args.past.now.state in
    let e = c.in-Some.own in
    let w = subst (λ (o : Option OwnEntry). WalkedTo s.own (kept_lists (kept_without c.args.number s.kept)) o c.loop-next.names.items) c.in-Some.is c.loop-next.invariant in
    subst (λ (o : Option OwnEntry). own_left c.own_after-next-in-Some.result s.own < own_left o s.own) (sym c.in-Some.is)
    (walk_falls s.own (kept_lists (kept_without c.args.number s.kept)) e c.own_after-next-in-Some.result c.loop-next.names.items c.requires.own w c.own_after-next-in-Some.ensures.chunk)

pub loop-next-preserved : goal.loop-next-preserved
loop-next-preserved c =
    let s = c.args.past.now.state in
    let e = c.in-Some.own in
    let w = subst (λ (o : Option OwnEntry). WalkedTo s.own (kept_lists (kept_without c.args.number s.kept)) o c.loop-next.names.items) c.in-Some.is c.loop-next.invariant in
    walk_on s.own (kept_lists (kept_without c.args.number s.kept)) e c.own_after-next-in-Some.result c.loop-next.names.items c.add_unlisted.new.names.items c.requires.own w c.own_after-next-in-Some.ensures.chunk c.in_ok-add_unlisted.ensures

pub returns : goal.returns
returns c = λ q.
    let s = c.args.past.now.state in
    let none : c.loop-next.next ≡ None = search rules in
    let w = subst (λ (o : Option OwnEntry). WalkedTo s.own (kept_lists (kept_without c.args.number s.kept)) o c.loop-next.names.items) none c.loop-next.invariant in
    ap (λ (l : List (List ℕ)). name_listed l q) c.from_vec.ensures ∙ walk_done s.own (kept_lists (kept_without c.args.number s.kept)) c.loop-next.names.items w q
