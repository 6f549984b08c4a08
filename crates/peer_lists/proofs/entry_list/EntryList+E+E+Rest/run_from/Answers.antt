use Rattle.std.proofs.Common.{◌≡◌, ◌^◌, ℕ, ap, ◌∙◌, arith}
use Rattle.psb_bytes.specs.declared.ids.Object.TheVariants.{Slot}
use Rattle.peer_lists.specs.Entries.{from_object}
use Rattle.peer_lists.specs.Trees.{tree_items}
use Rattle.slot_runs.specs.SlotRuns.{runs}
use Rattle.peer_lists.specs.EntryLists.{items}
use Rattle.peer_lists.proofs.Both.{none_large}
use Rattle.peer_lists.proofs.Parts.{run_is}
use Rattle.peer_lists.proofs.entry_list.EntryList+E+E+Rest.run_from.Goals as goal

pub returns-then-number-from : goal.returns-then-number-from
returns-then-number-from g c =
    let t = c.args.self.now in
    let key = g.E.Entry.key in
    let joined = g.E.Entry.joined in
    let same : c.args.number ≡ 2 ^ 32 = omega arith in
    ap (λ (n : ℕ). from_object key (Slot n) (items key joined t)) same
    ∙ none_large key joined g.met.E.Entry.key_joined (tree_items key joined t.chunks) (runs t.slots) c.requires.list.chunks c.requires.list.slots.are

pub returns : goal.returns
returns g c = run_is g.E.Entry.key g.E.Entry.joined g.met.E.Entry.key_joined (tree_items g.E.Entry.key g.E.Entry.joined c.args.self.now.chunks) (runs c.args.self.now.slots) c.args.number c.next.result c.requires.list.chunks c.requires.list.slots.are c.next.ensures
