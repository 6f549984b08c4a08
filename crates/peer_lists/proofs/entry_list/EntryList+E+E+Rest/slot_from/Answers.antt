use Rattle.std.proofs.Common.{◌≡◌, ◌^◌, ℕ, ap, ◌∙◌, arith}
use Rattle.psb_bytes.specs.declared.ids.Object.TheVariants.{Slot}
use Rattle.peer_lists.specs.Entries.{from_object}
use Rattle.peer_lists.specs.Trees.{tree_items}
use Rattle.slot_runs.specs.SlotRuns.{runs}
use Rattle.peer_lists.specs.EntryLists.{items}
use Rattle.peer_lists.proofs.Both.{none_next, some_next, none_large}
use Rattle.peer_lists.proofs.entry_list.EntryList+E+E+Rest.slot_from.Goals as goal

pub returns-in-None : goal.returns-in-None
returns-in-None g c = none_next g.E.Entry.key g.E.Entry.joined g.met.E.Entry.key_joined (tree_items g.E.Entry.key g.E.Entry.joined c.args.self.now.chunks) (runs c.args.self.now.slots) c.args.number c.requires.list.chunks c.requires.list.slots.are c.in-None.ensures

pub returns-in-Some : goal.returns-in-Some
returns-in-Some g c = some_next g.E.Entry.key g.E.Entry.joined g.met.E.Entry.key_joined (tree_items g.E.Entry.key g.E.Entry.joined c.args.self.now.chunks) (runs c.args.self.now.slots) c.args.number c.in-Some.run' c.join.result c.requires.list.chunks c.requires.list.slots.are c.in-Some.ensures c.join.ensures

pub returns-then-number-from : goal.returns-then-number-from
returns-then-number-from g c =
    let t = c.args.self.now in
    let key = g.E.Entry.key in
    let joined = g.E.Entry.joined in
    let same : c.args.number ≡ 2 ^ 32 = omega arith in
    ap (λ (n : ℕ). from_object key (Slot n) (items key joined t)) same
    ∙ none_large key joined g.met.E.Entry.key_joined (tree_items key joined t.chunks) (runs t.slots) c.requires.list.chunks c.requires.list.slots.are
