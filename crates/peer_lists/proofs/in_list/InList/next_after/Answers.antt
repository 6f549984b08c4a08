-- Behind a slot come slots; behind a chunk come chunks, and then the first slot.
use Rattle.std.proofs.Common.{◌≡◌, Some, true, refl, sym, ap, ◌∙◌, rules}
use Rattle.psb_bytes.specs.declared.ids.Object.TheVariants.{Slot}
use Rattle.psb_model.specs.State.{in_key}
use Rattle.psb_model.specs.declared.entries.InEntry.{InEntry}
use Rattle.peer_lists.specs.Joined.{in_joined}
use Rattle.peer_lists.specs.ListViews.{ListView}
use Rattle.peer_lists.specs.Entries.{in_order}
use Rattle.peer_lists.specs.Walks.{chunk_after, entry_after}
use Rattle.peer_lists.proofs.Both.{list_ordered}
use Rattle.peer_lists.proofs.Next.{is_no_slot, behind_slot, behind_chunk, behind_chunks}
use Rattle.peer_lists.proofs.in_list.InList.next_after.Goals as goal

pub returns-in-Some-Slot-clause-entry : goal.returns-in-Some-Slot-clause-entry
returns-in-Some-Slot-clause-entry c =
    let is : c.args.place.now ≡ Some (Slot c.in-Some-Slot.number) = search rules in
    behind_slot in_key c.args.self.now.items c.in-Some-Slot.number _ c.slot_from.result (search rules) c.slot_from.ensures
    ∙ ap (λ p. entry_after in_key p c.args.self.now.items) (sym is)

pub returns-in-Some-Slot-clause-ordered : goal.returns-in-Some-Slot-clause-ordered
returns-in-Some-Slot-clause-ordered c = ap (λ (v : ListView InEntry). in_order in_key v.items) (sym c.self.view_is) ∙ list_ordered in_key in_joined (λ o r. refl) c.self.inside.list c.self.invariant

pub returns-in-Some-clause-entry : goal.returns-in-Some-clause-entry
returns-in-Some-clause-entry c =
    let none : is_no_slot c.args.place.now ≡ true = search rules in
    behind_chunk in_key c.args.place.now c.args.self.now.items c.in-Some.entry none c.in-Some.ensures.ordered (c.in-Some.ensures.chunk ∙ ap (λ p. chunk_after in_key p c.args.self.now.items) c.name_of.ensures)

pub returns-in-None-clause-entry : goal.returns-in-None-clause-entry
returns-in-None-clause-entry c =
    let none : is_no_slot c.args.place.now ≡ true = search rules in
    behind_chunks in_key c.args.place.now c.args.self.now.items c.slot_from-in-None.result none (c.in-None.ensures.chunk ∙ ap (λ p. chunk_after in_key p c.args.self.now.items) c.name_of.ensures) c.slot_from-in-None.ensures
