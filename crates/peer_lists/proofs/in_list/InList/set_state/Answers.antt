-- The entry at the slot is the only one there.
use Rattle.std.proofs.Common.{sym, ap, ◌∙◌, refl}
use Rattle.psb_bytes.specs.declared.ids.Object.TheVariants.{Slot}
use Rattle.psb_model.specs.State.{in_key}
use Rattle.psb_model.specs.declared.entries.InEntry.{InEntry}
use Rattle.peer_lists.specs.Joined.{in_joined}
use Rattle.peer_lists.specs.ListViews.{ListView}
use Rattle.peer_lists.specs.EntryLists.{items}
use Rattle.peer_lists.proofs.Both.{list_ordered}
use Rattle.peer_lists.proofs.Tables.{is_none_has}
use Rattle.peer_lists.proofs.States.{change, is_found, none_changed, found_changed, is_key}
use Rattle.peer_lists.proofs.in_list.InList.set_state.Goals as goal

pub set_slot-requires-clause-there : goal.set_slot-requires-clause-there
set_slot-requires-clause-there c = is_found in_key (items in_key in_joined c.self.inside.list) (Slot c.args.slot) c.in-Some.entry (sym c.in-Some.ensures)

pub returns-in-Some-clause-items : goal.returns-in-Some-clause-items
returns-in-Some-clause-items c =
    let l = items in_key in_joined c.self.inside.list in
    let f = λ (e : InEntry). record e { state = c.args.state } in
    let at = is_key in_key l (Slot c.args.slot) c.in-Some.entry (sym c.in-Some.ensures) in
    c.set_slot.ensures.items
    ∙ ap (λ o. change in_key (Slot c.args.slot) (λ _. record { object = o; units = c.in-Some.entry.units; state = c.args.state }) l) (sym at)
    ∙ found_changed in_key (Slot c.args.slot) f l c.in-Some.entry (list_ordered in_key in_joined (λ o r. refl) c.self.inside.list c.self.invariant) (sym c.in-Some.ensures)
    ∙ ap (λ (v : ListView InEntry). change in_key (Slot c.args.slot) f v.items) c.self.view_is

pub returns-in_default-clause-items : goal.returns-in_default-clause-items
returns-in_default-clause-items c =
    let l = items in_key in_joined c.self.inside.list in
    let f = λ (e : InEntry). record e { state = c.args.state } in
    sym (ap (λ (v : ListView InEntry). v.items) c.self.view_is)
    ∙ none_changed in_key (Slot c.args.slot) f l (is_none_has in_key l (Slot c.args.slot) (sym c.in_default.ensures))
    ∙ ap (λ (v : ListView InEntry). change in_key (Slot c.args.slot) f v.items) c.self.view_is
