-- The entry at the slot is the only one there.
use Rattle.std.proofs.Common.{sym, ap, ◌∙◌, refl}
use Rattle.psb_bytes.specs.declared.ids.Object.TheVariants.{Slot}
use Rattle.psb_model.specs.State.{out_key}
use Rattle.psb_model.specs.declared.entries.OutEntry.{OutEntry}
use Rattle.peer_lists.specs.Joined.{out_joined}
use Rattle.peer_lists.specs.ListViews.{ListView}
use Rattle.peer_lists.specs.EntryLists.{items}
use Rattle.peer_lists.proofs.Both.{list_ordered}
use Rattle.peer_lists.proofs.Tables.{is_none_has}
use Rattle.peer_lists.proofs.States.{change, is_found, none_changed, found_changed, is_key}
use Rattle.peer_lists.proofs.out_list.OutList.set_state.Goals as goal

pub set_slot-requires-clause-there : goal.set_slot-requires-clause-there
set_slot-requires-clause-there c = is_found out_key (items out_key out_joined c.self.inside.list) (Slot c.args.slot) c.in-Some.entry (sym c.in-Some.ensures)

pub returns-in-Some-clause-items : goal.returns-in-Some-clause-items
returns-in-Some-clause-items c =
    let l = items out_key out_joined c.self.inside.list in
    let f = λ (e : OutEntry). record e { state = c.args.state } in
    let at = is_key out_key l (Slot c.args.slot) c.in-Some.entry (sym c.in-Some.ensures) in
    c.set_slot.ensures.items
    ∙ ap (λ o. change out_key (Slot c.args.slot) (λ _. record { object = o; units = c.in-Some.entry.units; state = c.args.state }) l) (sym at)
    ∙ found_changed out_key (Slot c.args.slot) f l c.in-Some.entry (list_ordered out_key out_joined (λ o r. refl) c.self.inside.list c.self.invariant) (sym c.in-Some.ensures)
    ∙ ap (λ (v : ListView OutEntry). change out_key (Slot c.args.slot) f v.items) c.self.view_is

pub returns-in_default-clause-items : goal.returns-in_default-clause-items
returns-in_default-clause-items c =
    let l = items out_key out_joined c.self.inside.list in
    let f = λ (e : OutEntry). record e { state = c.args.state } in
    sym (ap (λ (v : ListView OutEntry). v.items) c.self.view_is)
    ∙ none_changed out_key (Slot c.args.slot) f l (is_none_has out_key l (Slot c.args.slot) (sym c.in_default.ensures))
    ∙ ap (λ (v : ListView OutEntry). change out_key (Slot c.args.slot) f v.items) c.self.view_is
