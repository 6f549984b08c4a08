-- A label in out changes neither who is a peer nor the room in what is answered for.
use Rattle.std.proofs.Common.{◌≡◌, true, map, sym, ap, ◌∙◌}
use Rattle.psb_bytes.specs.declared.ids.Object.TheVariants.{Slot}
use Rattle.psb_model.specs.declared.entries.OutState.TheVariants as on
use Rattle.psb_model.specs.State.{has_row}
use Rattle.psb_model.specs.Effects.{relabel_out}
use Rattle.psb_model.proofs.Rows.{has_row-at_row}
use Rattle.peer_account.specs.View.{named_row}
use Rattle.accounts.proofs.Loosened.{in_room_of}
use Rattle.accounts.proofs.freeing.forward.Goals as goal

pub set_forwarded-requires : goal.set_forwarded-requires
set_forwarded-requires c = λ there.
    let vs = c.args.accounts.now.items in
    let ws = c.set_out.new.accounts.items in
    let q = c.args.entry.peer in
    let label = relabel_out (Slot c.args.slot) (on.Carries c.args.entry) in
    let was : has_row (map named_row vs) q ≡ true = sym (ap (λ rows. has_row rows q) c.set_out.ensures.rows ∙ has_row-at_row c.args.peer q label (map named_row vs)) ∙ there in
    in_room_of 2 vs ws q c.args.peer label c.set_out.ensures.rows c.set_out.ensures.rooms there (c.requires.room.ins was)
