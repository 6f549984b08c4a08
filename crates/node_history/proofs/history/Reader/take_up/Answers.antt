use Rattle.std.proofs.Common.{sym, ◌∙◌, ap, subst}
use Rattle.psb_model.specs.State.{State}
use Rattle.psb_model.specs.Effects.{after}
use Rattle.psb_ledger.specs.View.{LedgerView}
use Rattle.slot_places.specs.declared.tables.SlotTables.{SlotTables}
use Rattle.slot_places.specs.Moves.{IsMoved}
use Rattle.slot_places.specs.Slots.{slot_record}
use Rattle.slot_places.proofs.Grown.{slots_room}
use Rattle.node_history.specs.declared.lacking.Lacking.{Lacking}
use Rattle.node_history.specs.Lacking.{NotesLacking}
use Rattle.node_history.specs.Names.{SameNames}
use Rattle.node_history.proofs.Entered.{names_same, is_new, enters_after}
use Rattle.node_history.proofs.history.Reader.take_up.Goals as goal

pub enter-requires-clause-fresh : goal.enter-requires-clause-fresh
enter-requires-clause-fresh c =
    let a = c.requires.known in
    let old = c.args.self.now.tables in
    let room = c.place_slots.new.self.tables.names in
    let same : SameNames old.names room = subst (SameNames old.names) (sym c.place_slots.ensures.names) c.prepare.ensures.names in
    let e = c.in_ok-entering.ensures in
    is_new room a.history old.ledger.state c.args.change c.in_ok-entering.entering (names_same old.names room a.history same a.names) a.state_is e.allowed e.entering

pub returns-clause-taken : goal.returns-clause-taken
returns-clause-taken c =
    let a = c.requires.known in
    let old = c.args.self.now.tables in
    let room = c.place_slots.new.self.tables.names in
    let same : SameNames old.names room = subst (SameNames old.names) (sym c.place_slots.ensures.names) c.prepare.ensures.names in
    let e = c.in_ok-entering.ensures in
    let moved : IsMoved old.ledger.state c.args.change c.in_ok-moved.moved = subst (λ (s : State). IsMoved s c.args.change c.in_ok-moved.moved) c.prepare.ensures.state c.in_ok-moved.ensures.moved in
    let before = ap (λ (l : LedgerView). l.state) c.place_slots.ensures.ledger ∙ c.prepare.ensures.state in
    let grown = c.apply.ensures ∙ ap (λ (s : State). after s c.args.change) before in
    record {
      may = e.allowed;
      grown = grown;
      between = room;
      same = same;
      enters = enters_after old.ledger.state _ a.history room _ c.args.change c.in_ok-entering.entering c.args.number a.state_is a.lawful grown e.entering c.enter.ensures;
      slots = slots_room old.slots c.place_slots.new.self.tables.slots c.enter-2.new.self old.ledger.state c.args.change c.args.number (λ p n. c.place_slots.ensures.slots p n ∙ ap (λ (t : SlotTables). slot_record t p n) c.prepare.ensures.slots) (c.enter-2.ensures.enters old.ledger.state c.args.change moved grown);
      lacks = subst (λ (w : Lacking). NotesLacking c.args.self.now.lacking w c.args.change) (sym c.place_slots.ensures.lacking) e.noted;
    }
