-- Where no row has the slot, none changes.
use Rattle.std.proofs.Common.{sym, ◌∙◌}
use Rattle.psb_bytes.specs.declared.ids.Object.TheVariants.{Slot}
use Rattle.psb_model.specs.declared.entries.DebtEntry.{DebtEntry}
use Rattle.psb_model.specs.State.{debt_key}
use Rattle.peer_lists.proofs.States.{none_changed}
use Rattle.peer_debts.proofs.Counts.{knows_states}
use Rattle.peer_debts.proofs.debt_list.DebtList.set_state.Goals as goal

pub invariant_of-self : goal.invariant_of-self
invariant_of-self c = knows_states c.args.slot c.args.state c.self.inside.rows.items c.set_states.new.rows.items c.self.inside.counts.entries c.self.inside.counted c.self.invariant c.set_states.ensures.items

pub returns-else-has-clause-items : goal.returns-else-has-clause-items
returns-else-has-clause-items c = none_changed debt_key (Slot c.args.slot) (λ (d : DebtEntry). record d { state = c.args.state }) c.args.self.now.items (sym c.has.ensures ∙ c.if-has.false)
