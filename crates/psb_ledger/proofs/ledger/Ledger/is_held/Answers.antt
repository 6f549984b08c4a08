-- The name is that of an own chunk, or of one that a peer has here.
use Rattle.std.proofs.Common.{ℕ, map, ◌||◌, ◌∙◌, sym, ap}
use Rattle.std.specs.List.{list_any}
use Rattle.psb_bytes.specs.declared.ids.Object.TheVariants.{Chunk}
use Rattle.psb_model.specs.Words.{has}
use Rattle.psb_model.specs.State.{Row, in_key, is_held}
use Rattle.peer_account.specs.View.{AccountView, named_row}
use Rattle.psb_ledger.specs.View.{LedgerView}
use Rattle.psb_ledger.proofs.Peers.{held_names}
use Rattle.psb_ledger.proofs.ledger.Ledger.is_held.Goals as goal

pub returns-then-has : goal.returns-then-has
returns-then-has c =
    c.if-has.true
    ∙ ap (λ b. b || list_any (λ (x : ℕ × Row). has in_key x.1.ins (Chunk c.args.name.now)) (map named_row c.self.inside.accounts.items)) (sym c.if-has.true ∙ c.has.ensures)
    ∙ ap (λ (v : LedgerView). is_held v.state c.args.name.now) c.self.view_is

pub returns-else-has : goal.returns-else-has
returns-else-has c =
    c.holds.ensures
    ∙ ap (list_any (λ (v : AccountView). has in_key v.row.ins (Chunk c.args.name.now))) c.as_slice.ensures.value
    ∙ held_names c.self.inside.accounts.items (Chunk c.args.name.now)
    ∙ ap (λ b. b || list_any (λ (x : ℕ × Row). has in_key x.1.ins (Chunk c.args.name.now)) (map named_row c.self.inside.accounts.items)) (sym c.if-has.false ∙ c.has.ensures)
    ∙ ap (λ (v : LedgerView). is_held v.state c.args.name.now) c.self.view_is
