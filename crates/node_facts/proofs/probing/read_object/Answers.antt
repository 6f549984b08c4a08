use Rattle.std.proofs.Common.{◌≡◌, true, Some, refl, ap, subst, ◌∙◌, rules}
use Rattle.psb_model.specs.State.{is_held}
use Rattle.psb_bytes.specs.declared.ids.Object.TheVariants.{Chunk, Slot}
use Rattle.psb_machine.specs.Probing.{entry_for, object_bytes}
use Rattle.node_history.proofs.Presence.{ok_map}
use Rattle.node_facts.proofs.Probed.{entry_held, chunk_bytes, slot_claim}
use Rattle.node_facts.proofs.probing.read_object.Goals as goal

pub returns-in-Chunk-clause-bytes : goal.returns-in-Chunk-clause-bytes
returns-in-Chunk-clause-bytes g c =
    let held = c.args.held.now in
    let s = held.ledger.now.state in
    let p = c.args.peer in
    let name = c.in-Chunk.name in
    let found : entry_for s p (Chunk name) ≡ Some c.in-Some.entry = search rules in
    ok_map c.read_chunk.result _ _ (λ there read tells h es knows are shows.
    ap (object_bytes c.args.claims.now.seed h p) c.in-Chunk.is
    ∙ chunk_bytes c.args.claims.now.seed h s p name c.in-Some.entry knows.ledger found
    ∙ read tells h es knows.names are shows (subst (λ t. is_held t name ≡ true) knows.ledger (entry_held s p name c.in-Some.entry found)))
    c.read_chunk.ensures.bytes

pub returns-in-Slot-clause-bytes : goal.returns-in-Slot-clause-bytes
returns-in-Slot-clause-bytes g c =
    let held = c.args.held.now in
    let s = held.ledger.now.state in
    let p = c.args.peer in
    let n = c.in-Slot.slot in
    let found : entry_for s p (Slot n) ≡ Some c.in-Some.entry = search rules in
    ok_map c.read_claim.result _ _ (λ there read tells h es knows are shows.
    ap (object_bytes c.args.claims.now.seed h p) c.in-Slot.is
    ∙ slot_claim c.args.claims.now.seed h s p n c.in-Some.entry knows.ledger found
    ∙ read tells h es knows.valid knows.slots are shows (c.in-Some.entry, subst (λ t. entry_for t p (Slot n) ≡ Some c.in-Some.entry) knows.ledger found, refl))
    c.read_claim.ensures.bytes
