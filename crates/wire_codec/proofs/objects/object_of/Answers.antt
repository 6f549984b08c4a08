use Rattle.std.proofs.Common.{ℕ, List, Some, ap, sym, ◌∙◌, drop}
use Rattle.psb_bytes.specs.declared.ids.Object.TheVariants.{Chunk}
use Rattle.wire_codec.proofs.Starts.{chunk_found, slot_found}
use Rattle.wire_codec.proofs.objects.object_of.Goals as goal

pub returns-in_ok-name-in-0-clause-within : goal.returns-in_ok-name-in-0-clause-within
returns-in_ok-name-in-0-clause-within c =
    let h = c.in_ok-kind.ensures ∙ ap (λ (k : ℕ). Some (k, c.in_ok-kind.rest.now)) c.in-0.is in
    (chunk_found c.args.bytes.now c.in_ok-kind.rest.now c.in_ok-name-in-0.name.now c.in_ok-name-in-0.field-0-1.now h c.in_ok-name-in-0.ensures.exact).0

pub returns-in_ok-name-in-0-clause-exact : goal.returns-in_ok-name-in-0-clause-exact
returns-in_ok-name-in-0-clause-exact c =
    let h = c.in_ok-kind.ensures ∙ ap (λ (k : ℕ). Some (k, c.in_ok-kind.rest.now)) c.in-0.is in
    (chunk_found c.args.bytes.now c.in_ok-kind.rest.now c.in_ok-name-in-0.name.now c.in_ok-name-in-0.field-0-1.now h c.in_ok-name-in-0.ensures.exact).1 ∙ ap (λ (d : List ℕ). Some (Chunk d, drop 33 c.args.bytes.now)) (sym c.digest_in.ensures)

pub returns-in_ok-slot-in-1-clause-within : goal.returns-in_ok-slot-in-1-clause-within
returns-in_ok-slot-in-1-clause-within c =
    let h = c.in_ok-kind.ensures ∙ ap (λ (k : ℕ). Some (k, c.in_ok-kind.rest.now)) c.in-1.is in
    (slot_found c.args.bytes.now c.in_ok-kind.rest.now c.in_ok-slot-in-1.slot c.in_ok-slot-in-1.field-0-1.now h c.in_ok-slot-in-1.ensures).0

pub returns-in_ok-slot-in-1-clause-exact : goal.returns-in_ok-slot-in-1-clause-exact
returns-in_ok-slot-in-1-clause-exact c =
    let h = c.in_ok-kind.ensures ∙ ap (λ (k : ℕ). Some (k, c.in_ok-kind.rest.now)) c.in-1.is in
    (slot_found c.args.bytes.now c.in_ok-kind.rest.now c.in_ok-slot-in-1.slot c.in_ok-slot-in-1.field-0-1.now h c.in_ok-slot-in-1.ensures).1
