-- How long the parts of a head are.
use Rattle.std.proofs.Common.{◌≡◌, ℕ, ◌*◌, true, List, [], ◌∷◌, ◌++◌, length, arith, length-append}
use Rattle.std.specs.Prelude.{◌==◌}
use Rattle.std.specs.List.{list_all, flat_map}
use Rattle.std.proofs.lemmas.Bool.{eqb-true, and_parts}
use Rattle.psb_bytes.specs.Numbers.{u32_bytes}
use Rattle.psb_bytes.specs.Tickets.{ref_bytes}
use Rattle.psb_bytes.specs.declared.ids.Ticket.{Ticket}
use Rattle.psb_model.specs.Heads.{ticket}
use Rattle.psb_model.specs.Grammar.{is_u8, is_digest, ticket_fits}
use Rattle.change_codec.proofs.Parts.{and_4}

digest_length : (name : List ℕ) → is_digest name ≡ true → length name ≡ 32
digest_length name h = eqb-true (length name) 32 (and_parts (length name == 32) (list_all is_u8 name) h).0

pub ticket_length : (t : Ticket) → ticket_fits t ≡ true → length (ticket t) ≡ 69
ticket_length t fits =
    let w = and_4 _ _ _ _ fits in
    let name = digest_length t.reference.name w.0 in
    let handle = digest_length t.reference.handle w.1 in
    omega (arith, name, handle, length-append (ref_bytes t.reference) (t.levels ∷ []), length-append (t.reference.name ++ t.reference.handle) (u32_bytes t.reference.len), length-append t.reference.name t.reference.handle)

pub names_length : (names : List (List ℕ)) → list_all is_digest names ≡ true → length (flat_map (λ (name : List ℕ). name) names) ≡ 32 * length names
names_length [] h = omega arith
names_length (n ∷ ns) h =
    let a = and_parts (is_digest n) (list_all is_digest ns) h in
    omega (arith, digest_length n a.0, names_length ns a.1, length-append n (flat_map (λ (name : List ℕ). name) ns))
