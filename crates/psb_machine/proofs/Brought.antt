-- The bytes that a valid history brought under a name fit a frame.
use Rattle.std.proofs.Common.{◌≡◌, ℕ, Bool, true, false, ◌&&◌, if◌then◌else◌, nat_le, List, [], length, Option, Some, None, refl, ap, subst, ◌∙◌}
use Rattle.std.specs.List.{list_all}
use Rattle.std.proofs.lemmas.Bool.{and_parts, eqb-true, false≢true}
use Rattle.psb_bytes.specs.Tickets.{is_chunk_len}
use Rattle.psb_model.specs.Words.{name_eq}
use Rattle.psb_model.specs.declared.change.Change.{Change}
use Rattle.psb_model.specs.declared.change.Change.TheVariants.{Kept, TookFresh, TookSwap}
use Rattle.psb_model.specs.Grammar.{in_grammar, fits_widths, is_u8, is_u32, is_u64, is_digest, are_bytes, body_fits, chunk_fits}
use Rattle.psb_model.specs.Heads.{body_of}
use Rattle.psb_model.specs.Conditions.{allowed}
use Rattle.psb_model.specs.History.{state}
use Rattle.psb_model.specs.Needed.{IsValid, last_that, brings_name, last_brought}
use Rattle.model_laws.proofs.Along.{along_all, along_lawful, along_last}
use Rattle.wire_codec.specs.Fields.{is_text}

text_of : (len : ℕ) (new : Bool) (bytes : List ℕ) (body : Option (List ℕ)) → new ≡ true → body ≡ Some bytes → chunk_fits len new body ≡ true → are_bytes body ≡ true → is_text 1 bytes ≡ true
text_of len false bytes body k is g w = absurd (false≢true k)
text_of len true bytes body k is g w =
    let two = and_parts (is_chunk_len len) (body_fits len body) g in
    let long : length bytes ≡ len = eqb-true (length bytes) len (subst (λ o. body_fits len o ≡ true) is two.1) in
    let each : list_all is_u8 bytes ≡ true = subst (λ o. are_bytes o ≡ true) is w in
    let within_len : (nat_le 1 (length bytes) && nat_le (length bytes) 32768) ≡ true = ap (λ n. nat_le 1 n && nat_le n 32768) long ∙ two.0 in
    rw (within_len, each) refl

new_of : (new : Bool) (n name : List ℕ) → elim (if new then Some n else None) [ None ↦ false | Some m ↦ name_eq m name ] ≡ true → new ≡ true
new_of true n name b = refl
new_of false n name b = absurd (false≢true b)

brought_text : (c : Change) (name bytes : List ℕ) → brings_name name c ≡ true → in_grammar c ≡ true → fits_widths c ≡ true → body_of c ≡ Some bytes → is_text 1 bytes ≡ true
brought_text (Kept x) name bytes b g w is = text_of x.len x.new bytes x.body (new_of x.new x.name name b) is g (and_parts (is_digest x.name && is_u32 x.len) (are_bytes x.body) w).1
brought_text (TookFresh x) name bytes b g w is = text_of x.len x.new bytes x.body (new_of x.new x.name name b) is g (and_parts (is_u32 x.peer && is_u64 x.deal && is_digest x.name && is_u32 x.first && is_u32 x.len) (are_bytes x.body) w).1
brought_text (TookSwap x) name bytes b g w is = text_of x.len x.new bytes x.body (new_of x.new x.name name b) is (and_parts (chunk_fits x.len x.new x.body) _ g).0 (and_parts (is_u32 x.peer && is_u64 x.deal && is_digest x.name && list_all is_u32 x.slots && is_u32 x.len) (are_bytes x.body) w).1
brought_text _ name bytes b g w is = absurd (false≢true b)

pub last_text : (h : List Change) (name bytes : List ℕ) → IsValid h → last_brought name h ≡ Some bytes → is_text 1 bytes ≡ true
last_text h name bytes v is = by_last (last_that (brings_name name) h) refl is
  where
    by_last : (o : Option Change) → last_that (brings_name name) h ≡ o → elim o [ Some c ↦ body_of c | None ↦ None ] ≡ Some bytes → is_text 1 bytes ≡ true
    by_last None e k = absurd (cc (k))
    by_last (Some c) e k =
        let g = along_last (λ b d. (in_grammar d ≡ true) × (allowed (state b) d ≡ true)) (brings_name name) [] h c (along_lawful [] h v.lawful) e in
        let w = along_last (λ b d. fits_widths d ≡ true) (brings_name name) [] h c (along_all fits_widths [] h v.fit) e in
        brought_text c name bytes g.passes g.holds.0 w.holds k
