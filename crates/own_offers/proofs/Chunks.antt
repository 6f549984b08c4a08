-- Bytes that were brought under a name are those of a chunk.
use Rattle.std.proofs.Common.{◌≡◌, ◌≤◌, ℕ, Bool, true, false, ◌&&◌, ◌==◌, nat_le, cond, List, [], ◌∷◌, length, is_some, Option, Some, None, refl, sym, ◌∙◌, ap, arith}
use Rattle.std.proofs.lemmas.Bool.{and_parts, false≢true, eqb-true, leb-true}
use Rattle.psb_bytes.specs.Units.{longest_chunk}
use Rattle.psb_station.proofs.Spans.{same_some}
use Rattle.psb_model.specs.State.{State, is_held}
use Rattle.psb_model.specs.Heads.{body_of}
use Rattle.psb_model.specs.Grammar.{in_grammar, is_chunk_len, chunk_fits, numbers_listed}
use Rattle.psb_model.specs.History.{state, lawful_from}
use Rattle.psb_model.specs.Conditions.{allowed}
use Rattle.psb_model.specs.Effects.{after}
use Rattle.psb_model.specs.Needed.{brings_name, last_bringing, last_brought, IsValid}
use Rattle.psb_model.specs.declared.change.Change.{Change}
use Rattle.psb_model.specs.declared.change.Change.TheVariants.{Kept, TookFresh, TookSwap}
use Rattle.psb_model.proofs.ByObject.{by_cases}
use Rattle.chunk_store.specs.declared.store.Store.{Store}
use Rattle.chunk_store.specs.Store.{record_of}
use Rattle.node_history.specs.Names.{KnowsNames}
use Rattle.node_history.proofs.Brought.{or_this, bytes_of}

-- bytes as a chunk has them: some, and no more than the longest has
pub record IsChunk (bytes : List ℕ) : Type 0 where
  pub some : 1 ≤ length bytes
  pub short : length bytes ≤ longest_chunk

fits_chunk : (len : ℕ) (new : Bool) (body : Option (List ℕ)) (b : List ℕ) → chunk_fits len new body ≡ true → new ≡ true → body ≡ Some b → IsChunk b
fits_chunk len false body b g is there = absurd (false≢true is)
fits_chunk len true None b g is there = absurd (cc)
fits_chunk len true (Some bytes) b g is there =
    let parts = and_parts (is_chunk_len len) (length bytes == len) g in
    let len_fits = and_parts (nat_le 1 len) (nat_le len longest_chunk) parts.0 in
    let long : length b ≡ len = ap (λ (l : List ℕ). length l) (sym (same_some (Some bytes) bytes b refl there)) ∙ eqb-true (length bytes) len parts.1 in
    record { some = omega (arith, leb-true 1 len len_fits.0, long); short = omega (arith, leb-true len 32768 len_fits.1, long) }

new_of : (name : List ℕ) (new : Bool) (P : List ℕ → Bool) → elim (cond new (Some name) None) [ None ↦ false | Some n ↦ P n ] ≡ true → new ≡ true
new_of name true P h = refl
new_of name false P h = absurd (false≢true h)

change_chunk : (name : List ℕ) (c : Change) (b : List ℕ) → in_grammar c ≡ true → brings_name name c ≡ true → body_of c ≡ Some b → IsChunk b
change_chunk name (Kept x) b g is there = fits_chunk x.len x.new x.body b g (new_of x.name x.new _ is) there
change_chunk name (TookFresh x) b g is there = fits_chunk x.len x.new x.body b g (new_of x.name x.new _ is) there
change_chunk name (TookSwap x) b g is there = fits_chunk x.len x.new x.body b (and_parts (chunk_fits x.len x.new x.body) (numbers_listed x.slots) g).0 (new_of x.name x.new _ is) there
change_chunk name _ b g is there = absurd (false≢true is)

brought_from : (s : State) (h : List Change) (name b : List ℕ) → lawful_from s h ≡ true → last_brought name h ≡ Some b → IsChunk b
brought_from s [] name b lawful there = absurd (cc)
brought_from s (c ∷ cs) name b lawful there =
    let parts = and_parts (in_grammar c && allowed s c) (lawful_from (after s c) cs) lawful in
    at (last_bringing name cs) (brings_name name c) refl refl (λ found. brought_from (after s c) cs name b parts.1 found) (and_parts (in_grammar c) (allowed s c) parts.0).0 there
  where
    at : (o : Option Change) (t : Bool) → last_bringing name cs ≡ o → brings_name name c ≡ t → (last_brought name cs ≡ Some b → IsChunk b) → in_grammar c ≡ true → bytes_of (or_this o t c) ≡ Some b → IsChunk b
    at (Some d) t later is rest grammar found = rest (ap bytes_of later ∙ found)
    at None true later is rest grammar found = change_chunk name c b grammar is found
    at None false later is rest grammar found = absurd (cc)

pub brought_chunk : (h : List Change) (name b : List ℕ) → IsValid h → last_brought name h ≡ Some b → IsChunk b
brought_chunk h name b v there = brought_from _ h name b v.lawful there

-- ---- what is held is there

pub some_there : (names : Store) (h : List Change) (name : List ℕ) (there : Bool) → KnowsNames names h → is_held (state h) name ≡ true → (there ≡ false → record_of names name ≡ None) → (there ≡ true) × (record_of names name ≡ None → ⊥)
some_there names h name there knows held none = (by_cases there (λ yes. yes) (λ no. absurd (some (none no))), some)
  where
    some : record_of names name ≡ None → ⊥
    some is = false≢true (ap is_some (sym is) ∙ knows.held name ∙ held)
