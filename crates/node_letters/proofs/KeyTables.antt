-- Peers with distinct ids have a key each.
use Rattle.std.proofs.Common.{◌≡◌, ℕ, ◌+◌, ◌<◌, Bool, true, false, not, ◌||◌, ◌==◌, cond, List, [], ◌∷◌, ◌++◌, length, map, take, drop, get_or, Some, is_some, refl, sym, ◌∙◌, ap}
use Rattle.std.proofs.lemmas.Bool.{and_parts, false≢true, eqb-true, eq-eqb}
use Rattle.std.proofs.lemmas.List.{drop_more, take-append-drop}
use Rattle.psb_settings.specs.declared.settings.PeerRow.{PeerRow}
use Rattle.psb_settings.specs.Settings.{has_id, have_distinct_ids}
use Rattle.psb_model.proofs.ByObject.{by_cases}
use Rattle.psb_machine.specs.Letters.{key_of_row}
use Rattle.wire_codec.specs.Frames.{key_in}

other_id : (id : ℕ) (done : List PeerRow) (p : PeerRow) (rest : List PeerRow) → has_id id (done ++ p ∷ rest) ≡ false → (id == p.id) ≡ false
other_id id [] p rest h = by_cases (id == p.id) (λ t. absurd (false≢true (sym h ∙ same_id id p.id rest t))) (λ f. f)
  where
    same_id : (id pid : ℕ) (rest : List PeerRow) → (id == pid) ≡ true → (pid == id) || has_id id rest ≡ true
    same_id id pid rest t = let same : id ≡ pid = eqb-true id pid t in rw (eq-eqb pid id (sym same)) refl
other_id id (r ∷ done) p rest h = other_id id done p rest (or_false (r.id == id) (has_id id (done ++ p ∷ rest)) h)
  where
    or_false : (a b : Bool) → a || b ≡ false → b ≡ false
    or_false true b h = absurd (cc)
    or_false false b h = h

not_true : (b : Bool) → not b ≡ true → b ≡ false
not_true true h = absurd (cc)
not_true false h = refl

-- an id that no peer before has, has no key yet
no_key : (done : List PeerRow) (p : PeerRow) (rest : List PeerRow) → have_distinct_ids (done ++ p ∷ rest) ≡ true → is_some (key_in (map key_of_row done) p.id) ≡ false
no_key [] p rest h = refl
no_key (r ∷ done) p rest h =
    let two = and_parts (not (has_id r.id (done ++ p ∷ rest))) (have_distinct_ids (done ++ p ∷ rest)) h in
    let other : (r.id == p.id) ≡ false = other_id r.id done p rest (not_true (has_id r.id (done ++ p ∷ rest)) two.0) in
    ap (λ b. is_some (cond b (Some r.key) (key_in (map key_of_row done) p.id))) other ∙ no_key done p rest two.1

-- a peer of the list has no key in the table of those before it
pub no_key_yet : (peers : List PeerRow) (i : ℕ) (p : PeerRow) → i < length peers → get_or peers i p ≡ p → have_distinct_ids peers ≡ true → is_some (key_in (map key_of_row (take i peers)) p.id) ≡ false
no_key_yet peers i p lt here distinct =
    let parts : peers ≡ take i peers ++ p ∷ drop (i + 1) peers =
    sym (take-append-drop i peers) ∙ ap (λ (l : List PeerRow). take i peers ++ l) (drop_more peers i p lt ∙ ap (λ (x : PeerRow). x ∷ drop (i + 1) peers) here) in
    no_key (take i peers) p (drop (i + 1) peers) (ap have_distinct_ids (sym parts) ∙ distinct)
