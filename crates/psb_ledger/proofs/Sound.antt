-- What every book keeps: a state that a history gives, at the beginning and after a change.
use Rattle.std.proofs.Common.{◌≡◌, ℕ, ◌+◌, ◌<◌, ◌^◌, true, List, [], ◌∷◌, ◌++◌, map, set, Option, Some, None, refl, sym, ap, ◌∙◌, subst, arith}
use Rattle.std.proofs.lemmas.Bool.{eqb-true}
use Rattle.std.specs.Prelude.{◌==◌, ◌-◌, sum_by, is_some, vec_len, vec_capacity}
use Rattle.psb_settings.specs.declared.settings.Settings.{Settings}
use Rattle.psb_settings.specs.declared.settings.PeerRow.{PeerRow}
use Rattle.psb_settings.specs.Settings.{settings_of}
use Rattle.psb_settings.proofs.Ranges.{settings_of-are}
use Rattle.psb_model.specs.declared.change.Change.{Change}
use Rattle.psb_model.specs.declared.change.Change.TheVariants.{Begun}
use Rattle.psb_bytes.specs.declared.ids.Object.TheVariants.{Chunk}
use Rattle.psb_model.specs.Words.{only}
use Rattle.psb_model.specs.State.{Row, State, row, at_row, in_key, held_units, coming}
use Rattle.psb_model.specs.Grammar.{in_grammar}
use Rattle.psb_model.specs.Conditions.{capacity, allowed, tests, settings_of_body}
use Rattle.psb_model.specs.Effects.{after, loosen, blank_rows, first_rows, given_up}
use Rattle.psb_model.proofs.Balance.{Good, good_state}
use Rattle.psb_model.proofs.Prefixes.{state_snoc, lawful_snoc, changes_counted}
use Rattle.psb_model.proofs.Steps.{parts}
use Rattle.psb_model.proofs.Steady.{IsSteady, steady_state, allows}
use Rattle.psb_model.proofs.Freed.{chunk_frees_none}
use Rattle.psb_model.specs.History.{state}
use Rattle.psb_model.proofs.ByObject.{by_cases}
use Rattle.psb_ledger.specs.declared.ledger.Ledger.TheInside.{Inside}
use Rattle.psb_ledger.specs.View.{mine_of, LedgerView, Mine, plain_state, IsReached, IsSound}
use Rattle.peer_account.specs.View.{AccountView, named_row}
use Rattle.accounts.proofs.Places.{Found, found_set}

-- what the parts of a book are for its view
abbrev pub mine : Inside → Mine
mine l = mine_of l.own.items l.kept.items l.snapped l.chosen.items

abbrev pub state_of : Inside → State
state_of l = plain_state l.changes l.settings l.accounts.items l.issued (mine l)

abbrev pub view_of : Inside → LedgerView
view_of l = record { state = state_of l; accounts = l.accounts.items; next = l.next; next_accounts = l.next_accounts.items; next_chosen = l.next_chosen.items; own_room = l.own.room; kept_room = vec_capacity l.kept - vec_len l.kept }

-- a state that a history gives is good, and so is each that a lawful change makes of it
pub good_of : (s : State) → IsReached s → Good s
good_of s r = subst Good r.gives (good_state r.history r.lawful)

-- what is marked is named, and what is used stays within the capacity
pub steady_of : (s : State) → IsReached s → IsSteady s
steady_of s r = subst IsSteady r.gives (steady_state r.history r.lawful)

-- a chunk is forwarded nowhere, so nothing comes loose where one goes
pub chunk_unfreed : (s : State) (p : ℕ) (name : List ℕ) (rows : List (ℕ × Row)) → IsReached s → loosen (only in_key (Chunk name ∷ []) (row s p).ins) rows ≡ rows
chunk_unfreed s p name rows r = subst (λ (t : State). loosen (only in_key (Chunk name ∷ []) (row t p).ins) rows ≡ rows) r.gives (chunk_frees_none r.history p name rows r.lawful)

-- before the first change there are no own chunks
pub own_none : (s : State) → IsReached s → s.changes ≡ 0 → s.own ≡ []
own_none s r none = of_history r.history r.gives
  where
    of_history : (h : List Change) → state h ≡ s → s.own ≡ []
    of_history [] e = ap (λ (t : State). t.own) (sym e)
    of_history (c ∷ cs) e = absurd (omega (arith, changes_counted (c ∷ cs), ap (λ (t : State). t.changes) e, none))

pub reached_after : (s : State) (c : Change) → IsReached s → in_grammar c ≡ true → allowed s c ≡ true → IsReached (after s c)
reached_after s c r grammar may = record {
  history = r.history ++ c ∷ [];
  lawful = lawful_snoc r.history c ∙ rw (r.lawful, grammar) (ap (λ t. allowed t c) r.gives ∙ may);
  gives = state_snoc r.history c ∙ ap (λ t. after t c) r.gives;
}

-- The first change.
blank_units : (s : State) (ps : List PeerRow) → sum_by (λ (x : ℕ × Row). held_units x.1 + coming s x.1.pending) (blank_rows ps) ≡ 0
blank_units s [] = refl
blank_units s (x ∷ xs) = blank_units s xs

no_units : (s : State) (st : Option Settings) → sum_by (λ (x : ℕ × Row). held_units x.1 + coming s x.1.pending) (first_rows st) ≡ 0
no_units s None = refl
no_units s (Some x) = blank_units s x.peers

text_there : (body : Option (List ℕ)) → is_some (settings_of_body body) ≡ true → is_some body ≡ true
text_there None h = h
text_there (Some text) h = refl

pub begun_sound : (m : Mine) (ch : ℕ) (st : Option Settings) (vs : List AccountView) (is total : ℕ) (body : Option (List ℕ)) (nst : Option Settings) (nvs : List AccountView) → allowed (plain_state ch st vs is m) (Begun (record { body = body })) ≡ true → IsSound total (plain_state ch st vs is m) → nst ≡ settings_of_body body → map named_row nvs ≡ first_rows (settings_of_body body) → capacity nst < 2 ^ 32 → (plain_state 1 nst nvs is m ≡ after (plain_state ch st vs is m) (Begun (record { body = body }))) × IsSound 0 (plain_state 1 nst nvs is m)
begun_sound m ch st vs is total body nst nvs may sound same rows small =
    let s = plain_state ch st vs is m in
    let n = plain_state 1 nst nvs is m in
    let ts = parts (tests s (Begun (record { body = body }))) (allows s (Begun (record { body = body })) may).tests in
    let none_yet : ch ≡ 0 = eqb-true ch 0 ts.0 in
    let one : 1 ≡ ch + 1 = omega (arith, none_yet) in
    let none : m.own ≡ [] = own_none s sound.reached none_yet in
    let mine : m.own ≡ (after s (Begun (record { body = body }))).own = none ∙ ap (given_up (first_rows (settings_of_body body))) (sym none) in
    let is_after : n ≡ after s (Begun (record { body = body })) = λ i. record { changes = one i; settings = same i; rows = rows i; issued = is; own = mine i; kept = m.kept; snapped = m.snapped; chosen = m.chosen } in (
      is_after,
      record {
        used_is = sym (no_units n (settings_of_body body)) ∙ ap (sum_by (λ (y : ℕ × Row). held_units y.1 + coming n y.1.pending)) (sym rows);
        reached = subst IsReached (sym is_after) (reached_after s (Begun (record { body = body })) sound.reached (text_there body ts.1.0) may);
        small = small;
      },
    )

-- a settings text keeps the capacity within four bytes
pub text_capacity : (body : Option (List ℕ)) → capacity (settings_of_body body) < 2 ^ 32
text_capacity None = omega arith
text_capacity (Some text) = of_text (settings_of text) refl
  where
    of_text : (st : Option Settings) → settings_of text ≡ st → capacity st < 2 ^ 32
    of_text None e = omega arith
    of_text (Some x) e = omega (arith, (settings_of-are text x e).capacity)

-- Room that is made changes no row.
pub at_row_none : (p : ℕ) (rows : List (ℕ × Row)) → at_row p (λ r. r) rows ≡ rows
at_row_none p [] = refl
at_row_none p (x ∷ xs) = by_cases (x.0 == p) (λ k. rw k refl) (λ k. rw k (ap (λ l. x ∷ l) (at_row_none p xs)))

pub same_rows : (vs : List AccountView) (p i : ℕ) (v w : AccountView) → Found vs p i v → w.id ≡ v.id → w.row ≡ v.row → map named_row (set vs i w) ≡ map named_row vs
same_rows vs p i v w f a b = found_set vs p i v w (λ r. r) f a b ∙ at_row_none p (map named_row vs)

pub same_state : (m : Mine) (ch : ℕ) (st : Option Settings) (vs ws : List AccountView) (is : ℕ) → map named_row ws ≡ map named_row vs → plain_state ch st ws is m ≡ plain_state ch st vs is m
same_state m ch st vs ws is h = λ i. record { changes = ch; settings = st; rows = h i; issued = is; own = m.own; kept = m.kept; snapped = m.snapped; chosen = m.chosen }
