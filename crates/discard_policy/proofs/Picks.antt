-- Picks one after another, and run by run. A pass that keeps the debt that is left and the room has picked what
-- the definition picks: `Passes` is its invariant, with a lemma for no entry, for an entry more, for one pass behind
-- another, and for the end.
use Rattle.std.proofs.Common.{◌≡◌, ℕ, ◌+◌, ◌-◌, ◌<◌, ◌≤◌, Bool, true, false, cond, List, [], ◌∷◌, ◌++◌, length, refl, sym, ap, ◌∙◌, inl, inr, append_assoc, length-append, arith}
use Rattle.std.specs.Prelude.{nat_le, nat_lt, ◌&&◌, ◌%◌, ◌==◌, sum_by}
use Rattle.std.proofs.lemmas.Bool.{and_parts, leb-true, ltb-true}
use Rattle.std.proofs.lemmas.List.{append-nil}
use Rattle.std.proofs.lemmas.List.Sums.{sum_by-cons}
use Rattle.psb_model.specs.declared.entries.InEntry.{InEntry}
use Rattle.psb_model.specs.State.{in_size}
use Rattle.psb_model.specs.Discards.{is_picked, picks}
use Rattle.discard_policy.specs.Choices.{HasInOrder}

pub by_cases : {P : Type 0} (b : Bool) → (b ≡ true → P) → (b ≡ false → P) → P
by_cases true f g = f refl
by_cases false f g = g refl

-- an entry, and then the others from what it leaves
pub pick_step : (words : ℕ → ℕ) (every j left room : ℕ) (e : InEntry) (es : List InEntry) (b : Bool) → b ≡ is_picked every (words j) left room e
    → picks words every j left room (e ∷ es) ≡ cond b (e ∷ []) [] ++ picks words every (j + 1) (cond b (left - e.units) left) (cond b (room - 1) room) es
pick_step words every j left room e es true is = rw (sym is) refl
pick_step words every j left room e es false is = rw (sym is) refl

-- the same from equal places and numbers
pub picks_at : (words : ℕ → ℕ) (every j j' left left' room room' : ℕ) (es : List InEntry) → j ≡ j' → left ≡ left' → room ≡ room' → picks words every j left room es ≡ picks words every j' left' room' es
picks_at words every j j' left left' room room' es place units entries =
    ap (λ (n : ℕ). picks words every n left room es) place ∙ ap (λ (n : ℕ). picks words every j' n room es) units ∙ ap (λ (n : ℕ). picks words every j' left' n es) entries

-- a run of entries, and then the others from what it leaves
pub picks-append : (words : ℕ → ℕ) (every j left room : ℕ) (xs ys : List InEntry)
    → picks words every j left room (xs ++ ys)
    ≡ picks words every j left room xs ++ picks words every (j + length xs) (left - sum_by in_size (picks words every j left room xs)) (room - length (picks words every j left room xs)) ys
picks-append words every j left room [] ys = picks_at words every j (j + 0) left (left - 0) room (room - 0) ys (omega arith) (omega arith) (omega arith)
picks-append words every j left room (x ∷ xs) ys = by_cases (is_picked every (words j) left room x)
    (λ k.
    let ps = picks words every (j + 1) (left - x.units) (room - 1) xs in
    rw k (ap (λ (l : List InEntry). x ∷ l) (picks-append words every (j + 1) (left - x.units) (room - 1) xs ys
    ∙ ap (λ (l : List InEntry). ps ++ l) (picks_at words every _ _ _ _ _ _ ys (omega arith) (omega (arith, sum_by-cons in_size x ps)) (omega arith)))))
    (λ k.
    let ps = picks words every (j + 1) left room xs in
    rw k (picks-append words every (j + 1) left room xs ys
    ∙ ap (λ (l : List InEntry). ps ++ l) (picks_at words every _ _ _ _ _ _ ys (omega arith) refl refl)))

-- From entry j, this debt and this room on, xs were passed and ps picked of them, which leaves this much.
pub record Passes (words : ℕ → ℕ) (every j left room : ℕ) (xs ps : List InEntry) (left_now room_now : ℕ) : Type 0 where
  pub goes_on : (ys : List InEntry) → picks words every j left room (xs ++ ys) ≡ ps ++ picks words every (j + length xs) left_now room_now ys

pub pass_none : (words : ℕ → ℕ) (every j left room : ℕ) → Passes words every j left room [] [] left room
pass_none words every j left room = record { goes_on = λ ys. picks_at words every j (j + 0) left left room room ys (omega arith) refl refl }

pub pass_more : (words : ℕ → ℕ) (every j left room : ℕ) (xs ps : List InEntry) (left_now room_now left_then room_then : ℕ) (e : InEntry) (b : Bool) → Passes words every j left room xs ps left_now room_now
    → b ≡ is_picked every (words (j + length xs)) left_now room_now e → left_then ≡ cond b (left_now - e.units) left_now → room_then ≡ cond b (room_now - 1) room_now
    → Passes words every j left room (xs ++ e ∷ []) (ps ++ cond b (e ∷ []) []) left_then room_then
pass_more words every j left room xs ps left_now room_now left_then room_then e b pass is left_is room_is = record {
  goes_on = λ ys.
      let rest = picks words every (j + length (xs ++ e ∷ [])) left_then room_then ys in
      ap (picks words every j left room) (append_assoc xs (e ∷ []) ys)
      ∙ pass.goes_on (e ∷ ys)
      ∙ ap (λ (l : List InEntry). ps ++ l) (pick_step words every (j + length xs) left_now room_now e ys b is
      ∙ ap (λ (l : List InEntry). cond b (e ∷ []) [] ++ l) (picks_at words every (j + length xs + 1) (j + length (xs ++ e ∷ [])) _ left_then _ room_then ys (omega (arith, length-append xs (e ∷ []))) (sym left_is) (sym room_is)))
      ∙ sym (append_assoc ps (cond b (e ∷ []) []) rest);
}

pub pass_then : (words : ℕ → ℕ) (every j left room : ℕ) (xs ps ys qs : List InEntry) (left_now room_now left_then room_then : ℕ)
    → Passes words every j left room xs ps left_now room_now → Passes words every (j + length xs) left_now room_now ys qs left_then room_then → Passes words every j left room (xs ++ ys) (ps ++ qs) left_then room_then
pass_then words every j left room xs ps ys qs left_now room_now left_then room_then first next = record {
  goes_on = λ zs.
      let rest = picks words every (j + length (xs ++ ys)) left_then room_then zs in
      ap (picks words every j left room) (append_assoc xs ys zs)
      ∙ first.goes_on (ys ++ zs)
      ∙ ap (λ (l : List InEntry). ps ++ l) (next.goes_on zs
      ∙ ap (λ (l : List InEntry). qs ++ l) (picks_at words every (j + length xs + length ys) (j + length (xs ++ ys)) left_then left_then room_then room_then zs (omega (arith, length-append xs ys)) refl refl))
      ∙ sym (append_assoc ps qs rest);
}

pub pass_all : (words : ℕ → ℕ) (every j left room : ℕ) (xs ps : List InEntry) (left_now room_now : ℕ) → Passes words every j left room xs ps left_now room_now → picks words every j left room xs ≡ ps
pass_all words every j left room xs ps left_now room_now pass = ap (picks words every j left room) (sym (append-nil xs)) ∙ pass.goes_on [] ∙ append-nil ps

-- words that are the same for so many entries choose the same
pub picks_same : (v w : ℕ → ℕ) (every a b left room : ℕ) (es : List InEntry) → ((k : ℕ) → k < length es → v (a + k) ≡ w (b + k)) → picks v every a left room es ≡ picks w every b left room es
picks_same v w every a b left room [] same = refl
picks_same v w every a b left room (e ∷ es) same =
    let first : v a ≡ w b = ap v (omega arith) ∙ same 0 (omega arith) ∙ ap w (omega arith) in
    let more : (k : ℕ) → k < length es → v (a + 1 + k) ≡ w (b + 1 + k) = λ k less. ap v (omega arith) ∙ same (k + 1) (omega arith) ∙ ap w (omega arith) in
    by_cases (is_picked every (v a) left room e)
    (λ k.
    let there : is_picked every (w b) left room e ≡ true = ap (λ (n : ℕ). is_picked every n left room e) (sym first) ∙ k in
    rw (k, there) (ap (λ (l : List InEntry). e ∷ l) (picks_same v w every (a + 1) (b + 1) (left - e.units) (room - 1) es more)))
    (λ k.
    let there : is_picked every (w b) left room e ≡ false = ap (λ (n : ℕ). is_picked every n left room e) (sym first) ∙ k in
    rw (k, there) (picks_same v w every (a + 1) (b + 1) left room es more))

-- what is picked has room
picked_fits : (every word left room : ℕ) (e : InEntry) → is_picked every word left room e ≡ true → (e.units ≤ left) × (0 < room)
picked_fits every word left room e picked =
    let last = and_parts (nat_lt 0 every && word % every == 0 && nat_le e.units left) (nat_lt 0 room) picked in
    let units = and_parts (nat_lt 0 every && word % every == 0) (nat_le e.units left) last.0 in
    (leb-true e.units left units.1, ltb-true 0 room last.1)

-- the units of all that is picked are within the debt, their count within the room
pub picks_units : (words : ℕ → ℕ) (every j left room : ℕ) (es : List InEntry) → sum_by in_size (picks words every j left room es) ≤ left
picks_units words every j left room [] = omega arith
picks_units words every j left room (e ∷ es) = by_cases (is_picked every (words j) left room e)
    (λ k. let fits = picked_fits every (words j) left room e k in rw k (omega (arith, fits.0, picks_units words every (j + 1) (left - e.units) (room - 1) es, sum_by-cons in_size e (picks words every (j + 1) (left - e.units) (room - 1) es))))
    (λ k. rw k (picks_units words every (j + 1) left room es))

pub picks_count : (words : ℕ → ℕ) (every j left room : ℕ) (es : List InEntry) → length (picks words every j left room es) ≤ room
picks_count words every j left room [] = omega arith
picks_count words every j left room (e ∷ es) = by_cases (is_picked every (words j) left room e)
    (λ k. let fits = picked_fits every (words j) left room e k in rw k (omega (arith, fits.1, picks_count words every (j + 1) (left - e.units) (room - 1) es)))
    (λ k. rw k (picks_count words every (j + 1) left room es))

-- and they stand among the entries in their order
pub picks_in_order : (words : ℕ → ℕ) (every j left room : ℕ) (es : List InEntry) → HasInOrder es (picks words every j left room es)
picks_in_order words every j left room [] = tt
picks_in_order words every j left room (e ∷ es) = by_cases (is_picked every (words j) left room e)
    (λ k. rw k (inl (refl, picks_in_order words every (j + 1) (left - e.units) (room - 1) es)))
    (λ k. rw k (passed e es (picks words every (j + 1) left room es) (picks_in_order words every (j + 1) left room es)))
  where
    passed : (y : InEntry) (ys xs : List InEntry) → HasInOrder ys xs → HasInOrder (y ∷ ys) xs
    passed y ys [] has = tt
    passed y ys (x ∷ xs) has = inr has
