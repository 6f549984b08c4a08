-- Words that are drawn one after another, and those of a change, from the first on.
use Rattle.std.proofs.Common.{◌≡◌, ℕ, zero, suc, ◌+◌, ◌-◌, ◌<◌, ◌≤◌, ◌^◌, ◌%◌, Bool, cond, List, [], ◌∷◌, ◌++◌, length, refl, sym, ap, ◌∙◌, add-one, arith}
use Rattle.psb_digest.specs.Words.{Reader, word, words_key, own_word}
use Rattle.psb_model.specs.declared.entries.InEntry.{InEntry}
use Rattle.psb_model.specs.Discards.{is_picked, picks}
use Rattle.discard_policy.specs.Drawing.{past, drawn}
use Rattle.discard_policy.proofs.Picks.{pick_step, picks_at, picks_same}

-- the reader behind the word that is drawn next
pub past_next : (r s t : Reader) (i : ℕ) → s ≡ past r i → t ≡ record s { place = (s.place + 1) % 2 ^ 68 } → t ≡ past r (i + 1)
past_next r s t i is moved = moved ∙ ap (λ (u : Reader). let v : Reader = record u { place = (u.place + 1) % 2 ^ 68 } in v) is ∙ ap (past r) (sym (add-one i))

-- the reader of the change's words, at its start
abbrev pub own_reader : List ℕ → ℕ → Reader
own_reader seed change = record { key = words_key seed; stream = change; place = 0 }

past_own : (seed : List ℕ) (change j : ℕ) → j < 2 ^ 68 → past (own_reader seed change) j ≡ record { key = words_key seed; stream = change; place = j }
past_own seed change zero small = refl
past_own seed change (suc j) small =
    ap (λ (s : Reader). let r : Reader = record s { place = (s.place + 1) % 2 ^ 68 } in r) (past_own seed change j (omega arith))
    ∙ ap (λ (n : ℕ). let r : Reader = record { key = words_key seed; stream = change; place = n } in r) (wraps_not j small)
  where
    wraps_not : (n : ℕ) → suc n < 2 ^ 68 → (n + 1) % 2 ^ 68 ≡ suc n
    wraps_not n less = omega arith

drawn_own : (seed : List ℕ) (change j : ℕ) → j < 2 ^ 68 → drawn (own_reader seed change) j ≡ own_word seed change j
drawn_own seed change j small = ap (λ (s : Reader). word s.key s.stream s.place) (past_own seed change j small)

-- they choose what the definition chooses
pub own_picks : (seed : List ℕ) (change every left room : ℕ) (es : List InEntry) → length es ≤ 2 ^ 68 → picks (drawn (own_reader seed change)) every 0 left room es ≡ picks (own_word seed change) every 0 left room es
own_picks seed change every left room es few =
    picks_same (drawn (own_reader seed change)) (own_word seed change) every 0 0 left room es (λ k less. drawn_own seed change (0 + k) (omega arith))

-- the reader behind one word more
abbrev next_of : Reader → Reader
next_of r = record r { place = (r.place + 1) % 2 ^ 68 }

past_first : (r : Reader) (k : ℕ) → past r (suc k) ≡ past (next_of r) k
past_first r zero = refl
past_first r (suc k) = ap next_of (past_first r k)

drawn_behind : (r t : Reader) (k : ℕ) → t ≡ next_of r → drawn r (0 + 1 + k) ≡ drawn t (0 + k)
drawn_behind r t k is =
    let more : 0 + 1 + k ≡ suc k = omega arith in
    let none : 0 + k ≡ k = omega arith in
    ap (drawn r) more
    ∙ ap (λ (s : Reader). word s.key s.stream s.place) (past_first r k)
    ∙ ap (λ (s : Reader). drawn s k) (sym is)
    ∙ ap (drawn t) (sym none)

-- an entry that is offered, and then the others by the words behind its own
pub draw_step : (r t : Reader) (every left room left_then room_then : ℕ) (e : InEntry) (es : List InEntry) (b : Bool)
    → b ≡ is_picked every (word r.key r.stream r.place) left room e → t ≡ next_of r → left_then ≡ cond b (left - e.units) left → room_then ≡ cond b (room - 1) room
    → picks (drawn r) every 0 left room (e ∷ es) ≡ cond b (e ∷ []) [] ++ picks (drawn t) every 0 left_then room_then es
draw_step r t every left room left_then room_then e es b is moved left_is room_is =
    pick_step (drawn r) every 0 left room e es b is
    ∙ ap (λ (l : List InEntry). cond b (e ∷ []) [] ++ l)
    (picks_at (drawn r) every (0 + 1) (0 + 1) (cond b (left - e.units) left) left_then (cond b (room - 1) room) room_then es refl (sym left_is) (sym room_is)
    ∙ picks_same (drawn r) (drawn t) every (0 + 1) 0 left_then room_then es (λ k less. drawn_behind r t k moved))
