-- Which entries a picker takes, entry by entry.
use Rattle.std.proofs.Common.{◌≡◌, ℕ, ◌+◌, ◌-◌, ◌^◌, ◌<◌, ◌≤◌, Bool, true, false, not, ◌&&◌, cond, List, [], ◌∷◌, ◌++◌, length, map, filter, sum_by, Option, Some, None, refl, sym, ap, ◌∙◌, append_assoc, append-nil, arith}
use Rattle.std.specs.Prelude.{◌==◌, ◌%◌, nat_le, nat_lt, if◌then◌else◌}
use Rattle.std.specs.List.{list_all}
use Rattle.std.proofs.lemmas.Bool.{and_parts, leb-true, ltb-true}
use Rattle.std.proofs.lemmas.Bool.Decides.{nat_tests}
use Rattle.std.proofs.lemmas.List.Sums.{sum_by-cons}
use Rattle.psb_bytes.specs.declared.ids.Object.{Object}
use Rattle.psb_digest.specs.Words.{Reader, word, own_word}
use Rattle.psb_model.specs.declared.entries.InEntry.{InEntry}
use Rattle.psb_model.specs.State.{Row, State, row, tied_in, in_key, in_size, held_units, debt_units}
use Rattle.psb_model.specs.Discards.{is_picked, picks, one_in, discards, seed}
use Rattle.psb_settings.specs.declared.settings.Settings.{Settings}
use Rattle.psb_model.proofs.ByObject.{by_cases, all_kept}
use Rattle.discard_policy.specs.Drawing.{drawn}
use Rattle.discard_policy.proofs.Draws.{own_reader, own_picks, draw_step}
use Rattle.peer_lists.specs.Entries.{in_order}
use Rattle.peer_lists.specs.Walks.{is_behind, entry_after}
use Rattle.peer_lists.proofs.Next.{behind, behind_none, behind_next, behind_end}
use Rattle.psb_ledger.specs.View.{IsReached}
use Rattle.psb_ledger.proofs.Weights.{weighs, weigh_row}
use Rattle.psb_ledger.proofs.Discarding.{none_taken}
use Rattle.due_discards.specs.Offers.{untied, is_spent}

-- ---- one entry

-- a tied one is passed over
pub tied_passes : (s : State) (p : ℕ) (e : InEntry) → tied_in s p e.object ≡ true → (es : List InEntry) → untied s p (e ∷ es) ≡ untied s p es
tied_passes s p e is es = rw is refl

-- any other is offered
pub untied_offered : (s : State) (p : ℕ) (r t : Reader) (every every_then left room left_then room_then : ℕ) (e : InEntry) (b : Bool)
    → tied_in s p e.object ≡ false → b ≡ is_picked every (word r.key r.stream r.place) left room e → t ≡ record r { place = (r.place + 1) % 2 ^ 68 } → every_then ≡ every → left_then ≡ cond b (left - e.units) left → room_then ≡ cond b (room - 1) room
    → (es : List InEntry) → picks (drawn r) every 0 left room (untied s p (e ∷ es)) ≡ cond b (e ∷ []) [] ++ picks (drawn t) every_then 0 left_then room_then (untied s p es)
untied_offered s p r t every every_then left room left_then room_then e b is picked moved same left_is room_is es =
    let offered : picks (drawn r) every 0 left room (untied s p (e ∷ es)) ≡ cond b (e ∷ []) [] ++ picks (drawn t) every 0 left_then room_then (untied s p es) =
    rw is (draw_step r t every left room left_then room_then e (untied s p es) b picked moved left_is room_is) in
    offered ∙ ap (λ (g : ℕ). cond b (e ∷ []) [] ++ picks (drawn t) g 0 left_then room_then (untied s p es)) (sym same)

-- ---- where the picker is spent

-- an entry of no unit has none to take, and no other is within a debt of 0
spent_passes : (every word left room : ℕ) (e : InEntry) → is_spent left room ≡ true → weighs e ≡ true → is_picked every word left room e ≡ false
spent_passes every word left room e spent some = by_cases (is_picked every word left room e)
    (λ k.
    let last = and_parts (nat_lt 0 every && word % every == 0 && nat_le e.units left) (nat_lt 0 room) k in
    let fits = and_parts (nat_lt 0 every && word % every == 0) (nat_le e.units left) last.0 in
    absurd (grind (arith, nat_tests, spent, ltb-true 0 room last.1, leb-true e.units left fits.1, leb-true 1 e.units some)))
    (λ k. k)

pub none_picked : (words : ℕ → ℕ) (every j left room : ℕ) (es : List InEntry) → is_spent left room ≡ true → list_all weighs es ≡ true → picks words every j left room es ≡ []
none_picked words every j left room [] spent h = refl
none_picked words every j left room (e ∷ es) spent h =
    let two = and_parts (weighs e) (list_all weighs es) h in
    rw (spent_passes every (words j) left room e spent two.0) (none_picked words every (j + 1) left room es spent two.1)

-- ---- the walk

-- what is to be taken of those behind a place
abbrev pub to_take : State → ℕ → Reader → ℕ → ℕ → ℕ → Option Object → List InEntry → List Object
to_take s p t every left room place l = map in_key (picks (drawn t) every 0 left room (untied s p (behind in_key place l)))

-- the objects so far, and then what is to be taken, are all
pub record IsWalk (all taken : List Object) (s : State) (p : ℕ) (t : Reader) (every left room : ℕ) (place : Option Object) (l : List InEntry) : Type 0 where
  pub whole : all ≡ taken ++ to_take s p t every left room place l

pub walk_begins : (taken : List Object) (s : State) (p : ℕ) (t : Reader) (every left room : ℕ) (l : List InEntry) → taken ≡ [] → IsWalk (map in_key (picks (drawn t) every 0 left room (untied s p l))) taken s p t every left room None l
walk_begins taken s p t every left room l none = record {
  whole =
      ap (λ (xs : List InEntry). map in_key (picks (drawn t) every 0 left room (untied s p xs))) (sym (behind_none in_key l))
      ∙ ap (λ (os : List Object). os ++ to_take s p t every left room None l) (sym none);
}

-- the next entry, of what was found while the picker was not spent
pub found : (left room : ℕ) (place : Option Object) (l : List InEntry) (e : InEntry) → Some e ≡ (if is_spent left room then None else entry_after in_key place l) → Some e ≡ entry_after in_key place l
found left room place l e is = by_cases (is_spent left room)
    (λ k. let none : Some e ≡ None = rw k at is in absurd (cc (none)))
    (λ k. rw k at is)

pub walk_goes_on : (all taken more : List Object) (s : State) (p : ℕ) (l : List InEntry) (place : Option Object) (e : InEntry) (b : Bool) (t t' : Reader) (every every' left left' room room' : ℕ)
    → in_order in_key l ≡ true → Some e ≡ entry_after in_key place l
    → ((es : List InEntry) → picks (drawn t) every 0 left room (untied s p (e ∷ es)) ≡ cond b (e ∷ []) [] ++ picks (drawn t') every' 0 left' room' (untied s p es))
    → more ≡ taken ++ cond b (e.object ∷ []) [] → IsWalk all taken s p t every left room place l → IsWalk all more s p t' every' left' room' (Some e.object) l
walk_goes_on all taken more s p l place e b t t' every every' left left' room room' ordered next takes pushed before =
    let es = behind in_key (Some e.object) l in
    let rest = to_take s p t' every' left' room' (Some e.object) l in
    record {
      whole =
          before.whole
          ∙ ap (λ (xs : List InEntry). taken ++ map in_key (picks (drawn t) every 0 left room (untied s p xs))) (behind_next in_key place l e ordered next)
          ∙ ap (λ (ps : List InEntry). taken ++ map in_key ps) (takes es)
          ∙ ap (λ (os : List Object). taken ++ os) (by_choice b (picks (drawn t') every' 0 left' room' (untied s p es)))
          ∙ sym (append_assoc taken (cond b (e.object ∷ []) []) rest)
          ∙ ap (λ (os : List Object). os ++ rest) (sym pushed);
    }
  where
    by_choice : (c : Bool) (ps : List InEntry) → map in_key (cond c (e ∷ []) [] ++ ps) ≡ cond c (e.object ∷ []) [] ++ map in_key ps
    by_choice true ps = refl
    by_choice false ps = refl

-- at the end, or where the picker is spent, nothing is to be taken
pub walk_ends : (all taken : List Object) (s : State) (p : ℕ) (t : Reader) (every left room : ℕ) (place : Option Object) (l : List InEntry) → list_all weighs l ≡ true → None ≡ (if is_spent left room then None else entry_after in_key place l) → IsWalk all taken s p t every left room place l → taken ≡ all
walk_ends all taken s p t every left room place l weigh none walk =
    sym (walk.whole ∙ ap (λ (ps : List InEntry). taken ++ map in_key ps) nothing ∙ append-nil taken)
  where
    nothing : picks (drawn t) every 0 left room (untied s p (behind in_key place l)) ≡ []
    nothing = by_cases (is_spent left room)
        (λ k. none_picked (drawn t) every 0 left room (untied s p (behind in_key place l)) k
        (all_kept weighs (λ (e : InEntry). not (tied_in s p e.object)) (behind in_key place l) (all_kept weighs (λ (e : InEntry). is_behind place e.object) l weigh)))
        (λ k. let none' : None ≡ entry_after in_key place l = rw k at none in ap (λ (xs : List InEntry). picks (drawn t) every 0 left room (untied s p xs)) (behind_end in_key place l none'))

-- each entry of a list that is a row's has a unit
pub weigh_ins : (s : State) (p : ℕ) (l : List InEntry) → l ≡ (row s p).ins → IsReached s → list_all weighs l ≡ true
weigh_ins s p l is reached = ap (list_all weighs) is ∙ weigh_row s p reached

-- ---- the settings

-- before there are any, nothing is taken
pub none_there : (s : State) (p : ℕ) → IsReached s → s.settings ≡ None → map in_key (discards s p) ≡ []
none_there s p reached none = ap (map in_key) (none_taken s p reached none)

-- the words of the next change choose what the definition takes: there are fewer entries than words
filter_few : (q : InEntry → Bool) (l : List InEntry) → length (filter q l) ≤ length l
filter_few q [] = omega arith
filter_few q (e ∷ es) = by_cases (q e) (λ k. rw k (omega (arith, filter_few q es))) (λ k. rw k (omega (arith, filter_few q es)))

few_held : (l : List InEntry) → list_all weighs l ≡ true → length l ≤ sum_by in_size l
few_held [] h = omega arith
few_held (e ∷ es) h =
    let two = and_parts (weighs e) (list_all weighs es) h in
    omega (arith, sum_by-cons in_size e es, leb-true 1 e.units two.0, few_held es two.1)

pub own_taken : (s : State) (p : ℕ) (x : Settings) (held : ℕ) (t : Reader) (every left room : ℕ) (r : Row) → IsReached s → held ≡ held_units (row s p) → held < 2 ^ 32 → s.settings ≡ Some x → t ≡ own_reader x.seed s.changes → r ≡ row s p → every ≡ one_in r.fails → left ≡ debt_units r → room ≡ 1048576
    → picks (drawn t) every 0 left room (untied s p (row s p).ins) ≡ discards s p
own_taken s p x held t every left room r reached held_is small is reads row_is grade_is debt_is most =
    let es = untied s p (row s p).ins in
    let few : length es ≤ 2 ^ 68 = omega (arith, filter_few (λ (e : InEntry). not (tied_in s p e.object)) (row s p).ins, few_held (row s p).ins (weigh_row s p reached), held_is, small) in
    (λ i. picks (drawn (reads i)) (grade_is i) 0 (debt_is i) (most i) es)
    ∙ ap (λ (y : Row). picks (drawn (own_reader x.seed s.changes)) (one_in y.fails) 0 (debt_units y) 1048576 es) row_is
    ∙ own_picks x.seed s.changes (one_in (row s p).fails) (debt_units (row s p)) 1048576 es few
    ∙ ap (λ (o : Option Settings). picks (own_word (seed o) s.changes) (one_in (row s p).fails) 0 (debt_units (row s p)) 1048576 es) (sym is)
