-- A choice, entry by entry, and what holds of the whole.
use Rattle.std.proofs.Common.{◌≡◌, ℕ, ◌+◌, ◌-◌, ◌<◌, ◌≤◌, Bool, true, false, cond, List, [], ◌∷◌, ◌++◌, length, map, drop, get_or, refl, sym, ap, subst, ◌∙◌, inl, inr, ⊎_elim, arith}
use Rattle.std.specs.Prelude.{sum_by}
use Rattle.std.proofs.lemmas.List.{drop_more, drop_all, map-append, append-nil, length-map}
use Rattle.std.proofs.lemmas.List.Sums.{sum_by-cons}
use Rattle.psb_bytes.specs.declared.ids.Object.{Object}
use Rattle.psb_model.specs.declared.entries.InEntry.{InEntry}
use Rattle.psb_model.specs.declared.entries.InState.TheVariants.{Body}
use Rattle.psb_model.specs.State.{in_key, in_size}
use Rattle.psb_model.specs.Discards.{is_picked, picks}
use Rattle.discard_policy.specs.Choices.{weighed, HasInOrder, IsWithin}
use Rattle.discard_policy.proofs.Picks.{pick_step, picks_at, picks_units, picks_count, picks_in_order}

-- some entry of the object and the units
abbrev pub entry_of : Object × ℕ → InEntry
entry_of x = record { object = x.0; units = x.1; state = Body }

weighed_again : (xs : List (Object × ℕ)) → map weighed (map entry_of xs) ≡ xs
weighed_again [] = refl
weighed_again (x ∷ xs) = ap (λ (l : List (Object × ℕ)). x ∷ l) (weighed_again xs)

-- one entry more
pub next_pick : (w : ℕ → ℕ) (g i left room left' room' u : ℕ) (es : List InEntry) (o : Object) (b : Bool) (d : InEntry)
    → i < length es → weighed (get_or es i d) ≡ (o, u) → ((e : InEntry) → e.units ≡ u → b ≡ is_picked g (w i) left room e) → left' ≡ cond b (left - u) left → room' ≡ cond b (room - 1) room
    → map in_key (picks w g i left room (drop i es)) ≡ cond b (o ∷ []) [] ++ map in_key (picks w g (i + 1) left' room' (drop (i + 1) es))
next_pick w g i left room left' room' u es o b d less is picked left_is room_is =
    let e = get_or es i d in
    let rest = drop (i + 1) es in
    let units : e.units ≡ u = ap (λ (x : Object × ℕ). x.1) is in
    let left_now : cond b (left - e.units) left ≡ left' = ap (λ (n : ℕ). cond b (left - n) left) units ∙ sym left_is in
    ap (λ (l : List InEntry). map in_key (picks w g i left room l)) (drop_more es i d less)
    ∙ ap (map in_key) (pick_step w g i left room e rest b (picked e units))
    ∙ map-append in_key (cond b (e ∷ []) []) (picks w g (i + 1) (cond b (left - e.units) left) (cond b (room - 1) room) rest)
    ∙ ap (λ (l : List Object). l ++ map in_key (picks w g (i + 1) (cond b (left - e.units) left) (cond b (room - 1) room) rest)) (key_of e o b (ap (λ (x : Object × ℕ). x.0) is))
    ∙ ap (λ (l : List InEntry). cond b (o ∷ []) [] ++ map in_key l) (picks_at w g (i + 1) (i + 1) (cond b (left - e.units) left) left' (cond b (room - 1) room) room' rest refl left_now (sym room_is))
  where
    key_of : (e : InEntry) (o : Object) (b : Bool) → e.object ≡ o → map in_key (cond b (e ∷ []) []) ≡ cond b (o ∷ []) []
    key_of e o true is = ap (λ (x : Object). x ∷ []) is
    key_of e o false is = refl

-- the list with an entry that is taken, and without one that is passed over
pub taken : (l now : List Object) (x : Object) (b : Bool) → b ≡ true → l ≡ now ++ x ∷ [] → l ≡ now ++ cond b (x ∷ []) []
taken l now x b is more = rw is more

pub passed_over : (l now : List Object) (x : Object) (b : Bool) → b ≡ false → l ≡ now → l ≡ now ++ cond b (x ∷ []) []
passed_over l now x b is same = rw is (same ∙ sym (append-nil now))

-- no entry is left
pub all_done : (w : ℕ → ℕ) (g i left room : ℕ) (es : List InEntry) (front all : List Object) → length es ≤ i → all ≡ front ++ map in_key (picks w g i left room (drop i es)) → front ≡ all
all_done w g i left room es front all past is = sym (is ∙ ap (λ (l : List InEntry). front ++ map in_key (picks w g i left room l)) (drop_all i es past) ∙ append-nil front)

weighed_in_order : (ys xs : List InEntry) → HasInOrder ys xs → HasInOrder (map weighed ys) (map weighed xs)
weighed_in_order [] [] has = tt
weighed_in_order [] (x ∷ xs) has = absurd has
weighed_in_order (y ∷ ys) [] has = tt
weighed_in_order (y ∷ ys) (x ∷ xs) has = ⊎_elim (λ both. inl (ap weighed both.0, weighed_in_order ys xs both.1)) (λ later. inr (weighed_in_order ys (x ∷ xs) later)) has

objects_of : (ps : List InEntry) → map in_key ps ≡ map (λ (e : Object × ℕ). e.0) (map weighed ps)
objects_of [] = refl
objects_of (p ∷ ps) = ap (λ (l : List Object). p.object ∷ l) (objects_of ps)

units_of : (ps : List InEntry) → sum_by (λ (e : Object × ℕ). e.1) (map weighed ps) ≡ sum_by in_size ps
units_of [] = refl
units_of (p ∷ ps) = omega (arith, units_of ps, sum_by-cons in_size p ps, sum_by-cons (λ (e : Object × ℕ). e.1) (weighed p) (map weighed ps))

-- what the definition picks is within the debt
pub is_within : (w : ℕ → ℕ) (g j debt : ℕ) (entries : List (Object × ℕ)) (objects : List Object)
    → ((es : List InEntry) → map weighed es ≡ entries → objects ≡ map in_key (picks w g j debt 1048576 es)) → IsWithin entries debt objects
is_within w g j debt entries objects chosen =
    let es = map entry_of entries in
    let ps = picks w g j debt 1048576 es in
    record {
      chosen = map weighed ps;
      in_order = subst (λ (l : List (Object × ℕ)). HasInOrder l (map weighed ps)) (weighed_again entries) (weighed_in_order es ps (picks_in_order w g j debt 1048576 es));
      objects_are = chosen es (weighed_again entries) ∙ objects_of ps;
      within = omega (arith, units_of ps, picks_units w g j debt 1048576 es);
      few = omega (arith, length-map ps weighed, picks_count w g j debt 1048576 es);
    }
