-- What a probe of the node's own lists may be asked for.
use Rattle.std.proofs.Common.{◌≡◌, ◌≤◌, ℕ, ◌+◌, ◌^◌, Bool, true, not, ◌&&◌, List, [], ◌∷◌, ◌++◌, length, take, drop, map, filter, refl, sym, ap, ◌∙◌, subst, length-append, length-take, take-append-drop, arith}
use Rattle.std.specs.List.{list_all}
use Rattle.std.proofs.lemmas.Bool.{lt-ltb, le-leb, and_parts, and_from}
use Rattle.std.proofs.lemmas.List.Folds.{list_all-append, list_all-map}
use Rattle.psb_bytes.specs.declared.ids.Object.{Object}
use Rattle.psb_settings.specs.declared.settings.Settings.{Settings}
use Rattle.psb_model.specs.Words.{listed, objects_distinct, with_one, with_all, occurs}
use Rattle.psb_model.specs.State.{Row, row, is_peer, out_key, debt_key, ties_out}
use Rattle.psb_model.specs.Grammar.{is_u32, is_count, object_fits}
use Rattle.psb_model.specs.Conditions.{may_ask}
use Rattle.psb_model.specs.History.{state}
use Rattle.psb_model.specs.Needed.{IsValid}
use Rattle.psb_model.specs.declared.change.Change.{Change}
use Rattle.psb_model.specs.declared.change.Change.TheVariants.{Asked}
use Rattle.psb_model.proofs.ByObject.{by_cases, object_eq-refl, has-occurs, units_at-with_all, units_at-append, units_at-filter_both, units_at-map, all_with_one}
use Rattle.psb_model.proofs.Tidy.{IsTidy}
use Rattle.psb_model.proofs.Steady.{steady_state}
use Rattle.model_laws.proofs.Widths.{IsWideRow, wide_state}
use Rattle.psb_machine.specs.OwnProbes.{may_list, objects_to_ask, listed_from, objects_drawn, most_listed}
use Rattle.psb_machine.proofs.Taken.{MayTake, begun_here}

-- ---- no object twice

abbrev pub self : Object → Object
self o = o

abbrev pub count : List Object → Object → ℕ
count os o = occurs self os o

pub distinct_once : (os : List Object) → ((o : Object) → count os o ≤ 1) → objects_distinct os ≡ true
distinct_once [] h = refl
distinct_once (x ∷ xs) h =
    by_cases (listed xs x)
    (λ k. let here = rw (object_eq-refl x) at (h x) in absurd (omega (arith, here, has-occurs self xs x k)))
    (λ k. rw k (distinct_once xs (λ o. omega (arith, h o))))

count_take : (n : ℕ) (os : List Object) (o : Object) → count (take n os) o ≤ count os o
count_take n os o = omega (arith, ap (λ (l : List Object). count l o) (take-append-drop n os), units_at-append self (λ _. 1) (take n os) (drop n os) o)

count_from : (k : ℕ) (os : List Object) (o : Object) → count (listed_from k os) o ≤ count os o
count_from k os o =
    omega (arith, count_take most_listed (drop k os ++ take k os) o, units_at-append self (λ _. 1) (drop k os) (take k os) o, units_at-append self (λ _. 1) (take k os) (drop k os) o, ap (λ (l : List Object). count l o) (take-append-drop k os))

-- what stands there, and in debt
abbrev there : Row → List Object
there r = with_all self (map debt_key r.debts) (map out_key r.outs)

count_there : (r : Row) (o : Object) → count (there r) o ≡ occurs debt_key r.debts o + occurs out_key r.outs o
count_there r o =
    omega (arith, units_at-with_all self (λ _. 1) (map debt_key r.debts) (map out_key r.outs) o, units_at-map debt_key (λ _. 1) self (λ _. 1) debt_key (λ e. refl) (λ e. refl) r.debts o, units_at-map out_key (λ _. 1) self (λ _. 1) out_key (λ e. refl) (λ e. refl) r.outs o)

count_to_ask : (issued : ℕ) (r : Row) (o : Object) → IsTidy issued r → count (objects_to_ask r) o ≤ 1
count_to_ask issued r o tidy = omega (arith, units_at-filter_both self (λ _. 1) (may_list r) (there r) o, count_there r o, tidy.outs_once o)

-- ---- what all of them have

all_take : (t : Object → Bool) (n : ℕ) (os : List Object) → list_all t os ≡ true → list_all t (take n os) ≡ true
all_take t n os h = (and_parts (list_all t (take n os)) (list_all t (drop n os)) (sym (list_all-append t (take n os) (drop n os)) ∙ ap (list_all t) (take-append-drop n os) ∙ h)).0

all_drop : (t : Object → Bool) (n : ℕ) (os : List Object) → list_all t os ≡ true → list_all t (drop n os) ≡ true
all_drop t n os h = (and_parts (list_all t (take n os)) (list_all t (drop n os)) (sym (list_all-append t (take n os) (drop n os)) ∙ ap (list_all t) (take-append-drop n os) ∙ h)).1

pub all_from : (t : Object → Bool) (k : ℕ) (os : List Object) → list_all t os ≡ true → list_all t (listed_from k os) ≡ true
all_from t k os h = all_take t most_listed (drop k os ++ take k os) (list_all-append t (drop k os) (take k os) ∙ and_from (list_all t (drop k os)) (list_all t (take k os)) (all_drop t k os h) (all_take t k os h))

all_filter : (t q : Object → Bool) (os : List Object) → list_all t os ≡ true → list_all t (filter q os) ≡ true
all_filter t q [] h = refl
all_filter t q (o ∷ os) h = let a = and_parts (t o) (list_all t os) h in by_cases (q o) (λ k. rw k (rw (a.0) (all_filter t q os a.1))) (λ k. rw k (all_filter t q os a.1))

pub passes_filter : (q : Object → Bool) (os : List Object) → list_all q (filter q os) ≡ true
passes_filter q [] = refl
passes_filter q (o ∷ os) = by_cases (q o) (λ k. rw k (rw k (passes_filter q os))) (λ k. rw k (passes_filter q os))

all_both : (t q : Object → Bool) (os : List Object) → list_all (λ o. t o && q o) os ≡ true → (list_all t os ≡ true) × (list_all q os ≡ true)
all_both t q [] h = (refl, refl)
all_both t q (o ∷ os) h =
    let a = and_parts (t o && q o) (list_all (λ x. t x && q x) os) h in
    let b = and_parts (t o) (q o) a.0 in
    let c = all_both t q os a.1 in
    (rw (b.0, c.0) refl, rw (b.1, c.1) refl)

all_with : (t : Object → Bool) (es l : List Object) → list_all t es ≡ true → list_all t l ≡ true → list_all t (with_all self es l) ≡ true
all_with t [] l h k = k
all_with t (e ∷ es) l h k = let a = and_parts (t e) (list_all t es) h in all_with t es (with_one self e l) a.1 (all_with_one self t e l a.0 k)

there_fit : (r : Row) → IsWideRow r → list_all object_fits (there r) ≡ true
there_fit r wide = all_with object_fits (map debt_key r.debts) (map out_key r.outs) (list_all-map object_fits debt_key r.debts ∙ wide.debts) (list_all-map object_fits out_key r.outs ∙ wide.outs)

-- ---- the change that asks

-- some of a list that is not empty, and no more than a probe lists
some_taken : (os : List Object) → 1 ≤ length os → 1 ≤ length (take most_listed os)
some_taken [] h = absurd (omega (arith, h))
some_taken (o ∷ os) h = omega arith

some_from : (k : ℕ) (os : List Object) → 1 ≤ length os → 1 ≤ length (listed_from k os)
some_from k os h = some_taken (drop k os ++ take k os) (omega (arith, h, length-append (drop k os) (take k os), length-append (take k os) (drop k os), ap length (take-append-drop k os)))

pub few_from : (k : ℕ) (os : List Object) → length (listed_from k os) ≤ 32
few_from k os = omega (arith, length-take most_listed (drop k os ++ take k os))

listed_may : (h : List Change) (p k : ℕ) (os : List Object) → IsValid h → is_peer (state h) p ≡ true → is_u32 p ≡ true → objects_to_ask (row (state h) p) ≡ os → 1 ≤ length os → MayTake (state h) (Asked (record { peer = p; objects = listed_from k os }))
listed_may h p k os v peer p_fits is some =
    let r = row (state h) p in
    let tidy = ((steady_state h v.lawful).good.rows p).tidy in
    let wide = (wide_state h v.lawful v.fit).rows p in
    let asked = listed_from k os in
    let pass : list_all (may_list r) os ≡ true = subst (λ (l : List Object). list_all (may_list r) l ≡ true) is (passes_filter (may_list r) (there r)) in
    let fit : list_all object_fits os ≡ true = subst (λ (l : List Object). list_all object_fits l ≡ true) is (all_filter object_fits (may_list r) (there r) (there_fit r wide)) in
    let once : (o : Object) → count os o ≤ 1 = λ o. subst (λ (l : List Object). count l o ≤ 1) is (count_to_ask (state h).issued r o tidy) in
    let both = all_both (may_ask r) (λ o. not (ties_out r.pending o)) asked (all_from (may_list r) k os pass) in
    let distinct = distinct_once asked (λ o. omega (arith, count_from k os o, once o)) in
    let few = few_from k os in
    let counted : is_count (length asked) ≡ true = lt-ltb (length asked) (2 ^ 32) (omega (arith, few)) in
    record {
      grammar = rw (distinct, counted) refl;
      may = rw (begun_here h v.some, peer, le-leb 1 (length asked) (some_from k os some), le-leb (length asked) 32 few, both.0, both.1) refl;
      widths = rw (p_fits, all_from object_fits k os fit) refl;
      brings = refl;
      answerable = refl;
    }

pub asked_may : (h : List Change) (settings : Settings) (p : ℕ) (o : Object) (os : List Object) → IsValid h → is_peer (state h) p ≡ true → is_u32 p ≡ true → objects_to_ask (row (state h) p) ≡ o ∷ os
    → MayTake (state h) (Asked (record { peer = p; objects = objects_drawn settings.seed (state h) (o ∷ os) }))
asked_may h settings p o os v peer p_fits is = listed_may h p _ (o ∷ os) v peer p_fits is (omega arith)
