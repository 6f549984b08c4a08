-- Which object stands in a list of entries, and in which state: what is left of it where entries come and go, and
-- where those at one object get another state.
use Rattle.std.proofs.Common.{◌≡◌, ◌⊎◌, inl, inr, ℕ, zero, suc, ◌+◌, ◌-◌, ◌≤◌, Bool, true, false, not, cond, List, [], ◌∷◌, ◌++◌, map, filter, refl, sym, ap, ◌∙◌, subst, ⊎_elim, arith}
use Rattle.std.specs.Prelude.{◌&&◌, nat_le}
use Rattle.std.specs.Ordering.{is_lt}
use Rattle.std.proofs.lemmas.Bool.{false≢true, and_parts}
use Rattle.psb_bytes.specs.declared.ids.Object.{Object}
use Rattle.psb_model.specs.declared.entries.DebtEntry.{DebtEntry}
use Rattle.psb_model.specs.declared.entries.OutState.{OutState}
use Rattle.psb_model.specs.Words.{In, listed, object_eq, object_cmp, has, has_so, occurs, with_one, with_all, without}
use Rattle.psb_model.specs.State.{debt_key}
use Rattle.psb_model.specs.Move.{use_up}
use Rattle.psb_model.proofs.ByObject.{by_cases, object_eq-same, object_eq-refl}
use Rattle.psb_model.proofs.Standing.{in_occurs, in_filter}
use Rattle.psb_model.proofs.Steps.{in_passes, not_true}

-- an entry of the list stands at the object in this state
pub record At {E S : Type 0} (key : E → Object) (st : E → S) (l : List E) (o : Object) (x : S) : Type 0 where
  pub entry : E
  pub stands : In entry l
  pub here : key entry ≡ o
  pub state : st entry ≡ x

-- ---- one of a list

pub not_false : (b : Bool) → b ≡ false → not b ≡ true
not_false true h = sym h
not_false false h = refl

pub in_left : {E : Type 0} (q : E → Bool) (e : E) (l : List E) → In e l → q e ≡ true → In e (filter q l)
in_left q e [] h k = h
in_left q e (x ∷ xs) (inl same) k = let here : q x ≡ true = sym (ap q same) ∙ k in rw here (inl same)
in_left q e (x ∷ xs) (inr there) k = by_cases (q x) (λ j. rw j (inr (in_left q e xs there k))) (λ j. rw j (in_left q e xs there k))

-- an entry through a function
pub record IsImage {E F : Type 0} (g : E → F) (l : List E) (y : F) : Type 0 where
  pub entry : E
  pub stands : In entry l
  pub same : y ≡ g entry

pub in_map : {E F : Type 0} (g : E → F) (e : E) (l : List E) → In e l → In (g e) (map g l)
in_map g e [] h = h
in_map g e (x ∷ xs) (inl same) = inl (ap g same)
in_map g e (x ∷ xs) (inr there) = inr (in_map g e xs there)

pub in_map_from : {E F : Type 0} (g : E → F) (y : F) (l : List E) → In y (map g l) → IsImage g l y
in_map_from g y [] h = elim h [ ]
in_map_from g y (x ∷ xs) (inl same) = record { entry = x; stands = inl refl; same = same }
in_map_from g y (x ∷ xs) (inr there) = let k = in_map_from g y xs there in record { entry = k.entry; stands = inr k.stands; same = k.same }

in_with_one : {E : Type 0} (key : E → Object) (n e : E) (l : List E) → In e (with_one key n l) → (e ≡ n) ⊎ In e l
in_with_one key n e [] (inl same) = inl same
in_with_one key n e [] (inr there) = inr there
in_with_one key n e (x ∷ xs) h = by_cases (is_lt (object_cmp (key n) (key x)))
    (λ k. let h' : In e (n ∷ x ∷ xs) = rw k at h in h')
    (λ k. let h' : In e (x ∷ with_one key n xs) = rw k at h in later h' (in_with_one key n e xs))
  where
    later : In e (x ∷ with_one key n xs) → (In e (with_one key n xs) → (e ≡ n) ⊎ In e xs) → (e ≡ n) ⊎ In e (x ∷ xs)
    later (inl same) f = inr (inl same)
    later (inr there) f = ⊎_elim (λ (a : e ≡ n). inl a) (λ (b : In e xs). inr (inr b)) (f there)

in_more_one : {E : Type 0} (key : E → Object) (n e : E) (l : List E) → In e l → In e (with_one key n l)
in_more_one key n e [] h = elim h [ ]
in_more_one key n e (x ∷ xs) h = by_cases (is_lt (object_cmp (key n) (key x)))
    (λ k. rw k (inr h))
    (λ k. rw k (later h (in_more_one key n e xs)))
  where
    later : In e (x ∷ xs) → (In e xs → In e (with_one key n xs)) → In e (x ∷ with_one key n xs)
    later (inl same) f = inl same
    later (inr there) f = inr (f there)

pub in_with_all : {E : Type 0} (key : E → Object) (new : List E) (e : E) (l : List E) → In e (with_all key new l) → In e new ⊎ In e l
in_with_all key [] e l h = inr h
in_with_all key (n ∷ ns) e l h =
    ⊎_elim
    (λ (a : In e ns). inl (inr a))
    (λ (b : In e (with_one key n l)). ⊎_elim (λ (s : e ≡ n). inl (inl s)) (λ (c : In e l). inr c) (in_with_one key n e l b))
    (in_with_all key ns e (with_one key n l) h)

pub in_more : {E : Type 0} (key : E → Object) (new : List E) (e : E) (l : List E) → In e l → In e (with_all key new l)
in_more key [] e l h = h
in_more key (n ∷ ns) e l h = in_more key ns e (with_one key n l) (in_more_one key n e l h)

pub in_append : {E : Type 0} (e : E) (xs ys : List E) → In e (xs ++ ys) → In e xs ⊎ In e ys
in_append e [] ys h = inr h
in_append e (x ∷ xs) ys (inl same) = inl (inl same)
in_append e (x ∷ xs) ys (inr there) = ⊎_elim (λ (a : In e xs). inl (inr a)) (λ (b : In e ys). inr b) (in_append e xs ys there)

-- two of a list that has the object once are one
pub one_of : {E : Type 0} (key : E → Object) (a b : E) (l : List E) → occurs key l (key a) ≤ 1 → In a l → In b l → key b ≡ key a → a ≡ b
one_of key a b [] once h k same = elim h [ ]
one_of key a b (x ∷ xs) once (inl h) (inl k) same = h ∙ sym k
one_of key a b (x ∷ xs) once (inl h) (inr k) same =
    let j : object_eq (key x) (key a) ≡ true = ap (λ y. object_eq (key y) (key a)) (sym h) ∙ object_eq-refl (key a) in
    let once' = rw j at once in
    let more : 1 ≤ occurs key xs (key a) = subst (λ o. 1 ≤ occurs key xs o) same (in_occurs key b xs k) in
    absurd (omega (arith, once', more))
one_of key a b (x ∷ xs) once (inr h) (inl k) same =
    let j : object_eq (key x) (key a) ≡ true = ap (λ y. object_eq (key y) (key a)) (sym k) ∙ ap (λ o. object_eq o (key a)) same ∙ object_eq-refl (key a) in
    let once' = rw j at once in
    absurd (omega (arith, once', in_occurs key a xs h))
one_of key a b (x ∷ xs) once (inr h) (inr k) same = one_of key a b xs (fewer (object_eq (key x) (key a)) (occurs key xs (key a)) once) h k same
  where
    fewer : (t : Bool) (n : ℕ) → cond t 1 0 + n ≤ 1 → n ≤ 1
    fewer true n le = omega (arith, le)
    fewer false n le = omega (arith, le)

-- ---- what stands where entries go and come

pub at_left : {E S : Type 0} (key : E → Object) (st : E → S) (objects : List Object) (l : List E) (o : Object) (x : S) → At key st (without key objects l) o x → At key st l o x × (listed objects o ≡ false)
at_left key st objects l o x h = (
  record { entry = h.entry; stands = in_filter (λ e. not (listed objects (key e))) h.entry l h.stands; here = h.here; state = h.state },
  ap (listed objects) (sym h.here) ∙ not_true (listed objects (key h.entry)) (in_passes (λ e. not (listed objects (key e))) h.entry l h.stands),
)

pub at_stays : {E S : Type 0} (key : E → Object) (st : E → S) (objects : List Object) (l : List E) (o : Object) (x : S) → At key st l o x → listed objects o ≡ false → At key st (without key objects l) o x
at_stays key st objects l o x h k = record {
  entry = h.entry;
  stands = in_left (λ e. not (listed objects (key e))) h.entry l h.stands (not_false (listed objects (key h.entry)) (ap (listed objects) h.here ∙ k));
  here = h.here;
  state = h.state;
}

pub at_with : {E S : Type 0} (key : E → Object) (st : E → S) (new l : List E) (o : Object) (x : S) → At key st (with_all key new l) o x → At key st new o x ⊎ At key st l o x
at_with {E = E} key st new l o x h =
    ⊎_elim
    (λ (a : In h.entry new). inl (record { entry = h.entry; stands = a; here = h.here; state = h.state }))
    (λ (b : In h.entry l). inr (record { entry = h.entry; stands = b; here = h.here; state = h.state }))
    (in_with_all key new h.entry l h.stands)

pub at_more : {E S : Type 0} (key : E → Object) (st : E → S) (new l : List E) (o : Object) (x : S) → At key st l o x → At key st (with_all key new l) o x
at_more key st new l o x h = record { entry = h.entry; stands = in_more key new h.entry l h.stands; here = h.here; state = h.state }

pub at_append : {E S : Type 0} (key : E → Object) (st : E → S) (xs ys : List E) (o : Object) (x : S) → At key st (xs ++ ys) o x → At key st xs o x ⊎ At key st ys o x
at_append key st xs ys o x h =
    ⊎_elim
    (λ (a : In h.entry xs). inl (record { entry = h.entry; stands = a; here = h.here; state = h.state }))
    (λ (b : In h.entry ys). inr (record { entry = h.entry; stands = b; here = h.here; state = h.state }))
    (in_append h.entry xs ys h.stands)

pub at_filter : {E S : Type 0} (key : E → Object) (st : E → S) (q : E → Bool) (l : List E) (o : Object) (x : S) → At key st (filter q l) o x → At key st l o x
at_filter key st q l o x h = record { entry = h.entry; stands = in_filter q h.entry l h.stands; here = h.here; state = h.state }

-- what is in one state is in no other
pub at_once : {E S : Type 0} (key : E → Object) (st : E → S) (l : List E) (o : Object) (x y : S) → occurs key l o ≤ 1 → At key st l o x → At key st l o y → x ≡ y
at_once key st l o x y once a b =
    sym a.state ∙ ap st (one_of key a.entry b.entry l (subst (λ k. occurs key l k ≤ 1) (sym a.here) once) a.stands b.stands (b.here ∙ sym a.here)) ∙ b.state

pub at_occurs : {E S : Type 0} (key : E → Object) (st : E → S) (l : List E) (o : Object) (x : S) → At key st l o x → 1 ≤ occurs key l o
at_occurs key st l o x h = subst (λ k. 1 ≤ occurs key l k) h.here (in_occurs key h.entry l h.stands)

pub at_has : {E S : Type 0} (key : E → Object) (st : E → S) (l : List E) (o : Object) (x : S) → At key st l o x → has key l o ≡ true
at_has {E = E} key st l o x h = subst (λ k. has key l k ≡ true) h.here (in_has h.entry l h.stands)
  where
    in_has : (e : E) (l : List E) → In e l → has key l (key e) ≡ true
    in_has e [] k = elim k [ ]
    in_has e (y ∷ ys) (inl same) = rw (ap (λ z. object_eq (key z) (key e)) (sym same) ∙ object_eq-refl (key e)) refl
    in_has e (y ∷ ys) (inr there) = by_cases (object_eq (key y) (key e)) (λ k. rw k refl) (λ k. rw k (in_has e ys there))

-- an entry at the object passes the test
pub record AtSo {E : Type 0} (key : E → Object) (test : E → Bool) (l : List E) (o : Object) : Type 0 where
  pub entry : E
  pub stands : In entry l
  pub here : key entry ≡ o
  pub passes : test entry ≡ true

pub at_so : {E : Type 0} (key : E → Object) (test : E → Bool) (l : List E) (o : Object) → has_so key test l o ≡ true → AtSo key test l o
at_so key test [] o h = absurd (false≢true h)
at_so key test (x ∷ xs) o h =
    by_cases (object_eq (key x) o && test x)
    (λ k. let two = and_parts (object_eq (key x) o) (test x) k in record { entry = x; stands = inl refl; here = object_eq-same (key x) o two.0; passes = two.1 })
    (λ k. let h' : has_so key test xs o ≡ true = rw k at h in let y = at_so key test xs o h' in record { entry = y.entry; stands = inr y.stands; here = y.here; passes = y.passes })

-- ---- what stands where those at one object get another state

-- what was there in some state
pub record Was {E S : Type 0} (key : E → Object) (st : E → S) (l : List E) (o : Object) : Type 0 where
  pub before : S
  pub stood : At key st l o before

-- it is as it was, or got the state
pub data Labelled {E S : Type 0} (key : E → Object) (st : E → S) (l : List E) (k : Object) (s : S) (o : Object) (x : S) : Type 0 where
  kept : object_eq o k ≡ false → At key st l o x → Labelled key st l k s o x
  got : object_eq o k ≡ true → x ≡ s → Was key st l o → Labelled key st l k s o x

-- the entries at the object k changed by a function
abbrev pub label : {E : Type 0} → (E → Object) → Object → (E → E) → List E → List E
label key k set l = map (λ e. cond (object_eq (key e) k) (set e) e) l

pub label_from : {E S : Type 0} (key : E → Object) (st : E → S) (k : Object) (set : E → E) (s : S) → ((e : E) → key (set e) ≡ key e) → ((e : E) → st (set e) ≡ s) → (l : List E) (o : Object) (x : S) → At key st (label key k set l) o x → Labelled key st l k s o x
label_from {E = E} key st k set s same_key same_st l o x h =
    let y = in_map_from (λ e. cond (object_eq (key e) k) (set e) e) h.entry l h.stands in
    by_cases (object_eq (key y.entry) k)
    (λ j. let is : h.entry ≡ set y.entry = rw j at y.same in
    let at_o : key y.entry ≡ o = sym (same_key y.entry) ∙ sym (ap key is) ∙ h.here in
    got (ap (λ z. object_eq z k) (sym at_o) ∙ j) (sym h.state ∙ ap st is ∙ same_st y.entry) (record { before = st y.entry; stood = record { entry = y.entry; stands = y.stands; here = at_o; state = refl } }))
    (λ j. let is : h.entry ≡ y.entry = rw j at y.same in
    let at_o : key y.entry ≡ o = sym (ap key is) ∙ h.here in
    kept (ap (λ z. object_eq z k) (sym at_o) ∙ j) (record { entry = y.entry; stands = y.stands; here = at_o; state = sym (ap st is) ∙ h.state }))

pub label_other : {E S : Type 0} (key : E → Object) (st : E → S) (k : Object) (set : E → E) (l : List E) (o : Object) (x : S) → At key st l o x → object_eq o k ≡ false → At key st (label key k set l) o x
label_other key st k set l o x h j =
    let g = in_map (λ e. cond (object_eq (key e) k) (set e) e) h.entry l h.stands in
    let j' : object_eq (key h.entry) k ≡ false = ap (λ z. object_eq z k) h.here ∙ j in
    let g' : In h.entry (label key k set l) = rw j' at g in
    record { entry = h.entry; stands = g'; here = h.here; state = h.state }

pub label_here : {E S : Type 0} (key : E → Object) (st : E → S) (k : Object) (set : E → E) (s : S) → ((e : E) → key (set e) ≡ key e) → ((e : E) → st (set e) ≡ s) → (l : List E) (o : Object) (x : S) → At key st l o x → object_eq o k ≡ true → At key st (label key k set l) o s
label_here key st k set s same_key same_st l o x h j =
    let g = in_map (λ e. cond (object_eq (key e) k) (set e) e) h.entry l h.stands in
    let j' : object_eq (key h.entry) k ≡ true = ap (λ z. object_eq z k) h.here ∙ j in
    let g' : In (set h.entry) (label key k set l) = rw j' at g in
    record { entry = set h.entry; stands = g'; here = same_key h.entry ∙ h.here; state = same_st h.entry }

-- ---- rows of debt that were used up

-- it stood in the list, at the same object and in the same state
record IsLess (l : List DebtEntry) (d : DebtEntry) : Type 0 where
  entry : DebtEntry
  stands : In entry l
  here : d.object ≡ entry.object
  state : d.state ≡ entry.state

in_used : (n : ℕ) (l : List DebtEntry) (d : DebtEntry) → In d (use_up n l) → IsLess l d
in_used zero l d h = record { entry = d; stands = h; here = refl; state = refl }
in_used (suc n) [] d h = elim h [ ]
in_used (suc n) (x ∷ xs) d h =
    by_cases (nat_le x.left (suc n))
    (λ k. let h' : In d (use_up (suc n - x.left) xs) = rw k at h in more (in_used (suc n - x.left) xs d h'))
    (λ k. let h' : In d (record x { left = x.left - suc n } ∷ xs) = rw k at h in first h')
  where
    more : IsLess xs d → IsLess (x ∷ xs) d
    more y = record { entry = y.entry; stands = inr y.stands; here = y.here; state = y.state }

    first : In d (record x { left = x.left - suc n } ∷ xs) → IsLess (x ∷ xs) d
    first (inl same) = record { entry = x; stands = inl refl; here = ap debt_key same; state = ap (λ (y : DebtEntry). y.state) same }
    first (inr there) = record { entry = d; stands = inr there; here = refl; state = refl }

pub at_used : (n : ℕ) (l : List DebtEntry) (o : Object) (x : OutState) → At debt_key (λ (d : DebtEntry). d.state) (use_up n l) o x → At debt_key (λ (d : DebtEntry). d.state) l o x
at_used n l o x h = let y = in_used n l h.entry h.stands in record { entry = y.entry; stands = y.stands; here = sym y.here ∙ h.here; state = sym y.state ∙ h.state }
