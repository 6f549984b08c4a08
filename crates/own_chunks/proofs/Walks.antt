-- The walk over the own chunks in their order, by the first and the next behind a name.
use Rattle.std.proofs.Common.{◌≡◌, ℕ, suc, ◌<◌, true, false, cond, List, [], ◌∷◌, ◌++◌, length, Option, Some, None, refl, sym, ◌∙◌, ap, subst, arith, append_assoc}
use Rattle.std.specs.List.{list_all}
use Rattle.std.specs.Ordering.{is_lt, nat_cmp}
use Rattle.std.specs.Cmp.Lexicographic.{slice_cmp}
use Rattle.std.proofs.lemmas.Bool.{false≢true, and_parts}
use Rattle.psb_model.specs.declared.entries.OwnEntry.{OwnEntry}
use Rattle.psb_model.specs.Words.{name_eq}
use Rattle.psb_model.proofs.ByObject.{by_cases}
use Rattle.psb_model.proofs.Own.{name_same, name_refl}
use Rattle.psb_bytes.specs.declared.ids.Object.TheVariants.{Chunk}
use Rattle.psb_model.proofs.ObjectOrder.{comes_first}
use Rattle.peer_lists.specs.Entries.{in_order}
use Rattle.own_chunks.specs.OwnList.{own_key, next_own}

-- ---- in what order own chunks stand

never_below : (a : List ℕ) → is_lt (slice_cmp nat_cmp a a) ≡ false
never_below a = by_cases (is_lt (slice_cmp nat_cmp a a)) (λ k. comes_first (Chunk a) (Chunk a) k) (λ k. k)

one_below : (a b : List ℕ) → is_lt (slice_cmp nat_cmp a b) ≡ true → is_lt (slice_cmp nat_cmp b a) ≡ false
one_below a b h = comes_first (Chunk a) (Chunk b) h

below_other : (a b : List ℕ) → is_lt (slice_cmp nat_cmp a b) ≡ true → name_eq a b ≡ false
below_other a b h = by_cases (name_eq a b)
    (λ k. absurd (false≢true (sym (never_below a) ∙ ap (λ (x : List ℕ). is_lt (slice_cmp nat_cmp a x)) (name_same a b k) ∙ h)))
    (λ k. k)

at_place : (d : OwnEntry) (xs : List OwnEntry) (e : OwnEntry) (rest : List OwnEntry) → list_all (λ (y : OwnEntry). is_lt (slice_cmp nat_cmp d.name y.name)) (xs ++ e ∷ rest) ≡ true → is_lt (slice_cmp nat_cmp d.name e.name) ≡ true
at_place d [] e rest k = (and_parts (is_lt (slice_cmp nat_cmp d.name e.name)) (list_all (λ (y : OwnEntry). is_lt (slice_cmp nat_cmp d.name y.name)) rest) k).0
at_place d (x ∷ xs) e rest k = at_place d xs e rest (and_parts (is_lt (slice_cmp nat_cmp d.name x.name)) (list_all (λ (y : OwnEntry). is_lt (slice_cmp nat_cmp d.name y.name)) (xs ++ e ∷ rest)) k).1

-- the first behind the last of these is the first of the rest
pub first_behind : (done : List OwnEntry) (e : OwnEntry) (rest : List OwnEntry) → in_order own_key (done ++ e ∷ rest) ≡ true → next_own (Some e.name) (done ++ e ∷ rest) ≡ next_own None rest
first_behind [] e [] h = rw (never_below e.name) refl
first_behind [] e (x ∷ xs) h =
    let a = and_parts (list_all (λ (y : OwnEntry). is_lt (slice_cmp nat_cmp e.name y.name)) (x ∷ xs)) (in_order own_key (x ∷ xs)) h in
    let b = and_parts (is_lt (slice_cmp nat_cmp e.name x.name)) (list_all (λ (y : OwnEntry). is_lt (slice_cmp nat_cmp e.name y.name)) xs) a.0 in
    rw (never_below e.name, b.0) refl
first_behind (d ∷ ds) e rest h =
    let a = and_parts (list_all (λ (y : OwnEntry). is_lt (slice_cmp nat_cmp d.name y.name)) (ds ++ e ∷ rest)) (in_order own_key (ds ++ e ∷ rest)) h in
    rw (one_below d.name e.name (at_place d ds e rest a.0)) (first_behind ds e rest a.1)

-- ---- where a walk is

-- how many chunks there are from the next one on
abbrev pub own_left : Option OwnEntry → List OwnEntry → ℕ
own_left None own = 0
own_left (Some e) [] = 0
own_left (Some e) (x ∷ xs) = cond (name_eq x.name e.name) (suc (length xs)) (own_left (Some e) xs)

pub first_none : (rest : List OwnEntry) → None ≡ next_own None rest → rest ≡ []
first_none [] is = refl
first_none (x ∷ xs) is = absurd (cc)

pub first_some : (rest : List OwnEntry) (e : OwnEntry) → Some e ≡ next_own None rest → (more : List OwnEntry) × (rest ≡ e ∷ more)
first_some [] e is = absurd (cc)
first_some (x ∷ xs) e is = let same : e ≡ x = cc (is) in (xs, ap (λ (y : OwnEntry). y ∷ xs) (sym same))

left_at : (done : List OwnEntry) (e : OwnEntry) (rest : List OwnEntry) → in_order own_key (done ++ e ∷ rest) ≡ true → own_left (Some e) (done ++ e ∷ rest) ≡ suc (length rest)
left_at [] e rest h = rw (name_refl e.name) refl
left_at (d ∷ ds) e rest h =
    let a = and_parts (list_all (λ (y : OwnEntry). is_lt (slice_cmp nat_cmp d.name y.name)) (ds ++ e ∷ rest)) (in_order own_key (ds ++ e ∷ rest)) h in
    rw (below_other d.name e.name (at_place d ds e rest a.0)) (left_at ds e rest a.1)

-- and fewer are left behind the next one
pub left_falls : (own : List OwnEntry) (e : OwnEntry) (next : Option OwnEntry) (done rest : List OwnEntry) → in_order own_key own ≡ true → own ≡ done ++ e ∷ rest → next ≡ next_own (Some e.name) own → own_left next own < own_left (Some e) own
left_falls own e next done rest ordered parted is =
    let in_place : in_order own_key (done ++ e ∷ rest) ≡ true = subst (λ (l : List OwnEntry). in_order own_key l ≡ true) parted ordered in
    let here : own_left (Some e) own ≡ suc (length rest) = ap (own_left (Some e)) parted ∙ left_at done e rest in_place in
    let next_is : next ≡ next_own None rest = is ∙ ap (next_own (Some e.name)) parted ∙ first_behind done e rest in_place in
    by_rest rest parted here next_is
  where
    by_rest : (rest : List OwnEntry) → own ≡ done ++ e ∷ rest → own_left (Some e) own ≡ suc (length rest) → next ≡ next_own None rest → own_left next own < own_left (Some e) own
    by_rest [] parted here n = omega (arith, here, ap (λ (o : Option OwnEntry). own_left o own) n)
    by_rest (x ∷ xs) parted here n =
        let again : own ≡ (done ++ e ∷ []) ++ x ∷ xs = parted ∙ sym (append_assoc done (e ∷ []) (x ∷ xs)) in
        let there : own_left (Some x) own ≡ suc (length xs) = ap (own_left (Some x)) again ∙ left_at (done ++ e ∷ []) x xs (subst (λ (l : List OwnEntry). in_order own_key l ≡ true) again ordered) in
        omega (arith, here, there, ap (λ (o : Option OwnEntry). own_left o own) n)
