-- What is proposed may be proposed: its condition holds, its slots ascend, and its fields fit.
use Rattle.std.proofs.Common.{◌≡◌, ℕ, ◌+◌, ◌≤◌, ◌^◌, Bool, true, false, not, ◌&&◌, List, [], ◌∷◌, ◌++◌, length, take, Option, Some, None, refl, sym, ap, ◌∙◌, subst, inl, inr, arith}
use Rattle.std.specs.Prelude.{zero, suc, ◌==◌, nat_le, nat_lt, is_none, find, if◌then◌else◌}
use Rattle.std.specs.List.{list_any, list_all}
use Rattle.std.specs.Option.{option_map, option_or}
use Rattle.std.proofs.lemmas.Bool.{and_parts, or_parts, false≢true, leb-true, lt-ltb, eq-eqb}
use Rattle.std.proofs.lemmas.List.{length-take-le}
use Rattle.psb_bytes.specs.declared.ids.Object.{Object}
use Rattle.psb_bytes.specs.declared.ids.Object.TheVariants.{Chunk, Slot}
use Rattle.psb_model.specs.declared.entries.InEntry.{InEntry}
use Rattle.psb_model.specs.declared.entries.OutEntry.{OutEntry}
use Rattle.psb_model.specs.declared.entries.OwnEntry.{OwnEntry}
use Rattle.psb_model.specs.declared.deals.DealWhat.{DealWhat}
use Rattle.psb_model.specs.declared.deals.DealWhat.TheVariants.{Fresh, Swap, Cancel, PutBack}
use Rattle.psb_model.specs.declared.change.Change.TheVariants.{Proposed}
use Rattle.psb_model.specs.Words.{units, units_at, all_of, slots, listed, name_listed, name_eq, object_eq, has, has_so, occurs, In}
use Rattle.psb_model.specs.State.{State, row, is_peer, in_key, out_key, out_size, debt_key, own_has, own_len, own_marked, is_wanted, is_barred, out_ties, tied_in, tied_out, used}
use Rattle.psb_model.specs.Grammar.{ascend, numbers_listed, what_in_grammar, is_u32, is_digest, object_fits, what_fits}
use Rattle.psb_model.specs.Conditions.{capacity, most_claims, is_own, is_direct_or_home, each_slot, place_tests, propose_tests, allowed}
use Rattle.psb_model.specs.Proposing.{ProposeFacts, is_free, as_many, slot_number, slots_to_give, may_release, cancel, put_back, release_of, release, slots_to_fill, is_missing, swap, fresh, place_of, first_place, place, proposal}
use Rattle.psb_model.proofs.ByObject.{by_cases, object_eq-refl, object_eq-swap, has-occurs}
use Rattle.psb_model.proofs.Steps.{not_true}
use Rattle.psb_model.proofs.Standing.{occurs_none}
use Rattle.model_laws.proofs.RowOrder.{IsSortedRow, numbers_that, numbers_ascend, ascend_take}
use Rattle.psb_model.proofs.Own.{name_refl, name_same}
use Rattle.psb_model.proofs.Steady.{IsSteady, names_apart}
use Rattle.model_laws.proofs.Widths.{AreWide, in_fits, out_fits, name_fits}
use Rattle.model_laws.proofs.Fitting.{IsFit, is_small, is_fit_len, few_units}

-- ---- members of lists

pub in_has_so : {E : Type 0} (key : E → Object) (t : E → Bool) (e : E) (l : List E) → In e l → t e ≡ true → has_so key t l (key e) ≡ true
in_has_so key t e [] h k = absurd h
in_has_so key t e (x ∷ xs) (inl same) k = subst (λ y. has_so key t (y ∷ xs) (key e) ≡ true) same (rw (object_eq-refl (key e), k) refl)
in_has_so key t e (x ∷ xs) (inr there) k = by_cases (object_eq (key x) (key e) && t x) (λ b. rw b refl) (λ b. rw b (in_has_so key t e xs there k))

pub in_has : {E : Type 0} (key : E → Object) (e : E) (l : List E) → In e l → has key l (key e) ≡ true
in_has key e [] h = absurd h
in_has key e (x ∷ xs) (inl same) = subst (λ y. has key (y ∷ xs) (key e) ≡ true) same (rw (object_eq-refl (key e)) refl)
in_has key e (x ∷ xs) (inr there) = by_cases (object_eq (key x) (key e)) (λ b. rw b refl) (λ b. rw b (in_has key e xs there))

units_in : {E : Type 0} (key : E → Object) (size : E → ℕ) (e : E) (l : List E) → In e l → occurs key l (key e) ≤ 1 → units_at key size l (key e) ≡ size e
units_in key size e [] h once = absurd h
units_in key size e (x ∷ xs) (inl same) once =
    subst (λ y. occurs key (y ∷ xs) (key e) ≤ 1 → units_at key size (y ∷ xs) (key e) ≡ size e) same
    (λ one. let one' = rw (object_eq-refl (key e)) at one in rw (object_eq-refl (key e)) (omega (arith, occurs_none key size xs (key e) (omega (arith, one')))))
    once
units_in key size e (x ∷ xs) (inr there) once =
    let more = has-occurs key xs (key e) (in_has key e xs there) in
    by_cases (object_eq (key x) (key e))
    (λ b. let once' = rw b at once in absurd (omega (arith, once', more)))
    (λ b. let once' = rw b at once in rw b (omega (arith, units_in key size e xs there (omega (arith, once')))))

all_in : {E : Type 0} (t : E → Bool) (e : E) (l : List E) → In e l → list_all t l ≡ true → t e ≡ true
all_in t e [] h k = absurd h
all_in t e (x ∷ xs) (inl same) k = subst (λ y. t y ≡ true) (sym same) (and_parts (t x) (list_all t xs) k).0
all_in t e (x ∷ xs) (inr there) k = all_in t e xs there (and_parts (t x) (list_all t xs) k).1

-- what a search finds is in the list, and passes
found : {E P : Type 0} (q : E → Bool) (l : List E) (e : E) → find q l ≡ Some e → (In e l → q e ≡ true → P) → P
found q [] e h go = absurd (cc (h))
found q (x ∷ xs) e h go =
    by_cases (q x)
    (λ k. let h' : Some x ≡ Some e = rw k at h in let same : e ≡ x = cc (h') in go (inl same) (ap q same ∙ k))
    (λ k. let h' : find q xs ≡ Some e = rw k at h in found q xs e h' (λ there passes. go (inr there) passes))

-- the length of an own chunk is what its entry says
has_own : (e : OwnEntry) (l : List OwnEntry) → In e l → own_has l e.name ≡ true
has_own e [] h = absurd h
has_own e (x ∷ xs) (inl same) = subst (λ (y : OwnEntry). own_has (y ∷ xs) e.name ≡ true) same (rw (name_refl e.name) refl)
has_own e (x ∷ xs) (inr there) = by_cases (name_eq x.name e.name) (λ b. rw b refl) (λ b. rw b (has_own e xs there))

len_in : (e : OwnEntry) (l : List OwnEntry) → In e l → names_apart l ≡ true → own_len l e.name ≡ e.len
len_in e [] h a = absurd h
len_in e (x ∷ xs) (inl same) a = subst (λ (y : OwnEntry). own_len (y ∷ xs) e.name ≡ e.len) same (rw (name_refl e.name) refl)
len_in e (x ∷ xs) (inr there) a =
    let parts = and_parts (not (own_has xs x.name)) (names_apart xs) a in
    by_cases (name_eq x.name e.name)
    (λ b. let here : own_has xs x.name ≡ true = ap (own_has xs) (name_same x.name e.name b) ∙ has_own e xs there in let wrong = rw here at parts.0 in absurd (false≢true wrong))
    (λ b. rw b (len_in e xs there parts.1))

-- ---- numbers of slots

all_numbers : {E : Type 0} (key : E → Object) (test : E → Bool) (q : Object → Bool) (l : List E) → ((e : E) → In e l → test e ≡ true → q (key e) ≡ true) → each_slot q (numbers_that key test l) ≡ true
all_numbers key test q [] h = refl
all_numbers {E = E} key test q (e ∷ es) h = by_object (key e) (h e (inl refl)) (all_numbers key test q es (λ x there. h x (inr there)))
  where
    by_object : (o : Object) → (test e ≡ true → q o ≡ true) → each_slot q (numbers_that key test es) ≡ true → each_slot q ((if test e then slot_number o else []) ++ numbers_that key test es) ≡ true
    by_object (Chunk c) one rest = by_cases (test e) (λ k. rw k rest) (λ k. rw k rest)
    by_object (Slot n) one rest = by_cases (test e) (λ k. rw k (rw (one k) rest)) (λ k. rw k rest)

each_take : (q : Object → Bool) (u : ℕ) (ns : List ℕ) → each_slot q ns ≡ true → each_slot q (take u ns) ≡ true
each_take q zero ns h = refl
each_take q (suc u) [] h = refl
each_take q (suc u) (n ∷ ns) h = let a = and_parts (q (Slot n)) (each_slot q ns) h in rw a.0 (each_take q u ns a.1)

-- as many as are asked for: their number, their order, and what holds of each
record AreFirst (u : ℕ) (ms : List ℕ) : Type 0 where
  pub count : length ms ≡ u
  pub ordered : ascend ms ≡ true

first_of : (u : ℕ) (ns ms : List ℕ) → as_many u ns ≡ Some ms → ascend ns ≡ true → AreFirst u ms
first_of u ns ms is ordered =
    by_cases (nat_le u (length ns))
    (λ k. let is' : Some (take u ns) ≡ Some ms = rw k at is in let same : take u ns ≡ ms = cc (is') in
    record { count = ap length (sym same) ∙ length-take-le u ns (leb-true u (length ns) k); ordered = ap ascend (sym same) ∙ ascend_take u ns ordered })
    (λ k. let is' : None ≡ Some ms = rw k at is in absurd (cc (is')))

each_of : (q : Object → Bool) (u : ℕ) (ns ms : List ℕ) → as_many u ns ≡ Some ms → each_slot q ns ≡ true → each_slot q ms ≡ true
each_of q u ns ms is h =
    by_cases (nat_le u (length ns))
    (λ k. let is' : Some (take u ns) ≡ Some ms = rw k at is in let same : take u ns ≡ ms = cc (is') in ap (each_slot q) (sym same) ∙ each_take q u ns h)
    (λ k. let is' : None ≡ Some ms = rw k at is in absurd (cc (is')))

-- ---- what was found

option_cases : {A P : Type 0} (o p : Option A) (x : A) → option_or o p ≡ Some x → (o ≡ Some x → P) → (p ≡ Some x → P) → P
option_cases None p x h first second = second h
option_cases (Some y) p x h first second = first h

mapped : {A B P : Type 0} (f : A → B) (o : Option A) (y : B) → option_map f o ≡ Some y → ((x : A) → o ≡ Some x → f x ≡ y → P) → P
mapped f None y h go = absurd (cc (h))
mapped f (Some x) y h go = go x refl (cc (h))

tested : {A P : Type 0} (b : Bool) (x y : A) → (if b then Some x else None) ≡ Some y → (b ≡ true → x ≡ y → P) → P
tested true x y h go = go refl (cc (h))
tested false x y h go = absurd (cc (h))

place_cases : {P : Type 0} (s : State) (p : ℕ) (probed : List Object) (most : ℕ) (e : OwnEntry) (what : DealWhat) → place_of s p probed most e ≡ Some what
    → (is_missing s p e.name ≡ true → (ms : List ℕ) → as_many (units e.len) (slots_to_fill s p probed) ≡ Some ms → Swap e.name ms ≡ what → P)
    → (is_missing s p e.name ≡ true → nat_le (used s + units e.len) most ≡ true → Fresh e.name ≡ what → P) → P
place_cases s p probed most e what h swapped stored =
    by_cases (is_missing s p e.name)
    (λ k. let h' : option_or (swap s p probed e.name (units e.len)) (fresh s most e.name (units e.len)) ≡ Some what = rw k at h in
    option_cases (swap s p probed e.name (units e.len)) (fresh s most e.name (units e.len)) what h'
    (λ is. mapped (Swap e.name) (as_many (units e.len) (slots_to_fill s p probed)) what is (λ ms many same. swapped k ms many same))
    (λ is. tested (nat_le (used s + units e.len) most) (Fresh e.name) what is (λ fits same. stored k fits same)))
    (λ k. let h' : None ≡ Some what = rw k at h in absurd (cc (h')))

first_cases : {P : Type 0} (s : State) (p : ℕ) (probed : List Object) (most : ℕ) (l : List OwnEntry) (what : DealWhat) → first_place s p probed most l ≡ Some what → ((e : OwnEntry) → In e l → place_of s p probed most e ≡ Some what → P) → P
first_cases s p probed most [] what h go = absurd (cc (h))
first_cases s p probed most (e ∷ es) what h go =
    option_cases (place_of s p probed most e) (first_place s p probed most es) what h
    (λ is. go e (inl refl) is)
    (λ is. first_cases s p probed most es what is (λ x there k. go x (inr there) k))

release_cases : {P : Type 0} (s : State) (p : ℕ) (probed : List Object) (issued : ℕ) (what : DealWhat) → release s p probed issued ≡ Some what
    → ((e : OutEntry) (name : List ℕ) → In e (row s p).outs → e.object ≡ Chunk name → (own_marked s.own name && is_free s p probed (Chunk name)) ≡ true → (ms : List ℕ) → as_many e.units (slots_to_give s p) ≡ Some ms → Cancel name ms ≡ what → P)
    → ((e : OutEntry) (name : List ℕ) → In e (row s p).outs → e.object ≡ Chunk name → (own_marked s.own name && is_free s p probed (Chunk name)) ≡ true → nat_le (issued + e.units) most_claims ≡ true → PutBack name issued ≡ what → P) → P
release_cases {P} s p probed issued what h cancelled put = by_found (find (may_release s p probed) (row s p).outs) refl h
  where
    by_object : (e : OutEntry) (o : Object) → e.object ≡ o → In e (row s p).outs → elim o [ Chunk n ↦ own_marked s.own n && is_free s p probed (Chunk n) | Slot n ↦ false ] ≡ true → elim o [ Chunk name ↦ option_or (cancel s p name e.units) (put_back issued name e.units) | Slot n ↦ None ] ≡ Some what → P
    by_object e (Chunk name) is there passes h =
        option_cases (cancel s p name e.units) (put_back issued name e.units) what h
        (λ c. mapped (Cancel name) (if name_listed (row s p).turned_cancels name then None else as_many e.units (slots_to_give s p)) what c
        (λ ms many same. by_cases (name_listed (row s p).turned_cancels name)
        (λ k. let many' : None ≡ Some ms = rw k at many in absurd (cc (many')))
        (λ k. let many' : as_many e.units (slots_to_give s p) ≡ Some ms = rw k at many in cancelled e name there is passes ms many' same)))
        (λ b. tested (nat_le (issued + e.units) most_claims) (PutBack name issued) what b (λ fits same. put e name there is passes fits same))
    by_object e (Slot n) is there passes h = absurd (cc (h))

    by_found : (o : Option OutEntry) → find (may_release s p probed) (row s p).outs ≡ o → elim o [ None ↦ None | Some e ↦ release_of s p issued e ] ≡ Some what → P
    by_found None is h = absurd (cc (h))
    by_found (Some e) is h = found (may_release s p probed) (row s p).outs e is (λ there passes. by_object e e.object refl there passes h)

-- ---- what a proposal is

pub record MayBe (s : State) (p : ℕ) (what : DealWhat) : Type 0 where
  pub tests : all_of (propose_tests s p what) ≡ true
  pub listed : what_in_grammar what ≡ true
  pub fits : what_fits what ≡ true

listed_few : (u : ℕ) (ms : List ℕ) → AreFirst u ms → u ≤ 64 → numbers_listed ms ≡ true
listed_few u ms first few = rw (first.ordered, lt-ltb (length ms) (2 ^ 32) (omega (arith, first.count, few))) refl

placeable : (s : State) (p : ℕ) (name : List ℕ) → list_any (λ q. q == p) s.chosen ≡ true → is_missing s p name ≡ true → all_of (place_tests s p name) ≡ true
placeable s p name chosen missing =
    let b = not (has out_key (row s p).outs (Chunk name)) in
    let c = not (has debt_key (row s p).debts (Chunk name)) in
    let d = not (is_barred (row s p) name) in
    let all = and_parts (is_wanted s name) (b && c && d) missing in
    let two = and_parts (b && c) d all.1 in
    let one = and_parts b c two.0 in
    rw (chosen, all.0, one.0, one.1, two.1) refl

placed : (s : State) (p : ℕ) (probed : List Object) (what : DealWhat) → IsSteady s → IsFit s → AreWide s → IsSortedRow (row s p) → place s p probed (capacity s.settings) ≡ Some what → MayBe s p what
placed s p probed what plain fit wide sorted h =
    by_cases (list_any (λ q. q == p) s.chosen)
    (λ chosen. let h' : first_place s p probed (capacity s.settings) s.own ≡ Some what = rw chosen at h in
    first_cases s p probed (capacity s.settings) s.own what h' (λ e there is.
    let len : own_len s.own e.name ≡ e.len = len_in e s.own there plain.apart in
    let name : is_digest e.name ≡ true = all_in name_fits e s.own there wide.own in
    let few : units e.len ≤ 64 = few_units e.len (leb-true e.len 32768 (all_in is_fit_len e s.own there fit.own)) in
    place_cases s p probed (capacity s.settings) e what is
    (λ missing ms many same.
    let test : OutEntry → Bool = λ x. is_own x && is_free s p probed x.object in
    let tidy = (plain.good.rows p).tidy in
    let first = first_of (units e.len) (slots_to_fill s p probed) ms many (numbers_ascend out_key test (row s p).outs sorted.1 (λ n. let one = tidy.outs_once (Slot n) in omega (arith, one))) in
    let owned = each_of (has_so out_key is_own (row s p).outs) (units e.len) (slots_to_fill s p probed) ms many (all_numbers out_key test (has_so out_key is_own (row s p).outs) (row s p).outs (λ x at passes. in_has_so out_key is_own x (row s p).outs at (and_parts (is_own x) (is_free s p probed x.object) passes).0)) in
    let free = each_of (λ o. not (tied_out s p o)) (units e.len) (slots_to_fill s p probed) ms many (all_numbers out_key test (λ o. not (tied_out s p o)) (row s p).outs (λ x at passes. (and_parts (not (tied_out s p x.object)) (not (listed probed x.object)) (and_parts (is_own x) (is_free s p probed x.object) passes).1).0)) in
    let slots = each_of object_fits (units e.len) (slots_to_fill s p probed) ms many (all_numbers out_key test object_fits (row s p).outs (λ x at passes. all_in out_fits x (row s p).outs at (wide.rows p).outs)) in
    let long : (length ms == units (own_len s.own e.name)) ≡ true = ap (λ n. n == units (own_len s.own e.name)) (first.count ∙ ap units (sym len)) ∙ eq-eqb (units (own_len s.own e.name)) (units (own_len s.own e.name)) refl in
    subst (MayBe s p) same (record { tests = rw (placeable s p e.name chosen missing, long, owned, free) refl; listed = listed_few (units e.len) ms first few; fits = rw (name, slots) refl }))
    (λ missing fits same.
    let room : nat_le (used s + units (own_len s.own e.name)) (capacity s.settings) ≡ true = ap (λ n. nat_le (used s + units n) (capacity s.settings)) len ∙ fits in
    subst (MayBe s p) same (record { tests = rw (placeable s p e.name chosen missing, room) refl; listed = refl; fits = name }))))
    (λ other. let h' : None ≡ Some what = rw other at h in absurd (cc (h')))

released : (s : State) (p : ℕ) (probed : List Object) (what : DealWhat) → IsSteady s → IsFit s → AreWide s → IsSortedRow (row s p) → release s p probed s.issued ≡ Some what → MayBe s p what
released s p probed what plain fit wide sorted h =
    let tidy = (plain.good.rows p).tidy in
    let once : (e : OutEntry) (name : List ℕ) → In e (row s p).outs → e.object ≡ Chunk name → units_at out_key out_size (row s p).outs (Chunk name) ≡ e.units = λ e name there is.
    subst (λ o. units_at out_key out_size (row s p).outs o ≡ e.units) is (units_in out_key out_size e (row s p).outs there (let one = tidy.outs_once e.object in omega (arith, one))) in
    let here : (e : OutEntry) (name : List ℕ) → In e (row s p).outs → e.object ≡ Chunk name → has out_key (row s p).outs (Chunk name) ≡ true = λ e name there is. subst (λ o. has out_key (row s p).outs o ≡ true) is (in_has out_key e (row s p).outs there) in
    let digest : (e : OutEntry) (name : List ℕ) → In e (row s p).outs → e.object ≡ Chunk name → is_digest name ≡ true = λ e name there is. subst (λ o. object_fits o ≡ true) is (all_in out_fits e (row s p).outs there (wide.rows p).outs) in
    release_cases s p probed s.issued what h
    (λ e name there is passes ms many same.
    let mark = and_parts (own_marked s.own name) (is_free s p probed (Chunk name)) passes in
    let free = and_parts (not (tied_out s p (Chunk name))) (not (listed probed (Chunk name))) mark.1 in
    let test : InEntry → Bool = λ x. is_direct_or_home x && not (tied_in s p x.object) in
    let first = first_of e.units (slots_to_give s p) ms many (numbers_ascend in_key test (row s p).ins sorted.0 (λ n. tidy.ins_once (Slot n))) in
    let ready = each_of (has_so in_key is_direct_or_home (row s p).ins) e.units (slots_to_give s p) ms many (all_numbers in_key test (has_so in_key is_direct_or_home (row s p).ins) (row s p).ins (λ x at ok. in_has_so in_key is_direct_or_home x (row s p).ins at (and_parts (is_direct_or_home x) (not (tied_in s p x.object)) ok).0)) in
    let untied = each_of (λ o. not (tied_in s p o)) e.units (slots_to_give s p) ms many (all_numbers in_key test (λ o. not (tied_in s p o)) (row s p).ins (λ x at ok. (and_parts (is_direct_or_home x) (not (tied_in s p x.object)) ok).1)) in
    let slots = each_of object_fits e.units (slots_to_give s p) ms many (all_numbers in_key test object_fits (row s p).ins (λ x at ok. all_in in_fits x (row s p).ins at (wide.rows p).ins)) in
    let long : (length ms == units_at out_key out_size (row s p).outs (Chunk name)) ≡ true = eq-eqb (length ms) (units_at out_key out_size (row s p).outs (Chunk name)) (first.count ∙ sym (once e name there is)) in
    let few : e.units ≤ 64 = leb-true e.units 64 (all_in is_small e (row s p).outs there (fit.rows p).small) in
    subst (MayBe s p) same (record { tests = rw (here e name there is, mark.0, free.0, long, ready, untied) refl; listed = listed_few e.units ms first few; fits = rw (digest e name there is, slots) refl }))
    (λ e name there is passes fits same.
    let mark = and_parts (own_marked s.own name) (is_free s p probed (Chunk name)) passes in
    let free = and_parts (not (tied_out s p (Chunk name))) (not (listed probed (Chunk name))) mark.1 in
    let same_number : (s.issued == s.issued) ≡ true = eq-eqb s.issued s.issued refl in
    let number : is_u32 s.issued ≡ true = lt-ltb s.issued (2 ^ 32) (omega (arith, wide.issued)) in
    let few : nat_le (s.issued + units_at out_key out_size (row s p).outs (Chunk name)) most_claims ≡ true = ap (λ u. nat_le (s.issued + u) most_claims) (once e name there is) ∙ fits in
    subst (MayBe s p) same (record { tests = rw (here e name there is, mark.0, free.0, same_number, few) refl; listed = refl; fits = rw (digest e name there is, number) refl }))

pub proposable : (s : State) (p : ℕ) (probed : List Object) (facts : ProposeFacts) (what : DealWhat) → IsSteady s → IsFit s → AreWide s → IsSortedRow (row s p) → facts.issued ≡ s.issued → facts.capacity ≡ capacity s.settings → proposal s p probed facts ≡ Some what → MayBe s p what
proposable s p probed facts what plain fit wide sorted issued most h =
    option_cases (release s p probed facts.issued) (place s p probed facts.capacity) what h
    (λ is. released s p probed what plain fit wide sorted (ap (release s p probed) (sym issued) ∙ is))
    (λ is. placed s p probed what plain fit wide sorted (ap (place s p probed) (sym most) ∙ is))

-- ---- what is proposed ties nothing that a probe lists

abbrev spares : List Object → DealWhat → Bool
spares probed what = list_all (λ o. not (listed probed o)) (out_ties what)

each_slots : (test : Object → Bool) (ns : List ℕ) → list_all test (slots ns) ≡ each_slot test ns
each_slots test [] = refl
each_slots test (n ∷ ns) = ap (λ b. test (Slot n) && b) (each_slots test ns)

swap_spares : (s : State) (p : ℕ) (probed : List Object) (most : ℕ) (l : List OwnEntry) (what : DealWhat) → first_place s p probed most l ≡ Some what → spares probed what ≡ true
swap_spares s p probed most l what h = first_cases s p probed most l what h (λ e there is.
    place_cases s p probed most e what is
    (λ missing ms many same.
    let test : OutEntry → Bool = λ x. is_own x && is_free s p probed x.object in
    let free = each_of (λ o. not (listed probed o)) (units e.len) (slots_to_fill s p probed) ms many (all_numbers out_key test (λ o. not (listed probed o)) (row s p).outs (λ x at passes. (and_parts (not (tied_out s p x.object)) (not (listed probed x.object)) (and_parts (is_own x) (is_free s p probed x.object) passes).1).1)) in
    subst (λ w. spares probed w ≡ true) same (each_slots (λ o. not (listed probed o)) ms ∙ free))
    (λ missing fits same. subst (λ w. spares probed w ≡ true) same refl))

release_spares : (s : State) (p : ℕ) (probed : List Object) (issued : ℕ) (what : DealWhat) → release s p probed issued ≡ Some what → spares probed what ≡ true
release_spares s p probed issued what h =
    release_cases s p probed issued what h
    (λ e name there is passes ms many same. subst (λ w. spares probed w ≡ true) same (one_spared s p probed name passes))
    (λ e name there is passes fits same. subst (λ w. spares probed w ≡ true) same (one_spared s p probed name passes))
  where
    one_spared : (s : State) (p : ℕ) (probed : List Object) (name : List ℕ) → (own_marked s.own name && is_free s p probed (Chunk name)) ≡ true → list_all (λ o. not (listed probed o)) (Chunk name ∷ []) ≡ true
    one_spared s p probed name passes =
        let mark = and_parts (own_marked s.own name) (is_free s p probed (Chunk name)) passes in
        rw ((and_parts (not (tied_out s p (Chunk name))) (not (listed probed (Chunk name))) mark.1).1) refl

proposal_spares : (s : State) (p : ℕ) (probed : List Object) (facts : ProposeFacts) (what : DealWhat) → proposal s p probed facts ≡ Some what → spares probed what ≡ true
proposal_spares s p probed facts what h =
    option_cases (release s p probed facts.issued) (place s p probed facts.capacity) what h
    (λ is. release_spares s p probed facts.issued what is)
    (λ is. by_cases (list_any (λ q. q == p) s.chosen)
    (λ chosen. let is' : first_place s p probed facts.capacity s.own ≡ Some what = rw chosen at is in swap_spares s p probed facts.capacity s.own what is')
    (λ other. let is' : None ≡ Some what = rw other at is in absurd (cc (is'))))

-- so none of that is tied by it
all_true : {E : Type 0} (test : E → Bool) → ((e : E) → test e ≡ true) → (l : List E) → list_all test l ≡ true
all_true test h [] = refl
all_true test h (e ∷ es) = rw (h e) (all_true test h es)

one_more : (t : Object) (ts probed : List Object) → listed probed t ≡ false → list_all (λ o. not (listed ts o)) probed ≡ true → list_all (λ o. not (listed (t ∷ ts) o)) probed ≡ true
one_more t ts [] k h = refl
one_more t ts (o ∷ os) k h =
    let apart = or_parts (object_eq o t) (listed os t) k in
    let a = and_parts (not (listed ts o)) (list_all (λ x. not (listed ts x)) os) h in
    let here : object_eq t o ≡ false = object_eq-swap t o ∙ apart.0 in
    rw (here, a.0) (one_more t ts os apart.1 a.1)

each_other : (ties probed : List Object) → list_all (λ o. not (listed probed o)) ties ≡ true → list_all (λ o. not (listed ties o)) probed ≡ true
each_other [] probed h = all_true (λ o. not (listed [] o)) (λ o. refl) probed
each_other (t ∷ ts) probed h =
    let a = and_parts (not (listed probed t)) (list_all (λ o. not (listed probed o)) ts) h in
    one_more t ts probed (not_true (listed probed t) a.0) (each_other ts probed a.1)

pub proposal_ties_none : (s : State) (p : ℕ) (probed : List Object) (facts : ProposeFacts) (what : DealWhat) → proposal s p probed facts ≡ Some what → list_all (λ o. not (listed (out_ties what) o)) probed ≡ true
proposal_ties_none s p probed facts what h = each_other (out_ties what) probed (proposal_spares s p probed facts what h)

-- with the next number it may be made, where none is pending
pub proposal_allowed : (s : State) (p deal : ℕ) (what : DealWhat) → MayBe s p what → nat_lt 0 s.changes ≡ true → is_peer s p ≡ true → (row s p).pending ≡ None → deal ≡ (row s p).mine + 1 → allowed s (Proposed (record { peer = p; deal = deal; what = what })) ≡ true
proposal_allowed s p deal what may later peer idle next =
    let number : (deal == (row s p).mine + 1) ≡ true = eq-eqb deal ((row s p).mine + 1) next in
    let none : is_none (row s p).pending ≡ true = ap is_none idle in
    rw (later, peer, number, none, may.tests) refl
