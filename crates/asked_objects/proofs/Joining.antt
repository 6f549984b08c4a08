-- What a probe may ask for is what stands there and what stands in debt, each in object order.
use Rattle.std.proofs.Common.{◌≡◌, ◌≤◌, ℕ, ◌+◌, Bool, true, false, not, ◌&&◌, ◌||◌, List, [], ◌∷◌, ◌++◌, map, filter, Option, Some, None, refl, sym, ap, ◌∙◌, subst, inl, inr, arith}
use Rattle.std.specs.List.{list_all, sum_by}
use Rattle.std.specs.Ordering.{is_lt}
use Rattle.std.proofs.lemmas.Bool.{and_parts, true≢false, false≢true}
use Rattle.std.proofs.lemmas.List.Folds.{list_all-map}
use Rattle.psb_bytes.specs.Objects.{object_eq, object_cmp}
use Rattle.psb_bytes.specs.declared.ids.Object.{Object}
use Rattle.psb_bytes.specs.declared.ids.Object.TheVariants.{Chunk, Slot}
use Rattle.psb_model.specs.declared.entries.DebtEntry.{DebtEntry}
use Rattle.psb_model.specs.declared.entries.OutEntry.{OutEntry}
use Rattle.psb_model.specs.declared.deals.Deal.{Deal}
use Rattle.psb_model.specs.declared.deals.DealWhat.{DealWhat}
use Rattle.psb_model.specs.declared.deals.DealWhat.TheVariants.{Fresh, Swap, Cancel, PutBack, Forward, Return}
use Rattle.psb_model.specs.Words.{In, has, has_so, in_order, listed, occurs, slots, with_one, with_all}
use Rattle.psb_model.specs.State.{Row, out_key, debt_key, out_ties, ties_out}
use Rattle.psb_model.specs.Conditions.{is_own, is_whole, is_whole_own, may_ask}
use Rattle.psb_model.proofs.ByObject.{by_cases, object_eq-refl, has-occurs, has_so-has, sum_by-with_all, units_at-filter_both, units_at-map, units_at-with_one}
use Rattle.psb_model.proofs.Standing.{in_occurs}
use Rattle.peer_lists.specs.Chunks.{is_chunk}
use Rattle.peer_lists.specs.Sought.{is_sought}
use Rattle.peer_lists.proofs.Ordered.{in_order_with, in_order_kept, kept_with_all, or_false}
use Rattle.psb_machine.specs.OwnProbes.{may_list, objects_to_ask}
use Rattle.asked_objects.specs.Listable.{IsListable, tied_slots, deal_ties}
use Rattle.asked_objects.specs.Parts.{is_listed_chunk, slots_there, outs_there, is_listed_kind, is_listed_debt, debts_there, IsSorted}
use Rattle.asked_objects.proofs.Ranks.{self, IsJoined, count_same}

-- WHAT IS KEPT OF A LIST

pub filter_map : {A B : Type 0} (q : B → Bool) (g : A → B) (l : List A) → filter q (map g l) ≡ map g (filter (λ e. q (g e)) l)
filter_map q g [] = refl
filter_map q g (x ∷ xs) = by_cases (q (g x)) (λ k. rw k (ap (λ l. g x ∷ l) (filter_map q g xs))) (λ k. rw k (filter_map q g xs))

-- two tests that agree on what is there
filter_same : {E : Type 0} (p q : E → Bool) (l : List E) → ((e : E) → In e l → p e ≡ q e) → filter p l ≡ filter q l
filter_same p q [] h = refl
filter_same p q (x ∷ xs) h =
    let rest = filter_same p q xs (λ e i. h e (inr i)) in
    let here = h x (inl refl) in
    by_cases (q x) (λ k. rw (here ∙ k, k) (ap (λ l. x ∷ l) rest)) (λ k. rw (here ∙ k, k) rest)

none_so : {E : Type 0} (key : E → Object) (t : E → Bool) (l : List E) (o : Object) → occurs key l o ≤ 0 → has_so key t l o ≡ false
none_so key t l o h = by_cases (has_so key t l o) (λ k. absurd (omega (arith, h, has-occurs key l o (has_so-has key t l o k)))) (λ k. k)

-- the only one at its object
one_so : {E : Type 0} (key : E → Object) (t : E → Bool) (e : E) (l : List E) → In e l → occurs key l (key e) ≤ 1 → has_so key t l (key e) ≡ t e
one_so key t e [] i once = absurd i
one_so key t e (x ∷ xs) (inl same) once =
    let at : object_eq (key x) (key e) ≡ true = ap (λ y. object_eq (key y) (key e)) (sym same) ∙ object_eq-refl (key e) in
    let once' = rw at at once in
    rw (at, none_so key t xs (key e) (omega (arith, once'))) (or_false (t x) ∙ ap t (sym same))
one_so key t e (x ∷ xs) (inr there) once =
    by_cases (object_eq (key x) (key e))
    (λ k. let once' = rw k at once in absurd (omega (arith, once', in_occurs key e xs there)))
    (λ k. let once' = rw k at once in rw k (one_so key t e xs there (omega (arith, once'))))

-- WHAT STANDS THERE

-- a chunk, or an own slot
abbrev out_kind : Object → OutEntry → Bool
out_kind (Chunk n) e = true
out_kind (Slot n) e = is_own e

abbrev debt_kind : Object → DebtEntry → Bool
debt_kind (Chunk n) d = is_whole d
debt_kind (Slot n) d = is_whole_own d

-- what a probe may ask for, by its kind
may_by : (r : Row) (o : Object) → may_ask r o ≡ (has_so out_key (out_kind o) r.outs o || has_so debt_key (debt_kind o) r.debts o)
may_by r (Chunk n) = refl
may_by r (Slot n) = refl

out_may : (r : Row) (e : OutEntry) → IsListable r → In e r.outs → may_ask r (out_key e) ≡ out_kind e.object e
out_may r e listable i =
    let some = in_occurs out_key e r.outs i in
    let once = listable.once e.object in
    let here = one_so out_key (out_kind e.object) e r.outs i (omega (arith, once)) in
    let none = none_so debt_key (debt_kind e.object) r.debts e.object (omega (arith, once, some)) in
    may_by r e.object ∙ rw (here, none) (or_false (out_kind e.object e))

debt_may : (r : Row) (d : DebtEntry) → IsListable r → In d r.debts → may_ask r (debt_key d) ≡ debt_kind d.object d
debt_may r d listable i =
    let some = in_occurs debt_key d r.debts i in
    let once = listable.once d.object in
    let here = one_so debt_key (debt_kind d.object) d r.debts i (omega (arith, once)) in
    let none = none_so out_key (out_kind d.object) r.outs d.object (omega (arith, once, some)) in
    may_by r d.object ∙ rw (here, none) refl

-- what a deal ties of slots
tied_by : (w : DealWhat) (n : ℕ) → listed (out_ties w) (Slot n) ≡ listed (slots (deal_ties w)) (Slot n)
tied_by (Fresh name) n = refl
tied_by (Swap name numbers) n = refl
tied_by (Cancel name numbers) n = refl
tied_by (PutBack name first) n = refl
tied_by (Forward slot entry) n = refl
tied_by (Return slot) n = refl

tied_slot : (p : Option Deal) (n : ℕ) → ties_out p (Slot n) ≡ listed (slots (tied_slots p)) (Slot n)
tied_slot None n = refl
tied_slot (Some d) n = tied_by d.what n

-- chunks come first
pub chunks_first : (p : OutEntry → Bool) (l : List OutEntry) → in_order out_key l ≡ true → filter p l ≡ filter (λ e. is_chunk e.object && p e) l ++ filter (λ e. not (is_chunk e.object) && p e) l
chunks_first p [] h = refl
chunks_first p (x ∷ xs) h =
    let a = and_parts (list_all (λ (y : OutEntry). is_lt (object_cmp x.object (out_key y))) xs) (in_order out_key xs) h in
    let rest = chunks_first p xs a.1 in
    by_cases (is_chunk x.object)
    (λ c. by_cases (p x) (λ k. rw (c, k) (ap (λ l. x ∷ l) rest)) (λ k. rw (c, k) rest))
    (λ c. let none = no_chunks p x.object xs c a.0 in let rest' = rw none at rest in by_cases (p x) (λ k. rw (c, k) (rw none (ap (λ l. x ∷ l) rest'))) (λ k. rw (c, k) (rw none rest')))
  where
    behind : (o b : Object) → is_chunk o ≡ false → is_lt (object_cmp o b) ≡ true → is_chunk b ≡ false
    behind (Chunk n) b c h = absurd (true≢false c)
    behind (Slot n) (Chunk m) c h = absurd (false≢true h)
    behind (Slot n) (Slot m) c h = refl

    no_chunks : (p : OutEntry → Bool) (o : Object) (l : List OutEntry) → is_chunk o ≡ false → list_all (λ (y : OutEntry). is_lt (object_cmp o (out_key y))) l ≡ true → filter (λ e. is_chunk e.object && p e) l ≡ []
    no_chunks p o [] c h = refl
    no_chunks p o (y ∷ ys) c h =
        let a = and_parts (is_lt (object_cmp o y.object)) (list_all (λ (z : OutEntry). is_lt (object_cmp o (out_key z))) ys) h in
        rw (behind o y.object c a.0) (no_chunks p o ys c a.1)

map_append : {A B : Type 0} (g : A → B) (xs ys : List A) → map g (xs ++ ys) ≡ map g xs ++ map g ys
map_append g [] ys = refl
map_append g (x ∷ xs) ys = ap (λ l. g x ∷ l) (map_append g xs ys)

abbrev out_listed : Row → OutEntry → Bool
out_listed r e = out_kind e.object e && not (ties_out r.pending e.object)

chunk_part : (r : Row) (e : OutEntry) → (is_chunk e.object && out_listed r e) ≡ is_listed_chunk r e
chunk_part r e = by_object e.object
  where
    by_object : (o : Object) → (is_chunk o && (out_kind o e && not (ties_out r.pending o))) ≡ (is_chunk o && not (ties_out r.pending o))
    by_object (Chunk n) = refl
    by_object (Slot n) = refl

slot_part : (r : Row) (e : OutEntry) → (not (is_chunk e.object) && out_listed r e) ≡ is_sought out_key is_own (tied_slots r.pending) e
slot_part r e = by_object e.object
  where
    by_object : (o : Object) → (not (is_chunk o) && (out_kind o e && not (ties_out r.pending o))) ≡ (not (is_chunk o) && is_own e && not (listed (slots (tied_slots r.pending)) o))
    by_object (Chunk n) = refl
    by_object (Slot n) = ap (λ b. is_own e && not b) (tied_slot r.pending n)

pub there_is : (r : Row) → in_order out_key r.outs ≡ true → IsListable r → filter (may_list r) (map out_key r.outs) ≡ outs_there r
there_is r ordered listable =
    filter_map (may_list r) out_key r.outs
    ∙ ap (map out_key)
    (filter_same (λ e. may_list r (out_key e)) (out_listed r) r.outs (λ e i. ap (λ b. b && not (ties_out r.pending e.object)) (out_may r e listable i))
    ∙ chunks_first (out_listed r) r.outs ordered
    ∙ (λ k. filter (λ (e : OutEntry). chunk_part r e k) r.outs ++ filter (λ (e : OutEntry). slot_part r e k) r.outs))
    ∙ map_append out_key (filter (is_listed_chunk r) r.outs) (slots_there r)

kind_is : (d : DebtEntry) → debt_kind d.object d ≡ is_listed_kind d
kind_is d = by_object d.object
  where
    by_object : (o : Object) → debt_kind o d ≡ elim o [ Chunk n ↦ is_whole d | Slot n ↦ is_whole_own d ]
    by_object (Chunk n) = refl
    by_object (Slot n) = refl

owed_is : (r : Row) → IsListable r → filter (may_list r) (map debt_key r.debts) ≡ debts_there r
owed_is r listable =
    filter_map (may_list r) debt_key r.debts
    ∙ ap (map debt_key) (filter_same (λ d. may_list r (debt_key d)) (is_listed_debt r) r.debts (λ d i. ap (λ b. b && not (ties_out r.pending d.object)) (debt_may r d listable i ∙ kind_is d)))

-- THE ORDER OF BOTH

pub ordered_map : {E : Type 0} (key : E → Object) (l : List E) → in_order self (map key l) ≡ in_order key l
ordered_map key [] = refl
ordered_map key (x ∷ xs) = (λ k. list_all-map (λ o. is_lt (object_cmp (key x) o)) key xs k && ordered_map key xs k)

pub ordered_with_all : (es l : List Object) → in_order self l ≡ true → ((o : Object) → occurs self l o + occurs self es o ≤ 1) → in_order self (with_all self es l) ≡ true
ordered_with_all [] l h once = h
ordered_with_all (e ∷ es) l h once =
    ordered_with_all es (with_one self e l) (in_order_with self e l h (absent (has self l e) refl)) (λ o. omega (arith, once o, units_at-with_one self (λ _. 1) e l o))
  where
    absent : (b : Bool) → has self l e ≡ b → has self l e ≡ false
    absent true k = absurd (omega (arith, once e, in_occurs self e (e ∷ es) (inl refl), has-occurs self l e k))
    absent false k = k

whole_order : (r : Row) → in_order out_key r.outs ≡ true → IsListable r → in_order self (with_all self (map debt_key r.debts) (map out_key r.outs)) ≡ true
whole_order r ordered listable =
    ordered_with_all (map debt_key r.debts) (map out_key r.outs) (ordered_map out_key r.outs ∙ ordered)
    (λ o. omega (arith, listable.once o, units_at-map out_key (λ _. 1) self (λ _. 1) out_key (λ _. refl) (λ _. refl) r.outs o, units_at-map debt_key (λ _. 1) self (λ _. 1) debt_key (λ _. refl) (λ _. refl) r.debts o))

-- what is kept was there
kept_few : (q : Object → Bool) (l : List Object) (o : Object) → occurs self (filter q l) o ≤ occurs self l o
kept_few q l o = omega (arith, units_at-filter_both self (λ _. 1) q l o)

pub there_few : (r : Row) (o : Object) → in_order out_key r.outs ≡ true → IsListable r → occurs self (outs_there r) o ≤ occurs out_key r.outs o
there_few r o ordered listable =
    subst (λ l. occurs self l o ≤ occurs out_key r.outs o) (there_is r ordered listable)
    (omega (arith, kept_few (may_list r) (map out_key r.outs) o, units_at-map out_key (λ _. 1) self (λ _. 1) out_key (λ _. refl) (λ _. refl) r.outs o))

pub owed_few : (r : Row) (o : Object) → IsListable r → occurs self (debts_there r) o ≤ occurs debt_key r.debts o
owed_few r o listable =
    subst (λ l. occurs self l o ≤ occurs debt_key r.debts o) (owed_is r listable)
    (omega (arith, kept_few (may_list r) (map debt_key r.debts) o, units_at-map debt_key (λ _. 1) self (λ _. 1) debt_key (λ _. refl) (λ _. refl) r.debts o))

-- BOTH IN ONE

pub joined : (r : Row) (debts : List Object) → in_order out_key r.outs ≡ true → IsListable r → IsSorted (debts_there r) debts → IsJoined (objects_to_ask r) (outs_there r) debts
joined r debts ordered listable sorted =
    let q = may_list r in
    let es = map debt_key r.debts in
    let l = map out_key r.outs in
    let order = whole_order r ordered listable in
    let parts : with_all self (debts_there r) (outs_there r) ≡ filter q (with_all self es l) = (λ k. with_all self (sym (owed_is r listable) k) (sym (there_is r ordered listable) k)) ∙ kept_with_all self q es l order in
    record {
      whole = in_order_kept self q (with_all self es l) order;
      first = ap (in_order self) (sym (there_is r ordered listable)) ∙ in_order_kept self q l (ordered_map out_key r.outs ∙ ordered);
      second = sorted.ordered;
      apart = λ o here there. omega (arith, has-occurs self (outs_there r) o here, has-occurs self debts o there, count_same (debts_there r) debts o sorted.sums, there_few r o ordered listable, owed_few r o listable, listable.once o);
      sums = λ f. ap (sum_by f) (sym parts) ∙ omega (arith, sum_by-with_all self f (debts_there r) (outs_there r), sorted.sums f);
    }
