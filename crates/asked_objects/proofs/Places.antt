-- The slots there that stand behind a place.
use Rattle.std.proofs.Common.{◌≡◌, ◌≤◌, ◌<◌, ℕ, zero, suc, ◌+◌, ◌-◌, Bool, true, not, ◌&&◌, nat_lt, min, List, [], ◌∷◌, length, drop, map, filter, Option, Some, None, refl, sym, ap, ◌∙◌, subst, length-drop, arith}
use Rattle.std.specs.Prelude.{find, slice_get}
use Rattle.std.specs.Option.{option_map}
use Rattle.std.specs.List.{list_all}
use Rattle.std.specs.Ordering.{is_lt}
use Rattle.std.proofs.lemmas.Bool.{and_parts, false≢true, ltb-true, ltb-false}
use Rattle.psb_bytes.specs.Objects.{object_cmp}
use Rattle.psb_bytes.specs.declared.ids.Object.{Object}
use Rattle.psb_bytes.specs.declared.ids.Object.TheVariants.{Chunk, Slot}
use Rattle.psb_model.specs.declared.entries.OutEntry.{OutEntry}
use Rattle.psb_model.specs.Words.{in_order, listed, slots}
use Rattle.psb_model.specs.State.{Row, out_key, ties_out}
use Rattle.psb_model.specs.Conditions.{is_own}
use Rattle.psb_model.proofs.ByObject.{by_cases}
use Rattle.psb_model.proofs.ObjectOrder.{comes_first}
use Rattle.peer_lists.specs.Chunks.{is_chunk}
use Rattle.peer_lists.specs.Sought.{is_sought}
use Rattle.peer_lists.specs.Walks.{is_behind, entry_after}
use Rattle.peer_lists.proofs.Ordered.{in_order_kept}
use Rattle.peer_lists.proofs.Next.{first_of, behind, behind_none, every_behind}
use Rattle.asked_objects.specs.Listable.{tied_slots}
use Rattle.asked_objects.specs.Parts.{is_listed_chunk, chunks_there, slots_there, outs_there}
use Rattle.asked_objects.specs.Places.{passed_with, IsPassed, IsAt}
use Rattle.asked_objects.proofs.Ranks.{not_itself, no_split}
use Rattle.asked_objects.proofs.Turning.{get_left, get_right}

-- WHAT STANDS BEHIND THE FIRST ONES OF A LIST

first_behind : {E : Type 0} (t : E → Bool) (l : List E) → find t l ≡ first_of (filter t l)
first_behind t [] = refl
first_behind t (x ∷ xs) = by_cases (t x) (λ k. rw k refl) (λ k. rw k (first_behind t xs))

get_first : {E : Type 0} (n : ℕ) (l : List E) → slice_get l n ≡ first_of (drop n l)
get_first zero [] = refl
get_first zero (x ∷ xs) = refl
get_first (suc n) [] = refl
get_first (suc n) (x ∷ xs) = get_first n xs

get_map : {A B : Type 0} (f : A → B) (l : List A) (n : ℕ) → slice_get (map f l) n ≡ option_map f (slice_get l n)
get_map f [] n = refl
get_map f (x ∷ xs) zero = refl
get_map f (x ∷ xs) (suc n) = get_map f xs n

-- one element more
drop_next : {E : Type 0} (n : ℕ) (l : List E) (e : E) (rest : List E) → drop n l ≡ e ∷ rest → drop (n + 1) l ≡ rest
drop_next zero [] e rest h = absurd (cc (h))
drop_next (suc n) [] e rest h = absurd (cc (h))
drop_next zero (x ∷ xs) e rest h = cc (h)
drop_next (suc n) (x ∷ xs) e rest h = let more : suc n + 1 ≡ suc (n + 1) = omega arith in ap (λ k. drop k (x ∷ xs)) more ∙ drop_next n xs e rest h

drop_none : {E : Type 0} (n : ℕ) → drop {A = E} n [] ≡ []
drop_none zero = refl
drop_none (suc n) = refl

drop_end : {E : Type 0} (n : ℕ) (l : List E) → drop n l ≡ [] → drop (n + 1) l ≡ []
drop_end n [] h = drop_none (n + 1)
drop_end zero (x ∷ xs) h = absurd (cc (h))
drop_end (suc n) (x ∷ xs) h = let more : suc n + 1 ≡ suc (n + 1) = omega arith in ap (λ k. drop k (x ∷ xs)) more ∙ drop_end n xs h

drop_few : {E : Type 0} (n : ℕ) (l : List E) → drop (min n (length l)) l ≡ drop n l
drop_few n [] = drop_none (min n 0) ∙ sym (drop_none n)
drop_few zero (x ∷ xs) = let none : min 0 (length (x ∷ xs)) ≡ 0 = omega arith in ap (λ k. drop k (x ∷ xs)) none
drop_few (suc n) (x ∷ xs) = let more : min (suc n) (length (x ∷ xs)) ≡ suc (min n (length xs)) = omega arith in ap (λ k. drop k (x ∷ xs)) more ∙ drop_few n xs

-- what holds of all holds of the first that is left
left_passes : {E : Type 0} (t : E → Bool) (n : ℕ) (l : List E) (e : E) (rest : List E) → list_all t l ≡ true → drop n l ≡ e ∷ rest → t e ≡ true
left_passes t zero [] e rest h k = absurd (cc (k))
left_passes t (suc n) [] e rest h k = absurd (cc (k))
left_passes t zero (x ∷ xs) e rest h k = let same : x ≡ e = cc (k) in ap t (sym same) ∙ (and_parts (t x) (list_all t xs) h).0
left_passes t (suc n) (x ∷ xs) e rest h k = left_passes t n xs e rest (and_parts (t x) (list_all t xs) h).1 k

all_kept : {E : Type 0} (q : E → Bool) (l : List E) → list_all q (filter q l) ≡ true
all_kept q [] = refl
all_kept q (x ∷ xs) = by_cases (q x) (λ k. rw (k, k) (all_kept q xs)) (λ k. rw k (all_kept q xs))

behind_at : {E : Type 0} (key : E → Object) (n : ℕ) (l : List E) (e : E) (rest : List E) → in_order key l ≡ true → drop n l ≡ e ∷ rest → behind key (Some (key e)) l ≡ rest
behind_at key zero [] e rest h k = absurd (cc (k))
behind_at key (suc n) [] e rest h k = absurd (cc (k))
behind_at key zero (x ∷ xs) e rest h k =
    let a = and_parts (list_all (λ y. is_lt (object_cmp (key x) (key y))) xs) (in_order key xs) h in
    let same : x ≡ e = cc (k) in
    let others : xs ≡ rest = cc (k) in
    subst (λ y. behind key (Some (key y)) (x ∷ xs) ≡ rest) same (rw (not_itself (key x)) (every_behind key (key x) xs a.0 ∙ others))
behind_at key (suc n) (x ∷ xs) e rest h k =
    let a = and_parts (list_all (λ y. is_lt (object_cmp (key x) (key y))) xs) (in_order key xs) h in
    let less : is_lt (object_cmp (key x) (key e)) ≡ true = left_passes (λ y. is_lt (object_cmp (key x) (key y))) n xs e rest a.0 k in
    rw (comes_first (key x) (key e) less) (behind_at key n xs e rest a.1 k)

-- THE SLOTS THERE

ordered_slots : (r : Row) → in_order out_key r.outs ≡ true → in_order out_key (slots_there r) ≡ true
ordered_slots r h = in_order_kept out_key (is_sought out_key is_own (tied_slots r.pending)) r.outs h

slot_is : (o : Object) → not (is_chunk o) ≡ true → (m : ℕ) × (o ≡ Slot m)
slot_is (Chunk n) h = absurd (false≢true h)
slot_is (Slot m) h = (m, refl)

-- the first that is left is passed
pass_first : (r : Row) (n : ℕ) (e : OutEntry) (rest : List OutEntry) (passed : Option ℕ) → in_order out_key r.outs ≡ true → drop n (slots_there r) ≡ e ∷ rest → IsPassed r (n + 1) (passed_with (Some e.object) passed)
pass_first r n e rest passed h k =
    let q = is_sought out_key is_own (tied_slots r.pending) in
    let sought : q e ≡ true = left_passes q n (slots_there r) e rest (all_kept q r.outs) k in
    let both = (and_parts (not (is_chunk e.object) && is_own e) (not (listed (slots (tied_slots r.pending)) e.object)) sought).0 in
    let slot = slot_is e.object (and_parts (not (is_chunk e.object)) (is_own e) both).0 in
    subst (λ o. IsPassed r (n + 1) (passed_with (Some o) passed)) (sym slot.1)
    (subst (λ o. behind out_key (Some o) (slots_there r) ≡ drop (n + 1) (slots_there r)) slot.1
    (behind_at out_key n (slots_there r) e rest (ordered_slots r h) k ∙ sym (drop_next n (slots_there r) e rest k)))

-- by what is left
by_left : {E : Type 0} {P : Type 0} (l : List E) → (l ≡ [] → P) → ((e : E) (rest : List E) → l ≡ e ∷ rest → P) → P
by_left [] f g = f refl
by_left (x ∷ xs) f g = g x xs refl

slot_at : (r : Row) (n : ℕ) → slice_get (map out_key (slots_there r)) n ≡ option_map out_key (first_of (drop n (slots_there r)))
slot_at r n = get_map out_key (slots_there r) n ∙ ap (option_map out_key) (get_first n (slots_there r))

pass_slot : (r : Row) (n : ℕ) (out : Option Object) (passed : Option ℕ) → in_order out_key r.outs ≡ true → out ≡ slice_get (map out_key (slots_there r)) n → IsPassed r n passed → IsPassed r (n + 1) (passed_with out passed)
pass_slot r n out passed h is before =
    let s = slots_there r in
    let at = is ∙ slot_at r n in
    by_left (drop n s)
    (λ none.
    let nothing : out ≡ None = at ∙ ap (λ l. option_map out_key (first_of l)) none in
    subst (λ o. IsPassed r (n + 1) (passed_with o passed)) (sym nothing) (before ∙ none ∙ sym (drop_end n s none)))
    (λ e rest k.
    let some : out ≡ Some e.object = at ∙ ap (λ l. option_map out_key (first_of l)) k in
    subst (λ o. IsPassed r (n + 1) (passed_with o passed)) (sym some) (pass_first r n e rest passed h k))

-- a chunk passes no slot
pass_chunk : (r : Row) (passed : Option ℕ) (l : List OutEntry) (i : ℕ) → passed_with (slice_get (map out_key (filter (is_listed_chunk r) l)) i) passed ≡ passed
pass_chunk r passed [] i = refl
pass_chunk r passed (x ∷ xs) i = by_cases (is_listed_chunk r x) (λ k. rw k (one i k (λ j. pass_chunk r passed xs j))) (λ k. rw k (pass_chunk r passed xs i))
  where
    chunk : (o : Object) → is_chunk o ≡ true → passed_with (Some o) passed ≡ passed
    chunk (Chunk n) h = refl
    chunk (Slot m) h = absurd (false≢true h)

    one : (i : ℕ) → is_listed_chunk r x ≡ true → ((j : ℕ) → passed_with (slice_get (map out_key (filter (is_listed_chunk r) xs)) j) passed ≡ passed) → passed_with (slice_get (x.object ∷ map out_key (filter (is_listed_chunk r) xs)) i) passed ≡ passed
    one zero k more = chunk x.object (and_parts (is_chunk x.object) (not (ties_out r.pending x.object)) k).0
    one (suc i) k more = more i

-- an object there is passed
pub pass_out : (r : Row) (chunks : List Object) (i j : ℕ) (out : Option Object) (passed : Option ℕ) → in_order out_key r.outs ≡ true → chunks ≡ chunks_there r → out ≡ slice_get (outs_there r) i → j ≡ i + 1 → IsPassed r (i - length chunks) passed → IsPassed r (j - length chunks) (passed_with out passed)
pass_out r chunks i j out passed h are is next before =
    let long : length chunks ≡ length (chunks_there r) = ap length are in
    by_cases (nat_lt i (length chunks))
    (λ k.
    let less = ltb-true i (length chunks) k in
    let at : out ≡ slice_get (chunks_there r) i = is ∙ get_left (chunks_there r) (map out_key (slots_there r)) i (omega (arith, less, long)) in
    let same : i - length chunks ≡ j - length chunks = omega (arith, less, next) in
    subst (λ p. IsPassed r (j - length chunks) p) (sym (ap (λ o. passed_with o passed) at ∙ pass_chunk r passed r.outs i)) (subst (λ n. IsPassed r n passed) same before))
    (λ k.
    let more = ltb-false i (length chunks) k in
    let at : out ≡ slice_get (map out_key (slots_there r)) (i - length chunks) = is ∙ get_right (chunks_there r) (map out_key (slots_there r)) i (omega (arith, more, long)) ∙ ap (λ n. slice_get (map out_key (slots_there r)) (i - n)) (sym long) in
    let same : i - length chunks + 1 ≡ j - length chunks = omega (arith, more, next) in
    subst (λ n. IsPassed r n (passed_with out passed)) same (pass_slot r (i - length chunks) out passed h at before))

-- so many of the first slots
pub none_passed : (r : Row) (n count : ℕ) → count ≡ length (slots_there r) → min n count ≡ 0 → IsPassed r n None
none_passed r n count is few =
    let s = slots_there r in
    let start : 0 ≡ min n (length s) = omega (arith, few, is) in
    behind_none out_key s ∙ ap (λ k. drop k s) start ∙ drop_few n s

pub last_passed : (r : Row) (n count last : ℕ) (out : Option Object) → in_order out_key r.outs ≡ true → count ≡ length (slots_there r) → last + 1 ≡ min n count → out ≡ slice_get (map out_key (slots_there r)) last → IsPassed r n (passed_with out None)
last_passed r n count last out h is few at =
    let s = slots_there r in
    let most : last + 1 ≡ min n (length s) = omega (arith, few, is) in
    let end : drop (last + 1) s ≡ drop n s = ap (λ k. drop k s) most ∙ drop_few n s in
    by_left (drop last s)
    (λ none. absurd (omega (arith, few, is, ap length none, length-drop last s)))
    (λ e rest k.
    let some : out ≡ Some e.object = at ∙ slot_at r last ∙ ap (λ l. option_map out_key (first_of l)) k in
    subst (λ o. IsPassed r n (passed_with o None)) (sym some) (pass_first r last e rest None h k ∙ end))

-- WHAT IS NEXT

pub next_chunk : (r : Row) (chunks : List Object) (i : ℕ) → chunks ≡ chunks_there r → i < length chunks → slice_get chunks i ≡ slice_get (outs_there r) i
next_chunk r chunks i are less = ap (λ l. slice_get l i) are ∙ sym (get_left (chunks_there r) (map out_key (slots_there r)) i (omega (arith, less, ap length are)))

pub next_slot : (r : Row) (chunks : List Object) (i : ℕ) (passed : Option ℕ) (out : Option Object) → chunks ≡ chunks_there r → length chunks ≤ i → IsPassed r (i - length chunks) passed → out ≡ option_map out_key (entry_after out_key (option_map Slot passed) (slots_there r)) → out ≡ slice_get (outs_there r) i
next_slot r chunks i passed out are more before is =
    let long : length chunks ≡ length (chunks_there r) = ap length are in
    let s = slots_there r in
    is
    ∙ ap (option_map out_key) (first_behind (λ (e : OutEntry). is_behind (option_map Slot passed) e.object) s ∙ ap first_of before)
    ∙ sym (slot_at r (i - length chunks))
    ∙ ap (λ n. slice_get (map out_key s) (i - n)) long
    ∙ sym (get_right (chunks_there r) (map out_key s) i (omega (arith, more, long)))

-- at the start
pub at_start : (r : Row) (chunks debts : List Object) → IsAt r chunks debts (record { number = 0; debts = 0; passed = None })
at_start r chunks debts =
    let start : 0 ≡ 0 - 0 - length chunks = omega arith in
    record {
      split = no_split (outs_there r) debts;
      passed = behind_none out_key (slots_there r) ∙ ap (λ n. drop n (slots_there r)) start;
    }
