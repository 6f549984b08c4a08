-- One entry after another, in object order: what stands behind an object.
use Rattle.std.proofs.Common.{◌≡◌, ℕ, suc, ◌+◌, Bool, true, false, not, List, [], ◌∷◌, filter, drop, Option, Some, None, refl, sym, ap, ◌∙◌, subst, arith}
use Rattle.std.specs.Prelude.{find}
use Rattle.std.specs.List.{list_all, prefix_len}
use Rattle.std.specs.Ordering.{is_lt}
use Rattle.std.proofs.lemmas.Bool.{and_parts, false≢true}
use Rattle.std.proofs.lemmas.Bool.Decides.{nat_tests}
use Rattle.psb_bytes.specs.Objects.{object_cmp}
use Rattle.psb_bytes.specs.declared.ids.Object.{Object}
use Rattle.psb_bytes.specs.declared.ids.Object.TheVariants.{Chunk, Slot}
use Rattle.psb_model.proofs.ByObject.{by_cases}
use Rattle.psb_model.proofs.ObjectOrder.{less_then, comes_first}
use Rattle.peer_lists.specs.Entries.{in_order, from_object}
use Rattle.peer_lists.specs.Chunks.{is_chunk}
use Rattle.peer_lists.specs.Walks.{IsSlotFrom, is_past, chunk_after, is_behind, entry_after, name_of}

-- ---- by the slots from a number on

abbrev pub first_of : {E : Type 0} → List E → Option E
first_of [] = None
first_of (e ∷ es) = Some e

-- the first that does not pass is the first behind those that do
find_first : {E : Type 0} (t u : E → Bool) (l : List E) → ((e : E) → u e ≡ not (t e)) → find u l ≡ first_of (drop (prefix_len t l) l)
find_first t u [] f = refl
find_first t u (e ∷ es) f = by_cases (t e)
    (λ k. let more : suc (prefix_len t es) ≡ 1 + prefix_len t es = omega arith in
    rw (f e ∙ ap not k, k) (find_first t u es f ∙ ap (λ n. first_of (drop n (e ∷ es))) more))
    (λ k. rw (f e ∙ ap not k, k) refl)

pub slot_behind : (n : ℕ) (o : Object) → is_lt (object_cmp (Slot n) o) ≡ not (is_lt (object_cmp o (Slot (n + 1))))
slot_behind n (Chunk c) = refl
slot_behind n (Slot m) = grind (arith, nat_tests)

first_slot : {E : Type 0} (key : E → Object) (l : List E) (n : ℕ) (r : Option E) → IsSlotFrom key l n r → r ≡ first_of (from_object key (Slot n) l)
first_slot key l n None h = sym (ap first_of h)
first_slot key l n (Some e) (m, k, le, h) = sym (ap first_of h)

pub behind_slot : {E : Type 0} (key : E → Object) (l : List E) (n m : ℕ) (r : Option E) → m ≡ n + 1 → IsSlotFrom key l m r → r ≡ entry_after key (Some (Slot n)) l
behind_slot key l n m r is h =
    first_slot key l m r h ∙ ap (λ k. first_of (from_object key (Slot k) l)) is
    ∙ sym (find_first (λ e. is_lt (object_cmp (key e) (Slot (n + 1)))) (λ e. is_lt (object_cmp (Slot n) (key e))) l (λ e. slot_behind n (key e)))

-- ---- by the chunks, and then the slots

-- the place is no slot
abbrev pub is_no_slot : Option Object → Bool
is_no_slot None = true
is_no_slot (Some (Chunk n)) = true
is_no_slot (Some (Slot n)) = false

same_past : (place : Option Object) (o : Object) → is_no_slot place ≡ true → is_past (name_of place) o ≡ is_behind place o
same_past None o h = refl
same_past (Some (Chunk n)) o h = refl
same_past (Some (Slot n)) o h = absurd (false≢true h)

-- a chunk that a search finds stands in front of all slots
slot_only : (a b : Object) → is_chunk a ≡ false → is_lt (object_cmp a b) ≡ true → is_chunk b ≡ false
slot_only (Chunk a) b s h = absurd (false≢true (sym s))
slot_only (Slot a) (Chunk b) s h = absurd (false≢true h)
slot_only (Slot a) (Slot b) s h = refl

no_more : {E : Type 0} (key : E → Object) (place : Option (List ℕ)) (o : Object) (l : List E) → is_chunk o ≡ false → list_all (λ y. is_lt (object_cmp o (key y))) l ≡ true → chunk_after key place l ≡ None
no_more key place o [] s h = refl
no_more key place o (y ∷ ys) s h =
    let two = and_parts (is_lt (object_cmp o (key y))) (list_all (λ z. is_lt (object_cmp o (key z))) ys) h in
    rw (slot_only o (key y) s two.0) (no_more key place o ys s two.1)

chunk_first : {E : Type 0} (key : E → Object) (place : Option (List ℕ)) (l : List E) (e : E) → in_order key l ≡ true → chunk_after key place l ≡ Some e → find (λ x. is_past place (key x)) l ≡ Some e
chunk_first key place [] e ordered h = absurd (cc (h))
chunk_first key place (x ∷ xs) e ordered h =
    let two = and_parts (list_all (λ y. is_lt (object_cmp (key x) (key y))) xs) (in_order key xs) ordered in
    by_cases (is_chunk (key x))
    (λ k. by_cases (is_past place (key x))
    (λ j. rw j (rw (k, j) at h))
    (λ j. rw j (chunk_first key place xs e two.1 (rw (k, j) at h))))
    (λ k. let late : chunk_after key place xs ≡ Some e = rw k at h in
    let none : None ≡ Some e = sym (no_more key place (key x) xs k two.0) ∙ late in
    absurd (cc (none)))

chunk_below : (o : Object) → is_chunk o ≡ true → is_lt (object_cmp o (Slot 0)) ≡ true
chunk_below (Chunk c) h = refl
chunk_below (Slot n) h = absurd (false≢true h)

slot_above : (o : Object) → is_chunk o ≡ false → is_lt (object_cmp o (Slot 0)) ≡ false
slot_above (Chunk c) h = absurd (false≢true (sym h))
slot_above (Slot n) h = grind (arith, nat_tests)

slot_past : (place : Option (List ℕ)) (o : Object) → is_chunk o ≡ false → is_past place o ≡ true
slot_past None o h = refl
slot_past (Some c) (Chunk n) h = absurd (false≢true (sym h))
slot_past (Some c) (Slot n) h = refl

-- where no chunk is past the place, the first slot is
none_past : {E : Type 0} (key : E → Object) (place : Option (List ℕ)) (l : List E) → chunk_after key place l ≡ None → find (λ x. is_past place (key x)) l ≡ find (λ x. not (is_lt (object_cmp (key x) (Slot 0)))) l
none_past key place [] h = refl
none_past key place (x ∷ xs) h =
    by_cases (is_chunk (key x))
    (λ k. by_cases (is_past place (key x))
    (λ j. let some : Some x ≡ None = rw (k, j) at h in absurd (cc (some)))
    (λ j. rw (j, chunk_below (key x) k) (none_past key place xs (rw (k, j) at h))))
    (λ k. rw (slot_past place (key x) k, slot_above (key x) k) refl)

find_same : {E : Type 0} (t u : E → Bool) (l : List E) → ((e : E) → t e ≡ u e) → find t l ≡ find u l
find_same t u [] f = refl
find_same t u (e ∷ es) f = by_cases (u e) (λ k. rw (f e ∙ k, k) refl) (λ k. rw (f e ∙ k, k) (find_same t u es f))

pub behind_chunk : {E : Type 0} (key : E → Object) (place : Option Object) (l : List E) (e : E) → is_no_slot place ≡ true → in_order key l ≡ true → Some e ≡ chunk_after key (name_of place) l → Some e ≡ entry_after key place l
behind_chunk key place l e none ordered is =
    sym (chunk_first key (name_of place) l e ordered (sym is)) ∙ find_same (λ x. is_past (name_of place) (key x)) (λ x. is_behind place (key x)) l (λ x. same_past place (key x) none)

pub behind_chunks : {E : Type 0} (key : E → Object) (place : Option Object) (l : List E) (r : Option E) → is_no_slot place ≡ true → None ≡ chunk_after key (name_of place) l → IsSlotFrom key l 0 r → r ≡ entry_after key place l
behind_chunks key place l r none is h =
    first_slot key l 0 r h
    ∙ sym (find_first (λ e. is_lt (object_cmp (key e) (Slot 0))) (λ e. not (is_lt (object_cmp (key e) (Slot 0)))) l (λ e. refl))
    ∙ sym (none_past key (name_of place) l (sym is))
    ∙ find_same (λ x. is_past (name_of place) (key x)) (λ x. is_behind place (key x)) l (λ x. same_past place (key x) none)

-- ---- a walk

-- the entries behind an object
abbrev pub behind : {E : Type 0} → (E → Object) → Option Object → List E → List E
behind key place = filter (λ e. is_behind place (key e))

pub behind_none : {E : Type 0} (key : E → Object) (l : List E) → behind key None l ≡ l
behind_none key [] = refl
behind_none key (e ∷ es) = ap (λ l. e ∷ l) (behind_none key es)

pub behind_end : {E : Type 0} (key : E → Object) (place : Option Object) (l : List E) → None ≡ entry_after key place l → behind key place l ≡ []
behind_end key place [] h = refl
behind_end key place (x ∷ xs) h = by_cases (is_behind place (key x))
    (λ k. let some : None ≡ Some x = rw k at h in absurd (cc (some)))
    (λ k. rw k (behind_end key place xs (rw k at h)))

behind_more : (place : Option Object) (a b : Object) → is_behind place a ≡ true → is_lt (object_cmp a b) ≡ true → is_behind place b ≡ true
behind_more None a b h k = refl
behind_more (Some p) a b h k = less_then p a b h k

all_behind : {E : Type 0} (key : E → Object) (place : Option Object) (o : Object) (l : List E) → is_behind place o ≡ true → list_all (λ y. is_lt (object_cmp o (key y))) l ≡ true → behind key place l ≡ l
all_behind key place o [] h a = refl
all_behind key place o (y ∷ ys) h a =
    let two = and_parts (is_lt (object_cmp o (key y))) (list_all (λ z. is_lt (object_cmp o (key z))) ys) a in
    rw (behind_more place o (key y) h two.0) (ap (λ l. y ∷ l) (all_behind key place o ys h two.1))

not_behind : (o : Object) → is_lt (object_cmp o o) ≡ false
not_behind o = by_cases (is_lt (object_cmp o o)) (λ k. comes_first o o k) (λ k. k)

found_passes : {E : Type 0} (t : E → Bool) (l : List E) (e : E) → Some e ≡ find t l → t e ≡ true
found_passes t [] e h = absurd (cc (h))
found_passes t (x ∷ xs) e h = by_cases (t x)
    (λ k. let some : Some e ≡ Some x = rw k at h in let same : e ≡ x = cc (some) in ap t same ∙ k)
    (λ k. found_passes t xs e (rw k at h))

pub every_behind : {E : Type 0} (key : E → Object) (o : Object) (l : List E) → list_all (λ y. is_lt (object_cmp o (key y))) l ≡ true → behind key (Some o) l ≡ l
every_behind key o [] a = refl
every_behind key o (y ∷ ys) a =
    let two = and_parts (is_lt (object_cmp o (key y))) (list_all (λ z. is_lt (object_cmp o (key z))) ys) a in
    rw two.0 (ap (λ l. y ∷ l) (every_behind key o ys two.1))

-- the next entry, and then those behind it
pub behind_next : {E : Type 0} (key : E → Object) (place : Option Object) (l : List E) (e : E) → in_order key l ≡ true → Some e ≡ entry_after key place l → behind key place l ≡ e ∷ behind key (Some (key e)) l
behind_next key place [] e ordered h = absurd (cc (h))
behind_next key place (x ∷ xs) e ordered h =
    let two = and_parts (list_all (λ y. is_lt (object_cmp (key x) (key y))) xs) (in_order key xs) ordered in
    by_cases (is_behind place (key x))
    (λ k.
    let some : Some e ≡ Some x = rw k at h in
    let same : e ≡ x = cc (some) in
    let here : x ∷ behind key place xs ≡ x ∷ behind key (Some (key x)) (x ∷ xs) = rw (not_behind (key x)) (ap (λ l. x ∷ l) (all_behind key place (key x) xs k two.0 ∙ sym (every_behind key (key x) xs two.0))) in
    rw k (subst (λ y. x ∷ behind key place xs ≡ y ∷ behind key (Some (key y)) (x ∷ xs)) (sym same) here))
    (λ k.
    let h' : Some e ≡ entry_after key place xs = rw k at h in
    let past : is_behind place (key e) ≡ true = found_passes (λ y. is_behind place (key y)) xs e h' in
    let other : is_lt (object_cmp (key e) (key x)) ≡ false = by_cases (is_lt (object_cmp (key e) (key x))) (λ j. absurd (false≢true (sym k ∙ behind_more place (key e) (key x) past j))) (λ j. j) in
    rw (k, other) (behind_next key place xs e two.1 h'))
