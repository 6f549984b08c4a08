-- Slots that are sought, as the runs of a list give them.
use Rattle.std.proofs.Common.{◌≡◌, ℕ, zero, suc, ◌+◌, ◌-◌, ◌<◌, ◌≤◌, Bool, true, false, not, List, [], ◌∷◌, ◌++◌, length, take, filter, map, append-nil, Option, Some, None, refl, sym, ap, ◌∙◌, arith}
use Rattle.std.specs.Prelude.{find, min, if◌then◌else◌, option_map}
use Rattle.std.specs.List.{list_all, prefix_len, slice_get}
use Rattle.std.specs.Ordering.{is_lt}
use Rattle.std.proofs.lemmas.Bool.{and_parts}
use Rattle.std.proofs.lemmas.List.{append_assoc, length-append, map-append}
use Rattle.std.proofs.lemmas.List.Elements.{filter-append}
use Rattle.psb_bytes.specs.Objects.{object_cmp}
use Rattle.psb_bytes.specs.declared.ids.Object.{Object}
use Rattle.psb_bytes.specs.declared.ids.Object.TheVariants.{Slot}
use Rattle.psb_model.specs.Words.{listed, slots}
use Rattle.psb_model.proofs.ByObject.{by_cases}
use Rattle.psb_model.proofs.ObjectOrder.{less_then}
use Rattle.peer_lists.specs.Chunks.{is_chunk}
use Rattle.peer_lists.specs.Entries.{in_order, find_at, from_object}
use Rattle.slot_runs.specs.declared.run.Run.{Run}
use Rattle.slot_runs.specs.declared.part.Part.{Part}
use Rattle.slot_runs.specs.Runs.{rest_in, AreRuns, IsNext}
use Rattle.peer_lists.specs.Walks.{IsRunFrom, is_behind as is_behind_object, entry_after}
use Rattle.peer_lists.specs.Slots.{slots_from, expand, slot_items}
use Rattle.slot_runs.specs.Runs.{count_up}
use Rattle.peer_lists.specs.Sought.{is_sought, sought, number_behind, found, IsPart}
use Rattle.peer_lists.specs.declared.entry_list.EntryList.{EntryList}
use Rattle.peer_lists.specs.Trees.{tree_items}
use Rattle.peer_lists.specs.EntryLists.{items, IsList}
use Rattle.slot_runs.specs.SlotRuns.{runs}
use Rattle.peer_lists.proofs.Trees.{IsJoin}
use Rattle.peer_lists.proofs.Tables.{IsTable, table_of}
use Rattle.peer_lists.proofs.Both.{chunks, are_slots, past_chunks, first_at, none_from, from_start, list_ordered}
use Rattle.peer_lists.proofs.Next.{first_of, slot_behind}

-- THE SLOTS OF A RUN

-- slots of which the list says the same come one after another
stretch : {E R : Type 0} (key : E → Object) (joined : Object → R → E) (l : List E) (x : R) (f u : ℕ) → in_order key l ≡ true → are_slots key l ≡ true → ((i : ℕ) → f ≤ i → i < f + u → find_at key l (Slot i) ≡ Some (joined (Slot i) x)) → from_object key (Slot f) l ≡ slots_from joined x f u ++ from_object key (Slot (f + u)) l
stretch key joined l x f zero h k all = let same : f ≡ f + 0 = omega arith in ap (λ i. from_object key (Slot i) l) same
stretch key joined l x f (suc u) h k all =
    let same : f + 1 + u ≡ f + suc u = omega arith in
    first_at key l f f (joined (Slot f) x) h k (λ i from to. absurd (omega (arith, from, to))) (omega arith) (all f (omega arith) (omega arith))
    ∙ ap (λ t. joined (Slot f) x ∷ t) (stretch key joined l x (f + 1) u h k (λ i from to. all i (omega (arith, from)) (omega (arith, to))) ∙ ap (λ i. slots_from joined x (f + 1) u ++ from_object key (Slot i) l) same)

pub run_is : {E R : Type 0} (key : E → Object) (joined : Object → R → E) → IsJoin key joined → (c : List E) (rs : List (Run R)) (n : ℕ) (o : Option (Run R)) → chunks key c ≡ true → AreRuns rs → IsNext rs n o → IsRunFrom key joined (c ++ slot_items key joined rs) n o
run_is key joined join c rs n None h are next =
    let table = table_of key joined join rs are in
    past_chunks key c (slot_items key joined rs) n h ∙ none_from key (slot_items key joined rs) n table.slots (λ k from. table.at k ∙ ap (option_map (joined (Slot k))) (next k from))
run_is {E = E} {R = R} key joined join c rs n (Some r) h are next = (
  next.0,
  next.1,
  λ u le.
      past_chunks key c s n h
      ∙ first_at key s n r.first e table.ordered table.slots (λ k from to. table.at k ∙ ap (option_map (joined (Slot k))) (next.3.none k from to)) next.0 (at r.first (omega arith) next.1)
      ∙ sym (first_at key s r.first r.first e table.ordered table.slots (λ k from to. absurd (omega (arith, from, to))) (omega arith) (at r.first (omega arith) next.1))
      ∙ stretch key joined s r.rest r.first u table.ordered table.slots (λ i from to. at i from (omega (arith, to, le)))
      ∙ ap (λ t. slots_from joined r.rest r.first u ++ t) (sym (past_chunks key c s (r.first + u) h)),
)
  where
    s : List E
    s = slot_items key joined rs

    e : E
    e = joined (Slot r.first) r.rest

    table : IsTable key joined s (rest_in rs)
    table = table_of key joined join rs are

    at : (i : ℕ) → r.first ≤ i → i ≤ r.last → find_at key s (Slot i) ≡ Some (joined (Slot i) r.rest)
    at i from to = table.at i ∙ ap (option_map (joined (Slot i))) (next.2.all i from to)

-- WHICH OF THEM ARE SOUGHT

no_test : {E R : Type 0} (key : E → Object) (joined : Object → R → E) → IsJoin key joined → (test : E → Bool) (but : List ℕ) (x : R) (n : ℕ) → test (joined (Slot n) x) ≡ false → is_sought key test but (joined (Slot n) x) ≡ false
no_test key joined join test but x n t = rw (join (Slot n) x, t) refl

with_test : {E R : Type 0} (key : E → Object) (joined : Object → R → E) → IsJoin key joined → (test : E → Bool) (but : List ℕ) (x : R) (n : ℕ) (b : Bool) → test (joined (Slot n) x) ≡ true → listed (slots but) (Slot n) ≡ not b → is_sought key test but (joined (Slot n) x) ≡ b
with_test key joined join test but x n b t l = rw (join (Slot n) x, t, l) (twice b)
  where
    twice : (b : Bool) → not (not b) ≡ b
    twice true = refl
    twice false = refl

all_or_none : {E R : Type 0} (key : E → Object) (joined : Object → R → E) (test : E → Bool) (but : List ℕ) (x : R) (f u : ℕ) (b : Bool) → ((i : ℕ) → f ≤ i → i < f + u → is_sought key test but (joined (Slot i) x) ≡ b) → sought key test but (slots_from joined x f u) ≡ (if b then slots_from joined x f u else [])
all_or_none key joined test but x f zero true h = refl
all_or_none key joined test but x f zero false h = refl
all_or_none key joined test but x f (suc u) true h = rw (h f (omega arith) (omega arith)) (ap (λ l. joined (Slot f) x ∷ l) (all_or_none key joined test but x (f + 1) u true (λ i from to. h i (omega (arith, from)) (omega (arith, to)))))
all_or_none key joined test but x f (suc u) false h = rw (h f (omega arith) (omega arith)) (all_or_none key joined test but x (f + 1) u false (λ i from to. h i (omega (arith, from)) (omega (arith, to))))

piece : {E R : Type 0} (key : E → Object) (joined : Object → R → E) (test : E → Bool) (but : List ℕ) (l from : List E) (x : R) (f last : ℕ) (b : Bool) → f ≤ last → ((u : ℕ) → f + u ≤ last + 1 → from ≡ slots_from joined x f u ++ from_object key (Slot (f + u)) l) → ((i : ℕ) → f ≤ i → i ≤ last → is_sought key test but (joined (Slot i) x) ≡ b) → sought key test but from ≡ (if b then slots_from joined x f (last + 1 - f) else []) ++ sought key test but (from_object key (Slot (last + 1)) l)
piece key joined test but l from x f last b le run all =
    let u = last + 1 - f in
    let end : f + u ≡ last + 1 = omega (arith, le) in
    ap (sought key test but) (run u (omega (arith, end)))
    ∙ filter-append (is_sought key test but) (slots_from joined x f u) (from_object key (Slot (f + u)) l)
    ∙ ap (λ t. t ++ sought key test but (from_object key (Slot (f + u)) l)) (all_or_none key joined test but x f u b (λ i from to. all i from (omega (arith, to, end))))
    ∙ ap (λ i. (if b then slots_from joined x f u else []) ++ sought key test but (from_object key (Slot i) l)) end

pub part_fails : {E R : Type 0} (key : E → Object) (joined : Object → R → E) → IsJoin key joined → (test : E → Bool) (but : List ℕ) (l : List E) (n : ℕ) (r : Run R) (b : Bool) → IsRunFrom key joined l n (Some r) → ((o : Object) → b ≡ test (joined o r.rest)) → b ≡ false → IsPart key joined test but l n (Some (record { run = r; is_sought = false }))
part_fails key joined join test but l n r b run says fails =
    (run.0, run.1, piece key joined test but l (from_object key (Slot n) l) r.rest r.first r.last false run.1 run.2 (λ i from to. no_test key joined join test but r.rest i (sym (says (Slot i)) ∙ fails)))

pub part_passes : {E R : Type 0} (key : E → Object) (joined : Object → R → E) → IsJoin key joined → (test : E → Bool) (but : List ℕ) (l : List E) (n : ℕ) (r : Run R) (p : Part R) (b : Bool) → IsRunFrom key joined l n (Some r) → ((o : Object) → b ≡ test (joined o r.rest)) → b ≡ true → p.run.first ≡ r.first → (r.first ≤ p.run.last) × (p.run.last ≤ r.last) → p.run.rest ≡ r.rest → ((i : ℕ) → r.first ≤ i → i ≤ p.run.last → listed (slots but) (Slot i) ≡ not p.is_sought) → IsPart key joined test but l n (Some p)
part_passes {E = E} {R = R} key joined join test but l n r p b run says passes first last rest others = (
  omega (arith, run.0, first),
  omega (arith, first, last.0),
  piece key joined test but l (from_object key (Slot n) l) p.run.rest p.run.first p.run.last p.is_sought (omega (arith, first, last.0))
      (λ u le. run.2 u (omega (arith, le, first, last.1)) ∙ (λ i. slots_from joined (sym rest i) (sym first i) u ++ from_object key (Slot (sym first i + u)) l))
      (λ i from to. with_test key joined join test but p.run.rest i p.is_sought (ap (λ (x : R). test (joined (Slot i) x)) rest ∙ sym (says (Slot i)) ∙ passes) (others i (omega (arith, from, first)) to)),
)

-- THE WHOLE LIST

no_chunk_sought : {E : Type 0} (key : E → Object) (test : E → Bool) (but : List ℕ) (c : List E) → chunks key c ≡ true → sought key test but c ≡ []
no_chunk_sought key test but [] h = refl
no_chunk_sought key test but (x ∷ xs) h = let a = and_parts (is_chunk (key x)) (chunks key xs) h in rw a.0 (no_chunk_sought key test but xs a.1)

pub from_first : {E R : Type 0} (key : E → Object) (joined : Object → R → E) → IsJoin key joined → (test : E → Bool) (but : List ℕ) (c : List E) (rs : List (Run R)) → chunks key c ≡ true → AreRuns rs → sought key test but (from_object key (Slot 0) (c ++ slot_items key joined rs)) ≡ sought key test but (c ++ slot_items key joined rs)
from_first key joined join test but c rs h are =
    let s = slot_items key joined rs in
    let table = table_of key joined join rs are in
    ap (sought key test but) (past_chunks key c s 0 h ∙ from_start key s table.slots)
    ∙ sym (filter-append (is_sought key test but) c s ∙ ap (λ t. t ++ sought key test but s) (no_chunk_sought key test but c h))

-- where the next part begins
pub next_is : {E R : Type 0} (key : E → Object) (joined : Object → R → E) (test : E → Bool) (but : List ℕ) (l : List E) (n : ℕ) (p : Part R) (i : ℕ) → IsPart key joined test but l n (Some p) → i ≡ p.run.last → sought key test but (from_object key (Slot n) l) ≡ found joined p ++ sought key test but (from_object key (Slot (i + 1)) l)
next_is key joined test but l n p i part last = part.2 ∙ ap (λ j. found joined p ++ sought key test but (from_object key (Slot (j + 1)) l)) (sym last)

-- HOW MANY

pub few_more : (b : Bool) (f l n count from : ℕ) → count ≤ from → from ≤ f → f ≤ l → n ≡ (if b then l + 1 - f else 0) → count + n ≤ l + 1
few_more true f l n count from few le ends size = omega (arith, few, le, ends, size)
few_more false f l n count from few le ends size = omega (arith, few, le, ends, size)

slots_length : {E R : Type 0} (joined : Object → R → E) (x : R) (f u : ℕ) → length (slots_from joined x f u) ≡ u
slots_length joined x f zero = refl
slots_length joined x f (suc u) = omega (arith, slots_length joined x (f + 1) u)

pub found_length : {E R : Type 0} (joined : Object → R → E) (p : Part R) → length (found joined p) ≡ (if p.is_sought then p.run.last + 1 - p.run.first else 0)
found_length joined p = by_cases p.is_sought (λ k. rw k (slots_length joined p.run.rest p.run.first (p.run.last + 1 - p.run.first))) (λ k. rw k refl)

pub counted : {E R : Type 0} (joined : Object → R → E) (p : Part R) (s s' : List E) (n count count' total : ℕ) → s ≡ found joined p ++ s' → n ≡ (if p.is_sought then p.run.last + 1 - p.run.first else 0) → count' ≡ count + n → count + length s ≡ total → count' + length s' ≡ total
counted joined p s s' n count count' total is size now sum = omega (arith, ap length is, length-append (found joined p) s', found_length joined p, size, now, sum)

-- THE ONE AT A PLACE

skipped : {A : Type 0} (a b : List A) (i : ℕ) → length a ≤ i → slice_get (a ++ b) i ≡ slice_get b (i - length a)
skipped [] b i le = let same : i ≡ i - 0 = omega arith in ap (slice_get b) same
skipped (x ∷ xs) b zero le = absurd (omega (arith, le))
skipped (x ∷ xs) b (suc i) le = let same : i - length xs ≡ suc i - length (x ∷ xs) = omega arith in skipped xs b i (omega (arith, le)) ∙ ap (slice_get b) same

within : {E R : Type 0} (joined : Object → R → E) (x : R) (f u : ℕ) (t : List E) (i : ℕ) → i < u → slice_get (slots_from joined x f u ++ t) i ≡ Some (joined (Slot (f + i)) x)
within joined x f zero t i lt = absurd (omega (arith, lt))
within joined x f (suc u) t zero lt = let same : f ≡ f + 0 = omega arith in ap (λ n. Some (joined (Slot n) x)) same
within joined x f (suc u) t (suc i) lt = let same : f + 1 + i ≡ f + suc i = omega arith in within joined x (f + 1) u t i (omega (arith, lt)) ∙ ap (λ n. Some (joined (Slot n) x)) same

pub is_here : {E R : Type 0} (joined : Object → R → E) (p : Part R) (s s' all : List E) (n left place m : ℕ) (e : E) → s ≡ found joined p ++ s' → n ≡ (if p.is_sought then p.run.last + 1 - p.run.first else 0) → left < n → slice_get s left ≡ slice_get all place → m ≡ p.run.first + left → e ≡ joined (Slot m) p.run.rest → Some e ≡ slice_get all place
is_here {E = E} joined p s s' all n left place m e is size lt same number made =
    by_cases p.is_sought
    (λ k.
    let size' = rw k at size in
    let is' : s ≡ expand joined p.run ++ s' = rw k at is in
    ap (λ (x : E). Some x) made ∙ ap (λ i. Some (joined (Slot i) p.run.rest)) number
    ∙ sym (within joined p.run.rest p.run.first (p.run.last + 1 - p.run.first) s' left (omega (arith, size', lt)))
    ∙ ap (λ l. slice_get l left) (sym is') ∙ same)
    (λ k. let size' = rw k at size in absurd (omega (arith, size', lt)))

pub is_behind : {E R : Type 0} (joined : Object → R → E) (p : Part R) (s s' all : List E) (n left left' place : ℕ) → s ≡ found joined p ++ s' → n ≡ (if p.is_sought then p.run.last + 1 - p.run.first else 0) → n ≤ left → left' ≡ left - n → slice_get s left ≡ slice_get all place → slice_get s' left' ≡ slice_get all place
is_behind joined p s s' all n left left' place is size le now same =
    let long : length (found joined p) ≡ n = found_length joined p ∙ sym size in
    let at : left' ≡ left - length (found joined p) = omega (arith, now, long) in
    ap (slice_get s') at ∙ sym (skipped (found joined p) s' left (omega (arith, long, le))) ∙ ap (λ l. slice_get l left) (sym is) ∙ same

-- THE FIRST BEHIND A NUMBER

-- what holds of all that are left holds of the first that is sought
first_all : {E : Type 0} (u p : E → Bool) (l : List E) → list_all u l ≡ true → first_of (filter p l) ≡ find u (filter p l)
first_all u p [] h = refl
first_all u p (x ∷ xs) h =
    let a = and_parts (u x) (list_all u xs) h in
    by_cases (p x) (λ k. rw (k, a.0) refl) (λ k. rw k (first_all u p xs a.1))

-- of those from a number on, the first that is sought is the first of all that are which comes behind the one in front
first_later : {E : Type 0} (key : E → Object) (p : E → Bool) (n : ℕ) (l : List E) → in_order key l ≡ true → first_of (filter p (from_object key (Slot (n + 1)) l)) ≡ entry_after key (Some (Slot n)) (filter p l)
first_later key p n [] h = refl
first_later {E = E} key p n (x ∷ xs) h =
    let a = and_parts (list_all (λ y. is_lt (object_cmp (key x) (key y))) xs) (in_order key xs) h in
    let u = is_behind_object (Some (Slot n)) in
    by_cases (is_lt (object_cmp (key x) (Slot (n + 1))))
    (λ k.
    let more : 1 + prefix_len (λ e. is_lt (object_cmp (key e) (Slot (n + 1)))) xs ≡ suc (prefix_len (λ e. is_lt (object_cmp (key e) (Slot (n + 1)))) xs) = omega arith in
    let no : is_lt (object_cmp (Slot n) (key x)) ≡ false = slot_behind n (key x) ∙ ap not k in
    rw (k, more) (first_later key p n xs a.1 ∙ by_cases (p x) (λ j. rw (j, no) refl) (λ j. rw j refl)))
    (λ k.
    let yes : is_lt (object_cmp (Slot n) (key x)) ≡ true = slot_behind n (key x) ∙ ap not k in
    let all : list_all (λ e. u (key e)) (x ∷ xs) ≡ true = rw yes (below_rest_of (Slot n) (key x) xs yes a.0) in
    rw k (first_all (λ e. u (key e)) p (x ∷ xs) all))
  where
    below_rest_of : (o b : Object) (ys : List E) → is_lt (object_cmp o b) ≡ true → list_all (λ y. is_lt (object_cmp b (key y))) ys ≡ true → list_all (λ y. is_lt (object_cmp o (key y))) ys ≡ true
    below_rest_of o b [] h k = refl
    below_rest_of o b (y ∷ ys) h k =
        let two = and_parts (is_lt (object_cmp b (key y))) (list_all (λ z. is_lt (object_cmp b (key z))) ys) k in
        rw (less_then o b (key y) h two.0) (below_rest_of o b ys h two.1)

first_found : {E : Type 0} (l : List E) → first_of l ≡ find (λ _. true) l
first_found [] = refl
first_found (x ∷ xs) = refl

pub first_behind : {E R : Type 0} (key : E → Object) (joined : Object → R → E) → IsJoin key joined → (test : E → Bool) (but : List ℕ) (l : EntryList E R) (place : Option ℕ) (n : ℕ) → IsList key joined l → n ≡ number_behind place → first_of (sought key test but (from_object key (Slot n) (items key joined l))) ≡ entry_after key (option_map Slot place) (sought key test but (items key joined l))
first_behind key joined join test but l None n list is =
    let all = items key joined l in
    ap (λ m. first_of (sought key test but (from_object key (Slot m) all))) is
    ∙ ap first_of (from_first key joined join test but (tree_items key joined l.chunks) (runs l.slots) list.chunks list.slots.are)
    ∙ first_found (sought key test but all)
first_behind key joined join test but l (Some m) n list is =
    let all = items key joined l in
    ap (λ k. first_of (sought key test but (from_object key (Slot k) all))) is
    ∙ first_later key (is_sought key test but) m all (list_ordered key joined join l list)

-- a part that is not sought is passed, and of one that is the first slot is the first
pub part_skipped : {E R : Type 0} (joined : Object → R → E) (p : Part R) (s s' : List E) → s ≡ found joined p ++ s' → p.is_sought ≡ false → s ≡ s'
part_skipped joined p s s' is k = is ∙ rw k refl

pub part_first : {E R : Type 0} (joined : Object → R → E) (p : Part R) (s s' : List E) → s ≡ found joined p ++ s' → p.is_sought ≡ true → p.run.first ≤ p.run.last → Some (joined (Slot p.run.first) p.run.rest) ≡ first_of s
part_first joined p s s' is k le =
    let some : p.run.last + 1 - p.run.first ≡ suc (p.run.last - p.run.first) = omega (arith, le) in
    sym (ap first_of is ∙ rw k (ap (λ u. first_of (slots_from joined p.run.rest p.run.first u ++ s')) some))

-- THE LEAST

keys_of : {E R : Type 0} (key : E → Object) (joined : Object → R → E) → IsJoin key joined → (x : R) (f u : ℕ) → map key (slots_from joined x f u) ≡ slots (count_up f u)
keys_of key joined join x f zero = refl
keys_of key joined join x f (suc u) = (λ i. join (Slot f) x i ∷ keys_of key joined join x (f + 1) u i)

keys_found : {E R : Type 0} (key : E → Object) (joined : Object → R → E) → IsJoin key joined → (p : Part R) → map key (found joined p) ≡ slots (count_up p.run.first (if p.is_sought then p.run.last + 1 - p.run.first else 0))
keys_found key joined join p = by_cases p.is_sought (λ k. rw k (keys_of key joined join p.run.rest p.run.first (p.run.last + 1 - p.run.first))) (λ k. rw k refl)

taken : (f u room : ℕ) (t : List Object) → take room (slots (count_up f u) ++ t) ≡ slots (count_up f (min u room)) ++ take (room - u) t
taken f zero room t = let none : min 0 room ≡ 0 = omega arith in let same : room ≡ room - 0 = omega arith in rw none (ap (λ i. take i t) same)
taken f (suc u) zero t =
    let none : min (suc u) 0 ≡ 0 = omega arith in
    let none' : 0 - suc u ≡ 0 = omega arith in
    rw (none, none') refl
taken f (suc u) (suc room) t =
    let less : suc room - suc u ≡ room - u = omega arith in
    let more : min (suc u) (suc room) ≡ suc (min u room) = omega arith in
    rw (less, more) (ap (λ l. Slot f ∷ l) (taken (f + 1) u room t))

count_length : (f u : ℕ) → length (count_up f u) ≡ u
count_length f zero = refl
count_length f (suc u) = omega (arith, count_length (f + 1) u)

pub pushed : {E R : Type 0} (key : E → Object) (joined : Object → R → E) → IsJoin key joined → (p : Part R) (s s' : List E) (numbers numbers' : List ℕ) (most : ℕ) (all : List Object) → s ≡ found joined p ++ s' → numbers' ≡ numbers ++ count_up p.run.first (min (if p.is_sought then p.run.last + 1 - p.run.first else 0) (most - length numbers)) → slots numbers ++ take (most - length numbers) (map key s) ≡ all → slots numbers' ++ take (most - length numbers') (map key s') ≡ all
pushed {E = E} key joined join p s s' numbers numbers' most all is now before =
    let u = if p.is_sought then p.run.last + 1 - p.run.first else 0 in
    let room = most - length numbers in
    let left : most - length numbers' ≡ room - u = omega (arith, ap length now, length-append numbers (count_up p.run.first (min u room)), count_length p.run.first (min u room)) in
    let keys : map key s ≡ slots (count_up p.run.first u) ++ map key s' = ap (map key) is ∙ map-append key (found joined p) s' ∙ ap (λ l. l ++ map key s') (keys_found key joined join p) in
    (λ i. slots (now i) ++ take (left i) (map key s'))
    ∙ ap (λ l. l ++ take (room - u) (map key s')) (map-append Slot numbers (count_up p.run.first (min u room)))
    ∙ append_assoc (slots numbers) (slots (count_up p.run.first (min u room))) (take (room - u) (map key s'))
    ∙ ap (λ l. slots numbers ++ l) (sym (ap (take room) keys ∙ taken p.run.first u room (map key s')))
    ∙ before

pub none_pushed : {E : Type 0} (key : E → Object) (numbers : List ℕ) (s all : List E) (most : ℕ) → numbers ≡ [] → s ≡ all → slots numbers ++ take (most - length numbers) (map key s) ≡ take most (map key all)
none_pushed key numbers s all most none same = let whole : most - 0 ≡ most = omega arith in (λ i. slots (none i) ++ take (most - length (none i)) (map key (same i))) ∙ ap (λ n. take n (map key all)) whole

pub all_pushed : (numbers numbers' : List ℕ) (t all : List Object) (most : ℕ) → slots numbers ++ take (most - length numbers) t ≡ all → length numbers ≡ most → numbers' ≡ numbers → slots numbers' ≡ all
all_pushed numbers numbers' t all most before full same =
    let none : most - length numbers ≡ 0 = omega (arith, full) in
    ap slots same ∙ sym (ap (λ n. slots numbers ++ take n t) none ∙ append-nil (slots numbers)) ∙ before
