-- The search for the next own deal with a peer, step by step.
use Rattle.std.proofs.Common.{◌≡◌, ℕ, zero, suc, ◌+◌, ◌^◌, ◌<◌, ◌≤◌, Bool, true, false, not, ◌&&◌, ◌||◌, cond, List, [], ◌∷◌, ◌++◌, length, length-append, filter, take, Option, Some, None, IfSome, refl, sym, ap, ◌∙◌, subst, arith, append_assoc}
use Rattle.std.specs.Prelude.{find, nat_le, if◌then◌else◌}
use Rattle.std.specs.List.{list_all, flat_map, prefix_len}
use Rattle.std.specs.Option.{option_map}
use Rattle.std.specs.Ordering.{is_lt, nat_cmp}
use Rattle.std.specs.Cmp.Lexicographic.{slice_cmp}
use Rattle.std.proofs.lemmas.Bool.{and_parts, false≢true, true≢false, leb-true, le-leb}
use Rattle.std.proofs.lemmas.Bool.Decides.{nat_tests}
use Rattle.std.proofs.lemmas.List.{append-nil}
use Rattle.psb_bytes.specs.Objects.{object_cmp}
use Rattle.psb_bytes.specs.declared.ids.Object.{Object}
use Rattle.psb_bytes.specs.declared.ids.Object.TheVariants.{Chunk, Slot}
use Rattle.psb_model.specs.declared.entries.OutEntry.{OutEntry}
use Rattle.psb_model.specs.declared.entries.OwnEntry.{OwnEntry}
use Rattle.psb_model.specs.Words.{units}
use Rattle.psb_model.specs.State.{State, row, in_key, out_key, own_marked, tied_in}
use Rattle.psb_model.specs.Conditions.{is_own, is_direct_or_home}
use Rattle.psb_model.specs.Proposing.{slot_number, gives, slots_to_give, fills, slots_to_fill, is_missing, may_release, is_free, none_marked, none_missing}
use Rattle.psb_model.proofs.ByObject.{by_cases}
use Rattle.psb_model.proofs.ObjectOrder.{comes_first, less_then}
use Rattle.peer_lists.specs.Entries.{in_order, from_object}
use Rattle.own_chunks.specs.OwnList.{own_key, is_behind, next_own}
use Rattle.peer_lists.specs.Chunks.{is_chunk}
use Rattle.peer_lists.specs.Walks.{is_past as is_past_object, chunk_after, IsSlotFrom}
use Rattle.next_deals.specs.Searches.{is_past, is_past_own, chunk_name, number_behind, next_out, outs_behind, own_behind}
use Rattle.peer_lists.proofs.Ordered.{is_false}

-- ---- the order of names

-- a name that comes before one that is behind a place is not behind a later place
behind_later : (place : Option (List ℕ)) (n x : List ℕ) → is_behind place n ≡ true → is_behind (Some n) x ≡ true → is_behind place x ≡ true
behind_later None n x h k = refl
behind_later (Some m) n x h k = less_then (Chunk m) (Chunk n) (Chunk x) h k

not_behind_itself : (n : List ℕ) → is_behind (Some n) n ≡ false
not_behind_itself n = by_cases (is_lt (slice_cmp nat_cmp n n)) (λ k. comes_first (Chunk n) (Chunk n) k) (λ k. k)

-- ---- the chunks there

-- a list from an object on has lost only what comes before it
from_step : {E : Type 0} (key : E → Object) (o : Object) (e : E) (es : List E) → from_object key o (e ∷ es) ≡ cond (is_lt (object_cmp (key e) o)) (from_object key o es) (e ∷ es)
from_step key o e es =
    by_cases (is_lt (object_cmp (key e) o))
    (λ k. let n = prefix_len (λ x. is_lt (object_cmp (key x) o)) es in let more : 1 + n ≡ suc n = omega arith in rw (k, more) refl)
    (λ k. rw k refl)

-- a chunk behind a place
behind_is : (place : Option (List ℕ)) (n : List ℕ) → is_past_object place (Chunk n) ≡ is_behind place n
behind_is None n = refl
behind_is (Some m) n = refl

-- the name of what was found
abbrev pub name_after : Option OutEntry → Option (List ℕ)
name_after None = None
name_after (Some e) = chunk_name e.object

slots_behind : (n : ℕ) (es : List OutEntry) (place : Option (List ℕ)) → list_all (λ (x : OutEntry). is_lt (object_cmp (Slot n) (out_key x))) es ≡ true → chunk_after out_key place es ≡ None
slots_behind n [] place h = refl
slots_behind n (e ∷ es) place h =
    let a = and_parts (is_lt (object_cmp (Slot n) e.object)) (list_all (λ (x : OutEntry). is_lt (object_cmp (Slot n) (out_key x))) es) h in
    let slot : is_chunk e.object ≡ false = of e.object a.0 in
    rw slot (slots_behind n es place a.1)
  where
    of : (o : Object) → is_lt (object_cmp (Slot n) o) ≡ true → is_chunk o ≡ false
    of (Chunk c) h = absurd (false≢true h)
    of (Slot m) h = refl

pub after_next : (place : Option (List ℕ)) (outs : List OutEntry) → in_order out_key outs ≡ true → name_after (chunk_after out_key place outs) ≡ next_out place outs
after_next place [] h = refl
after_next place (e ∷ es) h =
    let o = and_parts (list_all (λ (x : OutEntry). is_lt (object_cmp e.object (out_key x))) es) (in_order out_key es) h in
    by_object e.object o.0 (after_next place es o.1)
  where
    by_object : (o : Object) → list_all (λ (x : OutEntry). is_lt (object_cmp o (out_key x))) es ≡ true → name_after (chunk_after out_key place es) ≡ next_out place es → name_after (chunk_after out_key place (record e { object = o } ∷ es)) ≡ next_out place (record e { object = o } ∷ es)
    by_object (Chunk n) first rest =
        let same = behind_is place n in
        by_cases (is_behind place n) (λ k. rw (same ∙ k, k) refl) (λ k. rw (same ∙ k, k) rest)
    by_object (Slot n) first rest = ap name_after (slots_behind n es place first)

-- the next one is behind the place
next_is_behind : (place : Option (List ℕ)) (outs : List OutEntry) (n : List ℕ) → next_out place outs ≡ Some n → is_behind place n ≡ true
next_is_behind place [] n h = absurd (cc (h))
next_is_behind place (e ∷ es) n h = by_object e.object h (next_is_behind place es n)
  where
    by_object : (o : Object) → next_out place (record e { object = o } ∷ es) ≡ Some n → (next_out place es ≡ Some n → is_behind place n ≡ true) → is_behind place n ≡ true
    by_object (Chunk c) h rest =
        by_cases (is_behind place c)
        (λ k. let h' : Some c ≡ Some n = rw k at h in let same : c ≡ n = cc (h') in ap (is_behind place) (sym same) ∙ k)
        (λ k. let h' : next_out place es ≡ Some n = rw k at h in rest h')
    by_object (Slot c) h rest = absurd (cc (h))

-- all behind a chunk are behind it in order
none_before : (own : List OwnEntry) (c : List ℕ) (es : List OutEntry) → list_all (λ (x : OutEntry). is_lt (object_cmp (Chunk c) (out_key x))) es ≡ true → none_marked (is_past (Some c)) own es ≡ true
none_before own c [] h = refl
none_before own c (e ∷ es) h =
    let a = and_parts (is_lt (object_cmp (Chunk c) e.object)) (list_all (λ (x : OutEntry). is_lt (object_cmp (Chunk c) (out_key x))) es) h in
    by_object e.object a.0 (none_before own c es a.1)
  where
    by_object : (o : Object) → is_lt (object_cmp (Chunk c) o) ≡ true → none_marked (is_past (Some c)) own es ≡ true → none_marked (is_past (Some c)) own (record e { object = o } ∷ es) ≡ true
    by_object (Chunk n) h rest = rw h rest
    by_object (Slot n) h rest = rest

-- where the next chunk is not marked, the place goes on to it
pub marked_on : (place : Option (List ℕ)) (own : List OwnEntry) (outs : List OutEntry) (n : List ℕ) → in_order out_key outs ≡ true → next_out place outs ≡ Some n → own_marked own n ≡ false → none_marked (is_past place) own outs ≡ true → none_marked (is_past (Some n)) own outs ≡ true
marked_on place own [] n ordered next free h = absurd (cc (next))
marked_on place own (e ∷ es) n ordered next free h =
    let o = and_parts (list_all (λ (x : OutEntry). is_lt (object_cmp e.object (out_key x))) es) (in_order out_key es) ordered in
    by_object e.object o.0 next h (marked_on place own es n o.1)
  where
    none : (a : Bool) → not (a && false) ≡ true
    none true = refl
    none false = refl

    by_object : (o : Object) → list_all (λ (x : OutEntry). is_lt (object_cmp o (out_key x))) es ≡ true → next_out place (record e { object = o } ∷ es) ≡ Some n → none_marked (is_past place) own (record e { object = o } ∷ es) ≡ true
        → (next_out place es ≡ Some n → own_marked own n ≡ false → none_marked (is_past place) own es ≡ true → none_marked (is_past (Some n)) own es ≡ true) → none_marked (is_past (Some n)) own (record e { object = o } ∷ es) ≡ true
    by_object (Chunk c) first next h rest =
        let a = and_parts (not (is_past place c && own_marked own c)) (none_marked (is_past place) own es) h in
        by_cases (is_behind place c)
        (λ k. let next' : Some c ≡ Some n = rw k at next in let same : c ≡ n = cc (next') in
        subst (λ x. own_marked own x ≡ false → none_marked (is_past (Some x)) own (record e { object = Chunk c } ∷ es) ≡ true) same
        (λ f. rw (f, none (is_past (Some c) c)) (none_before own c es first)) free)
        (λ k. let next' : next_out place es ≡ Some n = rw k at next in
        let unmarked : not (own_marked own c) ≡ true = rw k at a.0 in
        rw (is_false (own_marked own c) unmarked, none (is_past (Some n) c)) (rest next' free a.1))
    by_object (Slot c) first next h rest = absurd (cc (next))

-- ---- a count that falls

count_le : {E : Type 0} (t u : E → Bool) (l : List E) → ((e : E) → u e ≡ true → t e ≡ true) → length (filter u l) ≤ length (filter t l)
count_le t u [] f = omega arith
count_le t u (e ∷ es) f =
    by_cases (u e)
    (λ k. rw (k, f e k) (omega (arith, count_le t u es f)))
    (λ k. by_cases (t e) (λ j. rw (k, j) (omega (arith, count_le t u es f))) (λ j. rw (k, j) (count_le t u es f)))

pub outs_fall : (place : Option (List ℕ)) (outs : List OutEntry) (n : List ℕ) → next_out place outs ≡ Some n → outs_behind (Some n) outs < outs_behind place outs
outs_fall place [] n next = absurd (cc (next))
outs_fall place (e ∷ es) n next = by_object e.object next (outs_fall place es n)
  where
    later : OutEntry → Bool
    later x = elim x.object [ Chunk c ↦ is_behind (Some n) c | Slot c ↦ false ]

    here : OutEntry → Bool
    here x = elim x.object [ Chunk c ↦ is_behind place c | Slot c ↦ false ]

    carries : is_behind place n ≡ true → (x : OutEntry) → later x ≡ true → here x ≡ true
    carries k x h = of_object x.object h
      where
        of_object : (o : Object) → elim o [ Chunk c ↦ is_behind (Some n) c | Slot c ↦ false ] ≡ true → elim o [ Chunk c ↦ is_behind place c | Slot c ↦ false ] ≡ true
        of_object (Chunk c) h = behind_later place n c k h
        of_object (Slot c) h = absurd (false≢true h)

    by_object : (o : Object) → next_out place (record e { object = o } ∷ es) ≡ Some n → (next_out place es ≡ Some n → outs_behind (Some n) es < outs_behind place es) → outs_behind (Some n) (record e { object = o } ∷ es) < outs_behind place (record e { object = o } ∷ es)
    by_object (Chunk c) next rest =
        by_cases (is_behind place c)
        (λ k. let next' : Some c ≡ Some n = rw k at next in let same : c ≡ n = cc (next') in
        let not_later : is_behind (Some n) c ≡ false = ap (is_behind (Some n)) same ∙ not_behind_itself n in
        rw (k, not_later) (omega (arith, count_le here later es (carries (ap (is_behind place) (sym same) ∙ k)))))
        (λ k. let next' : next_out place es ≡ Some n = rw k at next in
        let behind = next_is_behind place es n next' in
        by_cases (is_behind (Some n) c)
        (λ j. absurd (false≢true (sym k ∙ behind_later place n c behind j)))
        (λ j. rw (k, j) (rest next')))
    by_object (Slot c) next rest = absurd (cc (next))

-- ---- what is found there

-- what is not behind the place does not pass the test
abbrev pub skipped : (OutEntry → Bool) → Option (List ℕ) → List OutEntry → Bool
skipped t place outs = list_all (λ (e : OutEntry). is_past_object place e.object || not (t e)) outs

-- no slot passes
abbrev pub PassesNoSlot : (OutEntry → Bool) → Type 0
PassesNoSlot t = (e : OutEntry) → is_chunk e.object ≡ false → t e ≡ false

not_this : (p t : Bool) → p ≡ false → (p || not t) ≡ true → t ≡ false
not_this true t h k = absurd (true≢false h)
not_this false true h k = sym k
not_this false false h k = refl

pub first_found : (t : OutEntry → Bool) (place : Option (List ℕ)) (outs : List OutEntry) (e : OutEntry) → PassesNoSlot t → skipped t place outs ≡ true → Some e ≡ chunk_after out_key place outs → t e ≡ true → Some e ≡ find t outs
first_found t place [] e none h f k = absurd (cc)
first_found t place (x ∷ xs) e none h f k =
    let a = and_parts (is_past_object place x.object || not (t x)) (skipped t place xs) h in
    by_cases (is_chunk x.object)
    (λ c.
    by_cases (is_past_object place x.object)
    (λ b. let f' : Some e ≡ Some x = rw (c, b) at f in let same : x ≡ e = cc in let here : t x ≡ true = ap t same ∙ k in rw here (ap (λ y. Some y) (sym same)))
    (λ b. let f' = rw (c, b) at f in let not_here : t x ≡ false = not_this (is_past_object place x.object) (t x) b a.0 in rw not_here (first_found t place xs e none a.1 f' k)))
    (λ c. let f' = rw c at f in let not_here : t x ≡ false = none x c in rw not_here (first_found t place xs e none a.1 f' k))

pub none_found : (t : OutEntry → Bool) (place : Option (List ℕ)) (outs : List OutEntry) → PassesNoSlot t → skipped t place outs ≡ true → None ≡ chunk_after out_key place outs → None ≡ find t outs
none_found t place [] none h f = refl
none_found t place (x ∷ xs) none h f =
    let a = and_parts (is_past_object place x.object || not (t x)) (skipped t place xs) h in
    by_cases (is_chunk x.object)
    (λ c.
    by_cases (is_past_object place x.object)
    (λ b. let f' : None ≡ Some x = rw (c, b) at f in absurd (cc))
    (λ b. let f' = rw (c, b) at f in let not_here : t x ≡ false = not_this (is_past_object place x.object) (t x) b a.0 in rw not_here (none_found t place xs none a.1 f')))
    (λ c. let f' = rw c at f in let not_here : t x ≡ false = none x c in rw not_here (none_found t place xs none a.1 f'))

-- what stands behind a chunk is passed over
all_behind : (t : OutEntry → Bool) (o : Object) (n : List ℕ) (es : List OutEntry) → o ≡ Chunk n → list_all (λ (x : OutEntry). is_lt (object_cmp o (out_key x))) es ≡ true → skipped t (Some n) es ≡ true
all_behind t o n [] is h = refl
all_behind t o n (x ∷ xs) is h =
    let a = and_parts (is_lt (object_cmp o (out_key x))) (list_all (λ (y : OutEntry). is_lt (object_cmp o (out_key y))) xs) h in
    let here : is_lt (object_cmp (Chunk n) x.object) ≡ true = ap (λ y. is_lt (object_cmp y x.object)) (sym is) ∙ a.0 in
    rw here (all_behind t o n xs is a.1)

or_right : (a b : Bool) → b ≡ true → (a || b) ≡ true
or_right true b h = refl
or_right false b h = h

chunk_is : (o : Object) (n : List ℕ) → Some n ≡ chunk_name o → o ≡ Chunk n
chunk_is (Chunk c) n h = let same : c ≡ n = cc in ap Chunk same
chunk_is (Slot c) n h = absurd (cc)

pub skips_on : (t : OutEntry → Bool) (place : Option (List ℕ)) (outs : List OutEntry) (e : OutEntry) (n : List ℕ) → PassesNoSlot t → in_order out_key outs ≡ true → skipped t place outs ≡ true → Some e ≡ chunk_after out_key place outs → t e ≡ false → Some n ≡ chunk_name e.object → skipped t (Some n) outs ≡ true
skips_on t place [] e n none ordered h f k is = refl
skips_on t place (x ∷ xs) e n none ordered h f k is =
    let a = and_parts (is_past_object place x.object || not (t x)) (skipped t place xs) h in
    let o = and_parts (list_all (λ (y : OutEntry). is_lt (object_cmp x.object (out_key y))) xs) (in_order out_key xs) ordered in
    by_cases (is_chunk x.object)
    (λ c.
    by_cases (is_past_object place x.object)
    (λ b.
    let f' : Some e ≡ Some x = rw (c, b) at f in
    let same : x ≡ e = cc in
    let not_here : not (t x) ≡ true = ap (λ y. not (t y)) same ∙ ap not k in
    rw (or_right (is_past_object (Some n) x.object) (not (t x)) not_here) (all_behind t x.object n xs (ap (λ (y : OutEntry). y.object) same ∙ chunk_is e.object n is) o.0))
    (λ b.
    let f' = rw (c, b) at f in
    let not_here : not (t x) ≡ true = ap not (not_this (is_past_object place x.object) (t x) b a.0) in
    rw (or_right (is_past_object (Some n) x.object) (not (t x)) not_here) (skips_on t place xs e n none o.1 a.1 f' k is)))
    (λ c.
    let f' = rw c at f in
    let not_here : not (t x) ≡ true = ap not (none x c) in
    rw (or_right (is_past_object (Some n) x.object) (not (t x)) not_here) (skips_on t place xs e n none o.1 a.1 f' k is))

-- what was found passes the test
passes : {E : Type 0} (t : E → Bool) (l : List E) (e : E) → Some e ≡ find t l → t e ≡ true
passes t [] e h = absurd (cc)
passes t (x ∷ xs) e h =
    by_cases (t x)
    (λ k. let h' : Some e ≡ Some x = rw k at h in let same : x ≡ e = cc in ap t (sym same) ∙ k)
    (λ k. let h' : Some e ≡ find t xs = rw k at h in passes t xs e h')

-- the place goes on to the chunk that was found
pub passed_on : (t : OutEntry → Bool) (place next : Option (List ℕ)) (outs : List OutEntry) (e : OutEntry) → PassesNoSlot t → in_order out_key outs ≡ true → skipped t place outs ≡ true → Some e ≡ chunk_after out_key place outs → t e ≡ false → next ≡ chunk_name e.object → (skipped t next outs ≡ true) × (outs_behind next outs < outs_behind place outs)
passed_on t place next outs e none ordered h f k is = by_object e.object refl
  where
    by_object : (o : Object) → e.object ≡ o → (skipped t next outs ≡ true) × (outs_behind next outs < outs_behind place outs)
    by_object (Chunk n) at =
        let named : chunk_name e.object ≡ Some n = ap chunk_name at in
        let next_is : next_out place outs ≡ Some n = sym (after_next place outs ordered) ∙ ap name_after (sym f) ∙ named in
        subst (λ x. (skipped t x outs ≡ true) × (outs_behind x outs < outs_behind place outs)) (sym (is ∙ named)) (skips_on t place outs e n none ordered h f k (sym named), outs_fall place outs n next_is)
    by_object (Slot n) at =
        let chunk = and_parts (is_chunk e.object) (is_past_object place e.object) (passes (λ (x : OutEntry). is_chunk x.object && is_past_object place x.object) outs e f) in
        absurd (false≢true (ap is_chunk (sym at) ∙ chunk.0))

-- what was passed is not released
pub releases_no_slot : (s : State) (p : ℕ) (probed : List Object) → PassesNoSlot (may_release s p probed)
releases_no_slot s p probed e h = of e.object h
  where
    of : (o : Object) → is_chunk o ≡ false → may_release s p probed (record e { object = o }) ≡ false
    of (Chunk n) h = absurd (true≢false h)
    of (Slot n) h = refl

pub skipped_first : (s : State) (p : ℕ) (probed : List Object) (place : Option (List ℕ)) (outs : List OutEntry) → none_marked (is_past place) s.own outs ≡ true → skipped (may_release s p probed) place outs ≡ true
skipped_first s p probed place [] h = refl
skipped_first s p probed place (e ∷ es) h = by_object e.object h (skipped_first s p probed place es)
  where
    by_object : (o : Object) → none_marked (is_past place) s.own (record e { object = o } ∷ es) ≡ true → (none_marked (is_past place) s.own es ≡ true → skipped (may_release s p probed) place es ≡ true) → skipped (may_release s p probed) place (record e { object = o } ∷ es) ≡ true
    by_object (Chunk n) h rest =
        let a = and_parts (not (is_past place n && own_marked s.own n)) (none_marked (is_past place) s.own es) h in
        rw (ap (λ b. b || not (own_marked s.own n && is_free s p probed (Chunk n))) (behind_is place n) ∙ of (is_behind place n) (own_marked s.own n) (is_free s p probed (Chunk n)) a.0) (rest a.1)
      where
        of : (b m f : Bool) → not (not b && m) ≡ true → (b || not (m && f)) ≡ true
        of true m f h = refl
        of false true f h = absurd (false≢true h)
        of false false f h = refl
    by_object (Slot n) h rest = rw (or_right (is_past_object place (Slot n)) true refl) (rest h)

-- ---- the own chunks

abbrev pub may_place : State → ℕ → ℕ → OwnEntry → Bool
may_place s p most e = is_missing s p e.name && nat_le (units e.len) most

-- as `none_missing`, of any list
abbrev none_in : State → ℕ → Option (List ℕ) → ℕ → List OwnEntry → Bool
none_in s p place most l = list_all (λ (e : OwnEntry). not (is_past_own place most e && is_missing s p e.name)) l

not_placed : (a u m : Bool) → (m && u) ≡ false → not ((a && u) && m) ≡ true
not_placed false u m h = refl
not_placed true true true h = absurd (true≢false h)
not_placed true true false h = refl
not_placed true false m h = refl

was_passed : (u m : Bool) → not ((true && u) && m) ≡ true → (m && u) ≡ false
was_passed true true h = absurd (false≢true h)
was_passed true false h = refl
was_passed false true h = refl
was_passed false false h = refl

own_before : (s : State) (p most : ℕ) (c : List ℕ) (es : List OwnEntry) → list_all (λ (x : OwnEntry). is_lt (object_cmp (Chunk c) (own_key x))) es ≡ true → none_in s p (Some c) most es ≡ true
own_before s p most c [] h = refl
own_before s p most c (e ∷ es) h =
    let a = and_parts (is_lt (object_cmp (Chunk c) (own_key e))) (list_all (λ (x : OwnEntry). is_lt (object_cmp (Chunk c) (own_key x))) es) h in
    rw a.0 (own_before s p most c es a.1)

missing_in : (s : State) (p most : ℕ) (place : Option (List ℕ)) (l : List OwnEntry) (e : OwnEntry) → in_order own_key l ≡ true → next_own place l ≡ Some e → may_place s p most e ≡ false → none_in s p place most l ≡ true → none_in s p (Some e.name) most l ≡ true
missing_in s p most place [] e ordered next other h = absurd (cc (next))
missing_in s p most place (x ∷ xs) e ordered next other h =
    let o = and_parts (list_all (λ (y : OwnEntry). is_lt (object_cmp (own_key x) (own_key y))) xs) (in_order own_key xs) ordered in
    let a = and_parts (not (is_past_own place most x && is_missing s p x.name)) (none_in s p place most xs) h in
    by_cases (is_behind place x.name)
    (λ k. let next' : Some x ≡ Some e = rw k at next in let same : x ≡ e = cc (next') in
    subst (λ (y : OwnEntry). may_place s p most y ≡ false → none_in s p (Some y.name) most (x ∷ xs) ≡ true) same
    (λ f. rw (not_placed (is_past (Some x.name) x.name) (nat_le (units x.len) most) (is_missing s p x.name) f) (own_before s p most x.name xs o.0)) other)
    (λ k. let next' : next_own place xs ≡ Some e = rw k at next in
    let passed : not ((true && nat_le (units x.len) most) && is_missing s p x.name) ≡ true = rw k at a.0 in
    rw (not_placed (is_past (Some e.name) x.name) (nat_le (units x.len) most) (is_missing s p x.name) (was_passed (nat_le (units x.len) most) (is_missing s p x.name) passed))
    (missing_in s p most place xs e o.1 next' other a.1))

pub missing_on : (s : State) (p most : ℕ) (place : Option (List ℕ)) (e : OwnEntry) → in_order own_key s.own ≡ true → next_own place s.own ≡ Some e → may_place s p most e ≡ false → none_missing (is_past_own place most) s p ≡ true → none_missing (is_past_own (Some e.name) most) s p ≡ true
missing_on s p most place e ordered next other h = missing_in s p most place s.own e ordered next other h

next_own_behind : (place : Option (List ℕ)) (l : List OwnEntry) (e : OwnEntry) → next_own place l ≡ Some e → is_behind place e.name ≡ true
next_own_behind place [] e next = absurd (cc (next))
next_own_behind place (x ∷ xs) e next =
    by_cases (is_behind place x.name)
    (λ k. let next' : Some x ≡ Some e = rw k at next in let same : x ≡ e = cc (next') in ap (λ (y : OwnEntry). is_behind place y.name) (sym same) ∙ k)
    (λ k. let next' : next_own place xs ≡ Some e = rw k at next in next_own_behind place xs e next')

pub own_fall : (place : Option (List ℕ)) (l : List OwnEntry) (e : OwnEntry) → next_own place l ≡ Some e → own_behind (Some e.name) l < own_behind place l
own_fall place [] e next = absurd (cc (next))
own_fall place (x ∷ xs) e next =
    by_cases (is_behind place x.name)
    (λ k. let next' : Some x ≡ Some e = rw k at next in let same : x ≡ e = cc (next') in
    let not_later : is_behind (Some e.name) x.name ≡ false = ap (λ (y : OwnEntry). is_behind (Some e.name) y.name) same ∙ not_behind_itself e.name in
    let behind : is_behind place e.name ≡ true = ap (λ (y : OwnEntry). is_behind place y.name) (sym same) ∙ k in
    rw (k, not_later) (omega (arith, count_le (λ (y : OwnEntry). is_behind place y.name) (λ (y : OwnEntry). is_behind (Some e.name) y.name) xs (λ y h. behind_later place e.name y.name behind h))))
    (λ k. let next' : next_own place xs ≡ Some e = rw k at next in
    let behind = next_own_behind place xs e next' in
    by_cases (is_behind (Some e.name) x.name)
    (λ j. absurd (false≢true (sym k ∙ behind_later place e.name x.name behind j)))
    (λ j. rw (k, j) (own_fall place xs e next')))

found_in : (s : State) (p most : ℕ) (place : Option (List ℕ)) (l : List OwnEntry) → none_in s p place most l ≡ true → IfSome (next_own place l) (λ e. may_place s p most e ≡ true) → next_own place l ≡ find (may_place s p most) l
found_in s p most place [] h next = refl
found_in s p most place (x ∷ xs) h next =
    let a = and_parts (not (is_past_own place most x && is_missing s p x.name)) (none_in s p place most xs) h in
    by_cases (is_behind place x.name)
    (λ k. let next' : may_place s p most x ≡ true = rw k at next in rw (k, next') refl)
    (λ k. let next' : IfSome (next_own place xs) (λ e. may_place s p most e ≡ true) = rw k at next in
    let passed : not ((true && nat_le (units x.len) most) && is_missing s p x.name) ≡ true = rw k at a.0 in
    rw (k, was_passed (nat_le (units x.len) most) (is_missing s p x.name) passed) (found_in s p most place xs a.1 next'))

-- behind the place to which the search came stands what was looked for
pub found_own : (s : State) (p most : ℕ) (place : Option (List ℕ)) → none_missing (is_past_own place most) s p ≡ true → IfSome (next_own place s.own) (λ e. may_place s p most e ≡ true) → next_own place s.own ≡ find (may_place s p most) s.own
found_own s p most place h next = found_in s p most place s.own h next

-- one step of the search, by the name of the next own chunk
abbrev IsNextName : State → Option (List ℕ) → List ℕ → Type 0
IsNextName s place n = option_map (λ (e : OwnEntry). e.name) (next_own place s.own) ≡ Some n

pub missing_step : (s : State) (p most : ℕ) (place : Option (List ℕ)) (n : List ℕ) → in_order own_key s.own ≡ true → IsNextName s place n → IfSome (next_own place s.own) (λ e. may_place s p most e ≡ false) → none_missing (is_past_own place most) s p ≡ true → none_missing (is_past_own (Some n) most) s p ≡ true
missing_step s p most place n ordered next other h = by_next (next_own place s.own) refl next other
  where
    by_next : (o : Option OwnEntry) → next_own place s.own ≡ o → option_map (λ (e : OwnEntry). e.name) o ≡ Some n → IfSome o (λ e. may_place s p most e ≡ false) → none_missing (is_past_own (Some n) most) s p ≡ true
    by_next None is named other = absurd (cc (named))
    by_next (Some e) is named other = let same : e.name ≡ n = cc (named) in subst (λ m. none_missing (is_past_own (Some m) most) s p ≡ true) same (missing_on s p most place e ordered is other h)

pub fall_step : (s : State) (place : Option (List ℕ)) (n : List ℕ) → IsNextName s place n → own_behind (Some n) s.own < own_behind place s.own
fall_step s place n next = by_next (next_own place s.own) refl next
  where
    by_next : (o : Option OwnEntry) → next_own place s.own ≡ o → option_map (λ (e : OwnEntry). e.name) o ≡ Some n → own_behind (Some n) s.own < own_behind place s.own
    by_next None is named = absurd (cc (named))
    by_next (Some e) is named = let same : e.name ≡ n = cc (named) in subst (λ m. own_behind (Some m) s.own < own_behind place s.own) same (own_fall place s.own e is)

-- what was passed with more units was passed with fewer
pub fewer_units : (s : State) (p most less : ℕ) (place : Option (List ℕ)) → less ≤ most → none_missing (is_past_own place most) s p ≡ true → none_missing (is_past_own place less) s p ≡ true
fewer_units s p most less place le h = over s.own h
  where
    weaker : (a m : Bool) (u : ℕ) → not ((a && nat_le u most) && m) ≡ true → not ((a && nat_le u less) && m) ≡ true
    weaker false m u h = refl
    weaker true false u h = by_cases (nat_le u less) (λ k. rw k refl) (λ k. rw k refl)
    weaker true true u h =
        by_cases (nat_le u less)
        (λ k. let more : nat_le u most ≡ true = le-leb u most (omega (arith, leb-true u less k, le)) in let h' = rw more at h in absurd (false≢true h'))
        (λ k. rw k refl)

    over : (l : List OwnEntry) → none_in s p place most l ≡ true → none_in s p place less l ≡ true
    over [] h = refl
    over (e ∷ es) h =
        let a = and_parts (not (is_past_own place most e && is_missing s p e.name)) (none_in s p place most es) h in
        rw (weaker (is_past place e.name) (is_missing s p e.name) (units e.len) a.0) (over es a.1)

-- ---- slots

first_slot : (n : ℕ) → is_lt (nat_cmp n 0) ≡ false
first_slot n = grind (arith, nat_tests)

-- chunks have none
pub flat_from : {E : Type 0} (key : E → Object) (f : E → List ℕ) (l : List E) → ((e : E) (c : List ℕ) → key e ≡ Chunk c → f e ≡ []) → flat_map f (from_object key (Slot 0) l) ≡ flat_map f l
flat_from key f [] none = refl
flat_from {E = E} key f (e ∷ es) none = ap (flat_map f) (from_step key (Slot 0) e es) ∙ by_object (key e) refl (flat_from key f es none)
  where
    by_object : (o : Object) → key e ≡ o → flat_map f (from_object key (Slot 0) es) ≡ flat_map f es → flat_map f (cond (is_lt (object_cmp o (Slot 0))) (from_object key (Slot 0) es) (e ∷ es)) ≡ flat_map f (e ∷ es)
    by_object (Chunk c) is rest = rest ∙ ap (λ l. l ++ flat_map f es) (sym (none e c is))
    by_object (Slot n) is rest = rw (first_slot n) refl

take_front : (most : ℕ) (a b : List ℕ) → length a ≡ most → take most (a ++ b) ≡ a
take_front zero [] b h = refl
take_front zero (x ∷ xs) b h = absurd (omega (arith, h))
take_front (suc n) [] b h = absurd (omega (arith, h))
take_front (suc n) (x ∷ xs) b h = ap (λ l. x ∷ l) (take_front n xs b (omega (arith, h)))

take_whole : (most : ℕ) (a : List ℕ) → length a ≤ most → take most a ≡ a
take_whole zero [] h = refl
take_whole zero (x ∷ xs) h = absurd (omega (arith, h))
take_whole (suc n) [] h = refl
take_whole (suc n) (x ∷ xs) h = ap (λ l. x ∷ l) (take_whole n xs (omega (arith, h)))

-- The numbers gathered so far with those of the slots from a number on are all of them, and are no more than
-- are wanted.
pub record Gathers {E : Type 0} (key : E → Object) (f : E → List ℕ) (all : List E) (from most : ℕ) (numbers : List ℕ) : Type 0 where
  pub whole : numbers ++ flat_map f (from_object key (Slot from) all) ≡ flat_map f (from_object key (Slot 0) all)
  pub few : length numbers ≤ most
  pub small : from ≤ 2 ^ 32

pub gathers_none : {E : Type 0} (key : E → Object) (f : E → List ℕ) (all : List E) (most : ℕ) → Gathers key f all 0 most []
gathers_none key f all most = record { whole = refl; few = omega arith; small = omega arith }

pub gathers_more : {E : Type 0} (key : E → Object) (f : E → List ℕ) (all : List E) (from next most : ℕ) (numbers more : List ℕ) (e : E) → IsSlotFrom key all from (Some e) → Gathers key f all from most numbers → length numbers < most → length (f e) ≤ 1 → more ≡ numbers ++ f e → next ≡ number_behind (key e) → next ≤ 2 ^ 32 → Gathers key f all next most more × (from < next)
gathers_more key f all from next most numbers more e slot g few one is at small =
    let behind : next ≡ slot.0 + 1 = at ∙ ap number_behind slot.1 in (
      record {
        whole =
            ap (λ l. l ++ flat_map f (from_object key (Slot next) all)) is
            ∙ append_assoc numbers (f e) (flat_map f (from_object key (Slot next) all))
            ∙ ap (λ n. numbers ++ (f e ++ flat_map f (from_object key (Slot n) all))) behind
            ∙ ap (λ l. numbers ++ flat_map f l) (sym slot.3)
            ∙ g.whole;
        few = omega (arith, ap length is, length-append numbers (f e), few, one);
        small = small;
      },
      omega (arith, behind, slot.2),
    )

pub gathers_all : {E : Type 0} (key : E → Object) (f : E → List ℕ) (all : List E) (from most : ℕ) (numbers : List ℕ) → IsSlotFrom key all from None → Gathers key f all from most numbers → numbers ≡ take most (flat_map f (from_object key (Slot 0) all))
gathers_all key f all from most numbers past g =
    let whole : numbers ≡ flat_map f (from_object key (Slot 0) all) = sym (append-nil numbers) ∙ ap (λ l. numbers ++ flat_map f l) (sym past) ∙ g.whole in
    sym (ap (take most) (sym whole) ∙ take_whole most numbers g.few)

pub gathers_enough : {E : Type 0} (key : E → Object) (f : E → List ℕ) (all : List E) (from most : ℕ) (numbers : List ℕ) → Gathers key f all from most numbers → length numbers ≡ most → numbers ≡ take most (flat_map f (from_object key (Slot 0) all))
gathers_enough key f all from most numbers g h = sym (ap (take most) (sym g.whole) ∙ take_front most numbers (flat_map f (from_object key (Slot from) all)) h)

none_of_two : (b : Bool) (l : List ℕ) → l ≡ [] → (if b then l else []) ≡ []
none_of_two true l h = h
none_of_two false l h = refl

pub gives_all : (s : State) (p : ℕ) → flat_map (gives s p) (from_object in_key (Slot 0) (row s p).ins) ≡ slots_to_give s p
gives_all s p = flat_from in_key (gives s p) (row s p).ins (λ e c is. none_of_two (is_direct_or_home e && not (tied_in s p e.object)) (slot_number e.object) (ap slot_number is))

pub fills_all : (s : State) (p : ℕ) (probed : List Object) → flat_map (fills s p probed) (from_object out_key (Slot 0) (row s p).outs) ≡ slots_to_fill s p probed
fills_all s p probed = flat_from out_key (fills s p probed) (row s p).outs (λ e c is. none_of_two (is_own e && is_free s p probed e.object) (slot_number e.object) (ap slot_number is))
