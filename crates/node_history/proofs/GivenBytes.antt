-- The bytes that a record gives a slot, found by the slot's place.
use Rattle.std.proofs.Common.{◌≡◌, ℕ, zero, suc, ◌+◌, ◌*◌, ◌-◌, ◌<◌, ◌≤◌, Bool, true, false, ◌&&◌, ◌==◌, cond, List, [], ◌∷◌, ◌++◌, length, take, drop, slice_get, is_some, option_map, Option, Some, None, IfSome, refl, sym, ◌∙◌, ap, subst, arith}
use Rattle.std.specs.Prelude.{position}
use Rattle.std.specs.List.{list_any, list_all, position_or_len, copy_within}
use Rattle.std.proofs.Math.Seq.{paste}
use Rattle.std.proofs.lemmas.List.Edits.{take-paste}
use Rattle.std.proofs.lemmas.Bool.{false≢true, eqb-true, and_parts, lt-ltb}
use Rattle.std.proofs.lemmas.List.{length-drop, drop-drop, take_all, append-nil}
use Rattle.std.proofs.Math.ListN.{drop_of_length-le}
use Rattle.psb_station.proofs.Spans.{same_some, at_some}
use Rattle.node_journal.specs.Entry.{Entry}
use Rattle.psb_model.specs.State.{State, nothing_yet, row}
use Rattle.psb_model.specs.Heads.{head_of, body_of}
use Rattle.psb_model.specs.Grammar.{in_grammar, fits_widths, is_u8, is_u32, is_u64, is_digest, are_bytes, body_fits, numbers_listed}
use Rattle.psb_model.specs.Conditions.{peer_of}
use Rattle.psb_model.specs.Effects.{after}
use Rattle.psb_model.specs.History.{state, is_lawful, lawful_from}
use Rattle.psb_model.specs.Needed.{slots_given, gives_slot, last_that, last_place, piece_of, slot_bytes}
use Rattle.psb_model.specs.declared.change.Change.{Change}
use Rattle.psb_model.specs.declared.change.Change.TheVariants.{LetGoBack, Replaced, Settled}
use Rattle.psb_model.proofs.ByObject.{by_cases}
use Rattle.psb_model.proofs.Prefixes.{lawful_cons}
use Rattle.model_laws.proofs.Directs.{has_direct}
use Rattle.change_codec.specs.Records.{IsRecord, IsRead, OneChangeEach}
use Rattle.slot_places.specs.declared.tables.SlotTables.{SlotTables}
use Rattle.slot_places.specs.Slots.{slot_record, KnowsSlots, AreBelow}
use Rattle.node_history.specs.Less.{without_body}
use Rattle.node_history.specs.Stands.{AreDecoded}
use Rattle.node_history.specs.Given.{gives_number, IsPlaceIn, AreGivenIn}
use Rattle.node_history.proofs.Brought.{or_here, or_this}
use Rattle.node_history.proofs.Less.{slots_without, piece_by}

-- ---- a slot's place, and its piece of the body

place_in_list : (p : ℕ → Bool) (l : List ℕ) → list_any p l ≡ true → position_or_len p l < length l
place_in_list p [] is = absurd (false≢true is)
place_in_list p (x ∷ xs) is = by_cases (p x)
    (λ k. rw k (omega arith))
    (λ k. let rest : position_or_len p xs < length xs = place_in_list p xs (rw k at is) in rw k (omega (arith, rest)))

-- a number that is there has a place
pub place_there : (p : ℕ → Bool) (l : List ℕ) → list_any p l ≡ true → position p l ≡ Some (position_or_len p l)
place_there p l is = rw (lt-ltb (position_or_len p l) (length l) (place_in_list p l is)) refl

piece_at : (n : ℕ) (ms body : List ℕ) (i : ℕ) → i ≡ position_or_len (λ m. m == n) ms → i < length ms → length body ≡ 512 * length ms → (512 * i + 512 ≤ length body) × (piece_of n ms body ≡ take 512 (drop (512 * i) body))
piece_at n [] body i at lt long = absurd (omega (arith, lt))
piece_at n (m ∷ ms) body i at lt long = by_cases (m == n)
    (λ k.
    let first : i ≡ 0 = rw k at at in
    rw (first, k) (omega (arith, long), refl))
    (λ k.
    let j = position_or_len (λ m. m == n) ms in
    let next : i ≡ suc j = rw k at at ∙ omega arith in
    let rest = piece_at n ms (drop 512 body) j refl (omega (arith, next, lt)) (length-drop 512 body ∙ omega (arith, long)) in
    let behind : drop (512 * j) (drop 512 body) ≡ drop (512 * i) body = drop-drop (512 * j) 512 body ∙ ap (λ (k : ℕ). drop k body) (omega (arith, next)) in
    rw k (omega (arith, next, rest.0, length-drop 512 body, long), rest.1 ∙ ap (take 512) behind))

-- ---- a change that gives slots their bytes, and what is read of its head alone

gives_body : (c : Change) (n : ℕ) (head : List ℕ) (body : Option (List ℕ)) → gives_number n c ≡ true → IsRecord c head body → body ≡ body_of c
gives_body (LetGoBack x) n head body is r = r.body_is
gives_body (Replaced x) n head body is r = r.body_is
gives_body (Settled x) n head body is r = r.body_is
gives_body _ n head body is r = absurd (false≢true is)

fits_long : (n : ℕ) (body : Option (List ℕ)) (bytes : List ℕ) → body_fits n body ≡ true → body ≡ Some bytes → length bytes ≡ n
fits_long n None bytes fits there = absurd (cc (there))
fits_long n (Some b) bytes fits there = ap length (sym (same_some (Some b) b bytes refl there)) ∙ eqb-true (length b) n fits

-- its body has 512 bytes for each of its slots
body_long : (c : Change) (n : ℕ) (bytes : List ℕ) → gives_number n c ≡ true → in_grammar c ≡ true → body_of c ≡ Some bytes → length bytes ≡ 512 * length (slots_given c)
body_long (LetGoBack x) n bytes is g there = fits_long (512 * length x.slots) x.body bytes (and_parts (body_fits (512 * length x.slots) x.body) (numbers_listed x.slots) g).0 there
body_long (Replaced x) n bytes is g there = by_cases (x.place == 0)
    (λ k. fits_long (cond (x.place == 0) 512 0) x.body bytes g there ∙ rw k refl)
    (λ k. absurd (false≢true (rw k at is)))
body_long (Settled x) n bytes is g there = fits_long (512 * length x.slots) x.body bytes (and_parts (body_fits (512 * length x.slots) x.body) (numbers_listed x.slots) g).0 there
body_long _ n bytes is g there = absurd (false≢true is)

bare_read : (c : Change) (n : ℕ) (head : List ℕ) → gives_number n c ≡ true → head ≡ head_of c → in_grammar c ≡ true → fits_widths c ≡ true → IsRead (without_body c) head None
bare_read (LetGoBack x) n head is head_is g w = record {
  grammar = (and_parts (body_fits (512 * length x.slots) x.body) (numbers_listed x.slots) g).1;
  widths = rw ((and_parts (is_u32 x.peer && is_u64 x.deal && is_digest x.name && list_all is_u32 x.slots) (are_bytes x.body) w).0) refl;
  stands = record { head_is = head_is; body_is = refl };
}
bare_read (Replaced x) n head is head_is g w = record {
  grammar = refl;
  widths = rw ((and_parts (is_u32 x.peer && is_u64 x.deal && is_u32 x.slot && is_u8 x.place && is_u32 x.home) (are_bytes x.body) w).0) refl;
  stands = record { head_is = head_is; body_is = refl };
}
bare_read (Settled x) n head is head_is g w = record {
  grammar = (and_parts (body_fits (512 * length x.slots) x.body) (numbers_listed x.slots) g).1;
  widths = rw ((and_parts (is_u32 x.peer && is_u64 x.deal && list_all is_u32 x.slots) (are_bytes x.body) w).0) refl;
  stands = record { head_is = head_is; body_is = refl };
}
bare_read _ n head is head_is g w = absurd (false≢true is)

-- so the slot's place is known from the head
pub place_known : (c : Change) (n : ℕ) (head : List ℕ) (body : Option (List ℕ)) (place : Option ℕ) → IsRead c head body → gives_number n c ≡ true → IsPlaceIn place n head → place ≡ Some (position_or_len (λ m. m == n) (slots_given c))
place_known c n head body place read is known =
    known (without_body c) (bare_read c n head is read.stands.head_is read.grammar read.widths)
    ∙ ap (λ (l : List ℕ). position (λ m. m == n) l) (slots_without c)
    ∙ place_there (λ m. m == n) (slots_given c) is

pub place_of_read : (one : OneChangeEach) (c : Change) (n : ℕ) (head : List ℕ) (place : Option ℕ) → IsRead c head None → place ≡ position (λ m. m == n) (slots_given c) → IsPlaceIn place n head
place_of_read one c n head place read is = λ d also.
    let same : c ≡ d = one c d head None read.grammar also.grammar read.widths also.widths read.stands also.stands in
    is ∙ ap (λ (x : Change). position (λ m. m == n) (slots_given x)) same

-- ---- what was found

-- no place: the record gives the slot nothing
pub no_place : (o : Option Entry) (n : ℕ) (head bytes : List ℕ) → IfSome o (λ e. head ≡ e.head) → IsPlaceIn None n head → IfSome o (λ e. AreGivenIn e n false bytes)
no_place None n head bytes at known = tt
no_place (Some e) n head bytes at known = λ c read is.
    let place = place_known c n e.head e.body None read is (subst (IsPlaceIn None n) at known) in
    absurd (cc (place))

-- no body: it was given up
pub no_body : (o : Option Entry) (n : ℕ) (keeps : Bool) (bytes : List ℕ) → IfSome o (λ e. is_some e.body ≡ keeps) → keeps ≡ false → IfSome o (λ e. AreGivenIn e n false bytes)
no_body None n keeps bytes has gone = tt
no_body (Some e) n keeps bytes has gone = λ c read is. at c (body_of c) (ap is_some (sym (gives_body c n e.head e.body is read.stands)) ∙ has ∙ gone)
  where
    at : (c : Change) → (b : Option (List ℕ)) → is_some b ≡ false → option_map (piece_of n (slots_given c)) b ≡ None
    at c None none = refl
    at c (Some x) none = absurd (false≢true (sym none))

-- the piece at the place
pub piece_found : (o : Option Entry) (n i : ℕ) (head body piece : List ℕ) (found : Bool) → IfSome o (λ e. head ≡ e.head) → IfSome o (λ e. e.body ≡ Some body) → IsPlaceIn (Some i) n head
    → (512 * i + 512 ≤ length body → (found ≡ true) × (piece ≡ take 512 (drop (512 * i) body))) → IfSome o (λ e. AreGivenIn e n found piece)
piece_found None n i head body piece found at has known taken = tt
piece_found (Some e) n i head body piece found at has known taken = λ c read is.
    let ms = slots_given c in
    let place : i ≡ position_or_len (λ m. m == n) ms = same_some (Some i) i (position_or_len (λ m. m == n) ms) refl (place_known c n e.head e.body (Some i) read is (subst (IsPlaceIn (Some i) n) at known)) in
    let body_is : body_of c ≡ Some body = sym (gives_body c n e.head e.body is read.stands) ∙ has in
    let inside : i < length ms = omega (arith, place, place_in_list (λ m. m == n) ms is) in
    let piece_is = piece_at n ms body i place inside (body_long c n body is read.grammar body_is) in
    let done = taken piece_is.0 in
    ap (option_map (piece_of n ms)) body_is ∙ ap (λ (l : List ℕ). Some l) (piece_is.1 ∙ sym done.1) ∙ sym (ap (λ (b : Bool). cond b (Some piece) None) done.0)

-- ---- the record that gave a slot its bytes last

-- the last change that passes a test stands at this place
record IsLast (test : Change → Bool) (h : List Change) (j : ℕ) : Type 0 where
  c : Change
  there : slice_get h j ≡ Some c
  last : last_that test h ≡ Some c
  passes : test c ≡ true

no_last : (n : ℕ) (test : Change → Bool) (h : List Change) → last_place n test h ≡ None → last_that test h ≡ None
no_last n test [] none = refl
no_last n test (c ∷ cs) none = at (last_place (n + 1) test cs) (test c) (no_last (n + 1) test cs) refl refl none
  where
    at : (o : Option ℕ) (b : Bool) → (last_place (n + 1) test cs ≡ None → last_that test cs ≡ None) → last_place (n + 1) test cs ≡ o → test c ≡ b → or_here o b n ≡ None → or_this (last_that test cs) (test c) c ≡ None
    at (Some k) b rest is here none = absurd (cc (none))
    at None true rest is here none = absurd (cc (none))
    at None false rest is here none = rw (rest is, here) refl

is_last : (n : ℕ) (test : Change → Bool) (h : List Change) (k : ℕ) → last_place n test h ≡ Some k → (j : ℕ) × (k ≡ n + j) × IsLast test h j
is_last n test [] k is = absurd (cc (is))
is_last n test (c ∷ cs) k is = at (last_place (n + 1) test cs) (test c) (is_last (n + 1) test cs) refl refl is
  where
    at : (o : Option ℕ) (b : Bool) → ((k : ℕ) → last_place (n + 1) test cs ≡ Some k → (j : ℕ) × (k ≡ (n + 1) + j) × IsLast test cs j) → last_place (n + 1) test cs ≡ o → test c ≡ b → or_here o b n ≡ Some k → (j : ℕ) × (k ≡ n + j) × IsLast test (c ∷ cs) j
    at (Some m) b rest later here same =
        let r = rest m later in
        let m_is : m ≡ k = same_some (Some m) m k refl same in
        (suc r.0, omega (arith, r.1, m_is), record { c = r.2.c; there = r.2.there; last = ap (λ (o : Option Change). or_this o (test c) c) r.2.last; passes = r.2.passes })
    at None true rest later here same =
        (0, omega (arith, same_some (Some n) n k refl same), record { c = c; there = refl; last = ap (λ (o : Option Change). or_this o (test c) c) (no_last (n + 1) test cs later) ∙ ap (λ (b : Bool). cond b (Some c) None) here; passes = here })
    at None false rest later here same = absurd (cc (same))

-- a change of a history, and its record
record IsAt (c : Change) (es : List Entry) (j : ℕ) : Type 0 where
  e : Entry
  there : slice_get es j ≡ Some e
  read : IsRead c e.head e.body

record_at : (s : State) (h : List Change) (es : List Entry) (j : ℕ) (c : Change) → lawful_from s h ≡ true → list_all fits_widths h ≡ true → AreDecoded h es → slice_get h j ≡ Some c → IsAt c es j
record_at s [] es j c lawful fit are there = absurd (cc (there))
record_at s (d ∷ h) [] j c lawful fit are there = absurd are
record_at s (d ∷ h) (e ∷ es) zero c lawful fit are there =
    let same : d ≡ c = same_some (Some d) d c refl there in
    record { e = e; there = refl; read = subst (λ (x : Change). IsRead x e.head e.body) same (record { grammar = (lawful_cons s d h lawful).grammar; widths = (and_parts (fits_widths d) (list_all fits_widths h) fit).0; stands = are.0 }) }
record_at s (d ∷ h) (e ∷ es) (suc j) c lawful fit are there =
    let rest = record_at (after s d) h es j c (lawful_cons s d h lawful).rest (and_parts (fits_widths d) (list_all fits_widths h) fit).1 are.1 there in
    record { e = rest.e; there = rest.there; read = rest.read }

-- the change gives a slot of the number
gives_one : (c : Change) (p n : ℕ) → gives_slot p n c ≡ true → gives_number n c ≡ true
gives_one c p n is = at (peer_of c) is
  where
    at : (o : Option ℕ) → elim o [ None ↦ false | Some q ↦ q == p && list_any (λ m. m == n) (slots_given c) ] ≡ true → gives_number n c ≡ true
    at None is = absurd (false≢true is)
    at (Some q) is = (and_parts (q == p) (list_any (λ m. m == n) (slots_given c)) is).1

-- what was found in the record that the tables have are the bytes of the slot
pub found_last : (t : SlotTables) (h : List Change) (es : List Entry) (p n k : ℕ) (found : Bool) (bytes : List ℕ) → is_lawful h ≡ true → list_all fits_widths h ≡ true → KnowsSlots t h → AreDecoded h es → has_direct (row (state h) p).ins n ≡ true
    → slot_record t p n ≡ Some k → IfSome (slice_get es k) (λ e. AreGivenIn e n found bytes) → slot_bytes p n h ≡ cond found (Some bytes) None
found_last t h es p n k found bytes lawful fit knows are direct is given =
    let l = is_last 0 (gives_slot p n) h k (sym (knows p n direct) ∙ is) in
    let r = record_at nothing_yet h es l.0 l.2.c lawful fit are l.2.there in
    let there : slice_get es k ≡ Some r.e = ap (λ (i : ℕ). slice_get es i) (l.1 ∙ omega arith) ∙ r.there in
    ap (piece_by n) l.2.last
    ∙ at_some (slice_get es k) (λ e. AreGivenIn e n found bytes) r.e given there l.2.c r.read (gives_one l.2.c p n l.2.passes)

-- a slot that has no record there was given no bytes
pub found_none : (t : SlotTables) (h : List Change) (p n : ℕ) → KnowsSlots t h → has_direct (row (state h) p).ins n ≡ true → slot_record t p n ≡ None → slot_bytes p n h ≡ None
found_none t h p n knows direct none = ap (piece_by n) (no_last 0 (gives_slot p n) h (sym (knows p n direct) ∙ none))

-- a record that the tables have is one of the log's
pub record_below : (t : SlotTables) (size p n k : ℕ) → AreBelow t size → slot_record t p n ≡ Some k → k < size
record_below t size p n k below is = below p n k is

-- the piece that was copied to the front
pub piece_taken : (xs : List ℕ) (start i : ℕ) → start ≡ 512 * i → 512 * i + 512 ≤ length xs → take 512 (copy_within xs start (start + 512) 0) ≡ take 512 (drop (512 * i) xs)
piece_taken xs start i is long =
    ap (λ (n : ℕ). take 512 (paste xs 0 (drop start xs) n)) {x = (start + 512) - start} {y = 512} (omega arith)
    ∙ take-paste xs 0 (drop start xs) 512 (omega arith) (omega (arith, length-drop start xs, is, long))
    ∙ ap (λ (n : ℕ). take 512 (drop n xs)) is

-- where a slice of all of a list was changed, the list is the slice
pub front_of : (xs ys : List ℕ) (len n : ℕ) → len ≡ length xs → length ys ≡ length xs → take n (take len (ys ++ drop (length ys) xs)) ≡ take n ys
front_of xs ys len n long same =
    ap (λ (l : List ℕ). take n (take len (ys ++ l))) (drop_of_length-le xs (omega (arith, same)))
    ∙ ap (λ (l : List ℕ). take n (take len l)) (append-nil ys)
    ∙ ap (take n) (take_all len ys (omega (arith, long, same)))
