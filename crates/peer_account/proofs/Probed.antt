-- A probe's objects: objects at places, and rows of debt that come and go.
use Rattle.std.proofs.Common.{◌≡◌, ℕ, ◌+◌, ◌≤◌, ◌<◌, Bool, true, false, not, ◌||◌, cond, List, [], ◌∷◌, ◌++◌, length, take, drop, map, filter, sum_by, get_or, Option, Some, None, refl, sym, ap, ◌∙◌, arith, append-nil}
use Rattle.std.specs.Prelude.{◌==◌, slice_get, option_to_list}
use Rattle.std.proofs.lemmas.Bool.{false≢true, and_parts, eqb-true}
use Rattle.std.proofs.lemmas.Option.{slice_get-get_or, get_or_from_slice_get}
use Rattle.std.proofs.lemmas.List.{append_assoc, take_more, drop_more, take-append-drop, length-append}
use Rattle.std.proofs.lemmas.List.Sums.{sum_by-cons}
use Rattle.psb_bytes.specs.declared.ids.Object.{Object}
use Rattle.psb_model.specs.declared.entries.OutEntry.{OutEntry}
use Rattle.psb_model.specs.declared.entries.DebtEntry.{DebtEntry}
use Rattle.psb_model.specs.Words.{object_eq, listed, objects_distinct, has, occurs, only, with_all, without}
use Rattle.psb_model.specs.State.{Row, out_key, out_size, debt_key, debt_size}
use Rattle.psb_model.specs.Conditions.{at_places}
use Rattle.psb_model.specs.Effects.{debt_row, lost_rows, out_again, is_whole_listed}
use Rattle.psb_model.proofs.ByObject.{by_cases, object_eq-same, object_eq-refl, object_eq-swap, units_at-with_all, units_at-append, has-occurs}
use Rattle.peer_account.specs.View.{out_anew, lost_row, regained_row}
use Rattle.peer_account.specs.Probing.{StandOnce}
use Rattle.peer_lists.specs.Entries.{in_order, find_at}
use Rattle.peer_lists.proofs.Trees.{without_none}
use Rattle.peer_lists.proofs.Found.{none_behind, rest_ordered}
use Rattle.peer_lists.proofs.Ordered.{is_false}

-- ---- objects at places

pub at_append : (os : List Object) (ks js : List ℕ) → at_places os (ks ++ js) ≡ at_places os ks ++ at_places os js
at_append os [] js = refl
at_append os (k ∷ ks) js = ap (λ l. option_to_list (slice_get os k) ++ l) (at_append os ks js) ∙ sym (append_assoc (option_to_list (slice_get os k)) (at_places os ks) (at_places os js))

-- an object between others is none of those before it
pub not_before : (a b : List Object) (o : Object) → objects_distinct (a ++ o ∷ b) ≡ true → listed a o ≡ false
not_before [] b o d = refl
not_before (x ∷ xs) b o d =
    let two = and_parts (not (listed (xs ++ o ∷ b) x)) (objects_distinct (xs ++ o ∷ b)) d in
    rw (object_eq-swap x o ∙ unlisted xs (is_false (listed (xs ++ o ∷ b) x) two.0)) (not_before xs b o two.1)
  where
    unlisted : (l : List Object) → listed (l ++ o ∷ b) x ≡ false → object_eq o x ≡ false
    unlisted [] h = by_cases (object_eq o x) (λ k. absurd (false≢true (sym h ∙ rw k refl))) (λ k. k)
    unlisted (y ∷ ys) h = unlisted ys (by_cases (object_eq y x) (λ k. absurd (false≢true (sym h ∙ rw k refl))) (λ k. rw k at h))

-- ---- losses one after another

pub only_none : {E : Type 0} (key : E → Object) (l : List E) (o : Object) → has key l o ≡ false → only key (o ∷ []) l ≡ []
only_none key [] o h = refl
only_none key (y ∷ ys) o h = by_cases (object_eq (key y) o)
    (λ k. absurd (false≢true (sym h ∙ rw k refl)))
    (λ k. rw (object_eq-swap o (key y) ∙ k) (only_none key ys o (rw k at h)))

pub only_found : {E : Type 0} (key : E → Object) (l : List E) (o : Object) (e : E) → in_order key l ≡ true → find_at key l o ≡ Some e → only key (o ∷ []) l ≡ e ∷ []
only_found key [] o e ordered is = absurd (cc (is))
only_found key (x ∷ xs) o e ordered is = by_cases (object_eq (key x) o)
    (λ k.
    let found : Some x ≡ Some e = rw k at is in
    let same : x ≡ e = cc (found) in
    let none : only key (o ∷ []) xs ≡ [] = only_none key xs o (none_behind key x xs o ordered k) in
    rw (object_eq-swap o (key x) ∙ k) (λ i. same i ∷ none i))
    (λ k. rw (object_eq-swap o (key x) ∙ k) (only_found key xs o e (rest_ordered key x xs ordered) (rw k at is)))

-- the row that an entry becomes is the only one
pub lost_found : (change : ℕ) (declined : Bool) (l : List OutEntry) (o : Object) (e : OutEntry) → in_order out_key l ≡ true → find_at out_key l o ≡ Some e → lost_rows change declined (o ∷ []) l ≡ debt_row change declined e ∷ []
lost_found change declined l o e ordered is = ap (λ es. map (debt_row change declined) es ++ []) (only_found out_key l o e ordered is)

pub lost_none : (change : ℕ) (declined : Bool) (l : List OutEntry) (o : Object) → has out_key l o ≡ false → lost_rows change declined (o ∷ []) l ≡ []
lost_none change declined l o h = ap (λ es. map (debt_row change declined) es ++ []) (only_none out_key l o h)

pub gone_then : {E : Type 0} (key : E → Object) (os : List Object) (o : Object) (l : List E) → without key (o ∷ []) (without key os l) ≡ without key (os ++ o ∷ []) l
gone_then key os o [] = refl
gone_then key os o (e ∷ es) = by_cases (listed os (key e))
    (λ k.
    let gone : listed (os ++ o ∷ []) (key e) ≡ true = listed_more os o (key e) ∙ ap (λ b. b || listed (o ∷ []) (key e)) k in
    rw (k, gone) (gone_then key os o es))
    (λ k. by_cases (listed (o ∷ []) (key e))
    (λ j.
    let gone : listed (os ++ o ∷ []) (key e) ≡ true = listed_more os o (key e) ∙ ap (λ b. b || listed (o ∷ []) (key e)) k ∙ j in
    rw (k, gone, j) (gone_then key os o es))
    (λ j.
    let stays : listed (os ++ o ∷ []) (key e) ≡ false = listed_more os o (key e) ∙ ap (λ b. b || listed (o ∷ []) (key e)) k ∙ j in
    rw (k, stays, j) (ap (λ l. e ∷ l) (gone_then key os o es))))
  where
    listed_more : (os : List Object) (o x : Object) → listed (os ++ o ∷ []) x ≡ (listed os x || listed (o ∷ []) x)
    listed_more [] o x = refl
    listed_more (y ∷ ys) o x = by_cases (object_eq y x) (λ k. rw k refl) (λ k. rw k (listed_more ys o x))

rows_then : (change : ℕ) (declined : Bool) (os : List Object) (o : Object) (l : List OutEntry) → lost_rows change declined (os ++ o ∷ []) l ≡ lost_rows change declined os l ++ lost_rows change declined (o ∷ []) l
rows_then change declined [] o l = refl
rows_then change declined (x ∷ xs) o l =
    let first = map (debt_row change declined) (only out_key (x ∷ []) l) in
    ap (λ r. first ++ r) (rows_then change declined xs o l) ∙ sym (append_assoc first (lost_rows change declined xs l) (lost_rows change declined (o ∷ []) l))

only_still : (os : List Object) (o : Object) (l : List OutEntry) → listed os o ≡ false → only out_key (o ∷ []) (without out_key os l) ≡ only out_key (o ∷ []) l
only_still os o [] h = refl
only_still os o (e ∷ es) h = by_cases (listed os (out_key e))
    (λ k. let other : object_eq o (out_key e) ≡ false = by_cases (object_eq o (out_key e)) (λ j. absurd (false≢true (sym h ∙ ap (listed os) (object_eq-same o (out_key e) j) ∙ k))) (λ j. j) in
    rw (k, other) (only_still os o es h))
    (λ k. by_cases (object_eq o (out_key e))
    (λ j. rw (k, j) (ap (λ l. e ∷ l) (only_still os o es h)))
    (λ j. rw (k, j) (only_still os o es h)))

pub lost_then : (change : ℕ) (declined : Bool) (os : List Object) (o : Object) (r : Row) → listed os o ≡ false → lost_row change declined (o ∷ []) (lost_row change declined os r) ≡ lost_row change declined (os ++ o ∷ []) r
lost_then change declined os o r h =
    let debts : (r.debts ++ lost_rows change declined os r.outs) ++ lost_rows change declined (o ∷ []) (without out_key os r.outs) ≡ r.debts ++ lost_rows change declined (os ++ o ∷ []) r.outs =
    append_assoc r.debts (lost_rows change declined os r.outs) (lost_rows change declined (o ∷ []) (without out_key os r.outs))
    ∙ ap (λ l. r.debts ++ (lost_rows change declined os r.outs ++ (map (debt_row change declined) l ++ []))) (only_still os o r.outs h)
    ∙ ap (λ l. r.debts ++ l) (sym (rows_then change declined os o r.outs))
    in
    λ i. record r { outs = gone_then out_key os o r.outs i; debts = debts i }

pub lost_first : (change : ℕ) (declined : Bool) (r : Row) → lost_row change declined [] r ≡ r
lost_first change declined r = λ i. record r { outs = without_none out_key r.outs i; debts = append-nil r.debts i }

-- one loss more of a list of distinct objects
pub lost_more : (change : ℕ) (declined : Bool) (objects : List Object) (i : ℕ) (o : Object) (r now new : Row) → objects_distinct objects ≡ true → i < length objects → o ≡ get_or objects i o → now ≡ lost_row change declined (take i objects) r → new ≡ lost_row change declined (o ∷ []) now → new ≡ lost_row change declined (take (i + 1) objects) r
lost_more change declined objects i o r now new distinct lt is was then =
    let split : objects ≡ take i objects ++ o ∷ drop (i + 1) objects = sym (take-append-drop i objects) ∙ ap (λ l. take i objects ++ l) (drop_more objects i o lt ∙ ap (λ x. x ∷ drop (i + 1) objects) (sym is)) in
    let other : listed (take i objects) o ≡ false = not_before (take i objects) (drop (i + 1) objects) o (ap objects_distinct (sym split) ∙ distinct) in
    then ∙ ap (lost_row change declined (o ∷ [])) was ∙ lost_then change declined (take i objects) o r other
    ∙ ap (λ l. lost_row change declined l r) (ap (λ x. take i objects ++ x ∷ []) is ∙ sym (take_more objects i o lt))

-- what is read within a list is read whatever stands for what is not there
pub at_item : (places : List ℕ) (i : ℕ) → i < length places → get_or places i 0 ≡ get_or places i (get_or places i 0)
at_item places i lt = sym (get_or_from_slice_get places i (get_or places i 0) (get_or places i 0) (slice_get-get_or places i 0 lt))

-- the objects at the first places, with that at the next
at_more : (objects : List Object) (places : List ℕ) (i k : ℕ) → i < length places → k ≡ get_or places i k → at_places objects (take (i + 1) places) ≡ at_places objects (take i places) ++ at_places objects (k ∷ [])
at_more objects places i k lt is = ap (at_places objects) (take_more places i k lt ∙ ap (λ x. take i places ++ x ∷ []) (sym is)) ∙ at_append objects (take i places) (k ∷ [])

at_split : (objects : List Object) (places : List ℕ) (i k : ℕ) → i < length places → k ≡ get_or places i k → at_places objects places ≡ at_places objects (take i places) ++ at_places objects (k ∷ drop (i + 1) places)
at_split objects places i k lt is =
    ap (at_places objects) (sym (take-append-drop i places) ∙ ap (λ l. take i places ++ l) (drop_more places i k lt ∙ ap (λ x. x ∷ drop (i + 1) places) (sym is)))
    ∙ at_append objects (take i places) (k ∷ drop (i + 1) places)

-- those at a place, lost behind those at the places before it
pub lost_at : (change : ℕ) (objects : List Object) (places : List ℕ) (i k : ℕ) (r now new : Row) → objects_distinct (at_places objects places) ≡ true → i < length places → k ≡ get_or places i k → now ≡ lost_row change true (at_places objects (take i places)) r → new ≡ lost_row change true (at_places objects (k ∷ [])) now → new ≡ lost_row change true (at_places objects (take (i + 1) places)) r
lost_at change objects places i k r now new distinct lt is was then =
    then ∙ ap (lost_row change true (at_places objects (k ∷ []))) was
    ∙ by_place (slice_get objects k) (ap objects_distinct (sym (at_split objects places i k lt is)) ∙ distinct)
    ∙ ap (λ l. lost_row change true l r) (sym (at_more objects places i k lt is))
  where
    first : List Object
    first = at_places objects (take i places)

    by_place : (o : Option Object) → objects_distinct (first ++ (option_to_list o ++ at_places objects (drop (i + 1) places))) ≡ true → lost_row change true (option_to_list o ++ []) (lost_row change true first r) ≡ lost_row change true (first ++ (option_to_list o ++ [])) r
    by_place None d = lost_first change true (lost_row change true first r) ∙ ap (λ l. lost_row change true l r) (sym (append-nil first))
    by_place (Some o) d = lost_then change true first o r (not_before first (at_places objects (drop (i + 1) places)) o d)

-- one object at most is at a place, and with it there are no more than all
pub at_count : (objects : List Object) (places : List ℕ) (i k : ℕ) → i < length places → k ≡ get_or places i k → length (at_places objects (take i places)) + length (at_places objects (k ∷ [])) ≤ length (at_places objects places)
at_count objects places i k lt is = omega (arith, ap length (at_split objects places i k lt is), length-append (at_places objects (take i places)) (at_places objects (k ∷ drop (i + 1) places)), ap length (at_append objects (k ∷ []) (drop (i + 1) places)), length-append (at_places objects (k ∷ [])) (at_places objects (drop (i + 1) places)))

pub at_next : (objects : List Object) (places : List ℕ) (i k : ℕ) → i < length places → k ≡ get_or places i k → length (at_places objects (take (i + 1) places)) ≡ length (at_places objects (take i places)) + length (at_places objects (k ∷ []))
at_next objects places i k lt is = ap length (at_more objects places i k lt is) ∙ length-append (at_places objects (take i places)) (at_places objects (k ∷ []))

pub at_one : (objects : List Object) (k : ℕ) → objects_distinct (at_places objects (k ∷ [])) ≡ true
at_one objects k = one (slice_get objects k)
  where
    one : (o : Option Object) → objects_distinct (option_to_list o ++ []) ≡ true
    one None = refl
    one (Some o) = refl

-- ---- what comes again

-- the rows so far, with one more
anew_more : (objects : List Object) (rows : List DebtEntry) (i : ℕ) (d : DebtEntry) → i < length rows → d ≡ get_or rows i d → out_anew objects (take (i + 1) rows) ≡ out_anew objects (take i rows) ++ out_anew objects (d ∷ [])
anew_more objects rows i d lt is =
    ap (out_anew objects) (take_more rows i d lt ∙ ap (λ x. take i rows ++ x ∷ []) (sym is)) ∙ parts (take i rows)
  where
    parts : (l : List DebtEntry) → out_anew objects (l ++ d ∷ []) ≡ out_anew objects l ++ out_anew objects (d ∷ [])
    parts [] = refl
    parts (x ∷ xs) = by_cases (is_whole_listed objects x) (λ k. rw k (ap (λ l. out_again x ∷ l) (parts xs))) (λ k. rw k (parts xs))

anew_occurs : (objects : List Object) (rows : List DebtEntry) (o : Object) → occurs out_key (out_anew objects rows) o ≤ occurs debt_key rows o
anew_occurs objects [] o = omega arith
anew_occurs objects (d ∷ ds) o = by_cases (is_whole_listed objects d)
    (λ k. rw k (by_cases (object_eq d.object o) (λ j. rw j (omega (arith, anew_occurs objects ds o))) (λ j. rw j (omega (arith, anew_occurs objects ds o)))))
    (λ k. rw k (omega (arith, anew_occurs objects ds o)))

split_rows : (rows : List DebtEntry) (i : ℕ) (d : DebtEntry) → i < length rows → d ≡ get_or rows i d → rows ≡ take i rows ++ d ∷ drop (i + 1) rows
split_rows rows i d lt is = sym (take-append-drop i rows) ∙ ap (λ l. take i rows ++ l) (drop_more rows i d lt ∙ ap (λ x. x ∷ drop (i + 1) rows) (sym is))

abbrev one : Bool → ℕ
one b = cond b 1 0

-- what comes again is not there yet
pub anew_absent : (objects : List Object) (rows : List DebtEntry) (i : ℕ) (d : DebtEntry) (outs now : List OutEntry) → StandOnce outs rows → i < length rows → d ≡ get_or rows i d → now ≡ with_all out_key (out_anew objects (take i rows)) outs → has out_key now d.object ≡ false
anew_absent objects rows i d outs now once lt is was = by_cases (has out_key now d.object)
    (λ k. absurd (omega (arith, has-occurs out_key now d.object k, ap (λ l. occurs out_key l d.object) was, units_at-with_all out_key (λ _. 1) (out_anew objects (take i rows)) outs d.object, anew_occurs objects (take i rows) d.object, once d.object, ap (λ l. occurs debt_key l d.object) (split_rows rows i d lt is), units_at-append debt_key (λ _. 1) (take i rows) (d ∷ drop (i + 1) rows) d.object, ap one (object_eq-refl d.object))))
    (λ k. k)

-- and with it comes no more than all rows are
pub anew_room : (objects : List Object) (rows : List DebtEntry) (i : ℕ) (d : DebtEntry) → i < length rows → d ≡ get_or rows i d → is_whole_listed objects d ≡ true → length (out_anew objects (take i rows)) + 1 ≤ length (filter (is_whole_listed objects) rows)
anew_room objects rows i d lt is whole = omega (arith, ap (λ l. length (filter (is_whole_listed objects) l)) (split_rows rows i d lt is), parts (take i rows))
  where
    parts : (l : List DebtEntry) → length (out_anew objects l) + 1 ≤ length (filter (is_whole_listed objects) (l ++ d ∷ drop (i + 1) rows))
    parts [] = rw whole (omega arith)
    parts (x ∷ xs) = by_cases (is_whole_listed objects x) (λ k. rw k (omega (arith, parts xs))) (λ k. rw k (parts xs))

pub anew_units : (objects : List Object) (rows : List DebtEntry) (i : ℕ) (d : DebtEntry) → i < length rows → d ≡ get_or rows i d → is_whole_listed objects d ≡ true → sum_by out_size (out_anew objects (take i rows)) + d.units ≤ sum_by out_size (out_anew objects rows)
anew_units objects rows i d lt is whole = omega (arith, ap (λ l. sum_by out_size (out_anew objects l)) (split_rows rows i d lt is), parts (take i rows))
  where
    rest : List DebtEntry
    rest = filter (is_whole_listed objects) (drop (i + 1) rows)

    parts : (l : List DebtEntry) → sum_by out_size (out_anew objects l) + d.units ≤ sum_by out_size (out_anew objects (l ++ d ∷ drop (i + 1) rows))
    parts [] = omega (arith, ap (λ b. sum_by out_size (map out_again (cond b (d ∷ rest) rest))) whole, sum_by-cons out_size (out_again d) (map out_again rest))
    parts (x ∷ xs) = by_cases (is_whole_listed objects x)
        (λ k. rw k (omega (arith, parts xs, sum_by-cons out_size (out_again x) (out_anew objects xs), sum_by-cons out_size (out_again x) (out_anew objects (xs ++ d ∷ drop (i + 1) rows)))))
        (λ k. rw k (parts xs))

-- a row that is whole and listed is one more, and any other none
pub anew_one : (objects : List Object) (rows : List DebtEntry) (i : ℕ) (d : DebtEntry) → i < length rows → d ≡ get_or rows i d → is_whole_listed objects d ≡ true → out_anew objects (take (i + 1) rows) ≡ out_anew objects (take i rows) ++ out_again d ∷ []
anew_one objects rows i d lt is whole = anew_more objects rows i d lt is ∙ ap (λ b. out_anew objects (take i rows) ++ map out_again (cond b (d ∷ []) [])) whole

pub anew_none : (objects : List Object) (rows : List DebtEntry) (i : ℕ) (d : DebtEntry) → i < length rows → d ≡ get_or rows i d → is_whole_listed objects d ≡ false → out_anew objects (take (i + 1) rows) ≡ out_anew objects (take i rows)
anew_none objects rows i d lt is other = anew_more objects rows i d lt is ∙ ap (λ b. out_anew objects (take i rows) ++ map out_again (cond b (d ∷ []) [])) other ∙ append-nil (out_anew objects (take i rows))

-- what comes again is what was owed, and nothing is where no row is whole and listed
pub anew_owed : (objects : List Object) (rows : List DebtEntry) → sum_by out_size (out_anew objects rows) ≡ sum_by debt_size (filter (is_whole_listed objects) rows)
anew_owed objects [] = refl
anew_owed objects (d ∷ ds) = by_cases (is_whole_listed objects d)
    (λ k.
    let whole : (d.left == d.units) ≡ true = (and_parts (listed objects d.object) (d.left == d.units) k).1 in
    rw k (omega (arith, anew_owed objects ds, sum_by-cons out_size (out_again d) (out_anew objects ds), sum_by-cons debt_size d (filter (is_whole_listed objects) ds), eqb-true d.left d.units whole)))
    (λ k. rw k (anew_owed objects ds))

pub regained_none : (objects : List Object) (r : Row) → length (filter (is_whole_listed objects) r.debts) ≡ 0 → regained_row objects r ≡ r
regained_none objects r none = λ i. record r { outs = with_all out_key (map out_again (empty r.debts none i)) r.outs; debts = all_left r.debts none i }
  where
    empty : (l : List DebtEntry) → length (filter (is_whole_listed objects) l) ≡ 0 → filter (is_whole_listed objects) l ≡ []
    empty [] h = refl
    empty (d ∷ ds) h = by_cases (is_whole_listed objects d) (λ k. absurd (omega (arith, rw k at h))) (λ k. rw k (empty ds (rw k at h)))

    all_left : (l : List DebtEntry) → length (filter (is_whole_listed objects) l) ≡ 0 → filter (λ d. not (is_whole_listed objects d)) l ≡ l
    all_left [] h = refl
    all_left (d ∷ ds) h = by_cases (is_whole_listed objects d) (λ k. absurd (omega (arith, rw k at h))) (λ k. rw k (ap (λ l. d ∷ l) (all_left ds (rw k at h))))
