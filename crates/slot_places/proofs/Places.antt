-- The table of a peer, found by its place.
use Rattle.std.proofs.Common.{◌≡◌, ℕ, ◌+◌, ◌*◌, ◌≤◌, ◌<◌, nat_lt, Bool, true, false, not, ◌&&◌, cond, List, [], ◌∷◌, ◌++◌, length, get_or, set, Option, Some, None, Result, Ok, Err, OnOk, refl, sym, ap, ◌∙◌, subst, arith}
use Rattle.std.specs.Prelude.{◌==◌, position}
use Rattle.std.specs.Option.{option_or}
use Rattle.std.specs.List.{position_or_len}
use Rattle.std.proofs.lemmas.Bool.{eqb-true, eq-eqb, ltb-true}
use Rattle.std.proofs.lemmas.List.Folds.{find-set, find_past, find-append}
use Rattle.psb_bytes.specs.declared.ids.Object.TheVariants.{Slot}
use Rattle.psb_model.specs.Words.{listed, slots}
use Rattle.psb_model.proofs.ByObject.{by_cases}
use Rattle.slot_runs.specs.Records.{record_at}
use Rattle.slot_runs.proofs.Runs.{found_passes}
use Rattle.slot_runs.proofs.Slots.{place_some, place_none}
use Rattle.slot_places.specs.declared.tables.PeerSlots.{PeerSlots}
use Rattle.slot_places.specs.Moves.{slot_after}
use Rattle.slot_places.specs.Slots.{table_of, record_in, has_runs, has_room}

first_place : {A : Type 0} (p : A → Bool) (l : List A) (n : ℕ) → Some n ≡ position p l → (n ≡ position_or_len p l) × (n < length l)
first_place p l n e =
    by_cases (nat_lt (position_or_len p l) (length l))
    (λ k. let e' : Some n ≡ Some (position_or_len p l) = rw k at e in let same : n ≡ position_or_len p l = cc in (same, omega (arith, same, ltb-true (position_or_len p l) (length l) k)))
    (λ k. let e' : Some n ≡ None = rw k at e in absurd (cc))

-- what stands at the place is the peer's table
pub table_at : (ts : List PeerSlots) (p i : ℕ) (x : PeerSlots) → Some i ≡ position (λ (t : PeerSlots). t.peer == p) ts → x ≡ get_or ts i x → table_of ts p ≡ Some x
table_at ts p i x place is = sym (place_some (λ (t : PeerSlots). t.peer == p) ts i x place).0 ∙ ap (λ (t : PeerSlots). Some t) (sym is)

pub table_none : (ts : List PeerSlots) (p : ℕ) → None ≡ position (λ (t : PeerSlots). t.peer == p) ts → table_of ts p ≡ None
table_none ts p place = sym (place_none (λ (t : PeerSlots). t.peer == p) ts place).0

-- the peer's table with other records, and each other table as it was
pub table_set : (ts : List PeerSlots) (p i : ℕ) (x y : PeerSlots) → Some i ≡ position (λ (t : PeerSlots). t.peer == p) ts → x ≡ get_or ts i x → y.peer ≡ x.peer → (q : ℕ) → table_of (set ts i y) q ≡ cond (p == q) (Some y) (table_of ts q)
table_set ts p i x y place is same q = by_cases (p == q)
    (λ k. at_q (eqb-true p q k) ∙ sym (ap (λ (b : Bool). cond b (Some y) (table_of ts q)) k))
    (λ k. find_past (λ (t : PeerSlots). t.peer == q) ts i y x (ap (λ (t : PeerSlots). t.peer == q) (sym is) ∙ ap (λ (n : ℕ). n == q) of_p ∙ k) (ap (λ (n : ℕ). n == q) (same ∙ of_p) ∙ k) ∙ sym (ap (λ (b : Bool). cond b (Some y) (table_of ts q)) k))
  where
    passes : (x.peer == p) ≡ true
    passes = found_passes (λ (t : PeerSlots). t.peer == p) ts x (table_at ts p i x place is)

    of_p : x.peer ≡ p
    of_p = eqb-true x.peer p passes

    at_p : table_of (set ts i y) p ≡ Some y
    at_p = let first = first_place (λ (t : PeerSlots). t.peer == p) ts i place in
        find-set (λ (t : PeerSlots). t.peer == p) ts i y first.0 first.1 (ap (λ (n : ℕ). n == p) same ∙ passes)

    at_q : p ≡ q → table_of (set ts i y) q ≡ Some y
    at_q e = subst (λ (r : ℕ). table_of (set ts i y) r ≡ Some y) e at_p

-- ---- what is said of each slot

record_as : (o : Option PeerSlots) (y : PeerSlots) (b : Bool) (n : ℕ) → (b ≡ true → record_at y.records n ≡ record_in o n) → record_in (cond b (Some y) o) n ≡ record_in o n
record_as o y true n same = same refl
record_as o y false n same = refl

-- other records that say the same
pub same_set : (ts : List PeerSlots) (p i : ℕ) (x y : PeerSlots) → Some i ≡ position (λ (t : PeerSlots). t.peer == p) ts → x ≡ get_or ts i x → y.peer ≡ x.peer → ((n : ℕ) → record_at y.records n ≡ record_at x.records n) → (q n : ℕ) → record_in (table_of (set ts i y) q) n ≡ record_in (table_of ts q) n
same_set ts p i x y place is same says q n =
    ap (λ (o : Option PeerSlots). record_in o n) (table_set ts p i x y place is same q)
    ∙ record_as (table_of ts q) y (p == q) n (λ k. says n ∙ sym (ap (λ (o : Option PeerSlots). record_in o n) (ap (λ (r : ℕ). table_of ts r) (sym (eqb-true p q k)) ∙ table_at ts p i x place is)))

pub table_now : (ts : List PeerSlots) (p i : ℕ) (x y : PeerSlots) → Some i ≡ position (λ (t : PeerSlots). t.peer == p) ts → x ≡ get_or ts i x → y.peer ≡ x.peer → table_of (set ts i y) p ≡ Some y
table_now ts p i x y place is same = table_set ts p i x y place is same p ∙ ap (λ (b : Bool). cond b (Some y) (table_of ts p)) (eq-eqb p p refl)

-- a table more, of a peer that has none
pub table_added : (ts : List PeerSlots) (y : PeerSlots) → table_of ts y.peer ≡ None → (q : ℕ) → table_of (ts ++ y ∷ []) q ≡ cond (y.peer == q) (Some y) (table_of ts q)
table_added ts y none q = find-append (λ (t : PeerSlots). t.peer == q) ts (y ∷ []) ∙ by_cases (y.peer == q)
    (λ k. rw (k, ap (λ (r : ℕ). table_of ts r) (sym (eqb-true y.peer q k)) ∙ none) refl)
    (λ k. rw k (or_nothing (table_of ts q)))
  where
    or_nothing : (o : Option PeerSlots) → option_or o None ≡ o
    or_nothing None = refl
    or_nothing (Some t) = refl

pub same_added : (ts : List PeerSlots) (y : PeerSlots) → table_of ts y.peer ≡ None → ((n : ℕ) → record_at y.records n ≡ None) → (q n : ℕ) → record_in (table_of (ts ++ y ∷ []) q) n ≡ record_in (table_of ts q) n
same_added ts y none says q n =
    ap (λ (o : Option PeerSlots). record_in o n) (table_added ts y none q)
    ∙ record_as (table_of ts q) y (y.peer == q) n (λ k. says n ∙ sym (ap (λ (o : Option PeerSlots). record_in o n) (ap (λ (r : ℕ). table_of ts r) (sym (eqb-true y.peer q k)) ∙ none)))

pub added_now : (ts : List PeerSlots) (y : PeerSlots) → table_of ts y.peer ≡ None → table_of (ts ++ y ∷ []) y.peer ≡ Some y
added_now ts y none = table_added ts y none y.peer ∙ ap (λ (b : Bool). cond b (Some y) (table_of ts y.peer)) (eq-eqb y.peer y.peer refl)

-- ---- what a change enters

-- of another peer it enters nothing
after_elsewhere : (same g l stays : Bool) (number : ℕ) (o now : Option ℕ) → (same ≡ true → now ≡ slot_after g l stays number o) → (same ≡ false → now ≡ o) → now ≡ slot_after (same && g) (same && l) stays number o
after_elsewhere true g l stays number o now here there = here refl
after_elsewhere false g l stays number o now here there = there refl

pub entered : (ts : List PeerSlots) (p i : ℕ) (x y : PeerSlots) (given leaving : ℕ → Bool) (stays : ℕ → ℕ → Bool) (number : ℕ) → Some i ≡ position (λ (t : PeerSlots). t.peer == p) ts → x ≡ get_or ts i x → y.peer ≡ x.peer → ((n : ℕ) → record_at y.records n ≡ slot_after (given n) (leaving n) (stays x.peer n) number (record_at x.records n)) → (q n : ℕ) → record_in (table_of (set ts i y) q) n ≡ slot_after (p == q && given n) (p == q && leaving n) (stays q n) number (record_in (table_of ts q) n)
entered ts p i x y given leaving stays number place is same says q n = after_elsewhere (p == q) (given n) (leaving n) (stays q n) number (record_in (table_of ts q) n) (record_in (table_of (set ts i y) q) n)
    (λ k. here (eqb-true p q k))
    (λ k. ap (λ (o : Option PeerSlots). record_in o n) (table_set ts p i x y place is same q) ∙ ap (λ (b : Bool). record_in (cond b (Some y) (table_of ts q)) n) k)
  where
    of_p : x.peer ≡ p
    of_p = eqb-true x.peer p (found_passes (λ (t : PeerSlots). t.peer == p) ts x (table_at ts p i x place is))

    at_p : record_in (table_of (set ts i y) p) n ≡ slot_after (given n) (leaving n) (stays p n) number (record_in (table_of ts p) n)
    at_p =
        ap (λ (o : Option PeerSlots). record_in o n) (table_now ts p i x y place is same)
        ∙ says n
        ∙ ap (λ (r : ℕ). slot_after (given n) (leaving n) (stays r n) number (record_at x.records n)) of_p
        ∙ sym (ap (λ (o : Option PeerSlots). slot_after (given n) (leaving n) (stays p n) number (record_in o n)) (table_at ts p i x place is))

    here : p ≡ q → record_in (table_of (set ts i y) q) n ≡ slot_after (given n) (leaving n) (stays q n) number (record_in (table_of ts q) n)
    here e = subst (λ (r : ℕ). record_in (table_of (set ts i y) r) n ≡ slot_after (given n) (leaving n) (stays r n) number (record_in (table_of ts r) n)) e at_p

-- a peer that has no table, and is given none
pub entered_none : (o : Option PeerSlots) (given leaving : List ℕ) → o ≡ None → has_room o given leaving → given ≡ []
entered_none None given leaving none room = room
entered_none (Some t) given leaving none room = absurd (cc (none))

pub none_stays : (ts : List PeerSlots) (p : ℕ) (given leaving : List ℕ) (stays : ℕ → ℕ → Bool) (number : ℕ) → table_of ts p ≡ None → given ≡ [] → (q n : ℕ) → record_in (table_of ts q) n ≡ slot_after (p == q && listed (slots given) (Slot n)) (p == q && listed (slots leaving) (Slot n)) (stays q n) number (record_in (table_of ts q) n)
none_stays ts p given leaving stays number none no_one q n = after_elsewhere (p == q) (listed (slots given) (Slot n)) (listed (slots leaving) (Slot n)) (stays q n) number (record_in (table_of ts q) n) (record_in (table_of ts q) n)
    (λ k. rw (no_one, ap (λ (r : ℕ). table_of ts r) (sym (eqb-true p q k)) ∙ none) (nothing (listed (slots leaving) (Slot n) && not (stays q n))))
    (λ k. refl)
  where
    nothing : (b : Bool) → ◌≡◌ {A = Option ℕ} None (cond b None None)
    nothing true = refl
    nothing false = refl

-- the room that there is
pub room_there : (o : Option PeerSlots) (x : PeerSlots) (given leaving : List ℕ) → o ≡ Some x → has_room o given leaving → 2 * length given + length leaving ≤ x.records.room
room_there o x given leaving is room = subst (λ (z : Option PeerSlots). has_room z given leaving) is room

pub has_now : (o : Option PeerSlots) (y : PeerSlots) (given leaving : List ℕ) → o ≡ Some y → 2 * length given + length leaving ≤ y.records.room → has_room o given leaving
has_now o y given leaving is room = subst (λ (z : Option PeerSlots). has_room z given leaving) (sym is) room

pub runs_there : (o : Option PeerSlots) (given leaving : List ℕ) (count : ℕ) → count ≡ 2 * length given + length leaving → has_runs o count → has_room o given leaving
runs_there None given leaving count is runs = absurd runs
runs_there (Some t) given leaving count is runs = omega (arith, is, runs)

pub has_none : (o : Option PeerSlots) (given leaving : List ℕ) → o ≡ None → given ≡ [] → has_room o given leaving
has_none o given leaving is none = subst (λ (z : Option PeerSlots). has_room z given leaving) (sym is) none

pub no_items : (l : List ℕ) → (length l == 0) ≡ true → l ≡ []
no_items [] none = refl
no_items (n ∷ ns) none = absurd (omega (arith, eqb-true (length (n ∷ ns)) 0 none))

pub ok_then : {E P Q : Type 0} (r : Result (Unit {0}) E) → (P → Q) → OnOk r P → OnOk r Q
ok_then (Ok u) f is = f is
ok_then (Err e) f is = tt
