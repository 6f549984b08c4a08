-- What comes loose, account by account: which rows stay as they were but for states, and how much room is left.
use Rattle.std.proofs.Common.{◌≡◌, ℕ, zero, suc, ◌+◌, ◌*◌, ◌-◌, ◌≤◌, ◌<◌, nat_le, Bool, true, false, ◌||◌, cond, List, [], ◌∷◌, ◌++◌, map, set, take, length, get_or, option_to_list, Option, Some, None, refl, sym, ap, ◌∙◌, arith}
use Rattle.std.specs.Prelude.{◌==◌, slice_get}
use Rattle.std.specs.List.{list_any}
use Rattle.std.proofs.lemmas.Bool.{false≢true, and_parts, leb-true, le-leb}
use Rattle.std.proofs.lemmas.List.{take_more}
use Rattle.psb_bytes.specs.declared.ids.Object.{Object}
use Rattle.psb_bytes.specs.declared.ids.Seat.{Seat}
use Rattle.psb_model.specs.declared.entries.InEntry.{InEntry}
use Rattle.psb_model.specs.declared.entries.InState.{InState}
use Rattle.psb_model.specs.declared.entries.InState.TheVariants as at
use Rattle.psb_bytes.specs.declared.ids.Object.TheVariants.{Slot}
use Rattle.psb_model.specs.Words.{only, slots}
use Rattle.psb_model.specs.State.{Row, blank, has_row, at_row, in_key}
use Rattle.psb_model.specs.Effects.{loose_at, loosen}
use Rattle.psb_model.proofs.ByObject.{by_cases}
use Rattle.psb_model.proofs.Freed.{only_none, loosen_more}
use Rattle.peer_account.specs.View.{AccountView, named_row}
use Rattle.peer_account.specs.States.{seat_of, seats, is_forwarded, given}
use Rattle.accounts.specs.Table.{account_in}
use Rattle.accounts.specs.Freeing.{row_at, have_out_room, in_rooms, free_room, Freed}
use Rattle.accounts.proofs.Places.{Found}

-- ---- a row at its place

abbrev nth : List (ℕ × Row) → ℕ → Row
nth [] i = blank
nth (x ∷ xs) zero = x.1
nth (x ∷ xs) (suc i) = nth xs i

nth_row : (vs : List AccountView) (i : ℕ) → row_at vs i ≡ nth (map named_row vs) i
nth_row [] i = refl
nth_row (v ∷ vs) zero = refl
nth_row (v ∷ vs) (suc i) = nth_row vs i

-- what no label changes of a row
abbrev pub StaysLoose : {A : Type 0} → (Row → A) → Type 0
StaysLoose g = (n : ℕ) (r : Row) → g (loose_at n r) ≡ g r

nth_kept : {A : Type 0} (g : Row → A) (p : ℕ) (f : Row → Row) → ((r : Row) → g (f r) ≡ g r) → (rows : List (ℕ × Row)) (i : ℕ) → g (nth (at_row p f rows) i) ≡ g (nth rows i)
nth_kept g p f h [] i = refl
nth_kept g p f h (x ∷ xs) zero = by_cases (x.0 == p) (λ k. rw k (h x.1)) (λ k. rw k refl)
nth_kept g p f h (x ∷ xs) (suc i) = by_cases (x.0 == p) (λ k. rw k refl) (λ k. rw k (nth_kept g p f h xs i))

nth_loosened : {A : Type 0} (g : Row → A) → StaysLoose g → (es : List InEntry) (rows : List (ℕ × Row)) (i : ℕ) → g (nth (loosen es rows) i) ≡ g (nth rows i)
nth_loosened g h [] rows i = refl
nth_loosened g h (e ∷ es) rows i = nth_loosened g h es _ i ∙ by_state e.state
  where
    by_state : (st : InState) → g (nth (elim st [ at.Forwarded seat ↦ at_row seat.peer (loose_at seat.slot) rows | _ ↦ rows ]) i) ≡ g (nth rows i)
    by_state (at.Forwarded seat) = nth_kept g seat.peer (loose_at seat.slot) (h seat.slot) rows i
    by_state at.Body = refl
    by_state at.Direct = refl
    by_state (at.Home n) = refl

-- each account keeps it
pub freed_keeps : {A : Type 0} (g : Row → A) → StaysLoose g → (vs ws : List AccountView) (i j : ℕ) (os : List Object) → Freed vs i os ws → g (row_at ws j) ≡ g (row_at vs j)
freed_keeps g h vs ws i j os f =
    ap g (nth_row ws j)
    ∙ ap (λ rows. g (nth rows j)) f.rows
    ∙ nth_loosened g h (only in_key os (row_at vs i).ins) (map named_row vs) j
    ∙ ap g (sym (nth_row vs j))

pub freed_ins : (vs ws : List AccountView) (i : ℕ) (os : List Object) → Freed vs i os ws → (row_at ws i).ins ≡ (row_at vs i).ins
freed_ins vs ws i os f = freed_keeps (λ (r : Row). r.ins) (λ n r. refl) vs ws i i os f

pub freed_pending : (vs ws : List AccountView) (i : ℕ) (os : List Object) → Freed vs i os ws → (row_at ws i).pending ≡ (row_at vs i).pending
freed_pending vs ws i os f = freed_keeps (λ (r : Row). r.pending) (λ n r. refl) vs ws i i os f

pub same_count : (vs ws : List AccountView) → in_rooms ws ≡ in_rooms vs → length ws ≡ length vs
same_count [] [] h = refl
same_count [] (w ∷ ws) h = absurd (cc (h))
same_count (v ∷ vs) [] h = absurd (cc (h))
same_count (v ∷ vs) (w ∷ ws) h = let rest : in_rooms ws ≡ in_rooms vs = cc (h) in ap suc (same_count vs ws rest)

-- ---- objects, one after another

pub freed_none : (vs : List AccountView) (i : ℕ) → Freed vs i [] vs
freed_none vs i = record { rows = sym (ap (λ es. loosen es (map named_row vs)) (only_none in_key (row_at vs i).ins)); rooms = refl }

pub freed_more : (vs us ws : List AccountView) (i : ℕ) (os : List Object) (o : Object) → Freed vs i os us → Freed us i (o ∷ []) ws → Freed vs i (os ++ o ∷ []) ws
freed_more vs us ws i os o f one = record {
  rows = one.rows
      ∙ ap (λ l. loosen (only in_key (o ∷ []) l) (map named_row us)) (freed_ins vs us i os f)
      ∙ ap (loosen (only in_key (o ∷ []) (row_at vs i).ins)) f.rows
      ∙ sym (loosen_more os o (row_at vs i).ins (map named_row vs));
  rooms = one.rooms ∙ f.rooms;
}

-- ---- the seat of one object

loosen_none_there : (es : List InEntry) (rows : List (ℕ × Row)) → [] ≡ seats es → loosen es rows ≡ rows
loosen_none_there [] rows h = refl
loosen_none_there (e ∷ es) rows h = by_state e.state h (λ k. loosen_none_there es rows k)
  where
    by_state : (st : InState) → [] ≡ option_to_list (seat_of st) ++ seats es → ([] ≡ seats es → loosen es rows ≡ rows) → loosen es (elim st [ at.Forwarded seat ↦ at_row seat.peer (loose_at seat.slot) rows | _ ↦ rows ]) ≡ rows
    by_state (at.Forwarded seat) k rest = absurd (cc (k))
    by_state at.Body k rest = rest k
    by_state at.Direct k rest = rest k
    by_state (at.Home n) k rest = rest k

loosen_one_there : (es : List InEntry) (rows : List (ℕ × Row)) (s : Seat) → s ∷ [] ≡ seats es → loosen es rows ≡ at_row s.peer (loose_at s.slot) rows
loosen_one_there [] rows s h = absurd (cc (h))
loosen_one_there (e ∷ es) rows s h = by_state e.state h (λ k. loosen_one_there es rows s k)
  where
    by_state : (st : InState) → s ∷ [] ≡ option_to_list (seat_of st) ++ seats es → (s ∷ [] ≡ seats es → loosen es rows ≡ at_row s.peer (loose_at s.slot) rows) → loosen es (elim st [ at.Forwarded seat ↦ at_row seat.peer (loose_at seat.slot) rows | _ ↦ rows ]) ≡ at_row s.peer (loose_at s.slot) rows
    by_state (at.Forwarded seat) k rest =
        let same : s ≡ seat = cc (k) in
        let none : [] ≡ seats es = cc (k) in
        loosen_none_there es (at_row seat.peer (loose_at seat.slot) rows) none ∙ ap (λ (x : Seat). at_row x.peer (loose_at x.slot) rows) (sym same)
    by_state at.Body k rest = rest k
    by_state at.Direct k rest = rest k
    by_state (at.Home n) k rest = rest k

pub freed_where_none : (vs : List AccountView) (i : ℕ) (o : Object) (r : AccountView) → r.row ≡ row_at vs i → option_to_list None ≡ seats (only in_key (o ∷ []) r.row.ins) → Freed vs i (o ∷ []) vs
freed_where_none vs i o r here none = record {
  rows = sym (loosen_none_there (only in_key (o ∷ []) (row_at vs i).ins) (map named_row vs) (none ∙ ap (λ (x : Row). seats (only in_key (o ∷ []) x.ins)) here));
  rooms = refl;
}

pub freed_where_one : (vs ws : List AccountView) (i : ℕ) (o : Object) (r : AccountView) (s : Seat) → r.row ≡ row_at vs i → option_to_list (Some s) ≡ seats (only in_key (o ∷ []) r.row.ins) → map named_row ws ≡ at_row s.peer (loose_at s.slot) (map named_row vs) → in_rooms ws ≡ in_rooms vs → Freed vs i (o ∷ []) ws
freed_where_one vs ws i o r s here one rows rooms = record {
  rows = rows ∙ sym (loosen_one_there (only in_key (o ∷ []) (row_at vs i).ins) (map named_row vs) s (one ∙ ap (λ (x : Row). seats (only in_key (o ∷ []) x.ins)) here));
  rooms = rooms;
}

-- the object is forwarded where it has a seat
pub forwarded_one : (ins : List InEntry) (o : Object) (s : Seat) → option_to_list (Some s) ≡ seats (only in_key (o ∷ []) ins) → is_forwarded ins o ≡ true
forwarded_one ins o s h = ap (list_any (λ (x : Seat). true)) (sym h)

-- ---- room

pub less_room : (n m : ℕ) (vs : List AccountView) → m ≤ n → have_out_room n vs ≡ true → have_out_room m vs ≡ true
less_room n m [] le h = refl
less_room n m (v ∷ vs) le h =
    let two = and_parts (nat_le n v.out_room) (have_out_room n vs) h in
    rw (le-leb m v.out_room (omega (arith, le, leb-true n v.out_room two.0)), less_room n m vs le two.1) refl

pub room_at : (n : ℕ) (vs : List AccountView) (i : ℕ) (v : AccountView) → i < length vs → v ≡ get_or vs i v → have_out_room n vs ≡ true → n ≤ v.out_room
room_at n [] i v lt at h = absurd (omega (arith, lt))
room_at n (x ∷ xs) zero v lt at h = leb-true n v.out_room (ap (λ (y : AccountView). nat_le n y.out_room) at ∙ (and_parts (nat_le n x.out_room) (have_out_room n xs) h).0)
room_at n (x ∷ xs) (suc i) v lt at h = room_at n xs i v (omega (arith, lt)) at (and_parts (nat_le n x.out_room) (have_out_room n xs) h).1

pub room_left : (n : ℕ) (vs : List AccountView) (i : ℕ) (v w : AccountView) → v ≡ get_or vs i v → v.out_room ≤ w.out_room + 2 → have_out_room (n + 2) vs ≡ true → have_out_room n (set vs i w) ≡ true
room_left n [] i v w at le h = refl
room_left n (x ∷ xs) zero v w at le h =
    let two = and_parts (nat_le (n + 2) x.out_room) (have_out_room (n + 2) xs) h in
    let here : n + 2 ≤ v.out_room = leb-true (n + 2) v.out_room (ap (λ (y : AccountView). nat_le (n + 2) y.out_room) at ∙ two.0) in
    rw (le-leb n w.out_room (omega (arith, here, le)), less_room (n + 2) n xs (omega arith) two.1) refl
room_left n (x ∷ xs) (suc i) v w at le h =
    let two = and_parts (nat_le (n + 2) x.out_room) (have_out_room (n + 2) xs) h in
    rw (le-leb n x.out_room (omega (arith, leb-true (n + 2) x.out_room two.0)), room_left n xs i v w at le two.1) refl

pub rooms_set : (vs : List AccountView) (i : ℕ) (v w : AccountView) → v ≡ get_or vs i v → w.in_room ≡ v.in_room → in_rooms (set vs i w) ≡ in_rooms vs
rooms_set [] i v w at h = refl
rooms_set (x ∷ xs) zero v w at h = ap (λ n. n ∷ in_rooms xs) (h ∙ ap (λ (y : AccountView). y.in_room) at)
rooms_set (x ∷ xs) (suc i) v w at h = ap (λ l. x.in_room ∷ l) (rooms_set xs i v w at h)

pub row_here : (vs : List AccountView) (i : ℕ) (v : AccountView) → i < length vs → v ≡ get_or vs i v → v.row ≡ row_at vs i
row_here [] i v lt at = absurd (omega (arith, lt))
row_here (x ∷ xs) zero v lt at = ap (λ (y : AccountView). y.row) at
row_here (x ∷ xs) (suc i) v lt at = row_here xs i v (omega (arith, lt)) at

pub found_row_at : (vs : List AccountView) (p i : ℕ) (v : AccountView) → Found vs p i v → v.row ≡ row_at vs i
found_row_at [] p i v f = absurd f
found_row_at (x ∷ xs) p zero v f = ap (λ (y : AccountView). y.row) (sym f.1)
found_row_at (x ∷ xs) p (suc i) v f = found_row_at xs p i v f.1

-- a stranger has no row that changes
pub at_row_stranger : (p : ℕ) (f : Row → Row) (rows : List (ℕ × Row)) → has_row rows p ≡ false → at_row p f rows ≡ rows
at_row_stranger p f [] h = refl
at_row_stranger p f (x ∷ xs) h = by_cases (x.0 == p)
    (λ k. let h' : true ≡ false = rw k at h in absurd (false≢true (sym h')))
    (λ k. let h' : has_row xs p ≡ false = rw k at h in rw k (ap (λ l. x ∷ l) (at_row_stranger p f xs h')))

-- ---- a walk over the objects that leave

-- the first of them have left, and there is room for the others
pub record Freeing (vs : List AccountView) (i : ℕ) (done objects : List Object) (left : ℕ) (ws : List AccountView) : Type 0 where
  pub freed : Freed vs i done ws
  pub room : list_any (is_forwarded (row_at vs i).ins) objects ≡ true → have_out_room (2 * left) ws ≡ true

pub freeing_starts : (vs : List AccountView) (i : ℕ) (objects : List Object) → have_out_room (free_room (row_at vs i).ins objects) vs ≡ true → Freeing vs i [] objects (length objects) vs
freeing_starts vs i objects h = record {
  freed = freed_none vs i;
  room = λ some. sym (ap (λ b. have_out_room (cond b (2 * length objects) 0) vs) some) ∙ h;
}

-- one of the objects that stands in the list
any_there : (t : Object → Bool) (l : List Object) (k : ℕ) (o : Object) → k < length l → o ≡ get_or l k o → t o ≡ true → list_any t l ≡ true
any_there t [] k o lt at h = absurd (omega (arith, lt))
any_there t (x ∷ xs) zero o lt at h = ap (λ b. b || list_any t xs) (ap t (sym at) ∙ h)
any_there t (x ∷ xs) (suc k) o lt at h = by_cases (t x) (λ j. rw j refl) (λ j. rw j (any_there t xs k o (omega (arith, lt)) at h))

-- has room for itself
pub freeing_room : (vs ws : List AccountView) (i k : ℕ) (done objects : List Object) (o : Object) → Freeing vs i done objects (length objects - k) ws → k < length objects → o ≡ get_or objects k o → is_forwarded (row_at ws i).ins o ≡ true → have_out_room 2 ws ≡ true
freeing_room vs ws i k done objects o f lt at h =
    let here : is_forwarded (row_at vs i).ins o ≡ true = ap (λ l. is_forwarded l o) (sym (freed_ins vs ws i done f.freed)) ∙ h in
    less_room (2 * (length objects - k)) 2 ws (omega (arith, lt)) (f.room (any_there (is_forwarded (row_at vs i).ins) objects k o lt at here))

-- and then the others have room
pub freeing_on : (vs us ws : List AccountView) (i k : ℕ) (done objects : List Object) (o : Object) → Freeing vs i done objects (length objects - k) us → k < length objects → Freed us i (o ∷ []) ws → ((n : ℕ) → have_out_room (n + 2) us ≡ true → have_out_room n ws ≡ true) → Freeing vs i (done ++ o ∷ []) objects (length objects - (k + 1)) ws
freeing_on vs us ws i k done objects o f lt one room = record {
  freed = freed_more vs us ws i done o f.freed one;
  room = λ some. let same : 2 * (length objects - (k + 1)) + 2 ≡ 2 * (length objects - k) = omega (arith, lt) in
      room (2 * (length objects - (k + 1))) (ap (λ n. have_out_room n us) same ∙ f.room some);
}

-- ---- room in each account, one after another

pub record Reserved (vs : List AccountView) (n k : ℕ) (ws : List AccountView) : Type 0 where
  pub rows : map named_row ws ≡ map named_row vs
  pub rooms : in_rooms ws ≡ in_rooms vs
  pub room : have_out_room n (take k ws) ≡ true

pub named_set : (vs : List AccountView) (i : ℕ) (v w : AccountView) → v ≡ get_or vs i v → w.id ≡ v.id → w.row ≡ v.row → map named_row (set vs i w) ≡ map named_row vs
named_set [] i v w at a b = refl
named_set (x ∷ xs) zero v w at a b =
    let one : named_row w ≡ named_row x = (λ j. (a j, b j)) ∙ ap named_row at in
    ap (λ y. y ∷ map named_row xs) one
named_set (x ∷ xs) (suc i) v w at a b = ap (λ l. named_row x ∷ l) (named_set xs i v w at a b)

room_more : (n k : ℕ) (ws : List AccountView) (w : AccountView) → have_out_room n (take k ws) ≡ true → n ≤ w.out_room → have_out_room n (take (suc k) (set ws k w)) ≡ true
room_more n k [] w h le = refl
room_more n zero (x ∷ xs) w h le = rw (le-leb n w.out_room le) refl
room_more n (suc k) (x ∷ xs) w h le =
    let two = and_parts (nat_le n x.out_room) (have_out_room n (take k xs)) h in
    rw (two.0) (room_more n k xs w two.1 le)

pub reserved_on : (vs ws : List AccountView) (n k : ℕ) (v w : AccountView) → Reserved vs n k ws → v ≡ get_or ws k v → w.id ≡ v.id → w.row ≡ v.row → w.in_room ≡ v.in_room → n ≤ w.out_room → Reserved vs n (k + 1) (set ws k w)
reserved_on vs ws n k v w r at a b rooms le = record {
  rows = named_set ws k v w at a b ∙ r.rows;
  rooms = rooms_set ws k v w at rooms ∙ r.rooms;
  room = let next : k + 1 ≡ suc k = omega arith in ap (λ m. have_out_room n (take m (set ws k w))) next ∙ room_more n k ws w r.room le;
}

-- ---- the slots that are forwarded

pub any_slots : (t : Object → Bool) (numbers : List ℕ) → list_any (λ n. t (Slot n)) numbers ≡ list_any t (slots numbers)
any_slots t [] = refl
any_slots t (n ∷ ns) = ap (λ b. t (Slot n) || b) (any_slots t ns)

pub slots_more : (numbers : List ℕ) (k n : ℕ) → k < length numbers → n ≡ get_or numbers k n → slots (take k numbers) ++ Slot n ∷ [] ≡ slots (take (k + 1) numbers)
slots_more numbers k n lt is = sym (slots_end (take k numbers) n) ∙ ap slots (ap (λ x. take k numbers ++ x ∷ []) is ∙ sym (take_more numbers k n lt))
  where
    slots_end : (l : List ℕ) (m : ℕ) → slots (l ++ m ∷ []) ≡ slots l ++ Slot m ∷ []
    slots_end [] m = refl
    slots_end (x ∷ xs) m = ap (λ l. Slot x ∷ l) (slots_end xs m)

pub slots_count : (numbers : List ℕ) → length (slots numbers) ≡ length numbers
slots_count [] = refl
slots_count (n ∷ ns) = ap suc (slots_count ns)

pub slot_at : (numbers : List ℕ) (k n : ℕ) → k < length numbers → n ≡ get_or numbers k n → Slot n ≡ get_or (slots numbers) k (Slot n)
slot_at [] k n lt is = absurd (omega (arith, lt))
slot_at (x ∷ xs) zero n lt is = ap Slot is
slot_at (x ∷ xs) (suc k) n lt is = slot_at xs k n (omega (arith, lt)) is

-- a number that is found at a place
pub number_at : (numbers : List ℕ) (k n : ℕ) → Some n ≡ slice_get numbers k → (k < length numbers) × (n ≡ get_or numbers k n)
number_at [] k n h = absurd (cc (h))
number_at (x ∷ xs) zero n h = (omega arith, cc (h))
number_at (x ∷ xs) (suc k) n h = let rest = number_at xs k n h in (omega (arith, rest.0), rest.1)

pub none_at : (numbers : List ℕ) (k : ℕ) → None ≡ slice_get numbers k → length numbers ≤ k
none_at [] k h = omega arith
none_at (x ∷ xs) zero h = absurd (cc (h))
none_at (x ∷ xs) (suc k) h = omega (arith, none_at xs k h)

pub same_at : (l : List ℕ) (k d : ℕ) → k < length l → get_or l k d ≡ get_or l k (get_or l k d)
same_at [] k d lt = absurd (omega (arith, lt))
same_at (x ∷ xs) zero d lt = refl
same_at (x ∷ xs) (suc k) d lt = same_at xs k d (omega (arith, lt))

-- what the pending deal gives is as it was
pub given_there : (vs ws : List AccountView) (i k : ℕ) (r : AccountView) (done : List Object) (o : Option ℕ) → Freed vs i done ws → i < length vs → r ≡ get_or ws i r → o ≡ slice_get (given r.row.pending) k → o ≡ slice_get (given (row_at vs i).pending) k
given_there vs ws i k r done o f lt at is =
    let within : i < length ws = omega (arith, lt, same_count vs ws f.rooms) in
    is ∙ ap (λ (x : Row). slice_get (given x.pending) k) (row_here ws i r within at) ∙ ap (λ d. slice_get (given d) k) (freed_pending vs ws i done f)

-- ---- room in what is answered for, where a row changed and no such room did

pub account_room : (n : ℕ) (vs ws : List AccountView) (q : ℕ) → map (λ (v : AccountView). v.id) ws ≡ map (λ (v : AccountView). v.id) vs → in_rooms ws ≡ in_rooms vs → has_row (map named_row ws) q ≡ true → n ≤ (account_in vs q).in_room → n ≤ (account_in ws q).in_room
account_room n [] [] q ids rooms here le = absurd (false≢true here)
account_room n [] (w ∷ ws) q ids rooms here le = absurd (cc (ids))
account_room n (v ∷ vs) [] q ids rooms here le = absurd (cc (ids))
account_room n (v ∷ vs) (w ∷ ws) q ids rooms here le =
    let id : w.id ≡ v.id = cc (ids) in
    let id_rest : map (λ (x : AccountView). x.id) ws ≡ map (λ (x : AccountView). x.id) vs = cc (ids) in
    let room : w.in_room ≡ v.in_room = cc (rooms) in
    let room_rest : in_rooms ws ≡ in_rooms vs = cc (rooms) in
    by_cases (w.id == q)
    (λ k. let k' : (v.id == q) ≡ true = ap (λ x. x == q) (sym id) ∙ k in
    let le' : n ≤ v.in_room = rw k' at le in
    rw k (omega (arith, room, le')))
    (λ k. let k' : (v.id == q) ≡ false = ap (λ x. x == q) (sym id) ∙ k in
    let le' : n ≤ (account_in vs q).in_room = rw k' at le in
    let here' : has_row (map named_row ws) q ≡ true = rw k at here in
    rw k (account_room n vs ws q id_rest room_rest here' le'))

pub keys_of : (vs : List AccountView) → map (λ (x : ℕ × Row). x.0) (map named_row vs) ≡ map (λ (v : AccountView). v.id) vs
keys_of [] = refl
keys_of (v ∷ vs) = ap (λ l. v.id ∷ l) (keys_of vs)

pub keys_at : (p : ℕ) (f : Row → Row) (rows : List (ℕ × Row)) → map (λ (x : ℕ × Row). x.0) (at_row p f rows) ≡ map (λ (x : ℕ × Row). x.0) rows
keys_at p f [] = refl
keys_at p f (x ∷ xs) = by_cases (x.0 == p) (λ k. rw k refl) (λ k. rw k (ap (λ l. x.0 ∷ l) (keys_at p f xs)))

pub in_room_of : (n : ℕ) (vs ws : List AccountView) (q p : ℕ) (f : Row → Row) → map named_row ws ≡ at_row p f (map named_row vs) → in_rooms ws ≡ in_rooms vs → has_row (map named_row ws) q ≡ true → n ≤ (account_in vs q).in_room → n ≤ (account_in ws q).in_room
in_room_of n vs ws q p f rows rooms here le =
    account_room n vs ws q (sym (keys_of ws) ∙ ap (map (λ (x : ℕ × Row). x.0)) rows ∙ keys_at p f (map named_row vs) ∙ keys_of vs) rooms here le
