-- Which own chunks a change gives up: a marked one goes where no row names it any more.
use Rattle.std.proofs.Common.{◌≡◌, ℕ, Bool, true, false, not, ◌&&◌, ◌||◌, cond, List, [], ◌∷◌, filter, Option, Some, None, refl, sym, ap, ◌∙◌}
use Rattle.std.specs.Prelude.{◌==◌, is_none}
use Rattle.std.specs.List.{list_all}
use Rattle.std.specs.Ordering.{is_lt, nat_cmp}
use Rattle.std.specs.Cmp.Lexicographic.{slice_cmp}
use Rattle.std.proofs.lemmas.Bool.{false≢true, and_parts}
use Rattle.psb_bytes.specs.declared.ids.Object.{Object}
use Rattle.psb_bytes.specs.declared.ids.Object.TheVariants.{Chunk}
use Rattle.psb_bytes.specs.declared.ids.Ticket.{Ticket}
use Rattle.psb_model.specs.declared.entries.OwnEntry.{OwnEntry}
use Rattle.psb_model.specs.declared.deals.Deal.{Deal}
use Rattle.psb_model.specs.declared.deals.DealWhat.{DealWhat}
use Rattle.psb_model.specs.declared.deals.DealWhat.TheVariants.{Fresh, Swap, Cancel, PutBack, Forward, Return}
use Rattle.psb_model.specs.declared.change.Change.{Change}
use Rattle.psb_model.specs.declared.change.Change.TheVariants.{Begun, Kept, Snapped, Forgot, TookFresh, TookSwap, LetGo, LetGoBack, Replaced, Refused, Proposed, Settled, Turned, Asked, Passed, Failed, Declined, Discarded, Chose}
use Rattle.psb_model.specs.Words.{name_eq, name_listed, listed, has}
use Rattle.psb_model.specs.State.{Row, State, row, row_in, at_row, out_key, debt_key, own_has, own_marked}
use Rattle.psb_model.specs.Conditions.{peer_of, tests, allowed}
use Rattle.psb_model.specs.Move.{Move, after_move, still}
use Rattle.psb_model.specs.Effects.{settle_move, all_rows_after, after, own_after, own_with, set_marks, kept_lists, kept_without, given_up, is_named, deal_name, pending_name}
use Rattle.psb_model.proofs.ByObject.{by_cases}
use Rattle.psb_model.proofs.Own.{name_same, wanted_less}
use Rattle.psb_model.proofs.Steps.{parts, not_true}
use Rattle.psb_model.proofs.Bare.{changed, named_then}
use Rattle.psb_model.proofs.Steady.{IsSteady, allows, is_kept, names_apart, filter_lacks, marks_has, marks_apart, row_names}
use Rattle.psb_model.proofs.Lent.{lent}
use Rattle.psb_model.proofs.Passing.{releases, quiet, row_lends, noted_lent}
use Rattle.psb_model.proofs.Held.{either_was, chunk_stays}
use Rattle.psb_model.proofs.Parts.{no_chunk}

-- WHAT ROWS NAME

-- a row that names at least as much as another, but for one chunk, if there is one
abbrev pub NamesBut : List (List ℕ) → Row → Row → Type 0
NamesBut gone r r' = (n : List ℕ) → name_listed gone n ≡ false → row_names r n ≡ true → row_names r' n ≡ true

named_still : (p : ℕ) (f : Row → Row) (rows : List (ℕ × Row)) (n : List ℕ) → (row_names (row_in rows p) n ≡ true → row_names (f (row_in rows p)) n ≡ true) → is_named rows n ≡ true → is_named (at_row p f rows) n ≡ true
named_still p f [] n g h = h
named_still p f (x ∷ xs) n g h = by_cases (x.0 == p)
    (λ k. rw k (either_was (row_names x.1 n) (is_named xs n) (row_names (f x.1) n) (is_named xs n) h (rw k at g) (λ a. a)))
    (λ k. rw k (either_was (row_names x.1 n) (is_named xs n) (row_names x.1 n) (is_named (at_row p f xs) n) h (λ a. a) (λ a. named_still p f xs n (rw k at g) a)))

-- the row names as much where what is there or lost stays so, and as its pending deal does
names_stay : (r r' : Row) (n : List ℕ) → (lent r (Chunk n) ≡ true → lent r' (Chunk n) ≡ true) → (name_listed (pending_name deal_name r.pending) n ≡ true → name_listed (pending_name deal_name r'.pending) n ≡ true) → row_names r n ≡ true → row_names r' n ≡ true
names_stay r r' n there pending h = either_was (lent r (Chunk n)) (name_listed (pending_name deal_name r.pending) n) (lent r' (Chunk n)) (name_listed (pending_name deal_name r'.pending) n) h there pending

-- OWN CHUNKS THAT STAY

-- own chunks, each of which passes, are all that passes
all_pass : (t : OwnEntry → Bool) (l : List OwnEntry) → list_all t l ≡ true → filter t l ≡ l
all_pass t [] h = refl
all_pass t (e ∷ es) h =
    let two = and_parts (t e) (list_all t es) h in
    rw two.0 (ap (λ l. e ∷ l) (all_pass t es two.1))

-- an own chunk that rows name, or that is not marked, is kept by rows that name as much
kept_still : (rows rows' : List (ℕ × Row)) (l : List OwnEntry) → ((n : List ℕ) → is_named rows n ≡ true → is_named rows' n ≡ true) → list_all (is_kept rows) l ≡ true → list_all (is_kept rows') l ≡ true
kept_still rows rows' [] f h = refl
kept_still rows rows' (e ∷ es) f h =
    let two = and_parts (is_kept rows e) (list_all (is_kept rows) es) h in
    rw (either_was (not e.marked) (is_named rows e.name) (not e.marked) (is_named rows' e.name) two.0 (λ a. a) (f e.name), kept_still rows rows' es f two.1) refl

kept_with : (rows : List (ℕ × Row)) (e : OwnEntry) (l : List OwnEntry) → is_kept rows e ≡ true → list_all (is_kept rows) l ≡ true → list_all (is_kept rows) (own_with e l) ≡ true
kept_with rows e [] k h = rw k refl
kept_with rows e (x ∷ xs) k h =
    let two = and_parts (is_kept rows x) (list_all (is_kept rows) xs) h in
    by_cases (is_lt (slice_cmp nat_cmp e.name x.name)) (λ j. rw (j, k, two.0) two.1) (λ j. rw (j, two.0) (kept_with rows e xs k two.1))

kept_lifted : (rows : List (ℕ × Row)) (names : List (List ℕ)) (l : List OwnEntry) → list_all (is_kept rows) l ≡ true → list_all (is_kept rows) (set_marks (λ e. e.marked && not (name_listed names e.name)) l) ≡ true
kept_lifted rows names [] h = refl
kept_lifted rows names (e ∷ es) h =
    let two = and_parts (is_kept rows e) (list_all (is_kept rows) es) h in
    rw (one e.marked (name_listed names e.name) (is_named rows e.name) two.0, kept_lifted rows names es two.1) refl
  where
    one : (m b n : Bool) → (not m || n) ≡ true → (not (m && not b) || n) ≡ true
    one true true n k = refl
    one true false n k = k
    one false b n k = refl

-- A Forgot, what ends a pending deal and a discard alone give own chunks up.
abbrev pub gives_up_none : Change → Bool
gives_up_none (Begun x) = false
gives_up_none (Forgot x) = false
gives_up_none (Settled x) = false
gives_up_none (Turned x) = false
gives_up_none (Discarded x) = false
gives_up_none _ = true

-- what the row of its peer names stays, for any other change of one
kept_by_peer : (s : State) (c : Change) (p : ℕ) → IsSteady s → peer_of c ≡ Some p → own_after s c ≡ s.own → NamesBut [] (row s p) (changed s c (row s p)) → (after s c).own ≡ own_after s c
kept_by_peer s c p steady peer own names =
    let still : list_all (is_kept (all_rows_after s c)) (own_after s c) ≡ true =
    ap (list_all (is_kept (all_rows_after s c))) own
    ∙ kept_still s.rows (all_rows_after s c) s.own (λ n h. named_then s c p n peer ∙ named_still p (changed s c) s.rows n (names n refl) h) steady.named in
    all_pass (is_kept (all_rows_after s c)) (own_after s c) still

-- a chunk that is kept comes to the others
pub own_kept : (s : State) (name : List ℕ) (len : ℕ) (new : Bool) (body : Option (List ℕ)) → IsSteady s → (after s (Kept (record { name = name; len = len; new = new; body = body }))).own ≡ own_with (record { name = name; len = len; marked = false }) s.own
own_kept s name len new body p = all_pass (is_kept s.rows) (own_after s (Kept (record { name = name; len = len; new = new; body = body }))) (kept_with s.rows (record { name = name; len = len; marked = false }) s.own refl p.named)

own_snapped : (s : State) (number : ℕ) (ticket : Ticket) (files folders bytes left : ℕ) (names : List (List ℕ)) → IsSteady s → (after s (Snapped (record { number = number; ticket = ticket; files = files; folders = folders; bytes = bytes; left = left; names = names }))).own ≡ own_after s (Snapped (record { number = number; ticket = ticket; files = files; folders = folders; bytes = bytes; left = left; names = names }))
own_snapped s number ticket files folders bytes left names p = all_pass (is_kept s.rows) (own_after s (Snapped (record { number = number; ticket = ticket; files = files; folders = folders; bytes = bytes; left = left; names = names }))) (kept_lifted s.rows names s.own p.named)

-- a snapshot that is noted leaves which they are
pub snapped_has : (s : State) (number : ℕ) (ticket : Ticket) (files folders bytes left : ℕ) (names : List (List ℕ)) (n : List ℕ) → IsSteady s → own_has (after s (Snapped (record { number = number; ticket = ticket; files = files; folders = folders; bytes = bytes; left = left; names = names }))).own n ≡ own_has s.own n
snapped_has s number ticket files folders bytes left names n p = ap (λ (l : List OwnEntry). own_has l n) (own_snapped s number ticket files folders bytes left names p) ∙ marks_has (λ e. e.marked && not (name_listed names e.name)) s.own n

-- a change that uses up no debt and releases nothing
quiet_peer : (s : State) (c : Change) (p : ℕ) → IsSteady s → peer_of c ≡ Some p → own_after s c ≡ s.own → releases s c ≡ false → ((n : List ℕ) → name_listed (pending_name deal_name (row s p).pending) n ≡ true → name_listed (pending_name deal_name (changed s c (row s p)).pending) n ≡ true) → (after s c).own ≡ own_after s c
quiet_peer s c p steady peer own still pending =
    kept_by_peer s c p steady peer own (λ n _ named. names_stay (row s p) (changed s c (row s p)) n (λ k. noted_lent s c (row s p) n (row_lends s c p n peer still k)) (pending n) named)

pub own_stays : (s : State) (c : Change) → IsSteady s → allowed s c ≡ true → gives_up_none c ≡ true → (after s c).own ≡ own_after s c
own_stays s (Kept x) p h g = own_kept s x.name x.len x.new x.body p
own_stays s (Snapped x) p h g = own_snapped s x.number x.ticket x.files x.folders x.bytes x.left x.names p
own_stays s (Chose x) p h g = all_pass (is_kept s.rows) s.own p.named
own_stays s (TookFresh x) p h g = let c : Change = TookFresh x in quiet_peer s c x.peer p refl refl refl (λ n k. k)
own_stays s (TookSwap x) p h g = let c : Change = TookSwap x in quiet_peer s c x.peer p refl refl refl (λ n k. k)
own_stays s (LetGo x) p h g = let c : Change = LetGo x in quiet_peer s c x.peer p refl refl refl (λ n k. k)
own_stays s (LetGoBack x) p h g = let c : Change = LetGoBack x in quiet_peer s c x.peer p refl refl refl (λ n k. k)
own_stays s (Replaced x) p h g = let c : Change = Replaced x in quiet_peer s c x.peer p refl refl refl (λ n k. k)
own_stays s (Refused x) p h g = let c : Change = Refused x in quiet_peer s c x.peer p refl refl refl (λ n k. k)
own_stays s (Asked x) p h g = let c : Change = Asked x in quiet_peer s c x.peer p refl refl refl (λ n k. k)
own_stays s (Failed x) p h g = let c : Change = Failed x in quiet_peer s c x.peer p refl refl refl (λ n k. k)
own_stays s (Declined x) p h g = let c : Change = Declined x in quiet_peer s c x.peer p refl refl refl (λ n k. k)
own_stays s (Passed x) p h g =
    let c : Change = Passed x in
    quiet_peer s c x.peer p refl refl refl (λ n k. by_cases (x.asked == 0) (λ j. rw j k) (λ j. rw j k))
own_stays s (Proposed x) p h g =
    let c : Change = Proposed x in
    let ts = parts (tests s c) (allows s c h).tests in
    quiet_peer s c x.peer p refl refl refl (λ n k. absurd (none_pending (row s x.peer).pending n ts.1.0 k))
  where
    none_pending : (o : Option Deal) (n : List ℕ) → is_none o ≡ true → name_listed (pending_name deal_name o) n ≡ true → ⊥
    none_pending None n e k = false≢true k
    none_pending (Some d) n e k = false≢true e
own_stays s _ p h g = absurd (false≢true g)

-- OWN CHUNKS THAT GO

-- what is not marked is left, and what rows name
pub given_has : (rows : List (ℕ × Row)) (l : List OwnEntry) (n : List ℕ) → names_apart l ≡ true → own_has (given_up rows l) n ≡ (own_has l n && (not (own_marked l n) || is_named rows n))
given_has rows [] n a = refl
given_has rows (e ∷ es) n a =
    let two = and_parts (not (own_has es e.name)) (names_apart es) a in
    by_cases (name_eq e.name n)
    (λ k. let same = name_same e.name n k in
    let v : Bool = not e.marked || is_named rows n in
    let passes : is_kept rows e ≡ v = ap (λ m. not e.marked || is_named rows m) same in
    let lacks : own_has (given_up rows es) n ≡ false = filter_lacks (is_kept rows) es n (ap (own_has es) (sym same) ∙ not_true (own_has es e.name) two.0) in
    ap (λ b. own_has (cond b (e ∷ given_up rows es) (given_up rows es)) n) passes ∙ first v lacks k ∙ rw k refl)
    (λ k. rw k (by_cases (is_kept rows e) (λ j. rw (j, k) (given_has rows es n two.1)) (λ j. rw j (given_has rows es n two.1))))
  where
    first : (v : Bool) → own_has (given_up rows es) n ≡ false → name_eq e.name n ≡ true → own_has (cond v (e ∷ given_up rows es) (given_up rows es)) n ≡ v
    first true lacks k = rw k refl
    first false lacks k = lacks

marked_or : (lists : List ℕ → Bool) (l : List OwnEntry) (n : List ℕ) → own_has l n ≡ true → own_marked (set_marks (λ e. e.marked || not (lists e.name)) l) n ≡ (own_marked l n || not (lists n))
marked_or lists [] n h = absurd (false≢true h)
marked_or lists (e ∷ es) n h = by_cases (name_eq e.name n)
    (λ k. rw k (ap (λ m. e.marked || not (lists m)) (name_same e.name n k)))
    (λ k. rw k (marked_or lists es n (rw k at h)))

-- a Forgot leaves what other snapshots list and what rows name
pub forgot_has : (s : State) (number : ℕ) (n : List ℕ) → IsSteady s → own_has (after s (Forgot (record { number = number }))).own n ≡ (own_has s.own n && (kept_lists (kept_without number s.kept) n || is_named s.rows n))
forgot_has s number n p =
    let lists = kept_lists (kept_without number s.kept) in
    let mark : OwnEntry → Bool = λ e. e.marked || not (lists e.name) in
    given_has s.rows (set_marks mark s.own) n (marks_apart mark s.own p.apart)
    ∙ ap (λ (b : Bool). b && (not (own_marked (set_marks mark s.own) n) || is_named s.rows n)) (marks_has mark s.own n)
    ∙ by_cases (own_has s.own n)
    (λ k. rw (k, marked_or lists s.own n k) (test (own_marked s.own n) (lists n) (is_named s.rows n) (λ j. (p.good.wanted n (wanted_less number s.kept n j)).free)))
    (λ k. rw k refl)
  where
    test : (m a b : Bool) → (a ≡ true → m ≡ false) → (not (m || not a) || b) ≡ (a || b)
    test true true b f = absurd (false≢true (sym (f refl)))
    test true false b f = refl
    test false true b f = refl
    test false false b f = refl

-- What ends a pending deal leaves all but its chunk, and that if it is not marked or rows still name it.
pub ended_has : (s : State) (c : Change) (n : List ℕ) → IsSteady s → own_after s c ≡ s.own → own_has (after s c).own n ≡ (own_has s.own n && (not (own_marked s.own n) || is_named (all_rows_after s c) n))
ended_has s c n p own =
    ap (λ l. own_has (given_up (all_rows_after s c) l) n) own ∙ given_has (all_rows_after s c) s.own n p.apart

-- the row names all that it named but the chunk of its pending deal
pub settled_names : (s : State) (q deal : ℕ) (numbers : List ℕ) (body : Option (List ℕ)) (r : Row) → NamesBut (pending_name deal_name (row s q).pending) (record r { pending = None }) (changed s (Settled (record { peer = q; deal = deal; slots = numbers; body = body })) r)
settled_names s q deal numbers body r n other named = by_deal (row s q).pending other
  where
    stays : (m : Move) → m.used_up ≡ 0 → listed m.out_gone (Chunk n) ≡ false → m.returned ≡ still.returned → row_names (record (after_move m r) { pending = None }) n ≡ true
    stays m unused gone none = names_stay (record r { pending = None }) (record (after_move m r) { pending = None }) n (quiet m r n unused gone none) (λ k. k) named

    by_what : (number : ℕ) (w : DealWhat) → name_listed (deal_name w) n ≡ false → row_names (record (after_move (settle_move s (row s q) (Some (record { number = number; what = w })) numbers) r) { pending = None }) n ≡ true
    by_what number (Fresh name) o = stays (settle_move s (row s q) (Some (record { number = number; what = Fresh name })) numbers) refl refl refl
    by_what number (Swap name mine) o = stays (settle_move s (row s q) (Some (record { number = number; what = Swap name mine })) numbers) refl (no_chunk mine n) refl
    by_what number (Cancel name theirs) o = stays (settle_move s (row s q) (Some (record { number = number; what = Cancel name theirs })) numbers) refl o refl
    by_what number (PutBack name first) o = stays (settle_move s (row s q) (Some (record { number = number; what = PutBack name first })) numbers) refl o refl
    by_what number (Forward slot entry) o = stays still refl refl refl
    by_what number (Return slot) o = stays still refl refl refl

    by_deal : (o : Option Deal) → name_listed (pending_name deal_name o) n ≡ false → row_names (record (after_move (settle_move s (row s q) o numbers) r) { pending = None }) n ≡ true
    by_deal None o = stays still refl refl refl
    by_deal (Some d) o = by_what d.number d.what o

pub turned_names : (s : State) (q deal why detail : ℕ) (r : Row) → NamesBut [] (record r { pending = None }) (changed s (Turned (record { peer = q; deal = deal; why = why; detail = detail })) r)
turned_names s q deal why detail r n other named = names_stay (record r { pending = None }) (changed s (Turned (record { peer = q; deal = deal; why = why; detail = detail })) r) n (quiet still r n refl refl refl) (λ k. k) named

-- a row names all but the chunk of its pending deal without it
names_beside : (r : Row) (n : List ℕ) → name_listed (pending_name deal_name r.pending) n ≡ false → row_names r n ≡ true → row_names (record r { pending = None }) n ≡ true
names_beside r n other named = ap (λ (b : Bool). (has out_key r.outs (Chunk n) || has debt_key r.debts (Chunk n)) || b) (sym other) ∙ named

-- a marked own chunk is named by some row
marked_named : (rows : List (ℕ × Row)) (l : List OwnEntry) (n : List ℕ) → list_all (is_kept rows) l ≡ true → own_marked l n ≡ true → is_named rows n ≡ true
marked_named rows [] n h m = absurd (false≢true m)
marked_named rows (e ∷ es) n h m =
    let two = and_parts (is_kept rows e) (list_all (is_kept rows) es) h in
    by_cases (name_eq e.name n)
    (λ k. let marked : e.marked ≡ true = rw k at m in
    let named : is_named rows e.name ≡ true = rw marked at two.0 in
    ap (is_named rows) (sym (name_same e.name n k)) ∙ named)
    (λ k. marked_named rows es n two.1 (rw k at m))

-- what ends a pending deal leaves each own chunk but the one that the deal names
pub ended_beside_row : (s : State) (c : Change) (q : ℕ) (n : List ℕ) → IsSteady s → peer_of c ≡ Some q → own_after s c ≡ s.own → (row_names (row s q) n ≡ true → row_names (changed s c (row s q)) n ≡ true) → own_has (after s c).own n ≡ own_has s.own n
ended_beside_row s c q n p peer own names =
    ended_has s c n p own
    ∙ by_cases (own_marked s.own n)
    (λ k. let there = marked_named s.rows s.own n p.named k in
    let still : is_named (all_rows_after s c) n ≡ true = named_then s c q n peer ∙ named_still q (changed s c) s.rows n names there in
    rw (k, still) (and_true (own_has s.own n)))
    (λ k. rw k (and_true (own_has s.own n)))
  where
    and_true : (a : Bool) → (a && true) ≡ a
    and_true true = refl
    and_true false = refl

pub settled_beside : (s : State) (q deal : ℕ) (numbers : List ℕ) (body : Option (List ℕ)) (n : List ℕ) → IsSteady s → name_listed (pending_name deal_name (row s q).pending) n ≡ false → own_has (after s (Settled (record { peer = q; deal = deal; slots = numbers; body = body }))).own n ≡ own_has s.own n
settled_beside s q deal numbers body n p other =
    let r = row s q in
    ended_beside_row s (Settled (record { peer = q; deal = deal; slots = numbers; body = body })) q n p refl refl
    (λ named. settled_names s q deal numbers body r n other (names_beside r n other named))

-- a discard leaves each own chunk of which nothing is owed by its peer
pub discard_beside : (s : State) (q : ℕ) (objects : List Object) (n : List ℕ) → IsSteady s → has debt_key (row s q).debts (Chunk n) ≡ false → own_has (after s (Discarded (record { peer = q; objects = objects }))).own n ≡ own_has s.own n
discard_beside s q objects n p free =
    let c : Change = Discarded (record { peer = q; objects = objects }) in
    let r = row s q in
    ended_beside_row s c q n p refl refl (λ named. still (has out_key r.outs (Chunk n)) (has debt_key r.debts (Chunk n)) (name_listed (pending_name deal_name r.pending) n) (has out_key (changed s c r).outs (Chunk n)) (has debt_key (changed s c r).debts (Chunk n)) free (chunk_stays out_key [] r.outs n) named)
  where
    still : (a b d a' b' : Bool) → b ≡ false → a' ≡ a → (a || b || d) ≡ true → (a' || b' || d) ≡ true
    still true b d a' b' none same h = rw same refl
    still false b true a' b' none same h = last (a' || b')
      where
        last : (x : Bool) → (x || true) ≡ true
        last true = refl
        last false = refl
    still false true false a' b' none same h = absurd (false≢true (sym none))
    still false false false a' b' none same h = absurd (false≢true h)

pub turned_beside : (s : State) (q deal why detail : ℕ) (n : List ℕ) → IsSteady s → name_listed (pending_name deal_name (row s q).pending) n ≡ false → own_has (after s (Turned (record { peer = q; deal = deal; why = why; detail = detail }))).own n ≡ own_has s.own n
turned_beside s q deal why detail n p other =
    let r = row s q in
    ended_beside_row s (Turned (record { peer = q; deal = deal; why = why; detail = detail })) q n p refl refl
    (λ named. turned_names s q deal why detail r n refl (names_beside r n other named))
