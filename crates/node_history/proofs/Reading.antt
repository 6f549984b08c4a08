-- What is known of a node's history while its records are read.
use Rattle.std.proofs.Common.{◌≡◌, ℕ, ◌+◌, ◌<◌, ◌≤◌, Bool, true, false, not, cond, inl, inr, List, [], ◌∷◌, ◌++◌, length, take, drop, get_or, slice_get, is_some, Option, Some, None, IfSome, refl, sym, ◌∙◌, ap, subst, arith, append_assoc, length-append}
use Rattle.std.specs.List.{list_all}
use Rattle.std.proofs.lemmas.Bool.{false≢true, and_parts}
use Rattle.std.proofs.lemmas.List.{take_more, drop_more, take_all, append-nil}
use Rattle.std.proofs.Math.ListN.{drop_of_length-le}
use Rattle.std.proofs.lemmas.Option.{slice_get-get_or}
use Rattle.psb_station.specs.View.{View}
use Rattle.psb_station.specs.Span.{Shows, Tells_bytes, Keeps}
use Rattle.psb_station.proofs.Spans.{at_some, shows_keeps}
use Rattle.node_journal.specs.Entry.{Entry, entry}
use Rattle.psb_model.specs.State.{State, nothing_yet, row, is_held}
use Rattle.psb_model.specs.Grammar.{fits_widths}
use Rattle.psb_model.specs.Conditions.{allowed}
use Rattle.psb_model.specs.Effects.{after}
use Rattle.psb_model.specs.History.{state, state_from, lawful_from}
use Rattle.psb_model.specs.Needed.{brings_name, body_is_right, IsValid}
use Rattle.psb_model.specs.declared.change.Change.{Change}
use Rattle.psb_model.proofs.Prefixes.{state_snoc, lawful_app, lawful_cons, lawful_snoc, all_snoc, changes_counted}
use Rattle.psb_model.proofs.ByObject.{by_cases}
use Rattle.change_codec.specs.Records.{IsRecord, OneChangeEach}
use Rattle.node_history.specs.Readable.{IsReadable}
use Rattle.node_history.specs.Stands.{AreDecoded}
use Rattle.chunk_store.specs.declared.store.Store.{Store}
use Rattle.slot_places.specs.Slots.{KnowsSlots, AreBelow}
use Rattle.slot_places.specs.Enters.{EntersSlots}
use Rattle.slot_places.proofs.Grown.{slots_grown, slots_below}
use Rattle.node_history.specs.Names.{KnowsNames, AreThere, SameNames, Enters}
use Rattle.model_laws.proofs.Directs.{has_direct}
use Rattle.node_history.specs.declared.history.Tables.{Tables}
use Rattle.node_history.specs.declared.history.Reader.{Reader}
use Rattle.node_history.specs.declared.lacking.Lacking.{Lacking}
use Rattle.node_history.specs.Lacking.{is_lacking, is_slot_lacking, NotesLacking}
use Rattle.node_history.specs.Reading.{IsFresh, AreOfSome, TakesUp, ReadTo, ArePlaced, Reading, NoneLacks, OneLacks}
use Rattle.node_history.proofs.Entered.{names_start, names_grown, names_same, IsPlaced, placed}
use Rattle.node_history.proofs.Lacks.{lacking_grown, sound_of, sound_lacks, sound_slot, none_lacks}

-- ---- histories in parts

list_all-at : {A : Type 0} (test : A → Bool) (xs : List A) (y : A) (ys : List A) → list_all test (xs ++ y ∷ ys) ≡ true → test y ≡ true
list_all-at test [] y ys h = (and_parts (test y) (list_all test ys) h).0
list_all-at test (x ∷ xs) y ys h = list_all-at test xs y ys (and_parts (test x) (list_all test (xs ++ y ∷ ys)) h).1

-- a change of a valid history
pub record IsNextOf (h : List Change) (c : Change) : Type 0 where
  pub readable : IsReadable c
  pub may : allowed (state h) c ≡ true

pub next_of : (h : List Change) (c : Change) (more : List Change) → IsValid (h ++ c ∷ more) → IsNextOf h c
next_of h c more v =
    let l = and_parts (lawful_from nothing_yet h) (lawful_from (state_from nothing_yet h) (c ∷ more)) (sym (lawful_app nothing_yet h (c ∷ more)) ∙ v.lawful) in
    let n = lawful_cons (state h) c more l.1 in
    record {
      readable = record {
        fit = list_all-at fits_widths h c more v.fit;
        grammar = n.grammar;
      };
      may = n.allows;
    }

-- ---- records in parts

pub decoded_push : (h : List Change) (es : List Entry) (c : Change) (e : Entry) → AreDecoded h es → IsRecord c e.head e.body → AreDecoded (h ++ c ∷ []) (es ++ e ∷ [])
decoded_push [] [] c e are is = (is, tt)
decoded_push [] (f ∷ es) c e are is = absurd are
decoded_push (d ∷ h) [] c e are is = absurd are
decoded_push (d ∷ h) (f ∷ es) c e are is = (are.0, decoded_push h es c e are.1 is)

pub length-decoded : (h : List Change) (es : List Entry) → AreDecoded h es → length h ≡ length es
length-decoded [] [] are = refl
length-decoded [] (f ∷ es) are = absurd are
length-decoded (d ∷ h) [] are = absurd are
length-decoded (d ∷ h) (f ∷ es) are = omega (arith, length-decoded h es are.1)

decoded_none : (h : List Change) → AreDecoded h [] → h ≡ []
decoded_none [] are = refl
decoded_none (c ∷ h) are = absurd are

decoded_first : (h : List Change) (e : Entry) (es : List Entry) → AreDecoded h (e ∷ es) → (c : Change) × (more : List Change) × (h ≡ c ∷ more) × IsRecord c e.head e.body × AreDecoded more es
decoded_first [] e es are = absurd are
decoded_first (c ∷ more) e es are = (c, more, refl, are.0, are.1)

pub start : (es : List Entry) → ReadTo es 0 []
start es = record { are = tt; back = λ all v are. (all, refl, are) }

-- the next change of a valid history of these records
pub next_change : (es : List Entry) (number : ℕ) (h : List Change) (d : Entry) → number < length es → ReadTo es number h → (all : List Change) → IsValid all → AreDecoded all es
    → (c : Change) × (more : List Change) × (all ≡ h ++ c ∷ more) × IsNextOf h c × IsRecord c (get_or es number d).head (get_or es number d).body × AreDecoded more (drop (number + 1) es)
next_change es number h d lt read all v are =
    let here : drop number es ≡ get_or es number d ∷ drop (number + 1) es = drop_more es number d lt in
    let b = read.back all v are in
    let f = decoded_first b.0 (get_or es number d) (drop (number + 1) es) (subst (λ (l : List Entry). AreDecoded b.0 l) here b.2) in
    let parts : all ≡ h ++ f.0 ∷ f.1 = b.1 ∙ ap (λ (l : List Change). h ++ l) f.2 in
    (f.0, f.1, parts, next_of h f.0 f.1 (subst IsValid parts v), f.3, f.4)

pub one_more : (one : OneChangeEach) (es : List Entry) (number : ℕ) (h : List Change) (d : Entry) (c : Change) → number < length es → ReadTo es number h → IsReadable c
    → IsRecord c (get_or es number d).head (get_or es number d).body → ReadTo es (number + 1) (h ++ c ∷ [])
one_more one es number h d c lt read readable is =
    let e = get_or es number d in
    record {
      are = subst (λ (l : List Entry). AreDecoded (h ++ c ∷ []) l) (sym (take_more es number d lt)) (decoded_push h (take number es) c e read.are is);
      back = λ all v are.
          let n = next_change es number h d lt read all v are in
          let same : n.0 ≡ c = one n.0 c e.head e.body n.3.readable.grammar readable.grammar n.3.readable.fit readable.fit n.4 is in
          (n.1, n.2 ∙ ap (λ (x : Change). h ++ x ∷ n.1) same ∙ sym (append_assoc h (c ∷ []) n.1), n.5);
    }

pub all_read : (es : List Entry) (number : ℕ) (h : List Change) → length es ≤ number → ReadTo es number h → AreDecoded h es
all_read es number h le read = subst (λ (l : List Entry). AreDecoded h l) (take_all number es le) read.are

-- ---- the loop

pub reading_start : (holds : List Entry → List ℕ → Type 0) (keeps : ℕ → Bool) (r : Reader) (first : View) → IsFresh r → Reading holds keeps 0 r.tables r.lacking first first
reading_start holds keeps r first fresh = record {
  history = [];
  lawful = refl;
  fit = refl;
  state_is = fresh.ledger;
  counted = refl;
  names = names_start r.tables.names fresh.records fresh.owners;
  there = λ name k here. absurd (let clash : None ≡ Some k = sym (fresh.records name) ∙ here in cc);
  lacking = record { names = fresh.names; slots = fresh.slots };
  slots = λ p n direct. fresh.places p n;
  below = λ p n k is. absurd (let clash : None ≡ Some k = sym (fresh.places p n) ∙ is in cc);
  reads = λ tells es shows. start es;
}

pub reading_known : (holds : List Entry → List ℕ → Type 0) (keeps : ℕ → Bool) (number : ℕ) (t : Tables) (w : Lacking) (first now : View) → Reading holds keeps number t w first now → AreOfSome t
reading_known holds keeps number t w first now r = record {
  history = r.history;
  lawful = r.lawful;
  state_is = r.state_is;
  names = r.names;
}

pub reading_counted : (holds : List Entry → List ℕ → Type 0) (keeps : ℕ → Bool) (number : ℕ) (t : Tables) (w : Lacking) (first now : View) → Reading holds keeps number t w first now → t.ledger.state.changes ≡ number
reading_counted holds keeps number t w first now r = ap (λ (x : State). x.changes) r.state_is ∙ changes_counted r.history ∙ r.counted

nothing : Entry
nothing = entry [] []

-- each name is still of a record that was read, and its body kept if it does not lack it
placed_more : (b m d : Store) (w x : Lacking) (h : List Change) (c : Change) (number : ℕ) (keeps : ℕ → Bool) → allowed (state h) c ≡ true → KnowsNames b h → SameNames b m → Enters (state h) m d c number → NotesLacking w x c
    → ((name : List ℕ) → brings_name name c ≡ true → body_is_right c ≡ true → keeps number ≡ true) → ArePlaced b w number keeps → ArePlaced d x (number + 1) keeps
placed_more b m d w x h c number keeps may knows same enters lacks kept was = λ q k here. at q k (placed m d h c number may (names_same b m h same knows) enters q k here)
  where
    right : (r : Bool) → not r ≡ false → r ≡ true
    right true h = refl
    right false h = absurd (false≢true (sym h))

    at : (q : List ℕ) (k : ℕ) → IsPlaced m c number q k → (k < number + 1) × (is_lacking x q ≡ false → keeps k ≡ true)
    at q k (inl old) =
        let before = was q k (sym (same.records q) ∙ old.0) in (
          omega (arith, before.0),
          λ fine. before.1 (sym (lacks.names q ∙ ap (λ (t : Bool). cond t (not (body_is_right c)) (is_lacking w q)) old.1) ∙ fine),
        )
    at q k (inr now) = (
      omega (arith, now.0),
      λ fine. subst (λ (i : ℕ). keeps i ≡ true) now.0 (kept q now.1 (right (body_is_right c) (sym (lacks.names q ∙ ap (λ (t : Bool). cond t (not (body_is_right c)) (is_lacking w q)) now.1) ∙ fine))),
    )

-- one record more was read
pub reading_more : (one : OneChangeEach) (holds : List Entry → List ℕ → Type 0) (size : ℕ) (keeps : ℕ → Bool) (number : ℕ) (t u : Tables) (w x : Lacking) (first now later : View) (c : Change)
    → ((es : List Entry) (i : List ℕ) → holds es i → size ≡ length es) → number < size → Keeps first now → Keeps now later
    → IsReadable c → (Tells_bytes later → (es : List Entry) → Shows (holds es) now → IfSome (slice_get es number) (λ e. IsRecord c e.head e.body))
    → ((name : List ℕ) → brings_name name c ≡ true → body_is_right c ≡ true → keeps number ≡ true)
    → TakesUp t u w x c number → Reading holds keeps number t w first now → Reading holds keeps (number + 1) u x first later
reading_more one holds size keeps number t u w x first now later c counts lt kept looked readable records bodies takes before =
    let h = before.history in
    let allows : allowed (state h) c ≡ true = subst (λ (y : State). allowed y c ≡ true) before.state_is takes.may in
    let entered : Enters (state h) takes.between u.names c number = subst (λ (y : State). Enters y takes.between u.names c number) before.state_is takes.enters in
    let placed_now : EntersSlots (state h) t.slots u.slots c number = subst (λ (y : State). EntersSlots y t.slots u.slots c number) before.state_is takes.slots in
    record {
      history = h ++ c ∷ [];
      lawful = lawful_snoc h c ∙ rw (before.lawful, readable.grammar, allows) refl;
      fit = all_snoc fits_widths h c ∙ rw (before.fit, readable.fit) refl;
      state_is = takes.grown ∙ ap (λ (x : State). after x c) before.state_is ∙ sym (state_snoc h c);
      counted = omega (arith, before.counted, length-append h (c ∷ []));
      names = names_grown takes.between u.names h c before.lawful allows (names_same t.names takes.between h takes.same before.names) (subst (λ (k : ℕ). Enters (state h) takes.between u.names c k) (sym before.counted) entered);
      there = placed_more t.names takes.between u.names w x h c number keeps allows before.names takes.same entered takes.lacks bodies before.there;
      lacking = lacking_grown w x h c before.lacking takes.lacks;
      slots = slots_grown t.slots u.slots h c allows before.slots (subst (λ (k : ℕ). EntersSlots (state h) t.slots u.slots c k) (sym before.counted) placed_now);
      below = slots_below t.slots u.slots (state h) c number placed_now before.below;
      reads = λ tells es shows.
          let told = looked.works.tells tells in
          let inside : number < length es = omega (arith, lt, counts es shows.bytes shows.reads) in
          let is : IsRecord c (get_or es number nothing).head (get_or es number nothing).body = at_some (slice_get es number) (λ e. IsRecord c e.head e.body) (get_or es number nothing) (records tells es (shows_keeps (holds es) first now kept told shows)) (slice_get-get_or es number nothing inside) in
          one_more one es number h nothing c inside (before.reads told es shows) readable is;
    }

-- what was read is a whole history, where nothing lacks its bytes
pub reading_done : (holds : List Entry → List ℕ → Type 0) (size : ℕ) (keeps : ℕ → Bool) (t : Tables) (w : Lacking) (first now : View)
    → ((es : List Entry) (i : List ℕ) → holds es i → size ≡ length es) → 0 < size → NoneLacks t w → Reading holds keeps size t w first now
    → (h : List Change) × IsValid h × (t.ledger.state ≡ state h) × KnowsNames t.names h × (Tells_bytes now → (es : List Entry) → Shows (holds es) first → AreDecoded h es) × KnowsSlots t.slots h
reading_done holds size keeps t w first now counts some none r =
    let h = r.history in (
      h,
      record {
        lawful = r.lawful;
        fit = r.fit;
        some = omega (arith, some, r.counted);
        sound = sound_of (state h) nothing_yet h r.lawful (none_lacks w t.names h r.names r.lacking none.names (subst (λ (x : State). (p n : ℕ) → is_slot_lacking w p n ≡ true → has_direct (row x p).ins n ≡ false) r.state_is none.slots));
      },
      r.state_is,
      r.names,
      λ tells es shows. all_read es size h (omega (arith, counts es shows.bytes shows.reads)) (r.reads tells es shows),
      r.slots,
    )

-- the records of slots are some of those that were read
pub reading_below : (holds : List Entry → List ℕ → Type 0) (size : ℕ) (keeps : ℕ → Bool) (t : Tables) (w : Lacking) (first now : View) → Reading holds keeps size t w first now → AreBelow t.slots size
reading_below holds size keeps t w first now r = r.below

-- and the log has the bodies of the names
pub reading_there : (holds : List Entry → List ℕ → Type 0) (size : ℕ) (keeps : ℕ → Bool) (t : Tables) (w : Lacking) (first now : View) → NoneLacks t w → Reading holds keeps size t w first now → AreThere t.names size keeps
reading_there holds size keeps t w first now none r = λ q k here.
    let placed_here = r.there q k here in
    (placed_here.0, placed_here.1 (by_cases (is_lacking w q) (λ lacking. absurd (false≢true (sym (none.names q lacking) ∙ ap is_some here))) (λ fine. fine)))

-- all records were read: a valid history of them is the one that was read
all_back : (holds : List Entry → List ℕ → Type 0) (size : ℕ) (keeps : ℕ → Bool) (t : Tables) (w : Lacking) (first now : View)
    → ((es : List Entry) (i : List ℕ) → holds es i → size ≡ length es) → (r : Reading holds keeps size t w first now)
    → Tells_bytes now → (es : List Entry) → Shows (holds es) first → (all : List Change) → IsValid all → AreDecoded all es → IsValid r.history
all_back holds size keeps t w first now counts r tells es shows all v are =
    let back = (r.reads tells es shows).back all v are in
    let at_end : drop size es ≡ [] = drop_of_length-le es (omega (arith, counts es shows.bytes shows.reads)) in
    let none_left : back.0 ≡ [] = decoded_none back.0 (subst (λ (l : List Entry). AreDecoded back.0 l) at_end back.2) in
    let same : all ≡ r.history = back.1 ∙ ap (λ (l : List Change). r.history ++ l) none_left ∙ append-nil r.history in
    subst IsValid same v

-- a name that is held lacks its bytes, or a slot that is to have them here
pub one_lacks : (holds : List Entry → List ℕ → Type 0) (size : ℕ) (keeps : ℕ → Bool) (t : Tables) (w : Lacking) (first now : View)
    → ((es : List Entry) (i : List ℕ) → holds es i → size ≡ length es) → OneLacks t w → Reading holds keeps size t w first now
    → Tells_bytes now → (es : List Entry) → Shows (holds es) first → (all : List Change) → IsValid all → ¬ AreDecoded all es
one_lacks holds size keeps t w first now counts (inl one) r tells es shows all v are =
    let h = r.history in
    let sound = (all_back holds size keeps t w first now counts r tells es shows all v are).sound in
    let held : is_held (state h) one.0 ≡ true = sym (r.names.held one.0) ∙ one.2 in
    absurd (false≢true (sym (sound_lacks (state h) one.0 h held sound) ∙ sym (r.lacking.names one.0) ∙ one.1))
one_lacks holds size keeps t w first now counts (inr one) r tells es shows all v are =
    let h = r.history in
    let sound = (all_back holds size keeps t w first now counts r tells es shows all v are).sound in
    let direct : has_direct (row (state h) one.0).ins one.1 ≡ true = ap (λ (x : State). has_direct (row x one.0).ins one.1) (sym r.state_is) ∙ one.3 in
    absurd (false≢true (sym (sound_slot (state h) one.0 one.1 h direct sound) ∙ sym (r.lacking.slots one.0 one.1) ∙ one.2))

-- a record that is no change which may come next
pub no_change : (holds : List Entry → List ℕ → Type 0) (size : ℕ) (keeps : ℕ → Bool) (number : ℕ) (t : Tables) (w : Lacking) (first now later : View)
    → ((es : List Entry) (i : List ℕ) → holds es i → size ≡ length es) → number < size → Keeps first now → Keeps now later
    → (Tells_bytes later → (es : List Entry) → Shows (holds es) now → IfSome (slice_get es number) (λ e. (c : Change) → IsReadable c → allowed t.ledger.state c ≡ true → ¬ IsRecord c e.head e.body))
    → Reading holds keeps number t w first now → Tells_bytes later → (es : List Entry) → Shows (holds es) first → (all : List Change) → IsValid all → ¬ AreDecoded all es
no_change holds size keeps number t w first now later counts lt kept looked none r tells es shows all v are =
    let before = looked.works.tells tells in
    let inside : number < length es = omega (arith, lt, counts es shows.bytes shows.reads) in
    let not_one = at_some (slice_get es number) (λ e. (c : Change) → IsReadable c → allowed t.ledger.state c ≡ true → ¬ IsRecord c e.head e.body) (get_or es number nothing) (none tells es (shows_keeps (holds es) first now kept before shows)) (slice_get-get_or es number nothing inside) in
    let n = next_change es number r.history nothing inside (r.reads before es shows) all v are in
    let allows : allowed t.ledger.state n.0 ≡ true = ap (λ (x : State). allowed x n.0) r.state_is ∙ n.3.may in
    not_one n.0 n.3.readable allows n.4

-- ---- one record

-- a record of a change that may not come next is of no change that may
pub not_next : (one : OneChangeEach) (o : Option Entry) (s : State) (c : Change) → IsReadable c → allowed s c ≡ false → IfSome o (λ e. IsRecord c e.head e.body)
    → IfSome o (λ e. (d : Change) → IsReadable d → allowed s d ≡ true → ¬ IsRecord d e.head e.body)
not_next one None s c readable may is = tt
not_next one (Some e) s c readable may is = λ d fine allows of_d.
    let same : d ≡ c = one d c e.head e.body fine.grammar readable.grammar fine.fit readable.fit of_d is in
    absurd (false≢true (sym may ∙ ap (allowed s) (sym same) ∙ allows))

-- nor is a record that is of no change at all
pub not_any : (o : Option Entry) (s : State) → IfSome o (λ e. (d : Change) → IsReadable d → ¬ IsRecord d e.head e.body)
    → IfSome o (λ e. (d : Change) → IsReadable d → allowed s d ≡ true → ¬ IsRecord d e.head e.body)
not_any None s none = tt
not_any (Some e) s none = λ d fine allows of_d. none d fine of_d
