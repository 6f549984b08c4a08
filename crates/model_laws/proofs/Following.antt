-- What stands before what, in every lawful history: each discard comes after a failure, and each outcome after its Asked.
use Rattle.std.proofs.Common.{◌≡◌, ◌≤◌, ◌<◌, ◌⊎◌, inl, inr, ℕ, Bool, true, false, cond, List, [], ◌∷◌, ◌++◌, length, Option, Some, None, refl, sym, ap, ◌∙◌, subst, ⊎_elim, append_assoc, append-nil, length-append, arith}
use Rattle.std.specs.Prelude.{◌==◌, nat_lt, is_some}
use Rattle.std.specs.List.{list_any, list_all}
use Rattle.std.proofs.lemmas.Bool.{false≢true, eqb-true, eq-eqb, and_parts, leb-true}
use Rattle.std.proofs.lemmas.List.Folds.{list_any-append, list_all-append}
use Rattle.psb_bytes.specs.declared.ids.Object.{Object}
use Rattle.psb_model.specs.declared.change.Change.{Change}
use Rattle.psb_model.specs.declared.change.Change.TheVariants.{Begun, Kept, Snapped, Forgot, TookFresh, TookSwap, LetGo, LetGoBack, Replaced, Refused, Proposed, Settled, Turned, Asked, Passed, Failed, Declined, Discarded, Chose}
use Rattle.psb_model.specs.Words.{all_of}
use Rattle.psb_model.specs.Grammar.{is_u32, objects_listed, object_fits, fits_widths}
use Rattle.psb_model.specs.Needed.{IsValid}
use Rattle.psb_model.specs.State.{Row, State, nothing_yet, row, is_peer}
use Rattle.psb_model.specs.Conditions.{peer_of, settings_of_body, asked_objects, asked_count, same_objects, is_outcome, tests, allowed}
use Rattle.psb_model.specs.Effects.{after}
use Rattle.psb_model.specs.History.{lawful_from, state, is_lawful}
use Rattle.psb_model.proofs.ByObject.{by_cases}
use Rattle.psb_model.proofs.Standing.{same_objects-same}
use Rattle.psb_model.proofs.Steps.{parts}
use Rattle.psb_model.proofs.Rows.{row_in-first_rows}
use Rattle.psb_model.proofs.Prefixes.{state_snoc, changes_counted, lawful_app, lawful_cons}
use Rattle.psb_model.proofs.Steady.{allows, begun_before, or_true}
use Rattle.psb_model.proofs.Bare.{changed, row_bare}
use Rattle.model_laws.specs.Following.{is_failure, is_discard, HasFailure, AllDiscardsFollow, probe_of, probes, HasAsked, Suits, Answers, AllOutcomesOnce}

-- ---- what a change does to the open probe of a peer, and to its discard that is due

-- the row of p after change c, whose row was r
pub record Noted (n : ℕ) (c : Change) (p : ℕ) (r r' : Row) : Type 0 where
  pub asked : (m : ℕ) (os : List Object) → r'.asked ≡ Some (m, os) → ((c ≡ Asked (record { peer = p; objects = os })) × (n ≡ m)) ⊎ ((probes p c ≡ false) × (r.asked ≡ Some (m, os)))
  pub due : r'.due ≡ true → (is_failure p c ≡ true) ⊎ ((is_discard p c ≡ false) × (r.due ≡ true))

abbrev pub Notes : State → Change → ℕ → Type 0
Notes s c p = Noted s.changes c p (row s p) (row (after s c) p)

-- a change that is no probe and no discard of p leaves both
noted_same : (n : ℕ) (c : Change) (p : ℕ) (r r' : Row) → r'.asked ≡ r.asked → r'.due ≡ r.due → probes p c ≡ false → is_discard p c ≡ false → Noted n c p r r'
noted_same n c p r r' asked due quiet kept = record {
  asked = λ m os e. inr (quiet, sym asked ∙ e);
  due = λ e. inr (kept, sym due ∙ e);
}

-- and what is said of a row holds of one with the same two
noted_eq : (n : ℕ) (c : Change) (p : ℕ) (r a b : Row) → b.asked ≡ a.asked → b.due ≡ a.due → Noted n c p r a → Noted n c p r b
noted_eq n c p r a b asked due y = record {
  asked = λ m os e. y.asked m os (sym asked ∙ e);
  due = λ e. y.due (sym due ∙ e);
}

-- a change of q, of which p's row shows what was noted
noted_row : (s : State) (c : Change) (q p : ℕ) → peer_of c ≡ Some q → is_peer s q ≡ true → ((q == p) ≡ true → Noted s.changes c p (row s p) (changed s c (row s p))) → ((q == p) ≡ false → (probes p c ≡ false) × (is_discard p c ≡ false)) → Notes s c p
noted_row s c q p e here mine other =
    let is = row_bare s c q p e here in
    let asked : (row (after s c) p).asked ≡ (cond (q == p) (changed s c (row s p)) (row s p)).asked = ap (λ (r : Row). r.asked) is in
    let due : (row (after s c) p).due ≡ (cond (q == p) (changed s c (row s p)) (row s p)).due = ap (λ (r : Row). r.due) is in
    by_cases (q == p)
    (λ k. noted_eq s.changes c p (row s p) (changed s c (row s p)) (row (after s c) p) (asked ∙ rw k refl) (due ∙ rw k refl) (mine k))
    (λ k. noted_same s.changes c p (row s p) (row (after s c) p) (asked ∙ rw k refl) (due ∙ rw k refl) (other k).0 (other k).1)

-- a kind that leaves both
quiet_row : (s : State) (c : Change) (q p : ℕ) → peer_of c ≡ Some q → is_peer s q ≡ true → ((r : Row) → (changed s c r).asked ≡ r.asked) → ((r : Row) → (changed s c r).due ≡ r.due) → probes p c ≡ false → is_discard p c ≡ false → Notes s c p
quiet_row s c q p e here asked due quiet kept = noted_row s c q p e here (λ k. noted_same s.changes c p (row s p) (changed s c (row s p)) (asked (row s p)) (due (row s p)) quiet kept) (λ k. (quiet, kept))

some_is : {A : Type 0} (a b : A) → Some a ≡ Some b → a ≡ b
some_is a b e = cc (e)

none_open : {A B : Type 0} (b : B) → None ≡ Some b → A
none_open b e = absurd (cc (e))

-- an outcome that a relay tells, or of another peer's probe, is none of an own probe of p
by_relay : (b : Bool) (a : ℕ × ℕ) (p : ℕ) → b ≡ true → elim (cond b None (Some a)) [ None ↦ false | Some probe ↦ probe.0 == p ] ≡ false
by_relay true a p h = refl
by_relay false a p h = absurd (false≢true h)

of_other : (b : Bool) (a : ℕ × ℕ) (p : ℕ) → (a.0 == p) ≡ false → elim (cond b None (Some a)) [ None ↦ false | Some probe ↦ probe.0 == p ] ≡ false
of_other true a p h = refl
of_other false a p h = h

-- of each kind
pub noted : (s : State) (c : Change) (p : ℕ) → allowed s c ≡ true → Notes s c p
noted s (Begun x) p h =
    let is = row_in-first_rows (settings_of_body x.body) p in
    record {
      asked = λ m os e. none_open (m, os) (sym (ap (λ (r : Row). r.asked) is) ∙ e);
      due = λ e. absurd (false≢true (sym (ap (λ (r : Row). r.due) is) ∙ e));
    }
noted s (Kept x) p h = noted_same s.changes (Kept x) p (row s p) (row s p) refl refl refl refl
noted s (Snapped x) p h = noted_same s.changes (Snapped x) p (row s p) (row s p) refl refl refl refl
noted s (Forgot x) p h = noted_same s.changes (Forgot x) p (row s p) (row s p) refl refl refl refl
noted s (Chose x) p h = noted_same s.changes (Chose x) p (row s p) (row s p) refl refl refl refl
noted s (TookFresh x) p h = quiet_row s (TookFresh x) x.peer p refl (allows s (TookFresh x) h).peer (λ r. refl) (λ r. refl) refl refl
noted s (TookSwap x) p h = quiet_row s (TookSwap x) x.peer p refl (allows s (TookSwap x) h).peer (λ r. refl) (λ r. refl) refl refl
noted s (LetGo x) p h = quiet_row s (LetGo x) x.peer p refl (allows s (LetGo x) h).peer (λ r. refl) (λ r. refl) refl refl
noted s (LetGoBack x) p h = quiet_row s (LetGoBack x) x.peer p refl (allows s (LetGoBack x) h).peer (λ r. refl) (λ r. refl) refl refl
noted s (Replaced x) p h = quiet_row s (Replaced x) x.peer p refl (allows s (Replaced x) h).peer (λ r. refl) (λ r. refl) refl refl
noted s (Refused x) p h = quiet_row s (Refused x) x.peer p refl (allows s (Refused x) h).peer (λ r. refl) (λ r. refl) refl refl
noted s (Proposed x) p h = quiet_row s (Proposed x) x.peer p refl (allows s (Proposed x) h).peer (λ r. refl) (λ r. refl) refl refl
noted s (Settled x) p h = quiet_row s (Settled x) x.peer p refl (allows s (Settled x) h).peer (λ r. refl) (λ r. refl) refl refl
noted s (Turned x) p h = quiet_row s (Turned x) x.peer p refl (allows s (Turned x) h).peer (λ r. refl) (λ r. refl) refl refl
noted s (Asked x) p h =
    noted_row s (Asked x) x.peer p refl (allows s (Asked x) h).peer
    (λ k. let peer = eqb-true x.peer p k in
    record {
      asked = λ m os e. let same = some_is (s.changes, x.objects) (m, os) e in
          inl (ap (λ q. Asked (record { peer = q; objects = x.objects })) peer ∙ ap (λ (a : ℕ × List Object). Asked (record { peer = p; objects = a.1 })) same, ap (λ (a : ℕ × List Object). a.0) same);
      due = λ e. inr (refl, e);
    })
    (λ k. (k, refl))
noted s (Passed x) p h =
    noted_row s (Passed x) x.peer p refl (allows s (Passed x) h).peer
    (λ k. by_cases (x.asked == 0)
    (λ j. noted_same s.changes (Passed x) p (row s p) (changed s (Passed x) (row s p)) (rw j refl) (rw j refl) (by_relay (x.asked == 0) (x.peer, x.asked) p j) refl)
    (λ j. record {
      asked = λ m os e. let e' = rw j at e in none_open (m, os) e';
      due = λ e. let e' = rw j at e in inr (refl, e');
    }))
    (λ k. (of_other (x.asked == 0) (x.peer, x.asked) p k, refl))
noted s (Failed x) p h =
    noted_row s (Failed x) x.peer p refl (allows s (Failed x) h).peer
    (λ k. record {
      asked = λ m os e. by_cases (x.asked == 0) (λ j. let e' = rw j at e in inr (by_relay (x.asked == 0) (x.peer, x.asked) p j, e')) (λ j. let e' = rw j at e in none_open (m, os) e');
      due = λ e. inl k;
    })
    (λ k. (of_other (x.asked == 0) (x.peer, x.asked) p k, refl))
noted s (Declined x) p h =
    noted_row s (Declined x) x.peer p refl (allows s (Declined x) h).peer
    (λ k. record { asked = λ m os e. none_open (m, os) e; due = λ e. inl k })
    (λ k. (k, refl))
noted s (Discarded x) p h =
    noted_row s (Discarded x) x.peer p refl (allows s (Discarded x) h).peer
    (λ k. record { asked = λ m os e. inr (refl, e); due = λ e. absurd (false≢true e) })
    (λ k. (refl, k))

-- ---- over whole histories

-- what the row of p says of the changes so far
record Shows (h : List Change) (p : ℕ) : Type 0 where
  asked : (n : ℕ) (os : List Object) → (row (state h) p).asked ≡ Some (n, os) → HasAsked h p n os
  due : (row (state h) p).due ≡ true → HasFailure h p

none_snoc : (f : Change → Bool) (l : List Change) (c : Change) → list_any f l ≡ false → f c ≡ false → list_any f (l ++ c ∷ []) ≡ false
none_snoc f l c a b = list_any-append f l (c ∷ []) ∙ rw (a, b) refl

has_asked_snoc : (h : List Change) (c : Change) (p n : ℕ) (os : List Object) → HasAsked h p n os → probes p c ≡ false → HasAsked (h ++ c ∷ []) p n os
has_asked_snoc h c p n os y quiet = record {
  earlier = y.earlier;
  since = y.since ++ c ∷ [];
  parts = ap (λ l. l ++ c ∷ []) y.parts ∙ append_assoc y.earlier (Asked (record { peer = p; objects = os }) ∷ y.since) (c ∷ []);
  number = y.number;
  none_since = none_snoc (probes p) y.since c y.none_since quiet;
}

has_failure_snoc : (h : List Change) (c : Change) (p : ℕ) → HasFailure h p → is_discard p c ≡ false → HasFailure (h ++ c ∷ []) p
has_failure_snoc h c p y kept = record {
  earlier = y.earlier;
  failure = y.failure;
  since = y.since ++ c ∷ [];
  parts = ap (λ l. l ++ c ∷ []) y.parts ∙ append_assoc y.earlier (y.failure ∷ y.since) (c ∷ []);
  fails = y.fails;
  none_since = none_snoc (is_discard p) y.since c y.none_since kept;
}

shows_snoc : (h : List Change) (c : Change) (p : ℕ) → allowed (state h) c ≡ true → Shows h p → Shows (h ++ c ∷ []) p
shows_snoc h c p may y =
    let x = noted (state h) c p may in
    record {
      asked = λ n os e. ⊎_elim
          (λ (a : (c ≡ Asked (record { peer = p; objects = os })) × ((state h).changes ≡ n)). record { earlier = h; since = []; parts = ap (λ d. h ++ d ∷ []) a.0; number = sym (changes_counted h) ∙ a.1; none_since = refl })
          (λ (b : (probes p c ≡ false) × ((row (state h) p).asked ≡ Some (n, os))). has_asked_snoc h c p n os (y.asked n os b.1) b.0)
          (x.asked n os (ap (λ (s : State). (row s p).asked) (sym (state_snoc h c)) ∙ e));
      due = λ e. ⊎_elim
          (λ (a : is_failure p c ≡ true). record { earlier = h; failure = c; since = []; parts = refl; fails = a; none_since = refl })
          (λ (b : (is_discard p c ≡ false) × ((row (state h) p).due ≡ true)). has_failure_snoc h c p (y.due b.1) b.0)
          (x.due (ap (λ (s : State). (row s p).due) (sym (state_snoc h c)) ∙ e));
    }

shows_from : (p : ℕ) (h rest : List Change) → Shows h p → lawful_from (state h) rest ≡ true → Shows (h ++ rest) p
shows_from p h [] y v = subst (λ l. Shows l p) (sym (append-nil h)) y
shows_from p h (c ∷ cs) y v =
    let w = lawful_cons (state h) c cs v in
    subst (λ l. Shows l p) (append_assoc h (c ∷ []) cs) (shows_from p (h ++ c ∷ []) cs (shows_snoc h c p w.allows y) (ap (λ (s : State). lawful_from s cs) (state_snoc h c) ∙ w.rest))

shows_state : (h : List Change) (p : ℕ) → is_lawful h ≡ true → Shows h p
shows_state h p v = shows_from p [] h (record { asked = λ n os e. none_open (n, os) e; due = λ e. absurd (false≢true e) }) v

-- the changes before one of a lawful history, and that it may be made after them
record Reached (before : List Change) (c : Change) : Type 0 where
  shows : (p : ℕ) → Shows before p
  may : allowed (state before) c ≡ true

reached : (before : List Change) (c : Change) (later : List Change) → is_lawful (before ++ c ∷ later) ≡ true → Reached before c
reached before c later v =
    let two = and_parts (is_lawful before) (lawful_from (state before) (c ∷ later)) (sym (lawful_app nothing_yet before (c ∷ later)) ∙ v) in
    record {
      shows = λ p. shows_state before p two.0;
      may = (lawful_cons (state before) c later two.1).allows;
    }

-- the first law
pub discards_follow : AllDiscardsFollow
discards_follow before later p objects v =
    let c : Change = Discarded (record { peer = p; objects = objects }) in
    let r = reached before c later v in
    (r.shows p).due (parts (tests (state before) c) (allows (state before) c r.may).tests).0

-- ---- a probe that is open

-- its number is that of a change behind the first, and its objects are distinct, fit their fields, and are 1 to 32
pub record IsAsked (h : List Change) (n : ℕ) (objects : List Object) : Type 0 where
  pub behind : 1 ≤ n
  pub within : n < length h
  pub listed : objects_listed objects ≡ true
  pub fit : list_all object_fits objects ≡ true
  pub some : 1 ≤ length objects
  pub few : length objects ≤ 32

asked_at : (earlier since : List Change) (p : ℕ) (objects : List Object) → IsValid (earlier ++ Asked (record { peer = p; objects = objects }) ∷ since) → IsAsked (earlier ++ Asked (record { peer = p; objects = objects }) ∷ since) (length earlier) objects
asked_at earlier since p objects v =
    let c : Change = Asked (record { peer = p; objects = objects }) in
    let two = and_parts (is_lawful earlier) (lawful_from (state earlier) (c ∷ since)) (sym (lawful_app nothing_yet earlier (c ∷ since)) ∙ v.lawful) in
    let w = lawful_cons (state earlier) c since two.1 in
    let ts = parts (tests (state earlier) c) (allows (state earlier) c w.allows).tests in
    let widths = and_parts (list_all fits_widths earlier) (list_all fits_widths (c ∷ since)) (sym (list_all-append fits_widths earlier (c ∷ since)) ∙ v.fit) in
    let own = and_parts (fits_widths c) (list_all fits_widths since) widths.1 in
    record {
      behind = subst (λ n. 1 ≤ n) (changes_counted earlier) (begun_before (state earlier) c refl w.allows);
      within = omega (arith, length-append earlier (c ∷ since));
      listed = w.grammar;
      fit = (and_parts (is_u32 p) (list_all object_fits objects) own.0).1;
      some = leb-true 1 (length objects) ts.0;
      few = leb-true (length objects) 32 ts.1.0;
    }

pub asked_is : (h : List Change) (p n : ℕ) (objects : List Object) → IsValid h → (row (state h) p).asked ≡ Some (n, objects) → IsAsked h n objects
asked_is h p n objects v is =
    let y = (shows_state h p v.lawful).asked n objects is in
    subst (λ l. IsAsked l n objects) (sym y.parts) (subst (λ m. IsAsked (y.earlier ++ Asked (record { peer = p; objects = objects }) ∷ y.since) m objects) y.number (asked_at y.earlier y.since p objects (subst IsValid y.parts v)))

-- ---- outcomes

-- the open probe is that of this number
open_is : (a : Option (ℕ × List Object)) (n : ℕ) (os : List Object) → asked_objects a n ≡ Some os → a ≡ Some (n, os)
open_is None n os h = absurd (cc (h))
open_is (Some b) n os h = by_cases (b.0 == n)
    (λ k. let h' : Some b.1 ≡ Some os = rw k at h in
    let same : b.1 ≡ os = cc (h') in
    ap (λ m. Some (m, b.1)) (eqb-true b.0 n k) ∙ ap (λ l. Some (n, l)) same)
    (λ k. let h' : None ≡ Some os = rw k at h in absurd (cc (h')))

-- the outcome of an own probe lists what was asked for
outcome_open : (r : Row) (n : ℕ) (objects : List Object) → (n == 0) ≡ false → is_outcome r n objects ≡ true → r.asked ≡ Some (n, objects)
outcome_open r n objects own h = let h' = rw own at h in by_found (asked_objects r.asked n) refl h'
  where
    by_found : (o : Option (List Object)) → asked_objects r.asked n ≡ o → elim o [ None ↦ false | Some os ↦ same_objects os objects ] ≡ true → r.asked ≡ Some (n, objects)
    by_found None e k = absurd (false≢true k)
    by_found (Some os) e k = open_is r.asked n os e ∙ ap (λ l. Some (n, l)) (same_objects-same os objects k)

-- the outcome names this probe, which is open
answers_open : (before : List Change) (c : Change) (p n : ℕ) (objects : List Object) → Shows before p → (row (state before) p).asked ≡ Some (n, objects) → Suits objects c → Answers before c p n
answers_open before c p n objects y stands suits = record { objects = objects; asked = y.asked n objects stands; suits = suits }

answers_declined : (before : List Change) (p n : ℕ) (places : List ℕ) → Shows before p → all_of (tests (state before) (Declined (record { peer = p; asked = n; places = places }))) ≡ true → Answers before (Declined (record { peer = p; asked = n; places = places })) p n
answers_declined before p n places y h =
    let ts = parts (tests (state before) (Declined (record { peer = p; asked = n; places = places }))) h in
    by_found (asked_objects (row (state before) p).asked n) refl ts.0 ts.1.0
  where
    by_found : (o : Option (List Object)) → asked_objects (row (state before) p).asked n ≡ o → is_some o ≡ true → list_all (λ k. nat_lt k (asked_count o)) places ≡ true → Answers before (Declined (record { peer = p; asked = n; places = places })) p n
    by_found None i some low = absurd (false≢true some)
    by_found (Some os) i some low = answers_open before (Declined (record { peer = p; asked = n; places = places })) p n os y (open_is (row (state before) p).asked n os i) low

answers_by : (before : List Change) (c : Change) (a b : ℕ × ℕ) → Some a ≡ Some b → Answers before c a.0 a.1 → Answers before c b.0 b.1
answers_by before c a b e y = subst (λ (k : ℕ × ℕ). Answers before c k.0 k.1) (some_is a b e) y

answers_listed : (before : List Change) (c : Change) (a b : ℕ × ℕ) (objects : List Object) → Shows before a.0 → is_outcome (row (state before) a.0) a.1 objects ≡ true → Suits objects c → cond (a.1 == 0) None (Some a) ≡ Some b → Answers before c b.0 b.1
answers_listed before c a b objects y h suits e = by_cases (a.1 == 0)
    (λ k. let e' = rw k at e in none_open b e')
    (λ k. let e' = rw k at e in answers_by before c a b e' (answers_open before c a.0 a.1 objects y (outcome_open (row (state before) a.0) a.1 objects k h) suits))

answered : (before : List Change) (c : Change) (p n : ℕ) → Reached before c → probe_of c ≡ Some (p, n) → Answers before c p n
answered before (Passed x) p n r e =
    let ts = parts (tests (state before) (Passed x)) (allows (state before) (Passed x) r.may).tests in
    answers_listed before (Passed x) (x.peer, x.asked) (p, n) x.objects (r.shows x.peer) ts.0 refl e
answered before (Failed x) p n r e =
    let ts = parts (tests (state before) (Failed x)) (allows (state before) (Failed x) r.may).tests in
    answers_listed before (Failed x) (x.peer, x.asked) (p, n) x.objects (r.shows x.peer) ts.0 refl e
answered before (Declined x) p n r e =
    answers_by before (Declined x) (x.peer, x.asked) (p, n) e (answers_declined before x.peer x.asked x.places (r.shows x.peer) (allows (state before) (Declined x) r.may).tests)
answered before _ p n r e = none_open (p, n) e

-- what stands at one place of a list is one, and so is what comes behind it
one_place : {A : Type 0} (xs ys : List A) (x y : A) (r t : List A) → xs ++ x ∷ r ≡ ys ++ y ∷ t → length xs ≡ length ys → (x ≡ y) × (r ≡ t)
one_place [] [] x y r t e h = let a : x ≡ y = cc (e) in let b : r ≡ t = cc (e) in (a, b)
one_place [] (w ∷ ws) x y r t e h = absurd (omega (arith, h))
one_place (v ∷ vs) [] x y r t e h = absurd (omega (arith, h))
one_place (v ∷ vs) (w ∷ ws) x y r t e h = let e' : vs ++ x ∷ r ≡ ws ++ y ∷ t = cc (e) in one_place vs ws x y r t e' (omega (arith, h))

-- the outcome of a probe of p is one of p's probing
own_probes : (c : Change) (p n : ℕ) → probe_of c ≡ Some (p, n) → probes p c ≡ true
own_probes (Asked x) p n e = none_open (p, n) e
own_probes c p n e = ap (λ (o : Option (ℕ × ℕ)). elim o [ None ↦ false | Some probe ↦ probe.0 == p ]) e ∙ eq-eqb p p refl

asked_peer : (p q : ℕ) (os us : List Object) → Asked (record { peer = p; objects = os }) ≡ Asked (record { peer = q; objects = us }) → p ≡ q
asked_peer p q os us e = ap (λ (o : Option ℕ). elim o [ None ↦ p | Some k ↦ k ]) (ap peer_of e)

-- the Asked of a later outcome of the same number is the same one, and the first outcome is behind it
no_second : (before : List Change) (c : Change) (between : List Change) (d : Change) (p q n : ℕ) → Answers before c p n → Answers (before ++ c ∷ between) d q n → probes p c ≡ true → ⊥
no_second before c between d p q n a b mine =
    let x = a.asked in
    let y = b.asked in
    let first : Change = Asked (record { peer = p; objects = a.objects }) in
    let second : Change = Asked (record { peer = q; objects = b.objects }) in
    let both : x.earlier ++ first ∷ (x.since ++ c ∷ between) ≡ y.earlier ++ second ∷ y.since = sym (append_assoc x.earlier (first ∷ x.since) (c ∷ between)) ∙ ap (λ l. l ++ c ∷ between) (sym x.parts) ∙ y.parts in
    let one = one_place x.earlier y.earlier first second (x.since ++ c ∷ between) y.since both (x.number ∙ sym y.number) in
    let peer = asked_peer p q a.objects b.objects one.0 in
    let some : list_any (probes p) (x.since ++ c ∷ between) ≡ true = list_any-append (probes p) x.since (c ∷ between) ∙ rw mine (or_true (list_any (probes p) x.since)) in
    false≢true (sym y.none_since ∙ ap (λ k. list_any (probes k) y.since) (sym peer) ∙ ap (list_any (probes p)) (sym one.1) ∙ some)

-- the second law
pub outcomes_once : AllOutcomesOnce
outcomes_once = record {
  answers = λ before c later p n v e. answered before c p n (reached before c later v) e;
  once = λ before c between d later p q n v e f.
      let a = answered before c p n (reached before c (between ++ d ∷ later) (ap is_lawful (sym (append_assoc before (c ∷ between) (d ∷ later))) ∙ v)) e in
      let b = answered (before ++ c ∷ between) d q n (reached (before ++ c ∷ between) d later v) f in
      no_second before c between d p q n a b (own_probes c p n e);
}
