-- Which names lack their bytes, and the histories that have those that they need.
use Rattle.std.proofs.Common.{◌≡◌, ℕ, Bool, true, false, not, ◌||◌, ◌&&◌, ◌==◌, cond, List, [], ◌∷◌, ◌++◌, Option, Some, None, is_some, refl, sym, ◌∙◌, ap, subst}
use Rattle.std.specs.List.{list_any}
use Rattle.std.specs.declared.cmp.Ordering.{Ordering}
use Rattle.std.specs.Ordering.{nat_cmp, is_eq}
use Rattle.std.specs.Cmp.Lexicographic.{slice_cmp}
use Rattle.std.proofs.lemmas.Map.Text.{is_eq-slice_cmp}
use Rattle.std.proofs.lemmas.Bool.{false≢true, eqb-true, eq-eqb, and_parts}
use Rattle.psb_model.specs.State.{State, row, is_held}
use Rattle.psb_model.specs.Words.{name_eq}
use Rattle.psb_model.specs.Heads.{body_of}
use Rattle.psb_model.specs.Conditions.{allowed, tests, is_begun, peer_of}
use Rattle.psb_model.specs.Effects.{after}
use Rattle.psb_model.specs.History.{state, lawful_from}
use Rattle.psb_model.specs.Needed.{brings, brings_name, gives_slot, slots_given, needs_name, needs_slot, is_needed_by, is_body, body_is_right, bodies_right, last_that, last_bringing}
use Rattle.psb_model.specs.declared.change.Change.{Change}
use Rattle.psb_model.specs.declared.change.Change.TheVariants.{Begun, Kept, TookFresh, TookSwap, LetGoBack, Replaced, Settled}
use Rattle.psb_model.proofs.ByObject.{by_cases}
use Rattle.psb_model.proofs.Own.{name_same, name_refl}
use Rattle.psb_model.proofs.Steps.{parts}
use Rattle.psb_model.proofs.Steady.{allows}
use Rattle.model_laws.proofs.Directs.{has_direct}
use Rattle.psb_model.proofs.Prefixes.{lawful_cons}
use Rattle.chunk_store.specs.declared.store.Store.{Store}
use Rattle.chunk_store.specs.Store.{record_of}
use Rattle.node_history.specs.Names.{KnowsNames}
use Rattle.node_history.specs.declared.lacking.Lacking.{Lacking}
use Rattle.node_history.specs.Lacking.{lacks, lacks_name, lacks_slot, is_lacking, is_slot_lacking, KnowsLacking, NotesLacking}

-- ---- one change more

abbrev or_this : Option Change → Bool → Change → Option Change
or_this later passes c = elim later [ Some d ↦ Some d | None ↦ cond passes (Some c) None ]

last_snoc : (test : Change → Bool) (h : List Change) (c : Change) → last_that test (h ++ c ∷ []) ≡ cond (test c) (Some c) (last_that test h)
last_snoc test [] c = refl
last_snoc test (d ∷ h) c = ap (λ (o : Option Change). or_this o (test d) d) (last_snoc test h c) ∙ at (test c)
  where
    at : (b : Bool) → or_this (cond b (Some c) (last_that test h)) (test d) d ≡ cond b (Some c) (or_this (last_that test h) (test d) d)
    at true = refl
    at false = refl

lacks_cond : (b : Bool) (c : Change) (o : Option Change) → cond b (not (body_is_right c)) (lacks o) ≡ lacks (cond b (Some c) o)
lacks_cond true c o = refl
lacks_cond false c o = refl

pub lacking_grown : (old new : Lacking) (h : List Change) (c : Change) → KnowsLacking old h → NotesLacking old new c → KnowsLacking new (h ++ c ∷ [])
lacking_grown old new h c k notes = record {
  names = λ name.
      notes.names name
      ∙ ap (λ (b : Bool). cond (brings_name name c) (not (body_is_right c)) b) (k.names name)
      ∙ lacks_cond (brings_name name c) c (last_bringing name h)
      ∙ sym (ap lacks (last_snoc (brings_name name) h c));
  slots = λ p n.
      notes.slots p n
      ∙ ap (λ (b : Bool). cond (gives_slot p n c) (not (body_is_right c)) b) (k.slots p n)
      ∙ lacks_cond (gives_slot p n c) c (last_that (gives_slot p n) h)
      ∙ sym (ap lacks (last_snoc (gives_slot p n) h c));
}

-- a change that gives a peer's slots their bytes, and brings none under a name
pub notes_slots : (old new : Lacking) (c : Change) (p : ℕ) (numbers : List ℕ) (has_them : Bool) → brings c ≡ None → peer_of c ≡ Some p → slots_given c ≡ numbers → has_them ≡ is_some (body_of c)
    → ((q n : ℕ) → is_slot_lacking new q n ≡ cond (p == q && list_any (λ m. m == n) numbers) (not has_them) (is_slot_lacking old q n)) → ((name : List ℕ) → is_lacking new name ≡ is_lacking old name) → NotesLacking old new c
notes_slots old new c p numbers has_them none peer given has noted same = record {
  names = λ name. same name ∙ sym (ap (λ (b : Bool). cond b (not (body_is_right c)) (is_lacking old name)) (brings_not name));
  slots = λ q n. noted q n ∙ (λ i. cond (gives q n i) (not (has_is i)) (is_slot_lacking old q n));
}
  where
    brings_not : (name : List ℕ) → brings_name name c ≡ false
    brings_not name = ap (λ (o : Option (List ℕ)). elim o [ None ↦ false | Some m ↦ name_eq m name ]) none

    some_body : (o : Option (List ℕ)) → is_some o ≡ is_body None o
    some_body None = refl
    some_body (Some bytes) = refl

    has_is : has_them ≡ body_is_right c
    has_is = has ∙ some_body (body_of c) ∙ ap (λ (o : Option (List ℕ)). is_body o (body_of c)) (sym none)

    gives : (q n : ℕ) → (p == q && list_any (λ m. m == n) numbers) ≡ gives_slot q n c
    gives q n =
        ap (λ (l : List ℕ). p == q && list_any (λ m. m == n) l) (sym given)
        ∙ ap (λ (o : Option ℕ). elim o [ None ↦ false | Some r ↦ r == q && list_any (λ m. m == n) (slots_given c) ]) (sym peer)

-- ---- what no change does

or_none : (b : Bool) (c : Change) (o : Option Change) → o ≡ None → b ≡ false → or_this o b c ≡ None
or_none b c o none is = rw (none, is) refl

none_last : (test : Change → Bool) (cs : List Change) → list_any test cs ≡ false → last_that test cs ≡ None
none_last test [] h = refl
none_last test (c ∷ cs) h = by_cases (test c)
    (λ k. let clash : true ≡ false = sym (ap (λ (b : Bool). b || list_any test cs) k) ∙ h in absurd (cc))
    (λ k. or_none (test c) c (last_that test cs) (none_last test cs (sym (ap (λ (b : Bool). b || list_any test cs) k) ∙ h)) k)

last_none : (test : Change → Bool) (cs : List Change) → last_that test cs ≡ None → list_any test cs ≡ false
last_none test [] h = refl
last_none test (c ∷ cs) h = at (last_that test cs) (test c) (last_none test cs) h
  where
    at : (o : Option Change) (b : Bool) → (o ≡ None → list_any test cs ≡ false) → or_this o b c ≡ None → b || list_any test cs ≡ false
    at (Some d) b rest is = absurd (cc)
    at None true rest is = absurd (cc)
    at None false rest is = rest refl

-- ---- what is needed

pub or_right : (needed right : Bool) → (not needed || right) ≡ true → needed ≡ true → right ≡ true
or_right true right h is = h
or_right false right h is = absurd (false≢true is)

or_true : (b : Bool) → (b || true) ≡ true
or_true true = refl
or_true false = refl

or_middle : (a b c : Bool) → b ≡ true → (a || b || c) ≡ true
or_middle true b c is = refl
or_middle false true c is = refl
or_middle false false c is = absurd (false≢true is)

pub needs_held : (s : State) (name : List ℕ) (o : Option (List ℕ)) (later : List Change) → elim o [ None ↦ false | Some n ↦ name_eq n name ] ≡ true → is_held s name ≡ true → list_any (brings_name name) later ≡ false → needs_name s o later ≡ true
needs_held s name None later brings held none = absurd (false≢true brings)
needs_held s name (Some n) later brings held none =
    subst (λ (m : List ℕ). (is_held s m && not (list_any (brings_name m) later)) ≡ true) (sym (name_same n name brings)) (rw (held, none) refl)

-- the last change that brings the bytes of a held name has them
pub needed_name : (s : State) (name : List ℕ) (d : Change) (later : List Change) → is_held s name ≡ true → brings_name name d ≡ true → list_any (brings_name name) later ≡ false → is_needed_by s d later ≡ true
needed_name s name d later held brings_it none = or_middle (is_begun d) (needs_name s (brings d) later) (needs_slot s (peer_of d) (slots_given d) later) (needs_held s name (brings d) later brings_it held none)

-- the last change that brings the bytes of a held name has them
pub right_here : (s : State) (name : List ℕ) (d : Change) (later : List Change) → brings_name name d ≡ true → is_held s name ≡ true → list_any (brings_name name) later ≡ false → (not (is_needed_by s d later) || body_is_right d) ≡ true → body_is_right d ≡ true
right_here s name d later brings_it held none right = or_right (is_needed_by s d later) (body_is_right d) right (needed_name s name d later held brings_it none)

-- and so it is with the last one that gives a Direct slot its bytes
any_at : (f : ℕ → Bool) (n : ℕ) (l : List ℕ) → list_any (λ m. m == n) l ≡ true → f n ≡ true → list_any f l ≡ true
any_at f n [] h is = absurd (false≢true h)
any_at f n (m ∷ ms) h is = by_cases (m == n)
    (λ k. ap (λ (b : Bool). b || list_any f ms) (ap f (eqb-true m n k) ∙ is))
    (λ k. ap (λ (b : Bool). f m || b) (any_at f n ms (rw k at h) is) ∙ or_true (f m))

pub needed_slot : (s : State) (p n : ℕ) (d : Change) (later : List Change) → has_direct (row s p).ins n ≡ true → gives_slot p n d ≡ true → list_any (gives_slot p n) later ≡ false → is_needed_by s d later ≡ true
needed_slot s p n d later direct gives none = ap (λ (b : Bool). is_begun d || needs_name s (brings d) later || b) (by_peer (peer_of d) gives) ∙ or_true (is_begun d || needs_name s (brings d) later)
  where
    by_peer : (o : Option ℕ) → elim o [ None ↦ false | Some q ↦ q == p && list_any (λ m. m == n) (slots_given d) ] ≡ true → needs_slot s o (slots_given d) later ≡ true
    by_peer None h = absurd (false≢true h)
    by_peer (Some q) h =
        let two = and_parts (q == p) (list_any (λ m. m == n) (slots_given d)) h in
        subst (λ (r : ℕ). needs_slot s (Some r) (slots_given d) later ≡ true) (sym (eqb-true q p two.0))
        (any_at (λ m. has_direct (row s p).ins m && not (list_any (gives_slot p m) later)) n (slots_given d) two.1 (rw (direct, none) refl))

-- of changes that pass a test, the last one is not lacking where it is needed and what is needed is there
lacks_here : (s : State) (test : Change → Bool) (c : Change) (cs : List Change) (o : Option Change) (b : Bool) → ((d : Change) (later : List Change) → test d ≡ true → list_any test later ≡ false → is_needed_by s d later ≡ true) → (not (is_needed_by s c cs) || body_is_right c) ≡ true → last_that test cs ≡ o → test c ≡ b → lacks o ≡ false → lacks (or_this o b c) ≡ false
lacks_here s test c cs (Some d) b needs right is passes rest = rest
lacks_here s test c cs None false needs right is passes rest = refl
lacks_here s test c cs None true needs right is passes rest = ap not (or_right (is_needed_by s c cs) (body_is_right c) right (needs c cs passes (last_none test cs is)))

last_is_there : (s : State) (test : Change → Bool) (cs : List Change) → ((d : Change) (later : List Change) → test d ≡ true → list_any test later ≡ false → is_needed_by s d later ≡ true) → bodies_right s cs ≡ true → lacks (last_that test cs) ≡ false
last_is_there s test [] needs right = refl
last_is_there s test (c ∷ cs) needs right =
    let two = and_parts (not (is_needed_by s c cs) || body_is_right c) (bodies_right s cs) right in
    lacks_here s test c cs (last_that test cs) (test c) needs two.0 refl refl (last_is_there s test cs needs two.1)

-- where the bodies that are needed are there, no held name lacks its bytes, and no Direct slot
pub sound_lacks : (s : State) (name : List ℕ) (cs : List Change) → is_held s name ≡ true → bodies_right s cs ≡ true → lacks_name name cs ≡ false
sound_lacks s name cs held right = last_is_there s (brings_name name) cs (λ d later brings_it none. needed_name s name d later held brings_it none) right

pub sound_slot : (s : State) (p n : ℕ) (cs : List Change) → has_direct (row s p).ins n ≡ true → bodies_right s cs ≡ true → lacks_slot p n cs ≡ false
sound_slot s p n cs direct right = last_is_there s (gives_slot p n) cs (λ d later gives none. needed_slot s p n d later direct gives none) right

-- ---- where no held name and no Direct slot lacks its bytes

pub record LacksNone (s : State) (cs : List Change) : Type 0 where
  pub names : (q : List ℕ) → is_held s q ≡ true → lacks_name q cs ≡ false
  pub slots : (p n : ℕ) → has_direct (row s p).ins n ≡ true → lacks_slot p n cs ≡ false

-- a beginning has its text
begun_there : (s : State) (body : Option (List ℕ)) → allowed s (Begun (record { body = body })) ≡ true → is_some body ≡ true
begun_there s None may = absurd (let none : false ≡ true = (parts (tests s (Begun (record { body = None }))) (allows s (Begun (record { body = None })) may).tests).1.0 in cc)
begun_there s (Some text) may = refl

begun_body : (body : Option (List ℕ)) → is_some body ≡ true → is_body None body ≡ true
begun_body None there = there
begun_body (Some text) there = refl

not_false : (b : Bool) → not b ≡ false → b ≡ true
not_false true is = refl
not_false false is = absurd (cc)

lacks_later : (test : Change → Bool) (c : Change) (cs : List Change) → lacks (last_that test (c ∷ cs)) ≡ false → lacks (last_that test cs) ≡ false
lacks_later test c cs none = at (last_that test cs) none
  where
    at : (o : Option Change) → lacks (or_this o (test c) c) ≡ false → lacks o ≡ false
    at (Some d) h = h
    at None h = refl

none_later : (s : State) (c : Change) (cs : List Change) → LacksNone s (c ∷ cs) → LacksNone s cs
none_later s c cs none = record {
  names = λ q held. lacks_later (brings_name q) c cs (none.names q held);
  slots = λ p n direct. lacks_later (gives_slot p n) c cs (none.slots p n direct);
}

-- a change that brings the bytes of a name, and nothing else, has them where they are needed
name_right : (s : State) (c : Change) (name : List ℕ) (cs : List Change) → is_begun c ≡ false → brings c ≡ Some name → slots_given c ≡ [] → LacksNone s (c ∷ cs) → (not (is_needed_by s c cs) || body_is_right c) ≡ true
name_right s c name cs later brings_it none_given none = ap (λ (b : Bool). not b || body_is_right c) needs ∙ by_cases (is_held s name)
    (λ held. by_cases (list_any (brings_name name) cs)
    (λ again. rw (held, again) refl)
    (λ last.
    let here : last_bringing name (c ∷ cs) ≡ Some c = ap (λ (o : Option Change). or_this o (brings_name name c) c) (none_last (brings_name name) cs last) ∙ ap (λ (b : Bool). cond b (Some c) None) it in
    let right : body_is_right c ≡ true = not_false (body_is_right c) (sym (ap lacks here) ∙ none.names name held) in
    ap (λ (b : Bool). not (is_held s name && not (list_any (brings_name name) cs)) || b) right ∙ or_true (not (is_held s name && not (list_any (brings_name name) cs)))))
    (λ free. rw free refl)
  where
    it : brings_name name c ≡ true
    it = ap (λ (o : Option (List ℕ)). elim o [ None ↦ false | Some n ↦ name_eq n name ]) brings_it ∙ name_refl name

    no_slot : (o : Option ℕ) → needs_slot s o [] cs ≡ false
    no_slot None = refl
    no_slot (Some p) = refl

    or_last : (a : Bool) → (a || false) ≡ a
    or_last true = refl
    or_last false = refl

    needs : is_needed_by s c cs ≡ (is_held s name && not (list_any (brings_name name) cs))
    needs =
        ap (λ (b : Bool). b || needs_name s (brings c) cs || needs_slot s (peer_of c) (slots_given c) cs) later
        ∙ ap (λ (o : Option (List ℕ)). needs_name s o cs || needs_slot s (peer_of c) (slots_given c) cs) brings_it
        ∙ ap (λ (l : List ℕ). (is_held s name && not (list_any (brings_name name) cs)) || needs_slot s (peer_of c) l cs) none_given
        ∙ ap (λ (b : Bool). (is_held s name && not (list_any (brings_name name) cs)) || b) (no_slot (peer_of c))
        ∙ or_last (is_held s name && not (list_any (brings_name name) cs))

none_passes_here : (f : ℕ → Bool) (l : List ℕ) → ((n : ℕ) → list_any (λ m. m == n) l ≡ true → f n ≡ false) → list_any f l ≡ false
none_passes_here f [] h = refl
none_passes_here f (m ∷ ms) h =
    let first : f m ≡ false = h m (ap (λ (b : Bool). b || list_any (λ x. x == m) ms) (eq-eqb m m refl)) in
    ap (λ (b : Bool). b || list_any f ms) first ∙ none_passes_here f ms (λ n k. h n (ap (λ (b : Bool). m == n || b) k ∙ or_true (m == n)))

-- and one that gives slots of a peer their bytes, and brings none under a name, has them
slots_right : (s : State) (c : Change) (p : ℕ) (cs : List Change) → is_begun c ≡ false → brings c ≡ None → peer_of c ≡ Some p → LacksNone s (c ∷ cs) → (not (is_needed_by s c cs) || body_is_right c) ≡ true
slots_right s c p cs later no_name of_peer none = by_cases (body_is_right c)
    (λ right. ap (λ (b : Bool). not (is_needed_by s c cs) || b) right ∙ or_true (not (is_needed_by s c cs)))
    (λ wrong. ap (λ (b : Bool). not b || body_is_right c) (needs ∙ none_passes_here (λ n. has_direct (row s p).ins n && not (list_any (gives_slot p n) cs)) (slots_given c) (one wrong)))
  where
    needs : is_needed_by s c cs ≡ list_any (λ n. has_direct (row s p).ins n && not (list_any (gives_slot p n) cs)) (slots_given c)
    needs =
        ap (λ (b : Bool). b || needs_name s (brings c) cs || needs_slot s (peer_of c) (slots_given c) cs) later
        ∙ ap (λ (o : Option (List ℕ)). needs_name s o cs || needs_slot s (peer_of c) (slots_given c) cs) no_name
        ∙ ap (λ (o : Option ℕ). needs_slot s o (slots_given c) cs) of_peer

    one : body_is_right c ≡ false → (n : ℕ) → list_any (λ m. m == n) (slots_given c) ≡ true → (has_direct (row s p).ins n && not (list_any (gives_slot p n) cs)) ≡ false
    one wrong n given = by_cases (has_direct (row s p).ins n)
        (λ direct. by_cases (list_any (gives_slot p n) cs)
        (λ again. rw (direct, again) refl)
        (λ last.
        let it : gives_slot p n c ≡ true = ap (λ (o : Option ℕ). elim o [ None ↦ false | Some q ↦ q == p && list_any (λ m. m == n) (slots_given c) ]) of_peer ∙ ap (λ (b : Bool). b && list_any (λ m. m == n) (slots_given c)) (eq-eqb p p refl) ∙ given in
        let here : last_that (gives_slot p n) (c ∷ cs) ≡ Some c = ap (λ (o : Option Change). or_this o (gives_slot p n c) c) (none_last (gives_slot p n) cs last) ∙ ap (λ (b : Bool). cond b (Some c) None) it in
        let right : body_is_right c ≡ true = not_false (body_is_right c) (sym (ap lacks here) ∙ none.slots p n direct) in
        absurd (false≢true (sym wrong ∙ right))))
        (λ away. rw away refl)

one_right : (s t : State) (c : Change) (cs : List Change) → allowed t c ≡ true → LacksNone s (c ∷ cs) → (not (is_needed_by s c cs) || body_is_right c) ≡ true
one_right s t (Begun x) cs may none =
    let right : is_body None x.body ≡ true = begun_body x.body (begun_there t x.body may) in
    ap (λ (b : Bool). not (is_needed_by s (Begun x) cs) || b) right ∙ or_true (not (is_needed_by s (Begun x) cs))
one_right s t (Kept x) cs may none = by_new x.new none
  where
    by_new : (new : Bool) → LacksNone s (Kept (record x { new = new }) ∷ cs) → (not (is_needed_by s (Kept (record x { new = new })) cs) || body_is_right (Kept (record x { new = new }))) ≡ true
    by_new true k = name_right s (Kept (record x { new = true })) x.name cs refl refl refl k
    by_new false k = refl
one_right s t (TookFresh x) cs may none = by_new x.new none
  where
    by_new : (new : Bool) → LacksNone s (TookFresh (record x { new = new }) ∷ cs) → (not (is_needed_by s (TookFresh (record x { new = new })) cs) || body_is_right (TookFresh (record x { new = new }))) ≡ true
    by_new true k = name_right s (TookFresh (record x { new = true })) x.name cs refl refl refl k
    by_new false k = refl
one_right s t (TookSwap x) cs may none = by_new x.new none
  where
    by_new : (new : Bool) → LacksNone s (TookSwap (record x { new = new }) ∷ cs) → (not (is_needed_by s (TookSwap (record x { new = new })) cs) || body_is_right (TookSwap (record x { new = new }))) ≡ true
    by_new true k = name_right s (TookSwap (record x { new = true })) x.name cs refl refl refl k
    by_new false k = refl
one_right s t (LetGoBack x) cs may none = slots_right s (LetGoBack x) x.peer cs refl refl refl none
one_right s t (Replaced x) cs may none = slots_right s (Replaced x) x.peer cs refl refl refl none
one_right s t (Settled x) cs may none = slots_right s (Settled x) x.peer cs refl refl refl none
one_right s t _ cs may none = refl

pub sound_of : (s t : State) (cs : List Change) → lawful_from t cs ≡ true → LacksNone s cs → bodies_right s cs ≡ true
sound_of s t [] lawful none = refl
sound_of s t (c ∷ cs) lawful none =
    let l = lawful_cons t c cs lawful in
    rw (one_right s t c cs l.allows none, sound_of s (after t c) cs l.rest (none_later s c cs none)) refl

-- as a table that knows the history has it, and a store that has the names that are held
pub none_lacks : (w : Lacking) (names : Store) (h : List Change) → KnowsNames names h → KnowsLacking w h → ((name : List ℕ) → is_lacking w name ≡ true → is_some (record_of names name) ≡ false) → ((p n : ℕ) → is_slot_lacking w p n ≡ true → has_direct (row (state h) p).ins n ≡ false) → LacksNone (state h) h
none_lacks w names h knows k none no_slot = record {
  names = λ name held. by_cases (lacks_name name h)
      (λ lacking. absurd (false≢true (sym (none name (k.names name ∙ lacking)) ∙ knows.held name ∙ held)))
      (λ fine. fine);
  slots = λ p n direct. by_cases (lacks_slot p n h)
      (λ lacking. absurd (false≢true (sym (no_slot p n (k.slots p n ∙ lacking)) ∙ direct)))
      (λ fine. fine);
}

-- ---- the keys of a table

-- the key is one of these
abbrev pub among : {K : Type 0} → (K → K → Ordering) → K → List K → Bool
among cmp k keys = list_any (λ key. is_eq (cmp k key)) keys

or_left : (a b : Bool) → a ≡ true → (a || b) ≡ true
or_left a b is = rw is refl

pub one_passes : {K : Type 0} (cmp : K → K → Ordering) → ((x : K) → is_eq (cmp x x) ≡ true) → (test : K → Bool) (keys : List K) → list_any test keys ≡ true → (k : K) × (among cmp k keys ≡ true) × (test k ≡ true)
one_passes cmp equal test [] h = absurd (false≢true h)
one_passes cmp equal test (x ∷ xs) h = by_cases (test x)
    (λ k. (x, or_left (is_eq (cmp x x)) (among cmp x xs) (equal x), k))
    (λ k.
    let rest = one_passes cmp equal test xs (sym (ap (λ (b : Bool). b || list_any test xs) k) ∙ h) in
    (rest.0, ap (λ (b : Bool). is_eq (cmp rest.0 x) || b) rest.1 ∙ or_true (is_eq (cmp rest.0 x)), rest.2))

pub none_passes : {K : Type 0} (cmp : K → K → Ordering) → ((a b : K) → is_eq (cmp a b) ≡ true → a ≡ b) → (test : K → Bool) (keys : List K) (key : K) → list_any test keys ≡ false → among cmp key keys ≡ true → test key ≡ false
none_passes cmp same test [] key h is = absurd (false≢true is)
none_passes cmp same test (x ∷ xs) key h is =
    by_cases (test x)
    (λ k. let clash : true ≡ false = sym (ap (λ (b : Bool). b || list_any test xs) k) ∙ h in absurd (cc))
    (λ k.
    by_cases (is_eq (cmp key x))
    (λ one. ap test (same key x one) ∙ k)
    (λ other. none_passes cmp same test xs key (sym (ap (λ (b : Bool). b || list_any test xs) k) ∙ h) (sym (ap (λ (b : Bool). b || among cmp key xs) other) ∙ is)))

-- by the bytes of a name
pub name_equal : (x : List ℕ) → is_eq (slice_cmp nat_cmp x x) ≡ true
name_equal x = is_eq-slice_cmp x x ∙ name_refl x

pub name_one : (a b : List ℕ) → is_eq (slice_cmp nat_cmp a b) ≡ true → a ≡ b
name_one a b h = name_same a b (sym (is_eq-slice_cmp a b) ∙ h)
