-- What a history and the same less bodies that were given up have in common.
use Rattle.std.proofs.Common.{◌≡◌, ◌⊎◌, inl, inr, ⊎_elim, ℕ, zero, suc, ◌+◌, Bool, true, false, not, ◌||◌, ◌&&◌, ◌==◌, cond, List, [], ◌∷◌, ◌++◌, slice_get, is_some, Option, Some, None, option_map, refl, sym, ◌∙◌, ap, subst}
use Rattle.std.specs.List.{list_any}
use Rattle.std.proofs.lemmas.Bool.{and_parts, false≢true}
use Rattle.psb_bytes.specs.declared.ids.Object.TheVariants.{Slot}
use Rattle.psb_station.proofs.Spans.{same_some}
use Rattle.psb_model.specs.Words.{name_eq, has_so}
use Rattle.psb_model.specs.State.{State, nothing_yet, row, in_key, is_held}
use Rattle.psb_model.specs.Heads.{head_of, body_of}
use Rattle.psb_model.specs.Conditions.{peer_of, is_begun, is_direct, allowed}
use Rattle.psb_model.specs.Effects.{after}
use Rattle.psb_model.specs.Grammar.{in_grammar}
use Rattle.psb_model.specs.History.{state, state_from, is_lawful}
use Rattle.psb_model.proofs.Prefixes.{lawful_snoc}
use Rattle.psb_model.specs.Needed.{brings, slots_given, brings_name, gives_slot, needs_name, needs_slot, is_needed_by, body_is_right, is_body, bodies_right, IsValid, last_that, last_place, last_brought, piece_of, given_by, slot_bytes}
use Rattle.psb_model.specs.declared.change.Change.{Change}
use Rattle.psb_model.specs.declared.change.Change.TheVariants.{Kept, TookFresh, TookSwap, LetGoBack, Replaced, Settled}
use Rattle.psb_model.proofs.ByObject.{by_cases}
use Rattle.model_laws.proofs.Bodies.{valid_snoc, last_brings}
use Rattle.chunk_store.specs.declared.store.Store.{Store}
use Rattle.chunk_store.specs.Store.{record_of}
use Rattle.slot_places.specs.declared.tables.SlotTables.{SlotTables}
use Rattle.slot_places.specs.Slots.{KnowsSlots}
use Rattle.node_history.specs.Names.{owns, brought_from, KnowsNames}
use Rattle.node_history.specs.Less.{without_body, IsLessOf, IsLess, LessGivesTheSame}
use Rattle.node_history.proofs.Brought.{or_this, bytes_of}
use Rattle.model_laws.proofs.Directs.{has_direct}
use Rattle.node_history.proofs.Lacks.{or_right, needed_name, needed_slot}
use Rattle.node_history.proofs.Reading.{next_of}

-- ---- one change

-- what reads no body part is the same
pub same_in : {A : Type 0} (f : Change → A) → ((c : Change) → f (without_body c) ≡ f c) → (c d : Change) → IsLessOf c d → f d ≡ f c
same_in f law c d is = ⊎_elim (λ e. ap f e) (λ e. ap f e ∙ law c) is

pub head_without : (c : Change) → head_of (without_body c) ≡ head_of c
head_without (Kept x) = refl
head_without (TookFresh x) = refl
head_without (TookSwap x) = refl
head_without (LetGoBack x) = refl
head_without (Replaced x) = refl
head_without (Settled x) = refl
head_without _ = refl

pub brings_without : (c : Change) → brings (without_body c) ≡ brings c
brings_without (Kept x) = refl
brings_without (TookFresh x) = refl
brings_without (TookSwap x) = refl
brings_without (LetGoBack x) = refl
brings_without (Replaced x) = refl
brings_without (Settled x) = refl
brings_without _ = refl

pub slots_without : (c : Change) → slots_given (without_body c) ≡ slots_given c
slots_without (Kept x) = refl
slots_without (TookFresh x) = refl
slots_without (TookSwap x) = refl
slots_without (LetGoBack x) = refl
slots_without (Replaced x) = refl
slots_without (Settled x) = refl
slots_without _ = refl

pub peer_without : (c : Change) → peer_of (without_body c) ≡ peer_of c
peer_without (Kept x) = refl
peer_without (TookFresh x) = refl
peer_without (TookSwap x) = refl
peer_without (LetGoBack x) = refl
peer_without (Replaced x) = refl
peer_without (Settled x) = refl
peer_without _ = refl

pub begun_without : (c : Change) → is_begun (without_body c) ≡ is_begun c
begun_without (Kept x) = refl
begun_without (TookFresh x) = refl
begun_without (TookSwap x) = refl
begun_without (LetGoBack x) = refl
begun_without (Replaced x) = refl
begun_without (Settled x) = refl
begun_without _ = refl

pub after_without : (s : State) (c : Change) → after s (without_body c) ≡ after s c
after_without s (Kept x) = refl
after_without s (TookFresh x) = refl
after_without s (TookSwap x) = refl
after_without s (LetGoBack x) = refl
after_without s (Replaced x) = refl
after_without s (Settled x) = refl
after_without s _ = refl

-- a body that is there was not given up
pub body_without : (c : Change) → is_some (body_of (without_body c)) ≡ true → body_of (without_body c) ≡ body_of c
body_without (Kept x) there = absurd (false≢true there)
body_without (TookFresh x) there = absurd (false≢true there)
body_without (TookSwap x) there = absurd (false≢true there)
body_without (LetGoBack x) there = absurd (false≢true there)
body_without (Replaced x) there = absurd (false≢true there)
body_without (Settled x) there = absurd (false≢true there)
body_without _ there = refl

pub brings_name_without : (name : List ℕ) (c : Change) → brings_name name (without_body c) ≡ brings_name name c
brings_name_without name c = ap (λ (o : Option (List ℕ)). elim o [ None ↦ false | Some n ↦ name_eq n name ]) (brings_without c)

pub gives_slot_without : (p n : ℕ) (c : Change) → gives_slot p n (without_body c) ≡ gives_slot p n c
gives_slot_without p n c =
    ap (λ (o : Option ℕ). elim o [ None ↦ false | Some q ↦ q == p && list_any (λ m. m == n) (slots_given (without_body c)) ]) (peer_without c)
    ∙ ap (λ (l : List ℕ). elim (peer_of c) [ None ↦ false | Some q ↦ q == p && list_any (λ m. m == n) l ]) (slots_without c)

-- it has the head of the history's change
pub head_less : (c d : Change) → IsLessOf c d → head_of d ≡ head_of c
head_less c d is = same_in head_of head_without c d is

-- and where its body is there, that change's
pub body_less : (c d : Change) → IsLessOf c d → is_some (body_of d) ≡ true → body_of d ≡ body_of c
body_less c d is there =
    ⊎_elim (λ e. ap body_of e)
    (λ e. ap body_of e ∙ body_without c (ap (λ (x : Change). is_some (body_of x)) (sym e) ∙ there)) is

pub bytes_less : (c d : Change) (bytes : List ℕ) → IsLessOf c d → body_of d ≡ Some bytes → body_of c ≡ Some bytes
bytes_less c d bytes is here = sym (body_less c d is (ap (λ (o : Option (List ℕ)). is_some o) here)) ∙ here

-- ---- histories

-- a history is the same less no body
pub less_all : (h : List Change) → IsLess h h
less_all [] = tt
less_all (c ∷ cs) = (inl refl, less_all cs)

pub less_append : (h less more rest : List Change) → IsLess h less → IsLess more rest → IsLess (h ++ more) (less ++ rest)
less_append [] [] more rest is also = also
less_append [] (d ∷ ds) more rest is also = absurd is
less_append (c ∷ cs) [] more rest is also = absurd is
less_append (c ∷ cs) (d ∷ ds) more rest is also = (is.0, less_append cs ds more rest is.1 also)

-- what stands at the place of a change
pub less_at : (h less : List Change) (k : ℕ) (c : Change) → IsLess h less → slice_get h k ≡ Some c → (d : Change) × (slice_get less k ≡ Some d) × IsLessOf c d
less_at [] less k c is there = absurd (cc)
less_at (x ∷ h) [] k c is there = absurd is
less_at (x ∷ h) (d ∷ ds) zero c is there = (d, refl, subst (λ (y : Change). IsLessOf y d) (same_some (Some x) x c refl there) is.0)
less_at (x ∷ h) (d ∷ ds) (suc k) c is there = less_at h ds k c is.1 there

state_from_less : (s : State) (h less : List Change) → IsLess h less → state_from s less ≡ state_from s h
state_from_less s [] [] is = refl
state_from_less s [] (d ∷ ds) is = absurd is
state_from_less s (c ∷ cs) [] is = absurd is
state_from_less s (c ∷ cs) (d ∷ ds) is =
    ap (λ (t : State). state_from t ds) (same_in (after s) (after_without s) c d is.0)
    ∙ state_from_less (after s c) cs ds is.1

-- the state is that of the history
pub state_less : (h less : List Change) → IsLess h less → state less ≡ state h
state_less h less is = state_from_less nothing_yet h less is

-- some change passes the test in both or in none
any_less : (f : Change → Bool) → ((c : Change) → f (without_body c) ≡ f c) → (h less : List Change) → IsLess h less → list_any f less ≡ list_any f h
any_less f law [] [] is = refl
any_less f law [] (d ∷ ds) is = absurd is
any_less f law (c ∷ cs) [] is = absurd is
any_less f law (c ∷ cs) (d ∷ ds) is = λ i. (same_in f law c d is.0 i || any_less f law cs ds is.1 i)

-- the last change that passes the test is at the same place
place_less : (n : ℕ) (test : Change → Bool) → ((c : Change) → test (without_body c) ≡ test c) → (h less : List Change) → IsLess h less → last_place n test less ≡ last_place n test h
place_less n test law [] [] is = refl
place_less n test law [] (d ∷ ds) is = absurd is
place_less n test law (c ∷ cs) [] is = absurd is
place_less n test law (c ∷ cs) (d ∷ ds) is =
    ap (λ (o : Option ℕ). elim o [ Some k ↦ Some k | None ↦ cond (test d) (Some n) None ]) (place_less (n + 1) test law cs ds is.1)
    ∙ ap (λ (b : Bool). elim (last_place (n + 1) test cs) [ Some k ↦ Some k | None ↦ cond b (Some n) None ]) (same_in test law c d is.0)

pub brought_less : (n : ℕ) (name : List ℕ) (h less : List Change) → IsLess h less → brought_from n name less ≡ brought_from n name h
brought_less n name h less is = place_less n (brings_name name) (brings_name_without name) h less is

-- the records of slots are those of a history less bodies that were given up
pub slots_less : (t : SlotTables) (h less : List Change) → IsLess h less → KnowsSlots t h → KnowsSlots t less
slots_less t h less is knows = λ p n direct. knows p n (ap (λ (s : State). has_direct (row s p).ins n) (sym (state_less h less is)) ∙ direct) ∙ sym (place_less 0 (gives_slot p n) (gives_slot_without p n) h less is)

-- the same names are held by a history less bodies that were given up
pub names_less : (store : Store) (h less : List Change) → IsLess h less → KnowsNames store h → KnowsNames store less
names_less store h less is knows = record {
  owners = λ o q. knows.owners o q ∙ ap (λ (s : State). owns s o q) (sym (state_less h less is));
  held = λ q. knows.held q ∙ ap (λ (s : State). is_held s q) (sym (state_less h less is));
  records = λ q k there. brought_less 0 q h less is ∙ knows.records q k there;
}

-- ---- the bodies that are needed

needs_name_less : (s : State) (o : Option (List ℕ)) (h less : List Change) → IsLess h less → needs_name s o less ≡ needs_name s o h
needs_name_less s None h less is = refl
needs_name_less s (Some name) h less is = ap (λ (b : Bool). is_held s name && not b) (any_less (brings_name name) (brings_name_without name) h less is)

needs_slot_less : (s : State) (o : Option ℕ) (numbers : List ℕ) (h less : List Change) → IsLess h less → needs_slot s o numbers less ≡ needs_slot s o numbers h
needs_slot_less s None numbers h less is = refl
needs_slot_less s (Some p) numbers h less is = λ i. list_any (λ n. has_so in_key is_direct (row s p).ins (Slot n) && not (any_less (gives_slot p n) (gives_slot_without p n) h less is i)) numbers

-- the history needs the same bodies
pub needed_less : (s : State) (c d : Change) (later rest : List Change) → IsLessOf c d → IsLess later rest → is_needed_by s d rest ≡ is_needed_by s c later
needed_less s c d later rest one is =
    ap (λ (b : Bool). b || needs_name s (brings d) rest || needs_slot s (peer_of d) (slots_given d) rest) (same_in is_begun begun_without c d one)
    ∙ ap (λ (o : Option (List ℕ)). is_begun c || needs_name s o rest || needs_slot s (peer_of d) (slots_given d) rest) (same_in brings brings_without c d one)
    ∙ ap (λ (o : Option ℕ). is_begun c || needs_name s (brings c) rest || needs_slot s o (slots_given d) rest) (same_in peer_of peer_without c d one)
    ∙ ap (λ (l : List ℕ). is_begun c || needs_name s (brings c) rest || needs_slot s (peer_of c) l rest) (same_in slots_given slots_without c d one)
    ∙ ap (λ (b : Bool). is_begun c || b || needs_slot s (peer_of c) (slots_given c) rest) (needs_name_less s (brings c) later rest is)
    ∙ ap (λ (b : Bool). is_begun c || needs_name s (brings c) later || b) (needs_slot_less s (peer_of c) (slots_given c) later rest is)

-- ---- the bytes that are held under a name, and those of a slot

-- no change passes the test; or the last ones that do have the same body
record NonePass (test : Change → Bool) (h less : List Change) : Type 0 where
  history : last_that test h ≡ None
  rest : last_that test less ≡ None
  none : list_any test less ≡ false

record BothPass (test : Change → Bool) (h less : List Change) : Type 0 where
  c : Change
  d : Change
  history : last_that test h ≡ Some c
  rest : last_that test less ≡ Some d
  is_less : IsLessOf c d
  body : body_of d ≡ body_of c

pub there_body : (name body : Option (List ℕ)) → is_body name body ≡ true → is_some body ≡ true
there_body name None h = absurd (false≢true h)
there_body name (Some bytes) h = refl

-- the last change that passes a test has its body, where it is needed then
both_pass : (s : State) (test : Change → Bool) → ((c : Change) → test (without_body c) ≡ test c) → ((d : Change) (later : List Change) → test d ≡ true → list_any test later ≡ false → is_needed_by s d later ≡ true) → (h less : List Change) → IsLess h less → bodies_right s less ≡ true → NonePass test h less ⊎ BothPass test h less
both_pass s test law needs [] [] is right = inl (record { history = refl; rest = refl; none = refl })
both_pass s test law needs [] (d ∷ ds) is right = absurd is
both_pass s test law needs (c ∷ cs) [] is right = absurd is
both_pass s test law needs (c ∷ cs) (d ∷ ds) is right = here (both_pass s test law needs cs ds is.1 (and_parts (not (is_needed_by s d ds) || body_is_right d) (bodies_right s ds) right).1)
  where
    same : test d ≡ test c
    same = same_in test law c d is.0

    there : test d ≡ true → list_any test ds ≡ false → is_some (body_of d) ≡ true
    there passes none = there_body (brings d) (body_of d) (or_right (is_needed_by s d ds) (body_is_right d) (and_parts (not (is_needed_by s d ds) || body_is_right d) (bodies_right s ds) right).0 (needs d ds passes none))

    here : NonePass test cs ds ⊎ BothPass test cs ds → NonePass test (c ∷ cs) (d ∷ ds) ⊎ BothPass test (c ∷ cs) (d ∷ ds)
    here (inl n) = by_cases (test d)
        (λ k. inr (record {
          c = c;
          d = d;
          history = ap (λ (o : Option Change). or_this o (test c) c) n.history ∙ ap (λ (b : Bool). cond b (Some c) None) (sym same ∙ k);
          rest = ap (λ (o : Option Change). or_this o (test d) d) n.rest ∙ ap (λ (b : Bool). cond b (Some d) None) k;
          is_less = is.0;
          body = body_less c d is.0 (there k n.none);
        }))
        (λ k. inl (record {
          history = ap (λ (o : Option Change). or_this o (test c) c) n.history ∙ ap (λ (b : Bool). cond b (Some c) None) (sym same ∙ k);
          rest = ap (λ (o : Option Change). or_this o (test d) d) n.rest ∙ ap (λ (b : Bool). cond b (Some d) None) k;
          none = ap (λ (b : Bool). b || list_any test ds) k ∙ n.none;
        }))
    here (inr b) = inr (record {
      c = b.c;
      d = b.d;
      history = ap (λ (o : Option Change). or_this o (test c) c) b.history;
      rest = ap (λ (o : Option Change). or_this o (test d) d) b.rest;
      is_less = b.is_less;
      body = b.body;
    })

names_last : (name : List ℕ) (h less : List Change) → NonePass (brings_name name) h less ⊎ BothPass (brings_name name) h less → last_brought name less ≡ last_brought name h
names_last name h less (inl n) = ap bytes_of n.rest ∙ sym (ap bytes_of n.history)
names_last name h less (inr b) = ap bytes_of b.rest ∙ b.body ∙ sym (ap bytes_of b.history)

last_less : (s : State) (name : List ℕ) (h less : List Change) → IsLess h less → is_held s name ≡ true → bodies_right s less ≡ true → last_brought name less ≡ last_brought name h
last_less s name h less is held right = names_last name h less (both_pass s (brings_name name) (brings_name_without name) (λ d later brings_it none. needed_name s name d later held brings_it none) h less is right)

-- the piece of a slot, of the change that gives it
abbrev pub piece_by : ℕ → Option Change → Option (List ℕ)
piece_by n o = elim o [ Some c ↦ given_by n c | None ↦ None ]

slots_last : (p n : ℕ) (h less : List Change) → NonePass (gives_slot p n) h less ⊎ BothPass (gives_slot p n) h less → slot_bytes p n less ≡ slot_bytes p n h
slots_last p n h less (inl m) = ap (piece_by n) m.rest ∙ sym (ap (piece_by n) m.history)
slots_last p n h less (inr b) =
    ap (piece_by n) b.rest
    ∙ (λ i. option_map (piece_of n (same_in slots_given slots_without b.c b.d b.is_less i)) (b.body i))
    ∙ sym (ap (piece_by n) b.history)

-- the same bytes were given last to a slot that is to have them here
slot_less : (s : State) (p n : ℕ) (h less : List Change) → IsLess h less → has_direct (row s p).ins n ≡ true → bodies_right s less ≡ true → slot_bytes p n less ≡ slot_bytes p n h
slot_less s p n h less is direct right = slots_last p n h less (both_pass s (gives_slot p n) (gives_slot_without p n) (λ d later gives none. needed_slot s p n d later direct gives none) h less is right)

-- the same bytes were brought last for a name that is held
pub last_bytes_less : (h less : List Change) (name : List ℕ) → IsLess h less → IsValid less → (names : Store) → KnowsNames names less → (record_of names name ≡ None → ⊥) → last_brought name h ≡ last_brought name less
last_bytes_less h less name is v names knows some = sym (last_less (state less) name h less is held v.sound)
  where
    there : (o : Option ℕ) → (o ≡ None → ⊥) → is_some o ≡ true
    there (Some k) h = refl
    there None h = absurd (h refl)

    held : is_held (state less) name ≡ true
    held = sym (knows.held name) ∙ there (record_of names name) some

pub less_same : LessGivesTheSame
less_same h less is = record {
  one_state = state_less h less is;
  same_bytes = λ v name held. last_less (state less) name h less is (ap (λ (s : State). is_held s name) (state_less h less is) ∙ held) v.sound;
  same_slots = λ v p n direct. slot_less (state less) p n h less is (ap (λ (s : State). has_direct (row s p).ins n) (state_less h less is) ∙ direct) v.sound;
}

-- ---- one change more

-- with the next change of a valid history it is valid
pub valid_less : (h less : List Change) (c : Change) → IsLess h less → IsValid less → IsValid (h ++ c ∷ []) → IsValid (less ++ c ∷ [])
valid_less h less c is v valid =
    let next = next_of h c [] valid in
    let lawful = (and_parts (is_lawful h) (in_grammar c && allowed (state h) c) (sym (lawful_snoc h c) ∙ valid.lawful)).0 in
    valid_snoc less c v next.readable.grammar (ap (λ (s : State). allowed s c) (state_less h less is) ∙ next.may) next.readable.fit (last_brings h c lawful next.may valid.sound)
