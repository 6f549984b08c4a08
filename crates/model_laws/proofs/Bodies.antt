-- The bodies that a history needs, and valid histories with one change more.
use Rattle.std.proofs.Common.{◌≡◌, ℕ, ◌≤◌, Bool, true, false, not, ◌&&◌, ◌||◌, List, [], ◌∷◌, ◌++◌, Option, Some, None, refl, sym, ap, ◌∙◌, subst, arith}
use Rattle.std.specs.Prelude.{◌==◌}
use Rattle.std.specs.List.{list_any, list_all}
use Rattle.std.proofs.lemmas.Bool.{false≢true, eq-eqb, and_parts}
use Rattle.std.proofs.lemmas.List.{length-append}
use Rattle.psb_settings.specs.declared.settings.Settings.{Settings}
use Rattle.psb_settings.specs.Settings.{settings_of}
use Rattle.psb_model.specs.declared.change.Change.{Change}
use Rattle.psb_model.specs.declared.change.Change.TheVariants.{Begun, Kept, Snapped, Forgot, TookFresh, TookSwap, LetGo, LetGoBack, Replaced, Refused, Proposed, Settled, Turned, Chose}
use Rattle.psb_model.specs.Words.{name_eq}
use Rattle.psb_model.specs.State.{State, row, is_held}
use Rattle.psb_model.specs.Grammar.{in_grammar, is_u8, fits_widths}
use Rattle.psb_model.specs.Conditions.{peer_of, is_begun, allowed}
use Rattle.psb_model.specs.Effects.{after}
use Rattle.psb_model.specs.History.{state, is_lawful}
use Rattle.psb_model.specs.Needed.{brings, brings_name, slots_given, gives_slot, no_slots, needs_name, needs_slot, is_needed_by, body_is_right, bodies_right, brings_right, IsValid}
use Rattle.psb_model.proofs.ByObject.{by_cases}
use Rattle.psb_model.proofs.Own.{name_refl}
use Rattle.psb_model.proofs.Prefixes.{lawful_snoc, all_snoc, changes_counted, state_snoc}
use Rattle.psb_model.proofs.Held.{or_none, or_last, either_was, was_held, brought_held}
use Rattle.psb_model.proofs.Steady.{or_true}
use Rattle.model_laws.proofs.Directs.{has_direct, was_direct, given_is_direct}

-- WHICH BODIES ARE NEEDED

-- a name, or a slot, that is held or Direct with one change more was so before it, where that brings no bytes of it
pub record WereHeld (s s' : State) (c : Change) : Type 0 where
  pub names : (n : List ℕ) → is_held s' n ≡ true → brings_name n c ≡ false → is_held s n ≡ true
  pub slots : (p n : ℕ) → has_direct (row s' p).ins n ≡ true → gives_slot p n c ≡ false → has_direct (row s p).ins n ≡ true

pub were_held : (s : State) (c : Change) → 1 ≤ s.changes → allowed s c ≡ true → WereHeld s (after s c) c
were_held s c some h = record {
  names = λ n is none. was_held s c n some h is none;
  slots = λ p n is none. was_direct s c p n some h is none;
}

-- what is needed with one change more was needed before it
needed_before : (s s' : State) (d c : Change) (later : List Change) → WereHeld s s' c → is_needed_by s' d (later ++ c ∷ []) ≡ true → is_needed_by s d later ≡ true
needed_before s s' d c later law h =
    let more = later ++ c ∷ [] in
    either_was (is_begun d || needs_name s' (brings d) more) (needs_slot s' (peer_of d) (slots_given d) more) (is_begun d || needs_name s (brings d) later) (needs_slot s (peer_of d) (slots_given d) later) h
    (λ a. either_was (is_begun d) (needs_name s' (brings d) more) (is_begun d) (needs_name s (brings d) later) a (λ x. x) (name_before (brings d)))
    (slot_before (peer_of d) (slots_given d))
  where
    any_end : (f : Change → Bool) (l : List Change) (x : Change) → list_any f (l ++ x ∷ []) ≡ (list_any f l || f x)
    any_end f [] x = or_none (f x)
    any_end f (y ∷ l) x = ap (λ a. f y || a) (any_end f l x) ∙ or_last (f y) (list_any f l) (f x)

    neither : (a b : Bool) → not (a || b) ≡ true → (a ≡ false) × (b ≡ false)
    neither true b k = absurd (false≢true k)
    neither false true k = absurd (false≢true k)
    neither false false k = (refl, refl)

    name_before : (o : Option (List ℕ)) → needs_name s' o (later ++ c ∷ []) ≡ true → needs_name s o later ≡ true
    name_before None k = k
    name_before (Some n) k =
        let two = and_parts (is_held s' n) (not (list_any (brings_name n) (later ++ c ∷ []))) k in
        let none = neither (list_any (brings_name n) later) (brings_name n c) (ap not (sym (any_end (brings_name n) later c)) ∙ two.1) in
        rw (law.names n two.0 none.1, none.0) refl

    one_before : (p n : ℕ) → (has_direct (row s' p).ins n && not (list_any (gives_slot p n) (later ++ c ∷ []))) ≡ true → (has_direct (row s p).ins n && not (list_any (gives_slot p n) later)) ≡ true
    one_before p n k =
        let two = and_parts (has_direct (row s' p).ins n) (not (list_any (gives_slot p n) (later ++ c ∷ []))) k in
        let none = neither (list_any (gives_slot p n) later) (gives_slot p n c) (ap not (sym (any_end (gives_slot p n) later c)) ∙ two.1) in
        rw (law.slots p n two.0 none.1, none.0) refl

    slot_before : (o : Option ℕ) (numbers : List ℕ) → needs_slot s' o numbers (later ++ c ∷ []) ≡ true → needs_slot s o numbers later ≡ true
    slot_before None numbers k = absurd (false≢true k)
    slot_before (Some p) [] k = absurd (false≢true k)
    slot_before (Some p) (n ∷ ns) k = either_was (has_direct (row s' p).ins n && not (list_any (gives_slot p n) (later ++ c ∷ []))) (needs_slot s' (Some p) ns (later ++ c ∷ [])) (has_direct (row s p).ins n && not (list_any (gives_slot p n) later)) (needs_slot s (Some p) ns later) k
        (one_before p n) (slot_before (Some p) ns)

-- each body that is needed is right after one change more, if that of the change is where it is needed
right_more : (s s' : State) (c : Change) (l : List Change) → WereHeld s s' c → (not (is_needed_by s' c []) || body_is_right c) ≡ true → bodies_right s l ≡ true → bodies_right s' (l ++ c ∷ []) ≡ true
right_more s s' c [] law last r = rw last refl
right_more s s' c (d ∷ ds) law last r =
    let right = and_parts (not (is_needed_by s d ds) || body_is_right d) (bodies_right s ds) r in
    rw (was (is_needed_by s' d (ds ++ c ∷ [])) (is_needed_by s d ds) (body_is_right d) (needed_before s s' d c ds law) right.0, right_more s s' c ds law last right.1) refl
  where
    was : (a b r : Bool) → (a ≡ true → b ≡ true) → (not b || r) ≡ true → (not a || r) ≡ true
    was true b r f h = let k = f refl in rw k at h
    was false b r f h = refl

-- a change that brings bytes has them, and the beginning has its text
right_here : (s : State) (c : Change) (later : List Change) → in_grammar c ≡ true → brings_right c ≡ true → (not (is_needed_by s c later) || body_is_right c) ≡ true
right_here s (Begun x) later g r = by_body x.body g
  where
    by_body : (body : Option (List ℕ)) → in_grammar (Begun (record { body = body })) ≡ true → (not (is_needed_by s (Begun (record { body = body })) later) || body_is_right (Begun (record { body = body }))) ≡ true
    by_body None k = absurd (false≢true k)
    by_body (Some text) k = refl
right_here s (Kept x) later g r = by_new x.new r
  where
    by_new : (new : Bool) → brings_right (Kept (record x { new = new })) ≡ true → (not (is_needed_by s (Kept (record x { new = new })) later) || body_is_right (Kept (record x { new = new }))) ≡ true
    by_new true k = rw k (or_true (not (is_needed_by s (Kept (record x { new = true })) later)))
    by_new false k = refl
right_here s (Snapped x) later g r = refl
right_here s (Forgot x) later g r = refl
right_here s (TookFresh x) later g r = by_new x.new r
  where
    by_new : (new : Bool) → brings_right (TookFresh (record x { new = new })) ≡ true → (not (is_needed_by s (TookFresh (record x { new = new })) later) || body_is_right (TookFresh (record x { new = new }))) ≡ true
    by_new true k = rw k (or_true (not (is_needed_by s (TookFresh (record x { new = true })) later)))
    by_new false k = refl
right_here s (TookSwap x) later g r = by_new x.new r
  where
    by_new : (new : Bool) → brings_right (TookSwap (record x { new = new })) ≡ true → (not (is_needed_by s (TookSwap (record x { new = new })) later) || body_is_right (TookSwap (record x { new = new }))) ≡ true
    by_new true k = rw k (or_true (not (is_needed_by s (TookSwap (record x { new = true })) later)))
    by_new false k = refl
right_here s (LetGo x) later g r = refl
right_here s (LetGoBack x) later g r = by_slots x.slots r
  where
    by_slots : (numbers : List ℕ) → brings_right (LetGoBack (record x { slots = numbers })) ≡ true → (not (is_needed_by s (LetGoBack (record x { slots = numbers })) later) || body_is_right (LetGoBack (record x { slots = numbers }))) ≡ true
    by_slots [] k = refl
    by_slots (n ∷ ns) k = rw k (or_true (not (is_needed_by s (LetGoBack (record x { slots = n ∷ ns })) later)))
right_here s (Refused x) later g r = refl
right_here s (Proposed x) later g r = refl
right_here s (Settled x) later g r = by_slots x.slots r
  where
    by_slots : (numbers : List ℕ) → brings_right (Settled (record x { slots = numbers })) ≡ true → (not (is_needed_by s (Settled (record x { slots = numbers })) later) || body_is_right (Settled (record x { slots = numbers }))) ≡ true
    by_slots [] k = refl
    by_slots (n ∷ ns) k = rw k (or_true (not (is_needed_by s (Settled (record x { slots = n ∷ ns })) later)))
right_here s (Turned x) later g r = refl
right_here s (Chose x) later g r = refl
right_here s (Replaced x) later g r = by_cases (x.place == 0)
    (λ k. let right : body_is_right (Replaced x) ≡ true = rw k at r in rw right (or_true (not (is_needed_by s (Replaced x) later))))
    (λ k. rw k refl)
right_here s _ later g r = refl

-- a history has the bodies that it needs where each change has those that it brings
pub all_right : (s : State) (l : List Change) → list_all in_grammar l ≡ true → list_all brings_right l ≡ true → bodies_right s l ≡ true
all_right s [] g r = refl
all_right s (c ∷ cs) g r =
    let grammar = and_parts (in_grammar c) (list_all in_grammar cs) g in
    let right = and_parts (brings_right c) (list_all brings_right cs) r in
    rw (right_here s c cs grammar.0 right.0, all_right s cs grammar.1 right.1) refl

-- VALID HISTORIES

-- a valid history has a change
some_changes : (h : List Change) → IsValid h → 1 ≤ (state h).changes
some_changes h v = omega (arith, changes_counted h, v.some)

-- one change more
pub valid_snoc : (h : List Change) (c : Change) → IsValid h → in_grammar c ≡ true → allowed (state h) c ≡ true → fits_widths c ≡ true → brings_right c ≡ true → IsValid (h ++ c ∷ [])
valid_snoc h c v g a f r =
    let s = state h in
    let law = were_held s c (some_changes h v) a in
    record {
      lawful = lawful_snoc h c ∙ rw (v.lawful, g, a) refl;
      fit = all_snoc fits_widths h c ∙ rw (v.fit, f) refl;
      some = omega (arith, length-append h (c ∷ []));
      sound = subst (λ t. bodies_right t (h ++ c ∷ []) ≡ true) (sym (state_snoc h c)) (right_more s (after s c) c h law (right_here (after s c) c [] g r) v.sound);
    }

if_needed : (a r : Bool) → a ≡ true → (not a || r) ≡ true → r ≡ true
if_needed a r k h = rw k at h

-- so a change that gives slots their bytes has them, where it has what is needed
slots_right : (s : State) (c : Change) → allowed s c ≡ true → (not (is_needed_by (after s c) c []) || body_is_right c) ≡ true → (no_slots (slots_given c) || body_is_right c) ≡ true
slots_right s (Begun x) h r = refl
slots_right s (Kept x) h r = refl
slots_right s (Snapped x) h r = refl
slots_right s (Forgot x) h r = refl
slots_right s (TookFresh x) h r = refl
slots_right s (TookSwap x) h r = refl
slots_right s (LetGo x) h r = refl
slots_right s (LetGoBack x) h r = by_slots x.slots h r
  where
    by_slots : (numbers : List ℕ) → allowed s (LetGoBack (record x { slots = numbers })) ≡ true → (not (is_needed_by (after s (LetGoBack (record x { slots = numbers }))) (LetGoBack (record x { slots = numbers })) []) || body_is_right (LetGoBack (record x { slots = numbers }))) ≡ true → (no_slots numbers || body_is_right (LetGoBack (record x { slots = numbers }))) ≡ true
    by_slots [] a k = refl
    by_slots (n ∷ ns) a k =
        let c : Change = LetGoBack (record x { slots = n ∷ ns }) in
        let it : gives_slot x.peer n c ≡ true = rw (eq-eqb x.peer x.peer refl, eq-eqb n n refl) refl in
        let needed : is_needed_by (after s c) c [] ≡ true = rw (given_is_direct s c x.peer n a it) refl in
        if_needed (is_needed_by (after s c) c []) (body_is_right c) needed k
slots_right s (Refused x) h r = refl
slots_right s (Proposed x) h r = refl
slots_right s (Settled x) h r = by_slots x.slots h r
  where
    by_slots : (numbers : List ℕ) → allowed s (Settled (record x { slots = numbers })) ≡ true → (not (is_needed_by (after s (Settled (record x { slots = numbers }))) (Settled (record x { slots = numbers })) []) || body_is_right (Settled (record x { slots = numbers }))) ≡ true → (no_slots numbers || body_is_right (Settled (record x { slots = numbers }))) ≡ true
    by_slots [] a k = refl
    by_slots (n ∷ ns) a k =
        let c : Change = Settled (record x { slots = n ∷ ns }) in
        let it : gives_slot x.peer n c ≡ true = rw (eq-eqb x.peer x.peer refl, eq-eqb n n refl) refl in
        let needed : is_needed_by (after s c) c [] ≡ true = rw (given_is_direct s c x.peer n a it) refl in
        if_needed (is_needed_by (after s c) c []) (body_is_right c) needed k
slots_right s (Turned x) h r = refl
slots_right s (Chose x) h r = refl
slots_right s (Replaced x) h r = by_cases (x.place == 0)
    (λ k.
    let c : Change = Replaced x in
    let it : gives_slot x.peer x.slot c ≡ true = rw (eq-eqb x.peer x.peer refl, k, eq-eqb x.slot x.slot refl) refl in
    let direct = given_is_direct s c x.peer x.slot h it in
    let given : slots_given c ≡ x.slot ∷ [] = rw k refl in
    let needed : is_needed_by (after s c) c [] ≡ true = ap (λ l. needs_slot (after s c) (Some x.peer) l []) given ∙ rw direct refl in
    rw k (if_needed (is_needed_by (after s c) c []) (body_is_right c) needed r))
    (λ k. rw k refl)
slots_right s _ h r = refl

-- the last change of a valid history has the bytes that it brings
pub last_brings : (h : List Change) (c : Change) → is_lawful h ≡ true → allowed (state h) c ≡ true → bodies_right (state (h ++ c ∷ [])) (h ++ c ∷ []) ≡ true → brings_right c ≡ true
last_brings h c lawful a right = by_name (brings c) refl
  where
    at_end : (t : State) (l : List Change) → bodies_right t (l ++ c ∷ []) ≡ true → (not (is_needed_by t c []) || body_is_right c) ≡ true
    at_end t [] r = (and_parts (not (is_needed_by t c []) || body_is_right c) true r).0
    at_end t (d ∷ ds) r = at_end t ds (and_parts (not (is_needed_by t d (ds ++ c ∷ [])) || body_is_right d) (bodies_right t (ds ++ c ∷ [])) r).1

    here : (not (is_needed_by (after (state h) c) c []) || body_is_right c) ≡ true
    here = subst (λ t. (not (is_needed_by t c []) || body_is_right c) ≡ true) (state_snoc h c) (at_end (state (h ++ c ∷ [])) h right)

    right_by : Option (List ℕ) → Bool
    right_by o = elim o [ None ↦ no_slots (slots_given c) || body_is_right c | Some name ↦ body_is_right c ]

    by_name : (o : Option (List ℕ)) → brings c ≡ o → brings_right c ≡ true
    by_name None e = ap right_by e ∙ slots_right (state h) c a here
    by_name (Some n) e =
        let it : brings_name n c ≡ true = ap (λ (o : Option (List ℕ)). elim o [ None ↦ false | Some m ↦ name_eq m n ]) e ∙ name_refl n in
        let held = brought_held (state h) c n a it in
        let name_needed : needs_name (after (state h) c) (brings c) [] ≡ true = ap (λ o. needs_name (after (state h) c) o []) e ∙ rw held refl in
        let needed : is_needed_by (after (state h) c) c [] ≡ true = ap (λ x. (is_begun c || x) || needs_slot (after (state h) c) (peer_of c) (slots_given c) []) name_needed ∙ ap (λ x. x || needs_slot (after (state h) c) (peer_of c) (slots_given c) []) (or_true (is_begun c)) in
        ap right_by e ∙ if_needed (is_needed_by (after (state h) c) c []) (body_is_right c) needed here

-- the history of a beginning alone
pub valid_begun : (text : List ℕ) (x : Settings) → settings_of text ≡ Some x → list_all is_u8 text ≡ true → IsValid (Begun (record { body = Some text }) ∷ [])
valid_begun text x h bytes =
    let lawful : is_lawful (Begun (record { body = Some text }) ∷ []) ≡ true = rw h refl in
    record {
      lawful = lawful;
      fit = rw bytes refl;
      some = omega arith;
      sound = refl;
    }
