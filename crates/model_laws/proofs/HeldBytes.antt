-- The bytes of a name stay while it is held; and each held name was brought, and has its bytes.
use Rattle.std.proofs.Common.{◌≡◌, ℕ, Bool, true, false, not, ◌||◌, ◌==◌, cond, if◌then◌else◌, List, [], ◌∷◌, ◌++◌, Option, Some, None, refl, sym, ap, subst, ◌∙◌}
use Rattle.std.specs.List.{list_any}
use Rattle.std.proofs.lemmas.Bool.{false≢true, and_parts}
use Rattle.psb_bytes.specs.declared.ids.Object.TheVariants.{Chunk}
use Rattle.psb_digest.specs.Hashes.{sha}
use Rattle.psb_model.specs.declared.entries.OwnEntry.{OwnEntry}
use Rattle.psb_model.specs.declared.deals.Deal.{Deal}
use Rattle.psb_model.specs.declared.deals.DealWhat.{DealWhat}
use Rattle.psb_model.specs.declared.deals.DealWhat.TheVariants.{Fresh, Swap}
use Rattle.psb_model.specs.declared.change.Change.{Change}
use Rattle.psb_model.specs.declared.change.Change.TheVariants.{Begun}
use Rattle.psb_model.specs.Words.{name_eq, has}
use Rattle.psb_model.specs.State.{Row, State, row, row_in, in_key, own_has, is_held}
use Rattle.psb_model.specs.Conditions.{allowed, is_begun, peer_of, settings_of_body}
use Rattle.psb_model.specs.Effects.{after}
use Rattle.psb_model.specs.Heads.{body_of}
use Rattle.psb_model.specs.History.{state}
use Rattle.psb_model.specs.Needed.{brings, brings_name, last_that, last_bringing, last_brought, needs_name, needs_slot, is_needed_by, is_body, body_is_right, bodies_right, slots_given}
use Rattle.psb_model.proofs.ByObject.{by_cases}
use Rattle.psb_model.proofs.Own.{name_same}
use Rattle.psb_model.proofs.Prefixes.{state_snoc}
use Rattle.psb_model.proofs.Standing.{StandsFor}
use Rattle.psb_model.proofs.Steady.{IsSteady, or_true, begun_before, has_coming, coming_in}
use Rattle.psb_model.proofs.Held.{was_held, none_first, brings_none}
use Rattle.model_laws.specs.Held.{AllHeldHaveBytes}
use Rattle.model_laws.proofs.Growth.{Steps, begun_first, by_growth}
use Rattle.model_laws.proofs.Along.{last_is}

-- ---- bytes of a name

pub none_ends : (test : Change → Bool) (h : List Change) (c : Change) → test c ≡ false → last_that test (h ++ c ∷ []) ≡ last_that test h
none_ends test [] c no_end = ap (λ (b : Bool). cond b (Some c) None) no_end
none_ends test (d ∷ ds) c no_end = ap (λ (o : Option Change). elim o [ Some x ↦ Some x | None ↦ if test d then Some d else None ]) (none_ends test ds c no_end)

-- what brings none of a name leaves its bytes
pub bytes_stay : (h : List Change) (c : Change) (n : List ℕ) → brings_name n c ≡ false → last_brought n (h ++ c ∷ []) ≡ last_brought n h
bytes_stay h c n none = ap (λ (o : Option Change). elim o [ Some x ↦ body_of x | None ↦ None ]) (none_ends (brings_name n) h c none)

-- so do all changes while the name is held
pub held_stay : (h : List Change) (c : Change) (n : List ℕ) → allowed (state h) c ≡ true → is_held (state h) n ≡ true → last_brought n (h ++ c ∷ []) ≡ last_brought n h
held_stay h c n m held = bytes_stay h c n (brings_none (state h) c n m held)

-- ---- what is held

pub held_own : (s : State) (n : List ℕ) → own_has s.own n ≡ true → is_held s n ≡ true
held_own s n h = rw h refl

-- the bytes that a deal brings are the node's own
abbrev pub BringsOwn : State → DealWhat → Type 0
BringsOwn s (Fresh name) = own_has s.own name ≡ true
BringsOwn s (Swap name numbers) = own_has s.own name ≡ true
BringsOwn s _ = Unit {0}

coming_own : (own : List OwnEntry) (o : Option Deal) (number : ℕ) (name : List ℕ) → o ≡ Some (record { number = number; what = Fresh name }) → has_coming own o ≡ true → own_has own name ≡ true
coming_own own o number name is h = subst (λ x. has_coming own x ≡ true) is h

brings_own_as : (s : State) (p number : ℕ) (what : DealWhat) → IsSteady s → (row s p).pending ≡ Some (record { number = number; what = what }) → StandsFor s.issued s.own (row s p) what → BringsOwn s what
brings_own_as s p number (Fresh name) plain is st = coming_own s.own (row s p).pending number name is (coming_in s.own s.rows p plain.coming)
brings_own_as s p number (Swap name numbers) plain is st = st.owned
brings_own_as s p number _ plain is st = tt

pub brings_own : (s : State) (p : ℕ) (d : Deal) → IsSteady s → (row s p).pending ≡ Some d → BringsOwn s d.what
brings_own s p d plain is = brings_own_as s p d.number d.what plain is ((plain.good.rows p).stands d is)

-- a chunk here is held
rows_hold : (rows : List (ℕ × Row)) (p : ℕ) (n : List ℕ) → has in_key (row_in rows p).ins (Chunk n) ≡ true → list_any (λ (x : ℕ × Row). has in_key x.1.ins (Chunk n)) rows ≡ true
rows_hold [] p n h = absurd (false≢true h)
rows_hold (x ∷ xs) p n h = by_cases (x.0 == p)
    (λ k. let h' : has in_key x.1.ins (Chunk n) ≡ true = rw k at h in rw h' refl)
    (λ k. ap (λ b. has in_key x.1.ins (Chunk n) || b) (rows_hold xs p n (rw k at h)) ∙ or_true (has in_key x.1.ins (Chunk n)))

pub in_held : (s : State) (p : ℕ) (n : List ℕ) → has in_key (row s p).ins (Chunk n) ≡ true → is_held s n ≡ true
in_held s p n h = ap (λ b. own_has s.own n || b) (rows_hold s.rows p n h) ∙ or_true (own_has s.own n)

-- ---- a held name was brought, and has its bytes

abbrev AllBrought : List Change → Type 0
AllBrought h = (n : List ℕ) → is_held (state h) n ≡ true → (c : Change) × (last_bringing n h ≡ Some c)

begun_holds_none : (h : List Change) (c : Change) (n : List ℕ) → allowed (state h) c ≡ true → is_begun c ≡ true → is_held (after (state h) c) n ≡ false
begun_holds_none h (Begun x) n m b = subst (λ (l : List Change). is_held (after (state l) (Begun x)) n ≡ false) (sym (begun_first h (Begun x) m b)) (none_first (settings_of_body x.body) n)
begun_holds_none h _ n m b = absurd (false≢true b)

brought_step : Steps AllBrought
brought_step h c lawful grammar m all n held =
    let now : is_held (after (state h) c) n ≡ true = ap (λ (t : State). is_held t n) (sym (state_snoc h c)) ∙ held in
    by_cases (brings_name n c)
    (λ k. (c, last_is (brings_name n) h c k))
    (λ k. by_cases (is_begun c)
    (λ b. absurd (false≢true (sym (begun_holds_none h c n m b) ∙ now)))
    (λ b. let was = all n (was_held (state h) c n (begun_before (state h) c b m) m now k) in
    (was.0, none_ends (brings_name n) h c k ∙ was.1)))

record HasBody (n : List ℕ) (o : Option (List ℕ)) : Type 0 where
  bytes : List ℕ
  is : o ≡ Some bytes
  named : name_eq (sha bytes) n ≡ true

-- the last change that brings it has its bytes, where all that are needed are there
body_there : (name : List ℕ) (o : Option (List ℕ)) → is_body (Some name) o ≡ true → HasBody name o
body_there name None h = absurd (false≢true h)
body_there name (Some bytes) h = record { bytes = bytes; is = refl; named = h }

none_later : (n : List ℕ) (l : List Change) → last_that (brings_name n) l ≡ None → list_any (brings_name n) l ≡ false
none_later n [] e = refl
none_later n (c ∷ cs) e = by_rest (last_that (brings_name n) cs) (none_later n cs) e
  where
    by_rest : (o : Option Change) → (o ≡ None → list_any (brings_name n) cs ≡ false) → ◌≡◌ {A = Option Change} (elim o [ Some x ↦ Some x | None ↦ cond (brings_name n c) (Some c) None ]) None → (brings_name n c || list_any (brings_name n) cs) ≡ false
    by_rest (Some x) r k = absurd (cc (k))
    by_rest None r k = by_cases (brings_name n c)
        (λ j. let bad : Some c ≡ None = ap (λ (b : Bool). cond b (Some c) None) (sym j) ∙ k in absurd (cc (bad)))
        (λ j. rw j (r refl))

-- the change brings the name
brings_is : (n : List ℕ) (c : Change) → brings_name n c ≡ true → (m : List ℕ) × (brings c ≡ Some m) × (name_eq m n ≡ true)
brings_is n c h = by_brought (brings c) refl h
  where
    by_brought : (o : Option (List ℕ)) → brings c ≡ o → elim o [ None ↦ false | Some m ↦ name_eq m n ] ≡ true → (m : List ℕ) × (brings c ≡ Some m) × (name_eq m n ≡ true)
    by_brought None e k = absurd (false≢true k)
    by_brought (Some m) e k = (m, e, k)

bodies_there : (s : State) (n : List ℕ) (l : List Change) (d : Change) → is_held s n ≡ true → bodies_right s l ≡ true → last_that (brings_name n) l ≡ Some d → HasBody n (body_of d)
bodies_there s n [] d held right is = absurd (cc (is))
bodies_there s n (c ∷ cs) d held right is =
    let two = and_parts (not (is_needed_by s c cs) || body_is_right c) (bodies_right s cs) right in
    by_rest (last_that (brings_name n) cs) refl (λ e. bodies_there s n cs d held two.1 e) two.0 is
  where
    here : last_that (brings_name n) cs ≡ None → brings_name n c ≡ true → (not (is_needed_by s c cs) || body_is_right c) ≡ true → HasBody n (body_of c)
    here none k right' =
        let b = brings_is n c k in
        let same : b.0 ≡ n = name_same b.0 n b.2 in
        let free : list_any (brings_name b.0) cs ≡ false = ap (λ m. list_any (brings_name m) cs) same ∙ none_later n cs none in
        let needs : needs_name s (brings c) cs ≡ true = ap (λ o. needs_name s o cs) b.1 ∙ rw (ap (is_held s) same ∙ held, free) refl in
        let needed : is_needed_by s c cs ≡ true = ap (λ x. (is_begun c || x) || needs_slot s (peer_of c) (slots_given c) cs) needs ∙ ap (λ x. x || needs_slot s (peer_of c) (slots_given c) cs) (or_true (is_begun c)) in
        let right : is_body (Some b.0) (body_of c) ≡ true = ap (λ o. is_body o (body_of c)) (sym b.1) ∙ sym (ap (λ x. not x || body_is_right c) needed) ∙ right' in
        subst (λ m. HasBody m (body_of c)) same (body_there b.0 (body_of c) right)

    by_rest : (o : Option Change) → last_that (brings_name n) cs ≡ o → (o ≡ Some d → HasBody n (body_of d)) → (not (is_needed_by s c cs) || body_is_right c) ≡ true → elim o [ Some x ↦ Some x | None ↦ cond (brings_name n c) (Some c) None ] ≡ Some d → HasBody n (body_of d)
    by_rest (Some x) r old right' k = old k
    by_rest None r old right' k = by_cases (brings_name n c)
        (λ j. let same : c ≡ d = cc (ap (λ (b : Bool). cond b (Some c) None) (sym j) ∙ k) in subst (λ x. HasBody n (body_of x)) same (here r j right'))
        (λ j. let bad : None ≡ Some d = ap (λ (b : Bool). cond b (Some c) None) (sym j) ∙ k in absurd (cc (bad)))

pub held_have_bytes : AllHeldHaveBytes
held_have_bytes h n v held =
    let b = by_growth AllBrought (λ m k. absurd (false≢true k)) brought_step h v.lawful n held in
    let t = bodies_there (state h) n h b.0 held v.sound b.1 in
    record { bytes = t.bytes; brought = ap (λ (o : Option Change). elim o [ Some c ↦ body_of c | None ↦ None ]) b.1 ∙ t.is; named = t.named }
