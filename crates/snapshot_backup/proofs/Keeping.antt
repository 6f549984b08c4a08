-- What a Keep makes of the bodies that a node has for itself.
use Rattle.std.proofs.Common.{◌≡◌, ℕ, ◌+◌, Bool, true, false, not, ◌&&◌, ◌||◌, cond, List, [], ◌∷◌, ◌++◌, length, Option, Some, None, is_some, refl, sym, ◌∙◌, ap, subst}
use Rattle.std.specs.List.{list_all}
use Rattle.std.proofs.lemmas.Bool.{and_parts, false≢true, true≢false}
use Rattle.std.proofs.lemmas.List.{append-nil}
use Rattle.psb_model.specs.Words.{name_eq}
use Rattle.convergent_seal.specs.Sealing.{sealed, sealed_ref}
use Rattle.psb_model.specs.State.{State, own_has, is_held, snaps_made}
use Rattle.psb_model.specs.Heads.{body_of}
use Rattle.psb_model.specs.Effects.{after}
use Rattle.psb_model.specs.History.{state}
use Rattle.psb_model.specs.Needed.{brings, brings_name, last_bringing, last_brought, is_body, body_is_right, IsValid}
use Rattle.psb_model.specs.declared.change.Change.{Change}
use Rattle.psb_model.specs.declared.change.Change.TheVariants.{Kept}
use Rattle.psb_model.specs.declared.entries.OwnEntry.{OwnEntry}
use Rattle.psb_model.proofs.Own.{name_same, name_refl}
use Rattle.psb_model.proofs.Prefixes.{state_snoc}
use Rattle.psb_model.proofs.Steady.{steady_state}
use Rattle.psb_model.proofs.Held.{own_with_is}
use Rattle.model_laws.proofs.Leaving.{own_kept}
use Rattle.psb_machine.specs.Deals.{are_others, meets_others}
use Rattle.psb_machine.specs.Machine.{Situation, Keep, kept_with, quiet, grows, changes_of, settled, next}
use Rattle.psb_machine.specs.Course.{after_all}
use Rattle.chunk_store.specs.declared.store.Store.{Store}
use Rattle.chunk_store.specs.Store.{record_of}
use Rattle.node_history.specs.Lacking.{lacks}
use Rattle.node_history.specs.Names.{brought_from, KnowsNames}
use Rattle.node_core.specs.Refusing.{when_taken}
use Rattle.node_history.proofs.Lacks.{sound_lacks}
use Rattle.snapshot_backup.specs.Course.{keep_steps}
use Rattle.snapshot_backup.specs.Kept.{IsKept, AreKept, KeepsAll, Owns, names_of}

-- ---- the last change that brings some bytes

abbrev or_this : Option Change → Bool → Change → Option Change
or_this later brings c = elim later [ Some d ↦ Some d | None ↦ cond brings (Some c) None ]

bringing_snoc : (name : List ℕ) (h : List Change) (c : Change) → last_bringing name (h ++ c ∷ []) ≡ cond (brings_name name c) (Some c) (last_bringing name h)
bringing_snoc name [] c = refl
bringing_snoc name (d ∷ h) c = ap (λ (o : Option Change). or_this o (brings_name name d) d) (bringing_snoc name h c) ∙ at (brings_name name c)
  where
    at : (b : Bool) → or_this (cond b (Some c) (last_bringing name h)) (brings_name name d) d ≡ cond b (Some c) (or_this (last_bringing name h) (brings_name name d) d)
    at true = refl
    at false = refl

pub last_stays : (name : List ℕ) (h : List Change) (c : Change) → brings_name name c ≡ false → last_brought name (h ++ c ∷ []) ≡ last_brought name h
last_stays name h c none = ap (λ (o : Option Change). elim o [ Some d ↦ body_of d | None ↦ None ]) (bringing_snoc name h c ∙ ap (λ (b : Bool). cond b (Some c) (last_bringing name h)) none)

pub last_is : (name : List ℕ) (h : List Change) (c : Change) → brings_name name c ≡ true → last_brought name (h ++ c ∷ []) ≡ body_of c
last_is name h c it = ap (λ (o : Option Change). elim o [ Some d ↦ body_of d | None ↦ None ]) (bringing_snoc name h c ∙ ap (λ (b : Bool). cond b (Some c) (last_bringing name h)) it)

-- ---- a Kept

own_after : (h : List Change) (name bytes q : List ℕ) → IsValid h → own_has (state (h ++ kept_with (state h) name bytes ∷ [])).own q ≡ (own_has (state h).own q || name_eq name q)
own_after h name bytes q v =
    let s = state h in
    ap (λ (t : State). own_has t.own q) (state_snoc h (kept_with s name bytes))
    ∙ ap (λ (l : List OwnEntry). own_has l q) (own_kept s name (length bytes) (not (is_held s name)) (Some (cond (not (is_held s name)) bytes [])) (steady_state h v.lawful))
    ∙ own_with_is (record { name = name; len = length bytes; marked = false }) s.own q

or_true : (a : Bool) → (a || true) ≡ true
or_true true = refl
or_true false = refl

held_own : (s : State) (name : List ℕ) → own_has s.own name ≡ true → is_held s name ≡ true
held_own s name own = rw own refl

same_brings : (held : Bool) (name bytes q : List ℕ) → brings_name q (Kept (record { name = name; len = length bytes; new = not held; body = Some (cond (not held) bytes []) })) ≡ (not held && name_eq name q)
same_brings true name bytes q = refl
same_brings false name bytes q = refl

-- what the node has already stays
pub kept_stays : (h : List Change) (name bytes q body : List ℕ) → IsValid h → IsKept h q body → IsKept (h ++ kept_with (state h) name bytes ∷ []) q body
kept_stays h name bytes q body v k = record {
  own = own_after h name bytes q v ∙ ap (λ (b : Bool). b || name_eq name q) k.own;
  last = last_stays q h (kept_with (state h) name bytes) (same_brings (is_held (state h) name) name bytes q ∙ none (name_eq name q) refl) ∙ k.last;
}
  where
    none : (b : Bool) → name_eq name q ≡ b → (not (is_held (state h) name) && b) ≡ false
    none true same = ap (λ (b : Bool). not b && true) (ap (is_held (state h)) (name_same name q same) ∙ held_own (state h) q k.own)
    none false same = at (not (is_held (state h) name))
      where
        at : (b : Bool) → (b && false) ≡ false
        at true = refl
        at false = refl

-- bytes that are no others than those that are held, if some are
no_others : (o : Option (List ℕ)) (bytes : List ℕ) → is_some o ≡ true → are_others o bytes ≡ false → o ≡ Some bytes
no_others None bytes some same = absurd (false≢true some)
no_others (Some held) bytes some same = at (name_eq held bytes) refl same
  where
    at : (b : Bool) → name_eq held bytes ≡ b → not b ≡ false → Some held ≡ Some bytes
    at true is h = ap (λ (l : List ℕ). Some l) (name_same held bytes is)
    at false is h = absurd (true≢false h)

-- what is kept is there
pub kept_now : (h : List Change) (name bytes : List ℕ) → IsValid h → meets_others h name bytes ≡ false → (is_held (state h) name ≡ true → is_some (last_brought name h) ≡ true) → IsKept (h ++ kept_with (state h) name bytes ∷ []) name bytes
kept_now h name bytes v none there = record {
  own = own_after h name bytes name v ∙ ap (λ (b : Bool). own_has (state h).own name || b) (name_refl name) ∙ or_true (own_has (state h).own name);
  last = at (is_held (state h) name) refl;
}
  where
    at : (held : Bool) → is_held (state h) name ≡ held → last_brought name (h ++ kept_with (state h) name bytes ∷ []) ≡ Some bytes
    at true is =
        last_stays name h (kept_with (state h) name bytes) (same_brings (is_held (state h) name) name bytes name ∙ ap (λ (b : Bool). not b && name_eq name name) is)
        ∙ no_others (last_brought name h) bytes (there is) (sym (ap (λ (b : Bool). b && are_others (last_brought name h) bytes) is) ∙ none)
    at false is =
        last_is name h (kept_with (state h) name bytes) (same_brings (is_held (state h) name) name bytes name ∙ ap (λ (b : Bool). not b && name_eq name name) is ∙ name_refl name)
        ∙ ap (λ (b : Bool). Some (cond (not b) bytes [])) is

-- ---- a piece is kept

kept_step : (n : Situation) (name bytes : List ℕ) (own : Bool) → own_has (state n.history).own name ≡ own → meets_others n.history name bytes ≡ false → (next n (Keep name bytes)).history ≡ n.history ++ cond own [] (kept_with (state n.history) name bytes ∷ [])
kept_step n name bytes true is none =
    ap (λ (b : Bool). n.history ++ changes_of (cond (b || meets_others n.history name bytes) quiet (grows (kept_with (state n.history) name bytes)))) is
kept_step n name bytes false is none =
    ap (λ (b : Bool). n.history ++ changes_of (cond (b || meets_others n.history name bytes) quiet (grows (kept_with (state n.history) name bytes)))) is
    ∙ ap (λ (b : Bool). n.history ++ changes_of (cond b quiet (grows (kept_with (state n.history) name bytes)))) none

-- the bytes of a name that is its own already are there
kept_already : (h : List Change) (name bytes : List ℕ) → meets_others h name bytes ≡ false → (is_held (state h) name ≡ true → is_some (last_brought name h) ≡ true) → own_has (state h).own name ≡ true → IsKept h name bytes
kept_already h name bytes none there own =
    let held = held_own (state h) name own in
    record {
      own = own;
      last = no_others (last_brought name h) bytes (there held) (sym (ap (λ (b : Bool). b && are_others (last_brought name h) bytes) held) ∙ none);
    }

-- a history that is the same, or has the change more
stays_in : (h k : List Change) (name bytes q body : List ℕ) (own : Bool) → k ≡ h ++ cond own [] (kept_with (state h) name bytes ∷ []) → IsValid h → IsKept h q body → IsKept k q body
stays_in h k name bytes q body true is v kept = subst (λ (l : List Change). IsKept l q body) (sym (is ∙ append-nil h)) kept
stays_in h k name bytes q body false is v kept = subst (λ (l : List Change). IsKept l q body) (sym is) (kept_stays h name bytes q body v kept)

pub keeps_piece : (n : Situation) (plain : List ℕ) → IsValid n.history → meets_others n.history (sealed_ref plain).name (sealed plain) ≡ false → (is_held (state n.history) (sealed_ref plain).name ≡ true → is_some (last_brought (sealed_ref plain).name n.history) ≡ true)
    → KeepsAll n.history (after_all n (keep_steps (plain ∷ []))).history (plain ∷ [])
keeps_piece n plain v none there = at (own_has (state n.history).own (sealed_ref plain).name) refl
  where
    name : List ℕ
    name = (sealed_ref plain).name

    at : (own : Bool) → own_has (state n.history).own name ≡ own → KeepsAll n.history (next n (Keep name (sealed plain))).history (plain ∷ [])
    at true own =
        let is = kept_step n name (sealed plain) true own none in
        record {
          stay = λ q body kept. stays_in n.history (next n (Keep name (sealed plain))).history name (sealed plain) q body true is v kept;
          each = (subst (λ (l : List Change). IsKept l name (sealed plain)) (sym (is ∙ append-nil n.history)) (kept_already n.history name (sealed plain) none there own), tt);
        }
    at false own =
        let is = kept_step n name (sealed plain) false own none in
        record {
          stay = λ q body kept. stays_in n.history (next n (Keep name (sealed plain))).history name (sealed plain) q body false is v kept;
          each = (subst (λ (l : List Change). IsKept l name (sealed plain)) (sym is) (kept_now n.history name (sealed plain) v none there), tt);
        }

-- ---- what a state has for itself

made_kept : (s : State) (name : List ℕ) (len : ℕ) (new : Bool) (body : Option (List ℕ)) → snaps_made (after s (Kept (record { name = name; len = len; new = new; body = body }))) ≡ snaps_made s
made_kept s name len new body = refl

owned_step : (h : List Change) (name bytes q : List ℕ) → IsValid h → own_has (state h).own q ≡ true → own_has (state (h ++ kept_with (state h) name bytes ∷ [])).own q ≡ true
owned_step h name bytes q v own = own_after h name bytes q v ∙ ap (λ (b : Bool). b || name_eq name q) own

-- whatever the disk told, a piece that was taken is its own
pub owns_piece : (n : Situation) (plain : List ℕ) → IsValid n.history → Owns (state n.history) (state (settled n (when_taken n (Keep (sealed_ref plain).name (sealed plain)))).history) (plain ∷ [])
owns_piece n plain v = at (own_has (state n.history).own name) refl
  where
    name : List ℕ
    name = (sealed_ref plain).name

    c : Change
    c = kept_with (state n.history) name (sealed plain)

    led : Bool → List Change
    led own = n.history ++ changes_of (cond own quiet (grows c))

    one : (s : State) → own_has s.own name ≡ true → list_all (own_has s.own) (name ∷ []) ≡ true
    one s is = rw is refl

    at : (own : Bool) → own_has (state n.history).own name ≡ own → Owns (state n.history) (state (led (own_has (state n.history).own name))) (plain ∷ [])
    at true own = subst (λ (k : List Change). Owns (state n.history) (state k) (plain ∷ [])) (sym (ap led own ∙ append-nil n.history)) (record { stay = λ q is. is; each = one (state n.history) own; made = refl })
    at false own = subst (λ (k : List Change). Owns (state n.history) (state k) (plain ∷ [])) (sym (ap led own)) (record {
      stay = λ q is. owned_step n.history name (sealed plain) q v is;
      each = one (state (n.history ++ c ∷ [])) (own_after n.history name (sealed plain) name v ∙ ap (λ (b : Bool). own_has (state n.history).own name || b) (name_refl name) ∙ or_true (own_has (state n.history).own name));
      made = ap snaps_made (state_snoc n.history c) ∙ made_kept (state n.history) name (length (sealed plain)) (not (is_held (state n.history) name)) (Some (cond (not (is_held (state n.history) name)) (sealed plain) []));
    })

-- ---- one run of pieces after another

kept_on : (h k : List Change) (ps : List (List ℕ)) → ((name bytes : List ℕ) → IsKept h name bytes → IsKept k name bytes) → AreKept h ps → AreKept k ps
kept_on h k [] stay all = tt
kept_on h k (p ∷ ps) stay all = (stay (sealed_ref p).name (sealed p) all.0, kept_on h k ps stay all.1)

kept_both : (h : List Change) (ps qs : List (List ℕ)) → AreKept h ps → AreKept h qs → AreKept h (ps ++ qs)
kept_both h [] qs a b = b
kept_both h (p ∷ ps) qs a b = (a.0, kept_both h ps qs a.1 b)

pub keeps_none : (h : List Change) → KeepsAll h h []
keeps_none h = record { stay = λ name bytes is. is; each = tt }

pub keeps_then : (h k l : List Change) (ps qs : List (List ℕ)) → KeepsAll h k ps → KeepsAll k l qs → KeepsAll h l (ps ++ qs)
keeps_then h k l ps qs a b = record {
  stay = λ name bytes is. b.stay name bytes (a.stay name bytes is);
  each = kept_both l ps qs (kept_on k l ps b.stay a.each) b.each;
}

own_both : (s t : State) (ps qs : List (List ℕ)) → ((name : List ℕ) → own_has s.own name ≡ true → own_has t.own name ≡ true) → list_all (own_has s.own) (names_of ps) ≡ true → list_all (own_has t.own) (names_of qs) ≡ true
    → list_all (own_has t.own) (names_of (ps ++ qs)) ≡ true
own_both s t [] qs stay a b = b
own_both s t (p ∷ ps) qs stay a b =
    let two = and_parts (own_has s.own (sealed_ref p).name) (list_all (own_has s.own) (names_of ps)) a in
    rw (stay (sealed_ref p).name two.0, own_both s t ps qs stay two.1 b) refl

pub owns_none : (s : State) → Owns s s []
owns_none s = record { stay = λ name is. is; each = refl; made = refl }

pub owns_then : (s t u : State) (ps qs : List (List ℕ)) → Owns s t ps → Owns t u qs → Owns s u (ps ++ qs)
owns_then s t u ps qs a b = record {
  stay = λ name is. b.stay name (a.stay name is);
  each = own_both t u ps qs b.stay a.each b.each;
  made = b.made ∙ a.made;
}
