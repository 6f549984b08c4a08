-- A probe that runs has no answer since it began.
use Rattle.std.proofs.Common.{◌≡◌, ℕ, ◌⊎◌, ⊎_elim, inl, inr, Bool, true, false, option_to_list, List, [], ◌∷◌, ◌++◌, Option, Some, None, refl, sym, ap, ◌∙◌, subst, append_assoc, append-nil, arith}
use Rattle.psb_model.specs.State.{row}
use Rattle.psb_model.specs.Effects.{after}
use Rattle.psb_model.specs.History.{state, is_lawful}
use Rattle.psb_model.specs.declared.change.Change.{Change}
use Rattle.psb_model.specs.declared.change.Change.TheVariants.{Asked, Failed}
use Rattle.psb_model.specs.declared.kinds.Failed.{Failed as Failure}
use Rattle.psb_model.proofs.Prefixes.{changes_counted}
use Rattle.model_laws.specs.Following.{probes}
use Rattle.psb_machine.specs.Volatile.{PeerState, Volatile, of_peer, later, after_tick, asked_now, still_asked, probe_goes_on, noted, by_change, by_changes}
use Rattle.psb_machine.specs.OwnProbes.{Run}
use Rattle.psb_machine.specs.Machine.{Situation, Input, Tick, fresh, run_at, react, next}
use Rattle.psb_machine.specs.Course.{Telling, Step, Absorb, Tell, after_all}
use Rattle.psb_machine.proofs.Courses.{after_all-append}
use Rattle.psb_machine.proofs.Found.{changed_here}
use Rattle.psb_machine.proofs.Runs.{run_parts}
use Rattle.psb_machine.proofs.Untied.{last_allowed}
use Rattle.probe_laws.specs.Just.{IsProof, IsSilence, IsWrong}
use Rattle.probe_laws.specs.Answers.{NoneProves, IsUnanswered, ProbesRunUnanswered, HadNoAnswer, SilenceIsJust}
use Rattle.probe_laws.proofs.Just.{outcomes_are_just}
use Rattle.probe_laws.proofs.Sound.{IsSound, runs_behind, runs_still, sound_fresh, sound_next, lawful_before}
use Rattle.probe_laws.proofs.Answers.{answer_noted}

-- ---- one step more

none_more : (n : Situation) (ss : List Step) (s : Step) (p asked : ℕ) → NoneProves n ss p asked → NoneProves (after_all n ss) (s ∷ []) p asked → NoneProves n (ss ++ s ∷ []) p asked
none_more n [] s p asked w one = one
none_more n (Absorb x ∷ ss) s p asked w one = (w.0, none_more (next n x) ss s p asked w.1 one)
none_more n (Tell t ∷ ss) s p asked w one = none_more n ss s p asked w one

-- it is unanswered still behind a step without a Proof of it
still_unanswered : (h : List Change) (ss : List Step) (s : Step) (p : ℕ) (r : Run) → IsUnanswered h ss p r → NoneProves (after_all (fresh h) ss) (s ∷ []) p r.asked → IsUnanswered h (ss ++ s ∷ []) p r
still_unanswered h ss s p r u one =
    let began = next (after_all (fresh h) u.before) u.start in
    let reached : after_all (fresh h) ss ≡ after_all began u.since = ap (after_all (fresh h)) u.parts ∙ after_all-append (fresh h) u.before (Absorb u.start ∷ u.since) in
    record {
      before = u.before;
      start = u.start;
      since = u.since ++ s ∷ [];
      parts = ap (λ (l : List Step). l ++ s ∷ []) u.parts ∙ append_assoc u.before (Absorb u.start ∷ u.since) (s ∷ []);
      asks = u.asks;
      number = u.number;
      began = u.began;
      unproved = none_more began u.since s p r.asked u.unproved (subst (λ (m : Situation). NoneProves m (s ∷ []) p r.asked) reached one);
    }

-- ---- a probe that begins

-- it began by the peer's clock with this tick
began_now : (n : Situation) (x : Input) (p : ℕ) (r : Run) → (react n x).grown ≡ Some (Asked (record { peer = p; objects = r.objects })) → run_at (next n x) p ≡ Some r → later (of_peer n.volatile p).clock ≡ r.began
began_now n x p r asks is =
    let c : Change = Asked (record { peer = p; objects = r.objects }) in
    let s = state n.history in
    let just = outcomes_are_just n x c asks in
    let note : noted (react n x).note n.volatile ≡ noted (react n (Tick p)).note n.volatile = ap (λ (y : Input). noted (react n y).note n.volatile) just.ticks in
    let v = noted (react n (Tick p)).note n.volatile in
    let volatile : (next n x).volatile ≡ by_change s c v = ap (λ (o : Option Change). by_changes s o (noted (react n x).note n.volatile)) asks ∙ ap (by_change s c) note in
    let began : (of_peer (next n x).volatile p).began ≡ Some r.began = (run_parts (of_peer (next n x).volatile p).began (row (state (next n x).history) p).asked r is).1 in
    let still = still_asked (row (after s c) p) in
    let ticked : of_peer v p ≡ after_tick (of_peer n.volatile p) = changed_here n.volatile.peers after_tick p in
    let asked = changed_here v.peers asked_now p in
    let found : of_peer (by_change s c v) p ≡ probe_goes_on still (asked_now (after_tick (of_peer n.volatile p))) =
    changed_here _ (probe_goes_on still) p ∙ ap (probe_goes_on still) (asked ∙ ap asked_now ticked) in
    by_still still (sym (ap (λ (y : PeerState). y.began) found) ∙ sym (ap (λ (w : Volatile). (of_peer w p).began) volatile) ∙ began)
  where
    by_still : (still : Bool) → (probe_goes_on still (asked_now (after_tick (of_peer n.volatile p)))).began ≡ Some r.began → later (of_peer n.volatile p).clock ≡ r.began
    by_still true k = cc (k)
    by_still false k = absurd (cc (k))

begun_now : (h : List Change) (ss : List Step) (x : Input) (p : ℕ) (r : Run) → (react (after_all (fresh h) ss) x).grown ≡ Some (Asked (record { peer = p; objects = r.objects })) → (state (after_all (fresh h) ss).history).changes ≡ r.asked → run_at (next (after_all (fresh h) ss) x) p ≡ Some r
    → IsUnanswered h (ss ++ Absorb x ∷ []) p r
begun_now h ss x p r asks number is = record {
  before = ss;
  start = x;
  since = [];
  parts = refl;
  asks = asks;
  number = sym (changes_counted (after_all (fresh h) ss).history) ∙ number;
  began = began_now (after_all (fresh h) ss) x p r asks is;
  unproved = tt;
}

-- ---- each step

-- a probe that runs behind an input ran before it, or began with it
ran_before : (n : Situation) (x : Input) (p : ℕ) (r : Run) → is_lawful (next n x).history ≡ true → run_at (next n x) p ≡ Some r
    → (run_at n p ≡ Some r) ⊎ (((react n x).grown ≡ Some (Asked (record { peer = p; objects = r.objects }))) × ((state n.history).changes ≡ r.asked))
ran_before n x p r lawful is = by_grown (react n x).grown refl lawful is
  where
    by_grown : (g : Option Change) → (react n x).grown ≡ g → is_lawful (n.history ++ option_to_list g) ≡ true → run_at (record { history = n.history ++ option_to_list g; volatile = by_changes (state n.history) g (noted (react n x).note n.volatile) }) p ≡ Some r
        → (run_at n p ≡ Some r) ⊎ (((react n x).grown ≡ Some (Asked (record { peer = p; objects = r.objects }))) × ((state n.history).changes ≡ r.asked))
    by_grown None e lawful k = inl (runs_still n (react n x).note p r k)
    by_grown (Some c) e lawful k =
        ⊎_elim
        (λ (a : (c ≡ Asked (record { peer = p; objects = r.objects })) × ((state n.history).changes ≡ r.asked)). inr (e ∙ ap (λ (d : Change). Some d) a.0, a.1))
        (λ (b : (probes p c ≡ false) × (run_at n p ≡ Some r)). inl b.1)
        (runs_behind n (react n x).note c p r (last_allowed n.history c lawful) k)

-- what runs behind an input had no Proof in it
no_proof : (n : Situation) (x : Input) (p : ℕ) (r : Run) → IsSound n → run_at n p ≡ Some r → run_at (next n x) p ≡ Some r → (value : List ℕ) → IsProof n.history x p r.asked value → ⊥
no_proof n x p r s before behind value proof = absurd (cc (sym (answer_noted n x p r value s before proof).ended ∙ behind))

-- each probe that runs behind these steps is unanswered
abbrev AllUnanswered : List Change → List Step → Type 0
AllUnanswered h ss = (p : ℕ) (r : Run) → run_at (after_all (fresh h) ss) p ≡ Some r → IsUnanswered h ss p r

absorbed : (h : List Change) (ss : List Step) (x : Input) → IsSound (after_all (fresh h) ss) → is_lawful (next (after_all (fresh h) ss) x).history ≡ true → AllUnanswered h ss → AllUnanswered h (ss ++ Absorb x ∷ [])
absorbed h ss x s lawful all p r is =
    let n = after_all (fresh h) ss in
    let is' : run_at (next n x) p ≡ Some r = subst (λ (m : Situation). run_at m p ≡ Some r) (after_all-append (fresh h) ss (Absorb x ∷ [])) is in
    ⊎_elim
    (λ (a : run_at n p ≡ Some r). still_unanswered h ss (Absorb x) p r (all p r a) (no_proof n x p r s a is', tt))
    (λ (b : ((react n x).grown ≡ Some (Asked (record { peer = p; objects = r.objects }))) × ((state n.history).changes ≡ r.asked)). begun_now h ss x p r b.0 b.1 is')
    (ran_before n x p r lawful is')

told : (h : List Change) (ss : List Step) (t : Telling) → AllUnanswered h ss → AllUnanswered h (ss ++ Tell t ∷ [])
told h ss t all p r is =
    let is' : run_at (after_all (fresh h) ss) p ≡ Some r = subst (λ (m : Situation). run_at m p ≡ Some r) (after_all-append (fresh h) ss (Tell t ∷ [])) is in
    still_unanswered h ss (Tell t) p r (all p r is') tt

-- over the rest of a course
unanswered_from : (h : List Change) (done ss : List Step) → IsSound (after_all (fresh h) done) → is_lawful (after_all (after_all (fresh h) done) ss).history ≡ true → AllUnanswered h done → AllUnanswered h (done ++ ss)
unanswered_from h done [] s lawful all = subst (AllUnanswered h) (sym (append-nil done)) all
unanswered_from h done (Absorb x ∷ ss) s lawful all =
    let n = after_all (fresh h) done in
    let now : is_lawful (next n x).history ≡ true = lawful_before (next n x) ss lawful in
    let reached : after_all (fresh h) (done ++ Absorb x ∷ []) ≡ next n x = after_all-append (fresh h) done (Absorb x ∷ []) in
    subst (AllUnanswered h) (append_assoc done (Absorb x ∷ []) ss)
    (unanswered_from h (done ++ Absorb x ∷ []) ss (subst IsSound (sym reached) (sound_next n x s now)) (ap (λ (m : Situation). is_lawful (after_all m ss).history) reached ∙ lawful) (absorbed h done x s now all))
unanswered_from h done (Tell t ∷ ss) s lawful all =
    let reached : after_all (fresh h) (done ++ Tell t ∷ []) ≡ after_all (fresh h) done = after_all-append (fresh h) done (Tell t ∷ []) in
    subst (AllUnanswered h) (append_assoc done (Tell t ∷ []) ss)
    (unanswered_from h (done ++ Tell t ∷ []) ss (subst IsSound (sym reached) s) (ap (λ (m : Situation). is_lawful (after_all m ss).history) reached ∙ lawful) (told h done t all))

none_yet : (h : List Change) → AllUnanswered h []
none_yet h p r is = absurd (cc ((run_parts None (row (state h) p).asked r is).1))

pub probes_run_unanswered : ProbesRunUnanswered
probes_run_unanswered h ss p r v lawful is = unanswered_from h [] ss (sound_fresh h v) lawful (none_yet h) p r is

-- ---- a probe that fails for want of an answer

silent : (h : List Change) (ss : List Step) (x : Input) (f : Failure) → (IsSilence (after_all (fresh h) ss) x f) ⊎ (IsWrong (after_all (fresh h) ss) x f) → ((p : ℕ) (r : Run) → run_at (after_all (fresh h) ss) p ≡ Some r → IsUnanswered h ss p r) → f.how ≡ 0 → HadNoAnswer h ss f
silent h ss x f why all how =
    ⊎_elim
    (λ (a : IsSilence (after_all (fresh h) ss) x f). record { began = a.began; unanswered = all f.peer (record { asked = f.asked; objects = f.objects; began = a.began }) a.runs; late = a.late })
    (λ (b : IsWrong (after_all (fresh h) ss) x f). absurd (omega (arith, how, b.how)))
    why

pub silence_is_just : SilenceIsJust
silence_is_just h ss x f v lawful fails how = silent h ss x f (outcomes_are_just (after_all (fresh h) ss) x (Failed f) fails) (λ p r is. probes_run_unanswered h ss p r v lawful is) how
