-- What holds of a node at each step of a course whose history is lawful: each name that it holds has its bytes, and all
-- that a probe lists which runs is there or in debt.
use Rattle.std.proofs.Common.{◌≡◌, ◌≤◌, ℕ, ◌⊎◌, ⊎_elim, inl, inr, Bool, true, false, ◌||◌, ◌==◌, cond, option_to_list, is_some, List, [], ◌∷◌, ◌++◌, length, length-append, Option, Some, None, refl, sym, ap, ◌∙◌, subst, append-nil, arith}
use Rattle.std.specs.List.{list_all}
use Rattle.std.proofs.lemmas.Bool.{and_parts, eqb-true, false≢true}
use Rattle.psb_bytes.specs.declared.ids.Object.{Object}
use Rattle.psb_model.specs.Words.{has}
use Rattle.psb_model.specs.State.{Row, State, nothing_yet, row, row_in, out_key, debt_key}
use Rattle.psb_model.specs.Conditions.{peer_of, of_a_peer, is_begun, allowed}
use Rattle.psb_model.specs.Effects.{after}
use Rattle.psb_model.specs.History.{state, lawful_from, is_lawful}
use Rattle.psb_model.specs.Needed.{IsValid}
use Rattle.psb_model.specs.declared.change.Change.{Change}
use Rattle.psb_model.specs.declared.change.Change.TheVariants.{Asked}
use Rattle.psb_model.proofs.ByObject.{by_cases}
use Rattle.psb_model.proofs.Prefixes.{state_snoc, lawful_app}
use Rattle.psb_model.proofs.Steady.{allows}
use Rattle.psb_model.proofs.Bare.{bare, bare_out, bare_debt, has_bare, changed, row_bare}
use Rattle.model_laws.specs.Following.{probes}
use Rattle.model_laws.proofs.Growth.{begun_first}
use Rattle.model_laws.proofs.Following.{noted as probe_noted}
use Rattle.psb_machine.specs.Volatile.{PeerState, Volatile, of_peer, Note, noted, still_there, still_asked, probe_goes_on, marked_by, probed_by, by_change, by_changes}
use Rattle.psb_machine.specs.OwnProbes.{Run, run_of}
use Rattle.psb_machine.specs.Course.{Step, Absorb, Tell, after_all}
use Rattle.psb_machine.specs.Machine.{Situation, Input, fresh, run_at, react, next}
use Rattle.psb_machine.proofs.Courses.{grown_all}
use Rattle.psb_machine.proofs.Found.{changed_here}
use Rattle.psb_machine.proofs.Runs.{run_parts}
use Rattle.psb_machine.proofs.Untied.{noted_from, marked_from, probed_from, run_again, last_allowed}
use Rattle.probe_laws.proofs.Carried.{HasBody, Carries, react_carries, HasAllBytes, valid_bytes, grown_bytes}
use Rattle.probe_laws.proofs.There.{rows_stay}

-- ---- a probe that runs after a change

-- it began with it, or the change is none of its peer's probing and it ran before
pub runs_behind : (n : Situation) (note : Note) (c : Change) (q : ℕ) (r : Run) → allowed (state n.history) c ≡ true → run_at (record { history = n.history ++ c ∷ []; volatile = by_change (state n.history) c (noted note n.volatile) }) q ≡ Some r
    → ((c ≡ Asked (record { peer = q; objects = r.objects })) × ((state n.history).changes ≡ r.asked)) ⊎ ((probes q c ≡ false) × (run_at n q ≡ Some r))
runs_behind n note c q r may is =
    let s = state n.history in
    let v = noted note n.volatile in
    let now = run_parts (of_peer (by_change s c v) q).began (row (state (n.history ++ c ∷ [])) q).asked r is in
    let there : (row (after s c) q).asked ≡ Some (r.asked, r.objects) = sym (ap (λ (x : State). (row x q).asked) (state_snoc n.history c)) ∙ now.0 in
    ⊎_elim
    (λ (a : (c ≡ Asked (record { peer = q; objects = r.objects })) × (s.changes ≡ r.asked)). inl a)
    (λ (b : (probes q c ≡ false) × ((row s q).asked ≡ Some (r.asked, r.objects))).
    inr (b.0, run_again (of_peer n.volatile q).began (row s q).asked r (noted_from note n.volatile q r.began (marked_from s c v q r.began b.0 (probed_from (after s c) (peer_of c) (marked_by s c v) q r.began now.1))) b.1))
    ((probe_noted s c q may).asked r.asked r.objects there)

-- where an input makes no change it ran before
pub runs_still : (n : Situation) (note : Note) (q : ℕ) (r : Run) → run_at (record { history = n.history ++ []; volatile = noted note n.volatile }) q ≡ Some r → run_at n q ≡ Some r
runs_still n note q r is =
    let is' : run_of (of_peer (noted note n.volatile) q) (row (state n.history) q) ≡ Some r = subst (λ (h : List Change). run_of (of_peer (noted note n.volatile) q) (row (state h) q) ≡ Some r) (append-nil n.history) is in
    let now = run_parts (of_peer (noted note n.volatile) q).began (row (state n.history) q).asked r is' in
    run_again (of_peer n.volatile q).began (row (state n.history) q).asked r (noted_from note n.volatile q r.began now.1) now.0

-- ---- what it lists is there or in debt

abbrev AreThere : Row → List Object → Type 0
AreThere r os = list_all (still_there r) os ≡ true

abbrev pub IsThere : Situation → Type 0
IsThere n = (p : ℕ) (r : Run) → run_at n p ≡ Some r → AreThere (row (state n.history) p) r.objects

-- states of entries do not matter
there_bare : (r : Row) (o : Object) → still_there (bare r) o ≡ still_there r o
there_bare r o =
    ap (λ b. b || has debt_key (bare r).debts o) (has_bare out_key bare_out (λ e. refl) r.outs o)
    ∙ ap (λ b. has out_key r.outs o || b) (has_bare debt_key bare_debt (λ e. refl) r.debts o)

there_same : (r r' : Row) (os : List Object) → bare r' ≡ bare r → AreThere r os → AreThere r' os
there_same r r' [] same h = refl
there_same r r' (o ∷ os) same h =
    let two = and_parts (still_there r o) (list_all (still_there r) os) h in
    let one : still_there r' o ≡ true = sym (there_bare r' o) ∙ ap (λ (x : Row). still_there x o) same ∙ there_bare r o ∙ two.0 in
    rw one (there_same r r' os same two.1)

-- a change of another peer, or of none, leaves the row but for states of entries
row_stays : (s : State) (c : Change) (q : ℕ) (o : Option ℕ) → peer_of c ≡ o → of_a_peer s o ≡ true → is_begun c ≡ false → ((p : ℕ) → o ≡ Some p → (p == q) ≡ false) → bare (row (after s c) q) ≡ bare (row s q)
row_stays s c q None e here none apart = ap (λ (rows : List (ℕ × Row)). bare (row_in rows q)) (rows_stay s c none e)
row_stays s c q (Some p) e here none apart =
    row_bare s c p q e here ∙ ap (λ (b : Bool). bare (cond b (changed s c (row s q)) (row s q))) (apart p refl)

-- a probe of the change's own peer goes on where all is there
goes_on : (still : Bool) (x : PeerState) (b : ℕ) → (probe_goes_on still x).began ≡ Some b → still ≡ true
goes_on true x b h = refl
goes_on false x b h = by_cases (is_some x.began)
    (λ k. let h' = rw k at h in absurd (cc (h')))
    (λ k. let h' = rw k at h in absurd (none_some x.began b k h'))
  where
    none_some : (o : Option ℕ) (b : ℕ) → is_some o ≡ false → o ≡ Some b → ⊥
    none_some None b k h = absurd (cc (h))
    none_some (Some a) b k h = false≢true (sym k)

asked_still : (r : Row) (k : ℕ) (os : List Object) → r.asked ≡ Some (k, os) → still_asked r ≡ true → AreThere r os
asked_still r k os is h = sym (ap (λ (o : Option (ℕ × List Object)). elim o [ None ↦ false | Some a ↦ list_all (still_there r) a.1 ]) is) ∙ h

mine_there : (s : State) (c : Change) (v : Volatile) (q : ℕ) (r : Run) → peer_of c ≡ Some q → (row (after s c) q).asked ≡ Some (r.asked, r.objects) → (of_peer (by_change s c v) q).began ≡ Some r.began → AreThere (row (after s c) q) r.objects
mine_there s c v q r e asked began =
    let still = still_asked (row (after s c) q) in
    let w = marked_by s c v in
    let at : (of_peer (probed_by (after s c) (Some q) w) q).began ≡ Some r.began = sym (ap (λ (o : Option ℕ). (of_peer (probed_by (after s c) o w) q).began) e) ∙ began in
    let here : (probe_goes_on still (of_peer w q)).began ≡ Some r.began = sym (ap (λ (x : PeerState). x.began) (changed_here w.peers (probe_goes_on still) q)) ∙ at in
    asked_still (row (after s c) q) r.asked r.objects asked (goes_on still (of_peer w q) r.began here)

grown_there : (n : Situation) (note : Note) (c : Change) → 1 ≤ length n.history → allowed (state n.history) c ≡ true → IsThere n → IsThere (record { history = n.history ++ c ∷ []; volatile = by_change (state n.history) c (noted note n.volatile) })
grown_there n note c some may there q r is =
    let s = state n.history in
    let v = noted note n.volatile in
    let begun : is_begun c ≡ false = by_cases (is_begun c) (λ k. absurd (omega (arith, some, ap length (begun_first n.history c may k)))) (λ k. k) in
    let now = run_parts (of_peer (by_change s c v) q).began (row (state (n.history ++ c ∷ [])) q).asked r is in
    let asked : (row (after s c) q).asked ≡ Some (r.asked, r.objects) = sym (ap (λ (x : State). (row x q).asked) (state_snoc n.history c)) ∙ now.0 in
    subst (λ (x : State). AreThere (row x q) r.objects) (sym (state_snoc n.history c))
    (⊎_elim
    (λ (a : (c ≡ Asked (record { peer = q; objects = r.objects })) × (s.changes ≡ r.asked)). mine_there s c v q r (ap peer_of a.0) asked now.1)
    (λ (b : (probes q c ≡ false) × (run_at n q ≡ Some r)). by_peer (peer_of c) refl asked now.1 begun (there q r b.1))
    (runs_behind n note c q r may is))
  where
    by_peer : (o : Option ℕ) → peer_of c ≡ o → (row (after (state n.history) c) q).asked ≡ Some (r.asked, r.objects) → (of_peer (by_change (state n.history) c (noted note n.volatile)) q).began ≡ Some r.began → is_begun c ≡ false → AreThere (row (state n.history) q) r.objects → AreThere (row (after (state n.history) c) q) r.objects
    by_peer None e asked began begun before =
        there_same (row (state n.history) q) (row (after (state n.history) c) q) r.objects (row_stays (state n.history) c q None e refl begun (λ p k. absurd (cc (k)))) before
    by_peer (Some p) e asked began begun before =
        by_cases (p == q)
        (λ k. mine_there (state n.history) c (noted note n.volatile) q r (e ∙ ap (λ (m : ℕ). Some m) (eqb-true p q k)) asked began)
        (λ k. let here : of_a_peer (state n.history) (Some p) ≡ true = subst (λ (o : Option ℕ). of_a_peer (state n.history) o ≡ true) e (allows (state n.history) c may).peer in
        there_same (row (state n.history) q) (row (after (state n.history) c) q) r.objects (row_stays (state n.history) c q (Some p) e here begun (λ m j. let same : p ≡ m = cc (j) in ap (λ (i : ℕ). i == q) (sym same) ∙ k)) before)

same_there : (n : Situation) (note : Note) → IsThere n → IsThere (record { history = n.history ++ []; volatile = noted note n.volatile })
same_there n note there q r is = subst (λ (h : List Change). AreThere (row (state h) q) r.objects) (sym (append-nil n.history)) (there q r (runs_still n note q r is))

-- ---- each step

pub record IsSound (n : Situation) : Type 0 where
  pub some : 1 ≤ length n.history
  pub lawful : is_lawful n.history ≡ true
  pub bytes : HasAllBytes n.history
  pub there : IsThere n

-- no probe runs in a node that was just opened
none_runs : (h : List Change) (p : ℕ) (r : Run) → run_at (fresh h) p ≡ Some r → ⊥
none_runs h p r is = absurd (cc ((run_parts None (row (state h) p).asked r is).1))

pub sound_fresh : (h : List Change) → IsValid h → IsSound (fresh h)
sound_fresh h v = record { some = v.some; lawful = v.lawful; bytes = valid_bytes h v; there = λ p r is. absurd (none_runs h p r is) }

same_sound : (n : Situation) (note : Note) → IsSound n → IsSound (record { history = n.history ++ []; volatile = noted note n.volatile })
same_sound n note s =
    let same : n.history ≡ n.history ++ [] = sym (append-nil n.history) in
    record {
      some = subst (λ (h : List Change). 1 ≤ length h) same s.some;
      lawful = subst (λ (h : List Change). is_lawful h ≡ true) same s.lawful;
      bytes = subst HasAllBytes same s.bytes;
      there = same_there n note s.there;
    }

grown_sound : (n : Situation) (note : Note) (c : Change) → IsSound n → is_lawful (n.history ++ c ∷ []) ≡ true → HasBody c → IsSound (record { history = n.history ++ c ∷ []; volatile = by_change (state n.history) c (noted note n.volatile) })
grown_sound n note c s lawful body =
    let may = last_allowed n.history c lawful in
    record {
      some = omega (arith, s.some, length-append n.history (c ∷ []));
      lawful = lawful;
      bytes = grown_bytes n.history c s.some may body s.bytes;
      there = grown_there n note c s.some may s.there;
    }

pub sound_next : (n : Situation) (x : Input) → IsSound n → is_lawful (next n x).history ≡ true → IsSound (next n x)
sound_next n x s = by_grown (react n x).grown (react_carries n x)
  where
    by_grown : (g : Option Change) → Carries g → is_lawful (n.history ++ option_to_list g) ≡ true → IsSound (record { history = n.history ++ option_to_list g; volatile = by_changes (state n.history) g (noted (react n x).note n.volatile) })
    by_grown None body lawful = same_sound n (react n x).note s
    by_grown (Some c) body lawful = grown_sound n (react n x).note c s lawful body

-- a history on the way to a lawful one is lawful
pub lawful_before : (n : Situation) (ss : List Step) → is_lawful (after_all n ss).history ≡ true → is_lawful n.history ≡ true
lawful_before n ss lawful =
    let more = grown_all n ss in
    (and_parts (is_lawful n.history) (lawful_from (state n.history) more.0) (sym (lawful_app nothing_yet n.history more.0) ∙ ap is_lawful (sym more.1) ∙ lawful)).0

pub sound_all : (n : Situation) (ss : List Step) → IsSound n → is_lawful (after_all n ss).history ≡ true → IsSound (after_all n ss)
sound_all n [] s lawful = s
sound_all n (Absorb x ∷ ss) s lawful = sound_all (next n x) ss (sound_next n x s (lawful_before (next n x) ss lawful)) lawful
sound_all n (Tell t ∷ ss) s lawful = sound_all n ss s lawful

-- over a course since a node was opened
pub sound_course : (h : List Change) (ss : List Step) → IsValid h → is_lawful (after_all (fresh h) ss).history ≡ true → IsSound (after_all (fresh h) ss)
sound_course h ss v lawful = sound_all (fresh h) ss (sound_fresh h v) lawful
