-- A Proof of the probe that runs is noted as its outcome.
use Rattle.std.proofs.Common.{◌≡◌, ◌≤◌, ℕ, ⊎_elim, Bool, true, false, ◌==◌, cond, if◌then◌else◌, option_to_list, List, [], ◌∷◌, ◌++◌, Option, Some, None, refl, sym, ap, ◌∙◌, subst}
use Rattle.std.proofs.lemmas.Bool.{eq-eqb}
use Rattle.psb_bytes.specs.declared.ids.Object.{Object}
use Rattle.psb_bytes.specs.Objects.{name_eq}
use Rattle.psb_model.specs.State.{Row, State, row, row_in, has_row, is_peer}
use Rattle.psb_model.specs.Conditions.{peer_of, is_begun}
use Rattle.psb_model.specs.Effects.{after}
use Rattle.psb_model.specs.History.{state, is_lawful}
use Rattle.psb_model.specs.declared.change.Change.{Change}
use Rattle.psb_model.specs.declared.change.Change.TheVariants.{Asked}
use Rattle.psb_model.proofs.Bare.{bare, changed, row_bare}
use Rattle.psb_model.proofs.ByObject.{by_cases}
use Rattle.psb_model.proofs.Own.{name_refl}
use Rattle.psb_model.proofs.Prefixes.{state_snoc}
use Rattle.psb_model.proofs.Steady.{begun_before}
use Rattle.model_laws.specs.Following.{probes}
use Rattle.model_laws.proofs.Following.{noted as probe_noted}
use Rattle.model_laws.proofs.Growth.{Steps, by_growth}
use Rattle.wire_codec.specs.Frames.{Incoming}
use Rattle.wire_codec.specs.declared.frame.Frame.TheVariants as frame
use Rattle.psb_machine.specs.Messages.{Sender, Proves}
use Rattle.psb_machine.specs.Volatile.{of_peer}
use Rattle.psb_machine.specs.Probing.{chain_over}
use Rattle.psb_machine.specs.OwnProbes.{Run, run_by, nonce_of, is_of, own_bytes, passed_by, wrong_by}
use Rattle.psb_machine.specs.Machine.{Situation, Input, Reaction, quiet, by_value, by_proof, fresh, run_at, react, next}
use Rattle.psb_machine.specs.Course.{after_all}
use Rattle.psb_machine.proofs.Causes.{react-message}
use Rattle.psb_machine.proofs.Runs.{run_open, not_zero}
use Rattle.probe_laws.specs.Just.{IsProof}
use Rattle.probe_laws.specs.Answers.{IsNoted, AnswersAreNoted}
use Rattle.probe_laws.proofs.Carried.{some_is}
use Rattle.probe_laws.proofs.Sound.{IsSound, sound_course}
use Rattle.probe_laws.proofs.Compared.{runs_chain}

-- ---- the change

-- the outcome of the probe, by whether the values are one
abbrev outcome : Bool → ℕ → List ℕ → Run → Change
outcome same p value r = if same then passed_by p r else wrong_by p value r

-- a probe is of its own number and nonce
its_own : (seed : List ℕ) (r : Run) → is_of seed r.asked (nonce_of seed r.asked) r ≡ true
its_own seed r = rw (eq-eqb r.asked r.asked refl, name_refl (nonce_of seed r.asked)) refl

proof_makes : (n : Situation) (x : Input) (p : ℕ) (r : Run) (value own : List ℕ) (proof : IsProof n.history x p r.asked value) → run_at n p ≡ Some r → chain_over (own_bytes proof.settings.seed n.history) (nonce_of proof.settings.seed r.asked) r.objects ≡ Some own
    → (react n x).grown ≡ Some (outcome (name_eq own value) p value r)
proof_makes n x p r value own proof is chain =
    let settings = proof.settings in
    let nonce = nonce_of settings.seed r.asked in
    let from : Sender = record { peer = p; number = r.asked } in
    let read = proof.read in
    let incoming : Incoming = record { from = p; number = r.asked; frame = frame.Proof nonce value } in
    ap (λ (y : Input). (react n y).grown) read.came
    ∙ ap (λ (y : Reaction). y.grown) (react-message n read.bytes settings incoming (Proves nonce value) read.present read.reads refl)
    ∙ ap (λ (o : Option Run). (by_proof settings n.history from nonce value o).grown) is
    ∙ ap (λ (b : Bool). (if b then by_value p value r (chain_over (own_bytes settings.seed n.history) nonce r.objects) else quiet).grown) (its_own settings.seed r)
    ∙ ap (λ (o : Option (List ℕ)). (by_value p value r o).grown) chain

-- ---- its probe ends

-- the number of a probe is that of a change behind the first
abbrev IsBehind : List Change → Type 0
IsBehind h = (p k : ℕ) (objects : List Object) → (row (state h) p).asked ≡ Some (k, objects) → 1 ≤ k

behind_step : Steps IsBehind
behind_step h c lawful grammar may all p k objects is =
    ⊎_elim
    (λ (a : (c ≡ Asked (record { peer = p; objects = objects })) × ((state h).changes ≡ k)). subst (λ (m : ℕ). 1 ≤ m) a.1 (begun_before (state h) c (ap is_begun a.0) may))
    (λ (b : (probes p c ≡ false) × ((row (state h) p).asked ≡ Some (k, objects))). all p k objects b.1)
    ((probe_noted (state h) c p may).asked k objects (sym (ap (λ (s : State). (row s p).asked) (state_snoc h c)) ∙ is))

asked_behind : (h : List Change) (p k : ℕ) (objects : List Object) → is_lawful h ≡ true → (row (state h) p).asked ≡ Some (k, objects) → 1 ≤ k
asked_behind h p k objects lawful is = by_growth IsBehind (λ q m os e. absurd (cc (e))) behind_step h lawful p k objects is

-- who was asked has a row
asked_row : (rows : List (ℕ × Row)) (p : ℕ) (a : ℕ × List Object) → (row_in rows p).asked ≡ Some a → has_row rows p ≡ true
asked_row [] p a is = absurd (cc (is))
asked_row (x ∷ xs) p a is = by_cases (x.0 == p)
    (λ k. rw k refl)
    (λ k. let is' = rw k at is in rw k (asked_row xs p a is'))

-- the outcome of its own probe closes it
outcome_closes : (s : State) (p : ℕ) (value : List ℕ) (r : Run) (same : Bool) (row' : Row) → (r.asked == 0) ≡ false → (changed s (outcome same p value r) row').asked ≡ None
outcome_closes s p value r true row' own = rw own refl
outcome_closes s p value r false row' own = rw own refl

outcome_peer : (p : ℕ) (value : List ℕ) (r : Run) (same : Bool) → peer_of (outcome same p value r) ≡ Some p
outcome_peer p value r true = refl
outcome_peer p value r false = refl

none_asked : (s : State) (p : ℕ) (value : List ℕ) (r : Run) (same : Bool) → is_peer s p ≡ true → (r.asked == 0) ≡ false → (row (after s (outcome same p value r)) p).asked ≡ None
none_asked s p value r same peer own =
    let c = outcome same p value r in
    ap (λ (x : Row). x.asked) (row_bare s c p p (outcome_peer p value r same) peer)
    ∙ ap (λ (b : Bool). (bare (cond b (changed s c (row s p)) (row s p))).asked) (eq-eqb p p refl)
    ∙ outcome_closes s p value r same (row s p) own

-- where none is asked none runs
none_runs : (b : Option ℕ) (a : Option (ℕ × List Object)) → a ≡ None → run_by b a ≡ None
none_runs None a h = refl
none_runs (Some n) None h = refl
none_runs (Some n) (Some a) h = absurd (cc (h))

next_history : (n : Situation) (x : Input) (c : Change) → (react n x).grown ≡ Some c → (next n x).history ≡ n.history ++ c ∷ []
next_history n x c is = ap (λ (o : Option Change). n.history ++ option_to_list o) is

-- ---- both

pub answer_noted : (n : Situation) (x : Input) (p : ℕ) (r : Run) (value : List ℕ) → IsSound n → run_at n p ≡ Some r → (proof : IsProof n.history x p r.asked value) → IsNoted n x p r value proof.settings.seed
answer_noted n x p r value s is proof =
    let seed = proof.settings.seed in
    let own = some_is (chain_over (own_bytes seed n.history) (nonce_of seed r.asked) r.objects) (runs_chain n p r seed (nonce_of seed r.asked) s is) in
    let same = name_eq own.0 value in
    let c = outcome same p value r in
    let made = proof_makes n x p r value own.0 proof is own.1 in
    let asked = run_open n p r is in
    let some = not_zero r.asked (asked_behind n.history p r.asked r.objects s.lawful asked) in
    let closed = none_asked (state n.history) p value r same (asked_row (state n.history).rows p (r.asked, r.objects) asked) some in
    let none : (row (state (next n x).history) p).asked ≡ None = ap (λ (h : List Change). (row (state h) p).asked) (next_history n x c made) ∙ ap (λ (t : State). (row t p).asked) (state_snoc n.history c) ∙ closed in
    record {
      own = own.0;
      chain = own.1;
      outcome = made;
      ended = none_runs (of_peer (next n x).volatile p).began (row (state (next n x).history) p).asked none;
    }

pub answers_are_noted : AnswersAreNoted
answers_are_noted h ss x p r value v lawful is proof = answer_noted (after_all (fresh h) ss) x p r value (sound_course h ss v lawful) is proof
