-- What the machine makes of the node's own probes: which changes, and that no letter tells of an answer.
use Rattle.std.proofs.Common.{◌≡◌, ℕ, ◌+◌, true, ◌&&◌, List, [], ◌∷◌, Option, Some, None, refl, sym, ap}
use Rattle.std.specs.Prelude.{nat_le}
use Rattle.std.proofs.lemmas.Bool.{and_parts}
use Rattle.psb_bytes.specs.declared.ids.Object.{Object}
use Rattle.psb_settings.specs.declared.settings.Settings.{Settings}
use Rattle.psb_model.specs.State.{State, row}
use Rattle.psb_model.specs.declared.change.Change.{Change}
use Rattle.psb_model.specs.declared.change.Change.TheVariants.{Asked}
use Rattle.psb_model.proofs.ByObject.{by_cases}
use Rattle.probe.specs.Deadlines.{is_late}
use Rattle.psb_machine.specs.Messages.{Sender}
use Rattle.psb_machine.specs.Probing.{chain_over}
use Rattle.psb_machine.specs.Volatile.{PeerState, later, Nothing}
use Rattle.psb_machine.specs.OwnProbes.{Run, is_of, own_bytes, are_places_of, silent_by, declined_by, objects_to_ask, objects_drawn, ticks_between}
use Rattle.psb_machine.specs.Machine.{Reaction, passes, ends_with, by_value, by_proof, by_declined, by_late, by_run, begins_with}

-- ---- no letter tells of what a peer answers, and nothing is noted beside the change

pub record TellsNobody (m : Reaction) : Type 0 where
  pub letters : m.letters ≡ []
  pub note : m.note ≡ Nothing
  pub dropped : m.dropped ≡ None

value_tells : (p : ℕ) (value : List ℕ) (r : Run) (o : Option (List ℕ)) → TellsNobody (by_value p value r o)
value_tells p value r None = record { letters = refl; note = refl; dropped = refl }
value_tells p value r (Some own) = record { letters = refl; note = refl; dropped = refl }

pub proof_tells : (settings : Settings) (h : List Change) (from : Sender) (nonce value : List ℕ) (run : Option Run) → TellsNobody (by_proof settings h from nonce value run)
proof_tells settings h from nonce value None = record { letters = refl; note = refl; dropped = refl }
proof_tells settings h from nonce value (Some r) =
    by_cases (is_of settings.seed from.number nonce r)
    (λ k. rw k (value_tells from.peer value r (chain_over (own_bytes settings.seed h) nonce r.objects)))
    (λ k. rw k (record { letters = refl; note = refl; dropped = refl }))

pub declined_tells : (settings : Settings) (from : Sender) (nonce places : List ℕ) (run : Option Run) → TellsNobody (by_declined settings from nonce places run)
declined_tells settings from nonce places None = record { letters = refl; note = refl; dropped = refl }
declined_tells settings from nonce places (Some r) =
    by_cases (is_of settings.seed from.number nonce r && are_places_of r places)
    (λ k. rw k (record { letters = refl; note = refl; dropped = refl }))
    (λ k. rw k (record { letters = refl; note = refl; dropped = refl }))

-- ---- which change is made

pub late_by : {P : Type 0} (p clock : ℕ) (run : Option Run) (c : Change) → (by_late p clock run).grown ≡ Some c → ((r : Run) → run ≡ Some r → c ≡ silent_by p r → P) → P
late_by p clock None c is f = absurd (cc (is))
late_by p clock (Some r) c is f =
    by_cases (is_late r.began clock)
    (λ k. let is' : Some (silent_by p r) ≡ Some c = rw k at is in let same : silent_by p r ≡ c = cc (is') in f r refl (sym same))
    (λ k. let is' : None ≡ Some c = rw k at is in absurd (cc (is')))

-- a probe that is late ends the tick, and one that is not lets it go on
pub late_ends : (p clock : ℕ) (run : Option Run) (c : Change) → (by_late p clock run).grown ≡ Some c → by_late p clock run ≡ ends_with c []
late_ends p clock None c is = absurd (cc (is))
late_ends p clock (Some r) c is =
    by_cases (is_late r.began clock)
    (λ k. let is' : Some (silent_by p r) ≡ Some c = rw k at is in let same : silent_by p r ≡ c = cc (is') in rw k (ap (λ (d : Change). ends_with d []) same))
    (λ k. let is' : None ≡ Some c = rw k at is in absurd (cc (is')))

pub late_passes : (p clock : ℕ) (run : Option Run) → (by_late p clock run).grown ≡ None → by_late p clock run ≡ passes
late_passes p clock None is = refl
late_passes p clock (Some r) is =
    by_cases (is_late r.began clock)
    (λ k. let is' : Some (silent_by p r) ≡ None = rw k at is in absurd (cc (is')))
    (λ k. rw k refl)

pub declines_by : {P : Type 0} (settings : Settings) (from : Sender) (nonce places : List ℕ) (run : Option Run) (c : Change) → (by_declined settings from nonce places run).grown ≡ Some c
    → ((r : Run) → run ≡ Some r → are_places_of r places ≡ true → c ≡ declined_by from.peer places r → P) → P
declines_by settings from nonce places None c is f = absurd (cc (is))
declines_by settings from nonce places (Some r) c is f =
    by_cases (is_of settings.seed from.number nonce r && are_places_of r places)
    (λ k. let is' : Some (declined_by from.peer places r) ≡ Some c = rw k at is in
    let same : declined_by from.peer places r ≡ c = cc (is') in
    f r refl (and_parts (is_of settings.seed from.number nonce r) (are_places_of r places) k).1 (sym same))
    (λ k. let is' : None ≡ Some c = rw k at is in absurd (cc (is')))

-- a probe that begins asks for what was drawn
abbrev pub Draws : List ℕ → State → ℕ → Change → Object → List Object → Type 0
Draws seed s p c o os = (objects_to_ask (row s p) ≡ o ∷ os) × (c ≡ Asked (record { peer = p; objects = objects_drawn seed s (o ∷ os) }))

begins_by : {P : Type 0} (seed : List ℕ) (s : State) (p clock : ℕ) (all : List Object) (c : Change) → (begins_with seed s p clock all).grown ≡ Some c → objects_to_ask (row s p) ≡ all → ((o : Object) (os : List Object) → Draws seed s p c o os → P) → P
begins_by seed s p clock [] c is all f = absurd (cc (is))
begins_by seed s p clock (o ∷ os) c is all f = let same : Asked (record { peer = p; objects = objects_drawn seed s (o ∷ os) }) ≡ c = cc (is) in f o os (all, sym same)

pub run_by : {P : Type 0} (seed : List ℕ) (s : State) (p : ℕ) (x : PeerState) (run : Option Run) (c : Change) → (by_run seed s p x run).grown ≡ Some c → ((o : Object) (os : List Object) → Draws seed s p c o os → P) → P
run_by seed s p x None c is f =
    by_cases (nat_le (x.ended + ticks_between) (later x.clock))
    (λ k. let is' : (begins_with seed s p (later x.clock) (objects_to_ask (row s p))).grown ≡ Some c = rw k at is in begins_by seed s p (later x.clock) (objects_to_ask (row s p)) c is' refl f)
    (λ k. let is' : None ≡ Some c = rw k at is in absurd (cc (is')))
run_by seed s p x (Some r) c is f = absurd (cc (is))
