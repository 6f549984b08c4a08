-- The chain over what a probe lists which runs.
use Rattle.std.proofs.Common.{◌≡◌, ℕ, true, List, [], ◌∷◌, is_some, Option, Some, None, refl, ap, ◌∙◌}
use Rattle.std.specs.List.{list_all}
use Rattle.std.proofs.lemmas.Bool.{and_parts}
use Rattle.psb_bytes.specs.declared.ids.Object.{Object}
use Rattle.psb_bytes.specs.declared.ids.Object.TheVariants.{Chunk, Slot}
use Rattle.psb_digest.specs.Claims.{claim}
use Rattle.psb_model.specs.State.{row}
use Rattle.psb_model.specs.History.{state, is_lawful}
use Rattle.psb_model.specs.Needed.{last_brought}
use Rattle.psb_model.specs.declared.change.Change.{Change}
use Rattle.model_laws.proofs.HeldBytes.{held_own}
use Rattle.probe.specs.Chains.{link_on}
use Rattle.psb_machine.specs.Volatile.{still_there}
use Rattle.psb_machine.specs.OwnProbes.{Run, own_bytes}
use Rattle.psb_machine.specs.Probing.{chain_over}
use Rattle.psb_machine.specs.Machine.{Situation, fresh, run_at}
use Rattle.psb_machine.specs.Course.{after_all}
use Rattle.probe_laws.specs.Compared.{ProbesAreCompared}
use Rattle.probe_laws.proofs.Carried.{some_is, HasAllBytes}
use Rattle.probe_laws.proofs.There.{rows_name_own}
use Rattle.probe_laws.proofs.Sound.{IsSound, sound_course}

-- where the first has bytes the chain goes on
linked : (bytes : Object → Option (List ℕ)) (value : List ℕ) (o : Object) (os : List Object) (b : List ℕ) → bytes o ≡ Some b → chain_over bytes value (o ∷ os) ≡ chain_over bytes (link_on value b) os
linked bytes value o os b is = ap (λ (x : Option (List ℕ)). elim x [ None ↦ None | Some y ↦ chain_over bytes (link_on value y) os ]) is

-- a chunk that a peer has or lost has its bytes
chunk_bytes : (seed : List ℕ) (h : List Change) (p : ℕ) (name : List ℕ) → is_lawful h ≡ true → HasAllBytes h → still_there (row (state h) p) (Chunk name) ≡ true → (b : List ℕ) × (own_bytes seed h (Chunk name) ≡ Some b)
chunk_bytes seed h p name lawful all there =
    let own = rows_name_own h p name lawful there in
    let held = some_is (last_brought name h) (all name (held_own (state h) name own)) in
    (held.0, rw own held.1)

chain_there : (seed : List ℕ) (h : List Change) (p : ℕ) (value : List ℕ) (os : List Object) → is_lawful h ≡ true → HasAllBytes h → list_all (still_there (row (state h) p)) os ≡ true → is_some (chain_over (own_bytes seed h) value os) ≡ true
chain_there seed h p value [] lawful all there = refl
chain_there seed h p value (Chunk name ∷ os) lawful all there =
    let two = and_parts (still_there (row (state h) p) (Chunk name)) (list_all (still_there (row (state h) p)) os) there in
    let b = chunk_bytes seed h p name lawful all two.0 in
    ap is_some (linked (own_bytes seed h) value (Chunk name) os b.0 b.1) ∙ chain_there seed h p (link_on value b.0) os lawful all two.1
chain_there seed h p value (Slot n ∷ os) lawful all there =
    let two = and_parts (still_there (row (state h) p) (Slot n)) (list_all (still_there (row (state h) p)) os) there in
    ap is_some (linked (own_bytes seed h) value (Slot n) os (claim seed n) refl) ∙ chain_there seed h p (link_on value (claim seed n)) os lawful all two.1

-- of a probe that runs
pub runs_chain : (n : Situation) (p : ℕ) (r : Run) (seed nonce : List ℕ) → IsSound n → run_at n p ≡ Some r → is_some (chain_over (own_bytes seed n.history) nonce r.objects) ≡ true
runs_chain n p r seed nonce s is = chain_there seed n.history p nonce r.objects s.lawful s.bytes (s.there p r is)

pub probes_are_compared : ProbesAreCompared
probes_are_compared h ss p r seed nonce v lawful is = runs_chain (after_all (fresh h) ss) p r seed nonce (sound_course h ss v lawful) is
