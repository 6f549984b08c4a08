-- What comes of a proof, by the bytes that the node has itself.
use Rattle.std.proofs.Common.{◌≡◌, ◌≤◌, ◌==◌, ℕ, zero, suc, Bool, true, false, if◌then◌else◌, List, [], ◌∷◌, length, option_map, Option, Some, None, is_some, refl, sym, ap, ◌∙◌, arith}
use Rattle.std.proofs.lemmas.Bool.{and_parts, false≢true, true≢false}
use Rattle.psb_bytes.specs.Objects.{name_eq}
use Rattle.psb_bytes.specs.declared.ids.Object.{Object}
use Rattle.psb_bytes.specs.declared.ids.Object.TheVariants.{Chunk, Slot}
use Rattle.psb_settings.specs.declared.settings.Settings.{Settings}
use Rattle.psb_model.specs.History.{state}
use Rattle.psb_model.specs.Needed.{IsValid}
use Rattle.psb_model.specs.declared.change.Change.{Change}
use Rattle.psb_model.proofs.ByObject.{by_cases}
use Rattle.probe.specs.Chains.{link_on}
use Rattle.chunk_store.specs.declared.store.Store.{Store}
use Rattle.psb_machine.specs.Messages.{Sender}
use Rattle.psb_machine.specs.Probing.{chain_over}
use Rattle.psb_machine.specs.OwnProbes.{Run, is_of, own_bytes, listed_from}
use Rattle.psb_machine.specs.Machine.{Reaction, quiet, grows, by_value, by_proof}
use Rattle.psb_machine.proofs.Listing.{few_from}
use Rattle.node_history.specs.Less.{IsLess}
use Rattle.node_history.specs.Names.{KnowsNames}
use Rattle.node_history.proofs.HeldBodies.{held_brought}
use Rattle.node_facts.specs.OwnChain.{is_own, are_own}
use Rattle.node_facts.proofs.OwnChain.{own_held, own_chunk, chain_lacks, own_less}
use Rattle.own_probes.specs.declared.run.Run.{Run as RunHere}
use Rattle.own_probes.specs.Probes.{run_in, sender, AreFew, IsToNone, is_answered, outcome_by}

-- ---- where the chain has a value

chunk_there : (seed : List ℕ) (names : Store) (h : List Change) (o : Object) → KnowsNames names h → IsValid h → is_own (state h) o ≡ true → is_some (own_bytes seed h o) ≡ true
chunk_there seed names h (Chunk name) knows v own = ap is_some (own_chunk seed h name own) ∙ held_brought names h name knows v (own_held (state h) name own)
chunk_there seed names h (Slot n) knows v own = refl

-- the chain over objects that are the node's own has one
chain_there : (seed : List ℕ) (names : Store) (h : List Change) (value : List ℕ) (os : List Object) → KnowsNames names h → IsValid h → are_own (state h) os ≡ true → is_some (chain_over (own_bytes seed h) value os) ≡ true
chain_there seed names h value [] knows v own = refl
chain_there seed names h value (o ∷ os) knows v own =
    let two = and_parts (is_own (state h) o) (are_own (state h) os) own in
    by_bytes (own_bytes seed h o) (chunk_there seed names h o knows v two.0) (λ b. chain_there seed names h (link_on value b) os knows v two.1)
  where
    by_bytes : (r : Option (List ℕ)) → is_some r ≡ true → ((b : List ℕ) → is_some (chain_over (own_bytes seed h) (link_on value b) os) ≡ true) → is_some (elim r [ None ↦ None | Some b ↦ chain_over (own_bytes seed h) (link_on value b) os ]) ≡ true
    by_bytes None some rest = absurd (false≢true some)
    by_bytes (Some b) some rest = rest b

value_there : (seed : List ℕ) (names : Store) (h : List Change) (value : List ℕ) (os : List Object) → KnowsNames names h → IsValid h → is_some (chain_over (own_bytes seed h) value os) ≡ are_own (state h) os
value_there seed names h value os knows v =
    by_cases (are_own (state h) os)
    (λ own. chain_there seed names h value os knows v own ∙ sym own)
    (λ other. ap is_some (chain_lacks seed h value os other) ∙ sym other)

-- ---- whether there is an outcome

value_grows : (p : ℕ) (value : List ℕ) (r : Run) (o : Option (List ℕ)) → is_some (by_value p value r o).grown ≡ is_some o
value_grows p value r None = refl
value_grows p value r (Some own) = refl

pub answered_grown : (names : Store) (settings : Settings) (h : List Change) (from : Sender) (nonce value : List ℕ) (run : Option Run) → KnowsNames names h → IsValid h
    → is_some (by_proof settings h from nonce value run).grown ≡ is_answered settings.seed (state h) from.number nonce run
answered_grown names settings h from nonce value None knows v = refl
answered_grown names settings h from nonce value (Some r) knows v =
    by_cases (is_of settings.seed from.number nonce r)
    (λ k. rw k (value_grows from.peer value r (chain_over (own_bytes settings.seed h) nonce r.objects) ∙ value_there settings.seed names h nonce r.objects knows v))
    (λ k. rw k refl)

-- nothing comes of an answer to no probe that runs
pub none_answered : (settings : Settings) (h : List Change) (from : Sender) (nonce value : List ℕ) (run : Option Run) → IsToNone settings.seed from.number nonce run → by_proof settings h from nonce value run ≡ quiet
none_answered settings h from nonce value None none = refl
none_answered settings h from nonce value (Some r) none = ap (λ (b : Bool). if b then by_value from.peer value r (chain_over (own_bytes settings.seed h) nonce r.objects) else quiet) none

-- ---- less bodies that were given up

-- what the history that the log holds makes of it, the whole one does
pub proof_less : (settings : Settings) (h less : List Change) (from : Sender) (nonce value : List ℕ) (run : Option Run) → IsLess h less → IsValid less → by_proof settings less from nonce value run ≡ by_proof settings h from nonce value run
proof_less settings h less from nonce value None is v = refl
proof_less settings h less from nonce value (Some r) is v =
    ap (λ (o : Option (List ℕ)). if is_of settings.seed from.number nonce r then by_value from.peer value r o else quiet) (own_less settings.seed h less nonce r.objects is v)

-- what is compared with the node's own value makes the outcome of the machine
pub proof_by_own : (settings : Settings) (h : List Change) (p number : ℕ) (nonce value seed claims : List ℕ) (run : Option RunHere) (r : RunHere) (own : List ℕ) → run ≡ Some r → is_of seed number nonce (run_in r) ≡ true → settings.seed ≡ seed → settings.seed ≡ claims
    → Some own ≡ chain_over (own_bytes claims h) nonce r.objects → (c : Change) → c ≡ outcome_by p value (run_in r) (name_eq own value) → Some c ≡ (by_proof settings h (sender p number) nonce value (option_map run_in run)).grown
proof_by_own settings h p number nonce value seed claims run r own is of same made chain c by =
    let mine : is_of settings.seed number nonce (run_in r) ≡ true = ap (λ (s : List ℕ). is_of s number nonce (run_in r)) same ∙ of in
    let known : chain_over (own_bytes settings.seed h) nonce r.objects ≡ Some own = ap (λ (s : List ℕ). chain_over (own_bytes s h) nonce r.objects) made ∙ sym chain in
    let it : by_proof settings h (sender p number) nonce value (Some (run_in r)) ≡ grows (outcome_by p value (run_in r) (name_eq own value)) =
    ap (λ (b : Bool). if b then by_value p value (run_in r) (chain_over (own_bytes settings.seed h) nonce r.objects) else quiet) mine
    ∙ ap (by_value p value (run_in r)) known in
    ap (λ (d : Change). Some d) by
    ∙ sym (ap (λ (m : Reaction). m.grown) it)
    ∙ sym (ap (λ (o : Option RunHere). (by_proof settings h (sender p number) nonce value (option_map run_in o)).grown) is)

-- ---- what a probe that begins asks for

-- where it asks for something, that is as much as fits a frame
pub drawn_few : (k : ℕ) (all asked : List Object) → asked ≡ listed_from k all → (length asked == 0) ≡ false → AreFew asked
drawn_few k all asked is some = record {
  some = not_zero (length asked) some;
  few = omega (arith, ap length is, few_from k all);
}
  where
    not_zero : (n : ℕ) → (n == 0) ≡ false → 1 ≤ n
    not_zero zero h = absurd (true≢false h)
    not_zero (suc n) h = omega arith
