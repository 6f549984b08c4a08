-- What a node has itself of the objects that a probe of its own asks for.
use Rattle.std.proofs.Common.{◌≡◌, ℕ, zero, suc, Bool, true, false, if◌then◌else◌, List, [], ◌∷◌, slice_get, Option, Some, None, refl, sym, ap, ◌∙◌}
use Rattle.std.specs.List.{list_any, list_all}
use Rattle.std.proofs.lemmas.Bool.{true≢false, and_parts}
use Rattle.psb_bytes.specs.declared.ids.Object.{Object}
use Rattle.psb_bytes.specs.declared.ids.Object.TheVariants.{Chunk, Slot}
use Rattle.psb_model.specs.Words.{has}
use Rattle.psb_model.specs.State.{State, Row, own_has, is_held, in_key}
use Rattle.psb_model.specs.History.{state}
use Rattle.psb_model.specs.Needed.{last_brought, IsValid}
use Rattle.psb_model.specs.declared.change.Change.{Change}
use Rattle.psb_model.proofs.ByObject.{by_cases}
use Rattle.probe.specs.Chains.{link_on}
use Rattle.psb_machine.specs.Probing.{chain_over}
use Rattle.psb_machine.specs.OwnProbes.{own_bytes}
use Rattle.node_history.specs.Less.{IsLess, IsTheSame}
use Rattle.node_history.proofs.Less.{less_same}
use Rattle.node_facts.specs.OwnChain.{is_own, are_own}
use Rattle.node_facts.proofs.Probed.{or_first, chain_behind, chain_same}

-- ---- a chunk

pub own_held : (s : State) (name : List ℕ) → own_has s.own name ≡ true → is_held s name ≡ true
own_held s name h = or_first (own_has s.own name) (list_any (λ (x : ℕ × Row). has in_key x.1.ins (Chunk name)) s.rows) h

pub own_chunk : (seed : List ℕ) (h : List Change) (name : List ℕ) → own_has (state h).own name ≡ true → own_bytes seed h (Chunk name) ≡ last_brought name h
own_chunk seed h name is = ap (λ (b : Bool). if b then last_brought name h else None) is

no_chunk : (seed : List ℕ) (h : List Change) (name : List ℕ) → own_has (state h).own name ≡ false → own_bytes seed h (Chunk name) ≡ None
no_chunk seed h name is = ap (λ (b : Bool). if b then last_brought name h else None) is

-- ---- all of the objects

-- each of them passes a test that all pass
pub one_of_all : {A : Type 0} (t : A → Bool) (xs : List A) (i : ℕ) (x : A) → list_all t xs ≡ true → slice_get xs i ≡ Some x → t x ≡ true
one_of_all t [] i x h is = absurd (cc (is))
one_of_all t (y ∷ ys) zero x h is =
    let same : y ≡ x = cc (is) in
    ap t (sym same) ∙ (and_parts (t y) (list_all t ys) h).0
one_of_all t (y ∷ ys) (suc i) x h is = one_of_all t ys i x (and_parts (t y) (list_all t ys) h).1 is

-- the chain over objects that are not all the node's own has no value
pub chain_lacks : (seed : List ℕ) (h : List Change) (value : List ℕ) (objects : List Object) → are_own (state h) objects ≡ false → chain_over (own_bytes seed h) value objects ≡ None
chain_lacks seed h value [] lacks = absurd (true≢false lacks)
chain_lacks seed h value (o ∷ os) lacks = by_cases (is_own (state h) o)
    (λ own. by_bytes (own_bytes seed h o) (λ b. chain_lacks seed h (link_on value b) os (rw own at lacks)))
    (λ other. ap (chain_behind (own_bytes seed h) value os) (by_object o other))
  where
    by_bytes : (r : Option (List ℕ)) → ((b : List ℕ) → chain_over (own_bytes seed h) (link_on value b) os ≡ None) → chain_behind (own_bytes seed h) value os r ≡ None
    by_bytes None rest = refl
    by_bytes (Some b) rest = rest b

    by_object : (x : Object) → is_own (state h) x ≡ false → own_bytes seed h x ≡ None
    by_object (Chunk name) other = no_chunk seed h name other
    by_object (Slot n) other = absurd (true≢false other)

-- ---- less bodies that were given up

-- each object has the same bytes
own_same : (seed : List ℕ) (h less : List Change) → IsLess h less → IsValid less → (o : Object) → own_bytes seed less o ≡ own_bytes seed h o
own_same seed h less is v (Slot n) = refl
own_same seed h less is v (Chunk name) = by_cases (own_has (state h).own name)
    (λ own. own_chunk seed less name (ap (λ (s : State). own_has s.own name) law.one_state ∙ own) ∙ law.same_bytes v name (own_held (state h) name own) ∙ sym (own_chunk seed h name own))
    (λ other. no_chunk seed less name (ap (λ (s : State). own_has s.own name) law.one_state ∙ other) ∙ sym (no_chunk seed h name other))
  where
    law : IsTheSame h less
    law = less_same h less is

-- so the value is that of the whole history
pub own_less : (seed : List ℕ) (h less : List Change) (nonce : List ℕ) (objects : List Object) → IsLess h less → IsValid less → chain_over (own_bytes seed less) nonce objects ≡ chain_over (own_bytes seed h) nonce objects
own_less seed h less nonce objects is v = chain_same (own_bytes seed less) (own_bytes seed h) nonce objects (own_same seed h less is v)
