-- What is read to answer a probe.
use Rattle.std.proofs.Common.{◌≡◌, ℕ, zero, suc, ◌+◌, Bool, true, false, ◌||◌, ◌&&◌, ◌==◌, cond, find, if◌then◌else◌, List, [], ◌∷◌, ◌++◌, drop, slice_get, option_map, Option, Some, None, refl, sym, ap, ◌∙◌, arith}
use Rattle.std.specs.List.{list_any}
use Rattle.std.proofs.lemmas.Bool.{false≢true}
use Rattle.std.proofs.lemmas.List.{append_assoc}
use Rattle.psb_bytes.specs.declared.ids.Object.{Object}
use Rattle.psb_bytes.specs.declared.ids.Object.TheVariants.{Chunk, Slot}
use Rattle.psb_model.specs.Words.{object_eq, has, has_so}
use Rattle.psb_model.specs.State.{State, Row, row, row_in, in_key, own_has, is_held}
use Rattle.psb_model.specs.Conditions.{is_direct}
use Rattle.psb_model.specs.History.{state}
use Rattle.psb_model.specs.Needed.{last_brought, IsValid}
use Rattle.psb_model.specs.declared.change.Change.{Change}
use Rattle.psb_model.specs.declared.entries.InEntry.{InEntry}
use Rattle.psb_model.specs.declared.entries.InState.{InState}
use Rattle.psb_model.specs.declared.entries.InState.TheVariants as at
use Rattle.psb_model.proofs.ByObject.{by_cases}
use Rattle.probe.specs.Chains.{link_on}
use Rattle.psb_machine.specs.Gets.{has_chunk}
use Rattle.psb_machine.specs.Probing.{entry_for, is_missing, missing_from, claim_bytes, bytes_at, object_bytes, chain_over, proof_by}
use Rattle.wire_codec.specs.declared.frame.Frame.TheVariants.{Proof}
use Rattle.node_history.specs.Less.{IsLess, IsTheSame}
use Rattle.node_history.proofs.Less.{less_same}
use Rattle.node_facts.specs.Probed.{IsRead}

suc-plus : (i : ℕ) → suc i ≡ i + 1
suc-plus i = omega arith

-- ---- what a peer has here is held

or_later : (a b : Bool) → b ≡ true → (a || b) ≡ true
or_later true b h = refl
or_later false b h = h

pub or_first : (a b : Bool) → a ≡ true → (a || b) ≡ true
or_first true b h = refl
or_first false b h = absurd (false≢true h)

some_row : (rows : List (ℕ × Row)) (p : ℕ) (o : Object) → has in_key (row_in rows p).ins o ≡ true → list_any (λ (x : ℕ × Row). has in_key x.1.ins o) rows ≡ true
some_row [] p o h = absurd (false≢true h)
some_row (x ∷ xs) p o h = at_first (x.0 == p) (λ is. some_row xs p o is) h
  where
    at_first : (b : Bool) → (has in_key (row_in xs p).ins o ≡ true → list_any (λ (y : ℕ × Row). has in_key y.1.ins o) xs ≡ true) → has in_key (cond b x.1 (row_in xs p)).ins o ≡ true
        → (has in_key x.1.ins o || list_any (λ (y : ℕ × Row). has in_key y.1.ins o) xs) ≡ true
    at_first true rest is = or_first (has in_key x.1.ins o) (list_any (λ (y : ℕ × Row). has in_key y.1.ins o) xs) is
    at_first false rest is = or_later (has in_key x.1.ins o) (list_any (λ (y : ℕ × Row). has in_key y.1.ins o) xs) (rest is)

pub chunk_held : (s : State) (p : ℕ) (name : List ℕ) → has_chunk s p name ≡ true → is_held s name ≡ true
chunk_held s p name h = or_later (own_has s.own name) (list_any (λ (x : ℕ × Row). has in_key x.1.ins (Chunk name)) s.rows) (some_row s.rows p (Chunk name) h)

-- ---- an entry that was found stands there

-- it is one of those at the object, and passes each test that it passes
found_so : (test : InEntry → Bool) (o : Object) (l : List InEntry) (e : InEntry) → find (λ x. object_eq (in_key x) o) l ≡ Some e → test e ≡ true → has_so in_key test l o ≡ true
found_so test o [] e is t = absurd (cc (is))
found_so test o (x ∷ xs) e is t = by_cases (object_eq (in_key x) o)
    (λ k. let here : Some x ≡ Some e = rw k at is in
    let same : x ≡ e = cc (here) in
    or_first (object_eq (in_key x) o && test x) (has_so in_key test xs o) (rw (k, ap test same ∙ t) refl))
    (λ k. let there : find (λ y. object_eq (in_key y) o) xs ≡ Some e = rw k at is in
    or_later (object_eq (in_key x) o && test x) (has_so in_key test xs o) (found_so test o xs e there t))

has_from : (o : Object) (l : List InEntry) → has_so in_key (λ (x : InEntry). true) l o ≡ true → has in_key l o ≡ true
has_from o [] h = absurd (false≢true h)
has_from o (x ∷ xs) h = by_cases (object_eq (in_key x) o)
    (λ k. or_first (object_eq (in_key x) o) (has in_key xs o) k)
    (λ k. or_later (object_eq (in_key x) o) (has in_key xs o) (has_from o xs (rw k at h)))

pub entry_held : (s : State) (p : ℕ) (name : List ℕ) (e : InEntry) → entry_for s p (Chunk name) ≡ Some e → is_held s name ≡ true
entry_held s p name e is = chunk_held s p name (has_from (Chunk name) (row s p).ins (found_so (λ x. true) (Chunk name) (row s p).ins e is refl))

pub entry_direct : (s : State) (p n : ℕ) (e : InEntry) → entry_for s p (Slot n) ≡ Some e → e.state ≡ at.Direct → has_so in_key is_direct (row s p).ins (Slot n) ≡ true
entry_direct s p n e is st = found_so is_direct (Slot n) (row s p).ins e is (rw st refl)

-- ---- from one object to the next

-- the places of what is missing from it on
pub missing_on : (k : ℕ) (s : State) (p : ℕ) (objects : List Object) (i : ℕ) (o : Object) → slice_get objects i ≡ Some o
    → missing_from k s p (drop i objects) ≡ (if is_missing s p o then k ∷ missing_from (k + 1) s p (drop (suc i) objects) else missing_from (k + 1) s p (drop (suc i) objects))
missing_on k s p [] i o is = absurd (cc (is))
missing_on k s p (x ∷ xs) zero o is =
    let same : x ≡ o = cc (is) in
    ap (λ (y : Object). if is_missing s p y then k ∷ missing_from (k + 1) s p xs else missing_from (k + 1) s p xs) same
missing_on k s p (x ∷ xs) (suc i) o is = missing_on k s p xs i o is

-- the chain over those from it on
pub chain_on : (bytes : Object → Option (List ℕ)) (value : List ℕ) (objects : List Object) (i : ℕ) (o : Object) → slice_get objects i ≡ Some o
    → chain_over bytes value (drop i objects) ≡ elim (bytes o) [ None ↦ None | Some b ↦ chain_over bytes (link_on value b) (drop (suc i) objects) ]
chain_on bytes value [] i o is = absurd (cc (is))
chain_on bytes value (x ∷ xs) zero o is =
    let same : x ≡ o = cc (is) in
    ap (λ (y : Object). elim (bytes y) [ None ↦ None | Some b ↦ chain_over bytes (link_on value b) xs ]) same
chain_on bytes value (x ∷ xs) (suc i) o is = chain_on bytes value xs i o is

-- behind the last
pub missing_end : (k : ℕ) (s : State) (p : ℕ) (objects : List Object) (i : ℕ) → slice_get objects i ≡ None → missing_from k s p (drop i objects) ≡ []
missing_end k s p [] zero is = refl
missing_end k s p [] (suc i) is = refl
missing_end k s p (x ∷ xs) zero is = absurd (cc (is))
missing_end k s p (x ∷ xs) (suc i) is = missing_end k s p xs i is

pub chain_end : (bytes : Object → Option (List ℕ)) (value : List ℕ) (objects : List Object) (i : ℕ) → slice_get objects i ≡ None → chain_over bytes value (drop i objects) ≡ Some value
chain_end bytes value [] zero is = refl
chain_end bytes value [] (suc i) is = refl
chain_end bytes value (x ∷ xs) zero is = absurd (cc (is))
chain_end bytes value (x ∷ xs) (suc i) is = chain_end bytes value xs i is

-- ---- what was read

pub is_read : (there : Bool) (bytes : List ℕ) (o : Option (List ℕ)) → (there ≡ true → o ≡ Some bytes) → (there ≡ false → o ≡ None) → IsRead there bytes o
is_read true bytes o some none = some refl
is_read false bytes o some none = none refl

-- places, with one more or without
pub one_more : (k : ℕ) (s : State) (p : ℕ) (objects : List Object) (i : ℕ) (o : Object) (places more : List ℕ) → slice_get objects i ≡ Some o → missing_from k s p objects ≡ places ++ missing_from i s p (drop i objects)
    → is_missing s p o ≡ true → more ≡ places ++ i ∷ [] → missing_from k s p objects ≡ more ++ missing_from (i + 1) s p (drop (i + 1) objects)
one_more k s p objects i o places more at_i so gone is =
    let step : missing_from i s p (drop i objects) ≡ i ∷ missing_from (i + 1) s p (drop (suc i) objects) = missing_on i s p objects i o at_i ∙ ap (λ (b : Bool). if b then i ∷ missing_from (i + 1) s p (drop (suc i) objects) else missing_from (i + 1) s p (drop (suc i) objects)) gone in
    so
    ∙ ap (λ (l : List ℕ). places ++ l) step
    ∙ sym (append_assoc places (i ∷ []) (missing_from (i + 1) s p (drop (suc i) objects)))
    ∙ ap (λ (l : List ℕ). l ++ missing_from (i + 1) s p (drop (suc i) objects)) (sym is)
    ∙ ap (λ (j : ℕ). more ++ missing_from (i + 1) s p (drop j objects)) (suc-plus i)

pub none_more : (k : ℕ) (s : State) (p : ℕ) (objects : List Object) (i : ℕ) (o : Object) (places : List ℕ) → slice_get objects i ≡ Some o → missing_from k s p objects ≡ places ++ missing_from i s p (drop i objects)
    → is_missing s p o ≡ false → missing_from k s p objects ≡ places ++ missing_from (i + 1) s p (drop (i + 1) objects)
none_more k s p objects i o places at_i so there =
    let step : missing_from i s p (drop i objects) ≡ missing_from (i + 1) s p (drop (suc i) objects) = missing_on i s p objects i o at_i ∙ ap (λ (b : Bool). if b then i ∷ missing_from (i + 1) s p (drop (suc i) objects) else missing_from (i + 1) s p (drop (suc i) objects)) there in
    so ∙ ap (λ (l : List ℕ). places ++ l) step ∙ ap (λ (j : ℕ). places ++ missing_from (i + 1) s p (drop j objects)) (suc-plus i)

-- what stands for a chunk, or for a slot, by the entry that was found there
pub chunk_bytes : (seed : List ℕ) (h : List Change) (s : State) (p : ℕ) (name : List ℕ) (e : InEntry) → s ≡ state h → entry_for s p (Chunk name) ≡ Some e → object_bytes seed h p (Chunk name) ≡ last_brought name h
chunk_bytes seed h s p name e is found = ap (λ (o : Option InEntry). bytes_at seed h p (Chunk name) o) (ap (λ (t : State). entry_for t p (Chunk name)) (sym is) ∙ found)

pub slot_claim : (seed : List ℕ) (h : List Change) (s : State) (p n : ℕ) (e : InEntry) → s ≡ state h → entry_for s p (Slot n) ≡ Some e → object_bytes seed h p (Slot n) ≡ claim_bytes seed h p n e.state
slot_claim seed h s p n e is found = ap (λ (o : Option InEntry). bytes_at seed h p (Slot n) o) (ap (λ (t : State). entry_for t p (Slot n)) (sym is) ∙ found)

pub no_bytes : (seed : List ℕ) (h : List Change) (s : State) (p : ℕ) (o : Object) → s ≡ state h → entry_for s p o ≡ None → object_bytes seed h p o ≡ None
no_bytes seed h s p o is none = none_at o (ap (λ (t : State). entry_for t p o) (sym is) ∙ none)
  where
    none_at : (x : Object) → entry_for (state h) p x ≡ None → object_bytes seed h p x ≡ None
    none_at x k = ap (λ (y : Option InEntry). bytes_at seed h p x y) k

-- the chain ends at an object whose bytes are not there, and goes on behind one whose bytes were read
pub chain_none : (bytes : Object → Option (List ℕ)) (value : List ℕ) (objects : List Object) (i : ℕ) (o : Object) (there : Bool) (read : List ℕ) → slice_get objects i ≡ Some o → there ≡ false → IsRead there read (bytes o) → chain_over bytes value (drop i objects) ≡ None
chain_none bytes value objects i o there read at_i gone is =
    let none : bytes o ≡ None = is ∙ ap (λ (b : Bool). if b then Some read else None) gone in
    chain_on bytes value objects i o at_i ∙ ap (λ (r : Option (List ℕ)). elim r [ None ↦ None | Some b ↦ chain_over bytes (link_on value b) (drop (suc i) objects) ]) none

pub chain_next : (bytes : Object → Option (List ℕ)) (value next : List ℕ) (objects : List Object) (i : ℕ) (o : Object) (there : Bool) (read : List ℕ) → slice_get objects i ≡ Some o → there ≡ true → IsRead there read (bytes o) → next ≡ link_on value read
    → chain_over bytes value (drop i objects) ≡ chain_over bytes next (drop (i + 1) objects)
chain_next bytes value next objects i o there read at_i here is more =
    let some : bytes o ≡ Some read = is ∙ ap (λ (b : Bool). if b then Some read else None) here in
    chain_on bytes value objects i o at_i
    ∙ ap (λ (r : Option (List ℕ)). elim r [ None ↦ None | Some b ↦ chain_over bytes (link_on value b) (drop (suc i) objects) ]) some
    ∙ ap (λ (v : List ℕ). chain_over bytes v (drop (suc i) objects)) (sym more)
    ∙ ap (λ (j : ℕ). chain_over bytes next (drop j objects)) (suc-plus i)

-- ---- less bodies that were given up

-- the chain behind an object whose bytes are these, if there are any
abbrev pub chain_behind : (Object → Option (List ℕ)) → List ℕ → List Object → Option (List ℕ) → Option (List ℕ)
chain_behind f value os r = elim r [ None ↦ None | Some b ↦ chain_over f (link_on value b) os ]

pub chain_same : (f g : Object → Option (List ℕ)) (value : List ℕ) (objects : List Object) → ((o : Object) → f o ≡ g o) → chain_over f value objects ≡ chain_over g value objects
chain_same f g value [] same = refl
chain_same f g value (o ∷ os) same = ap (chain_behind f value os) (same o) ∙ by_bytes (λ b. chain_same f g (link_on value b) os same) (g o)
  where
    by_bytes : ((b : List ℕ) → chain_over f (link_on value b) os ≡ chain_over g (link_on value b) os) → (r : Option (List ℕ)) → chain_behind f value os r ≡ chain_behind g value os r
    by_bytes rest None = refl
    by_bytes rest (Some b) = rest b

-- each object has the same bytes
bytes_less : (seed : List ℕ) (h less : List Change) (p : ℕ) → IsLess h less → IsValid less → (o : Object) → object_bytes seed less p o ≡ object_bytes seed h p o
bytes_less seed h less p is v o = ap (λ (s : State). bytes_at seed less p o (entry_for s p o)) law.one_state ∙ by_entry o (entry_for (state h) p o) refl
  where
    law : IsTheSame h less
    law = less_same h less is

    by_state : (n : ℕ) (e : InEntry) (st : InState) → e.state ≡ st → entry_for (state h) p (Slot n) ≡ Some e → claim_bytes seed less p n st ≡ claim_bytes seed h p n st
    by_state n e at.Direct stands there = law.same_slots v p n (entry_direct (state h) p n e there stands)
    by_state n e at.Body stands there = refl
    by_state n e (at.Forwarded to) stands there = refl
    by_state n e (at.Home i) stands there = refl

    by_entry : (x : Object) (r : Option InEntry) → entry_for (state h) p x ≡ r → bytes_at seed less p x r ≡ bytes_at seed h p x r
    by_entry x None there = refl
    by_entry (Chunk name) (Some e) there = law.same_bytes v name (entry_held (state h) p name e there)
    by_entry (Slot n) (Some e) there = by_state n e e.state refl there

-- so the answer is that of the whole history
pub proof_less : (seed : List ℕ) (h less : List Change) (p : ℕ) (nonce : List ℕ) (objects : List Object) (places : List ℕ) → IsLess h less → IsValid less → proof_by seed less p nonce objects places ≡ proof_by seed h p nonce objects places
proof_less seed h less p nonce objects [] is v = ap (λ (o : Option (List ℕ)). option_map (Proof nonce) o) (chain_same (object_bytes seed less p) (object_bytes seed h p) nonce objects (bytes_less seed h less p is v))
proof_less seed h less p nonce objects (k ∷ ks) is v = refl
