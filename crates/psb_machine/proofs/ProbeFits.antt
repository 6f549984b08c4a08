-- What a peer gets that asks for a proof fits the grammar.
use Rattle.std.proofs.Common.{◌≡◌, ◌≤◌, ℕ, suc, ◌+◌, Bool, true, false, if◌then◌else◌, option_map, List, [], ◌∷◌, length, Option, Some, None, refl, sym, subst, ◌∙◌, arith}
use Rattle.std.specs.Prelude.{nat_lt}
use Rattle.std.specs.List.{list_all}
use Rattle.std.proofs.lemmas.Bool.{eq-eqb, lt-ltb, le-leb}
use Rattle.psb_bytes.specs.declared.ids.Object.{Object}
use Rattle.psb_digest.specs.Hashes.{sha}
use Rattle.psb_digest.proofs.Digests.{length-sha, AreBytes-sha}
use Rattle.byte_fields.proofs.FieldLaws.{are_bytes_is}
use Rattle.psb_settings.specs.declared.settings.Settings.{Settings}
use Rattle.psb_model.specs.State.{State}
use Rattle.psb_model.specs.History.{state}
use Rattle.psb_model.specs.declared.change.Change.{Change}
use Rattle.probe.specs.Chains.{link_on}
use Rattle.wire_codec.specs.Fields.{is_digest, are_places, ascends}
use Rattle.wire_codec.specs.Frames.{fits}
use Rattle.wire_codec.specs.declared.frame.Frame.{Frame}
use Rattle.wire_codec.specs.declared.frame.Frame.TheVariants.{Proof, Declined}
use Rattle.psb_machine.specs.Probing.{is_missing, missing_from, chain_over, object_bytes, proof_by, proof_of}

-- ---- the places of what is missing

-- places from k on of so many objects
record PlacesFit (k n : ℕ) (places : List ℕ) : Type 0 where
  few : length places ≤ n
  below : list_all (λ (place : ℕ). nat_lt place 32) places ≡ true
  ascend : ascends places ≡ true
  above : (x : ℕ) (xs : List ℕ) → places ≡ x ∷ xs → k ≤ x

ascend_behind : (k : ℕ) (places : List ℕ) → ascends places ≡ true → ((x : ℕ) (xs : List ℕ) → places ≡ x ∷ xs → k + 1 ≤ x) → ascends (k ∷ places) ≡ true
ascend_behind k [] a above = refl
ascend_behind k (x ∷ xs) a above = rw (lt-ltb k x (omega (arith, above x xs refl)), a) refl

one_place : (k n : ℕ) (b : Bool) (rest : List ℕ) → k + suc n ≤ 32 → PlacesFit (k + 1) n rest → PlacesFit k (suc n) (if b then k ∷ rest else rest)
one_place k n true rest bound r = record {
  few = omega (arith, r.few);
  below = rw (lt-ltb k 32 (omega (arith, bound)), r.below) refl;
  ascend = ascend_behind k rest r.ascend r.above;
  above = λ x xs is. let same : k ≡ x = cc (is) in omega (arith, same);
}
one_place k n false rest bound r = record {
  few = omega (arith, r.few);
  below = r.below;
  ascend = r.ascend;
  above = λ x xs is. omega (arith, r.above x xs is);
}

places_fit : (k : ℕ) (s : State) (p : ℕ) (objects : List Object) → k + length objects ≤ 32 → PlacesFit k (length objects) (missing_from k s p objects)
places_fit k s p [] bound = record { few = omega arith; below = refl; ascend = refl; above = λ x xs is. absurd (cc (is)) }
places_fit k s p (o ∷ os) bound = one_place k (length os) (is_missing s p o) (missing_from (k + 1) s p os) (omega (arith, bound)) (places_fit (k + 1) s p os (omega (arith, bound)))

places_of : (n : ℕ) (places : List ℕ) → PlacesFit 0 n places → n ≤ 32 → (places ≡ [] → ⊥) → are_places places ≡ true
places_of n [] fit few some = absurd (some refl)
places_of n (x ∷ xs) fit few some = rw (le-leb 1 (length (x ∷ xs)) (omega arith), le-leb (length (x ∷ xs)) 32 (omega (arith, fit.few, few)), fit.below, fit.ascend) refl

-- where some object is missing, a frame can say which
pub missing_fit : (s : State) (p : ℕ) (objects : List Object) → length objects ≤ 32 → (missing_from 0 s p objects ≡ [] → ⊥) → are_places (missing_from 0 s p objects) ≡ true
missing_fit s p objects few some = places_of (length objects) (missing_from 0 s p objects) (places_fit 0 s p objects (omega (arith, few))) few some

-- ---- the value of the chain

pub sha_digest : (bytes : List ℕ) → is_digest (sha bytes) ≡ true
sha_digest bytes = rw (eq-eqb (length (sha bytes)) 32 (length-sha bytes)) (are_bytes_is (sha bytes) (AreBytes-sha bytes))

chain_digest : (bytes : Object → Option (List ℕ)) (value : List ℕ) (objects : List Object) (end : List ℕ) → is_digest value ≡ true → chain_over bytes value objects ≡ Some end → is_digest end ≡ true
chain_digest bytes value [] end d is = let same : value ≡ end = cc (is) in subst (λ l. is_digest l ≡ true) same d
chain_digest bytes value (o ∷ os) end d is = by_bytes (λ b k. chain_digest bytes (link_on value b) os end (sha_digest _) k) (bytes o) is
  where
    by_bytes : ((b : List ℕ) → chain_over bytes (link_on value b) os ≡ Some end → is_digest end ≡ true) → (r : Option (List ℕ)) → elim r [ None ↦ None | Some b ↦ chain_over bytes (link_on value b) os ] ≡ Some end → is_digest end ≡ true
    by_bytes rest None k = absurd (cc (k))
    by_bytes rest (Some b) k = rest b k

-- ---- the answer

pub proof_fits : (settings : Settings) (h : List Change) (p : ℕ) (nonce : List ℕ) (objects : List Object) (f : Frame) → is_digest nonce ≡ true → length objects ≤ 32 → proof_of settings h p nonce objects ≡ Some f → fits f ≡ true
proof_fits settings h p nonce objects f d few is = by_places (missing_from 0 (state h) p objects) refl is
  where
    same_frame : (a : Frame) → Some a ≡ Some f → fits a ≡ true → fits f ≡ true
    same_frame a k fit = let same : a ≡ f = cc (k) in subst (λ (x : Frame). fits x ≡ true) same fit

    by_chain : (o : Option (List ℕ)) → chain_over (object_bytes settings.seed h p) nonce objects ≡ o → option_map (Proof nonce) o ≡ Some f → fits f ≡ true
    by_chain None e k = absurd (cc (k))
    by_chain (Some value) e k = same_frame (Proof nonce value) k (rw (d, chain_digest (object_bytes settings.seed h p) nonce objects value d e) refl)

    by_places : (places : List ℕ) → missing_from 0 (state h) p objects ≡ places → proof_by settings.seed h p nonce objects places ≡ Some f → fits f ≡ true
    by_places [] e k = by_chain (chain_over (object_bytes settings.seed h p) nonce objects) refl k
    by_places (x ∷ xs) e k =
        let some : missing_from 0 (state h) p objects ≡ [] → ⊥ = λ none. (let wrong : x ∷ xs ≡ [] = sym e ∙ none in absurd (cc (wrong))) in
        let fit : are_places (x ∷ xs) ≡ true = subst (λ (l : List ℕ). are_places l ≡ true) e (missing_fit (state h) p objects few some) in
        same_frame (Declined nonce (x ∷ xs)) k (rw (d, fit) refl)
