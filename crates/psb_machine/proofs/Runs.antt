-- A probe of the node's own that runs: what is known of it, and that its outcome may be noted.
use Rattle.std.proofs.Common.{◌≡◌, ◌≤◌, ℕ, ◌^◌, Bool, true, false, not, ◌&&◌, ◌==◌, nat_le, nat_lt, List, [], ◌∷◌, ◌++◌, length, slice_get, option_to_list, Option, Some, None, refl, sym, ap, ◌∙◌, arith}
use Rattle.std.specs.Prelude.{zero, suc}
use Rattle.std.specs.List.{list_all}
use Rattle.std.proofs.lemmas.Bool.{lt-ltb, ltb-true, leb-true, eqb-true, eq-eqb, and_parts}
use Rattle.psb_bytes.specs.declared.ids.Object.{Object}
use Rattle.psb_model.specs.State.{row, is_peer, ties_out}
use Rattle.psb_model.specs.Grammar.{is_u16, is_u32, is_u64, is_count, is_digest, ascend, objects_listed, object_fits}
use Rattle.psb_model.specs.Conditions.{same_objects, asked_objects, at_places, objects_at}
use Rattle.psb_model.specs.History.{state}
use Rattle.psb_model.specs.Needed.{IsValid}
use Rattle.psb_model.specs.declared.change.Change.{Change}
use Rattle.psb_model.proofs.ByObject.{by_cases, object_eq-refl}
use Rattle.psb_model.proofs.Prefixes.{changes_counted}
use Rattle.model_laws.proofs.Following.{asked_is}
use Rattle.wire_codec.specs.Fields.{within, ascends, are_places}
use Rattle.psb_machine.specs.Volatile.{of_peer}
use Rattle.psb_machine.specs.OwnProbes.{Run, run_by, passed_by, wrong_by, silent_by, declined_by, are_places_of}
use Rattle.psb_machine.specs.Machine.{Situation, run_at}
use Rattle.psb_machine.specs.Laws.{all_untied, IsUntied}
use Rattle.psb_machine.proofs.Taken.{MayTake, begun_here}
use Rattle.psb_machine.proofs.Framed.{ascend_same}

-- ---- it is the last probe of its peer, which is open

pub run_parts : (b : Option ℕ) (a : Option (ℕ × List Object)) (r : Run) → run_by b a ≡ Some r → (a ≡ Some (r.asked, r.objects)) × (b ≡ Some r.began)
run_parts None a r h = absurd (cc (h))
run_parts (Some b) None r h = absurd (cc (h))
run_parts (Some b) (Some a) r h =
    let same : record { asked = a.0; objects = a.1; began = b } ≡ r = cc (h) in
    (ap (λ (x : Run). Some (x.asked, x.objects)) same, ap (λ (x : Run). Some x.began) same)

pub run_open : (n : Situation) (p : ℕ) (r : Run) → run_at n p ≡ Some r → (row (state n.history) p).asked ≡ Some (r.asked, r.objects)
run_open n p r is = (run_parts (of_peer n.volatile p).began (row (state n.history) p).asked r is).0

-- ---- an outcome may be noted

pub same_objects-refl : (os : List Object) → same_objects os os ≡ true
same_objects-refl [] = refl
same_objects-refl (o ∷ os) = rw (object_eq-refl o) (same_objects-refl os)

-- what is asked of each outcome
record IsOpen (h : List Change) (p : ℕ) (r : Run) : Type 0 where
  begun : nat_lt 0 (state h).changes ≡ true
  peer : is_peer (state h) p ≡ true
  own : (r.asked == 0) ≡ false
  found : asked_objects (row (state h) p).asked r.asked ≡ Some r.objects
  p_fits : is_u32 p ≡ true
  asked_fits : is_u64 r.asked ≡ true
  listed : objects_listed r.objects ≡ true
  fit : list_all object_fits r.objects ≡ true
  untied : all_untied (row (state h) p) r.objects ≡ true

pub not_zero : (n : ℕ) → 1 ≤ n → (n == 0) ≡ false
not_zero n h = by_cases (n == 0) (λ k. absurd (omega (arith, h, eqb-true n 0 k))) (λ k. k)

is_open : (h : List Change) (p : ℕ) (r : Run) → IsValid h → is_peer (state h) p ≡ true → is_u32 p ≡ true → is_u64 r.asked ≡ true → (row (state h) p).asked ≡ Some (r.asked, r.objects) → all_untied (row (state h) p) r.objects ≡ true → IsOpen h p r
is_open h p r v peer p_fits asked_fits is untied =
    let a = asked_is h p r.asked r.objects v is in
    record {
      begun = begun_here h v.some;
      peer = peer;
      own = not_zero r.asked a.behind;
      found = rw is (rw (eq-eqb r.asked r.asked refl) refl);
      p_fits = p_fits;
      asked_fits = asked_fits;
      listed = a.listed;
      fit = a.fit;
      untied = untied;
    }

-- its number fits its field where there is room for one more change
pub number_within : (h : List Change) (p : ℕ) (r : Run) → IsValid h → (state h).changes ≤ 2 ^ 64 → (row (state h) p).asked ≡ Some (r.asked, r.objects) → is_u64 r.asked ≡ true
number_within h p r v room is = lt-ltb r.asked (2 ^ 64) (omega (arith, room, (asked_is h p r.asked r.objects v is).within, changes_counted h))

passed_open : (h : List Change) (p : ℕ) (r : Run) → IsOpen h p r → MayTake (state h) (passed_by p r)
passed_open h p r o = record {
  grammar = o.listed;
  may = rw (o.begun, o.peer, o.own, o.found) (rw (same_objects-refl r.objects) refl);
  widths = rw (o.p_fits, o.asked_fits, o.fit) refl;
  brings = refl;
  answerable = refl;
}

wrong_open : (h : List Change) (p : ℕ) (value : List ℕ) (r : Run) → IsOpen h p r → is_digest value ≡ true → MayTake (state h) (wrong_by p value r)
wrong_open h p value r o digest = record {
  grammar = o.listed;
  may = rw (o.begun, o.peer, o.own, o.found) (rw (same_objects-refl r.objects, o.untied) refl);
  widths = rw (o.p_fits, o.asked_fits, digest, o.fit) refl;
  brings = refl;
  answerable = refl;
}

silent_open : (h : List Change) (p : ℕ) (r : Run) → IsOpen h p r → MayTake (state h) (silent_by p r)
silent_open h p r o = record {
  grammar = o.listed;
  may = rw (o.begun, o.peer, o.own, o.found) (rw (same_objects-refl r.objects, o.untied) refl);
  widths = rw (o.p_fits, o.asked_fits, o.fit) refl;
  brings = refl;
  answerable = refl;
}

-- what stands at places of a list has what all of it has
get_all : (test : Object → Bool) (os : List Object) (k : ℕ) (rest : List Object) → list_all test os ≡ true → list_all test rest ≡ true → list_all test (option_to_list (slice_get os k) ++ rest) ≡ true
get_all test [] k rest h hr = hr
get_all test (o ∷ os) zero rest h hr = let a = and_parts (test o) (list_all test os) h in rw (a.0, hr) refl
get_all test (o ∷ os) (suc k) rest h hr = get_all test os k rest (and_parts (test o) (list_all test os) h).1 hr

at_places_all : (test : Object → Bool) (os : List Object) (places : List ℕ) → list_all test os ≡ true → list_all test (at_places os places) ≡ true
at_places_all test os [] h = refl
at_places_all test os (k ∷ ks) h = get_all test os k (at_places os ks) h (at_places_all test os ks h)

widen : (places : List ℕ) → list_all (λ (k : ℕ). nat_lt k 32) places ≡ true → list_all is_u16 places ≡ true
widen [] h = refl
widen (k ∷ ks) h =
    let a = and_parts (nat_lt k 32) (list_all (λ (x : ℕ). nat_lt x 32) ks) h in
    let small : is_u16 k ≡ true = lt-ltb k (2 ^ 16) (omega (arith, ltb-true k 32 a.0)) in
    rw (small, widen ks a.1) refl

declined_open : (h : List Change) (p : ℕ) (places : List ℕ) (r : Run) → IsOpen h p r → are_places places ≡ true → are_places_of r places ≡ true → MayTake (state h) (declined_by p places r)
declined_open h p places r o spelled theirs =
    let a = and_parts (within 1 32 (length places)) (list_all (λ (k : ℕ). nat_lt k 32) places && ascends places) spelled in
    let b = and_parts (list_all (λ (k : ℕ). nat_lt k 32) places) (ascends places) a.1 in
    let few = leb-true (length places) 32 (and_parts (nat_le 1 (length places)) (nat_le (length places) 32) a.0).1 in
    let ordered : ascend places ≡ true = sym (ascend_same places) ∙ b.1 in
    let counted : is_count (length places) ≡ true = lt-ltb (length places) (2 ^ 32) (omega (arith, few)) in
    let at : objects_at (row (state h) p) r.asked places ≡ at_places r.objects places = ap (λ (x : Option (List Object)). elim x [ None ↦ [] | Some os ↦ at_places os places ]) o.found in
    let there : list_all (λ (x : Object). not (ties_out (row (state h) p).pending x)) (at_places r.objects places) ≡ true = at_places_all (λ (x : Object). not (ties_out (row (state h) p).pending x)) r.objects places o.untied in
    let untied : list_all (λ (x : Object). not (ties_out (row (state h) p).pending x)) (objects_at (row (state h) p) r.asked places) ≡ true = ap (list_all (λ (x : Object). not (ties_out (row (state h) p).pending x))) at ∙ there in
    record {
      grammar = rw (ordered, counted) refl;
      may = rw (o.begun, o.peer, untied) (rw (o.found) (rw (theirs) refl));
      widths = rw (o.p_fits, o.asked_fits, widen places b.0) refl;
      brings = refl;
      answerable = refl;
    }

-- of what runs, in a history whose probes list nothing that is tied
outcome_open : (n : Situation) (p : ℕ) (r : Run) → IsValid n.history → IsUntied n → is_peer (state n.history) p ≡ true → is_u32 p ≡ true → is_u64 r.asked ≡ true → run_at n p ≡ Some r → IsOpen n.history p r
outcome_open n p r v o peer p_fits asked_fits is = is_open n.history p r v peer p_fits asked_fits (run_open n p r is) (o p r is)

pub passed_may : (n : Situation) (p : ℕ) (r : Run) → IsValid n.history → IsUntied n → is_peer (state n.history) p ≡ true → is_u32 p ≡ true → is_u64 r.asked ≡ true → run_at n p ≡ Some r → MayTake (state n.history) (passed_by p r)
passed_may n p r v o peer p_fits asked_fits is = passed_open n.history p r (outcome_open n p r v o peer p_fits asked_fits is)

pub wrong_may : (n : Situation) (p : ℕ) (value : List ℕ) (r : Run) → IsValid n.history → IsUntied n → is_peer (state n.history) p ≡ true → is_u32 p ≡ true → is_u64 r.asked ≡ true → is_digest value ≡ true → run_at n p ≡ Some r → MayTake (state n.history) (wrong_by p value r)
wrong_may n p value r v o peer p_fits asked_fits digest is = wrong_open n.history p value r (outcome_open n p r v o peer p_fits asked_fits is) digest

pub silent_may : (n : Situation) (p : ℕ) (r : Run) → IsValid n.history → IsUntied n → is_peer (state n.history) p ≡ true → is_u32 p ≡ true → is_u64 r.asked ≡ true → run_at n p ≡ Some r → MayTake (state n.history) (silent_by p r)
silent_may n p r v o peer p_fits asked_fits is = silent_open n.history p r (outcome_open n p r v o peer p_fits asked_fits is)

pub declined_may : (n : Situation) (p : ℕ) (places : List ℕ) (r : Run) → IsValid n.history → IsUntied n → is_peer (state n.history) p ≡ true → is_u32 p ≡ true → is_u64 r.asked ≡ true → are_places places ≡ true → are_places_of r places ≡ true → run_at n p ≡ Some r
    → MayTake (state n.history) (declined_by p places r)
declined_may n p places r v o peer p_fits asked_fits spelled theirs is = declined_open n.history p places r (outcome_open n p r v o peer p_fits asked_fits is) spelled theirs
