-- The slots of a deal: what it says that none of them was found, and what is known of one that was.
use Rattle.std.proofs.Common.{◌≡◌, ℕ, ◌^◌, arith, Bool, true, false, not, List, [], ◌∷◌, is_some, refl}
use Rattle.std.specs.Prelude.{unwrap_or}
use Rattle.std.specs.List.{list_all}
use Rattle.std.proofs.lemmas.Bool.{false≢true, and_parts, lt-ltb, ltb-true}
use Rattle.psb_bytes.specs.declared.ids.Object.{Object}
use Rattle.psb_bytes.specs.declared.ids.Object.TheVariants.{Slot}
use Rattle.psb_model.specs.Words.{object_eq, has, has_so}
use Rattle.psb_model.specs.Grammar.{is_u32, is_u64}
use Rattle.psb_model.specs.Conditions.{each_slot}
use Rattle.psb_model.proofs.ByObject.{by_cases}
use Rattle.psb_machine.specs.Deals.{first_slot}

-- where no slot passes a test, each passes what an object that fails it passes
pub none_found : (test good : Object → Bool) (numbers : List ℕ) → ((o : Object) → test o ≡ false → good o ≡ true) → is_some (first_slot test numbers) ≡ false → each_slot good numbers ≡ true
none_found test good [] g h = refl
none_found test good (n ∷ ns) g h = by_cases (test (Slot n))
    (λ k. let e : true ≡ false = rw k at h in absurd (cc))
    (λ k. rw (g (Slot n) k) (none_found test good ns g (rw k at h)))

-- what each slot passes that passes two tests
pub each_both : (a b good : Object → Bool) (numbers : List ℕ) → ((o : Object) → a o ≡ true → b o ≡ true → good o ≡ true) → each_slot a numbers ≡ true → each_slot b numbers ≡ true → each_slot good numbers ≡ true
each_both a b good [] g x y = refl
each_both a b good (n ∷ ns) g x y =
    let xs = and_parts (a (Slot n)) (each_slot a ns) x in
    let ys = and_parts (b (Slot n)) (each_slot b ns) y in
    rw (g (Slot n) xs.0 ys.0) (each_both a b good ns g xs.1 ys.1)

pub wider : (n : ℕ) → is_u32 n ≡ true → is_u64 n ≡ true
wider n h = lt-ltb n (2 ^ 64) (omega (arith, ltb-true n (2 ^ 32) h))

-- a slot that was found fits the field of a detail
pub found_fits : (test : Object → Bool) (numbers : List ℕ) → list_all is_u32 numbers ≡ true → is_u64 (unwrap_or (first_slot test numbers) 0) ≡ true
found_fits test [] h = refl
found_fits test (n ∷ ns) h =
    let two = and_parts (is_u32 n) (list_all is_u32 ns) h in
    by_cases (test (Slot n)) (λ k. rw k (wider n two.0)) (λ k. rw k (found_fits test ns two.1))

-- an object that the list has, and that has no entry which fails a test, has one that passes it
pub passes_there : {E : Type 0} (key : E → Object) (test : E → Bool) (l : List E) (o : Object) → has key l o ≡ true → has_so key (λ e. not (test e)) l o ≡ false → has_so key test l o ≡ true
passes_there key test [] o h k = absurd (false≢true h)
passes_there key test (e ∷ es) o h k = by_cases (object_eq (key e) o)
    (λ same. by_cases (test e) (λ t. rw (same, t) refl) (λ f. let x : true ≡ false = rw (same, f) at k in absurd (cc)))
    (λ other. rw other (passes_there key test es o (rw other at h) (rw other at k)))
