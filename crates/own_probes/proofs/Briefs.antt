-- The records of probes and of their outcomes are short.
use Rattle.std.proofs.Common.{◌≡◌, ◌≤◌, ◌+◌, ◌*◌, ℕ, true, List, [], ◌∷◌, ◌++◌, length, is_some, unwrap_or, refl, arith, length-append}
use Rattle.std.specs.Int.{to_be_bytes, w16, w32, w64}
use Rattle.std.specs.List.{list_all, flat_map}
use Rattle.psb_bytes.specs.declared.ids.Object.{Object}
use Rattle.psb_model.specs.Grammar.{object_fits}
use Rattle.psb_model.specs.Heads.{head_of, body_of, object}
use Rattle.psb_model.proofs.Lengths.{counted_long}
use Rattle.psb_model.specs.declared.change.Change.{Change}
use Rattle.psb_model.specs.declared.change.Change.TheVariants.{Asked, Passed, Failed, Declined}

-- its body is there, which is empty, and its head is short
pub record IsBrief (c : Change) : Type 0 where
  pub there : is_some (body_of c) ≡ true
  pub short : length (head_of c) + length (unwrap_or (body_of c) []) ≤ 2000

places_long : (ks : List ℕ) → length (flat_map (to_be_bytes w16) ks) ≡ 2 * length ks
places_long [] = refl
places_long (k ∷ ks) = omega (arith, places_long ks, length-append (to_be_bytes w16 k) (flat_map (to_be_bytes w16) ks))

pub asked_brief : (p : ℕ) (os : List Object) → list_all object_fits os ≡ true → length os ≤ 32 → IsBrief (Asked (record { peer = p; objects = os }))
asked_brief p os fit few = record {
  there = refl;
  short = omega (arith, few, counted_long os fit, length-append (to_be_bytes w32 p) (to_be_bytes w32 (length os) ++ flat_map object os));
}

pub passed_brief : (p asked : ℕ) (os : List Object) → list_all object_fits os ≡ true → length os ≤ 32 → IsBrief (Passed (record { peer = p; asked = asked; objects = os }))
passed_brief p asked os fit few = record {
  there = refl;
  short = omega (
    arith,
    few,
    counted_long os fit,
    length-append (to_be_bytes w32 p ++ to_be_bytes w64 asked) (to_be_bytes w32 (length os) ++ flat_map object os),
    length-append (to_be_bytes w32 p) (to_be_bytes w64 asked),
  );
}

pub failed_brief : (p asked how : ℕ) (got : List ℕ) (os : List Object) → length got ≡ 32 → list_all object_fits os ≡ true → length os ≤ 32 → IsBrief (Failed (record { peer = p; asked = asked; how = how; got = got; objects = os }))
failed_brief p asked how got os long fit few = record {
  there = refl;
  short = omega (
    arith,
    few,
    long,
    counted_long os fit,
    length-append (to_be_bytes w32 p ++ to_be_bytes w64 asked) (how ∷ (got ++ to_be_bytes w32 (length os) ++ flat_map object os)),
    length-append (to_be_bytes w32 p) (to_be_bytes w64 asked),
    length-append got (to_be_bytes w32 (length os) ++ flat_map object os),
  );
}

pub declined_brief : (p asked : ℕ) (places : List ℕ) → length places ≤ 32 → IsBrief (Declined (record { peer = p; asked = asked; places = places }))
declined_brief p asked places few = record {
  there = refl;
  short = omega (
    arith,
    few,
    places_long places,
    length-append (to_be_bytes w32 p ++ to_be_bytes w64 asked) (to_be_bytes w32 (length places) ++ flat_map (to_be_bytes w16) places),
    length-append (to_be_bytes w32 p) (to_be_bytes w64 asked),
    length-append (to_be_bytes w32 (length places)) (flat_map (to_be_bytes w16) places),
  );
}
