-- How many of one list are among the first of both, between two bounds.
use Rattle.std.proofs.Common.{◌≡◌, ◌≤◌, ◌<◌, ℕ, ◌+◌, ◌-◌, true, false, ◌&&◌, nat_lt, List, length, refl, sym, subst, arith}
use Rattle.std.specs.Prelude.{slice_get}
use Rattle.std.proofs.lemmas.Bool.{and_parts, true≢false, ltb-true}
use Rattle.std.proofs.lemmas.Option.{slice_get_past}
use Rattle.psb_bytes.specs.declared.ids.Object.{Object}
use Rattle.asked_objects.specs.Ranks.{precedes, is_within, IsSplit}
use Rattle.asked_objects.proofs.Ranks.{at_place}

pub record IsHalved (there owed : List Object) (i low high : ℕ) : Type 0 where
  pub in_turn : low ≤ high
  pub some : high ≤ length owed
  pub few : low ≤ i
  pub within : (k : ℕ) → k + 1 ≡ low → is_within there owed i k ≡ true
  pub behind : is_within there owed i high ≡ false

past_within : (there owed : List Object) (i k : ℕ) → length owed ≤ k → is_within there owed i k ≡ false
past_within there owed i k h = rw (slice_get_past owed k h, is_within) refl

within_less : (there owed : List Object) (i k : ℕ) → is_within there owed i k ≡ true → k < i
within_less there owed i k h =
    at_place owed k
    (λ none. let wrong : false ≡ true = rw (none, is_within) at h in absurd (true≢false (sym wrong)))
    (λ d at. let both : (nat_lt k i && precedes d (slice_get there (i - (k + 1)))) ≡ true = rw (at, is_within) at h in ltb-true k i (and_parts (nat_lt k i) (precedes d (slice_get there (i - (k + 1)))) both).0)

pub none_halved : (there owed : List Object) (i high : ℕ) → high ≡ length owed → IsHalved there owed i 0 high
none_halved there owed i high is = record {
  in_turn = omega arith;
  some = omega (arith, is);
  few = omega arith;
  within = λ k h. absurd (omega (arith, h));
  behind = past_within there owed i high (omega (arith, is));
}

pub upper_half : (there owed : List Object) (i low high middle : ℕ) → middle < high → is_within there owed i middle ≡ true → IsHalved there owed i low high → IsHalved there owed i (middle + 1) high
upper_half there owed i low high middle less here before = record {
  in_turn = omega (arith, less);
  some = before.some;
  few = omega (arith, within_less there owed i middle here);
  within = λ k h. let same : middle ≡ k = omega (arith, h) in subst (λ n. is_within there owed i n ≡ true) same here;
  behind = before.behind;
}

pub lower_half : (there owed : List Object) (i low high middle : ℕ) → low ≤ middle → middle < high → is_within there owed i middle ≡ false → IsHalved there owed i low high → IsHalved there owed i low middle
lower_half there owed i low high middle in_turn less here before = record {
  in_turn = in_turn;
  some = omega (arith, before.some, less);
  few = before.few;
  within = before.within;
  behind = here;
}

pub all_halved : (there owed : List Object) (i low high : ℕ) → high ≤ low → IsHalved there owed i low high → IsSplit there owed i low
all_halved there owed i low high end before =
    let same : high ≡ low = omega (arith, end, before.in_turn) in
    record {
      some = omega (arith, same, before.some);
      few = before.few;
      within = before.within;
      behind = subst (λ n. is_within there owed i n ≡ false) same before.behind;
    }
