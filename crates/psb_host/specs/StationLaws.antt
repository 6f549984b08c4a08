-- The laws of a station with a record.
use Rattle.std.specs.Prelude.{◌==◌, ◌≡◌, ℕ, ◌+◌, ◌≤◌, nat_le, Bool, true, false, if◌then◌else◌, List, [], ◌∷◌, length, Option, Some, None, IfSome, refl}
use Rattle.std.specs.Option.{option_map}
use Rattle.std.proofs.Common.{inr, ⊎_elim, arith, length-take}
use Rattle.std.proofs.lemmas.Bool.{leb-true}
use Rattle.std.proofs.lemmas.List.{take_all}
use Rattle.psb_station.specs.View.{View}
use Rattle.psb_station.specs.Calls.{Torn, CutShort, written}
use Rattle.psb_station.specs.Replay.{torn_whole, torn_longer, cut_whole}
use Rattle.psb_host.specs.StationEvents.{StationEvent, is_usable}
use Rattle.psb_host.specs.StationEvents.StationEvent.{Measured, Read, Wrote, WasCut, Synced, Answered, JoinedAt, Sent, Said}
use Rattle.psb_host.specs.HonestStation.{since_more, where_so, went_down, unless_short, cut_to, settled, after, replay, meaning}

-- no crash is counted after the last moment, and the last moment counts
pub record Ends (v : View) : Type 0 where
  pub bound : (t : ℕ) (c : List ℕ) (k : ℕ) → v.left_since t c k → t ≤ v.moment
  pub counts : (t : ℕ) (c : List ℕ) → t ≤ v.moment → v.may_leave c → v.left_since t c v.told
  pub only : (c : List ℕ) (k : ℕ) → v.left_since v.moment c k → v.may_leave c × (k ≡ v.told)

-- a moment more
ends_more : (v w : View) → Ends v → w.moment ≡ v.moment + 1 → ((t : ℕ) (c : List ℕ) (k : ℕ) → w.left_since t c k → since_more v w.may_leave w.told t c k)
    → ((t : ℕ) (c : List ℕ) (k : ℕ) → since_more v w.may_leave w.told t c k → w.left_since t c k) → Ends w
ends_more v w old one there back = record {
  bound = λ t c k left. ⊎_elim (λ before. let le : t ≤ v.moment = old.bound t c k before in omega arith) (λ now. let le : t ≤ v.moment + 1 = now.0 in omega arith) (there t c k left);
  counts = λ t c le left. back t c w.told (inr (omega arith, left, refl));
  only = λ c k left. ⊎_elim (λ before. let le : w.moment ≤ v.moment = old.bound w.moment c k before in absurd (omega arith)) (λ now. (now.1, now.2)) (there w.moment c k left);
}

ends_after : (usable : Bool) (e : StationEvent) (v : View) → Ends v → Ends (after usable e v)
ends_after usable (Measured ok n) v old = ends_more v _ old refl (λ t c k left. left) (λ t c k left. left)
ends_after usable (Read at n ok came) v old = ends_more v _ old refl (λ t c k left. left) (λ t c k left. left)
ends_after usable (Wrote at n ok given) v old = ends_more v _ old refl (λ t c k left. left) (λ t c k left. left)
ends_after usable (WasCut n ok) v old = ends_more v _ old refl (λ t c k left. left) (λ t c k left. left)
ends_after true (Synced true) v old = ends_more v _ old refl (λ t c k left. left) (λ t c k left. left)
ends_after false (Synced true) v old = ends_more v _ old refl (λ t c k left. left) (λ t c k left. left)
ends_after usable (Synced false) v old = ends_more v _ old refl (λ t c k left. left) (λ t c k left. left)
ends_after usable (Answered answer) v old = ends_more v _ old refl (λ t c k left. left) (λ t c k left. left)
ends_after usable (JoinedAt id address) v old = ends_more v _ old refl (λ t c k left. left) (λ t c k left. left)
ends_after usable (Sent to ok frame) v old = ends_more v _ old refl (λ t c k left. left) (λ t c k left. left)
ends_after usable (Said ok text) v old = ends_more v _ old refl (λ t c k left. left) (λ t c k left. left)

ends : (bytes : List ℕ) (images : List ℕ → Type 0) (events : List StationEvent) → Ends (replay bytes images events)
ends bytes images [] = record {
  bound = λ t c k left. left.0;
  counts = λ t c le left. (le, left, refl);
  only = λ c k left. (left.1, left.2);
}
ends bytes images (e ∷ earlier) = ends_after (is_usable earlier) e (replay bytes images earlier) (ends bytes images earlier)

pub counts_last : (bytes : List ℕ) (images : List ℕ → Type 0) (events : List StationEvent) (t : ℕ) (c : List ℕ) → t ≤ (meaning bytes images events).moment → (meaning bytes images events).may_leave c
    → (meaning bytes images events).left_since t c (meaning bytes images events).told
counts_last bytes images events t c le left = (ends bytes images events).counts t c le left

pub only_last : (bytes : List ℕ) (images : List ℕ → Type 0) (events : List StationEvent) (c : List ℕ) (k : ℕ) → (meaning bytes images events).left_since (meaning bytes images events).moment c k
    → (meaning bytes images events).may_leave c × (k ≡ (meaning bytes images events).told)
only_last bytes images events c k left = (ends bytes images events).only c k left

-- what passes a test is what was there
pub chosen : (P : List ℕ → Type 0) (is : Bool) (b : List ℕ) → P b → IfSome (if is then Some b else None) P
chosen P true b p = p
chosen P false b p = tt

reads_where : (P : List ℕ → Type 0) (test : List ℕ → Bool) (o : Option (List ℕ)) → IfSome o P → IfSome (where_so test o) P
reads_where P test None p = tt
reads_where P test (Some b) p = chosen P (test b) b p

short_of : (ok : Bool) (n : ℕ) (given : List ℕ) → length (went_down ok n given) ≤ length given
short_of true n given = omega arith
short_of false n given = omega (arith, length-take n given)

reads_wrote : (P : List ℕ → Type 0) (at : ℕ) (given put : List ℕ) → length put ≤ length given → (o : Option (List ℕ)) → IfSome o P
    → IfSome (option_map (written at put) (where_so (λ b. nat_le at (length b)) o)) (λ c. (d : List ℕ) × P d × Torn at (length given) d c)
reads_wrote P at given put le None p = tt
reads_wrote P at given put le (Some b) p = here (nat_le at (length b)) (λ is. within is)
  where
    within : nat_le at (length b) ≡ true → at ≤ length b
    within is = leb-true at (length b) is

    here : (is : Bool) → (is ≡ true → at ≤ length b) → IfSome (option_map (written at put) (if is then Some b else None)) (λ c. (d : List ℕ) × P d × Torn at (length given) d c)
    here true fits = (b, p, torn_longer at (length put) (length given) b (written at put b) le (torn_whole at put b (fits refl)))
    here false fits = tt

reads_whole : (P : List ℕ → Type 0) (ok : Bool) (n : ℕ) (given : List ℕ) (o : Option (List ℕ)) → IfSome o P → IfSome (unless_short ok n given o) P
reads_whole P false n given o p = p
reads_whole P true n given None p = chosen_none (n == length given)
  where
    chosen_none : (is : Bool) → IfSome (if is then None else None) P
    chosen_none true = tt
    chosen_none false = tt
reads_whole P true n given (Some b) p = chosen P (n == length given) b p

reads_cut : (P : List ℕ → Type 0) (ok : Bool) (n : ℕ) (o : Option (List ℕ)) → IfSome o P
    → IfSome (cut_to ok n (where_so (λ b. nat_le n (length b)) o)) (λ c. (d : List ℕ) × P d × CutShort n d c)
reads_cut P true n None p = tt
reads_cut P false n None p = tt
reads_cut P ok n (Some b) p = here ok (nat_le n (length b)) (λ is. within is)
  where
    within : nat_le n (length b) ≡ true → n ≤ length b
    within is = leb-true n (length b) is

    here : (ok is : Bool) → (is ≡ true → n ≤ length b) → IfSome (cut_to ok n (if is then Some b else None)) (λ c. (d : List ℕ) × P d × CutShort n d c)
    here true true fits = (b, p, cut_whole n b (fits refl))
    here false true fits = (b, p, record { no_shorter = omega arith; front = take_all (length b) b (omega arith) })
    here true false fits = tt
    here false false fits = tt

reads_settled : (P : List ℕ → Type 0) (o : Option (List ℕ)) → IfSome o P → IfSome o (settled o P)
reads_settled P None p = tt
reads_settled P (Some b) p = refl

reads_after : (usable : Bool) (e : StationEvent) (v : View) → IfSome v.bytes v.may_leave → IfSome (after usable e v).bytes (after usable e v).may_leave
reads_after usable (Measured ok n) v p = reads_where v.may_leave _ v.bytes p
reads_after usable (Read at n ok came) v p = reads_where v.may_leave _ v.bytes p
reads_after usable (Wrote at n ok given) v p =
    reads_wrote v.may_leave at given (went_down ok n given) (short_of ok n given) (unless_short ok n given v.bytes) (reads_whole v.may_leave ok n given v.bytes p)
reads_after usable (WasCut n ok) v p = reads_cut v.may_leave ok n v.bytes p
reads_after true (Synced true) v p = reads_settled v.may_leave v.bytes p
reads_after false (Synced true) v p = tt
reads_after usable (Synced false) v p = p
reads_after usable (Answered answer) v p = p
reads_after usable (JoinedAt id address) v p = p
reads_after usable (Sent to ok frame) v p = p
reads_after usable (Said ok text) v p = p

pub reads_one : (bytes : List ℕ) (images : List ℕ → Type 0) → images bytes → (events : List StationEvent) → IfSome (meaning bytes images events).bytes (meaning bytes images events).may_leave
reads_one bytes images there [] = there
reads_one bytes images there (e ∷ earlier) = reads_after (is_usable earlier) e (replay bytes images earlier) (reads_one bytes images there earlier)
