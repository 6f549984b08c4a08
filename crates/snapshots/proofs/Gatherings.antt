-- What a chunk buffer knows, one run of bytes after another.
use Rattle.std.proofs.Common.{◌≡◌, inl, inr, ℕ, ◌-◌, ◌<◌, ◌≤◌, ◌↔◌, Bool, true, false, cond, List, [], ◌∷◌, ◌++◌, length, take, sum, Option, Some, None, IsSome, is_some, refl, ◌∙◌, ap, subst, arith, length-append}
use Rattle.std.proofs.lemmas.Bool.{cases_lt}
use Rattle.rolling_chunks.specs.Cuts.{longest, standing_lengths}
use Rattle.rolling_chunks.specs.Pushes.{Progress, progress, IsFinish, Runs}
use Rattle.snapshots.specs.Gathering.{Gathered, begun, IsGathered, Takes, Finishes}
use Rattle.rolling_chunks.proofs.Running.{same_lengths}
use Rattle.snapshots.proofs.ChunkLengths.{sum_within, sum_push, len_is, ended_lengths, last_short, len_short}

-- ---- the buffer

abbrev pub gathered : Progress → List ℕ → Bool → Gathered
gathered cutter bytes whole = record { cutter = cutter; bytes = bytes; whole = whole }

-- a buffer that let its whole chunk go
abbrev pub started : Gathered → Gathered
started g = record g { bytes = begun g; whole = false }

pub gathered_new : (cutter : Progress) (bytes : List ℕ) (capacity : ℕ) → cutter ≡ progress longest [] → bytes ≡ [] → longest ≤ capacity → IsGathered (gathered cutter bytes false) capacity
gathered_new cutter bytes capacity anew none room = record {
  text = [];
  fed = anew;
  long = omega (arith, ap length none, len_is longest [] cutter anew);
  short = omega (arith, ap length none);
  room = room;
}

-- bytes that are taken fit behind those begun
pub taken_short : (text front taken : List ℕ) (ends : Bool) (old new : Progress) → old ≡ progress longest text → length front ≡ old.len → Runs longest old taken ends new → length (front ++ taken) ≤ longest
taken_short text front taken true old new at long runs =
    let before = standing_lengths longest text in
    let whole = text ++ taken in
    let last = last_short whole before (length whole - sum before) (runs.lengths text at) (omega arith) in
    omega (arith, last, long, len_is longest text old at, sum_within longest text, length-append text taken, length-append front taken)
taken_short text front taken false old new at long runs =
    let same = same_lengths longest old new taken text runs at in
    let whole = text ++ taken in
    omega (arith, len_short whole new (runs.follows text at), len_is longest whole new (runs.follows text at), ap sum same, long, len_is longest text old at, sum_within longest text, length-append text taken, length-append front taken)

taken_long : (text front taken bytes : List ℕ) (ends : Bool) (old new : Progress) → old ≡ progress longest text → length front ≡ old.len → Runs longest old taken ends new → bytes ≡ front ++ taken → length (begun (gathered new bytes ends)) ≡ new.len
taken_long text front taken bytes true old new at long runs grown =
    let before = standing_lengths longest text in
    let whole = text ++ taken in
    omega (arith, len_is longest whole new (runs.follows text at), ap sum (runs.lengths text at), sum_push before (length whole - sum before), sum_within longest text, length-append text taken)
taken_long text front taken bytes false old new at long runs grown =
    let same = same_lengths longest old new taken text runs at in
    let whole = text ++ taken in
    omega (arith, len_is longest whole new (runs.follows text at), ap sum same, long, len_is longest text old at, sum_within longest text, length-append text taken, length-append front taken, ap length grown)

pub gathered_taken : (front taken bytes : List ℕ) (ends : Bool) (old new : Progress) (text : List ℕ) (capacity : ℕ) → old ≡ progress longest text → length front ≡ old.len → Runs longest old taken ends new → bytes ≡ front ++ taken → longest ≤ capacity
    → IsGathered (gathered new bytes ends) capacity
gathered_taken front taken bytes ends old new text capacity at long runs grown room = record {
  text = text ++ taken;
  fed = runs.follows text at;
  long = taken_long text front taken bytes ends old new at long runs grown;
  short = omega (arith, ap length grown, taken_short text front taken ends old new at long runs);
  room = room;
}

-- what stands in a buffer that was started
pub start_is : (old : Gathered) (cutter : Progress) (bytes : List ℕ) (whole : Bool) → gathered cutter bytes whole ≡ started old → (cutter ≡ old.cutter) × (bytes ≡ begun old) × (begun (gathered cutter bytes whole) ≡ begun old)
start_is old cutter bytes whole is = (ap (λ (g : Gathered). g.cutter) is, ap (λ (g : Gathered). g.bytes) is, ap begun is)

-- where there is room, the bytes go behind
pub extended : (now was more : List ℕ) (ok : Bool) → now ≡ cond ok (was ++ more) was → ok ≡ true → now ≡ was ++ more
extended now was more ok is holds = is ∙ ap (λ (b : Bool). cond b (was ++ more) was) holds

-- ---- the end of the text

-- whether bytes are left over, by their number
left_over : (old : Progress) (answer : Option ℕ) → IsSome answer ↔ (0 < old.len) → (is_some answer ≡ true → 1 ≤ old.len) × (is_some answer ≡ false → old.len ≡ 0)
left_over old None is = (λ some. absurd (cc), λ none. elim (cases_lt 0 old.len) [ inl more ↦ let some : false ≡ true = is.1 more in absurd (cc) | inr zero ↦ omega (arith, zero) ])
left_over old (Some n) is = (λ some. omega (arith, is.0 refl), λ none. absurd (cc))

pub gathered_finished : (front bytes : List ℕ) (old new : Progress) (answer : Option ℕ) (capacity : ℕ) → length front ≡ old.len → length front ≤ longest → bytes ≡ front → IsFinish longest old answer new → longest ≤ capacity
    → IsGathered (gathered new bytes (is_some answer)) capacity
gathered_finished front bytes old new answer capacity long short same finish room = record {
  text = [];
  fed = finish.anew;
  long = by_answer (is_some answer) (left_over old answer finish.left_over).1;
  short = omega (arith, ap length same, short);
  room = room;
}
  where
    by_answer : (left : Bool) → (left ≡ false → old.len ≡ 0) → length (begun (gathered new bytes left)) ≡ new.len
    by_answer true none = omega (arith, len_is longest [] new finish.anew)
    by_answer false none = omega (arith, len_is longest [] new finish.anew, ap length same, long, none refl)

nothing : (l : List ℕ) → length l ≡ 0 → l ≡ []
nothing [] none = refl
nothing (x ∷ l) none = absurd (omega (arith, none))

pub finished : (old : Gathered) (bytes : List ℕ) (k new : Progress) (answer : Option ℕ) → k ≡ old.cutter → bytes ≡ begun old → length (begun old) ≡ k.len → IsFinish longest k answer new
    → Finishes old (is_some answer) (gathered new bytes (is_some answer))
finished old bytes k new answer same is long finish =
    let left = left_over k answer finish.left_over in
    record {
      anew = finish.anew;
      bytes_are = is;
      some = λ h. omega (arith, left.0 h, long);
      none = λ h. nothing (begun old) (omega (arith, left.1 h, long));
      lengths = λ text at. ended_lengths longest text k (is_some answer) (same ∙ at) left.0 left.1;
    }

-- ---- a taking

pub takes : (old : Gathered) (bytes now : List ℕ) (count : ℕ) (ends : Bool) (k new : Progress) → k ≡ old.cutter → count ≤ length bytes → (ends ≡ true → 1 ≤ count) → (ends ≡ false → count ≡ length bytes) → now ≡ begun old ++ take count bytes
    → Runs longest k (take count bytes) ends new → Takes old bytes count (gathered new now ends)
takes old bytes now count ends k new same within some all grown runs = record {
  within = within;
  some = some;
  all = all;
  bytes_are = grown;
  runs = subst (λ (p : Progress). Runs longest p (take count bytes) ends new) same runs;
}
