-- Laws over the definition of cuts and spans, each of them proved.
use Rattle.std.specs.Prelude.{◌≡◌, ℕ, ◌+◌, ◌<◌, ◌≤◌, ◌↔◌, Bool, true, false, List, [], ◌∷◌, ◌++◌, length, take, drop, map, flat_map, All, option_to_list, Option, is_some, if◌then◌else◌}
use Rattle.rolling_chunks.specs.declared.spans.Span.{Span}
use Rattle.rolling_chunks.specs.Cuts.{may_end_or_stop, cuts, standing_cuts, last_after, lengths_after, chunk_lengths}
use Rattle.rolling_chunks.specs.Pushes.{Progress, progress, IsPush, IsFinish, Runs}
use Rattle.rolling_chunks.specs.Spans.{spans}

-- e is the least place after c, and at most n, where the rule lets the chunk from c end
pub record IsNextCut (rule : ℕ → ℕ → Bool) (n c e : ℕ) : Type 0 where
  pub after : c < e
  pub within : e ≤ n
  pub ends : rule c e ≡ true
  pub least : (k : ℕ) → c < k → k < e → rule c k ≡ false

-- the places are such ones, each after the one before it, and no place is left behind the last
unfoldable pub AreCuts : (ℕ → ℕ → Bool) → ℕ → ℕ → List ℕ → Type 0
AreCuts rule n c [] = (k : ℕ) → c < k → k ≤ n → rule c k ≡ false
AreCuts rule n c (e ∷ es) = IsNextCut rule n c e × AreCuts rule n e es

-- the cuts of a text are such places, and no other list of places is
abbrev pub CutsAreLeast : Type 0
CutsAreLeast = (m : ℕ) (text places : List ℕ) → AreCuts (may_end_or_stop m text) (length text) 0 places ↔ (places ≡ cuts m text)

-- the cuts that stand are those of each longer text, as far as the text goes
abbrev pub CutsStand : Type 0
CutsStand = (m : ℕ) (text more : List ℕ) → 0 < length more
    → (rest : List ℕ) × (cuts m (text ++ more) ≡ standing_cuts m text ++ rest) × All (λ e. length text < e) rest

-- Behind a cut a text is cut as if it began there. So an edit in front of a cut that stays moves no
-- cut behind it.
abbrev pub CutsBehind : Type 0
CutsBehind = (m : ℕ) (text front behind : List ℕ) → cuts m text ≡ front ++ behind
    → lengths_after (last_after 0 front) behind ≡ chunk_lengths m (drop (last_after 0 front) text)

-- the spans stand side by side from a place on, up to n
unfoldable pub StandFrom : ℕ → ℕ → List Span → Type 0
StandFrom start n [] = start ≡ n
StandFrom start n (s ∷ more) = (s.start ≡ start) × StandFrom (start + s.len) n more

-- the bytes of a text that a span holds
abbrev pub part : List ℕ → Span → List ℕ
part text s = take s.len (drop s.start text)

-- the spans cover the text in order, without a gap and without overlap, and joined they are the text
abbrev pub SpansCover : Type 0
SpansCover = (m : ℕ) (text : List ℕ) → StandFrom 0 (length text) (spans m text) × (flat_map (part text) (spans m text) ≡ text)

-- each length but the last is 2,048 to m, and the last 1 to m
unfoldable pub AreChunkSizes : ℕ → List ℕ → Type 0
AreChunkSizes m [] = Unit {0}
AreChunkSizes m (n ∷ []) = (1 ≤ n) × (n ≤ m)
AreChunkSizes m (n ∷ k ∷ more) = (2048 ≤ n) × (n ≤ m) × AreChunkSizes m (k ∷ more)

abbrev pub SpanSizes : Type 0
SpanSizes = (m : ℕ) (text : List ℕ) → 2048 ≤ m → AreChunkSizes m (map (λ s. s.len) (spans m text))

abbrev pub NothingToCut : Type 0
NothingToCut = (m : ℕ) → spans m [] ≡ []

-- the bytes were pushed one after another, and these are the lengths that were answered
unfoldable pub Pushed : ℕ → Progress → List ℕ → List ℕ → Progress → Type 0
Pushed m old [] lengths new = (lengths ≡ []) × (new ≡ old)
Pushed m old (b ∷ bytes) lengths new =
    (answer : Option ℕ) × (next : Progress) × (more : List ℕ) × IsPush m old b answer next × (lengths ≡ option_to_list answer ++ more) × Pushed m next bytes more new

-- Pushes of which none but the last answers are a run, and it ends a chunk where that one answers.
abbrev pub PushesRun : Type 0
PushesRun = (m : ℕ) (bytes : List ℕ) (byte : ℕ) (old mid new : Progress) (answer : Option ℕ) → Pushed m old bytes [] mid → IsPush m mid byte answer new
    → Runs m old (bytes ++ byte ∷ []) (is_some answer) new

-- The bytes were pushed by runs, each with whether it ends a chunk, and these are the lengths of the
-- chunks that ended: of each the bytes that were begun before and those of the run.
unfoldable pub Ran : ℕ → Progress → ℕ → List (List ℕ × Bool) → List ℕ → Progress → Type 0
Ran m old begun [] lengths new = (lengths ≡ []) × (new ≡ old)
Ran m old begun (run ∷ runs) lengths new =
    (next : Progress) × (more : List ℕ) × Runs m old run.0 run.1 next × (lengths ≡ (if run.1 then (begun + length run.0) ∷ [] else []) ++ more) × Ran m next (if run.1 then 0 else begun + length run.0) runs more new

-- A whole text pushed and finished: the lengths that were answered are the differences of its cuts,
-- and the cutter is as new.
abbrev pub RunsCut : Type 0
RunsCut = (m : ℕ) (text lengths : List ℕ) (last new : Progress) (answer : Option ℕ) → Pushed m (progress m []) text lengths last → IsFinish m last answer new
    → (lengths ++ option_to_list answer ≡ chunk_lengths m text) × (new ≡ progress m [])

-- The same for a whole text pushed by runs, however it is parted into them.
abbrev pub PartsCut : Type 0
PartsCut = (m : ℕ) (runs : List (List ℕ × Bool)) (lengths : List ℕ) (last new : Progress) (answer : Option ℕ) → Ran m (progress m []) 0 runs lengths last → IsFinish m last answer new
    → lengths ++ option_to_list answer ≡ chunk_lengths m (flat_map (λ run. run.0) runs)
