-- The lengths of the chunks of a text as it is pushed, and as it ends.
use Rattle.std.proofs.Common.{◌≡◌, inl, inr, ℕ, ◌+◌, ◌-◌, ◌<◌, ◌≤◌, Bool, true, false, List, [], ◌∷◌, ◌++◌, length, map, sum, refl, sym, ◌∙◌, ap, subst, arith, append-nil}
use Rattle.std.proofs.lemmas.Bool.{cases_lt}
use Rattle.std.proofs.lemmas.List.Sums.{sum_by-cons, sum_by-append}
use Rattle.rolling_chunks.specs.declared.spans.Span.{Span}
use Rattle.rolling_chunks.specs.Cuts.{longest, may_end, standing_cuts, last_after, lengths_after, standing_lengths, chunk_lengths}
use Rattle.rolling_chunks.specs.Pushes.{Progress, progress, last_length}
use Rattle.rolling_chunks.specs.Spans.{spans_from, spans}
use Rattle.rolling_chunks.specs.Laws.{AreCuts, AreChunkSizes}
use Rattle.rolling_chunks.proofs.Places.{Rule, lengths_after-push}
use Rattle.rolling_chunks.proofs.TextCuts.{last_standing, last_standing-within, standing_are, cuts-left, cuts-whole}
use Rattle.rolling_chunks.proofs.Covering.{span_sizes}

-- ---- sums of lengths

-- the lengths up to the last place add up to it
sum_up_to : (rule : Rule) (n c : ℕ) (xs : List ℕ) → AreCuts rule n c xs → c + sum (lengths_after c xs) ≡ last_after c xs
unfolding AreCuts lengths_after last_after
sum_up_to rule n c [] h = omega arith
sum_up_to rule n c (x ∷ xs) h = omega (arith, h.0.after, sum_up_to rule n x xs h.1, sum_by-cons (λ n. n) (x - c) (lengths_after x xs))

sum_is : (m : ℕ) (text : List ℕ) → sum (standing_lengths m text) ≡ last_standing m text
sum_is m text = omega (arith, sum_up_to (may_end m text) (length text) 0 (standing_cuts m text) (standing_are m text))

pub sum_within : (m : ℕ) (text : List ℕ) → sum (standing_lengths m text) ≤ length text
sum_within m text = omega (arith, sum_is m text, last_standing-within m text)

pub sum_push : (ns : List ℕ) (n : ℕ) → sum (ns ++ n ∷ []) ≡ sum ns + n
sum_push ns n = omega (arith, sum_by-append (λ n. n) ns (n ∷ []), sum_by-cons (λ n. n) n [])

-- the cutter counts the bytes behind the standing chunks
pub len_is : (m : ℕ) (text : List ℕ) (p : Progress) → p ≡ progress m text → p.len ≡ length text - sum (standing_lengths m text)
unfolding progress
len_is m text p at = ap (λ (q : Progress). q.len) at ∙ ap (λ (n : ℕ). length text - n) (sym (sum_is m text))

-- ---- the end

lengths_left : (m : ℕ) (text : List ℕ) → sum (standing_lengths m text) < length text → chunk_lengths m text ≡ standing_lengths m text ++ (length text - sum (standing_lengths m text)) ∷ []
lengths_left m text left =
    ap (lengths_after 0) (cuts-left m text (omega (arith, left, sum_is m text)))
    ∙ lengths_after-push 0 (standing_cuts m text) (length text)
    ∙ ap (λ (n : ℕ). standing_lengths m text ++ (length text - n) ∷ []) (sym (sum_is m text))

lengths_whole : (m : ℕ) (text : List ℕ) → length text ≤ sum (standing_lengths m text) → chunk_lengths m text ≡ standing_lengths m text
lengths_whole m text none = ap (lengths_after 0) (cuts-whole m text (omega (arith, none, sum_is m text)))

-- by how many bytes are left over
pub ended_lengths : (m : ℕ) (text : List ℕ) (p : Progress) (left : Bool) → p ≡ progress m text → (left ≡ true → 1 ≤ p.len) → (left ≡ false → p.len ≡ 0)
    → chunk_lengths m text ≡ standing_lengths m text ++ last_length left (standing_lengths m text) text
ended_lengths m text p true at some none = lengths_left m text (omega (arith, some refl, len_is m text p at))
ended_lengths m text p false at some none = lengths_whole m text (omega (arith, none refl, len_is m text p at)) ∙ sym (append-nil (standing_lengths m text))

-- ---- none is longer than the longest

lengths_of_spans : (start : ℕ) (lens : List ℕ) → map (λ (s : Span). s.len) (spans_from start lens) ≡ lens
unfolding spans_from
lengths_of_spans start [] = refl
lengths_of_spans start (x ∷ lens) = ap (λ (ns : List ℕ). x ∷ ns) (lengths_of_spans (start + x) lens)

sizes : (text : List ℕ) → AreChunkSizes longest (chunk_lengths longest text)
unfolding spans
sizes text = subst (AreChunkSizes longest) (lengths_of_spans 0 (chunk_lengths longest text)) (span_sizes longest text (omega arith))

last_size : (m : ℕ) (ns : List ℕ) (n : ℕ) → AreChunkSizes m (ns ++ n ∷ []) → n ≤ m
unfolding AreChunkSizes
last_size m [] n are = are.1
last_size m (x ∷ []) n are = are.2.1
last_size m (x ∷ y ∷ ns) n are = last_size m (y ∷ ns) n are.2

pub len_short : (text : List ℕ) (p : Progress) → p ≡ progress longest text → p.len ≤ longest
len_short text p at =
    let before = standing_lengths longest text in
    elim (cases_lt (sum before) (length text)) [
      | inl left ↦
          let last = last_size longest before (length text - sum before) (subst (AreChunkSizes longest) (lengths_left longest text left) (sizes text)) in
          omega (arith, last, len_is longest text p at)
      | inr none ↦ omega (arith, none, len_is longest text p at)
    ]

-- a chunk that ends with the text
pub last_short : (text before : List ℕ) (n : ℕ) → standing_lengths longest text ≡ before ++ n ∷ [] → length text ≤ sum before + n → n ≤ longest
last_short text before n are whole =
    let all : chunk_lengths longest text ≡ before ++ n ∷ [] = lengths_whole longest text (omega (arith, ap sum are, sum_push before n, whole)) ∙ are in
    last_size longest before n (subst (AreChunkSizes longest) all (sizes text))
