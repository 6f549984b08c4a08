-- The spans of a text, as it is cut and as they cover it.
use Rattle.std.proofs.Common.{◌≡◌, ℕ, ◌+◌, ◌-◌, ◌<◌, ◌≤◌, true, false, nat_le, ◌&&◌, ◌||◌, ◌==◌, List, [], ◌∷◌, ◌++◌, length, take, drop, map, sum, flat_map, Some, None, refl, sym, ap, ◌∙◌, subst, inl, inr, arith, eq-eqb, eqb-true, le-leb, leb-true, take-append-drop, drop-drop, append-nil, zero-add, length-drop}
use Rattle.std.proofs.lemmas.Bool.{cases_lt, both_ways, or_left, or_right, or_cases, and_from, and_parts}
use Rattle.std.proofs.Math.Seq.{take-add}
use Rattle.std.proofs.lemmas.List.{take_all, take-take, drop_all, length-take-le}
use Rattle.std.proofs.lemmas.List.Sums.{sum_by-cons, sum_by-append}
use Rattle.rolling_chunks.specs.declared.spans.Span.{Span}
use Rattle.rolling_chunks.specs.Cuts.{is_anchor, may_end, may_end_or_stop, cuts, cuts_after, standing_cuts, last_after, lengths_after, chunk_lengths, standing_lengths}
use Rattle.rolling_chunks.specs.Pushes.{Progress, progress, IsFinish, Runs}
use Rattle.rolling_chunks.specs.Spans.{spans_from, spans}
use Rattle.rolling_chunks.specs.Laws.{IsNextCut, AreCuts, StandFrom, part, SpansCover, AreChunkSizes, SpanSizes, NothingToCut}
use Rattle.rolling_chunks.proofs.Places.{Rule, last_after-push}
use Rattle.rolling_chunks.proofs.TextCuts.{last_standing, last_standing-within, standing_are, cuts_are, cuts-left, cuts-whole}

-- ---- spans side by side

pub spans_from-push : (start : ℕ) (lens : List ℕ) (len : ℕ) → spans_from start (lens ++ len ∷ []) ≡ spans_from start lens ++ record { start = start + sum lens; len = len } ∷ []
unfolding spans_from
spans_from-push start [] len = ap (λ (n : ℕ). let s : Span = record { start = n; len = len } in s ∷ []) (omega arith)
spans_from-push start (x ∷ lens) len =
    let place : start + x + sum lens ≡ start + sum (x ∷ lens) = omega (arith, sum_by-cons (λ n. n) x lens) in
    ap (λ (more : List Span). let s : Span = record { start = start; len = x } in s ∷ more)
    (spans_from-push (start + x) lens len ∙ ap (λ (n : ℕ). let s : Span = record { start = n; len = len } in spans_from (start + x) lens ++ s ∷ []) place)

pub spans_from-push_start : (lens : List ℕ) (len : ℕ) → spans_from 0 (lens ++ len ∷ []) ≡ spans_from 0 lens ++ record { start = sum lens; len = len } ∷ []
spans_from-push_start lens len =
    spans_from-push 0 lens len ∙ ap (λ (n : ℕ). let s : Span = record { start = n; len = len } in spans_from 0 lens ++ s ∷ []) (zero-add (sum lens))

pub sum-push : (lens : List ℕ) (len : ℕ) → sum (lens ++ len ∷ []) ≡ sum lens + len
sum-push lens len = omega (arith, sum_by-append (λ n. n) lens (len ∷ []), sum_by-cons (λ n. n) len [])

-- the lengths up to the last place add up to it
pub sum-lengths_after : (rule : Rule) (n c : ℕ) (xs : List ℕ) → AreCuts rule n c xs → c + sum (lengths_after c xs) ≡ last_after c xs
unfolding AreCuts lengths_after last_after
sum-lengths_after rule n c [] h = omega arith
sum-lengths_after rule n c (x ∷ xs) h =
    omega (arith, h.0.after, sum-lengths_after rule n x xs h.1, sum_by-cons (λ n. n) (x - c) (lengths_after x xs))

pub sum-standing : (m : ℕ) (text : List ℕ) → sum (standing_lengths m text) ≤ length text
sum-standing m text =
    omega (arith, sum-lengths_after (may_end m text) (length text) 0 (standing_cuts m text) (standing_are m text), last_standing-within m text)

-- ---- the laws

StandFrom-lengths : (rule : Rule) (n c : ℕ) (xs : List ℕ) → AreCuts rule n c xs → StandFrom c (last_after c xs) (spans_from c (lengths_after c xs))
unfolding AreCuts StandFrom lengths_after last_after spans_from
StandFrom-lengths rule n c [] h = refl
StandFrom-lengths rule n c (x ∷ xs) h =
    let next : c + (x - c) ≡ x = omega (arith, h.0.after) in
    (refl, subst (λ (i : ℕ). StandFrom i (last_after x xs) (spans_from i (lengths_after x xs))) (sym next) (StandFrom-lengths rule n x xs h.1))

last_after-cuts : (m : ℕ) (text : List ℕ) → last_after 0 (cuts m text) ≡ length text
last_after-cuts m text =
    elim (cases_lt (last_standing m text) (length text)) [
      | inl left ↦ ap (last_after 0) (cuts-left m text left) ∙ last_after-push 0 (standing_cuts m text) (length text)
      | inr none ↦ ap (last_after 0) (cuts-whole m text none) ∙ omega (arith, last_standing-within m text)
    ]

stand-spans : (m : ℕ) (text : List ℕ) → StandFrom 0 (length text) (spans m text)
unfolding spans
stand-spans m text =
    subst (λ (n : ℕ). StandFrom 0 n (spans_from 0 (chunk_lengths m text))) (last_after-cuts m text)
    (StandFrom-lengths (may_end_or_stop m text) (length text) 0 (cuts m text) (cuts_are m text))

joined : (text : List ℕ) (start : ℕ) (ss : List Span) → StandFrom start (length text) ss → flat_map (part text) ss ≡ drop start text
unfolding StandFrom
joined text start [] h = sym (drop_all start text (omega arith))
joined text start (s ∷ ss) h =
    let rest : drop (start + s.len) text ≡ drop s.len (drop start text) = sym (drop-drop s.len start text) in
    ap (λ (i : ℕ). take s.len (drop i text) ++ flat_map (part text) ss) h.0
    ∙ ap (λ (bytes : List ℕ). take s.len (drop start text) ++ bytes) (joined text (start + s.len) ss h.1 ∙ rest)
    ∙ take-append-drop s.len (drop start text)

pub spans_cover : SpansCover
spans_cover m text = let h = stand-spans m text in (h, joined text 0 (spans m text) h)

map-spans_from : (start : ℕ) (lens : List ℕ) → map (λ s. s.len) (spans_from start lens) ≡ lens
unfolding spans_from
map-spans_from start [] = refl
map-spans_from start (x ∷ lens) = ap (λ (ns : List ℕ). x ∷ ns) (map-spans_from (start + x) lens)

-- a chunk of the greatest length ends
ends-longest : (m : ℕ) (text : List ℕ) (c : ℕ) → 2048 ≤ m → may_end_or_stop m text c (c + m) ≡ true
unfolding may_end_or_stop may_end
ends-longest m text c low =
    let whole : c + m - c ≡ m = omega arith in
    or_right (c + m == length text) (nat_le 2048 (c + m - c) && ((c + m - c == m) || is_anchor text (c + m)))
    (and_from (nat_le 2048 (c + m - c)) ((c + m - c == m) || is_anchor text (c + m)) (le-leb 2048 (c + m - c) (omega arith))
    (or_left (c + m - c == m) (is_anchor text (c + m)) (eq-eqb (c + m - c) m whole)))

within-longest : (m : ℕ) (text : List ℕ) (n c e : ℕ) → 2048 ≤ m → IsNextCut (may_end_or_stop m text) n c e → e - c ≤ m
within-longest m text n c e low h =
    elim (cases_lt m (e - c)) [
      | inl long ↦ absurd (both_ways (may_end_or_stop m text c (c + m)) (h.least (c + m) (omega arith) (omega arith)) (ends-longest m text c low))
      | inr within ↦ within
    ]

-- a chunk that ends before the text is not short
ends-long : (m : ℕ) (text : List ℕ) (c e : ℕ) → e < length text → may_end_or_stop m text c e ≡ true → 2048 ≤ e - c
unfolding may_end_or_stop may_end
ends-long m text c e before ends =
    elim (or_cases (e == length text) (nat_le 2048 (e - c) && ((e - c == m) || is_anchor text e)) ends) [
      | inl last ↦ absurd (omega (arith, eqb-true e (length text) last))
      | inr here ↦ leb-true 2048 (e - c) (and_parts (nat_le 2048 (e - c)) ((e - c == m) || is_anchor text e) here).0
    ]

sizes : (m : ℕ) (text : List ℕ) (c : ℕ) (xs : List ℕ) → 2048 ≤ m → AreCuts (may_end_or_stop m text) (length text) c xs → AreChunkSizes m (lengths_after c xs)
unfolding AreCuts AreChunkSizes lengths_after
sizes m text c [] low h = tt
sizes m text c (x ∷ []) low h = (omega (arith, h.0.after), within-longest m text (length text) c x low h.0)
sizes m text c (x ∷ y ∷ xs) low h =
    let before : x < length text = omega (arith, h.1.0.after, h.1.0.within) in
    (ends-long m text c x before h.0.ends, within-longest m text (length text) c x low h.0, sizes m text x (y ∷ xs) low h.1)

pub span_sizes : SpanSizes
unfolding spans
span_sizes m text low =
    subst (AreChunkSizes m) (sym (map-spans_from 0 (chunk_lengths m text))) (sizes m text 0 (cuts m text) low (cuts_are m text))

pub nothing_to_cut : NothingToCut
unfolding spans spans_from lengths_after cuts cuts_after
nothing_to_cut m = refl

-- ---- a text that is cut run by run

-- how far the text is cut: what the cutter knows, the spans so far, and where the next begins
pub record Cutting (m : ℕ) (text : List ℕ) (i : ℕ) (cutter : Progress) (done : List Span) (start : ℕ) : Type 0 where
  pub follows : cutter ≡ progress m (take i text)
  pub done_are : done ≡ spans_from 0 (standing_lengths m (take i text))
  pub start_is : start ≡ sum (standing_lengths m (take i text))

-- a run that ends a chunk
pub Cutting-run : (m : ℕ) (text : List ℕ) (start len : ℕ) (cutter cutter' : Progress) (done : List Span) → start + len ≤ length text → Cutting m text start cutter done start → Runs m cutter (take len (take (length text - start) (drop start text))) true cutter'
    → Cutting m text (start + len) cutter' (done ++ record { start = start; len = len } ∷ []) (start + len)
Cutting-run m text start len cutter cutter' done within h runs =
    let front : List ℕ = take start text in
    let grown : front ++ take len (take (length text - start) (drop start text)) ≡ take (start + len) text = ap (λ (l : List ℕ). front ++ l) (take-take len (length text - start) (drop start text) (omega arith)) ∙ sym (take-add start len text) in
    let before : List ℕ = standing_lengths m front in
    let last : length (take (start + len) text) - sum before ≡ len = omega (arith, length-take-le (start + len) text within, h.start_is) in
    let lens : standing_lengths m (take (start + len) text) ≡ before ++ len ∷ [] =
    ap (standing_lengths m) (sym grown) ∙ runs.lengths front h.follows ∙ ap (λ (whole : List ℕ). before ++ (length whole - sum before) ∷ []) grown ∙ ap (λ (n : ℕ). before ++ n ∷ []) last in
    record {
      follows = runs.follows front h.follows ∙ ap (progress m) grown;
      done_are = ap (λ (ss : List Span). let s : Span = record { start = start; len = len } in ss ++ s ∷ []) h.done_are
          ∙ ap (λ (n : ℕ). let s : Span = record { start = n; len = len } in spans_from 0 before ++ s ∷ []) h.start_is
          ∙ sym (spans_from-push_start before len) ∙ ap (spans_from 0) (sym lens);
      start_is = ap (λ (n : ℕ). n + len) h.start_is ∙ sym (sum-push before len) ∙ ap sum (sym lens);
    }

-- a run that ends none: the text is pushed
pub Cutting-rest : (m : ℕ) (text : List ℕ) (start len : ℕ) (cutter cutter' : Progress) (done : List Span) → start ≤ length text → len ≡ length (take (length text - start) (drop start text)) → Cutting m text start cutter done start → Runs m cutter (take len (take (length text - start) (drop start text))) false cutter'
    → Cutting m text (length text) cutter' done start
Cutting-rest m text start len cutter cutter' done within all h runs =
    let front : List ℕ = take start text in
    let all' : take (length text - start) (drop start text) ≡ drop start text = take_all (length text - start) (drop start text) (omega (arith, length-drop start text)) in
    let rest : take len (take (length text - start) (drop start text)) ≡ drop start text = take_all len (take (length text - start) (drop start text)) (omega (arith, all)) ∙ all' in
    let whole : take (length text) text ≡ text = take_all (length text) text (omega arith) in
    let grown : front ++ take len (take (length text - start) (drop start text)) ≡ take (length text) text = ap (λ (l : List ℕ). front ++ l) rest ∙ take-append-drop start text ∙ sym whole in
    let lens : standing_lengths m (take (length text) text) ≡ standing_lengths m front = ap (standing_lengths m) (sym grown) ∙ runs.lengths front h.follows ∙ append-nil (standing_lengths m front) in
    record { follows = runs.follows front h.follows ∙ ap (progress m) grown; done_are = h.done_are ∙ ap (spans_from 0) (sym lens); start_is = h.start_is ∙ ap sum (sym lens) }

-- the next span begins within the text
pub Cutting-within : (m : ℕ) (text : List ℕ) (i : ℕ) (cutter : Progress) (done : List Span) (start : ℕ) → i ≤ length text → Cutting m text i cutter done start → start ≤ length text
Cutting-within m text i cutter done start within h = omega (arith, h.start_is, sum-standing m (take i text), length-take-le i text within)

-- ---- the end of the text

pub spans-none : (m : ℕ) (text : List ℕ) (i : ℕ) (cutter cutter' : Progress) (done : List Span) (start : ℕ) → length text ≤ i → Cutting m text i cutter done start → IsFinish m cutter None cutter' → done ≡ spans m text
unfolding spans
spans-none m text i cutter cutter' done start all h finish =
    let whole : take i text ≡ text = take_all i text all in
    let lens : chunk_lengths m text ≡ standing_lengths m (take i text) = finish.lengths text (h.follows ∙ ap (progress m) whole) ∙ append-nil (standing_lengths m text) ∙ ap (standing_lengths m) (sym whole) in
    h.done_are ∙ ap (spans_from 0) (sym lens)

pub spans-some : (m : ℕ) (text : List ℕ) (i len : ℕ) (cutter cutter' : Progress) (done : List Span) (start : ℕ) → length text ≤ i → Cutting m text i cutter done start → IsFinish m cutter (Some len) cutter'
    → done ++ record { start = start; len = len } ∷ [] ≡ spans m text
unfolding spans
spans-some m text i len cutter cutter' done start all h finish =
    let whole : take i text ≡ text = take_all i text all in
    let lens : List ℕ = standing_lengths m (take i text) in
    let more : chunk_lengths m text ≡ lens ++ len ∷ [] = finish.lengths text (h.follows ∙ ap (progress m) whole) ∙ ap (λ (t : List ℕ). standing_lengths m t ++ len ∷ []) (sym whole) in
    ap (λ (ss : List Span). let s : Span = record { start = start; len = len } in ss ++ s ∷ []) h.done_are
    ∙ ap (λ (n : ℕ). let s : Span = record { start = n; len = len } in spans_from 0 lens ++ s ∷ []) h.start_is
    ∙ sym (spans_from-push_start lens len) ∙ ap (spans_from 0) (sym more)

pub Cutting-start : (m : ℕ) (text : List ℕ) (cutter : Progress) (done : List Span) → cutter ≡ progress m [] → done ≡ [] → Cutting m text 0 cutter done 0
unfolding spans_from standing_cuts cuts_after lengths_after
Cutting-start m text cutter done new none = record { follows = new; done_are = none; start_is = omega arith }

-- the same under other names
pub Cutting-same : (m : ℕ) (text : List ℕ) (i : ℕ) (cutter : Progress) (done done' : List Span) (start start' : ℕ) → Cutting m text i cutter done start → done' ≡ done → start' ≡ start → Cutting m text i cutter done' start'
Cutting-same m text i cutter done done' start start' h e e' =
    record { follows = h.follows; done_are = e ∙ h.done_are; start_is = e' ∙ h.start_is }
