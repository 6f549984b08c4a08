-- Runs of pushes.
use Rattle.std.proofs.Common.{◌≡◌, ℕ, ◌+◌, ◌-◌, ◌<◌, ◌≤◌, Bool, true, false, nat_le, ◌||◌, ◌==◌, if◌then◌else◌, List, [], ◌∷◌, ◌++◌, length, take, drop, sum, flat_map, option_to_list, get_or, Some, None, All, refl, sym, ap, ◌∙◌, subst, inl, inr, arith, eq-eqb, le-leb, append-nil, append_assoc, length-append, length-drop, take-append-drop}
use Rattle.std.proofs.Math.Seq.{take-add, drop-append_seam}
use Rattle.std.proofs.lemmas.Bool.{cases_lt, cases_eq, and_left, and_right, and_from, or_from, or_left, or_right, lt-leb, ne_eqb}
use Rattle.std.proofs.lemmas.List.{length_push, take_more, length-take-le}
use Rattle.std.proofs.lemmas.List.Elements.{All-nil, All-cons, All-contains}
use Rattle.circular_buffer.specs.Buffer.{keep_last}
use Rattle.rolling_chunks.specs.Cuts.{is_anchor, may_end, standing_cuts, last_after, lengths_after, standing_lengths}
use Rattle.rolling_chunks.specs.Pushes.{Progress, progress, IsPush, Runs, last_length}
use Rattle.rolling_chunks.specs.Laws.{AreCuts, Pushed, PushesRun, Ran, PartsCut}
use Rattle.rolling_chunks.specs.Steps.{ends_with}
use Rattle.rolling_chunks.proofs.Places.{Rule, last_after-push, lengths_after-push}
use Rattle.rolling_chunks.proofs.TextCuts.{last_standing, last_standing-within, standing_are, is_anchor-append, standing-run}
use Rattle.rolling_chunks.proofs.Behind.{is_anchor-drop}
use Rattle.rolling_chunks.proofs.Covering.{sum-push, sum-lengths_after}
use Rattle.rolling_chunks.proofs.Pushing.{same_progress, window-progress, len-progress, standing_lengths-nil}

-- ---- lengths and places

sum_is : (m : ℕ) (text : List ℕ) → sum (standing_lengths m text) ≡ last_standing m text
sum_is m text = omega (arith, sum-lengths_after (may_end m text) (length text) 0 (standing_cuts m text) (standing_are m text))

-- each place is within the last
within_last : (rule : Rule) (n c : ℕ) (xs : List ℕ) → AreCuts rule n c xs → (c ≤ last_after c xs) × All (λ e. e ≤ last_after c xs) xs
unfolding AreCuts last_after
within_last rule n c [] h = (omega arith, All-nil (λ e. e ≤ c))
within_last rule n c (x ∷ xs) h =
    let rest = within_last rule n x xs h.1 in
    (omega (arith, h.0.after, rest.0), All-cons (λ e. e ≤ last_after x xs) x xs rest.0 rest.1)

-- where a chunk ends with a byte, the standing chunks are the whole text
cut_sum : (m : ℕ) (text : List ℕ) (byte len : ℕ) (old new : Progress) → old ≡ progress m text → IsPush m old byte (Some len) new → sum (standing_lengths m (text ++ byte ∷ [])) ≡ length text + 1
cut_sum m text byte len old new at push =
    let grown = text ++ byte ∷ [] in
    let has = (push.cut text at).0 refl in
    let most = All-contains (λ e. e ≤ last_standing m grown) (standing_cuts m grown) (length text + 1) (within_last (may_end m grown) (length grown) 0 (standing_cuts m grown) (standing_are m grown)).1 has in
    omega (arith, most, sum_is m grown, last_standing-within m grown, length_push text byte)

pushed_some : (m : ℕ) (text : List ℕ) (byte len : ℕ) (old new : Progress) → old ≡ progress m text → IsPush m old byte (Some len) new
    → standing_lengths m (text ++ byte ∷ []) ≡ standing_lengths m text ++ (length (text ++ byte ∷ []) - sum (standing_lengths m text)) ∷ []
pushed_some m text byte len old new at push =
    let before = standing_lengths m text in
    let is : len ≡ length (text ++ byte ∷ []) - sum before = omega (arith, ap sum (push.lengths text at), sum-push before len, cut_sum m text byte len old new at push, length_push text byte) in
    push.lengths text at ∙ ap (λ (n : ℕ). before ++ n ∷ []) is

-- ---- one push after another

pub runs_none : (m : ℕ) (p : Progress) → Runs m p [] false p
runs_none m p = record {
  follows = λ text at. at ∙ ap (progress m) (sym (append-nil text));
  lengths = λ text at. ap (standing_lengths m) (append-nil text) ∙ sym (append-nil (standing_lengths m text));
}

-- the lengths after a run that ends no chunk
pub same_lengths : (m : ℕ) (old mid : Progress) (bytes text : List ℕ) → Runs m old bytes false mid → old ≡ progress m text → standing_lengths m (text ++ bytes) ≡ standing_lengths m text
same_lengths m old mid bytes text runs at = runs.lengths text at ∙ append-nil (standing_lengths m text)

runs_on : (m : ℕ) (old mid new : Progress) (bytes : List ℕ) (byte : ℕ) → Runs m old bytes false mid → IsPush m mid byte None new → Runs m old (bytes ++ byte ∷ []) false new
runs_on m old mid new bytes byte runs push = record {
  follows = λ text at. push.follows (text ++ bytes) (runs.follows text at) ∙ ap (progress m) (append_assoc text bytes (byte ∷ []));
  lengths = λ text at.
      ap (standing_lengths m) (sym (append_assoc text bytes (byte ∷ [])))
      ∙ push.lengths (text ++ bytes) (runs.follows text at) ∙ append-nil (standing_lengths m (text ++ bytes))
      ∙ runs.lengths text at;
}

runs_to_cut : (m : ℕ) (old mid new : Progress) (bytes : List ℕ) (byte len : ℕ) → Runs m old bytes false mid → IsPush m mid byte (Some len) new → Runs m old (bytes ++ byte ∷ []) true new
runs_to_cut m old mid new bytes byte len runs push = record {
  follows = λ text at. push.follows (text ++ bytes) (runs.follows text at) ∙ ap (progress m) (append_assoc text bytes (byte ∷ []));
  lengths = λ text at.
      let after : List ℕ → List ℕ → List ℕ = λ (before whole : List ℕ). before ++ (length whole - sum before) ∷ [] in
      ap (standing_lengths m) (sym (append_assoc text bytes (byte ∷ [])))
      ∙ pushed_some m (text ++ bytes) byte len mid new (runs.follows text at) push
      ∙ ap (λ (before : List ℕ). after before ((text ++ bytes) ++ byte ∷ [])) (same_lengths m old mid bytes text runs at)
      ∙ ap (λ (whole : List ℕ). after (standing_lengths m text) whole) (append_assoc text bytes (byte ∷ []));
}

-- pushes behind a run that ends no chunk, of which none answers
runs_pushed : (m : ℕ) (bytes front : List ℕ) (old cur mid : Progress) → Runs m old front false cur → Pushed m cur bytes [] mid → Runs m old (front ++ bytes) false mid
unfolding Pushed
runs_pushed m [] front old cur mid runs h =
    subst (λ (p : Progress). Runs m old (front ++ []) false p) (sym h.1) (subst (λ (l : List ℕ). Runs m old l false cur) (sym (append-nil front)) runs)
runs_pushed m (b ∷ bytes) front old cur mid runs (None, next, more, push, split, rest) =
    subst (λ (l : List ℕ). Runs m old l false mid) (append_assoc front (b ∷ []) bytes)
    (runs_pushed m bytes (front ++ b ∷ []) old next mid (runs_on m old cur next front b runs push) (subst (λ (ns : List ℕ). Pushed m next bytes ns mid) (sym split) rest))
runs_pushed m (b ∷ bytes) front old cur mid runs (Some len, next, more, push, split, rest) = absurd (cc)

pub pushes_run : PushesRun
pushes_run m bytes byte old mid new None pushed push = runs_on m old mid new bytes byte (runs_pushed m bytes [] old old mid (runs_none m old) pushed) push
pushes_run m bytes byte old mid new (Some len) pushed push = runs_to_cut m old mid new bytes byte len (runs_pushed m bytes [] old old mid (runs_none m old) pushed) push

-- as a loop over the bytes has it
pub runs_more : (m : ℕ) (old mid new : Progress) (bytes : List ℕ) (i : ℕ) → i < length bytes → Runs m old (take i bytes) false mid → IsPush m mid (get_or bytes i 0) None new → Runs m old (take (i + 1) bytes) false new
runs_more m old mid new bytes i within runs push =
    subst (λ (l : List ℕ). Runs m old l false new) (sym (take_more bytes i 0 within)) (runs_on m old mid new (take i bytes) (get_or bytes i 0) runs push)

pub runs_last : (m : ℕ) (old mid new : Progress) (bytes : List ℕ) (i len : ℕ) → i < length bytes → Runs m old (take i bytes) false mid → IsPush m mid (get_or bytes i 0) (Some len) new → Runs m old (take (i + 1) bytes) true new
runs_last m old mid new bytes i len within runs push =
    subst (λ (l : List ℕ). Runs m old l true new) (sym (take_more bytes i 0 within)) (runs_to_cut m old mid new (take i bytes) (get_or bytes i 0) len runs push)

-- ---- where a run goes on to

-- a chunk that is neither long enough nor the longest, or at no anchor, does not end
pub goes_on : (m len from k : ℕ) (anchor : Bool) → from ≡ 48 + (2047 - len) → 48 < k → (from < k → anchor ≡ false) → len + (k - 48) < m → ends_with m (len + (k - 48)) anchor ≡ false
goes_on m len from k anchor is after none short =
    let n : ℕ = len + (k - 48) in
    let other : (n == m) ≡ false = ne_eqb n m (λ same. absurd (omega (arith, same))) in
    elim (cases_lt n 2048) [
      | inl low ↦ and_left (nat_le 2048 n) ((n == m) || anchor) (lt-leb 2048 n low)
      | inr long ↦ and_right (nat_le 2048 n) ((n == m) || anchor) (or_from (n == m) anchor other (none (omega arith)))
    ]

-- at an anchor behind these it does
pub ends_there : (m len from k : ℕ) (anchor : Bool) → from ≡ 48 + (2047 - len) → from < k → anchor ≡ true → ends_with m (len + (k - 48)) anchor ≡ true
ends_there m len from k anchor is past there =
    let n : ℕ = len + (k - 48) in
    and_from (nat_le 2048 n) ((n == m) || anchor) (le-leb 2048 n (omega arith)) (or_right (n == m) anchor there)

-- and at the greatest length, as nowhere else
pub ends_at_most : (m len from most k : ℕ) (anchor : Bool) → 2048 ≤ m → len < m → from ≡ 48 + (2047 - len) → most ≡ 48 + (m - len) → 48 < k → k ≤ most → (from < k → anchor ≡ false) → ends_with m (len + (k - 48)) anchor ≡ (k == most)
ends_at_most m len from most k anchor low short is at_most after within none =
    let n : ℕ = len + (k - 48) in
    elim (cases_eq k most) [
      | inl same ↦
          let whole : n ≡ m = omega (arith, same) in
          and_from (nat_le 2048 n) ((n == m) || anchor) (le-leb 2048 n (omega arith)) (or_left (n == m) anchor (eq-eqb n m whole)) ∙ sym (eq-eqb k most same)
      | inr ne ↦
          let before : k < most = omega (arith, ne) in
          goes_on m len from k anchor is after none (omega arith) ∙ sym (ne_eqb k most ne)
    ]

-- ---- a run behind 48 bytes

-- a place among the bytes, from the 48th on, is an anchor of the text where it is one of the bytes
anchor-within : (text bytes : List ℕ) (t k : ℕ) → 48 ≤ k → k ≤ t → t ≤ length bytes → is_anchor (text ++ take t bytes) (length text + k) ≡ is_anchor bytes k
anchor-within text bytes t k full low within =
    let part : List ℕ = take t bytes in
    let behind : drop (length text) (text ++ part) ≡ part = drop-append_seam text part in
    let place : length text + k - length text ≡ k = omega arith in
    let long : k ≤ length part = omega (arith, length-take-le t bytes within) in
    sym (is_anchor-drop (text ++ part) (length text) (length text + k) (omega arith))
    ∙ ap (λ (l : List ℕ). is_anchor l (length text + k - length text)) behind ∙ ap (is_anchor part) place
    ∙ sym (is_anchor-append part (drop t bytes) k long) ∙ ap (λ (l : List ℕ). is_anchor l k) (take-append-drop t bytes)

-- the rule at a place behind 48 of the bytes
rule-within : (m : ℕ) (text bytes : List ℕ) (t j : ℕ) (mid : Progress) → 0 < j → 48 + j ≤ t → t ≤ length bytes → mid ≡ progress m (text ++ take 48 bytes)
    → may_end m (text ++ take t bytes) (last_standing m (text ++ take 48 bytes)) (length (text ++ take 48 bytes) + j) ≡ ends_with m (mid.len + (48 + j - 48)) (is_anchor bytes (48 + j))
unfolding may_end
rule-within m text bytes t j mid some low within at =
    let front : List ℕ = text ++ take 48 bytes in
    let c : ℕ = last_standing m front in
    let long : length front ≡ length text + 48 = omega (arith, length-append text (take 48 bytes), length-take-le 48 bytes (omega arith)) in
    let len : length front + j - c ≡ mid.len + (48 + j - 48) = omega (arith, len-progress m front mid at, last_standing-within m front) in
    let place : length front + j ≡ length text + (48 + j) = omega (arith, long) in
    let anchor : is_anchor (text ++ take t bytes) (length front + j) ≡ is_anchor bytes (48 + j) = ap (is_anchor (text ++ take t bytes)) place ∙ anchor-within text bytes t (48 + j) (omega arith) low within in
    ap (λ (n : ℕ). ends_with m n (is_anchor (text ++ take t bytes) (length front + j))) len ∙ ap (ends_with m (mid.len + (48 + j - 48))) anchor

-- what the run that stops at a place leaves
pub runs_behind : (m : ℕ) (old mid : Progress) (bytes rest window : List ℕ) (t len : ℕ) (ends : Bool) → 48 < t → t ≤ length bytes → Runs m old (take 48 bytes) false mid
    → ((k : ℕ) → 48 < k → k < t → ends_with m (mid.len + (k - 48)) (is_anchor bytes k) ≡ false) → ends_with m (mid.len + (t - 48)) (is_anchor bytes t) ≡ ends
    → rest ≡ take (t - 48) (drop 48 bytes) → ((text : List ℕ) → mid.window ≡ keep_last 48 text → window ≡ keep_last 48 (text ++ rest)) → len ≡ (if ends then 0 else mid.len + (t - 48))
    → Runs m old (take t bytes) ends (record { window = window; len = len })
runs_behind m old mid bytes rest window t len ends after within runs none last part moved is = record {
  follows = λ text at.
      let front : List ℕ = text ++ take 48 bytes in
      let mid_at : mid ≡ progress m front = runs.follows text at in
      let windowed : window ≡ keep_last 48 (text ++ take t bytes) =
      moved front (window-progress m front mid mid_at) ∙ ap (keep_last 48) (joined text) in
      same_progress m (text ++ take t bytes) window len windowed (is ∙ counted text mid_at ends (cuts text mid_at));
  lengths = λ text at.
      let front : List ℕ = text ++ take 48 bytes in
      let mid_at : mid ≡ progress m front = runs.follows text at in
      let before : List ℕ = standing_lengths m text in
      ap (lengths_after 0) (cuts text mid_at) ∙ lengthened text ends
      ∙ ap (λ (lens : List ℕ). lens ++ last_length ends lens (text ++ take t bytes)) (same_lengths m old mid (take 48 bytes) text runs at);
}
  where
    joined : (text : List ℕ) → (text ++ take 48 bytes) ++ rest ≡ text ++ take t bytes
    joined text =
        let place : 48 + (t - 48) ≡ t = omega arith in
        append_assoc text (take 48 bytes) rest ∙ ap (λ (l : List ℕ). text ++ l) (ap (λ (l : List ℕ). take 48 bytes ++ l) part ∙ sym (take-add 48 (t - 48) bytes) ∙ ap (λ (n : ℕ). take n bytes) place)

    rest_long : length rest ≡ t - 48
    rest_long = ap length part ∙ length-take-le (t - 48) (drop 48 bytes) (omega (arith, length-drop 48 bytes))

    whole_long : (text : List ℕ) → length (text ++ take t bytes) ≡ length (text ++ take 48 bytes) + (t - 48)
    whole_long text = sym (ap length (joined text)) ∙ length-append (text ++ take 48 bytes) rest ∙ ap (λ (n : ℕ). length (text ++ take 48 bytes) + n) rest_long

    cuts : (text : List ℕ) → mid ≡ progress m (text ++ take 48 bytes) → standing_cuts m (text ++ take t bytes) ≡ standing_cuts m (text ++ take 48 bytes) ++ (if ends then length (text ++ take t bytes) ∷ [] else [])
    cuts text mid_at =
        let front : List ℕ = text ++ take 48 bytes in
        let rule : List ℕ → ℕ → Bool = λ (whole : List ℕ) (e : ℕ). may_end m whole (last_standing m front) e in
        let quiet : (j : ℕ) → 0 < j → j < length rest → rule (front ++ rest) (length front + j) ≡ false = λ j some low.
        ap (λ (whole : List ℕ). rule whole (length front + j)) (joined text) ∙ rule-within m text bytes t j mid some (omega (arith, rest_long)) within mid_at ∙ none (48 + j) (omega arith) (omega (arith, rest_long)) in
        let place : 48 + (t - 48) ≡ t = omega arith in
        let there : rule (front ++ rest) (length front + length rest) ≡ ends =
        ap (λ (whole : List ℕ). rule whole (length front + length rest)) (joined text) ∙ ap (λ (n : ℕ). rule (text ++ take t bytes) (length front + n)) rest_long
        ∙ rule-within m text bytes t (t - 48) mid (omega arith) (omega arith) within mid_at ∙ ap (λ (k : ℕ). ends_with m (mid.len + (k - 48)) (is_anchor bytes k)) place ∙ last in
        let end : length front + length rest ≡ length (text ++ take t bytes) = ap (λ (n : ℕ). length front + n) rest_long ∙ sym (whole_long text) in
        ap (standing_cuts m) (sym (joined text)) ∙ standing-run m front rest ends (omega (arith, rest_long)) quiet there
        ∙ ap (λ (e : ℕ). standing_cuts m front ++ (if ends then e ∷ [] else [])) end

    counted : (text : List ℕ) → mid ≡ progress m (text ++ take 48 bytes) → (b : Bool) → standing_cuts m (text ++ take t bytes) ≡ standing_cuts m (text ++ take 48 bytes) ++ (if b then length (text ++ take t bytes) ∷ [] else [])
        → (if b then 0 else mid.len + (t - 48)) ≡ length (text ++ take t bytes) - last_standing m (text ++ take t bytes)
    counted text mid_at true are =
        let front : List ℕ = text ++ take 48 bytes in
        let end : last_standing m (text ++ take t bytes) ≡ length (text ++ take t bytes) = ap (last_after 0) are ∙ last_after-push 0 (standing_cuts m front) (length (text ++ take t bytes)) in
        omega (arith, end)
    counted text mid_at false are =
        let front : List ℕ = text ++ take 48 bytes in
        let end : last_standing m (text ++ take t bytes) ≡ last_standing m front = ap (last_after 0) (are ∙ append-nil (standing_cuts m front)) in
        omega (arith, end, len-progress m front mid mid_at, last_standing-within m front, whole_long text)

    lengthened : (text : List ℕ) → (b : Bool)
        → lengths_after 0 (standing_cuts m (text ++ take 48 bytes) ++ (if b then length (text ++ take t bytes) ∷ [] else [])) ≡ standing_lengths m (text ++ take 48 bytes) ++ last_length b (standing_lengths m (text ++ take 48 bytes)) (text ++ take t bytes)
    lengthened text true =
        let front : List ℕ = text ++ take 48 bytes in
        lengths_after-push 0 (standing_cuts m front) (length (text ++ take t bytes)) ∙ ap (λ (n : ℕ). standing_lengths m front ++ (length (text ++ take t bytes) - n) ∷ []) (sym (sum_is m front))
    lengthened text false =
        let front : List ℕ = text ++ take 48 bytes in
        ap (lengths_after 0) (append-nil (standing_cuts m front)) ∙ sym (append-nil (standing_lengths m front))

-- ---- a whole text by runs

-- one run more: its lengths, and how many bytes are begun behind them
run_more : (m : ℕ) (before bytes : List ℕ) (begun : ℕ) (ends : Bool) (old next : Progress) → old ≡ progress m before → begun + sum (standing_lengths m before) ≡ length before → Runs m old bytes ends next
    → (standing_lengths m (before ++ bytes) ≡ standing_lengths m before ++ (if ends then (begun + length bytes) ∷ [] else [])) × ((if ends then 0 else begun + length bytes) + sum (standing_lengths m (before ++ bytes)) ≡ length (before ++ bytes))
run_more m before bytes begun true old next at count runs =
    let lens : List ℕ = standing_lengths m before in
    let last : length (before ++ bytes) - sum lens ≡ begun + length bytes = omega (arith, count, length-append before bytes) in
    let grown : standing_lengths m (before ++ bytes) ≡ lens ++ (begun + length bytes) ∷ [] = runs.lengths before at ∙ ap (λ (n : ℕ). lens ++ n ∷ []) last in
    (grown, omega (arith, ap sum grown, sum-push lens (begun + length bytes), count, length-append before bytes))
run_more m before bytes begun false old next at count runs =
    let grown : standing_lengths m (before ++ bytes) ≡ standing_lengths m before ++ [] = runs.lengths before at in
    (grown, omega (arith, ap sum (grown ∙ append-nil (standing_lengths m before)), count, length-append before bytes))

runs_go_on : (m : ℕ) (before : List ℕ) (begun : ℕ) (runs : List (List ℕ × Bool)) (lengths : List ℕ) (old last : Progress) → old ≡ progress m before → begun + sum (standing_lengths m before) ≡ length before → Ran m old begun runs lengths last
    → (last ≡ progress m (before ++ flat_map (λ run. run.0) runs)) × (standing_lengths m (before ++ flat_map (λ run. run.0) runs) ≡ standing_lengths m before ++ lengths)
unfolding Ran
runs_go_on m before begun [] lengths old last at count h = (
  h.1 ∙ at ∙ ap (progress m) (sym (append-nil before)),
  ap (standing_lengths m) (append-nil before) ∙ sym (append-nil (standing_lengths m before)) ∙ ap (λ (ns : List ℕ). standing_lengths m before ++ ns) (sym h.0),
)
runs_go_on m before begun (run ∷ runs) lengths old last at count (next, more, is, split, rest) =
    let one = run_more m before run.0 begun run.1 old next at count is in
    let after = runs_go_on m (before ++ run.0) (if run.1 then 0 else begun + length run.0) runs more next last (is.follows before at) one.1 rest in
    let joined : (before ++ run.0) ++ flat_map (λ r. r.0) runs ≡ before ++ (run.0 ++ flat_map (λ r. r.0) runs) = append_assoc before run.0 (flat_map (λ r. r.0) runs) in
    let ended : List ℕ = if run.1 then (begun + length run.0) ∷ [] else [] in (
      after.0 ∙ ap (progress m) joined,
      ap (standing_lengths m) (sym joined) ∙ after.1 ∙ ap (λ (ns : List ℕ). ns ++ more) one.0 ∙ append_assoc (standing_lengths m before) ended more ∙ ap (λ (ns : List ℕ). standing_lengths m before ++ ns) (sym split),
    )

pub parts_cut : PartsCut
parts_cut m runs lengths last new answer ran finish =
    let text : List ℕ = flat_map (λ run. run.0) runs in
    let none : standing_lengths m [] ≡ [] = standing_lengths-nil m in
    let run = runs_go_on m [] 0 runs lengths (progress m []) last refl (omega (arith, ap sum none)) ran in
    let lens : standing_lengths m text ≡ lengths = run.1 ∙ ap (λ (ns : List ℕ). ns ++ lengths) none in
    sym (finish.lengths text run.0 ∙ ap (λ (ns : List ℕ). ns ++ option_to_list answer) lens)
