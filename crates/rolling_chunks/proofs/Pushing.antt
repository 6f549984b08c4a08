-- What a cutter knows and answers, one push after another.
use Rattle.std.proofs.Common.{◌≡◌, ℕ, ◌+◌, ◌-◌, ◌%◌, ◌<◌, ◌≤◌, Bool, true, false, nat_le, ◌&&◌, ◌||◌, ◌==◌, List, [], ◌∷◌, ◌++◌, length, drop, Some, None, Contains, option_to_list, refl, sym, ap, ◌∙◌, subst, arith, length-drop, drop-drop, append-nil, append_assoc}
use Rattle.std.proofs.lemmas.Bool.{false≢true}
use Rattle.std.proofs.lemmas.List.{length_push, drop-append-le}
use Rattle.std.proofs.lemmas.List.Elements.{All-contains, Contains-push}
use Rattle.circular_buffer.specs.Buffer.{keep_last}
use Rattle.rolling_chunks.specs.Fingerprints.{fingerprint}
use Rattle.rolling_chunks.specs.Cuts.{may_end, cuts_after, standing_cuts, last_after, lengths_after, standing_lengths}
use Rattle.rolling_chunks.specs.Pushes.{Progress, progress, IsPush, IsFinish}
use Rattle.rolling_chunks.specs.Laws.{Pushed, RunsCut}
use Rattle.rolling_chunks.proofs.Places.{AreCuts-within, last_after-push, lengths_after-push}
use Rattle.rolling_chunks.proofs.TextCuts.{last_standing, last_standing-within, standing_are, standing-cut, standing-no_cut, may_end-last, cuts-left, cuts-whole}

-- ---- what is known of a text

keep_last-push : (text : List ℕ) (byte : ℕ) → keep_last 48 (keep_last 48 text ++ byte ∷ []) ≡ keep_last 48 (text ++ byte ∷ [])
keep_last-push text byte =
    let k : ℕ = length text - 48 in
    let low : k ≤ length text = omega arith in
    let grown : List ℕ = text ++ byte ∷ [] in
    let inside : drop k text ++ byte ∷ [] ≡ drop k grown = sym (drop-append-le k text (byte ∷ []) low) in
    let place : k + (length (drop k grown) - 48) ≡ length grown - 48 = omega (arith, length-drop k grown, length_push text byte) in
    ap (keep_last 48) inside ∙ drop-drop (length (drop k grown) - 48) k grown ∙ ap (λ (n : ℕ). drop n grown) place

pub same_progress : (m : ℕ) (text window : List ℕ) (len : ℕ) → window ≡ keep_last 48 text → len ≡ length text - last_standing m text
    → let p : Progress = record { window = window; len = len } in p ≡ progress m text
unfolding progress
same_progress m text window len e e' =
    ap (λ (w : List ℕ). let p : Progress = record { window = w; len = len } in p) e ∙ ap (λ (n : ℕ). let p : Progress = record { window = keep_last 48 text; len = n } in p) e'

pub window-progress : (m : ℕ) (text : List ℕ) (p : Progress) → p ≡ progress m text → p.window ≡ keep_last 48 text
unfolding progress
window-progress m text p at = ap (λ (q : Progress). q.window) at

pub len-progress : (m : ℕ) (text : List ℕ) (p : Progress) → p ≡ progress m text → p.len ≡ length text - last_standing m text
unfolding progress
len-progress m text p at = ap (λ (q : Progress). q.len) at

-- a new cutter
pub progress-nil : (m : ℕ) → let p : Progress = record { window = []; len = 0 } in p ≡ progress m []
unfolding progress standing_cuts cuts_after last_after
progress-nil m = refl

-- ---- one push

-- whether the rule holds after a push, by what is known
abbrev ends_after : ℕ → Progress → ℕ → Bool
ends_after m old byte =
    nat_le 2048 (old.len + 1) && ((old.len + 1 == m) || (fingerprint (keep_last 48 (old.window ++ byte ∷ [])) % 8192 == 4095))

window_after : (m : ℕ) (old : Progress) (byte : ℕ) (text : List ℕ) → old ≡ progress m text → keep_last 48 (old.window ++ byte ∷ []) ≡ keep_last 48 (text ++ byte ∷ [])
window_after m old byte text at = ap (λ (w : List ℕ). keep_last 48 (w ++ byte ∷ [])) (window-progress m text old at) ∙ keep_last-push text byte

ends_after-is : (m : ℕ) (old : Progress) (byte : ℕ) (text : List ℕ) → old ≡ progress m text → ends_after m old byte ≡ may_end m (text ++ byte ∷ []) (last_standing m text) (length text + 1)
ends_after-is m old byte text at =
    let len : old.len + 1 ≡ length text + 1 - last_standing m text = omega (arith, len-progress m text old at, last_standing-within m text) in
    ap (λ (w : List ℕ). nat_le 2048 (old.len + 1) && ((old.len + 1 == m) || (fingerprint w % 8192 == 4095))) (window_after m old byte text at)
    ∙ may_end-last m text byte (old.len + 1) len

IsPush-none : (m : ℕ) (old : Progress) (byte : ℕ) → ends_after m old byte ≡ false → IsPush m old byte None (record { window = keep_last 48 (old.window ++ byte ∷ []); len = old.len + 1 })
IsPush-none m old byte fails =
    let same : (text : List ℕ) → old ≡ progress m text → standing_cuts m (text ++ byte ∷ []) ≡ standing_cuts m text =
    λ (text : List ℕ) (at : old ≡ progress m text). standing-no_cut m text byte (sym (ends_after-is m old byte text at) ∙ fails) in
    record {
      follows = λ text at.
          let last : last_standing m (text ++ byte ∷ []) ≡ last_standing m text = ap (last_after 0) (same text at) in
          same_progress m (text ++ byte ∷ []) (keep_last 48 (old.window ++ byte ∷ [])) (old.len + 1) (window_after m old byte text at)
          (omega (arith, len-progress m text old at, last_standing-within m text, length_push text byte, last));
      cut = λ text at. (
        λ some. absurd (false≢true some),
        λ has.
            let low : length text + 1 ≤ length text = All-contains (λ e. e ≤ length text) (standing_cuts m text) (length text + 1) (AreCuts-within (may_end m text) (length text) 0 (standing_cuts m text) (standing_are m text)) (subst (λ (xs : List ℕ). Contains xs (length text + 1)) (same text at) has) in
            absurd (omega arith),
      );
      lengths = λ text at. ap (lengths_after 0) (same text at) ∙ sym (append-nil (standing_lengths m text));
    }

IsPush-some : (m : ℕ) (old : Progress) (byte : ℕ) → ends_after m old byte ≡ true → IsPush m old byte (Some (old.len + 1)) (record { window = keep_last 48 (old.window ++ byte ∷ []); len = 0 })
IsPush-some m old byte ends =
    let more : (text : List ℕ) → old ≡ progress m text → standing_cuts m (text ++ byte ∷ []) ≡ standing_cuts m text ++ (length text + 1) ∷ [] =
    λ (text : List ℕ) (at : old ≡ progress m text). standing-cut m text byte (sym (ends_after-is m old byte text at) ∙ ends) in
    record {
      follows = λ text at.
          let last : last_standing m (text ++ byte ∷ []) ≡ length text + 1 = ap (last_after 0) (more text at) ∙ last_after-push 0 (standing_cuts m text) (length text + 1) in
          same_progress m (text ++ byte ∷ []) (keep_last 48 (old.window ++ byte ∷ [])) 0 (window_after m old byte text at)
          (omega (arith, length_push text byte, last));
      cut = λ text at.
          (λ some. subst (λ (xs : List ℕ). Contains xs (length text + 1)) (sym (more text at)) (Contains-push (standing_cuts m text) (length text + 1)), λ has. refl);
      lengths = λ text at.
          let len : length text + 1 - last_standing m text ≡ old.len + 1 = omega (arith, len-progress m text old at, last_standing-within m text) in
          ap (lengths_after 0) (more text at) ∙ lengths_after-push 0 (standing_cuts m text) (length text + 1) ∙ ap (λ (n : ℕ). standing_lengths m text ++ n ∷ []) len;
    }

-- ---- the same, as a call has it

-- the value is that of the window after the push, and the test was made of it
tested : (m : ℕ) (window window' : List ℕ) (len value byte : ℕ) (ends : Bool) → window' ≡ keep_last 48 (window ++ byte ∷ []) → value ≡ fingerprint window' → ends ≡ (nat_le 2048 (len + 1) && ((len + 1 == m) || (value % 8192 == 4095)))
    → ends_after m (record { window = window; len = len }) byte ≡ ends
tested m window window' len value byte ends moved valued test =
    let at_value : ℕ → Bool = λ (v : ℕ). nat_le 2048 (len + 1) && ((len + 1 == m) || (v % 8192 == 4095)) in
    ap (λ (w : List ℕ). at_value (fingerprint w)) (sym moved) ∙ ap at_value (sym valued) ∙ sym test

pub no_cut_pushed : (m : ℕ) (window window' : List ℕ) (len value byte : ℕ) (old : Progress) (ends : Bool) → (let p : Progress = record { window = window; len = len } in p ≡ old)
    → window' ≡ keep_last 48 (window ++ byte ∷ []) → value ≡ fingerprint window' → ends ≡ (nat_le 2048 (len + 1) && ((len + 1 == m) || (value % 8192 == 4095))) → ends ≡ false
    → IsPush m old byte None (record { window = window'; len = len + 1 })
no_cut_pushed m window window' len value byte old ends at moved valued test fails =
    let shown : Progress = record { window = window; len = len } in
    let push = IsPush-none m shown byte (tested m window window' len value byte ends moved valued test ∙ fails) in
    subst (λ (p : Progress). IsPush m p byte None (record { window = window'; len = len + 1 })) at
    (subst (λ (w : List ℕ). IsPush m shown byte None (record { window = w; len = len + 1 })) (sym moved) push)

pub cut_pushed : (m : ℕ) (window window' : List ℕ) (len value byte taken left : ℕ) (old : Progress) (ends : Bool) → (let p : Progress = record { window = window; len = len } in p ≡ old)
    → window' ≡ keep_last 48 (window ++ byte ∷ []) → value ≡ fingerprint window' → ends ≡ (nat_le 2048 (len + 1) && ((len + 1 == m) || (value % 8192 == 4095))) → ends ≡ true
    → taken ≡ len + 1 → left ≡ 0 → IsPush m old byte (Some taken) (record { window = window'; len = left })
cut_pushed m window window' len value byte taken left old ends at moved valued test passes took zeroed =
    let shown : Progress = record { window = window; len = len } in
    let push = IsPush-some m shown byte (tested m window window' len value byte ends moved valued test ∙ passes) in
    subst (λ (n : ℕ). IsPush m old byte (Some taken) (record { window = window'; len = n })) (sym zeroed)
    (subst (λ (n : ℕ). IsPush m old byte (Some n) (record { window = window'; len = 0 })) (sym took)
    (subst (λ (p : Progress). IsPush m p byte (Some (len + 1)) (record { window = window'; len = 0 })) at
    (subst (λ (w : List ℕ). IsPush m shown byte (Some (len + 1)) (record { window = w; len = 0 })) (sym moved) push)))

-- ---- the end

pub IsFinish-left : (m : ℕ) (old new : Progress) (len : ℕ) → old.len ≡ len → 0 < len → new ≡ progress m [] → IsFinish m old (Some len) new
IsFinish-left m old new len e left anew = record {
  anew = anew;
  left_over = (λ some. omega arith, λ more. refl);
  lengths = λ text at.
      let more : last_standing m text < length text = omega (arith, len-progress m text old at, last_standing-within m text) in
      let rest : length text - last_standing m text ≡ len = omega (arith, len-progress m text old at) in
      ap (lengths_after 0) (cuts-left m text more) ∙ lengths_after-push 0 (standing_cuts m text) (length text) ∙ ap (λ (n : ℕ). standing_lengths m text ++ n ∷ []) rest;
}

pub IsFinish-none : (m : ℕ) (old new : Progress) → old.len ≡ 0 → new ≡ progress m [] → IsFinish m old None new
IsFinish-none m old new none anew = record {
  anew = anew;
  left_over = (λ some. absurd (false≢true some), λ left. absurd (omega arith));
  lengths = λ text at.
      let whole : length text ≤ last_standing m text = omega (arith, len-progress m text old at) in
      ap (lengths_after 0) (cuts-whole m text whole) ∙ sym (append-nil (standing_lengths m text));
}

-- ---- a whole text

-- what was pushed goes behind what was pushed before
run_goes_on : (m : ℕ) (before text lengths : List ℕ) (old last : Progress) → old ≡ progress m before → Pushed m old text lengths last
    → (last ≡ progress m (before ++ text)) × (standing_lengths m (before ++ text) ≡ standing_lengths m before ++ lengths)
unfolding Pushed
run_goes_on m before [] lengths old last at h = (
  h.1 ∙ at ∙ ap (progress m) (sym (append-nil before)),
  ap (standing_lengths m) (append-nil before) ∙ sym (append-nil (standing_lengths m before)) ∙ ap (λ (ns : List ℕ). standing_lengths m before ++ ns) (sym h.0),
)
run_goes_on m before (b ∷ text) lengths old last at (answer, next, more, push, split, rest) =
    let after = run_goes_on m (before ++ b ∷ []) text more next last (push.follows before at) rest in
    let joined : (before ++ b ∷ []) ++ text ≡ before ++ (b ∷ text) = append_assoc before (b ∷ []) text in (
      after.0 ∙ ap (progress m) joined,
      ap (standing_lengths m) (sym joined) ∙ after.1 ∙ ap (λ (ns : List ℕ). ns ++ more) (push.lengths before at) ∙ append_assoc (standing_lengths m before) (option_to_list answer) more ∙ ap (λ (ns : List ℕ). standing_lengths m before ++ ns) (sym split),
    )

pub standing_lengths-nil : (m : ℕ) → standing_lengths m [] ≡ []
unfolding standing_cuts cuts_after lengths_after
standing_lengths-nil m = refl

pub runs_cut : RunsCut
runs_cut m text lengths last new answer pushed finish =
    let run = run_goes_on m [] text lengths (progress m []) last refl pushed in
    let lens : standing_lengths m text ≡ lengths = run.1 ∙ ap (λ (ns : List ℕ). ns ++ lengths) (standing_lengths-nil m) in
    (sym (finish.lengths text run.0 ∙ ap (λ (ns : List ℕ). ns ++ option_to_list answer) lens), finish.anew)
