-- A run that says texts goes on.
use Rattle.std.proofs.Common.{◌≡◌, ℕ, ◌+◌, ◌≤◌, List, [], ◌++◌, is_some, Result, Ok, Err, OnOk, refl, sym, ◌∙◌, ap, subst, arith}
use Rattle.psb_station.specs.View.{View, Outside}
use Rattle.psb_station.specs.Calls.{Tells, Grows}
use Rattle.psb_station.specs.Span.{Tells_bytes}
use Rattle.psb_station.proofs.Spans.{at_start, goes_on, weakened, then_run}
use Rattle.node_serve.proofs.Tries.{grows_none, grows_then, told_none, told_one, told_then}
use Rattle.said_lines.specs.Says.{OnlySays, Utters, SaysLines}
use Rattle.said_lines.specs.declared.saying.SayError.{SayError}
use Rattle.said_lines.specs.declared.saying.SayError.TheVariants as say_error

pub utters_none : (v : View) → Utters v v 0 []
utters_none v = record {
  bytes = λ tells. refl;
  images = λ c left. left;
  told = told_none v.told;
  disk_faults = refl;
  moments = at_start v (λ c k. v.may_leave c × (k ≤ v.told + 0));
  kept = refl;
  counts = omega arith;
  said = grows_none v.outside.said;
}

-- one saying, of which this much was said
pub utters_one : (v0 v1 : View) (text : List ℕ) → Tells v0 v1 → v1.outside ≡ record v0.outside { said = v1.outside.said; say_faults = v1.outside.say_faults }
    → v0.outside.say_faults ≤ v1.outside.say_faults → Grows v0.outside.said v1.outside.said text → Utters v0 v1 1 text
utters_one v0 v1 text tells kept counts said = record {
  bytes = tells.rests.bytes;
  images = λ c left. tells.rests.images c left;
  told = told_one v0.told v1.told tells.told;
  disk_faults = tells.disk_faults;
  moments = goes_on v0 v0 v1 (λ c k. v0.may_leave c × (k ≤ v0.told + 1)) (at_start v0 (λ c k. v0.may_leave c × (k ≤ v0.told + 1))) tells.rests.time
      (λ c left. (tells.rests.images c left, (told_one v0.told v1.told tells.told).most));
  kept = kept;
  counts = counts;
  said = said;
}

pub utters_tells : (v0 v1 : View) (n : ℕ) (text : List ℕ) → Utters v0 v1 n text → Tells_bytes v1 → Tells_bytes v0
utters_tells v0 v1 n text u tells = sym (ap is_some (u.bytes tells)) ∙ tells

pub says_tells : (lines : List (List ℕ)) (v0 v1 : View) (r : Result (Unit {0}) SayError) → SaysLines lines v0 v1 r → Tells_bytes v1 → Tells_bytes v0
says_tells lines v0 v1 (Ok x) said tells = utters_tells v0 v1 _ _ said tells
says_tells lines v0 v1 (Err say_error.Say) said tells = utters_tells v0 v1 _ _ said.2 tells
says_tells lines v0 v1 (Err say_error.Memory) said tells = utters_tells v0 v1 _ _ said.2 tells

pub utters_then : (v0 v1 v2 : View) (m n : ℕ) (a b : List ℕ) → Utters v0 v1 m a → Utters v1 v2 n b → Utters v0 v2 (m + n) (a ++ b)
utters_then v0 v1 v2 m n a b first second =
    let P : List ℕ → ℕ → Type 0 = λ c k. v0.may_leave c × (k ≤ v0.told + (m + n)) in
    record {
      bytes = λ tells. second.bytes tells ∙ first.bytes (utters_tells v1 v2 n b second tells);
      images = λ c left. first.images c (second.images c left);
      told = told_then v0.told v1.told v2.told m n first.told second.told;
      disk_faults = second.disk_faults ∙ first.disk_faults;
      moments = then_run v0 v1 v2 P
          (weakened v0 v1 (λ c k. v0.may_leave c × (k ≤ v0.told + m)) P (λ c k is. (is.0, omega (arith, is.1))) first.moments)
          (weakened v1 v2 (λ c k. v1.may_leave c × (k ≤ v1.told + n)) P (λ c k is. (first.images c is.0, omega (arith, is.1, first.told.most))) second.moments);
      kept = second.kept ∙ ap (λ (o : Outside). record o { said = v2.outside.said; say_faults = v2.outside.say_faults }) first.kept;
      counts = omega (arith, first.counts, second.counts);
      said = grows_then v0.outside.said v1.outside.said v2.outside.said a b first.said second.said;
    }

-- ---- nothing is done but that texts are said

pub only_said : (v0 v1 : View) (n : ℕ) (text : List ℕ) → Utters v0 v1 n text → OnlySays v0 v1
only_said v0 v1 n text u = record { bytes = u.bytes; disk_faults = u.disk_faults; kept = u.kept }

only_then : (v0 v1 v2 : View) (n : ℕ) (text : List ℕ) → OnlySays v0 v1 → Utters v1 v2 n text → OnlySays v0 v2
only_then v0 v1 v2 n text o u = record {
  bytes = λ tells. u.bytes tells ∙ o.bytes (utters_tells v1 v2 n text u tells);
  disk_faults = u.disk_faults ∙ o.disk_faults;
  kept = u.kept ∙ ap (λ (w : Outside). record w { said = v2.outside.said; say_faults = v2.outside.say_faults }) o.kept;
}

pub only_only : (v0 v1 v2 : View) → OnlySays v0 v1 → OnlySays v1 v2 → OnlySays v0 v2
only_only v0 v1 v2 o p = record {
  bytes = λ tells. p.bytes tells ∙ o.bytes (sym (ap is_some (p.bytes tells)) ∙ tells);
  disk_faults = p.disk_faults ∙ o.disk_faults;
  kept = p.kept ∙ ap (λ (w : Outside). record w { said = v2.outside.said; say_faults = v2.outside.say_faults }) o.kept;
}

pub either_says : (v0 v1 v2 : View) (e : SayError) → OnlySays v0 v1 → (e ≡ say_error.Say → Utters v1 v2 1 []) → (e ≡ say_error.Memory → v2 ≡ v1) → OnlySays v0 v2
either_says v0 v1 v2 say_error.Say o say memory = only_then v0 v1 v2 1 [] o (say refl)
either_says v0 v1 v2 say_error.Memory o say memory = subst (λ (w : View). OnlySays v0 w) (sym (memory refl)) o

pub says_only : {A : Type 0} (v0 v1 v2 : View) (text : List ℕ) (r : Result A SayError) → OnlySays v0 v1 → OnOk r (Utters v1 v2 1 text) → (r ≡ Err say_error.Say → Utters v1 v2 1 []) → (r ≡ Err say_error.Memory → v2 ≡ v1) → OnlySays v0 v2
says_only v0 v1 v2 text (Ok x) o ok say memory = only_then v0 v1 v2 1 text o ok
says_only v0 v1 v2 text (Err say_error.Say) o ok say memory = only_then v0 v1 v2 1 [] o (say refl)
says_only v0 v1 v2 text (Err say_error.Memory) o ok say memory = subst (λ (w : View). OnlySays v0 w) (sym (memory refl)) o
