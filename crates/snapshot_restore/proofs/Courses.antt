-- Courses of turns, and the bodies that came in them, one behind another.
use Rattle.std.proofs.Common.{◌≡◌, ℕ, suc, ◌+◌, List, [], ◌∷◌, ◌++◌, length, Some, refl, sym, ◌∙◌, ap, arith, append_assoc}
use Rattle.std.proofs.lemmas.List.{append-nil}
use Rattle.std.proofs.lemmas.Grind.{flat_map-append}
use Rattle.psb_bytes.specs.declared.ids.Ref.{Ref}
use Rattle.psb_station.specs.View.{Heard}
use Rattle.psb_settings.specs.declared.settings.Settings.{Settings}
use Rattle.psb_machine.specs.Course.{Step}
use Rattle.node_serve.specs.Hears.{clock_of}
use Rattle.node_serve.proofs.Runs.{clock_of-append}
use Rattle.snapshot_restore.specs.Answers.{answers, answer_to}
use Rattle.snapshot_restore.specs.Course.{Fetch, all_of, round_steps, fetch_steps, heard_in, restore_steps}
use Rattle.snapshot_restore.specs.Taken.{NoneOpens, AreWhole, last_of}

pub all_of-append : (a b : List (List Heard)) → all_of (a ++ b) ≡ all_of a ++ all_of b
all_of-append a b = flat_map-append (λ (h : List Heard). h) a b

pub all_of-one : (a : List (List Heard)) (h : List Heard) → all_of (a ++ h ∷ []) ≡ all_of a ++ h
all_of-one a h = all_of-append a (h ∷ []) ∙ ap (λ (l : List Heard). all_of a ++ l) (append-nil h)

pub answers-append : (st : Settings) (name : List ℕ) (a b : List Heard) → answers st name (a ++ b) ≡ answers st name a ++ answers st name b
answers-append st name a b = flat_map-append (answer_to st name) a b

pub heard_in-append : (a b : List Fetch) → heard_in (a ++ b) ≡ heard_in a ++ heard_in b
heard_in-append a b = flat_map-append (λ (f : Fetch). all_of f.rounds) a b

pub fetch_steps-append : (st : Settings) (name : List ℕ) (c i : ℕ) (a b : List (List Heard)) → fetch_steps st name c i (a ++ b) ≡ fetch_steps st name c i a ++ fetch_steps st name (clock_of c (all_of a)) (i + length a) b
fetch_steps-append st name c i [] b =
    let count : i ≡ i + 0 = omega arith in
    ap (λ (k : ℕ). fetch_steps st name c k b) count
fetch_steps-append st name c i (h ∷ a) b =
    let count : suc i + length a ≡ i + suc (length a) = omega arith in
    let first = round_steps st name c i h in
    ap (λ (l : List Step). first ++ l) (fetch_steps-append st name (clock_of c h) (suc i) a b)
    ∙ sym (append_assoc first (fetch_steps st name (clock_of c h) (suc i) a) (fetch_steps st name (clock_of (clock_of c h) (all_of a)) (suc i + length a) b))
    ∙ ap (λ (k : ℕ). (first ++ fetch_steps st name (clock_of c h) (suc i) a) ++ fetch_steps st name k (suc i + length a) b) (sym (clock_of-append c h (all_of a)))
    ∙ ap (λ (k : ℕ). (first ++ fetch_steps st name (clock_of c h) (suc i) a) ++ fetch_steps st name (clock_of c (h ++ all_of a)) k b) count

pub restore_steps-append : (st : Settings) (c : ℕ) (a b : List Fetch) → restore_steps st c (a ++ b) ≡ restore_steps st c a ++ restore_steps st (clock_of c (heard_in a)) b
restore_steps-append st c [] b = refl
restore_steps-append st c (f ∷ a) b =
    let first = fetch_steps st f.name c 0 f.rounds in
    let mid = clock_of c (all_of f.rounds) in
    ap (λ (l : List Step). first ++ l) (restore_steps-append st mid a b)
    ∙ sym (append_assoc first (restore_steps st mid a) (restore_steps st (clock_of mid (heard_in a)) b))
    ∙ ap (λ (k : ℕ). (first ++ restore_steps st mid a) ++ restore_steps st k b) (sym (clock_of-append c (all_of f.rounds) (heard_in a)))

pub none_open_then : (r : Ref) (a b : List (List ℕ)) → NoneOpens r a → NoneOpens r b → NoneOpens r (a ++ b)
none_open_then r [] b n m = m
none_open_then r (x ∷ a) b n m = (n.0, none_open_then r a b n.1 m)

pub whole_then : (a : List (List Heard)) (b : List (List Heard)) → AreWhole a → AreWhole b → AreWhole (a ++ b)
whole_then [] b n m = m
whole_then (x ∷ a) b n m = (n.0, whole_then a b n.1 m)

pub last_one : (a : List (List ℕ)) (x : List ℕ) → last_of (a ++ x ∷ []) ≡ Some x
last_one [] x = refl
last_one (y ∷ a) x = rw (last_one a x) refl
