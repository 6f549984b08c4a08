-- Courses go on, and a history only grows.
use Rattle.std.proofs.Common.{◌≡◌, ℕ, zero, suc, ◌+◌, ◌-◌, ◌≤◌, List, [], ◌∷◌, ◌++◌, length, take, refl, sym, ◌∙◌, ap, arith, length-append, append_assoc}
use Rattle.std.proofs.lemmas.List.{append-nil, take-append-le}
use Rattle.psb_model.specs.declared.change.Change.{Change}
use Rattle.psb_machine.specs.Machine.{Situation, changes_of, react}
use Rattle.psb_machine.specs.Course.{Telling, Send, Say, Step, Absorb, Tell, after_step, after_all, tellings_of, tellings, sent_of, said_of, sent_in, said_in, taken_in, dropped_in, changed_by, told_by, unless_first}

pub after_all-append : (n : Situation) (xs ys : List Step) → after_all n (xs ++ ys) ≡ after_all (after_all n xs) ys
after_all-append n [] ys = refl
after_all-append n (x ∷ xs) ys = after_all-append (after_step n x) xs ys

pub tellings-append : (n : Situation) (xs ys : List Step) → tellings n (xs ++ ys) ≡ tellings n xs ++ tellings (after_all n xs) ys
tellings-append n [] ys = refl
tellings-append n (x ∷ xs) ys =
    ap (λ (l : List Telling). tellings_of n x ++ l) (tellings-append (after_step n x) xs ys)
    ∙ sym (append_assoc (tellings_of n x) (tellings (after_step n x) xs) (tellings (after_all (after_step n x) xs) ys))

pub sent_of-append : (a b : List Telling) → sent_of (a ++ b) ≡ sent_of a ++ sent_of b
sent_of-append [] b = refl
sent_of-append (Send frame ∷ a) b = ap (λ (l : List (ℕ × List ℕ)). frame ∷ l) (sent_of-append a b)
sent_of-append (Say line ∷ a) b = sent_of-append a b

pub said_of-append : (a b : List Telling) → said_of (a ++ b) ≡ said_of a ++ said_of b
said_of-append [] b = refl
said_of-append (Send frame ∷ a) b = said_of-append a b
said_of-append (Say line ∷ a) b = ap (λ (l : List (List ℕ)). line ∷ l) (said_of-append a b)

pub sent_in-append : (n : Situation) (xs ys : List Step) → sent_in n (xs ++ ys) ≡ sent_in n xs ++ sent_in (after_all n xs) ys
sent_in-append n xs ys = ap sent_of (tellings-append n xs ys) ∙ sent_of-append (tellings n xs) (tellings (after_all n xs) ys)

pub said_in-append : (n : Situation) (xs ys : List Step) → said_in n (xs ++ ys) ≡ said_in n xs ++ said_in (after_all n xs) ys
said_in-append n xs ys = ap said_of (tellings-append n xs ys) ∙ said_of-append (tellings n xs) (tellings (after_all n xs) ys)

pub taken_in-append : (xs ys : List Step) → taken_in (xs ++ ys) ≡ taken_in xs + taken_in ys
taken_in-append [] ys = omega arith
taken_in-append (x ∷ xs) ys = omega (arith, taken_in-append xs ys)

pub dropped_in-append : (n : Situation) (xs ys : List Step) → dropped_in n (xs ++ ys) ≡ dropped_in n xs + dropped_in (after_all n xs) ys
dropped_in-append n [] ys = omega arith
dropped_in-append n (x ∷ xs) ys = omega (arith, dropped_in-append (after_step n x) xs ys)

-- a history only grows
grown_step : (n : Situation) (s : Step) → (more : List Change) × ((after_step n s).history ≡ n.history ++ more) × (length more ≡ changed_by n s)
grown_step n (Absorb x) = (changes_of (react n x), refl, refl)
grown_step n (Tell t) = ([], sym (append-nil n.history), refl)

pub grown_all : (n : Situation) (xs : List Step) → (more : List Change) × ((after_all n xs).history ≡ n.history ++ more)
grown_all n [] = ([], sym (append-nil n.history))
grown_all n (x ∷ xs) =
    let f = grown_step n x in
    let g = grown_all (after_step n x) xs in
    (f.0 ++ g.0, g.1 ∙ ap (λ (l : List Change). l ++ g.0) f.1 ∙ append_assoc n.history f.0 g.0)

pub grows_all : (n : Situation) (xs : List Step) → length n.history ≤ length (after_all n xs).history
grows_all n xs = let g = grown_all n xs in omega (arith, ap length g.1, length-append n.history g.0)

pub take_all_of : (n : Situation) (xs ys : List Step) (k : ℕ) → k ≤ length (after_all n xs).history → take k (after_all n (xs ++ ys)).history ≡ take k (after_all n xs).history
take_all_of n xs ys k le =
    let g = grown_all (after_all n xs) ys in
    ap (λ (l : List Change). take k l) (ap (λ (m : Situation). m.history) (after_all-append n xs ys) ∙ g.1) ∙ take-append-le k (after_all n xs).history g.0 le

unless_le : (j n : ℕ) → unless_first j n ≤ n
unless_le zero n = omega arith
unless_le (suc j) n = omega arith

pub told_by_le : (n : Situation) (xs : List Step) (j : ℕ) → length n.history + told_by n xs j ≤ length (after_all n xs).history
told_by_le n [] j = omega arith
told_by_le n (x ∷ xs) j =
    let rest = j - length (tellings_of n x) in
    let g = grown_step n x in
    omega (arith, unless_le j (changed_by n x + told_by (after_step n x) xs rest), told_by_le (after_step n x) xs rest, ap (λ (l : List Change). length l) g.1, length-append n.history g.0, g.2)

pub told_by_none : (n : Situation) (xs : List Step) → told_by n xs 0 ≡ 0
told_by_none n [] = refl
told_by_none n (x ∷ xs) = refl

pub told_by_mono : (n : Situation) (xs : List Step) (i j : ℕ) → i ≤ j → told_by n xs i ≤ told_by n xs j
told_by_mono n [] i j le = omega arith
told_by_mono n (x ∷ xs) zero j le = omega arith
told_by_mono n (x ∷ xs) (suc i) zero le = absurd (omega arith)
told_by_mono n (x ∷ xs) (suc i) (suc j) le =
    let m = length (tellings_of n x) in
    omega (arith, told_by_mono (after_step n x) xs (suc i - m) (suc j - m) (omega arith))

pub told_by_append : (n : Situation) (xs ys : List Step) (j : ℕ) → told_by n (xs ++ ys) j ≤ told_by n xs j + told_by (after_all n xs) ys (j - length (tellings n xs))
told_by_append n [] ys j = omega (arith, told_by_mono n ys j (j - 0) (omega arith))
told_by_append n (x ∷ xs) ys zero = omega arith
told_by_append n (x ∷ xs) ys (suc j) =
    let k = length (tellings_of n x) in
    let m = length (tellings (after_step n x) xs) in
    let more = told_by_append (after_step n x) xs ys (suc j - k) in
    let long = length-append (tellings_of n x) (tellings (after_step n x) xs) in
    let later = told_by_mono (after_all (after_step n x) xs) ys (suc j - k - m) (suc j - length (tellings n (x ∷ xs))) (omega arith) in
    omega (arith, more, later)
