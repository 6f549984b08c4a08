-- Items that a loop reads, one after another.
use Rattle.std.proofs.Common.{◌≡◌, ℕ, suc, ◌+◌, ◌-◌, ◌<◌, ◌≤◌, List, [], ◌∷◌, ◌++◌, Option, Some, None, refl, ap, sym, ◌∙◌, append_assoc, append-nil, arith}
use Rattle.byte_fields.specs.Fields.{◌>>=◌, items_at}

-- what was read before, and what is still read
abbrev pub with_front : {A : Type 0} → List A → Option (List A × List ℕ) → Option (List A × List ℕ)
with_front front read = read >>= λ x. Some (front ++ x.0, x.1)

-- after j of n items
abbrev pub IsReadTo : {A : Type 0} → (List ℕ → Option (A × List ℕ)) → ℕ → ℕ → List ℕ → List A → List ℕ → Type 0
IsReadTo read n j bytes front rest = with_front front (items_at read (n - j) rest) ≡ items_at read n bytes

with_nil : {A : Type 0} (read : Option (List A × List ℕ)) → with_front [] read ≡ read
with_nil (Some x) = refl
with_nil None = refl

regroup : {A : Type 0} (front : List A) (o : A) (read : Option (List A × List ℕ)) → with_front front (read >>= λ x. Some (o ∷ x.0, x.1)) ≡ with_front (front ++ o ∷ []) read
regroup front o (Some x) = ap (λ (l : List _). Some (l, x.1)) (simp append_assoc)
regroup front o None = refl

pub begins : {A : Type 0} (read : List ℕ → Option (A × List ℕ)) (n : ℕ) (bytes : List ℕ) → IsReadTo read n 0 bytes [] bytes
begins read n bytes =
    let all : n - 0 ≡ n = omega arith in
    rw all (with_nil (items_at read n bytes))

one_less : (n j : ℕ) → j < n → n - j ≡ suc (n - (j + 1))
one_less n j lt = omega (arith, lt)

pub goes_on : {A : Type 0} (read : List ℕ → Option (A × List ℕ)) (n j : ℕ) (bytes : List ℕ) (front : List A) (x : A) (rest after : List ℕ) → j < n → read rest ≡ Some (x, after) → IsReadTo read n j bytes front rest → IsReadTo read n (j + 1) bytes (front ++ x ∷ []) after
unfolding items_at
goes_on read n j bytes front x rest after lt e before =
    sym (regroup front x (items_at read (n - (j + 1)) after)) ∙ sym (ap (with_front front) (ap (λ (k : ℕ). items_at read k rest) (one_less n j lt) ∙ rw e refl)) ∙ before

pub stops : {A : Type 0} (read : List ℕ → Option (A × List ℕ)) (n j : ℕ) (bytes : List ℕ) (front : List A) (rest : List ℕ) → j < n → read rest ≡ None → IsReadTo read n j bytes front rest → items_at read n bytes ≡ None
unfolding items_at
stops read n j bytes front rest lt e before =
    let next : items_at read (suc (n - (j + 1))) rest ≡ None = rw e refl in
    let none : items_at read (n - j) rest ≡ None = ap (λ (k : ℕ). items_at read k rest) (one_less n j lt) ∙ next in
    sym before ∙ ap (with_front front) none

pub ends : {A : Type 0} (read : List ℕ → Option (A × List ℕ)) (n j : ℕ) (bytes : List ℕ) (front : List A) (rest : List ℕ) → n ≤ j → IsReadTo read n j bytes front rest → items_at read n bytes ≡ Some (front, rest)
unfolding items_at
ends read n j bytes front rest le before =
    let none : n - j ≡ 0 = omega (arith, le) in
    sym before ∙ ap (with_front front) (ap (λ (k : ℕ). items_at read k rest) none) ∙ ap (λ (l : List _). Some (l, rest)) (append-nil front)
