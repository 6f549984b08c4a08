-- The folders that a path lies in, by its last slash.
use Rattle.std.proofs.Common.{◌≡◌, ◌≢◌, ◌<◌, ◌==◌, ℕ, suc, Bool, true, false, List, [], ◌∷◌, ◌++◌, length, take, drop, get_or, refl, sym, ap, ◌∙◌, arith, lit<}
use Rattle.std.specs.Str.Pattern.{RFindsChar, SplitsAroundMatch}
use Rattle.std.specs.Str.{NoCharPasses}
use Rattle.std.proofs.lemmas.Bool.{ne_eqb}
use Rattle.std.proofs.lemmas.Str.Pattern.{NoCharPasses-char, drop_at_char}
use Rattle.std.proofs.lemmas.List.{take-append-drop, map-append}
use Rattle.psb_bytes.specs.Names.{is_slash}
use Rattle.psb_bytes.specs.Paths.{parents}

by_cases : {P : Type 0} (b : Bool) → (b ≡ true → P) → (b ≡ false → P) → P
by_cases true f g = f refl
by_cases false f g = g refl

no_parents : (bs : List ℕ) → ((i : ℕ) → i < length bs → get_or bs i 0 ≢ 47) → parents bs ≡ []
no_parents [] none = refl
no_parents (b ∷ rest) none = rw (ne_eqb b 47 (none 0 (omega arith)), no_parents rest (λ i l. none (suc i) (omega (arith, l)))) refl

parents_split : (front back : List ℕ) → ((i : ℕ) → i < length back → get_or back i 0 ≢ 47) → parents (front ++ 47 ∷ back) ≡ parents front ++ front ∷ []
parents_split [] back none = rw (no_parents back none) refl
parents_split (b ∷ front) back none =
    let ih = parents_split front back none in
    by_cases (is_slash b)
    (λ k. rw (k, ih) (ap (λ (l : List (List ℕ)). [] ∷ l) (map-append (λ (q : List ℕ). b ∷ q) (parents front) (front ∷ []))))
    (λ k. rw (k, ih) (map-append (λ (q : List ℕ). b ∷ q) (parents front) (front ∷ [])))

-- what `rsplit_once` at a slash says
pub above_last : (path front back : List ℕ) → SplitsAroundMatch (RFindsChar 47) path front back → parents path ≡ parents front ++ front ∷ []
above_last path front back (i, j, (none, at), is_front, is_back, le, len, rest) =
    let cut : path ≡ front ++ 47 ∷ drop j path = sym (take-append-drop i path) ∙ ap (λ (l : List ℕ). take i path ++ l) (drop_at_char 47 path i j at (lit< tt)) ∙ ap (λ (l : List ℕ). l ++ 47 ∷ drop j path) (sym is_front) in
    ap parents cut ∙ parents_split front (drop j path) (λ k l. NoCharPasses-char 47 (drop j path) k none (lit< tt) l)

pub none_above : (path : List ℕ) → NoCharPasses (λ d. d == 47) path → parents path ≡ []
none_above path none = no_parents path (λ k l. NoCharPasses-char 47 path k none (lit< tt) l)
