-- What a read that found something took from the front.
use Rattle.std.proofs.Common.{◌≡◌, ℕ, ◌≤◌, Bool, true, false, cond, ltb, List, [], ◌∷◌, length, take, drop, Option, Some, None, refl, ap, ◌∙◌}
use Rattle.std.proofs.lemmas.Bool.{ltb-false}
use Rattle.psb_bytes.specs.Numbers.{u32_of}
use Rattle.byte_fields.specs.Fields.{◌>>=◌, bytes_at, u8_at, u32_at}

-- the value of a step that found one
pub bind_some : {A B : Type 0} (r : Option A) (f : A → Option B) (y : B) → (r >>= f) ≡ Some y → (x : A) × (r ≡ Some x) × (f x ≡ Some y)
bind_some (Some x) f y e = (x, refl, e)
bind_some None f y e = absurd cc

-- a test that passed, and one that did not
pub then_some : {B : Type 0} (b : Bool) (r : Option B) (y : B) → cond b r None ≡ Some y → (b ≡ true) × (r ≡ Some y)
then_some true r y e = (refl, e)
then_some false r y e = absurd cc

pub else_some : {B : Type 0} (b : Bool) (r : Option B) (y : B) → cond b None r ≡ Some y → (b ≡ false) × (r ≡ Some y)
else_some true r y e = absurd cc
else_some false r y e = (refl, e)

abbrev found : {A : Type 0} → A → Option A
found x = Some x

pub some_is : {A : Type 0} (x y : A) → found x ≡ found y → x ≡ y
some_is x y e = cc

-- so many bytes were there
pub bytes_found : (n : ℕ) (bytes front rest : List ℕ) → bytes_at n bytes ≡ Some (front, rest) → (n ≤ length bytes) × (take n bytes ≡ front) × (drop n bytes ≡ rest)
unfolding bytes_at
bytes_found n bytes front rest e =
    let g = else_some (ltb (length bytes) n) (Some (take n bytes, drop n bytes)) (front, rest) e in
    let p = some_is (take n bytes, drop n bytes) (front, rest) g.1 in
    (ltb-false _ _ g.0, ap (λ (x : List ℕ × List ℕ). x.0) p, ap (λ (x : List ℕ × List ℕ). x.1) p)

pub u8_found : (bytes : List ℕ) (b : ℕ) (rest : List ℕ) → u8_at bytes ≡ Some (b, rest) → bytes ≡ b ∷ rest
unfolding u8_at
u8_found [] b rest e = absurd cc
u8_found (a ∷ bytes) b rest e =
    let p = some_is (a, bytes) (b, rest) e in
    let same : a ≡ b = ap (λ (x : ℕ × List ℕ). x.0) p in
    let others : bytes ≡ rest = ap (λ (x : ℕ × List ℕ). x.1) p in
    rw (same, others) refl

pub u32_found : (bytes : List ℕ) (n : ℕ) (rest : List ℕ) → u32_at bytes ≡ Some (n, rest) → (4 ≤ length bytes) × (u32_of (take 4 bytes) ≡ n) × (drop 4 bytes ≡ rest)
unfolding u32_at
u32_found bytes n rest e =
    let b = bind_some (bytes_at 4 bytes) (λ front. Some (u32_of front.0, front.1)) (n, rest) e in
    let t = bytes_found 4 bytes b.0.0 b.0.1 b.1 in
    let p = some_is (u32_of b.0.0, b.0.1) (n, rest) b.2 in
    (t.0, ap u32_of t.1 ∙ ap (λ (x : ℕ × List ℕ). x.0) p, t.2 ∙ ap (λ (x : ℕ × List ℕ). x.1) p)
