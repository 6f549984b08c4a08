-- The cells of a span of bytes, one by one.
use Rattle.std.proofs.Common.{◌≡◌, ℕ, zero, suc, ◌+◌, ◌-◌, ◌*◌, ◌<◌, List, [], ◌∷◌, ◌++◌, length, get_or, take, drop, Some, refl, ap, sym, ◌∙◌, subst, arith, length-drop}
use Rattle.std.specs.Prelude.{slice_get}
use Rattle.std.proofs.lemmas.List.{drop-drop, take_all}
use Rattle.std.proofs.Math.Nat.{mul-suc}
use Rattle.psb_bytes.specs.Numbers.{u32_of}
use Rattle.psb_bytes.specs.declared.lists.SlotClaim.{SlotClaim}
use Rattle.wire_codec.specs.declared.limits.TheConstants.{CLAIM_BYTES}
use Rattle.wire_codec.specs.Fields.{cells, claims_in, claim_of}

pub length-cells : {A : Type 0} (width : ℕ) (cell : List ℕ → A) (n : ℕ) (bytes : List ℕ) → length (cells width cell n bytes) ≡ n
length-cells width cell zero bytes = refl
length-cells width cell (suc n) bytes = rw (length-cells width cell n (drop width bytes)) (omega arith)

-- the cell at a place is made of the bytes there
pub get_or-cells : {A : Type 0} (width : ℕ) (cell : List ℕ → A) (n : ℕ) (bytes : List ℕ) (j : ℕ) (d : A) → j < n → get_or (cells width cell n bytes) j d ≡ cell (take width (drop (width * j) bytes))
get_or-cells width cell zero bytes j d lt = absurd (omega (arith, lt))
get_or-cells width cell (suc n) bytes zero d lt = let e : width * 0 ≡ 0 = omega arith in rw e refl
get_or-cells width cell (suc n) bytes (suc j) d lt =
    let e : width * suc j ≡ width + width * j = mul-suc width j ∙ omega arith in
    get_or-cells width cell n (drop width bytes) j d (omega (arith, lt)) ∙ rw (drop-drop (width * j) width bytes, e) refl

pub slice_get-cells : {A : Type 0} (width : ℕ) (cell : List ℕ → A) (n : ℕ) (bytes : List ℕ) (j : ℕ) → j < n → slice_get (cells width cell n bytes) j ≡ Some (cell (take width (drop (width * j) bytes)))
slice_get-cells width cell zero bytes j lt = absurd (omega (arith, lt))
slice_get-cells width cell (suc n) bytes zero lt = let e : width * 0 ≡ 0 = omega arith in rw e refl
slice_get-cells width cell (suc n) bytes (suc j) lt =
    let e : width * suc j ≡ width + width * j = mul-suc width j ∙ omega arith in
    slice_get-cells width cell n (drop width bytes) j (omega (arith, lt)) ∙ rw (drop-drop (width * j) width bytes, e) refl

-- a claim that is read from its cell is the one in the list
pub claim_read : (n : ℕ) (bytes span : List ℕ) (j slot : ℕ) (claims : List SlotClaim) → claims_in n bytes ≡ claims → j < length claims → span ≡ take (4 + CLAIM_BYTES) (drop ((4 + CLAIM_BYTES) * j) bytes) → slot ≡ u32_of (take 4 span)
    → slice_get claims j ≡ Some (record { slot = slot; bytes = take (length span - 4) (drop 4 span) })
claim_read n bytes span j slot claims view lt is number =
    let below : j < n = subst (λ (k : ℕ). j < k) (ap (λ (l : List SlotClaim). length l) (sym view) ∙ length-cells (4 + CLAIM_BYTES) claim_of n bytes) lt in
    let whole : take (length span - 4) (drop 4 span) ≡ drop 4 span = take_all (length span - 4) (drop 4 span) (omega (arith, length-drop 4 span)) in
    ap (λ (l : List SlotClaim). slice_get l j) (sym view) ∙ slice_get-cells (4 + CLAIM_BYTES) claim_of n bytes j below ∙ rw (whole, number, ← is) refl

pub ruleset cells_read = (length-cells, get_or-cells, slice_get-cells)

-- one more item, as a loop takes it
pub read_more : {A : Type 0} (xs : List A) (j : ℕ) (x : A) → slice_get xs j ≡ Some x → take (j + 1) xs ≡ take j xs ++ x ∷ []
read_more [] j x e = absurd cc
read_more (y ∷ xs) zero x e = let same : y ≡ x = cc in rw same refl
read_more (y ∷ xs) (suc j) x e =
    let k : suc j + 1 ≡ suc (j + 1) = omega arith in
    rw k (ap (λ l. y ∷ l) (read_more xs j x e))
