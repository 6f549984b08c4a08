-- Facts on chains of links and on claims.
use Rattle.std.proofs.Common.{◌≡◌, ◌≤◌, sym, take, ℕ, zero, suc, ◌+◌, ◌*◌, List, ◌++◌, length, arith, length-append, length-drop, ap, ◌∙◌, refl, add-one}
use Rattle.std.proofs.Math.Seq.{take-length}
use Rattle.std.proofs.lemmas.List.{length-take}
use Rattle.std.proofs.lemmas.Slice.{take-put_mid}
use borrow.Rule.Slice.PartMut.{put_mid}
use Rattle.psb_bytes.specs.Numbers.{AreBytes}
use Rattle.psb_digest.proofs.Bytes.{AreBytes-append}
use Rattle.psb_digest.proofs.Digests.{length-sha, AreBytes-sha}
use Rattle.psb_digest.proofs.Streams.{length-masked_from, AreBytes-masked_from}
use Rattle.psb_digest.specs.Hashes.{sha}
use Rattle.psb_digest.specs.Claims.{claim_secret, link, links, claim}

-- the link before, hashed with the secret
pub link-next : (secret : List ℕ) (k : ℕ) → link secret (k + 1) ≡ sha (secret ++ link secret k)
unfolding link
link-next secret k = rw (add-one k) refl

pub length-link : (secret : List ℕ) (k : ℕ) → length (link secret k) ≡ 32
unfolding link
length-link secret zero = length-sha _
length-link secret (suc k) = length-sha _

pub AreBytes-link : (secret : List ℕ) (k : ℕ) → AreBytes (link secret k)
unfolding link
AreBytes-link secret zero = AreBytes-sha _
AreBytes-link secret (suc k) = AreBytes-sha _

pub links-more : (secret : List ℕ) (k n : ℕ) → links secret k (n + 1) ≡ links secret k n ++ link secret (k + n)
unfolding links
links-more secret k n = rw (add-one n) refl

pub length-links : (secret : List ℕ) (k n : ℕ) → length (links secret k n) ≡ 32 * n
unfolding links
length-links secret k zero = refl
length-links secret k (suc n) = omega (arith, length-append (links secret k n) (link secret (k + n)), length-links secret k n, length-link secret (k + n))

pub AreBytes-links : (secret : List ℕ) (k n : ℕ) → AreBytes (links secret k n)
unfolding links
AreBytes-links secret k zero i = omega arith
AreBytes-links secret k (suc n) i = AreBytes-append (links secret k n) (link secret (k + n)) (AreBytes-links secret k n) (AreBytes-link secret (k + n)) i

pub length-put_mid : (a k : ℕ) (xs ys : List ℕ) → a + k ≤ length xs → length ys ≡ k → length (put_mid a k xs ys) ≡ length xs
length-put_mid a k xs ys room long = simp (length-append, length-take, length-drop) (omega arith)

-- one link more is written, behind those that are
pub link-written : (secret bytes last : List ℕ) (k j width : ℕ) → 32 * j + 32 ≤ length bytes → width ≡ 32 → last ≡ link secret (k + j) → take (32 * j) bytes ≡ links secret k j
    → take (32 * (j + 1)) (put_mid (32 * j) width bytes last) ≡ links secret k (j + 1)
link-written secret bytes last k j width room w at written =
    let long : length last ≡ 32 = rw at (length-link secret (k + j)) in
    take-put_mid (32 * j) width bytes last (32 * (j + 1)) (omega (arith, long)) (omega arith)
    ∙ ap (λ l. l ++ last) written ∙ ap (λ l. links secret k j ++ l) at ∙ sym (links-more secret k j)

-- all sixteen
pub links-whole : (secret bytes : List ℕ) (k j : ℕ) → length bytes ≡ 512 → j ≡ 16 → take (32 * j) bytes ≡ links secret k j → bytes ≡ links secret k 16
links-whole secret bytes k j len e written =
    let all : 32 * j ≡ length bytes = omega arith in
    sym (take-length bytes) ∙ ap (λ n. take n bytes) (sym all) ∙ written ∙ ap (links secret k) e

pub length-claim : (seed : List ℕ) (i : ℕ) → length (claim seed i) ≡ 512
unfolding claim
length-claim seed i = length-masked_from _ _ _ _ ∙ length-links (claim_secret seed) (16 * i) 16

pub AreBytes-claim : (seed : List ℕ) (i : ℕ) → AreBytes (claim seed i)
unfolding claim
AreBytes-claim seed i = AreBytes-masked_from _ _ _ _ (AreBytes-links (claim_secret seed) (16 * i) 16)
