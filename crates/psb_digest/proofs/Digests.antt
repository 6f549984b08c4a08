-- Facts on SHA-256 and HMAC: 32 bytes, each below 256.
use Rattle.std.proofs.Common.{◌≡◌, ℕ, zero, suc, ◌≤◌, true, false, nat_le, List, ◌++◌, length, replicate, drop, refl, ap, arith}
use Rattle.std.proofs.lemmas.Bool.{le-leb, lt-leb}
use Rattle.std.proofs.lemmas.List.{drop-replicate}
use Rattle.sha2.specs.Sha256.{sha256, digest_bytes}
use Rattle.sha2.proofs.Facts256.{length-sha256}
use Rattle.psb_bytes.specs.Numbers.{AreBytes}
use Rattle.psb_digest.proofs.Bytes.{AreBytes-append, AreBytes-to_be_bytes}
use Rattle.psb_digest.specs.Hashes.{sha, hmac, key_block}

pub length-sha : (message : List ℕ) → length (sha message) ≡ 32
length-sha message = length-sha256 message

AreBytes-digest_bytes : (h : List ℕ) (n : ℕ) → AreBytes (digest_bytes h n)
unfolding digest_bytes
AreBytes-digest_bytes h zero i = omega arith
AreBytes-digest_bytes h (suc n) i = AreBytes-append (digest_bytes h n) _ (AreBytes-digest_bytes h n) (AreBytes-to_be_bytes _) i

pub AreBytes-sha : (message : List ℕ) → AreBytes (sha message)
unfolding sha256
AreBytes-sha message = AreBytes-digest_bytes _ 8

-- ---- a key as one block

pub key_block-short : (key held : List ℕ) → length key ≤ 64 → held ≡ key → held ++ drop (length key) (replicate 64 0) ≡ key_block key
unfolding key_block
key_block-short key held le same =
    let test : nat_le (length key) 64 ≡ true = le-leb (length key) 64 le in
    rw (test, same) (ap (λ l. key ++ l) (drop-replicate (length key) 64 zero))

pub key_block-long : (key held : List ℕ) → (length key ≤ 64 → ⊥) → held ≡ sha key → held ++ replicate 32 0 ≡ key_block key
unfolding key_block
key_block-long key held above same =
    let test : nat_le (length key) 64 ≡ false = lt-leb (length key) 64 (omega arith) in
    rw (test, same, length-sha key) refl

pub length-hmac : (key message : List ℕ) → length (hmac key message) ≡ 32
unfolding hmac
length-hmac key message = length-sha _

pub AreBytes-hmac : (key message : List ℕ) → AreBytes (hmac key message)
unfolding hmac
AreBytes-hmac key message = AreBytes-sha _
