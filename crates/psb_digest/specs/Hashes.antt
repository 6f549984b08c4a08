-- SHA-256 (FIPS 180-4), and HMAC over it (RFC 2104), on lists of bytes.
use Rattle.std.specs.Prelude.{ℕ, ◌-◌, nat_le, if◌then◌else◌, List, ◌++◌, length, map, replicate, bit_xor}
use Rattle.sha2.specs.Sha256.{sha256}

-- the 32 bytes of a message's SHA-256
abbrev pub sha : List ℕ → List ℕ
sha message = sha256 message

-- a key as one block of 64 bytes: a key longer than that is hashed, and zeros fill the block
unfoldable pub key_block : List ℕ → List ℕ
key_block key =
    let short = if nat_le (length key) 64 then key else sha key in
    short ++ replicate (64 - length short) 0

-- the block with each byte xored with the byte `pad`
unfoldable pub padded : ℕ → List ℕ → List ℕ
padded pad block = map (λ b. bit_xor b pad) block

-- HMAC-SHA-256: the inner pad is 0x36, the outer 0x5c
unfoldable pub hmac : List ℕ → List ℕ → List ℕ
hmac key message = sha (padded 0x5c (key_block key) ++ sha (padded 0x36 (key_block key) ++ message))
