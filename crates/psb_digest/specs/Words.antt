-- The words of ChaCha20 (RFC 8439's block function; a stream is a 64-bit nonce), and what is made of them.
use Rattle.std.specs.Prelude.{ℕ, ◌+◌, ◌/◌, ◌%◌, List, [], ◌∷◌, ◌++◌, slice_index, bit_xor, codes}
use Rattle.std.specs.Int.{w32, to_le_bytes}
use Rattle.rand_chacha.specs.ChaCha.{word_at, key_of}
use Rattle.psb_digest.specs.Hashes.{sha}

-- the word at a place of a stream, from place 0 on, under a key of 32 bytes
unfoldable pub word : List ℕ → ℕ → ℕ → ℕ
word key stream place = word_at 10 (key_of key) stream place

-- byte j of the keystream: the words, each as four bytes with the low byte first
unfoldable pub stream_byte : List ℕ → ℕ → ℕ → ℕ
stream_byte key stream j = slice_index (to_le_bytes w32 (word key stream (j / 4))) (j % 4)

-- the bytes xored with the keystream from its byte j on
unfoldable pub masked_from : List ℕ → ℕ → ℕ → List ℕ → List ℕ
masked_from key stream j [] = []
masked_from key stream j (b ∷ bytes) = bit_xor b (stream_byte key stream j) ∷ masked_from key stream (j + 1) bytes

-- the bytes xored with the keystream from place 0 on
abbrev pub masked : List ℕ → ℕ → List ℕ → List ℕ
masked key stream bytes = masked_from key stream 0 bytes

-- the key of a node's own words
unfoldable pub words_key : List ℕ → List ℕ
words_key seed = sha (codes "psb words" ++ seed)

-- word j of those that a node's change of this number uses
abbrev pub own_word : List ℕ → ℕ → ℕ → ℕ
own_word seed change j = word (words_key seed) change j

-- what a contract sees of a reader of words: the key's bytes, the stream, and the place of the next word
pub record Reader : Type 0 where
  pub key : List ℕ
  pub stream : ℕ
  pub place : ℕ
