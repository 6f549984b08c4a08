-- Facts on the keystream and on masking.
use Rattle.std.proofs.Common.{◌≡◌, ℕ, zero, suc, ◌+◌, ◌*◌, ◌/◌, ◌%◌, ◌^◌, ◌<◌, ◌≤◌, List, [], ◌∷◌, ◌++◌, length, get_or, take, drop, bit_xor, refl, sym, ap, ◌∙◌, arith, add-zero, length-take, length-drop}
use Rattle.std.specs.Int.{w32, to_le_bytes}
use Rattle.std.proofs.Math.Seq.{take-add}
use Rattle.std.proofs.lemmas.List.{drop-drop, take_all}
use Rattle.std.proofs.lemmas.Slice.{take-put_mid, drop-put_mid}
use borrow.Rule.Slice.PartMut.{put_mid, same_len_mid}
use Rattle.std.proofs.lemmas.Nat.{xor_of_8}
use Rattle.std.specs.Int.Bits.{xor_assoc, xor_self, xor_zero_r}
use Rattle.psb_bytes.specs.Numbers.{AreBytes}
use Rattle.psb_digest.proofs.Bytes.{same_list, AreBytes-to_le_bytes}
use Rattle.psb_digest.specs.Words.{Reader, word, stream_byte, masked_from, masked}

pub length-masked_from : (key : List ℕ) (stream j : ℕ) (bytes : List ℕ) → length (masked_from key stream j bytes) ≡ length bytes
unfolding masked_from
length-masked_from key stream j [] = refl
length-masked_from key stream j (b ∷ bytes) = let e = length-masked_from key stream (j + 1) bytes in omega (arith, e)

-- one byte of what is masked
pub get_or-masked_from : (key : List ℕ) (stream j : ℕ) (bytes : List ℕ) (k : ℕ) → k < length bytes → get_or (masked_from key stream j bytes) k 0 ≡ bit_xor (get_or bytes k 0) (stream_byte key stream (j + k))
unfolding masked_from
get_or-masked_from key stream j [] k lt = absurd (omega arith)
get_or-masked_from key stream j (b ∷ bytes) zero lt = rw (add-zero j) refl
get_or-masked_from key stream j (b ∷ bytes) (suc k) lt =
    let next : j + 1 + k ≡ j + suc k = omega arith in
    get_or-masked_from key stream (j + 1) bytes k (omega arith) ∙ ap (λ i. bit_xor (get_or bytes k 0) (stream_byte key stream i)) next

-- byte k of word i
stream_byte-word : (key : List ℕ) (stream i k : ℕ) → k < 4 → get_or (to_le_bytes w32 (word key stream i)) k 0 ≡ stream_byte key stream (4 * i + k)
unfolding stream_byte
stream_byte-word key stream i k lt =
    let place : i ≡ (4 * i + k) / 4 = omega arith in
    let byte : k ≡ (4 * i + k) % 4 = omega arith in
    ap (λ p. get_or (to_le_bytes w32 (word key stream p)) k 0) place ∙ ap (λ b. get_or (to_le_bytes w32 (word key stream ((4 * i + k) / 4))) b 0) byte

stream_byte-fits : (key : List ℕ) (stream j : ℕ) → stream_byte key stream j < 256
unfolding stream_byte
stream_byte-fits key stream j = AreBytes-to_le_bytes (word key stream (j / 4)) (j % 4)

-- what is masked are bytes
pub AreBytes-masked_from : (key : List ℕ) (stream j : ℕ) (bytes : List ℕ) → AreBytes bytes → AreBytes (masked_from key stream j bytes)
unfolding masked_from
AreBytes-masked_from key stream j [] h i = h i
AreBytes-masked_from key stream j (b ∷ bytes) h zero = xor_of_8 b (stream_byte key stream j) (h 0) (stream_byte-fits key stream j)
AreBytes-masked_from key stream j (b ∷ bytes) h (suc i) = AreBytes-masked_from key stream (j + 1) bytes (λ k. h (suc k)) i

xor-twice : (a b : ℕ) → bit_xor (bit_xor a b) b ≡ a
xor-twice a b = xor_assoc a b b ∙ ap (bit_xor a) (xor_self b) ∙ xor_zero_r a

-- to mask twice undoes it
pub masked_from-twice : (key : List ℕ) (stream j : ℕ) (bytes : List ℕ) → masked_from key stream j (masked_from key stream j bytes) ≡ bytes
unfolding masked_from
masked_from-twice key stream j [] = refl
masked_from-twice key stream j (b ∷ bytes) = rw (xor-twice b (stream_byte key stream j), masked_from-twice key stream (j + 1) bytes) refl

-- the second part goes on where the first ends
pub masked_from-append : (key : List ℕ) (stream j : ℕ) (first second : List ℕ) → masked_from key stream j (first ++ second) ≡ masked_from key stream j first ++ masked_from key stream (j + length first) second
unfolding masked_from
masked_from-append key stream j [] second = rw (add-zero j) refl
masked_from-append key stream j (b ∷ first) second =
    let next : j + 1 + length first ≡ j + length (b ∷ first) = omega arith in
    ap (λ l. bit_xor b (stream_byte key stream j) ∷ l) (masked_from-append key stream (j + 1) first second ∙ ap (λ i. masked_from key stream (j + 1) first ++ masked_from key stream i second) next)

-- ---- word by word

-- the first i words are masked, the rest is as it was, and the reader stands at word i
pub record Masking (key : List ℕ) (stream : ℕ) (old now : List ℕ) (words : Reader) (i : ℕ) : Type 0 where
  pub done : take (4 * i) now ≡ masked key stream (take (4 * i) old)
  pub ahead : drop (4 * i) now ≡ drop (4 * i) old
  pub reader : words ≡ record { key = key; stream = stream; place = i }

pub masking_begun : (key : List ℕ) (stream : ℕ) (old : List ℕ) (words : Reader) → words ≡ record { key = key; stream = stream; place = 0 } → Masking key stream old old words 0
unfolding masked_from
masking_begun key stream old words reader = record { done = refl; ahead = refl; reader = reader }

-- the word that the reader gives at place i
pub word_given : (key : List ℕ) (stream i w : ℕ) (words : Reader) → words ≡ record { key = key; stream = stream; place = i } → w ≡ word words.key words.stream words.place → w ≡ word key stream i
word_given key stream i w words reader given = given ∙ ap (λ (r : Reader). word r.key r.stream r.place) reader

-- a word that is xored onto at most four bytes masks them
masked_from-word : (key : List ℕ) (stream i w : ℕ) (old now : List ℕ) → w ≡ word key stream i → length old ≤ 4 → length now ≡ length old
    → ((k : ℕ) → k < length old → get_or now k 0 ≡ bit_xor (get_or old k 0) (get_or (to_le_bytes w32 w) k 0)) → now ≡ masked_from key stream (4 * i) old
masked_from-word key stream i w old now is-word short long each =
    same_list now (masked_from key stream (4 * i) old) (long ∙ sym (length-masked_from key stream (4 * i) old))
    (λ k lt.
    let within : k < length old = omega (arith, length-masked_from key stream (4 * i) old) in
    let byte : get_or (to_le_bytes w32 w) k 0 ≡ stream_byte key stream (4 * i + k) = ap (λ v. get_or (to_le_bytes w32 v) k 0) is-word ∙ stream_byte-word key stream i k (omega arith) in
    each k within ∙ ap (bit_xor (get_or old k 0)) byte ∙ sym (get_or-masked_from key stream (4 * i) old k within))

-- word i is xored onto the k bytes behind those that are masked, up to byte n
pub masked_more : (key : List ℕ) (stream i k n w : ℕ) (old now part : List ℕ) (words : Reader) → 4 * i + k ≡ n → k ≤ 4 → n ≤ length old → length now ≡ length old
    → Masking key stream old now words i → w ≡ word words.key words.stream words.place → length part ≡ length (take k (drop (4 * i) now))
    → ((j : ℕ) → j < length (take k (drop (4 * i) now)) → get_or part j 0 ≡ bit_xor (get_or (take k (drop (4 * i) now)) j 0) (get_or (to_le_bytes w32 w) j 0))
    → take n (put_mid (4 * i) k now part) ≡ masked key stream (take n old)
masked_more key stream i k n w old now part words sum short within long m given size each =
    let front = take (4 * i) old in
    let next = take k (drop (4 * i) old) in
    let span : length (take k (drop (4 * i) now)) ≡ k = omega (arith, length-take k (drop (4 * i) now), length-drop (4 * i) now) in
    let xored : part ≡ masked_from key stream (4 * i) (take k (drop (4 * i) now)) = masked_from-word key stream i w _ part (word_given key stream i w words m.reader given) (omega arith) size each in
    let masks : part ≡ masked_from key stream (4 * i) next = xored ∙ ap (λ l. masked_from key stream (4 * i) (take k l)) m.ahead in
    let at : 4 * i ≡ 0 + length front = omega (arith, length-take (4 * i) old) in
    let both : front ++ next ≡ take n old = sym (take-add (4 * i) k old) ∙ ap (λ l. take l old) sum in
    take-put_mid (4 * i) k now part n (omega arith) (omega arith)
    ∙ ap (λ l. l ++ part) m.done
    ∙ ap (λ l. masked key stream front ++ l) (masks ∙ ap (λ j. masked_from key stream j next) at)
    ∙ sym (masked_from-append key stream 0 front next)
    ∙ ap (masked key stream) both

-- a whole word further
pub masking_next : (key : List ℕ) (stream i k w : ℕ) (old now part : List ℕ) (words words' : Reader) → i < 2 ^ 64 → k ≡ 4 → 4 * i + 4 ≤ length old → length now ≡ length old
    → Masking key stream old now words i → w ≡ word words.key words.stream words.place → words' ≡ record words { place = (words.place + 1) % 2 ^ 68 }
    → length part ≡ length (take k (drop (4 * i) now))
    → ((j : ℕ) → j < length (take k (drop (4 * i) now)) → get_or part j 0 ≡ bit_xor (get_or (take k (drop (4 * i) now)) j 0) (get_or (to_le_bytes w32 w) j 0))
    → Masking key stream old (put_mid (4 * i) k now part) words' (i + 1)
masking_next key stream i k w old now part words words' small four room long m given moved size each =
    let next : 4 * i + 4 ≡ 4 * (i + 1) = omega arith in
    let place : (i + 1) % 2 ^ 68 ≡ i + 1 = omega arith in
    record {
      done = masked_more key stream i k (4 * (i + 1)) w old now part words (omega arith) (omega arith) (omega arith) long m given size each;
      ahead = drop-put_mid (4 * i) k now part (4 * (i + 1)) (omega arith) (omega arith) (omega (arith, length-take k (drop (4 * i) now), length-drop (4 * i) now))
          ∙ ap (λ n. drop n now) (sym next) ∙ sym (drop-drop 4 (4 * i) now) ∙ ap (drop 4) m.ahead ∙ drop-drop 4 (4 * i) old ∙ ap (λ n. drop n old) next;
      reader = moved ∙ ap (λ (r : Reader). let after : Reader = record r { place = (r.place + 1) % 2 ^ 68 } in after) m.reader
          ∙ ap (λ (p : ℕ). let after : Reader = record { key = key; stream = stream; place = p } in after) place;
    }

-- the last bytes are fewer than a word
pub masking_ended : (key : List ℕ) (stream i k w : ℕ) (old now part : List ℕ) (words : Reader) → 4 * i + k ≡ length old → k ≤ 4 → length now ≡ length old
    → Masking key stream old now words i → w ≡ word words.key words.stream words.place → length part ≡ length (take k (drop (4 * i) now))
    → ((j : ℕ) → j < length (take k (drop (4 * i) now)) → get_or part j 0 ≡ bit_xor (get_or (take k (drop (4 * i) now)) j 0) (get_or (to_le_bytes w32 w) j 0))
    → put_mid (4 * i) k now part ≡ masked key stream old
masking_ended key stream i k w old now part words sum short long m given size each =
    let whole : length (put_mid (4 * i) k now part) ≡ length old = same_len_mid (4 * i) k now part size ∙ long in
    sym (take_all (length old) (put_mid (4 * i) k now part) (omega arith))
    ∙ masked_more key stream i k (length old) w old now part words sum short (omega arith) long m given size each
    ∙ ap (masked key stream) (take_all (length old) old (omega arith))
