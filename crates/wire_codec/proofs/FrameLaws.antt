-- Whole frames: the header and its fields, and what reading a datagram takes.
use Rattle.std.proofs.Common.{◌≡◌, ℕ, zero, suc, ◌+◌, ◌-◌, ◌^◌, ◌<◌, ◌≤◌, Bool, true, false, cond, List, [], ◌∷◌, ◌++◌, length, take, drop, Option, Some, None, Result, Ok, Err, refl, ap, sym, ◌∙◌, subst, append_assoc, length-append, length-take, length-drop, arith}
use Rattle.std.specs.Prelude.{not, nat_lt, ◌==◌, slice_index, bytes_eq}
use Rattle.std.proofs.lemmas.Bool.{and_parts, ltb-false, le-ltb, eqb-true, eq-eqb}
use Rattle.std.proofs.lemmas.List.{take_at, drop_at, take-append-drop, take-append-le}
use Rattle.std.proofs.lemmas.Slice.Eq.{bytes_eq-Decides}
use Rattle.std.proofs.Math.Seq.{take-add}
use Rattle.psb_bytes.specs.Numbers.{AreBytes, u32_bytes, u64_bytes, u32_of, u64_of}
use Rattle.psb_digest.specs.Hashes.{hmac}
use Rattle.psb_digest.proofs.Digests.{length-hmac}
use Rattle.wire_codec.specs.declared.frame.Frame.{Frame}
use Rattle.wire_codec.specs.declared.frame.Frame.TheVariants.{Store, Cancel, PutBack, Replace, Accepted, Refused, Declined, Get, Here, Probe, Proof, Ask, Sample}
use Rattle.wire_codec.specs.declared.frame.Dropped.{Dropped}
use Rattle.wire_codec.specs.declared.frame.Dropped.TheVariants.{Short, BadMagic, BadKind, NotForMe, BadTag, BadBody}
use Rattle.wire_codec.specs.declared.limits.TheConstants.{MAGIC, HEADER_BYTES, TAG_BYTES, LAST_KIND, MOST_FRAME_BYTES}
use Rattle.wire_codec.specs.Fields.{within}
use Rattle.wire_codec.specs.Frames.{Incoming, kind_of, body_of, header, signed, datagram, read_body, read_tagged, read_keyed, read_frame, framed, key_in, has_magic, kind_in, sender_in, receiver_in, number_in, length_in, signed_in, tag_in, body_in, part}
use Rattle.wire_codec.specs.Laws.{IsFrame}
use Rattle.byte_fields.proofs.FieldLaws.{u32_number, u64_number, AreBytes-take, AreBytes-drop}
use Rattle.wire_codec.proofs.BodyLaws.{body_takes, body_again}
use Rattle.wire_codec.proofs.SizeLaws.{body_size}

kind_fits : (f : Frame) → within 1 LAST_KIND (kind_of f) ≡ true
kind_fits (Store name slots bytes) = refl
kind_fits (Cancel name slots) = refl
kind_fits (PutBack name claims) = refl
kind_fits (Replace slot bytes) = refl
kind_fits (Accepted claims) = refl
kind_fits (Refused why detail) = refl
kind_fits (Declined nonce places) = refl
kind_fits (Get name) = refl
kind_fits (Here name bytes) = refl
kind_fits (Probe nonce objects) = refl
kind_fits (Proof nonce value) = refl
kind_fits (Ask salt names) = refl
kind_fits (Sample salt bits) = refl

-- ---- a header and what stands behind it

record BeginsWith (bytes : List ℕ) (kind from to number len : ℕ) : Type 0 where
  pub magic : has_magic bytes ≡ true
  pub kind_there : kind_in bytes ≡ kind
  pub sender : part 8 4 bytes ≡ u32_bytes from
  pub receiver : part 12 4 bytes ≡ u32_bytes to
  pub number_there : part 16 8 bytes ≡ u64_bytes number
  pub length_there : part 24 4 bytes ≡ u32_bytes len

header_begins : (kind from to number len : ℕ) (rest : List ℕ) → BeginsWith (header kind from to number len ++ rest) kind from to number len
unfolding header
header_begins kind from to number len rest = record {
  magic = refl;
  kind_there = refl;
  sender = refl;
  receiver = refl;
  number_there = refl;
  length_there = refl;
}

pub length-header : (kind from to number len : ℕ) → length (header kind from to number len) ≡ HEADER_BYTES
unfolding header
length-header kind from to number len = refl

-- ---- a datagram that is spelled

pub record IsSpelledBy (bytes key : List ℕ) (from to number : ℕ) (f : Frame) : Type 0 where
  pub long : HEADER_BYTES + TAG_BYTES ≤ length bytes
  pub magic : has_magic bytes ≡ true
  pub kind_is : kind_in bytes ≡ kind_of f
  pub sender_is : sender_in bytes ≡ from
  pub receiver_is : receiver_in bytes ≡ to
  pub number_is : number_in bytes ≡ number
  pub length_is : length_in bytes ≡ length (body_of f)
  pub signed_is : signed_in bytes ≡ signed from to number f
  pub tag_is : tag_in bytes ≡ hmac key (signed from to number f)
  pub body_is : body_in bytes ≡ body_of f

pub spelled : (key : List ℕ) (from to number : ℕ) (f : Frame) → IsFrame from to number f → IsSpelledBy (datagram key from to number f) key from to number f
spelled key from to number f h =
    let body = body_of f in
    let head = header (kind_of f) from to number (length body) in
    let text = signed from to number f in
    let tag = hmac key text in
    let size : length text ≡ HEADER_BYTES + length body = length-append head body ∙ ap (λ (n : ℕ). n + length body) (length-header (kind_of f) from to number (length body)) in
    let last : length tag ≡ TAG_BYTES = length-hmac key text in
    let all : length (text ++ tag) ≡ HEADER_BYTES + length body + TAG_BYTES = length-append text tag ∙ omega (arith, size, last) in
    let front : length text ≡ length (text ++ tag) - TAG_BYTES = omega (arith, size, all) in
    let b : BeginsWith (text ++ tag) (kind_of f) from to number (length body) = subst (λ (l : List ℕ). BeginsWith l (kind_of f) from to number (length body)) (sym (append_assoc head body tag)) (header_begins (kind_of f) from to number (length body) (body ++ tag)) in
    let signed' : signed_in (text ++ tag) ≡ text = take_at text tag (length (text ++ tag) - TAG_BYTES) front in
    record {
      long = omega (arith, all);
      magic = b.magic;
      kind_is = b.kind_there;
      sender_is = ap u32_of b.sender ∙ u32_number.same from h.from_fits;
      receiver_is = ap u32_of b.receiver ∙ u32_number.same to h.to_fits;
      number_is = ap u64_of b.number_there ∙ u64_number.same number h.number_fits;
      length_is = ap u32_of b.length_there ∙ u32_number.same (length body) (omega (arith, body_size f h.frame_fits));
      signed_is = signed';
      tag_is = drop_at text tag (length (text ++ tag) - TAG_BYTES) front;
      body_is = ap (λ (l : List ℕ). drop HEADER_BYTES l) signed' ∙ drop_at head body HEADER_BYTES (length-header (kind_of f) from to number (length body));
    }

-- ---- reading, when each test passes

abbrev pub taken : ℕ → ℕ → Frame → Incoming
taken from number f = record { from = from; number = number; frame = f }

read_all : (own : ℕ) (keys : List (ℕ × List ℕ)) (bytes key : List ℕ) (f : Frame) → nat_lt (length bytes) (HEADER_BYTES + TAG_BYTES) ≡ false → has_magic bytes ≡ true → within 1 LAST_KIND (kind_in bytes) ≡ true → (receiver_in bytes == own) ≡ true
    → key_in keys (sender_in bytes) ≡ Some key → bytes_eq (tag_in bytes) (hmac key (signed_in bytes)) ≡ true → (length_in bytes == length (body_in bytes)) ≡ true → read_body (kind_in bytes) (body_in bytes) ≡ Some f
    → read_frame own keys bytes ≡ Ok (taken (sender_in bytes) (number_in bytes) f)
unfolding read_frame read_keyed read_tagged
read_all own keys bytes key f long magic kind receiver known tag len body = rw (long, magic, kind, receiver, known, tag, len, body) refl

pub reads : (own : ℕ) (keys : List (ℕ × List ℕ)) (key : List ℕ) (from number : ℕ) (f : Frame) → IsFrame from own number f → key_in keys from ≡ Some key → read_frame own keys (datagram key from own number f) ≡ Ok (taken from number f)
reads own keys key from number f h known =
    let d = datagram key from own number f in
    let s = spelled key from own number f h in
    let known' : key_in keys (sender_in d) ≡ Some key = ap (λ (p : ℕ). key_in keys p) s.sender_is ∙ known in
    let tag : bytes_eq (tag_in d) (hmac key (signed_in d)) ≡ true = (bytes_eq-Decides (tag_in d) (hmac key (signed_in d))).1 (s.tag_is ∙ ap (λ (l : List ℕ). hmac key l) (sym s.signed_is)) in
    let kind : within 1 LAST_KIND (kind_in d) ≡ true = ap (λ (k : ℕ). within 1 LAST_KIND k) s.kind_is ∙ kind_fits f in
    let len : (length_in d == length (body_in d)) ≡ true = eq-eqb _ _ (s.length_is ∙ ap (λ (l : List ℕ). length l) (sym s.body_is)) in
    let body : read_body (kind_in d) (body_in d) ≡ Some f = ap (λ (k : ℕ). read_body k (body_in d)) s.kind_is ∙ ap (λ (l : List ℕ). read_body (kind_of f) l) s.body_is ∙ body_again f h.frame_fits in
    read_all own keys d key f (le-ltb _ _ s.long) s.magic kind (eq-eqb _ _ s.receiver_is) known' tag len body
    ∙ ap (λ (p : ℕ). Ok (taken p (number_in d) f)) s.sender_is ∙ ap (λ (n : ℕ). Ok (taken from n f)) s.number_is

-- ---- a datagram that was read

record WasRead (own : ℕ) (keys : List (ℕ × List ℕ)) (bytes : List ℕ) (i : Incoming) : Type 0 where
  pub key : List ℕ
  pub frame : Frame
  pub long : HEADER_BYTES + TAG_BYTES ≤ length bytes
  pub magic : has_magic bytes ≡ true
  pub receiver : receiver_in bytes ≡ own
  pub known : key_in keys (sender_in bytes) ≡ Some key
  pub tag : tag_in bytes ≡ hmac key (signed_in bytes)
  pub len : length_in bytes ≡ length (body_in bytes)
  pub body : read_body (kind_in bytes) (body_in bytes) ≡ Some frame
  pub is : taken (sender_in bytes) (number_in bytes) frame ≡ i

abbrev fault : Dropped → Result Incoming Dropped
fault d = Err d

abbrev good : Incoming → Result Incoming Dropped
good i = Ok i

-- a test that was not the one to fail
past : (b : Bool) (d : Dropped) (r : Result Incoming Dropped) (i : Incoming) → cond b (fault d) r ≡ Ok i → (b ≡ false) × (r ≡ Ok i)
past true d r i e = absurd cc
past false d r i e = (refl, e)

past_not : (b : Bool) (d : Dropped) (r : Result Incoming Dropped) (i : Incoming) → cond (not b) (fault d) r ≡ Ok i → (b ≡ true) × (r ≡ Ok i)
past_not true d r i e = (refl, e)
past_not false d r i e = absurd cc

passed : (b : Bool) (d : Dropped) (r : Result Incoming Dropped) (i : Incoming) → cond b r (fault d) ≡ Ok i → (b ≡ true) × (r ≡ Ok i)
passed true d r i e = (refl, e)
passed false d r i e = absurd cc

good_is : (i j : Incoming) → good i ≡ Ok j → i ≡ j
good_is i j e = cc

was_framed : (bytes : List ℕ) (o : Option Frame) (i : Incoming) → framed bytes o ≡ Ok i → (f : Frame) × (o ≡ Some f) × (taken (sender_in bytes) (number_in bytes) f ≡ i)
was_framed bytes None i e = absurd cc
was_framed bytes (Some f) i e = (f, refl, good_is (taken (sender_in bytes) (number_in bytes) f) i e)

was_keyed : (o : Option (List ℕ)) (bytes : List ℕ) (i : Incoming) → read_keyed o bytes ≡ Ok i → (key : List ℕ) × (o ≡ Some key) × (tag_in bytes ≡ hmac key (signed_in bytes)) × (read_tagged bytes ≡ Ok i)
unfolding read_keyed
was_keyed None bytes i e = absurd cc
was_keyed (Some key) bytes i e =
    let p = passed (bytes_eq (tag_in bytes) (hmac key (signed_in bytes))) BadTag (read_tagged bytes) i e in
    (key, refl, (bytes_eq-Decides (tag_in bytes) (hmac key (signed_in bytes))).0 p.0, p.1)

was_read : (own : ℕ) (keys : List (ℕ × List ℕ)) (bytes : List ℕ) (i : Incoming) → read_frame own keys bytes ≡ Ok i → WasRead own keys bytes i
unfolding read_frame read_tagged
was_read own keys bytes i e =
    let a = past (nat_lt (length bytes) (HEADER_BYTES + TAG_BYTES)) Short _ i e in
    let b = past_not (has_magic bytes) BadMagic _ i a.1 in
    let c = past_not (within 1 LAST_KIND (kind_in bytes)) BadKind _ i b.1 in
    let d = past_not (receiver_in bytes == own) NotForMe (read_keyed (key_in keys (sender_in bytes)) bytes) i c.1 in
    let k = was_keyed (key_in keys (sender_in bytes)) bytes i d.1 in
    let t = passed (length_in bytes == length (body_in bytes)) BadBody (framed bytes (read_body (kind_in bytes) (body_in bytes))) i k.3 in
    let f = was_framed bytes (read_body (kind_in bytes) (body_in bytes)) i t.1 in
    record {
      key = k.0;
      frame = f.0;
      long = ltb-false _ _ a.0;
      magic = b.0;
      receiver = eqb-true _ _ d.0;
      known = k.1;
      tag = k.2;
      len = eqb-true _ _ t.0;
      body = f.1;
      is = f.2;
    }

-- ---- the header of what was read

one_at : (bytes : List ℕ) (k : ℕ) → k < length bytes → take 1 (drop k bytes) ≡ slice_index bytes k ∷ []
one_at [] k lt = absurd (omega (arith, lt))
one_at (b ∷ bytes) zero lt = refl
one_at (b ∷ bytes) (suc k) lt = one_at bytes k (omega (arith, lt))

size_of_part : (place n : ℕ) (bytes : List ℕ) → place + n ≤ length bytes → length (part place n bytes) ≡ n
size_of_part place n bytes le = omega (arith, length-take n (drop place bytes), length-drop place bytes)

number_back : (place : ℕ) (bytes : List ℕ) → AreBytes bytes → place + 4 ≤ length bytes → u32_bytes (u32_of (part place 4 bytes)) ≡ part place 4 bytes
number_back place bytes ok le = u32_number.back (part place 4 bytes) (size_of_part place 4 bytes le) (AreBytes-take 4 (drop place bytes) (AreBytes-drop place bytes ok))

-- ten parts make the header
header_joined : (a b c d e g h : List ℕ) (kind from to number len : ℕ) → a ≡ MAGIC → b ≡ kind ∷ [] → c ≡ 0 ∷ 0 ∷ 0 ∷ [] → d ≡ u32_bytes from → e ≡ u32_bytes to → g ≡ u64_bytes number → h ≡ u32_bytes len
    → a ++ b ++ c ++ d ++ e ++ g ++ h ≡ header kind from to number len
unfolding header
header_joined a b c d e g h kind from to number len is-a is-b is-c is-d is-e is-g is-h = rw (is-a, is-b, is-c, is-d, is-e, is-g, is-h) refl

header_there : (bytes : List ℕ) → AreBytes bytes → HEADER_BYTES ≤ length bytes → has_magic bytes ≡ true → take HEADER_BYTES bytes ≡ header (kind_in bytes) (sender_in bytes) (receiver_in bytes) (number_in bytes) (length_in bytes)
header_there bytes ok long magic =
    let m = and_parts (bytes_eq (part 0 4 bytes) MAGIC) (bytes_eq (part 5 3 bytes) (0 ∷ 0 ∷ 0 ∷ [])) magic in
    let number : u64_bytes (number_in bytes) ≡ part 16 8 bytes = u64_number.back (part 16 8 bytes) (size_of_part 16 8 bytes (omega (arith, long))) (AreBytes-take 8 (drop 16 bytes) (AreBytes-drop 16 bytes ok)) in
    let whole : take 28 bytes ≡ part 0 4 bytes ++ part 4 1 bytes ++ part 5 3 bytes ++ part 8 4 bytes ++ part 12 4 bytes ++ part 16 8 bytes ++ part 24 4 bytes =
    take-add 24 4 bytes ∙ ap (λ (l : List ℕ). l ++ part 24 4 bytes) (take-add 16 8 bytes ∙ ap (λ (l : List ℕ). l ++ part 16 8 bytes) (take-add 12 4 bytes ∙ ap (λ (l : List ℕ). l ++ part 12 4 bytes) (take-add 8 4 bytes ∙ ap (λ (l : List ℕ). l ++ part 8 4 bytes) (take-add 5 3 bytes ∙ ap (λ (l : List ℕ). l ++ part 5 3 bytes) (take-add 4 1 bytes))))) in
    whole ∙ header_joined (part 0 4 bytes) (part 4 1 bytes) (part 5 3 bytes) (part 8 4 bytes) (part 12 4 bytes) (part 16 8 bytes) (part 24 4 bytes) (kind_in bytes) (sender_in bytes) (receiver_in bytes) (number_in bytes) (length_in bytes)
    ((bytes_eq-Decides (part 0 4 bytes) MAGIC).0 m.0) (one_at bytes 4 (omega (arith, long))) ((bytes_eq-Decides (part 5 3 bytes) (0 ∷ 0 ∷ 0 ∷ [])).0 m.1)
    (sym (number_back 8 bytes ok (omega (arith, long)))) (sym (number_back 12 bytes ok (omega (arith, long)))) (sym number) (sym (number_back 24 bytes ok (omega (arith, long))))

pub record IsTaken (own : ℕ) (keys : List (ℕ × List ℕ)) (bytes : List ℕ) (i : Incoming) : Type 0 where
  pub key : List ℕ
  pub known : key_in keys i.from ≡ Some key
  pub fit : IsFrame i.from own i.number i.frame
  pub whole : bytes ≡ datagram key i.from own i.number i.frame

pub takes : (own : ℕ) (keys : List (ℕ × List ℕ)) (bytes : List ℕ) (i : Incoming) → AreBytes bytes → read_frame own keys bytes ≡ Ok i → IsTaken own keys bytes i
takes own keys bytes i ok e =
    let w = was_read own keys bytes i e in
    let cut = length bytes - TAG_BYTES in
    let ok-body : AreBytes (body_in bytes) = AreBytes-drop HEADER_BYTES (signed_in bytes) (AreBytes-take cut bytes ok) in
    let b = body_takes (kind_in bytes) (body_in bytes) w.frame ok-body w.body in
    let front : take HEADER_BYTES (signed_in bytes) ≡ take HEADER_BYTES bytes =
    sym (take-append-le HEADER_BYTES (signed_in bytes) (tag_in bytes) (omega (arith, length-take cut bytes, w.long))) ∙ ap (λ (l : List ℕ). take HEADER_BYTES l) (take-append-drop cut bytes) in
    let head = header_there bytes ok (omega (arith, w.long)) w.magic in
    let is-len : length_in bytes ≡ length (body_of w.frame) = w.len ∙ ap (λ (l : List ℕ). length l) b.0 in
    let text : signed_in bytes ≡ signed (sender_in bytes) own (number_in bytes) w.frame =
    sym (take-append-drop HEADER_BYTES (signed_in bytes)) ∙ joined (take HEADER_BYTES (signed_in bytes)) (body_in bytes) (sender_in bytes) (receiver_in bytes) own (number_in bytes) (kind_in bytes) (length_in bytes) w.frame (front ∙ head) b.0 w.receiver (sym b.2) is-len in
    let all : bytes ≡ datagram w.key (sender_in bytes) own (number_in bytes) w.frame = sym (take-append-drop cut bytes) ∙ ap (λ (l : List ℕ). signed_in bytes ++ l) w.tag ∙ ap (λ (l : List ℕ). l ++ hmac w.key l) text in
    let fit : IsFrame (sender_in bytes) own (number_in bytes) w.frame = record {
      frame_fits = b.1;
      from_fits = u32_number.below (part 8 4 bytes) (AreBytes-take 4 (drop 8 bytes) (AreBytes-drop 8 bytes ok));
      to_fits = subst (λ (n : ℕ). n < 2 ^ 32) w.receiver (u32_number.below (part 12 4 bytes) (AreBytes-take 4 (drop 12 bytes) (AreBytes-drop 12 bytes ok)));
      number_fits = u64_number.below (part 16 8 bytes) (AreBytes-take 8 (drop 16 bytes) (AreBytes-drop 16 bytes ok));
    } in
    let t : IsTaken own keys bytes (taken (sender_in bytes) (number_in bytes) w.frame) = record { key = w.key; known = w.known; fit = fit; whole = all } in
    subst (λ (j : Incoming). IsTaken own keys bytes j) w.is t
  where
    joined : (front body : List ℕ) (from to own number kind len : ℕ) (f : Frame) → front ≡ header kind from to number len → body ≡ body_of f → to ≡ own → kind ≡ kind_of f → len ≡ length (body_of f) → front ++ body ≡ signed from own number f
    joined front body from to own number kind len f is-front is-body is-to is-kind is-len = rw (is-front, is-body, is-to, is-kind, is-len) refl

-- ---- one to one

some_frame : (f g : Frame) (o : Option Frame) → o ≡ Some f → o ≡ Some g → f ≡ g
some_frame f g (Some x) e h = let p : x ≡ f = cc in let q : x ≡ g = cc in sym p ∙ q
some_frame f g None e h = absurd cc

pub same_frame : (from to number : ℕ) (f : Frame) (key : List ℕ) (from' to' number' : ℕ) (f' : Frame) (key' : List ℕ) → IsFrame from to number f → IsFrame from' to' number' f' → datagram key from to number f ≡ datagram key' from' to' number' f'
    → (from ≡ from') × (to ≡ to') × (number ≡ number') × (f ≡ f')
same_frame from to number f key from' to' number' f' key' h h' same =
    let s = spelled key from to number f h in
    let s' = spelled key' from' to' number' f' h' in
    let kinds : kind_of f' ≡ kind_of f = sym s'.kind_is ∙ ap kind_in (sym same) ∙ s.kind_is in
    let bodies : body_of f' ≡ body_of f = sym s'.body_is ∙ ap body_in (sym same) ∙ s.body_is in
    let again : read_body (kind_of f) (body_of f) ≡ Some f' = ap (λ (k : ℕ). read_body k (body_of f)) (sym kinds) ∙ ap (λ (l : List ℕ). read_body (kind_of f') l) (sym bodies) ∙ body_again f' h'.frame_fits in
    (sym s.sender_is ∙ ap sender_in same ∙ s'.sender_is, sym s.receiver_is ∙ ap receiver_in same ∙ s'.receiver_is, sym s.number_is ∙ ap number_in same ∙ s'.number_is, some_frame f f' _ (body_again f h.frame_fits) again)

pub one_key : (a b : List ℕ) (o : Option (List ℕ)) → o ≡ Some a → o ≡ Some b → a ≡ b
one_key a b (Some x) e h = let p : x ≡ a = cc in let q : x ≡ b = cc in sym p ∙ q
one_key a b None e h = absurd cc

-- ---- the length of a frame that is written

pub written_size : (key head body tag out start : List ℕ) (kind from to number len : ℕ) (text : List ℕ) → start ≡ [] → head ≡ start ++ header kind from to number len → HEADER_BYTES + length body + TAG_BYTES ≤ MOST_FRAME_BYTES → out ≡ head ++ body ++ tag → tag ≡ hmac key text → length out ≤ MOST_FRAME_BYTES
written_size key head body tag out start kind from to number len text none is-head short is-out is-tag =
    let first : length head ≡ HEADER_BYTES = ap (λ (l : List ℕ). length l) (is-head ∙ ap (λ (l : List ℕ). l ++ header kind from to number len) none) ∙ length-header kind from to number len in
    let last : length tag ≡ TAG_BYTES = ap (λ (l : List ℕ). length l) is-tag ∙ length-hmac key text in
    let all : length out ≡ length (head ++ body) + length tag = ap (λ (l : List ℕ). length l) is-out ∙ length-append (head ++ body) tag in
    omega (arith, first, last, all, length-append head body, short)
