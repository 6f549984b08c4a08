-- Each field: what is read fits and is spelled so, and what fits and is spelled so is read.
use Rattle.std.proofs.Common.{◌≡◌, ℕ, ◌+◌, ◌^◌, ◌<◌, ◌≤◌, true, false, ◌&&◌, cond, ltb, leb, List, [], ◌∷◌, ◌++◌, length, take, drop, Ok, Err, refl, ap, sym, ◌∙◌, subst, inl, inr, append_assoc, length-append, length-take, arith}
use Rattle.std.specs.Prelude.{◌==◌, not}
use Rattle.std.proofs.lemmas.Bool.{cases_lt, and_parts, and_from, not-false, le-ltb, eqb-true, eq-eqb, leb-true}
use Rattle.std.proofs.lemmas.List.{take_at, drop_at, take-append-drop, get_or-drop, get_or-take, get_or_past}
use Rattle.std.proofs.lemmas.Nat.{be_bytes_2, be_bytes_4, be_bytes_8, from_be_bytes-to_be_bytes_2, from_be_bytes-to_be_bytes_4, from_be_bytes-to_be_bytes_8}
use Rattle.psb_bytes.specs.Numbers.{AreBytes, u8_bytes, u16_bytes, u32_bytes, u64_bytes, u8_of, u16_of, u32_of, u64_of}
use Rattle.psb_bytes.specs.declared.ids.Ref.{Ref}
use Rattle.skeleton.specs.declared.entry.Entry.{Entry}
use Rattle.skeleton.specs.declared.entry.EntryKind.{EntryKind}
use Rattle.skeleton.specs.declared.entry.EntryKind.TheVariants.{Folder, File}
use Rattle.skeleton.specs.declared.faults.FaultAt.{FaultAt}
use Rattle.skeleton.specs.declared.faults.SkelFault.TheVariants.{BadPath, BadOrder, BadCount}
use Rattle.skeleton.specs.declared.limits.TheConstants.{MOST_PATH_BYTES, MOST_CHUNK_BYTES, DIGEST_BYTES, FOLDER_KIND, FILE_KIND}
use Rattle.psb_bytes.specs.Names.{has_names}
use Rattle.skeleton.specs.Paths.{within, is_path}
use Rattle.skeleton.specs.Entries.{in_order, is_ref, has_digests, has_chunk_len}
use Rattle.skeleton.specs.Texts.{ref_bytes, kind_byte, path_bytes}
use Rattle.skeleton.specs.Reading.{◌>>=◌, Unread, Reading, refused, bytes_at, u8_at, u16_at, u32_at, u64_at, kind_at, path_len_at, path_at, ref_len_at, ref_at}
use Rattle.skeleton.proofs.Lists.{by_cases}
use Rattle.skeleton.proofs.Found.{bind_ok, then_ok, else_ok, found, ok_is, value, rest, bytes_found}

-- ---- bytes

pub AreBytes-drop : (n : ℕ) (bytes : List ℕ) → AreBytes bytes → AreBytes (drop n bytes)
AreBytes-drop n bytes h i = rw get_or-drop (h (n + i))

pub AreBytes-take : (n : ℕ) (bytes : List ℕ) → AreBytes bytes → AreBytes (take n bytes)
AreBytes-take n bytes h i =
    elim (cases_lt i n) [
      | inl lt ↦ rw (get_or-take n bytes i 0 lt) (h i)
      | inr le ↦ rw (get_or_past (take n bytes) i 0 (omega (arith, length-take n bytes))) (omega arith)
    ]

-- ---- a field

-- the front of a text is the spelling of a value, and the rest are bytes
pub record IsFront (bytes spelled more : List ℕ) : Type 0 where
  pub whole : bytes ≡ spelled ++ more
  pub sound : AreBytes more

-- what is read fits; it is spelled so; and what can be spelled is read again
pub record IsField {A : Type 0} (spell : A → List ℕ) (fit can : A → Type 0) (read : Unread → Reading A) : Type 0 where
  pub fits : (u : Unread) (x : A) (v : Unread) → read u ≡ Ok (x, v) → fit x
  pub takes : (u : Unread) (x : A) (v : Unread) → AreBytes u.bytes → read u ≡ Ok (x, v) → IsFront u.bytes (spell x) v.bytes
  pub again : (p : ℕ) (x : A) (more : List ℕ) → can x → (q : ℕ) × (read (record { place = p; bytes = spell x ++ more }) ≡ Ok (x, record { place = q; bytes = more }))

abbrev pub as_they_are : List ℕ → List ℕ
as_they_are bytes = bytes

pub bytes_again : (n p : ℕ) (x more : List ℕ) → length x ≡ n → bytes_at n (record { place = p; bytes = x ++ more }) ≡ Ok (x, record { place = p + n; bytes = more })
unfolding bytes_at
bytes_again n p x more len =
    let long : ltb (length (x ++ more)) n ≡ false = le-ltb _ _ (omega (arith, length-append x more, len)) in
    rw (long, take_at x more n len, drop_at x more n len) refl

pub bytes_len : (n : ℕ) (u : Unread) (x : List ℕ) (v : Unread) → bytes_at n u ≡ Ok (x, v) → length x ≡ n
bytes_len n u x v e =
    let t = bytes_found n u x v e in
    ap (λ (l : List ℕ). length l) (sym t.1) ∙ omega (arith, length-take n u.bytes, t.0)

pub bytes_field : (n : ℕ) → IsField as_they_are (λ x. length x ≡ n) (λ x. length x ≡ n) (bytes_at n)
bytes_field n = record {
  fits = λ u x v e. bytes_len n u x v e;
  takes = λ u x v ok e.
      let t = bytes_found n u x v e in
      record { whole = rw (← t.1, ← t.2) (sym (take-append-drop n u.bytes)); sound = subst AreBytes t.2 (AreBytes-drop n u.bytes ok) };
  again = λ p x more len. (p + n, bytes_again n p x more len);
}

-- ---- numbers

pub record IsNumber (len limit : ℕ) (bytes_of : ℕ → List ℕ) (number_of : List ℕ → ℕ) : Type 0 where
  pub size : (n : ℕ) → length (bytes_of n) ≡ len
  pub back : (bytes : List ℕ) → length bytes ≡ len → AreBytes bytes → bytes_of (number_of bytes) ≡ bytes
  pub same : (n : ℕ) → n < limit → number_of (bytes_of n) ≡ n
  pub below : (bytes : List ℕ) → AreBytes bytes → number_of bytes < limit

one_back : (bytes : List ℕ) → length bytes ≡ 1 → u8_bytes (u8_of bytes) ≡ bytes
one_back [] len = absurd (omega arith)
one_back (b ∷ []) len = refl
one_back (b ∷ c ∷ bytes) len = absurd (omega arith)

pub u8_number : IsNumber 1 (2 ^ 8) u8_bytes u8_of
u8_number = record {
  size = λ n. refl;
  back = λ bytes len ok. one_back bytes len;
  same = λ n lt. refl;
  below = λ bytes ok. omega (arith, ok 0);
}

pub u16_number : IsNumber 2 (2 ^ 16) u16_bytes u16_of
u16_number = record {
  size = λ n. refl;
  back = λ bytes len ok. be_bytes_2 bytes _ len ok refl;
  same = λ n lt. from_be_bytes-to_be_bytes_2 n lt;
  below = λ bytes ok. omega (arith, ok 0, ok 1);
}

pub u32_number : IsNumber 4 (2 ^ 32) u32_bytes u32_of
u32_number = record {
  size = λ n. refl;
  back = λ bytes len ok. be_bytes_4 bytes _ len ok refl;
  same = λ n lt. from_be_bytes-to_be_bytes_4 n lt;
  below = λ bytes ok. omega (arith, ok 0, ok 1, ok 2, ok 3);
}

pub u64_number : IsNumber 8 (2 ^ 64) u64_bytes u64_of
u64_number = record {
  size = λ n. refl;
  back = λ bytes len ok. be_bytes_8 bytes _ len ok refl;
  same = λ n lt. from_be_bytes-to_be_bytes_8 n lt;
  below = λ bytes ok. omega (arith, ok 0, ok 1, ok 2, ok 3, ok 4, ok 5, ok 6, ok 7);
}

abbrev pub always : {A : Type 0} → A → Type 0
always x = Unit {0}

abbrev pub number_from : ℕ → (List ℕ → ℕ) → Unread → Reading ℕ
number_from len number_of u = bytes_at len u >>= λ front. Ok (number_of front.0, front.1)

number_step : (len limit : ℕ) (bytes_of : ℕ → List ℕ) (number_of : List ℕ → ℕ) → IsNumber len limit bytes_of number_of → (u : Unread) (front : List ℕ) (after : Unread) → AreBytes u.bytes → bytes_at len u ≡ Ok (front, after) → IsFront u.bytes (bytes_of (number_of front)) after.bytes
number_step len limit bytes_of number_of h u front after ok e =
    let t = bytes_found len u front after e in
    let f = (bytes_field len).takes u front after ok e in
    let each : AreBytes front = subst AreBytes t.1 (AreBytes-take len u.bytes ok) in
    record { whole = f.whole ∙ ap (λ (x : List ℕ). x ++ after.bytes) (sym (h.back front (bytes_len len u front after e) each)); sound = f.sound }

pub number_field : (len limit : ℕ) (bytes_of : ℕ → List ℕ) (number_of : List ℕ → ℕ) → IsNumber len limit bytes_of number_of → IsField bytes_of always (λ n. n < limit) (number_from len number_of)
number_field len limit bytes_of number_of h = record {
  fits = λ u n v e. tt;
  takes = λ u n v ok e.
      let b = bind_ok (bytes_at len u) (λ front. found (number_of front.0, front.1)) (n, v) e in
      let p = ok_is (number_of b.0.0, b.0.1) (n, v) b.2 in
      subst (λ (x : ℕ × Unread). IsFront u.bytes (bytes_of x.0) x.1.bytes) p (number_step len limit bytes_of number_of h u b.0.0 b.0.1 ok b.1);
  again = λ p n more lt. (p + len, rw (bytes_again len p (bytes_of n) more (h.size n), h.same n lt) refl);
}

pub u8_field : IsField u8_bytes always (λ n. n < 2 ^ 8) u8_at
unfolding u8_at
u8_field = number_field 1 (2 ^ 8) u8_bytes u8_of u8_number

pub u16_field : IsField u16_bytes always (λ n. n < 2 ^ 16) u16_at
unfolding u16_at
u16_field = number_field 2 (2 ^ 16) u16_bytes u16_of u16_number

pub u32_field : IsField u32_bytes always (λ n. n < 2 ^ 32) u32_at
unfolding u32_at
u32_field = number_field 4 (2 ^ 32) u32_bytes u32_of u32_number

pub u64_field : IsField u64_bytes always (λ n. n < 2 ^ 64) u64_at
unfolding u64_at
u64_field = number_field 8 (2 ^ 64) u64_bytes u64_of u64_number

-- ---- a number in bounds

abbrev pub bounded_from : (Unread → Reading ℕ) → ℕ → (Unread → FaultAt) → Unread → Reading ℕ
bounded_from read most refusal u = read u >>= λ n. cond (within 1 most n.0) (Ok n) (Err (refusal u))

within_most : (most n : ℕ) → within 1 most n ≡ true → n ≤ most
within_most most n e = leb-true n most (and_parts (leb 1 n) (leb n most) e).1

pub bounded_field : (bytes_of : ℕ → List ℕ) (limit most : ℕ) (read : Unread → Reading ℕ) (refusal : Unread → FaultAt) → most < limit → IsField bytes_of always (λ n. n < limit) read → IsField bytes_of (λ n. within 1 most n ≡ true) (λ n. within 1 most n ≡ true) (bounded_from read most refusal)
bounded_field bytes_of limit most read refusal small h = record {
  fits = λ u n v e.
      let b = bind_ok (read u) (λ n. cond (within 1 most n.0) (Ok n) (Err (refusal u))) (n, v) e in
      let g = then_ok (within 1 most b.0.0) (Ok b.0) (refusal u) (n, v) b.2 in
      subst (λ (x : ℕ × Unread). within 1 most x.0 ≡ true) (ok_is b.0 (n, v) g.1) g.0;
  takes = λ u n v ok e.
      let b = bind_ok (read u) (λ n. cond (within 1 most n.0) (Ok n) (Err (refusal u))) (n, v) e in
      let g = then_ok (within 1 most b.0.0) (Ok b.0) (refusal u) (n, v) b.2 in
      subst (λ (x : ℕ × Unread). IsFront u.bytes (bytes_of x.0) x.1.bytes) (ok_is b.0 (n, v) g.1) (h.takes u b.0.0 b.0.1 ok b.1);
  again = λ p n more fit.
      let a = h.again p n more (omega (arith, within_most most n fit, small)) in
      (a.0, rw (a.1, fit) refl);
}

pub path_len_field : IsField u16_bytes (λ n. within 1 MOST_PATH_BYTES n ≡ true) (λ n. within 1 MOST_PATH_BYTES n ≡ true) path_len_at
unfolding path_len_at
path_len_field = bounded_field u16_bytes (2 ^ 16) MOST_PATH_BYTES u16_at (λ u. record { fault = BadPath; place = u.place }) (omega arith) u16_field

pub ref_len_field : IsField u32_bytes (λ n. within 1 MOST_CHUNK_BYTES n ≡ true) (λ n. within 1 MOST_CHUNK_BYTES n ≡ true) ref_len_at
unfolding ref_len_at
ref_len_field = bounded_field u32_bytes (2 ^ 32) MOST_CHUNK_BYTES u32_at (λ u. record { fault = BadCount; place = u.place }) (omega arith) u32_field

-- ---- the kind

abbrev pub one_kind : EntryKind → List ℕ
one_kind kind = kind_byte kind ∷ []

abbrev kind_by : Unread → ℕ × Unread → Reading EntryKind
kind_by u b = cond (b.0 == FOLDER_KIND) (Ok (Folder, b.1)) (cond (b.0 == FILE_KIND) (Ok (File, b.1)) (refused BadCount u))

kind_found : (u : Unread) (b : ℕ × Unread) (k : EntryKind) (v : Unread) → kind_by u b ≡ Ok (k, v) → (b.0 ≡ kind_byte k) × (b.1 ≡ v)
kind_found u b k v e =
    by_cases (b.0 == FOLDER_KIND)
    (λ is. let p = ok_is (Folder, b.1) (k, v) (rw is at e) in (eqb-true b.0 FOLDER_KIND is ∙ ap (λ (x : EntryKind × Unread). kind_byte x.0) p, ap rest p))
    (λ not-folder.
    let g = then_ok (b.0 == FILE_KIND) (Ok (File, b.1)) (record { fault = BadCount; place = u.place }) (k, v) (rw not-folder at e) in
    let p = ok_is (File, b.1) (k, v) g.1 in
    (eqb-true b.0 FILE_KIND g.0 ∙ ap (λ (x : EntryKind × Unread). kind_byte x.0) p, ap rest p))

kind_again : (u v : Unread) (k : EntryKind) → kind_by u (kind_byte k, v) ≡ Ok (k, v)
kind_again u v Folder = refl
kind_again u v File = refl

kind_small : (k : EntryKind) → kind_byte k < 2 ^ 8
kind_small Folder = omega arith
kind_small File = omega arith

pub kind_field : IsField one_kind always always kind_at
unfolding kind_at
kind_field = record {
  fits = λ u k v e. tt;
  takes = λ u k v ok e.
      let b = bind_ok (u8_at u) (kind_by u) (k, v) e in
      let t = u8_field.takes u b.0.0 b.0.1 ok b.1 in
      let f = kind_found u b.0 k v b.2 in
      record { whole = t.whole ∙ rw (f.0, f.1) refl; sound = subst (λ (w : Unread). AreBytes w.bytes) f.1 t.sound };
  again = λ p k more any.
      let a = u8_field.again p (kind_byte k) more (kind_small k) in
      (a.0, rw a.1 (kind_again (record { place = p; bytes = one_kind k ++ more }) (record { place = a.0; bytes = more }) k));
}

-- ---- one field behind another

pub then_front : (bytes first middle second more : List ℕ) → IsFront bytes first middle → IsFront middle second more → IsFront bytes (first ++ second) more
then_front bytes first middle second more f g = record {
  whole = f.whole ∙ ap (λ (x : List ℕ). first ++ x) g.whole ∙ sym (append_assoc first second more);
  sound = g.sound;
}

-- ---- a path

path_len_fits : (path : List ℕ) → is_path path ≡ true → within 1 MOST_PATH_BYTES (length path) ≡ true
unfolding is_path
path_len_fits path h = (and_parts (within 1 MOST_PATH_BYTES (length path)) (has_names path) h).0

-- a path that may stand behind these entries
pub record IsPathBehind (before : List Entry) (path : List ℕ) : Type 0 where
  pub valid : is_path path ≡ true
  pub ordered : in_order before path ≡ true

abbrev path_by : List Entry → ℕ × Unread → List ℕ × Unread → Reading (List ℕ)
path_by before len path = cond (not (is_path path.0)) (refused BadPath len.1) (cond (not (in_order before path.0)) (refused BadOrder len.1) (Ok path))

path_passed : (before : List Entry) (len : ℕ × Unread) (path found : List ℕ × Unread) → path_by before len path ≡ Ok found → IsPathBehind before path.0 × (path ≡ found)
path_passed before len path found e =
    let g = else_ok (not (is_path path.0)) (cond (not (in_order before path.0)) (refused BadOrder len.1) (Ok path)) (record { fault = BadPath; place = len.1.place }) found e in
    let k = else_ok (not (in_order before path.0)) (Ok path) (record { fault = BadOrder; place = len.1.place }) found g.1 in
    (record { valid = not-false (is_path path.0) g.0; ordered = not-false (in_order before path.0) k.0 }, ok_is path found k.1)

-- the length, the path and the tests of a path that was read
record IsPathRead (before : List Entry) (u : Unread) (path : List ℕ) (v : Unread) : Type 0 where
  len : ℕ × Unread
  len-is : path_len_at u ≡ Ok len
  path-is : bytes_at len.0 len.1 ≡ Ok (path, v)
  fit : IsPathBehind before path

path_read : (before : List Entry) (u : Unread) (path : List ℕ) (v : Unread) → path_at before u ≡ Ok (path, v) → IsPathRead before u path v
unfolding path_at
path_read before u path v e =
    let b = bind_ok (path_len_at u) (λ len. bytes_at len.0 len.1 >>= λ path. path_by before len path) (path, v) e in
    let d = bind_ok (bytes_at b.0.0 b.0.1) (λ path. path_by before b.0 path) (path, v) b.2 in
    let t = path_passed before b.0 d.0 (path, v) d.2 in
    record { len = b.0; len-is = b.1; path-is = d.1 ∙ ap found t.1; fit = subst (λ (x : List ℕ × Unread). IsPathBehind before x.0) t.1 t.0 }

path_again : (before : List Entry) (p : ℕ) (path more : List ℕ) → IsPathBehind before path → (q : ℕ) × (path_at before (record { place = p; bytes = path_bytes path ++ more }) ≡ Ok (path, record { place = q; bytes = more }))
unfolding path_at
path_again before p path more h =
    let a = path_len_field.again p (length path) (path ++ more) (path_len_fits path h.valid) in
    (a.0 + length path, rw (append_assoc (u16_bytes (length path)) path more, a.1, bytes_again (length path) a.0 path more refl, h.valid, h.ordered) refl)

pub path_field : (before : List Entry) → IsField path_bytes (IsPathBehind before) (IsPathBehind before) (path_at before)
path_field before = record {
  fits = λ u path v e. (path_read before u path v e).fit;
  takes = λ u path v ok e.
      let r = path_read before u path v e in
      let first = path_len_field.takes u r.len.0 r.len.1 ok r.len-is in
      let second = (bytes_field r.len.0).takes r.len.1 path v first.sound r.path-is in
      let whole = then_front u.bytes (u16_bytes r.len.0) r.len.1.bytes path v.bytes first second in
      subst (λ (n : ℕ). IsFront u.bytes (u16_bytes n ++ path) v.bytes) (sym (bytes_len r.len.0 r.len.1 path v r.path-is)) whole;
  again = path_again before;
}

-- ---- a ref

abbrev IsRef : Ref → Type 0
IsRef r = is_ref r ≡ true

record IsRefRead (u : Unread) (r : Ref) (v : Unread) : Type 0 where
  name : List ℕ × Unread
  handle : List ℕ × Unread
  len : ℕ × Unread
  name-is : bytes_at DIGEST_BYTES u ≡ Ok name
  handle-is : bytes_at DIGEST_BYTES name.1 ≡ Ok handle
  len-is : ref_len_at handle.1 ≡ Ok len
  ref-is : record { name = name.0; handle = handle.0; len = len.0 } ≡ r
  rest-is : len.1 ≡ v

abbrev made_ref : List ℕ → List ℕ → ℕ → Ref
made_ref name handle len = record { name = name; handle = handle; len = len }

ref_read : (u : Unread) (r : Ref) (v : Unread) → ref_at u ≡ Ok (r, v) → IsRefRead u r v
unfolding ref_at
ref_read u r v e =
    let b = bind_ok (bytes_at DIGEST_BYTES u) (λ name. bytes_at DIGEST_BYTES name.1 >>= λ handle. ref_len_at handle.1 >>= λ len. found (made_ref name.0 handle.0 len.0, len.1)) (r, v) e in
    let d = bind_ok (bytes_at DIGEST_BYTES b.0.1) (λ handle. ref_len_at handle.1 >>= λ len. found (made_ref b.0.0 handle.0 len.0, len.1)) (r, v) b.2 in
    let f = bind_ok (ref_len_at d.0.1) (λ len. found (made_ref b.0.0 d.0.0 len.0, len.1)) (r, v) d.2 in
    let p = ok_is (made_ref b.0.0 d.0.0 f.0.0, f.0.1) (r, v) f.2 in
    record { name = b.0; handle = d.0; len = f.0; name-is = b.1; handle-is = d.1; len-is = f.1; ref-is = ap value p; rest-is = ap rest p }

ref_again : (p : ℕ) (r : Ref) (more : List ℕ) → IsRef r → (q : ℕ) × (ref_at (record { place = p; bytes = ref_bytes r ++ more }) ≡ Ok (r, record { place = q; bytes = more }))
unfolding ref_at
ref_again p r more h =
    let t = and_parts (has_digests r) (has_chunk_len r) h in
    let k = and_parts (length r.name == DIGEST_BYTES) (length r.handle == DIGEST_BYTES) t.0 in
    let a = ref_len_field.again (p + 32 + 32) r.len more t.1 in
    let split : ref_bytes r ++ more ≡ r.name ++ (r.handle ++ (u32_bytes r.len ++ more)) = append_assoc (r.name ++ r.handle) (u32_bytes r.len) more ∙ append_assoc r.name r.handle (u32_bytes r.len ++ more) in
    (a.0, rw (split, bytes_again 32 p r.name (r.handle ++ (u32_bytes r.len ++ more)) (eqb-true (length r.name) 32 k.0), bytes_again 32 (p + 32) r.handle (u32_bytes r.len ++ more) (eqb-true (length r.handle) 32 k.1), a.1) refl)

pub ref_field : IsField ref_bytes IsRef IsRef ref_at
ref_field = record {
  fits = λ u r v e.
      let t = ref_read u r v e in
      let name = eq-eqb (length t.name.0) DIGEST_BYTES (bytes_len DIGEST_BYTES u t.name.0 t.name.1 t.name-is) in
      let handle = eq-eqb (length t.handle.0) DIGEST_BYTES (bytes_len DIGEST_BYTES t.name.1 t.handle.0 t.handle.1 t.handle-is) in
      let len = ref_len_field.fits t.handle.1 t.len.0 t.len.1 t.len-is in
      subst IsRef t.ref-is (and_from _ _ (and_from _ _ name handle) len);
  takes = λ u r v ok e.
      let t = ref_read u r v e in
      let first = (bytes_field DIGEST_BYTES).takes u t.name.0 t.name.1 ok t.name-is in
      let second = (bytes_field DIGEST_BYTES).takes t.name.1 t.handle.0 t.handle.1 first.sound t.handle-is in
      let third = ref_len_field.takes t.handle.1 t.len.0 t.len.1 second.sound t.len-is in
      let both = then_front u.bytes t.name.0 t.name.1.bytes t.handle.0 t.handle.1.bytes first second in
      let whole = then_front u.bytes (t.name.0 ++ t.handle.0) t.handle.1.bytes (u32_bytes t.len.0) t.len.1.bytes both third in
      subst (λ (w : Unread). IsFront u.bytes (ref_bytes r) w.bytes) t.rest-is (subst (λ (x : Ref). IsFront u.bytes (ref_bytes x) t.len.1.bytes) t.ref-is whole);
  again = ref_again;
}
