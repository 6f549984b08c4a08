-- Each field: what is read is spelled so and fits, and what fits and is spelled so is read.
use Rattle.std.proofs.Common.{◌≡◌, ℕ, zero, suc, ◌+◌, ◌*◌, ◌^◌, ◌<◌, ◌≤◌, Bool, true, ◌&&◌, cond, leb, List, [], ◌∷◌, ◌++◌, length, take, drop, Option, Some, None, refl, ap, sym, ◌∙◌, subst, append_assoc, length-append, length-take, length-drop, arith}
use Rattle.std.specs.Prelude.{flat_map}
use Rattle.std.specs.List.{list_all}
use Rattle.std.proofs.lemmas.Bool.{and_parts, leb-true, lt-ltb}
use Rattle.std.proofs.lemmas.List.{take_at, drop_at, take-append-drop, nil_from_length}
use Rattle.std.proofs.lemmas.List.Concat.{flat_map-cons}
use Rattle.std.proofs.Math.Nat.{mul-suc}
use Rattle.psb_bytes.specs.Numbers.{AreBytes, u16_bytes}
use Rattle.wire_codec.specs.Fields.{◌>>=◌, within, bytes_at, u16_at, cells, count_at}
use Rattle.byte_fields.proofs.Found.{bind_some, then_some, some_is, bytes_found}
use Rattle.wire_codec.proofs.Spans.{length-cells}
use Rattle.byte_fields.proofs.FieldLaws.{AreBytes-drop, AreBytes-take, IsField, and_both, bytes_again, bytes_field, u16_field}

-- ---- counts

pub within_most : (least most n : ℕ) → within least most n ≡ true → n ≤ most
within_most least most n e = leb-true n most (and_parts (leb least n) (leb n most) e).1

pub count_field : (least most : ℕ) → most < 2 ^ 16 → IsField u16_bytes (within least most) (count_at least most)
unfolding count_at
count_field least most small = record {
  takes = λ bytes n rest ok e.
      let b = bind_some (u16_at bytes) (λ n. cond (within least most n.0) (Some n) None) (n, rest) e in
      let g = then_some (within least most b.0.0) (Some b.0) (n, rest) b.2 in
      let p = some_is b.0 (n, rest) g.1 in
      let t = u16_field.takes bytes b.0.0 b.0.1 ok b.1 in
      subst (λ (x : ℕ × List ℕ). (bytes ≡ u16_bytes x.0 ++ x.1) × (within least most x.0 ≡ true) × AreBytes x.1) p (t.0, g.0, t.2);
  again = λ n rest fit. rw (u16_field.again n rest (lt-ltb n (2 ^ 16) (omega (arith, within_most least most n fit, small))), fit) refl;
}

-- ---- lists of cells

pub record IsCell {A : Type 0} (width : ℕ) (cell : List ℕ → A) (item : A → List ℕ) (fit : A → Bool) : Type 0 where
  pub back : (c : List ℕ) → length c ≡ width → AreBytes c → (item (cell c) ≡ c) × (fit (cell c) ≡ true)
  pub same : (x : A) → fit x ≡ true → (length (item x) ≡ width) × (cell (item x) ≡ x)

cells_back : {A : Type 0} (width : ℕ) (cell : List ℕ → A) (item : A → List ℕ) (fit : A → Bool) → IsCell width cell item fit → (n : ℕ) (span : List ℕ) → length span ≡ width * n → AreBytes span
    → (flat_map item (cells width cell n span) ≡ span) × (list_all fit (cells width cell n span) ≡ true)
cells_back width cell item fit h zero span len ok =
    let none : length span ≡ 0 = len ∙ omega arith in
    (sym (nil_from_length span none), refl)
cells_back width cell item fit h (suc n) span len ok =
    let e : width * suc n ≡ width * n + width = mul-suc width n in
    let front : length (take width span) ≡ width = omega (arith, length-take width span, len, e) in
    let rest : length (drop width span) ≡ width * n = omega (arith, length-drop width span, len, e) in
    let first = h.back (take width span) front (AreBytes-take width span ok) in
    let others = cells_back width cell item fit h n (drop width span) rest (AreBytes-drop width span ok) in
    (flat_map-cons item (cell (take width span)) (cells width cell n (drop width span)) ∙ rw (first.0, others.0) (take-append-drop width span), and_both _ _ first.1 others.1)

pub cells_same : {A : Type 0} (width : ℕ) (cell : List ℕ → A) (item : A → List ℕ) (fit : A → Bool) → IsCell width cell item fit → (xs : List A) → list_all fit xs ≡ true
    → (cells width cell (length xs) (flat_map item xs) ≡ xs) × (length (flat_map item xs) ≡ width * length xs)
cells_same width cell item fit h [] e = (refl, omega arith)
cells_same width cell item fit h (x ∷ xs) e =
    let p = and_parts (fit x) (list_all fit xs) e in
    let first = h.same x p.0 in
    let others = cells_same width cell item fit h xs p.1 in
    let whole : flat_map item (x ∷ xs) ≡ item x ++ flat_map item xs = flat_map-cons item x xs in
    let m : width * suc (length xs) ≡ width * length xs + width = mul-suc width (length xs) in (
      rw (whole, take_at (item x) (flat_map item xs) width first.0, drop_at (item x) (flat_map item xs) width first.0, first.1, others.0) refl,
      rw whole (omega (arith, length-append (item x) (flat_map item xs), first.0, others.1, m)),
    )

abbrev pub list_spelled : {A : Type 0} → (A → List ℕ) → List A → List ℕ
list_spelled item xs = u16_bytes (length xs) ++ flat_map item xs

abbrev pub list_fits : {A : Type 0} → (A → Bool) → (List A → Bool) → ℕ → ℕ → List A → Bool
list_fits fit test least most xs = within least most (length xs) && (list_all fit xs && test xs)

abbrev pub list_from : {A : Type 0} → ℕ → (List ℕ → A) → (List A → Bool) → ℕ → ℕ → List ℕ → Option (List A × List ℕ)
list_from width cell test least most bytes =
    count_at least most bytes >>= λ n. bytes_at (width * n.0) n.1 >>= λ span. cond (test (cells width cell n.0 span.0)) (Some (cells width cell n.0 span.0, span.1)) None

list_step : {A : Type 0} (item : A → List ℕ) (fit : A → Bool) (test : List A → Bool) (least most n : ℕ) (bytes tail span after : List ℕ) (xs : List A) → bytes ≡ u16_bytes n ++ tail → within least most n ≡ true → tail ≡ span ++ after → length xs ≡ n → flat_map item xs ≡ span → list_all fit xs ≡ true → test xs ≡ true
    → (bytes ≡ list_spelled item xs ++ after) × (list_fits fit test least most xs ≡ true)
list_step item fit test least most n bytes tail span after xs whole counted rest len spelled each passed =
    (whole ∙ rw (len, spelled, rest) (sym (append_assoc (u16_bytes n) span after)), rw (len, counted, each, passed) refl)

pub list_field : {A : Type 0} (width : ℕ) (cell : List ℕ → A) (item : A → List ℕ) (fit : A → Bool) → IsCell width cell item fit → (test : List A → Bool) (least most : ℕ) → most < 2 ^ 16
    → IsField (list_spelled item) (list_fits fit test least most) (list_from width cell test least most)
list_field {A} width cell item fit h test least most small = record {
  takes = λ bytes xs rest ok e.
      let b = bind_some (count_at least most bytes) (λ n. bytes_at (width * n.0) n.1 >>= λ span. cond (test (cells width cell n.0 span.0)) (Some (cells width cell n.0 span.0, span.1)) None) (xs, rest) e in
      let n = b.0.0 in
      let c = bind_some (bytes_at (width * n) b.0.1) (λ span. cond (test (cells width cell n span.0)) (Some (cells width cell n span.0, span.1)) None) (xs, rest) b.2 in
      let g = then_some (test (cells width cell n c.0.0)) (Some (cells width cell n c.0.0, c.0.1)) (xs, rest) c.2 in
      let p = some_is (cells width cell n c.0.0, c.0.1) (xs, rest) g.1 in
      let counted = (count_field least most small).takes bytes n b.0.1 ok b.1 in
      let f = bytes_found (width * n) b.0.1 c.0.0 c.0.1 c.1 in
      let t = (bytes_field (width * n)).takes b.0.1 c.0.0 c.0.1 counted.2 c.1 in
      let size : length c.0.0 ≡ width * n = ap (λ (l : List ℕ). length l) (sym f.1) ∙ omega (arith, length-take (width * n) b.0.1, f.0) in
      let each : AreBytes c.0.0 = subst AreBytes f.1 (AreBytes-take (width * n) b.0.1 counted.2) in
      let k = cells_back width cell item fit h n c.0.0 size each in
      let len : length (cells width cell n c.0.0) ≡ n = length-cells width cell n c.0.0 in
      let both = list_step item fit test least most n bytes b.0.1 c.0.0 c.0.1 (cells width cell n c.0.0) counted.0 counted.1 t.0 len k.0 k.1 g.0 in
      subst (λ (x : List A × List ℕ). (bytes ≡ list_spelled item x.0 ++ x.1) × (list_fits fit test least most x.0 ≡ true) × AreBytes x.1) {x = (cells width cell n c.0.0, c.0.1)} p (both.0, both.1, t.2);
  again = λ xs rest e.
      let p = and_parts (within least most (length xs)) (list_all fit xs && test xs) e in
      let q = and_parts (list_all fit xs) (test xs) p.1 in
      let k = cells_same width cell item fit h xs q.0 in
      rw (append_assoc (u16_bytes (length xs)) (flat_map item xs) rest, (count_field least most small).again (length xs) (flat_map item xs ++ rest) p.0, bytes_again (width * length xs) (flat_map item xs) rest k.1, k.0, q.1) refl;
}
