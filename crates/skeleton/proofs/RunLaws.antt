-- Runs of items, and lists behind their number.
use Rattle.std.proofs.Common.{◌≡◌, ℕ, zero, suc, ◌^◌, ◌<◌, List, [], ◌∷◌, ◌++◌, length, Ok, refl, ap, sym, ◌∙◌, subst, append_assoc, append-nil}
use Rattle.std.specs.Prelude.{flat_map}
use Rattle.psb_bytes.specs.Numbers.{AreBytes, u32_bytes}
use Rattle.skeleton.specs.Texts.{list_bytes}
use Rattle.skeleton.specs.Reading.{Unread, Reading, u32_at, run_from, list_at}
use Rattle.skeleton.proofs.Found.{bind_ok, ok_is, value, rest}
use Rattle.skeleton.proofs.FieldLaws.{IsFront, IsField, then_front, u32_field}

-- an item behind each list of items
abbrev pub IsItem : {A : Type 0} → (A → List ℕ) → (List A → A → Type 0) → (List A → A → Type 0) → (List A → Unread → Reading A) → Type 0
IsItem {A} spell fit can item = (before : List A) → IsField spell (fit before) (can before) (item before)

-- what holds of the items so far and of each item more holds of all
pub run_keeps : {A : Type 0} (P : List A → Type 0) (fit : List A → A → Type 0) (item : List A → Unread → Reading A) → ((before : List A) (u : Unread) (x : A) (v : Unread) → item before u ≡ Ok (x, v) → fit before x) → ((before : List A) (x : A) → P before → fit before x → P (before ++ x ∷ []))
    → (n : ℕ) (before : List A) (u : Unread) (all : List A) (v : Unread) → P before → run_from item n before u ≡ Ok (all, v) → P all
run_keeps P fit item fits more zero before u all v h e = subst P (ap value (ok_is (before, u) (all, v) e)) h
run_keeps {A} P fit item fits more (suc n) before u all v h e =
    let b = bind_ok (item before u) (λ next. run_from item n (before ++ next.0 ∷ []) next.1) (all, v) e in
    run_keeps P fit item fits more n (before ++ b.0.0 ∷ []) b.0.1 all v (more before b.0.0 h (fits before u b.0.0 b.0.1 b.1)) b.2

-- the items that a run added
pub record IsAdded {A : Type 0} (spell : A → List ℕ) (n : ℕ) (before : List A) (bytes : List ℕ) (all : List A) (left : List ℕ) : Type 0 where
  pub added : List A
  pub whole : all ≡ before ++ added
  pub count : length added ≡ n
  pub front : IsFront bytes (flat_map spell added) left

pub run_takes : {A : Type 0} (spell : A → List ℕ) (fit can : List A → A → Type 0) (item : List A → Unread → Reading A) → IsItem spell fit can item
    → (n : ℕ) (before : List A) (u : Unread) (all : List A) (v : Unread) → AreBytes u.bytes → run_from item n before u ≡ Ok (all, v) → IsAdded spell n before u.bytes all v.bytes
run_takes {A} spell fit can item h zero before u all v ok e =
    let p = ok_is (before, u) (all, v) e in
    let same : u ≡ v = ap rest p in
    record { added = []; whole = sym (ap value p) ∙ sym (append-nil before); count = refl; front = record { whole = ap (λ (w : Unread). w.bytes) same; sound = subst (λ (w : Unread). AreBytes w.bytes) same ok } }
run_takes {A} spell fit can item h (suc n) before u all v ok e =
    let b = bind_ok (item before u) (λ next. run_from item n (before ++ next.0 ∷ []) next.1) (all, v) e in
    let first = (h before).takes u b.0.0 b.0.1 ok b.1 in
    let others = run_takes spell fit can item h n (before ++ b.0.0 ∷ []) b.0.1 all v first.sound b.2 in
    record {
      added = b.0.0 ∷ others.added;
      whole = others.whole ∙ append_assoc before (b.0.0 ∷ []) others.added;
      count = ap (λ (k : ℕ). suc k) others.count;
      front = then_front u.bytes (spell b.0.0) b.0.1.bytes (flat_map spell others.added) v.bytes first others.front;
    }

-- each item can be spelled behind those before it
abbrev pub AllCan : {A : Type 0} → (List A → A → Type 0) → List A → List A → Type 0
AllCan {A} can before items = (front : List A) (x : A) (back : List A) → items ≡ front ++ x ∷ back → can (before ++ front) x

pub run_again : {A : Type 0} (spell : A → List ℕ) (fit can : List A → A → Type 0) (item : List A → Unread → Reading A) → IsItem spell fit can item
    → (items before : List A) (p : ℕ) (more : List ℕ) → AllCan can before items → (q : ℕ) × (run_from item (length items) before (record { place = p; bytes = flat_map spell items ++ more }) ≡ Ok (before ++ items, record { place = q; bytes = more }))
run_again spell fit can item h [] before p more each = (p, rw (append-nil before) refl)
run_again {A} spell fit can item h (x ∷ items) before p more each =
    let here : can before x = subst (λ (l : List A). can l x) (append-nil before) (each [] x items refl) in
    let a = (h before).again p x (flat_map spell items ++ more) here in
    let each' : AllCan can (before ++ x ∷ []) items = λ front y back e. subst (λ (l : List A). can l y) (sym (append_assoc before (x ∷ []) front)) (each (x ∷ front) y back (ap (λ (l : List A). x ∷ l) e)) in
    let b = run_again spell fit can item h items (before ++ x ∷ []) a.0 more each' in
    let split : flat_map spell (x ∷ items) ++ more ≡ spell x ++ (flat_map spell items ++ more) = append_assoc (spell x) (flat_map spell items) more in
    (b.0, rw (split, a.1) (b.1 ∙ rw (append_assoc before (x ∷ []) items) refl))

-- a list behind its number
pub record CanList {A : Type 0} (can : List A → A → Type 0) (items : List A) : Type 0 where
  pub few : length items < 2 ^ 32
  pub each : AllCan can [] items

pub list_field : {A : Type 0} (spell : A → List ℕ) (P : List A → Type 0) (fit can : List A → A → Type 0) (item : List A → Unread → Reading A) → IsItem spell fit can item → P [] → ((before : List A) (x : A) → P before → fit before x → P (before ++ x ∷ []))
    → IsField (list_bytes spell) P (CanList can) (list_at item)
unfolding list_at
list_field {A} spell P fit can item h none more = record {
  fits = λ u items v e.
      let b = bind_ok (u32_at u) (λ n. run_from item n.0 [] n.1) (items, v) e in
      run_keeps P fit item (λ before. (h before).fits) more b.0.0 [] b.0.1 items v none b.2;
  takes = λ u items v ok e.
      let b = bind_ok (u32_at u) (λ n. run_from item n.0 [] n.1) (items, v) e in
      let first = u32_field.takes u b.0.0 b.0.1 ok b.1 in
      let t = run_takes spell fit can item h b.0.0 [] b.0.1 items v first.sound b.2 in
      let front = then_front u.bytes (u32_bytes b.0.0) b.0.1.bytes (flat_map spell t.added) v.bytes first t.front in
      let front' = subst (λ (n : ℕ). IsFront u.bytes (u32_bytes n ++ flat_map spell t.added) v.bytes) (sym t.count) front in
      subst (λ (l : List A). IsFront u.bytes (list_bytes spell l) v.bytes) (sym t.whole) front';
  again = λ p items rest c.
      let a = u32_field.again p (length items) (flat_map spell items ++ rest) c.few in
      let b = run_again spell fit can item h items [] a.0 rest c.each in
      (b.0, rw (append_assoc (u32_bytes (length items)) (flat_map spell items) rest, a.1) b.1);
}
