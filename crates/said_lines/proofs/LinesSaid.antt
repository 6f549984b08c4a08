-- Lines are said one after another.
use Rattle.std.proofs.Common.{◌≡◌, ℕ, zero, suc, ◌+◌, ◌<◌, ◌≤◌, List, [], ◌∷◌, ◌++◌, length, take, drop, map, flat_map, get_or, Result, Ok, Err, OnOk, refl, sym, ◌∙◌, ap, subst, arith, length-append}
use Rattle.std.proofs.lemmas.Grind.{flat_map-append}
use Rattle.std.proofs.lemmas.List.{append-nil, take_more, take-append-drop, map-append, take_all}
use Rattle.psb_station.specs.View.{View}
use Rattle.psb_station.specs.Calls.{Rose}
use Rattle.psb_station.proofs.Spans.{rose_last}
use Rattle.said_lines.specs.Lines.{joined_lines}
use Rattle.said_lines.specs.Says.{Utters, SaysLines}
use Rattle.said_lines.specs.declared.saying.SayError.{SayError}
use Rattle.said_lines.specs.declared.saying.SayError.TheVariants as say_error
use Rattle.said_lines.proofs.Utterances.{utters_none, utters_then}

take_map : {A B : Type 0} (f : A → B) (n : ℕ) (l : List A) → take n (map f l) ≡ map f (take n l)
take_map f zero l = refl
take_map f (suc n) [] = refl
take_map f (suc n) (x ∷ l) = ap (λ m. f x ∷ m) (take_map f n l)

length_map : {A B : Type 0} (f : A → B) (l : List A) → length (map f l) ≡ length l
length_map f [] = refl
length_map f (x ∷ l) = omega (arith, length_map f l)

take_front : {A : Type 0} (n : ℕ) (l m : List A) → n ≤ length l → take n (l ++ m) ≡ take n l
take_front zero l m le = refl
take_front (suc n) [] m le = absurd (omega (arith, le))
take_front (suc n) (x ∷ l) m le = ap (λ k. x ∷ k) (take_front n l m (omega (arith, le)))

joined_more : (lines : List (List ℕ)) (line : List ℕ) → joined_lines (lines ++ line ∷ []) ≡ joined_lines lines ++ line
joined_more [] line = append-nil line
joined_more (x ∷ lines) line = ap (λ (l : List ℕ). x ++ l) (joined_more lines line) ∙ sym (assoc x (joined_lines lines) line)
  where
    assoc : (a b c : List ℕ) → a ++ b ++ c ≡ a ++ (b ++ c)
    assoc [] b c = refl
    assoc (y ∷ a) b c = ap (λ (l : List ℕ). y ∷ l) (assoc a b c)

utters_as : (v0 v1 : View) (n m : ℕ) (a b : List ℕ) → n ≡ m → a ≡ b → Utters v0 v1 n a → Utters v0 v1 m b
utters_as v0 v1 n m a b count text u = subst (λ (l : List ℕ). Utters v0 v1 m l) text (subst (λ (k : ℕ). Utters v0 v1 k a) count u)

-- the lines of so many items were said
abbrev pub Saying : {A : Type 0} → (A → List ℕ) → List A → View → View → ℕ → Type 0
Saying line items v0 v1 i = Utters v0 v1 i (joined_lines (map line (take i items)))

pub item_said : {A : Type 0} (line : A → List ℕ) (items : List A) (v0 v1 v2 : View) (i : ℕ) (p : A) → i < length items → get_or items i p ≡ p → Saying line items v0 v1 i → Utters v1 v2 1 (line p) → Saying line items v0 v2 (i + 1)
item_said {A = A} line items v0 v1 v2 i p lt here u one =
    let more : joined_lines (map line (take i items)) ++ line p ≡ joined_lines (map line (take (i + 1) items)) =
    sym (ap (λ (l : List A). joined_lines (map line l)) (take_more items i p lt ∙ ap (λ (q : A). take i items ++ q ∷ []) here)
    ∙ ap joined_lines (map-append line (take i items) (p ∷ []))
    ∙ joined_more (map line (take i items)) (line p)) in
    utters_as v0 v2 (i + 1) (i + 1) _ _ refl more (utters_then v0 v1 v2 i 1 (joined_lines (map line (take i items))) (line p) u one)

many_lines : {A : Type 0} (line : A → List ℕ) (items : List A) → length (map line items) ≡ length items
many_lines line items = length_map line items

stopped : {A : Type 0} (line : A → List ℕ) (items : List A) (v0 v1 v2 : View) (i : ℕ) → i < length items → Saying line items v0 v1 i → Utters v1 v2 1 [] → Rose v1.outside.say_faults v2.outside.say_faults
    → SaysLines (map line items) v0 v2 (Err say_error.Say)
stopped line items v0 v1 v2 i lt u one rose = (
  i,
  omega (arith, lt, many_lines line items),
  utters_as v0 v2 (i + 1) (i + 1) _ _ refl (append-nil (joined_lines (map line (take i items))) ∙ ap joined_lines (sym (take_map line i items))) (utters_then v0 v1 v2 i 1 (joined_lines (map line (take i items))) [] u one),
  rose_last v0.outside.say_faults v1.outside.say_faults v2.outside.say_faults u.counts rose,
)

short_of_memory : {A : Type 0} (line : A → List ℕ) (items : List A) (v0 v1 : View) (i : ℕ) → i < length items → Saying line items v0 v1 i → SaysLines (map line items) v0 v1 (Err say_error.Memory)
short_of_memory line items v0 v1 i lt u = (
  i,
  omega (arith, lt, many_lines line items),
  utters_as v0 v1 i i _ _ refl (ap joined_lines (sym (take_map line i items))) u,
)

-- the lines of all items were said
pub all_said : {A : Type 0} (line : A → List ℕ) (items : List A) (v0 v1 : View) (i : ℕ) → i ≡ length items → Saying line items v0 v1 i → Utters v0 v1 (length (map line items)) (joined_lines (map line items))
all_said {A = A} line items v0 v1 i all u =
    utters_as v0 v1 i (length (map line items)) _ _ (omega (arith, all, many_lines line items)) (ap (λ (l : List A). joined_lines (map line l)) (take_all i items (omega (arith, all)))) u

-- an item's line was not said
pub failed_line : {A : Type 0} (line : A → List ℕ) (items : List A) (v0 v1 v2 : View) (i : ℕ) (e : SayError) → i < length items → Saying line items v0 v1 i
    → (e ≡ say_error.Say → Utters v1 v2 1 [] × Rose v1.outside.say_faults v2.outside.say_faults) → (e ≡ say_error.Memory → v2 ≡ v1) → SaysLines (map line items) v0 v2 (Err e)
failed_line line items v0 v1 v2 i say_error.Say lt u say memory = let s = say refl in stopped line items v0 v1 v2 i lt u s.0 s.1
failed_line line items v0 v1 v2 i say_error.Memory lt u say memory = subst (λ (w : View). SaysLines (map line items) v0 w (Err say_error.Memory)) (sym (memory refl)) (short_of_memory line items v0 v1 i lt u)

-- ---- and more lines behind them

joined_then : (lines rest : List (List ℕ)) → joined_lines (lines ++ rest) ≡ joined_lines lines ++ joined_lines rest
joined_then lines rest = flat_map-append (λ (line : List ℕ). line) lines rest

-- all lines, and the first of those behind them
take_then : (lines rest : List (List ℕ)) (n : ℕ) → take (length lines + n) (lines ++ rest) ≡ lines ++ take n rest
take_then [] rest n = ap (λ k. take k rest) none
  where
    none : 0 + n ≡ n
    none = omega arith
take_then (x ∷ lines) rest n =
    ap (λ k. take k (x ∷ lines ++ rest)) (more (length lines)) ∙ ap (λ l. x ∷ l) (take_then lines rest n)
  where
    more : (m : ℕ) → suc m + n ≡ suc (m + n)
    more m = omega arith

long_then : (lines rest : List (List ℕ)) → length (lines ++ rest) ≡ length lines + length rest
long_then lines rest = length-append lines rest

pub longer : (lines : List (List ℕ)) (last : List ℕ) → length (lines ++ last ∷ []) ≡ length lines + 1
longer lines last = length-append lines (last ∷ [])

-- some of the first were said, and no more
pub more_lines : (lines rest : List (List ℕ)) (v0 v1 : View) (e : SayError) → SaysLines lines v0 v1 (Err e) → SaysLines (lines ++ rest) v0 v1 (Err e)
more_lines lines rest v0 v1 say_error.Say said = (
  said.0,
  omega (arith, said.1, long_then lines rest),
  utters_as v0 v1 (said.0 + 1) (said.0 + 1) _ _ refl (ap joined_lines (sym (take_front said.0 lines rest (omega (arith, said.1))))) said.2,
  said.3,
)
more_lines lines rest v0 v1 say_error.Memory said = (
  said.0,
  omega (arith, said.1, long_then lines rest),
  utters_as v0 v1 said.0 said.0 _ _ refl (ap joined_lines (sym (take_front said.0 lines rest (omega (arith, said.1))))) said.2,
)

-- all of them were said, and then those behind them, or some of these
pub lines_then : (lines rest : List (List ℕ)) (v0 v1 v2 : View) (r : Result (Unit {0}) SayError) → Utters v0 v1 (length lines) (joined_lines lines) → SaysLines rest v1 v2 r → SaysLines (lines ++ rest) v0 v2 r
lines_then lines rest v0 v1 v2 (Ok x) u said =
    utters_as v0 v2 (length lines + length rest) (length (lines ++ rest)) _ _ (sym (long_then lines rest)) (sym (joined_then lines rest)) (utters_then v0 v1 v2 (length lines) (length rest) (joined_lines lines) (joined_lines rest) u said)
lines_then lines rest v0 v1 v2 (Err say_error.Say) u said = (
  length lines + said.0,
  omega (arith, said.1, long_then lines rest),
  utters_as v0 v2 (length lines + (said.0 + 1)) (length lines + said.0 + 1) _ _ (omega arith) (sym (joined_then lines (take said.0 rest)) ∙ ap joined_lines (sym (take_then lines rest said.0)))
      (utters_then v0 v1 v2 (length lines) (said.0 + 1) (joined_lines lines) (joined_lines (take said.0 rest)) u said.2),
  rose_last v0.outside.say_faults v1.outside.say_faults v2.outside.say_faults u.counts said.3,
)
lines_then lines rest v0 v1 v2 (Err say_error.Memory) u said = (
  length lines + said.0,
  omega (arith, said.1, long_then lines rest),
  utters_as v0 v2 (length lines + said.0) (length lines + said.0) _ _ refl (sym (joined_then lines (take said.0 rest)) ∙ ap joined_lines (sym (take_then lines rest said.0)))
      (utters_then v0 v1 v2 (length lines) said.0 (joined_lines lines) (joined_lines (take said.0 rest)) u said.2),
)

-- one line was tried
pub one_said : (line : List ℕ) (v0 v1 : View) → Utters v0 v1 1 line → Utters v0 v1 (length (line ∷ [])) (joined_lines (line ∷ []))
one_said line v0 v1 u = utters_as v0 v1 1 1 _ _ refl (sym (append-nil line)) u

pub one_failed : (line : List ℕ) (v0 v1 : View) (e : SayError) → (e ≡ say_error.Say → Utters v0 v1 1 [] × Rose v0.outside.say_faults v1.outside.say_faults) → (e ≡ say_error.Memory → v1 ≡ v0) → SaysLines (line ∷ []) v0 v1 (Err e)
one_failed line v0 v1 say_error.Say say memory = let s = say refl in (0, omega arith, s.0, s.1)
one_failed line v0 v1 say_error.Memory say memory = (0, omega arith, subst (λ (w : View). Utters v0 w 0 []) (sym (memory refl)) (utters_none v0))

one_tried : (line : List ℕ) (v0 v1 : View) (r : Result (Unit {0}) SayError) → OnOk r (Utters v0 v1 1 line) → (r ≡ Err say_error.Say → Utters v0 v1 1 [] × Rose v0.outside.say_faults v1.outside.say_faults) → (r ≡ Err say_error.Memory → v1 ≡ v0) → SaysLines (line ∷ []) v0 v1 r
one_tried line v0 v1 (Ok x) ok say memory = one_said line v0 v1 ok
one_tried line v0 v1 (Err e) ok say memory = one_failed line v0 v1 e (λ is. say (ap Err is)) (λ is. memory (ap Err is))

-- all of them were said, and then the last one was tried
pub last_line : (lines : List (List ℕ)) (last : List ℕ) (v0 v1 v2 : View) (r : Result (Unit {0}) SayError) → Utters v0 v1 (length lines) (joined_lines lines) → OnOk r (Utters v1 v2 1 last)
    → (r ≡ Err say_error.Say → Utters v1 v2 1 [] × Rose v1.outside.say_faults v2.outside.say_faults) → (r ≡ Err say_error.Memory → v2 ≡ v1) → SaysLines (lines ++ last ∷ []) v0 v2 r
last_line lines last v0 v1 v2 r u ok say memory = lines_then lines (last ∷ []) v0 v1 v2 r u (one_tried last v1 v2 r ok say memory)

-- ---- items with several lines each

-- the lines of so many items were said
abbrev pub SayingAll : {A : Type 0} → (A → List (List ℕ)) → List A → View → View → ℕ → Type 0
SayingAll each items v0 v1 i = Utters v0 v1 (length (flat_map each (take i items))) (joined_lines (flat_map each (take i items)))

each_more : {A : Type 0} (each : A → List (List ℕ)) (items : List A) (i : ℕ) (p : A) → i < length items → get_or items i p ≡ p → flat_map each (take i items) ++ each p ≡ flat_map each (take (i + 1) items)
each_more each items i p lt here =
    ap (λ l. flat_map each (take i items) ++ l) (sym (append-nil (each p)))
    ∙ sym (flat_map-append each (take i items) (p ∷ []))
    ∙ sym (ap (flat_map each) (take_more items i p lt ∙ ap (λ q. take i items ++ q ∷ []) here))

pub each_said : {A : Type 0} (each : A → List (List ℕ)) (items : List A) (v0 v1 v2 : View) (i : ℕ) (p : A) → i < length items → get_or items i p ≡ p → SayingAll each items v0 v1 i → Utters v1 v2 (length (each p)) (joined_lines (each p)) → SayingAll each items v0 v2 (i + 1)
each_said each items v0 v1 v2 i p lt here u one =
    subst (λ l. Utters v0 v2 (length l) (joined_lines l)) (each_more each items i p lt here) (lines_then (flat_map each (take i items)) (each p) v0 v1 v2 (Ok tt) u one)

-- those of one item were not all said
pub each_failed : {A : Type 0} (each : A → List (List ℕ)) (items : List A) (v0 v1 v2 : View) (i : ℕ) (p : A) (e : SayError) → i < length items → get_or items i p ≡ p → SayingAll each items v0 v1 i → SaysLines (each p) v1 v2 (Err e) → SaysLines (flat_map each items) v0 v2 (Err e)
each_failed each items v0 v1 v2 i p e lt here u said =
    let so_far = subst (λ l. SaysLines l v0 v2 (Err e)) (each_more each items i p lt here) (lines_then (flat_map each (take i items)) (each p) v0 v1 v2 (Err e) u said) in
    subst (λ l. SaysLines l v0 v2 (Err e))
    (sym (flat_map-append each (take (i + 1) items) (drop (i + 1) items)) ∙ ap (flat_map each) (take-append-drop (i + 1) items))
    (more_lines (flat_map each (take (i + 1) items)) (flat_map each (drop (i + 1) items)) v0 v2 e so_far)

-- those of all items were said
pub all_of_each : {A : Type 0} (each : A → List (List ℕ)) (items : List A) (v0 v1 : View) (i : ℕ) → i ≡ length items → SayingAll each items v0 v1 i → Utters v0 v1 (length (flat_map each items)) (joined_lines (flat_map each items))
all_of_each each items v0 v1 i all u = subst (λ l. Utters v0 v1 (length (flat_map each l)) (joined_lines (flat_map each l))) (take_all i items (omega (arith, all))) u
