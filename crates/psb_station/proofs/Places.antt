-- Lists of entries that ascend by their paths: what a search finds, and changes at a place.
use Rattle.std.proofs.Common.{◌≡◌, ◌≢◌, ⊎_elim, ℕ, zero, suc, ◌+◌, ◌<◌, Bool, true, false, cond, List, [], ◌∷◌, ◌++◌, map, length, take, drop, set, get_or, Some, None, Result, Ok, Err, IsOk, Less, Equal, Greater, refl, sym, ap, subst, ◌∙◌, arith, length-append}
use Rattle.std.specs.Prelude.{All, MatchResult, slice_get}
use Rattle.std.specs.List.{AllByRecursion}
use Rattle.std.specs.List.Sorted.{IsStrictlySortedBy}
use Rattle.std.specs.Ordering.{nat_cmp, is_eq, ordering_reverse}
use Rattle.std.specs.Cmp.{eq_by_cmp_equiv}
use Rattle.std.specs.Cmp.Lexicographic.{slice_cmp, nat_list_cmp_total}
use Rattle.std.specs.declared.cmp.Ordering.{Ordering}
use Rattle.std.specs.Map.{keys_of}
use Rattle.std.specs.Option.{option_map}
use Rattle.std.specs.Str.{IsUtf8}
use Rattle.std.proofs.lemmas.Bool.{cases_lt, false≢true}
use Rattle.std.proofs.lemmas.List.{map-set, length-map}
use Rattle.std.proofs.lemmas.List.Elements.{All-nil, All-cons, All-append, All-take, All-drop, All-set, All-weaker}
use Rattle.std.proofs.lemmas.Map.Entries.{lookup_from_place, lookup_at_gap}
use Rattle.std.proofs.lemmas.Map.Keys.{IsDistinct-from_sorted}
use Rattle.std.proofs.lemmas.Option.{same_Some, get_or_from_slice_get}
use Rattle.std.proofs.lemmas.Str.{IsUtf8-from_is_utf8, is_utf8-from_IsUtf8}
use Rattle.psb_station.specs.Entry.{entry_in, entries_in, ArePieces, is_entry_path, ArePaths, Ascend, by_path, ComesAfter, ComesBefore, Updates, SameStored}
use Rattle.psb_station.specs.Node.{stored_of}
use Rattle.psb_station.specs.Piece.{IsIn}
use Rattle.psb_station.specs.declared.node.Node.{Node}
use Rattle.psb_station.specs.declared.entries.Entry.{Entry}
use Rattle.psb_station.proofs.PathText.{by_cases}
use Rattle.psb_station.proofs.Trees.{same_path}
use Rattle.psb_station.proofs.Grown.{piece_stays, piece_put}

abbrev pub Entries : Type 0
Entries = List (List ℕ × Node)

abbrev pub cmp : List ℕ → List ℕ → Ordering
cmp a b = slice_cmp nat_cmp a b

turned_less : (a b : List ℕ) → cmp a b ≡ Less → cmp b a ≡ Greater
turned_less a b h = nat_list_cmp_total.antisymm b a ∙ ap ordering_reverse h

turned_greater : (a b : List ℕ) → cmp a b ≡ Greater → cmp b a ≡ Less
turned_greater a b h = nat_list_cmp_total.antisymm b a ∙ ap ordering_reverse h

-- ---- by places

pub stands : {A B : Type 0} (f : A → B) (xs : List A) (i : ℕ) (x : A) → i < length xs → x ≡ get_or xs i x → slice_get (map f xs) i ≡ Some (f x)
stands f [] i x lt is = absurd (omega arith)
stands f (y ∷ xs) zero x lt is = ap (λ z. Some (f z)) (sym is)
stands f (y ∷ xs) (suc i) x lt is = stands f xs i x (omega arith) is

pub is_there : {A : Type 0} (xs : List A) (i : ℕ) → i < length xs → (x : A) × (slice_get xs i ≡ Some x)
is_there [] i lt = absurd (omega arith)
is_there (x ∷ xs) zero lt = (x, refl)
is_there (x ∷ xs) (suc i) lt = is_there xs i (omega arith)

pub is_within : {A : Type 0} (xs : List A) (i : ℕ) (x : A) → slice_get xs i ≡ Some x → i < length xs
is_within [] i x is = absurd (cc)
is_within (y ∷ xs) zero x is = omega arith
is_within (y ∷ xs) (suc i) x is = omega (arith, is_within xs i x is)

at_key : (P : List ℕ → Type 0) (es : Entries) (j : ℕ) (e : List ℕ × Node) → AllByRecursion P (keys_of es) → slice_get es j ≡ Some e → P e.0
at_key P [] j e all at = absurd (cc)
at_key P (f ∷ es) zero e all at = subst (λ (x : List ℕ × Node). P x.0) (same_Some f e at) all.0
at_key P (f ∷ es) (suc j) e all at = at_key P es j e all.1 at

at_each : (P : List ℕ → Type 0) (es : Entries) → ((j : ℕ) (e : List ℕ × Node) → slice_get es j ≡ Some e → P e.0) → AllByRecursion P (keys_of es)
at_each P [] each = tt
at_each P (e ∷ es) each = (each 0 e refl, at_each P es (λ j f at. each (suc j) f at))

in_order : (es : Entries) (i j : ℕ) (a b : List ℕ × Node) → Ascend es → i < j → slice_get es i ≡ Some a → slice_get es j ≡ Some b → cmp a.0 b.0 ≡ Less
unfolding IsStrictlySortedBy
in_order [] i j a b up lt at to = absurd (cc)
in_order (e ∷ es) i zero a b up lt at to = absurd (omega arith)
in_order (e ∷ es) zero (suc j) a b up lt at to = subst (λ (x : List ℕ × Node). cmp x.0 b.0 ≡ Less) (same_Some e a at) (at_key (λ y. cmp e.0 y ≡ Less) es j b up.0 to)
in_order (e ∷ es) (suc i) (suc j) a b up lt at to = in_order es i j a b up.1 (omega arith) at to

-- ---- a search

-- a path is above an entry, and so above all before it
pub above_middle : (es : Entries) (middle : ℕ) (path : List ℕ) (e : List ℕ × Node) → Ascend es → slice_get es middle ≡ Some e → cmp e.0 path ≡ Less → ComesAfter es (middle + 1) path
above_middle es middle path e up at less = λ j f lt to. turned_less f.0 path (⊎_elim
    (λ before. nat_list_cmp_total.trans f.0 e.0 path (in_order es j middle f e up before to at) less)
    (λ here. let same : j ≡ middle = omega (arith, here, lt) in
    subst (λ (x : List ℕ × Node). cmp x.0 path ≡ Less) (same_Some e f (sym at ∙ ap (slice_get es) (sym same) ∙ to)) less)
    (cases_lt j middle))

-- a path is below an entry, and so below all behind it
pub below_middle : (es : Entries) (middle : ℕ) (path : List ℕ) (e : List ℕ × Node) → Ascend es → slice_get es middle ≡ Some e → cmp e.0 path ≡ Greater → ComesBefore es middle path
below_middle es middle path e up at greater = λ j f le to. ⊎_elim
    (λ behind. nat_list_cmp_total.trans path e.0 f.0 (turned_greater e.0 path greater) (in_order es middle j e f up behind at to))
    (λ here. let same : j ≡ middle = omega (arith, here, le) in
    subst (λ (x : List ℕ × Node). cmp path x.0 ≡ Less) (same_Some e f (sym at ∙ ap (slice_get es) (sym same) ∙ to)) (turned_greater e.0 path greater))
    (cases_lt middle j)

-- no entry is before the first, and none behind the last
pub none_before : (es : Entries) (path : List ℕ) → ComesAfter es 0 path
none_before es path = λ j e lt at. absurd (omega (arith, lt))

pub none_behind : (es : Entries) (path : List ℕ) → ComesBefore es (length es) path
none_behind es path = λ j e le at. absurd (omega (arith, le, is_within es j e at))

pub found_place : (es : Entries) (i : ℕ) (path : List ℕ) (n : Node) → Ascend es → slice_get es i ≡ Some (path, n) → by_path es path ≡ Some n
found_place es i path n up at = lookup_from_place (eq_by_cmp_equiv nat_list_cmp_total) es i path n (IsDistinct-from_sorted cmp (keys_of es) up) at

pub found_gap : (es : Entries) (i : ℕ) (path : List ℕ) → Ascend es → ComesAfter es i path → ComesBefore es i path → by_path es path ≡ None
found_gap es i path up after before = lookup_at_gap nat_list_cmp_total path es i up (λ j e lt at. after j e lt at) (λ e at. before i e (omega arith) at)

-- ---- changes at a place

apart : (q p k : List ℕ) (o : Ordering) → is_eq (cmp q k) ≡ true → cmp k p ≡ o → is_eq o ≡ false → is_eq (cmp q p) ≡ false
apart q p k o same is other = ap (λ (x : List ℕ). is_eq (cmp x p)) (same_path q k same) ∙ ap is_eq is ∙ other

keys_put : (P : List ℕ → Type 0) (es : Entries) (i : ℕ) (e : List ℕ × Node) → AllByRecursion P (keys_of es) → P e.0 → AllByRecursion P (keys_of (take i es ++ e ∷ drop i es))
keys_put P [] zero e all new = (new, tt)
keys_put P [] (suc i) e all new = (new, tt)
keys_put P (f ∷ es) zero e all new = (new, all)
keys_put P (f ∷ es) (suc i) e all new = (all.0, keys_put P es i e all.1 new)

pub put_ascends : (es : Entries) (i : ℕ) (path : List ℕ) (n : Node) → Ascend es → ComesAfter es i path → ComesBefore es i path → Ascend (take i es ++ (path, n) ∷ drop i es)
unfolding IsStrictlySortedBy
put_ascends [] zero path n up after before = (tt, tt)
put_ascends [] (suc i) path n up after before = (tt, tt)
put_ascends (e ∷ es) zero path n up after before = (at_each (λ y. cmp path y ≡ Less) (e ∷ es) (λ j f at. before j f (omega arith) at), up)
put_ascends (e ∷ es) (suc i) path n up after before = (
  keys_put (λ y. cmp e.0 y ≡ Less) es i (path, n) up.0 (turned_greater path e.0 (after 0 e (omega arith) refl)),
  put_ascends es i path n up.1 (λ j f lt at. after (suc j) f (omega (arith, lt)) at) (λ j f le at. before (suc j) f (omega (arith, le)) at),
)

pub put_updates : (es : Entries) (i : ℕ) (path : List ℕ) (n : Node) → ComesAfter es i path → Updates es (take i es ++ (path, n) ∷ drop i es) path (Some n)
put_updates es zero path n after q = refl
put_updates [] (suc i) path n after q = refl
put_updates (e ∷ es) (suc i) path n after q = by_cases (is_eq (cmp q e.0))
    (λ k. let other = apart q path e.0 Less k (turned_greater path e.0 (after 0 e (omega arith) refl)) refl in rw (k, other) refl)
    (λ k. rw k (put_updates es i path n (λ j f lt at. after (suc j) f (omega (arith, lt)) at) q))

keys_taken : (P : List ℕ → Type 0) (es : Entries) (i : ℕ) → AllByRecursion P (keys_of es) → AllByRecursion P (keys_of (take i es ++ drop (suc i) es))
keys_taken P [] zero all = tt
keys_taken P [] (suc i) all = tt
keys_taken P (e ∷ es) zero all = all.1
keys_taken P (e ∷ es) (suc i) all = (all.0, keys_taken P es i all.1)

pub taken_ascends : (es : Entries) (i : ℕ) → Ascend es → Ascend (take i es ++ drop (suc i) es)
unfolding IsStrictlySortedBy
taken_ascends [] zero up = tt
taken_ascends [] (suc i) up = tt
taken_ascends (e ∷ es) zero up = up.1
taken_ascends (e ∷ es) (suc i) up = (keys_taken (λ y. cmp e.0 y ≡ Less) es i up.0, taken_ascends es i up.1)

none_above : (es : Entries) (p : List ℕ) → AllByRecursion (λ y. cmp p y ≡ Less) (keys_of es) → by_path es p ≡ None
none_above [] p all = refl
none_above (e ∷ es) p all = rw (ap is_eq all.0) (none_above es p all.1)

pub taken_updates : (es : Entries) (i : ℕ) (path : List ℕ) (n : Node) → Ascend es → slice_get es i ≡ Some (path, n) → Updates es (take i es ++ drop (suc i) es) path None
unfolding IsStrictlySortedBy
taken_updates [] i path n up at q = absurd (cc)
taken_updates (e ∷ es) zero path n up at q =
    let here : e.0 ≡ path = ap (λ (x : List ℕ × Node). x.0) (same_Some e (path, n) at) in
    by_cases (is_eq (cmp q e.0))
    (λ k. let same : q ≡ e.0 = same_path q e.0 k in
    let gone : by_path es q ≡ None = ap (by_path es) same ∙ none_above es e.0 up.0 in
    gone ∙ sym (ap (λ (b : Bool). cond b None (by_path (e ∷ es) q)) (ap (λ (x : List ℕ). is_eq (cmp q x)) (sym here) ∙ k)))
    (λ k. let other : is_eq (cmp q path) ≡ false = ap (λ (x : List ℕ). is_eq (cmp q x)) (sym here) ∙ k in rw (k, other) refl)
taken_updates (e ∷ es) (suc i) path n up at q = by_cases (is_eq (cmp q e.0))
    (λ k. let other = apart q path e.0 Less k (at_key (λ y. cmp e.0 y ≡ Less) es i (path, n) up.0 at) refl in rw (k, other) refl)
    (λ k. rw k (taken_updates es i path n up.1 at q))

pub set_keys : (es : Entries) (i : ℕ) (path : List ℕ) (n w : Node) → slice_get es i ≡ Some (path, n) → keys_of (set es i (path, w)) ≡ keys_of es
set_keys [] i path n w at = absurd (cc)
set_keys (e ∷ es) zero path n w at = ap (λ (x : List ℕ × Node). x.0 ∷ keys_of es) (sym (same_Some e (path, n) at))
set_keys (e ∷ es) (suc i) path n w at = ap (λ (l : List (List ℕ)). e.0 ∷ l) (set_keys es i path n w at)

pub set_ascends : (es : Entries) (i : ℕ) (path : List ℕ) (n w : Node) → Ascend es → slice_get es i ≡ Some (path, n) → Ascend (set es i (path, w))
set_ascends es i path n w up at = subst (IsStrictlySortedBy cmp) (sym (set_keys es i path n w at)) up

pub set_updates : (es : Entries) (i : ℕ) (path : List ℕ) (n w : Node) → Ascend es → slice_get es i ≡ Some (path, n) → Updates es (set es i (path, w)) path (Some w)
unfolding IsStrictlySortedBy
set_updates [] i path n w up at q = absurd (cc)
set_updates (e ∷ es) zero path n w up at q =
    let here : e.0 ≡ path = ap (λ (x : List ℕ × Node). x.0) (same_Some e (path, n) at) in
    by_cases (is_eq (cmp q path)) (λ k. rw k refl)
    (λ k. let other : is_eq (cmp q e.0) ≡ false = ap (λ (x : List ℕ). is_eq (cmp q x)) here ∙ k in rw (k, other) refl)
set_updates (e ∷ es) (suc i) path n w up at q = by_cases (is_eq (cmp q e.0))
    (λ k. let other = apart q path e.0 Less k (at_key (λ y. cmp e.0 y ≡ Less) es i (path, n) up.0 at) refl in rw (k, other) refl)
    (λ k. rw k (set_updates es i path n w up.1 at q))

-- ---- the same of the list that is kept

map_put : {A B : Type 0} (f : A → B) (xs : List A) (i : ℕ) (x : A) → map f (take i xs ++ x ∷ drop i xs) ≡ take i (map f xs) ++ f x ∷ drop i (map f xs)
map_put f xs zero x = refl
map_put f [] (suc i) x = refl
map_put {A} {B} f (y ∷ xs) (suc i) x = ap (λ (l : List B). f y ∷ l) (map_put f xs i x)

pub map_taken : {A B : Type 0} (f : A → B) (xs : List A) (i : ℕ) → map f (take i xs ++ drop (suc i) xs) ≡ take i (map f xs) ++ drop (suc i) (map f xs)
map_taken f [] zero = refl
map_taken f [] (suc i) = refl
map_taken f (y ∷ xs) zero = refl
map_taken {A} {B} f (y ∷ xs) (suc i) = ap (λ (l : List B). f y ∷ l) (map_taken f xs i)

pub entries_stay : (paths more : List ℕ) (list : List Entry) → ArePieces (length paths) list → entries_in (paths ++ more) list ≡ entries_in paths list
entries_stay paths more [] within = refl
entries_stay paths more (e ∷ list) within =
    ap (λ (p : List ℕ). (p, e.node) ∷ entries_in (paths ++ more) list) (piece_stays paths more e.path (within 0 e (omega arith)))
    ∙ ap (λ (rest : Entries). entry_in paths e ∷ rest) (entries_stay paths more list (λ k d lt. within (suc k) d (omega (arith, lt))))

-- an entry more, with its path behind the others
pub entries_put : (paths more : List ℕ) (list : List Entry) (i : ℕ) (e : Entry) → ArePieces (length paths) list → e.path.begin ≡ length paths → e.path.end ≡ length (paths ++ more)
    → entries_in (paths ++ more) (take i list ++ e ∷ drop i list) ≡ take i (entries_in paths list) ++ (more, e.node) ∷ drop i (entries_in paths list)
entries_put paths more list i e within begin end =
    map_put (entry_in (paths ++ more)) list i e
    ∙ ap (λ (es : Entries). take i es ++ entry_in (paths ++ more) e ∷ drop i es) (entries_stay paths more list within)
    ∙ ap (λ (p : List ℕ). take i (entries_in paths list) ++ (p, e.node) ∷ drop i (entries_in paths list)) (piece_put paths more e.path begin end)

pub all_put : {A : Type 0} (P : A → Type 0) (xs : List A) (i : ℕ) (x : A) → All P xs → P x → All P (take i xs ++ x ∷ drop i xs)
all_put P xs i x all new = All-append P (take i xs) (x ∷ drop i xs) (All-take P i xs all) (All-cons P x (drop i xs) new (All-drop P i xs all))

pub all_taken : {A : Type 0} (P : A → Type 0) (xs : List A) (i : ℕ) → All P xs → All P (take i xs ++ drop (suc i) xs)
all_taken P xs i all = All-append P (take i xs) (drop (suc i) xs) (All-take P i xs all) (All-drop P (suc i) xs all)

pub pieces_put : (paths more : List ℕ) (list : List Entry) (i : ℕ) (e : Entry) → ArePieces (length paths) list → e.path.begin ≡ length paths → e.path.end ≡ length (paths ++ more) → ArePieces (length (paths ++ more)) (take i list ++ e ∷ drop i list)
pieces_put paths more list i e within begin end = all_put (λ (x : Entry). IsIn (length (paths ++ more)) x.path) list i e
    (All-weaker (λ (x : Entry). IsIn (length paths) x.path) (λ (x : Entry). IsIn (length (paths ++ more)) x.path) (λ x is. (is.0, omega (arith, is.1, length-append paths more))) list within)
    (omega (arith, begin, end, length-append paths more), omega (arith, end))

-- no entry at all
pub none_ascend : (paths : List ℕ) (list : List Entry) → list ≡ [] → Ascend (entries_in paths list)
unfolding IsStrictlySortedBy
none_ascend paths list none = subst (λ (l : List Entry). Ascend (entries_in paths l)) (sym none) tt

pub none_paths : (paths : List ℕ) (list : List Entry) → list ≡ [] → ArePaths (entries_in paths list)
none_paths paths list none = subst (λ (l : List Entry). ArePaths (entries_in paths l)) (sym none) (All-nil (λ (e : List ℕ × Node). is_entry_path e.0 ≡ true))

-- what is read as a text, and can't be refused
pub read_ok : {A B : Type 0} (r : Result A B) (P : A → Type 0) (Q : B → Type 0) → MatchResult r P Q → ((e : B) → Q e → ⊥) → IsOk r
read_ok (Ok a) P Q is none = refl
read_ok (Err e) P Q is none = absurd (none e is)

pub read_is : {A B : Type 0} (r : Result A B) (x : A) (P : A → Type 0) (Q : B → Type 0) → MatchResult r P Q → r ≡ Ok x → P x
read_is {A} {B} r x P Q is same = subst (λ (y : Result A B). MatchResult y P Q) same is

is_text : (path : List ℕ) → is_entry_path path ≡ true → IsUtf8 path
is_text [] is = absurd (false≢true is)
is_text (c ∷ path) is = IsUtf8-from_is_utf8 (c ∷ path) is

are_paths : (path : List ℕ) → IsUtf8 path → path ≢ [] → is_entry_path path ≡ true
are_paths [] text some = absurd (some refl)
are_paths (c ∷ path) text some = is_utf8-from_IsUtf8 (c ∷ path) text

pub path_at : (es : Entries) (i : ℕ) (e : List ℕ × Node) → ArePaths es → slice_get es i ≡ Some e → is_entry_path e.0 ≡ true
path_at es i e paths at = subst (λ (x : List ℕ × Node). is_entry_path x.0 ≡ true) (get_or_from_slice_get es i e e at) (paths i e (is_within es i e at))

pub text_at : (es : Entries) (i : ℕ) (e : List ℕ × Node) → ArePaths es → slice_get es i ≡ Some e → IsUtf8 e.0
text_at es i e paths at = is_text e.0 (path_at es i e paths at)

-- ---- what the functions of the entries show

long_as : (paths : List ℕ) (list : List Entry) → length (entries_in paths list) ≡ length list
long_as paths list = length-map list (entry_in paths)

pub here_within : (paths : List ℕ) (list : List Entry) (i : ℕ) → i < length (entries_in paths list) → i < length list
here_within paths list i lt = omega (arith, lt, long_as paths list)

pub found_middle : (es : Entries) (i : ℕ) (path : List ℕ) (e : List ℕ × Node) → slice_get es i ≡ Some e → cmp e.0 path ≡ Equal → (n : Node) × (slice_get es i ≡ Some (path, n))
found_middle es i path e at same = (e.1, at ∙ ap (λ (p : List ℕ). Some (p, e.1)) (same_path e.0 path (ap is_eq same)))

here_is : (paths : List ℕ) (list : List Entry) (i : ℕ) (e : Entry) (path : List ℕ) (n : Node) → e ≡ get_or list i e → slice_get (entries_in paths list) i ≡ Some (path, n) → entry_in paths e ≡ (path, n)
here_is paths list i e path n is at = same_Some (entry_in paths e) (path, n)
    (sym (stands (entry_in paths) list i e (here_within paths list i (is_within (entries_in paths list) i (path, n) at)) is) ∙ at)

pub found_node : (paths : List ℕ) (list : List Entry) (i : ℕ) (e : Entry) (path : List ℕ) (n : Node) → Ascend (entries_in paths list) → e ≡ get_or list i e → slice_get (entries_in paths list) i ≡ Some (path, n) → Some e.node ≡ by_path (entries_in paths list) path
found_node paths list i e path n up is at =
    ap (λ (x : List ℕ × Node). Some x.1) (here_is paths list i e path n is at) ∙ sym (found_place (entries_in paths list) i path n up at)

-- the three that the type keeps
abbrev pub Kept : List ℕ → List Entry → Type 0
Kept paths list = ArePieces (length paths) list × ArePaths (entries_in paths list) × Ascend (entries_in paths list)

set_is : (paths : List ℕ) (list : List Entry) (i : ℕ) (e : Entry) (w : Node) (path : List ℕ) (n : Node) → e ≡ get_or list i e → slice_get (entries_in paths list) i ≡ Some (path, n)
    → entries_in paths (set list i (record { path = e.path; node = w })) ≡ set (entries_in paths list) i (path, w)
set_is paths list i e w path n is at =
    map-set (entry_in paths) list i (record { path = e.path; node = w })
    ∙ ap (λ (x : List ℕ × Node). set (entries_in paths list) i (x.0, w)) (here_is paths list i e path n is at)

pub set_kept : (paths : List ℕ) (list : List Entry) (i : ℕ) (e : Entry) (w : Node) (path : List ℕ) (n : Node) → Kept paths list → e ≡ get_or list i e → slice_get (entries_in paths list) i ≡ Some (path, n)
    → Kept paths (set list i (record { path = e.path; node = w }))
set_kept paths list i e w path n (within, texts, up) is at =
    let es = entries_in paths list in
    let at_i : i < length es = is_within es i (path, n) at in
    let same = set_is paths list i e w path n is at in
    let here : IsIn (length paths) e.path = subst (λ (x : Entry). IsIn (length paths) x.path) (sym is) (within i e (here_within paths list i at_i)) in
    let text : is_entry_path path ≡ true = subst (λ (x : List ℕ × Node). is_entry_path x.0 ≡ true) (get_or_from_slice_get es i (path, n) (path, n) at) (texts i (path, n) at_i) in (
      All-set (λ (x : Entry). IsIn (length paths) x.path) list i (record { path = e.path; node = w }) here within,
      subst ArePaths (sym same) (All-set (λ (x : List ℕ × Node). is_entry_path x.0 ≡ true) es i (path, w) text texts),
      subst Ascend (sym same) (set_ascends es i path n w up at),
    )

pub set_shows : (paths : List ℕ) (list : List Entry) (i : ℕ) (e : Entry) (w : Node) (path : List ℕ) (n : Node) → Ascend (entries_in paths list) → e ≡ get_or list i e → slice_get (entries_in paths list) i ≡ Some (path, n)
    → Updates (entries_in paths list) (entries_in paths (set list i (record { path = e.path; node = w }))) path (Some w)
set_shows paths list i e w path n up is at =
    subst (λ (es : Entries). Updates (entries_in paths list) es path (Some w)) (sym (set_is paths list i e w path n is at)) (set_updates (entries_in paths list) i path n w up at)

pub taken_kept : (paths : List ℕ) (list list' : List Entry) (i : ℕ) → Kept paths list → list' ≡ take i list ++ drop (suc i) list → Kept paths list'
taken_kept paths list list' i (within, texts, up) is =
    let same : entries_in paths list' ≡ take i (entries_in paths list) ++ drop (suc i) (entries_in paths list) = ap (entries_in paths) is ∙ map_taken (entry_in paths) list i in (
      subst (ArePieces (length paths)) (sym is) (all_taken (λ (x : Entry). IsIn (length paths) x.path) list i within),
      subst ArePaths (sym same) (all_taken (λ (x : List ℕ × Node). is_entry_path x.0 ≡ true) (entries_in paths list) i texts),
      subst Ascend (sym same) (taken_ascends (entries_in paths list) i up),
    )

pub taken_shows : (paths : List ℕ) (list list' : List Entry) (i : ℕ) (path : List ℕ) (n : Node) → Ascend (entries_in paths list) → slice_get (entries_in paths list) i ≡ Some (path, n) → list' ≡ take i list ++ drop (suc i) list
    → Updates (entries_in paths list) (entries_in paths list') path None
taken_shows paths list list' i path n up at is =
    subst (λ (es : Entries). Updates (entries_in paths list) es path None) (sym (ap (entries_in paths) is ∙ map_taken (entry_in paths) list i)) (taken_updates (entries_in paths list) i path n up at)

-- nothing is taken where nothing stands
pub none_taken : (es : Entries) (path : List ℕ) → by_path es path ≡ None → Updates es es path None
none_taken es path none q = by_cases (is_eq (cmp q path))
    (λ k. rw k (ap (by_path es) (same_path q path k) ∙ none))
    (λ k. rw k refl)

pub put_kept : (paths paths' more : List ℕ) (list list' : List Entry) (i : ℕ) (e : Entry) → Kept paths list → paths' ≡ paths ++ more → list' ≡ take i list ++ e ∷ drop i list → e.path.begin ≡ length paths → e.path.end ≡ length paths'
    → IsUtf8 more → more ≢ [] → ComesAfter (entries_in paths list) i more → ComesBefore (entries_in paths list) i more → Kept paths' list'
put_kept paths paths' more list list' i e (within, texts, up) grown is begin end text some after before =
    let long : e.path.end ≡ length (paths ++ more) = end ∙ ap (λ (p : List ℕ). length p) grown in
    let es = entries_in paths list in
    let same : entries_in (paths ++ more) list' ≡ take i es ++ (more, e.node) ∷ drop i es = ap (entries_in (paths ++ more)) is ∙ entries_put paths more list i e within begin long in
    let here : Kept (paths ++ more) list' = (
      subst (ArePieces (length (paths ++ more))) (sym is) (pieces_put paths more list i e within begin long),
      subst ArePaths (sym same) (all_put (λ (x : List ℕ × Node). is_entry_path x.0 ≡ true) es i (more, e.node) texts (are_paths more text some)),
      subst Ascend (sym same) (put_ascends es i more e.node up after before),
    ) in
    subst (λ (p : List ℕ). Kept p list') (sym grown) here

pub put_shows : (paths paths' more : List ℕ) (list list' : List Entry) (i : ℕ) (e : Entry) → ArePieces (length paths) list → paths' ≡ paths ++ more → list' ≡ take i list ++ e ∷ drop i list → e.path.begin ≡ length paths → e.path.end ≡ length paths'
    → ComesAfter (entries_in paths list) i more → Updates (entries_in paths list) (entries_in paths' list') more (Some e.node)
put_shows paths paths' more list list' i e within grown is begin end after =
    let long : e.path.end ≡ length (paths ++ more) = end ∙ ap (λ (p : List ℕ). length p) grown in
    let same = ap (λ (p : List ℕ). entries_in p list') grown ∙ ap (entries_in (paths ++ more)) is ∙ entries_put paths more list i e within begin long in
    subst (λ (es : Entries). Updates (entries_in paths list) es more (Some e.node)) (sym same) (put_updates (entries_in paths list) i more e.node after)

-- what is put where something stands and means the same
pub same_put : (old new : Entries) (path : List ℕ) (was now : Node) → by_path old path ≡ Some was → Updates old new path (Some now) → stored_of now ≡ stored_of was → SameStored old new
same_put old new path was now found step same q = ap (option_map stored_of) (step q) ∙ by_cases (is_eq (cmp q path))
    (λ k. rw k (ap (λ (s : _). Some s) same ∙ ap (option_map stored_of) (sym (ap (by_path old) (same_path q path k) ∙ found))))
    (λ k. rw k refl)
