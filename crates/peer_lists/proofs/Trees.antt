-- A tree of entries, as the list of them in object order.
use Rattle.std.proofs.Common.{◌≡◌, ℕ, ◌+◌, ◌<◌, Bool, true, false, not, ◌||◌, List, [], ◌∷◌, ◌++◌, length, take, get_or, map, filter, Some, refl, sym, ap, ◌∙◌, arith}
use Rattle.std.specs.Prelude.{remove}
use Rattle.std.specs.Option.{option_map}
use Rattle.std.specs.Map.{lookup, remove_entry}
use Rattle.std.specs.BTreeMap.{is_at, insert_entry}
use Rattle.std.specs.declared.cmp.Ordering.{Ordering}
use Rattle.std.specs.declared.cmp.Ordering.TheVariants.{Less, Equal, Greater}
use Rattle.std.specs.Ordering.{is_lt, is_eq}
use Rattle.std.proofs.lemmas.Bool.{true≢false}
use Rattle.std.proofs.lemmas.List.{take_more}
use Rattle.psb_bytes.specs.Objects.{object_eq, object_cmp}
use Rattle.psb_bytes.specs.declared.ids.Object.{Object}
use Rattle.psb_bytes.specs.declared.ids.Object.TheVariants.{Chunk, Slot}
use Rattle.psb_bytes.specs.contracts.ids.ObjectOrd.TheImpl.{cmp-value as derived_cmp}
use Rattle.psb_model.specs.Words.{has, listed, slots, with_one, with_all, without}
use Rattle.psb_model.proofs.ByObject.{object_eq-same, object_eq-swap, by_cases}
use Rattle.psb_model.proofs.Steady.{neither}
use Rattle.peer_lists.specs.Entries.{in_order}
use Rattle.peer_lists.specs.Entries.{find_at}
use Rattle.peer_lists.specs.Trees.{items_of}
use Rattle.peer_lists.proofs.Ordered.{equal_is_one, apart, in_order_but_all, in_order_kept, kept_with_all}
use Rattle.peer_lists.proofs.Found.{rest_ordered, without_first}

-- the order by which a tree keeps its objects is theirs
abbrev pub IsObjectOrder : (Object → Object → Ordering) → Type 0
IsObjectOrder cmp = (a b : Object) → cmp a b ≡ object_cmp a b

pub by_object : (a b : Object) → derived_cmp.it a b ≡ object_cmp a b
by_object (Chunk a) (Chunk b) = refl
by_object (Chunk a) (Slot b) = refl
by_object (Slot a) (Chunk b) = refl
by_object (Slot a) (Slot b) = refl

pub by_order : {P : Type 0} → (o : Ordering) → (o ≡ Less → P) → (o ≡ Equal → P) → (o ≡ Greater → P) → P
by_order Less f g h = f refl
by_order Equal f g h = g refl
by_order Greater f g h = h refl

-- an entry that was joined stands at its object
abbrev pub IsJoin : {E R : Type 0} → (E → Object) → (Object → R → E) → Type 0
IsJoin {R = R} key joined = (o : Object) (r : R) → key (joined o r) ≡ o

abbrev pub joins : {E R : Type 0} → (Object → R → E) → List (Object × R) → List E
joins {R = R} joined es = map (λ (x : Object × R). joined x.0 x.1) es

-- WHAT A TREE FINDS

pub looked_up : {E R : Type 0} (key : E → Object) (joined : Object → R → E) (join : IsJoin key joined) (cmp : Object → Object → Ordering) → IsObjectOrder cmp → (es : List (Object × R)) (o : Object) → find_at key (joins joined es) o ≡ option_map (joined o) (lookup (is_at (cmp o)) es)
looked_up key joined join cmp law [] o = refl
looked_up key joined join cmp law (e ∷ es) o =
    let same : is_eq (cmp o e.0) ≡ object_eq e.0 o = ap is_eq (law o e.0) ∙ equal_is_one o e.0 in
    let at : object_eq (key (joined e.0 e.1)) o ≡ object_eq e.0 o = ap (λ x. object_eq x o) (join e.0 e.1) in
    by_cases (object_eq e.0 o)
    (λ k. rw (at ∙ k, same ∙ k) (ap (λ x. Some (joined x e.1)) (object_eq-same e.0 o k)))
    (λ k. rw (at ∙ k, same ∙ k) (looked_up key joined join cmp law es o))

-- AN ENTRY THAT GOES IN

put_in : {E R : Type 0} (key : E → Object) (joined : Object → R → E) (join : IsJoin key joined) (cmp : Object → Object → Ordering) → IsObjectOrder cmp → (es : List (Object × R)) (o : Object) (r : R) → has key (joins joined es) o ≡ false → joins joined (insert_entry cmp es o r) ≡ with_one key (joined o r) (joins joined es)
put_in key joined join cmp law [] o r absent = refl
put_in key joined join cmp law (e ∷ es) o r absent =
    let n = neither (object_eq (key (joined e.0 e.1)) o) (has key (joins joined es) o) absent in
    let here : object_eq e.0 o ≡ false = ap (λ x. object_eq x o) (sym (join e.0 e.1)) ∙ n.0 in
    let order : object_cmp (key (joined o r)) (key (joined e.0 e.1)) ≡ cmp o e.0 = (λ i. object_cmp (join o r i) (join e.0 e.1 i)) ∙ sym (law o e.0) in
    by_order (cmp o e.0)
    (λ k. let lt : is_lt (object_cmp (key (joined o r)) (key (joined e.0 e.1))) ≡ true = ap is_lt (order ∙ k) in rw (k, lt) refl)
    (λ k. absurd (true≢false (sym (ap is_eq (sym (law o e.0) ∙ k)) ∙ equal_is_one o e.0 ∙ here)))
    (λ k. let lt : is_lt (object_cmp (key (joined o r)) (key (joined e.0 e.1))) ≡ false = ap is_lt (order ∙ k) in rw (k, lt) (ap (λ l. joined e.0 e.1 ∷ l) (put_in key joined join cmp law es o r n.1)))

-- the first of the latest goes into the tree
pub settled_one : {E R : Type 0} (key : E → Object) (joined : Object → R → E) (join : IsJoin key joined) (cmp : Object → Object → Ordering) → IsObjectOrder cmp → (es ns : List (Object × R)) (latest : List E) (e : E) (rest : List E) (r : R) → latest ≡ e ∷ rest → joined (key e) r ≡ e → in_order key (items_of key joined es latest) ≡ true → ns ≡ insert_entry cmp es (key e) r → items_of key joined ns rest ≡ items_of key joined es latest
settled_one key joined join cmp law es ns latest e rest r is same ordered put =
    let ordered' : in_order key (with_all key rest (with_one key e (joins joined es))) ≡ true = ap (λ l. in_order key (items_of key joined es l)) (sym is) ∙ ordered in
    let absent = apart key e (joins joined es) (in_order_but_all key rest (with_one key e (joins joined es)) ordered') in
    ap (λ l. with_all key rest (joins joined l)) put
    ∙ ap (with_all key rest) (put_in key joined join cmp law es (key e) r absent)
    ∙ ap (λ x. with_all key rest (with_one key x (joins joined es))) same
    ∙ ap (items_of key joined es) (sym is)

pub settled_first : {E R : Type 0} (key : E → Object) (joined : Object → R → E) (join : IsJoin key joined) (cmp : Object → Object → Ordering) → IsObjectOrder cmp → (es ns : List (Object × R)) (latest rest : List E) (e : E) (o : Object) (r : R) → 0 < length latest → e ≡ get_or latest 0 e → o ≡ key e → joined (key e) r ≡ e → in_order key (items_of key joined es latest) ≡ true → ns ≡ insert_entry cmp es o r → rest ≡ remove latest 0 → items_of key joined ns rest ≡ items_of key joined es latest
settled_first key joined join cmp law es ns [] rest e o r some first at same ordered put left = absurd (omega (arith, some))
settled_first key joined join cmp law es ns (x ∷ xs) rest e o r some first at same ordered put left =
    ap (items_of key joined ns) left
    ∙ settled_one key joined join cmp law es ns (x ∷ xs) e xs r (ap (λ y. y ∷ xs) (sym first)) same ordered (put ∙ ap (λ p. insert_entry cmp es p r) at)

pub without_none : {E : Type 0} (key : E → Object) (l : List E) → without key [] l ≡ l
without_none key [] = refl
without_none key (e ∷ es) = ap (λ l. e ∷ l) (without_none key es)

-- ENTRIES BEHIND OTHERS

pub with_more : {E : Type 0} (key : E → Object) (es new l : List E) → with_all key (es ++ new) l ≡ with_all key new (with_all key es l)
with_more key [] new l = refl
with_more key (e ∷ es) new l = with_more key es new (with_one key e l)

-- AN ENTRY THAT GOES OUT

pub out_of_tree : {E R : Type 0} (key : E → Object) (joined : Object → R → E) (join : IsJoin key joined) (cmp : Object → Object → Ordering) → IsObjectOrder cmp → (es : List (Object × R)) (o : Object) → in_order key (joins joined es) ≡ true → joins joined (remove_entry (is_at (cmp o)) es) ≡ without key (o ∷ []) (joins joined es)
out_of_tree key joined join cmp law [] o h = refl
out_of_tree key joined join cmp law (e ∷ es) o h =
    let same : is_eq (cmp o e.0) ≡ object_eq e.0 o = ap is_eq (law o e.0) ∙ equal_is_one o e.0 in
    let at : object_eq (key (joined e.0 e.1)) o ≡ object_eq e.0 o = ap (λ x. object_eq x o) (join e.0 e.1) in
    by_cases (object_eq e.0 o)
    (λ k. rw (same ∙ k) (without_first key (joined e.0 e.1) (joins joined es) o h (at ∙ k)))
    (λ k.
    let rest = rest_ordered key (joined e.0 e.1) (joins joined es) h in
    let swap : object_eq o (key (joined e.0 e.1)) ≡ false = object_eq-swap o (key (joined e.0 e.1)) ∙ at ∙ k in
    rw (same ∙ k, swap) (ap (λ l. joined e.0 e.1 ∷ l) (out_of_tree key joined join cmp law es o rest)))

-- what is not at the object stays
pub others_stay : {E : Type 0} (key : E → Object) (o : Object) (l : List E) → filter (λ e. not (object_eq (key e) o)) l ≡ without key (o ∷ []) l
others_stay key o [] = refl
others_stay key o (x ∷ xs) =
    let swap : object_eq o (key x) ≡ object_eq (key x) o = object_eq-swap o (key x) in
    by_cases (object_eq (key x) o) (λ k. rw (swap ∙ k, k) (others_stay key o xs)) (λ k. rw (swap ∙ k, k) (ap (λ l. x ∷ l) (others_stay key o xs)))

-- objects that go one after another
without_both : {E : Type 0} (key : E → Object) (os : List Object) (o : Object) (l : List E) → without key (o ∷ []) (without key os l) ≡ without key (os ++ o ∷ []) l
without_both key os o [] = refl
without_both key os o (x ∷ xs) =
    let parts : listed (os ++ o ∷ []) (key x) ≡ (listed os (key x) || listed (o ∷ []) (key x)) = listed_more os o (key x) in
    by_cases (listed os (key x))
    (λ k. let all : listed (os ++ o ∷ []) (key x) ≡ true = parts ∙ ap (λ b. b || listed (o ∷ []) (key x)) k in rw (k, all) (without_both key os o xs))
    (λ k.
    let all : listed (os ++ o ∷ []) (key x) ≡ listed (o ∷ []) (key x) = parts ∙ ap (λ b. b || listed (o ∷ []) (key x)) k in
    by_cases (listed (o ∷ []) (key x))
    (λ j. let all' : listed (os ++ o ∷ []) (key x) ≡ true = all ∙ j in rw (k, j, all') (without_both key os o xs))
    (λ j. let all' : listed (os ++ o ∷ []) (key x) ≡ false = all ∙ j in rw (k, j, all') (ap (λ l. x ∷ l) (without_both key os o xs))))
  where
    or_parts : (p q r : Bool) → (p || (q || r)) ≡ ((p || q) || r)
    or_parts true q r = refl
    or_parts false q r = refl

    listed_more : (os : List Object) (o x : Object) → listed (os ++ o ∷ []) x ≡ (listed os x || listed (o ∷ []) x)
    listed_more [] o x = refl
    listed_more (y ∷ ys) o x = ap (λ b. object_eq y x || b) (listed_more ys o x) ∙ or_parts (object_eq y x) (listed ys x) (listed (o ∷ []) x)

slots_more : (ns : List ℕ) (n : ℕ) → slots (ns ++ n ∷ []) ≡ slots ns ++ Slot n ∷ []
slots_more [] n = refl
slots_more (m ∷ ms) n = ap (λ l. Slot m ∷ l) (slots_more ms n)

-- one slot more out of the tree
pub one_out : {E R : Type 0} (key : E → Object) (joined : Object → R → E) (join : IsJoin key joined) (cmp : Object → Object → Ordering) → IsObjectOrder cmp → (start es ns : List (Object × R)) (numbers : List ℕ) (i d : ℕ) → in_order key (joins joined start) ≡ true → i < length numbers → joins joined es ≡ without key (slots (take i numbers)) (joins joined start) → ns ≡ remove_entry (is_at (cmp (Slot (get_or numbers i d)))) es → joins joined ns ≡ without key (slots (take (i + 1) numbers)) (joins joined start)
one_out key joined join cmp law start es ns numbers i d ordered lt before out =
    let n = get_or numbers i d in
    let now : in_order key (joins joined es) ≡ true = ap (in_order key) before ∙ in_order_kept key (λ e. not (listed (slots (take i numbers)) (key e))) (joins joined start) ordered in
    let more : slots (take (i + 1) numbers) ≡ slots (take i numbers) ++ Slot n ∷ [] = ap slots (take_more numbers i d lt) ∙ slots_more (take i numbers) n in
    ap (joins joined) out
    ∙ out_of_tree key joined join cmp law es (Slot n) now
    ∙ ap (without key (Slot n ∷ [])) before
    ∙ without_both key (slots (take i numbers)) (Slot n) (joins joined start)
    ∙ ap (λ os. without key os (joins joined start)) (sym more)

-- what leaves the tree and the latest leaves the list
pub out_of_both : {E : Type 0} (key : E → Object) (os : List Object) (l l' latest latest' : List E) → in_order key (with_all key latest l) ≡ true → l' ≡ without key os l → latest' ≡ without key os latest → with_all key latest' l' ≡ without key os (with_all key latest l)
out_of_both key os l l' latest latest' ordered a b = (λ i. with_all key (b i) (a i)) ∙ kept_with_all key (λ e. not (listed os (key e))) latest l ordered
