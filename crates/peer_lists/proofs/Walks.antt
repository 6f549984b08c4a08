-- The next chunk, in the tree and beside it.
use Rattle.std.proofs.Common.{◌≡◌, ℕ, ◌+◌, ◌<◌, ◌≤◌, Bool, true, false, List, [], ◌∷◌, ◌++◌, length, take, get_or, Option, Some, None, refl, sym, ap, ◌∙◌}
use Rattle.std.specs.Prelude.{find, ◌&&◌}
use Rattle.std.specs.declared.cmp.Ordering.{Ordering}
use Rattle.std.specs.declared.ops.Bound.{Bound}
use Rattle.std.specs.declared.ops.Bound.TheVariants.{Included, Excluded, Unbounded}
use Rattle.std.specs.BTreeMap.Range.{entries_between, is_from_start}
use Rattle.std.specs.Ordering.{is_lt, is_le}
use Rattle.std.proofs.lemmas.Bool.{and_parts, false≢true}
use Rattle.std.proofs.lemmas.List.{take_more, take_all}
use Rattle.psb_bytes.specs.Objects.{object_cmp}
use Rattle.psb_bytes.specs.declared.ids.Object.{Object}
use Rattle.psb_bytes.specs.declared.ids.Object.TheVariants.{Chunk, Slot}
use Rattle.psb_model.specs.Words.{with_one, with_all}
use Rattle.psb_model.proofs.ByObject.{by_cases}
use Rattle.psb_model.proofs.ObjectOrder.{less_then}
use Rattle.peer_lists.specs.Chunks.{is_chunk}
use Rattle.peer_lists.specs.Walks.{is_past, chunk_after, if_past, nearer}
use Rattle.peer_lists.specs.Trees.{items_of}
use Rattle.peer_lists.proofs.Trees.{IsJoin, IsObjectOrder, joins, with_more}
use Rattle.peer_lists.proofs.Tables.{is_slot}
use Rattle.peer_lists.proofs.Both.{chunks, are_slots}

abbrev first_join : {E R : Type 0} → (Object → R → E) → List (Object × R) → Option E
first_join joined [] = None
first_join joined (e ∷ es) = Some (joined e.0 e.1)

and_true : (b : Bool) → (b && true) ≡ b
and_true true = refl
and_true false = refl

from_start : (cmp : Object → Object → Ordering) → IsObjectOrder cmp → (lo : Bound Object) (o : Object) → (is_from_start cmp lo o && true) ≡ is_from_start object_cmp lo o
from_start cmp law (Included a) o = and_true (is_le (cmp a o)) ∙ ap is_le (law a o)
from_start cmp law (Excluded a) o = and_true (is_lt (cmp a o)) ∙ ap is_lt (law a o)
from_start cmp law Unbounded o = refl

find_between : {E R : Type 0} (key : E → Object) (joined : Object → R → E) → IsJoin key joined → (cmp : Object → Object → Ordering) → IsObjectOrder cmp → (lo : Bound Object) (es : List (Object × R)) → first_join joined (entries_between cmp lo Unbounded es) ≡ find (λ e. is_from_start object_cmp lo (key e)) (joins joined es)
find_between key joined join cmp law lo [] = refl
find_between key joined join cmp law lo (e ∷ es) =
    let same = from_start cmp law lo e.0 in
    let at : is_from_start object_cmp lo (key (joined e.0 e.1)) ≡ is_from_start object_cmp lo e.0 = ap (is_from_start object_cmp lo) (join e.0 e.1) in
    by_cases (is_from_start object_cmp lo e.0) (λ k. rw (same ∙ k, at ∙ k) refl) (λ k. rw (same ∙ k, at ∙ k) (find_between key joined join cmp law lo es))

pub first_none : {E R : Type 0} (key : E → Object) (joined : Object → R → E) → IsJoin key joined → (cmp : Object → Object → Ordering) → IsObjectOrder cmp → (lo : Bound Object) (es fs : List (Object × R)) → fs ≡ entries_between cmp lo Unbounded es → fs ≡ [] → None ≡ find (λ e. is_from_start object_cmp lo (key e)) (joins joined es)
first_none key joined join cmp law lo es fs between none = ap (first_join joined) (sym none ∙ between) ∙ find_between key joined join cmp law lo es

pub first_some : {E R : Type 0} (key : E → Object) (joined : Object → R → E) → IsJoin key joined → (cmp : Object → Object → Ordering) → IsObjectOrder cmp → (lo : Bound Object) (es fs ts : List (Object × R)) (o : Object) (x : R) → fs ≡ entries_between cmp lo Unbounded es → fs ≡ (o, x) ∷ ts → Some (joined o x) ≡ find (λ e. is_from_start object_cmp lo (key e)) (joins joined es)
first_some key joined join cmp law lo es fs ts o x between first = ap (first_join joined) (sym first ∙ between) ∙ find_between key joined join cmp law lo es

-- ONE MORE BESIDE THE TREE

past_more : (place : Option (List ℕ)) (a b : Object) → is_past place a ≡ true → is_lt (object_cmp a b) ≡ true → is_past place b ≡ true
past_more None a b h k = refl
past_more (Some n) a b h k = less_then (Chunk n) a b h k

nearer_one : {E : Type 0} (key : E → Object) (place : Option (List ℕ)) (e : E) (l : List E) → nearer key (find (λ x. is_past place (key x)) l) (if_past key place e) ≡ find (λ x. is_past place (key x)) (with_one key e l)
nearer_one key place e [] = by_cases (is_past place (key e)) (λ k. rw k refl) (λ k. rw k refl)
nearer_one {E = E} key place e (x ∷ xs) =
    by_cases (is_lt (object_cmp (key e) (key x)))
    (λ k.
    by_cases (is_past place (key e))
    (λ j. let past : is_past place (key x) ≡ true = past_more place (key e) (key x) j k in rw (k, j, past, k) refl)
    (λ j. rw (k, j) (keeps (find (λ x. is_past place (key x)) (x ∷ xs)))))
    (λ k.
    by_cases (is_past place (key x))
    (λ j. rw (k, j) (first (if_past key place e) (of_past k)))
    (λ j. rw (k, j) (nearer_one key place e xs)))
  where
    keeps : (o : Option E) → nearer key o None ≡ o
    keeps None = refl
    keeps (Some y) = refl

    of_past : is_lt (object_cmp (key e) (key x)) ≡ false → nearer key (Some x) (if_past key place e) ≡ Some x
    of_past k = by_cases (is_past place (key e)) (λ j. rw (j, k) refl) (λ j. rw j refl)

    first : (o : Option E) → nearer key (Some x) o ≡ Some x → nearer key (Some x) o ≡ Some x
    first o h = h

-- a walk over the latest
pub latest_more : {E R : Type 0} (key : E → Object) (joined : Object → R → E) (place : Option (List ℕ)) (es : List (Object × R)) (latest items : List E) (i : ℕ) (o o' q : Option E) (e : E) → items ≡ latest → i < length items → e ≡ get_or items i e → o ≡ find (λ x. is_past place (key x)) (items_of key joined es (take i items)) → q ≡ if_past key place e → o' ≡ nearer key o q → o' ≡ find (λ x. is_past place (key x)) (items_of key joined es (take (i + 1) items))
latest_more key joined place es latest items i o o' q e same lt at before past now =
    let more : take (i + 1) items ≡ take i items ++ e ∷ [] = take_more items i e lt ∙ ap (λ x. take i items ++ x ∷ []) (sym at) in
    now ∙ (λ j. nearer key (before j) (past j)) ∙ nearer_one key place e (items_of key joined es (take i items))
    ∙ ap (find (λ x. is_past place (key x))) (sym (with_more key (take i items) (e ∷ []) (joins joined es)) ∙ ap (λ l. with_all key l (joins joined es)) (sym more))

pub latest_all : {E R : Type 0} (key : E → Object) (joined : Object → R → E) (place : Option (List ℕ)) (es : List (Object × R)) (latest items : List E) (i : ℕ) (o : Option E) → items ≡ latest → length items ≤ i → o ≡ find (λ x. is_past place (key x)) (items_of key joined es (take i items)) → o ≡ find (λ x. is_past place (key x)) (items_of key joined es latest)
latest_all key joined place es latest items i o same le h = h ∙ ap (λ l. find (λ x. is_past place (key x)) (items_of key joined es l)) (take_all i items le ∙ same)

-- THE NEXT CHUNK OF A LIST

pub chunks_first : {E : Type 0} (key : E → Object) (place : Option (List ℕ)) (c s : List E) → chunks key c ≡ true → are_slots key s ≡ true → find (λ x. is_past place (key x)) c ≡ chunk_after key place (c ++ s)
chunks_first key place [] [] h k = refl
chunks_first key place [] (y ∷ ys) h k = let a = and_parts (is_slot (key y)) (are_slots key ys) k in rw (no_chunk (key y) a.0) (chunks_first key place [] ys h a.1)
  where
    no_chunk : (o : Object) → is_slot o ≡ true → is_chunk o ≡ false
    no_chunk (Chunk c) h = absurd (false≢true h)
    no_chunk (Slot n) h = refl
chunks_first key place (x ∷ xs) s h k = let a = and_parts (is_chunk (key x)) (chunks key xs) h in by_cases (is_past place (key x)) (λ j. rw (a.0, j) refl) (λ j. rw (a.0, j) (chunks_first key place xs s a.1 k))
