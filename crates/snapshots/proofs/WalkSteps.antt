-- A name more, and a folder more.
use Rattle.std.proofs.Common.{◌≡◌, inl, inr, ⊎_elim, ℕ, ◌+◌, ◌<◌, ◌≤◌, min, true, List, [], ◌∷◌, ◌++◌, map, length, take, drop, get_or, All, Option, Some, None, IfSome, is_some, refl, sym, ap, subst, ◌∙◌, append_assoc, arith, length-append}
use Rattle.std.specs.Prelude.{Result, Ok, Err, OnOk, IfOk, IsErr}
use Rattle.std.specs.List.{list_all, IsDistinct}
use Rattle.std.specs.Str.{is_utf8, bytes_eq}
use Rattle.std.proofs.lemmas.Bool.{le-leb, false≢true}
use Rattle.std.proofs.lemmas.List.{map-append, take_more, drop_more, take-append-drop, append-nil}
use Rattle.std.proofs.lemmas.List.Elements.{All-nil, All-cons, All-contains}
use Rattle.std.proofs.lemmas.List.Folds.{list_all-append}
use Rattle.std.proofs.lemmas.List.Sums.{sum_by-append, sum_by-cons}
use Rattle.psb_bytes.specs.Names.{has_names}
use Rattle.psb_station.specs.Folder.{Content, found, IsName, Lists}
use Rattle.psb_station.specs.MemTree.{under}
use Rattle.psb_station.specs.declared.item.Item.{Item}
use Rattle.skeleton.specs.declared.entry.EntryKind.{EntryKind}
use Rattle.skeleton.specs.declared.limits.TheConstants.{MOST_PATH_BYTES, MOST_TEXT_BYTES}
use Rattle.snapshots.specs.declared.walking.Found.{Found}
use Rattle.snapshots.specs.declared.walking.Walked.{Walked}
use Rattle.snapshots.specs.Walks.{InTree, entry_len, entries_len, bare_len, IsTooLarge}
use Rattle.snapshots.specs.WalkSteps.{In, entry_kind, child_of, found_as, founds, special_as, specials, is_text, is_short, Pushes, Adds, IsOverAt, IsFull, Enters, Exceeds, IsSeen, IsThere, IsSoFar}
use Rattle.snapshots.proofs.Members.{to_in, from_in, in_left, in_right, in_app, in_map, Apart, to_apart, from_apart, apart_left}
use Rattle.snapshots.proofs.Seen.{name_of, path_of, founds_app, specials_app, of_founds, to_founds, founds_apart, IsPlace, AreNew, seen_more, place_of, Stand, stand_more, covers_more, stands_as, in_tree}

entries_app : (a b : List Found) → entries_len (a ++ b) ≡ entries_len a + entries_len b
entries_app a b = sum_by-append (λ (f : Found). entry_len (length f.path) f.kind) a b

entries_one : (f : Found) → entries_len (f ∷ []) ≡ entry_len (length f.path) f.kind
entries_one f = omega (arith, sum_by-cons (λ (g : Found). entry_len (length g.path) g.kind) f [])

children_app : (base : List ℕ) (a b : List Item) → founds (map (child_of base) (a ++ b)) ≡ founds (map (child_of base) a) ++ founds (map (child_of base) b)
children_app base a b = ap founds (map-append (child_of base) a b) ∙ founds_app (map (child_of base) a) (map (child_of base) b)

specials_of_app : (base : List ℕ) (a b : List Item) → specials (map (child_of base) (a ++ b)) ≡ specials (map (child_of base) a) ++ specials (map (child_of base) b)
specials_of_app base a b = ap specials (map-append (child_of base) a b) ∙ specials_app (map (child_of base) a) (map (child_of base) b)

pub on_ok : {A E P Q : Type 0} (r : Result A E) → (P → Q) → OnOk r P → OnOk r Q
on_ok (Ok x) f p = f p
on_ok (Err e) f p = tt

pub not_ok : {A E : Type 0} (r : Result A E) (P : Type 0) → IsErr r → OnOk r P
not_ok (Ok x) P err = absurd (false≢true err)
not_ok (Err e) P err = tt

pub not_if_ok : {A E : Type 0} (r : Result A E) (P : A → Type 0) → IsErr r → IfOk r P
not_if_ok (Ok x) P err = absurd (false≢true err)
not_if_ok (Err e) P err = tt

-- ---- a name more

one_found : (base : List ℕ) (item : Item) (k : EntryKind) → entry_kind item.kind ≡ Some k → founds (map (child_of base) (item ∷ [])) ≡ record { path = under base item.name; kind = k } ∷ []
one_found base item k is = ap (λ (o : Option EntryKind). found_as (under base item.name) o ++ []) is

none_special : (base : List ℕ) (item : Item) (k : EntryKind) → entry_kind item.kind ≡ Some k → specials (map (child_of base) (item ∷ [])) ≡ []
none_special base item k is = ap (λ (o : Option EntryKind). special_as (under base item.name) o ++ []) is

none_found : (base : List ℕ) (item : Item) → entry_kind item.kind ≡ None → founds (map (child_of base) (item ∷ [])) ≡ []
none_found base item is = ap (λ (o : Option EntryKind). found_as (under base item.name) o ++ []) is

one_special : (base : List ℕ) (item : Item) → entry_kind item.kind ≡ None → specials (map (child_of base) (item ∷ [])) ≡ under base item.name ∷ []
one_special base item is = ap (λ (o : Option EntryKind). special_as (under base item.name) o ++ []) is

pub adds_none : (base : List ℕ) (w : Walked) → w.text_len ≤ MOST_TEXT_BYTES → Adds base [] w w
adds_none base w most = record {
  found = sym (append-nil w.found.items);
  left = λ few. omega (arith, few);
  text = omega arith;
  most = most;
  short = refl;
  texts = refl;
}

pub adds_found : (base : List ℕ) (item : Item) (k : EntryKind) (old new : Walked) → entry_kind item.kind ≡ Some k → is_utf8 item.name ≡ true → Pushes (record { path = under base item.name; kind = k }) old new → Adds base (item ∷ []) old new
adds_found base item k old new is text p =
    let f : Found = record { path = under base item.name; kind = k } in
    let one = one_found base item k is in
    record {
      found = p.found ∙ ap (λ (l : List Found). old.found.items ++ l) (sym one);
      left = λ few. let none : length (specials (map (child_of base) (item ∷ []))) ≡ 0 = ap (λ (l : List (List ℕ)). length l) (none_special base item k is) in omega (arith, none, p.left, few);
      text = omega (arith, p.text, ap entries_len one, entries_one f);
      most = p.most;
      short = subst (λ (l : List Found). list_all is_short l ≡ true) (sym one) (rw (le-leb (length f.path) MOST_PATH_BYTES p.short) refl);
      texts = rw text refl;
    }

pub adds_special : (base : List ℕ) (item : Item) (old new : Walked) → entry_kind item.kind ≡ None → is_utf8 item.name ≡ true → new.found.items ≡ old.found.items → new.left ≡ min (old.left + 1) 4294967295 → new.text_len ≡ old.text_len → old.text_len ≤ MOST_TEXT_BYTES → Adds base (item ∷ []) old new
adds_special base item old new is text same left_ text_len most =
    let none = none_found base item is in
    record {
      found = same ∙ sym (append-nil old.found.items) ∙ ap (λ (l : List Found). old.found.items ++ l) (sym none);
      left = λ few. let one : length (specials (map (child_of base) (item ∷ []))) ≡ 1 = ap (λ (l : List (List ℕ)). length l) (one_special base item is) in rw one left_;
      text = let zero_ : entries_len (founds (map (child_of base) (item ∷ []))) ≡ 0 = ap entries_len none in omega (arith, zero_, text_len);
      most = omega (arith, text_len, most);
      short = subst (λ (l : List Found). list_all is_short l ≡ true) (sym none) refl;
      texts = rw text refl;
    }

pub adds_then : (base : List ℕ) (xs ys : List Item) (a b c : Walked) → Adds base xs a b → Adds base ys b c → Adds base (xs ++ ys) a c
adds_then base xs ys a b c one two =
    let both = children_app base xs ys in
    record {
      found = two.found ∙ ap (λ (l : List Found). l ++ founds (map (child_of base) ys)) one.found
          ∙ append_assoc a.found.items (founds (map (child_of base) xs)) (founds (map (child_of base) ys)) ∙ ap (λ (l : List Found). a.found.items ++ l) (sym both);
      left = λ few.
          let sum : length (specials (map (child_of base) (xs ++ ys))) ≡ length (specials (map (child_of base) xs)) + length (specials (map (child_of base) ys)) =
          ap (λ (l : List (List ℕ)). length l) (specials_of_app base xs ys) ∙ length-append (specials (map (child_of base) xs)) (specials (map (child_of base) ys)) in
          let first = one.left few in
          omega (arith, sum, first, two.left (omega (arith, first)));
      text = omega (arith, one.text, two.text, ap entries_len both, entries_app (founds (map (child_of base) xs)) (founds (map (child_of base) ys)));
      most = two.most;
      short = ap (list_all is_short) both ∙ list_all-append is_short (founds (map (child_of base) xs)) (founds (map (child_of base) ys)) ∙ rw (one.short, two.short) refl;
      texts = list_all-append is_text xs ys ∙ rw (one.texts, two.texts) refl;
    }

pub adds_more : (base : List ℕ) (items : List Item) (i : ℕ) (x d : Item) (a b c : Walked) → i < length items → x ≡ get_or items i d → Adds base (take i items) a b → Adds base (x ∷ []) b c → Adds base (take (i + 1) items) a c
adds_more base items i x d a b c lt is one two =
    subst (λ (l : List Item). Adds base l a c) (sym (take_more items i d lt)) (adds_then base (take i items) (get_or items i d ∷ []) a b c one (subst (λ (y : Item). Adds base (y ∷ []) b c) is two))

pub full_at : (base : List ℕ) (items : List Item) (i : ℕ) (x d : Item) (a b : Walked) → i < length items → x ≡ get_or items i d → Adds base (take i items) a b → IsOverAt base x b.text_len → IsFull base items a
full_at base items i x d a b lt is so_far over = record {
  front = take i items;
  item = x;
  rest = drop (i + 1) items;
  is = sym (take-append-drop i items) ∙ ap (λ (l : List Item). take i items ++ l) (drop_more items i d lt) ∙ ap (λ (y : Item). take i items ++ y ∷ drop (i + 1) items) (sym is);
  texts = so_far.texts;
  over = subst (IsOverAt base x) so_far.text over;
}

-- ---- a folder more

pub still : {A : Type 0} (old new : Option A) (P : A → Type 0) → (is_some new ≡ true → new ≡ old) → IfSome old P → IfSome new P
still old None P same p = tt
still {A = A} old (Some x) P same p = subst (λ (o : Option A). IfSome o P) (sym (same refl)) p

pub if_both : {A : Type 0} (o : Option A) (P Q R : A → Type 0) → ((x : A) → P x → Q x → R x) → IfSome o P → IfSome o Q → IfSome o R
if_both None P Q R f p q = tt
if_both (Some x) P Q R f p q = f x p q

pub entered : (old new : Option Content) (root : List ℕ) (done : List (List ℕ)) (base : List ℕ) (w v : Walked) (s : IsSoFar old root done w)
    → IsPlace base s.items → (In base done → ⊥) → (is_some new ≡ true → new ≡ old) → Enters new (place_of root base) base w v → IsSoFar new root (done ++ base ∷ []) v
entered old new root done base w v s place fresh same e =
    let more : List Item = map (child_of base) e.items in
    let both : founds (s.items ++ more) ≡ founds s.items ++ founds more = founds_app s.items more in
    let listed : v.found.items ≡ w.found.items ++ founds more = e.adds.found in
    record {
      items = s.items ++ more;
      found = listed ∙ ap (λ (l : List Found). l ++ founds more) s.found ∙ sym both;
      left =
          let sum : length (specials (s.items ++ more)) ≡ length (specials s.items) + length (specials more) = ap (λ (l : List (List ℕ)). length l) (specials_app s.items more) ∙ length-append (specials s.items) (specials more) in
          omega (arith, sum, e.adds.left (omega (arith, s.left)), s.left);
      text = omega (arith, e.adds.text, s.text, ap entries_len listed, entries_app w.found.items (founds more));
      most = e.adds.most;
      short = ap (list_all is_short) listed ∙ list_all-append is_short w.found.items (founds more) ∙ rw (s.short, e.adds.short) refl;
      seen = seen_more done s.items base e.items s.seen place fresh (record { names = e.names.names; distinct = e.names.distinct; texts = e.adds.texts });
      there = if_both new (λ c. IsThere c root done s.items) (λ c. Lists c (place_of root base) e.items) (λ c. IsThere c root (done ++ base ∷ []) (s.items ++ more))
          (λ c t l. record {
            folder = λ has. ⊎_elim (λ before. t.folder before) (λ here. ⊎_elim (λ is. ap (λ (b : List ℕ). found c (place_of root b)) (sym is) ∙ l.folder) (λ no_. absurd no_) here) (in_app [] done (base ∷ []) has);
            stand = stand_more c root s.items base e.items e.items t.stand l (λ i has. has);
            all = covers_more c root done s.items base e.items t.all l;
          })
          (still old new (λ c. IsThere c root done s.items) same s.there) e.names.lists;
    }

-- ---- too large a folder

all_of : {X : Type 0} (P : X → Type 0) (xs : List X) → ((x : X) → In x xs → P x) → All P xs
all_of P [] h = All-nil P
all_of P (x ∷ xs) h = All-cons P x xs (h x (inl refl)) (all_of P xs (λ y i. h y (inr i)))

in_front : (items front : List Item) (item : Item) (rest : List Item) → items ≡ front ++ item ∷ rest → (i : Item) → In i (front ++ item ∷ []) → In i items
in_front items front item rest is i has =
    subst (λ (l : List Item). In i l) (append_assoc front (item ∷ []) rest ∙ sym is) (in_left i (front ++ item ∷ []) rest has)

front_new : (items front : List Item) (item : Item) (rest : List Item) → items ≡ front ++ item ∷ rest → All (λ (i : Item). IsName i.name) items → IsDistinct bytes_eq (map name_of items) → list_all is_text front ≡ true → is_utf8 item.name ≡ true → AreNew (front ++ item ∷ [])
front_new items front item rest is names distinct texts text =
    let some : List Item = front ++ item ∷ [] in
    let whole : map name_of items ≡ map name_of some ++ map name_of rest = ap (λ (l : List Item). map name_of l) (is ∙ sym (append_assoc front (item ∷ []) rest)) ∙ map-append name_of some rest in
    record {
      names = all_of (λ (i : Item). IsName i.name) some (λ i has. All-contains (λ (x : Item). IsName x.name) items i names (from_in i items (in_front items front item rest is i has)));
      distinct = from_apart (map name_of some) (apart_left (map name_of some) (map name_of rest) (subst Apart whole (to_apart (map name_of items) distinct)));
      texts = list_all-append is_text front (item ∷ []) ∙ rw (texts, text) refl;
    }

pub exceeded : (old new : Option Content) (root : List ℕ) (done : List (List ℕ)) (base : List ℕ) (w : Walked) (s : IsSoFar old root done w)
    → IsPlace base s.items → (In base done → ⊥) → (is_some new ≡ true → new ≡ old) → Exceeds new (place_of root base) base w → IfSome new (λ c. IsTooLarge c root)
exceeded old new root done base w s place fresh same e =
    if_both new (λ c. IsThere c root done s.items) (λ c. Lists c (place_of root base) e.items) (λ c. IsTooLarge c root)
    (λ c t l. large c (stand_more c root s.items base e.items some t.stand l (in_front e.items f.front f.item f.rest f.is)))
    (still old new (λ c. IsThere c root done s.items) same s.there) e.names.lists
  where
    f : IsFull base e.items w
    f = e.full

    some : List Item
    some = e.full.front ++ e.full.item ∷ []

    all : List Item
    all = s.items ++ map (child_of base) (e.full.front ++ e.full.item ∷ [])

    here : Item
    here = child_of base e.full.item

    is_seen : IsSeen (done ++ base ∷ []) (s.items ++ map (child_of base) (e.full.front ++ e.full.item ∷ []))
    is_seen = seen_more done s.items base (e.full.front ++ e.full.item ∷ []) s.seen place fresh (front_new e.items e.full.front e.full.item e.full.rest e.full.is e.names.names e.names.distinct e.full.texts e.full.over.text)

    has : In (child_of base e.full.item) (s.items ++ map (child_of base) (e.full.front ++ e.full.item ∷ []))
    has = in_right (child_of base e.full.item) s.items (map (child_of base) (e.full.front ++ e.full.item ∷ []))
        (in_map (child_of base) e.full.item (e.full.front ++ e.full.item ∷ []) (in_right e.full.item e.full.front (e.full.item ∷ []) (inl refl)))

    len : bare_len (founds (s.items ++ map (child_of base) (e.full.front ++ e.full.item ∷ []))) ≡ w.text_len + entries_len (founds (map (child_of base) e.full.front)) + entry_len (length (under base e.full.item.name)) e.full.over.entry
    len =
        let front : List Found = founds (map (child_of base) e.full.front) in
        let last : Found = record { path = under base e.full.item.name; kind = e.full.over.entry } in
        let is : founds (s.items ++ map (child_of base) (e.full.front ++ e.full.item ∷ [])) ≡ w.found.items ++ (front ++ last ∷ []) =
        founds_app s.items (map (child_of base) (e.full.front ++ e.full.item ∷ []))
        ∙ ap (λ (l : List Found). founds s.items ++ l) (children_app base e.full.front (e.full.item ∷ []) ∙ ap (λ (l : List Found). front ++ l) (one_found base e.full.item e.full.over.entry e.full.over.kind))
        ∙ ap (λ (l : List Found). l ++ (front ++ last ∷ [])) (sym s.found) in
        omega (arith, ap entries_len is, entries_app w.found.items (front ++ last ∷ []), entries_app front (last ∷ []), entries_one last, s.text)

    large : (c : Content) → Stand c root (s.items ++ map (child_of base) (e.full.front ++ e.full.item ∷ [])) → IsTooLarge c root
    large c stand = ⊎_elim
        (λ long. inl (record {
          place = record { path = under base e.full.item.name; kind = e.full.over.entry };
          names = is_seen.named here has;
          long = long;
          stands = stands_as c root all stand (record { path = under base e.full.item.name; kind = e.full.over.entry }) (to_founds here e.full.over.entry all has e.full.over.kind);
          in_tree = in_tree c root (done ++ base ∷ []) all is_seen stand here has;
        }))
        (λ much. inr (record {
          places = founds all;
          distinct = from_apart (map path_of (founds all)) (founds_apart all (to_apart (map name_of all) is_seen.distinct));
          names = λ g i. let o = of_founds g all (to_in g (founds all) i) in subst (λ (p : List ℕ). has_names p ≡ true) o.2 (is_seen.named o.0 o.1);
          stand = λ g i. stands_as c root all stand g (to_in g (founds all) i);
          in_tree = λ g i. let o = of_founds g all (to_in g (founds all) i) in subst (λ (p : List ℕ). InTree c root p) o.2 (in_tree c root (done ++ base ∷ []) all is_seen stand o.0 o.1);
          long = omega (arith, much, len);
        }))
        e.full.over.over
