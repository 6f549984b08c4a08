-- The end of a walk, when all folders were listed and what was found is in its order.
use Rattle.std.proofs.Common.{◌≡◌, ◌≢◌, inl, inr, ⊎_elim, ℕ, suc, ◌+◌, ◌<◌, ◌≤◌, true, false, List, [], ◌∷◌, map, length, take, get_or, Contains, Option, Some, None, Less, Equal, Greater, refl, sym, ap, subst, ◌∙◌, arith}
use Rattle.std.specs.Prelude.{IfSome}
use Rattle.std.specs.List.{list_all}
use Rattle.std.specs.List.Sorted.{IsPermutation, IsSortedBy}
use Rattle.std.specs.Str.{is_utf8, bytes_eq}
use Rattle.std.specs.Ordering.{nat_cmp, is_lt, is_eq, ordering_reverse}
use Rattle.std.specs.declared.cmp.Ordering.{Ordering}
use Rattle.std.specs.Cmp.Lexicographic.{slice_cmp}
use Rattle.std.proofs.lemmas.Cmp.{nat_list_cmp_total, nat_list_eq_equiv}
use Rattle.std.proofs.lemmas.Bool.{and_parts, false≢true, le-leb, leb-true}
use Rattle.std.proofs.lemmas.List.{take_all}
use Rattle.std.proofs.lemmas.List.Sorted.{IsPermutation-map, IsPermutation-sym, Contains-permutation, sum_by-IsPermutation}
use Rattle.std.proofs.lemmas.Map.Keys.{IsDistinct-IsPermutation}
use Rattle.std.proofs.lemmas.Option.{same_Some}
use Rattle.psb_bytes.specs.Names.{is_name, parts, has_names}
use Rattle.psb_bytes.specs.Paths.{parents}
use Rattle.psb_station.specs.Folder.{Content, Stored, Special as ASpecial, found, child, kind_of}
use Rattle.psb_station.specs.MemTree.{under}
use Rattle.psb_station.specs.declared.item.Item.{Item}
use Rattle.psb_station.proofs.Trees.{same_path}
use Rattle.skeleton.specs.declared.limits.TheConstants.{MOST_PATH_BYTES}
use Rattle.skeleton.specs.Paths.{is_path, is_below}
use Rattle.snapshots.specs.declared.walking.Found.{Found}
use Rattle.snapshots.specs.declared.walking.Walked.{Walked}
use Rattle.snapshots.specs.Walks.{IsWithin, rise, entry_len, bare_len, AreFound, IsWalk, AreFoldersOf}
use Rattle.snapshots.specs.WalkSteps.{In, entry_kind, founds, specials, is_short, folders, IsThere, IsSoFar, IsOn}
use Rattle.snapshots.proofs.Members.{to_in, from_in, in_right, of_map, passes, Apart, to_apart, from_apart}
use Rattle.snapshots.proofs.PathSplits.{made_of, path_is}
use Rattle.snapshots.proofs.Seen.{name_of, path_of, folder_at, of_founds, to_founds, of_specials, to_specials, founds_apart, specials_apart, is_kind, is_special, stands_as}
use Rattle.snapshots.proofs.WalkTurns.{to_folders, of_folders_at}

-- ---- the order

at_most : (a b : List ℕ) → is_below b a ≡ false → a ≢ b → is_below a b ≡ true
at_most a b not_above other = at (slice_cmp nat_cmp a b) refl
  where
    at : (o : Ordering) → slice_cmp nat_cmp a b ≡ o → is_lt (slice_cmp nat_cmp a b) ≡ true
    at Less is = ap is_lt is
    at Equal is = absurd (other (same_path a b (ap is_eq is)))
    at Greater is = absurd (false≢true (sym not_above ∙ ap is_lt (nat_list_cmp_total.antisymm b a ∙ ap ordering_reverse is)))

rises : (fs : List Found) → ((k : ℕ) (d : Found) → 0 ≤ k → k + 1 < length fs → is_below (get_or fs (k + 1) d).path (get_or fs k d).path ≡ false) → Apart (map path_of fs) → rise fs ≡ true
rises [] up apart = refl
rises (f ∷ []) up apart = refl
rises (f ∷ g ∷ fs) up apart =
    rw (at_most f.path g.path (up 0 f (omega arith) (omega arith)) (λ same. apart.0 (inl (sym same)))) (rises (g ∷ fs) (λ k d from lt. behind k d (up (suc k) d (omega arith) (omega (arith, lt)))) apart.1)
  where
    behind : (k : ℕ) (d : Found) → is_below (get_or (f ∷ g ∷ fs) (suc k + 1) d).path (get_or (f ∷ g ∷ fs) (suc k) d).path ≡ false → is_below (get_or (g ∷ fs) (k + 1) d).path (get_or (g ∷ fs) k d).path ≡ false
    behind k d h = let next : suc k + 1 ≡ suc (k + 1) = omega arith in subst (λ (n : ℕ). is_below (get_or (f ∷ g ∷ fs) n d).path (get_or (g ∷ fs) k d).path ≡ false) next h

-- ---- what was found, in another order

moved : (a b : List Found) → IsPermutation a b → (f : Found) → Contains a f → Contains b f
moved a b p f has = Contains-permutation a b f p has

within_moved : (a b : List Found) → IsPermutation a b → (path : List ℕ) → IsWithin a path → IsWithin b path
within_moved a b p path within r lies = moved a b p (folder_at r) (within r lies)

pub bare_moved : (a b : List Found) → IsPermutation a b → bare_len b ≡ bare_len a
bare_moved a b p = ap (λ n. 12 + n) (sum_by-IsPermutation (λ (f : Found). entry_len (length f.path) f.kind) a b p)

-- ---- the end

-- what is known when each folder was listed, with what was found in its order
record IsEnd (o : Option Content) (root : List ℕ) (w : Walked) (last : List Found) : Type 0 where
  so_far : IsSoFar o root ([] ∷ folders w.found.items) w
  moves : IsPermutation w.found.items last

end_of : (o : Option Content) (root : List ℕ) (index : ℕ) (w : Walked) (last : List Found) → length w.found.items ≤ index → IsOn o root index w → IsPermutation w.found.items last → IsEnd o root w last
end_of o root index w last le on p = record {
  so_far = subst (λ (fs : List Found). IsSoFar o root ([] ∷ folders fs) w) (take_all index w.found.items le) on.so_far;
  moves = p;
}

to_items : (o : Option Content) (root : List ℕ) (w : Walked) (last : List Found) (e : IsEnd o root w last) (f : Found) → Contains last f → In f (founds e.so_far.items)
to_items o root w last e f has =
    subst (λ (l : List Found). In f l) e.so_far.found (to_in f w.found.items (moved last w.found.items (IsPermutation-sym w.found.items last e.moves) f has))

of_items : (o : Option Content) (root : List ℕ) (w : Walked) (last : List Found) (e : IsEnd o root w last) (f : Found) → In f (founds e.so_far.items) → Contains last f
of_items o root w last e f has =
    moved w.found.items last e.moves f (from_in f w.found.items (subst (λ (l : List Found). In f l) (sym e.so_far.found) has))

within_all : (o : Option Content) (root : List ℕ) (w : Walked) (last : List Found) (e : IsEnd o root w last) (i : Item) → In i e.so_far.items → IsWithin last i.name
within_all o root w last e i has r lies = of_items o root w last e (folder_at r) (e.so_far.seen.within i has r (to_in r (parents i.name) lies))

pub are_found : (o : Option Content) (root : List ℕ) (index : ℕ) (w : Walked) (last : List Found) → length w.found.items ≤ index → IsOn o root index w → IsPermutation w.found.items last
    → IsSortedBy (λ (f g : Found). is_below f.path g.path) last → AreFound last
are_found o root index w last le on p sorted = record {
  ordered = rises last sorted (to_apart (map path_of last) (IsDistinct-IsPermutation bytes_eq nat_list_eq_equiv.symm (map path_of w.found.items) (map path_of last) (IsPermutation-map path_of w.found.items last p)
      (from_apart (map path_of w.found.items) (subst (λ (l : List Found). Apart (map path_of l)) (sym e.so_far.found) (founds_apart e.so_far.items (to_apart (map name_of e.so_far.items) e.so_far.seen.distinct))))));
  paths = λ f has.
      let o_ = of_founds f e.so_far.items (to_items o root w last e f has) in
      let here : In f w.found.items = subst (λ (l : List Found). In f l) (sym e.so_far.found) (to_items o root w last e f has) in
      path_is f.path (subst (λ (x : List ℕ). has_names x ≡ true) o_.2 (e.so_far.seen.named o_.0 o_.1)) (leb-true (length f.path) MOST_PATH_BYTES (passes is_short f w.found.items e.so_far.short here));
  within = λ f has.
      let o_ = of_founds f e.so_far.items (to_items o root w last e f has) in
      subst (λ (x : List ℕ). IsWithin last x) o_.2 (within_all o root w last e o_.0 o_.1);
}
  where
    e : IsEnd o root w last
    e = end_of o root index w last le on p

-- what stands in a folder that was found was seen
was_seen : (c : Content) (o : Option Content) (root : List ℕ) (w : Walked) (last : List Found) (e : IsEnd o root w last) → IsThere c root ([] ∷ folders w.found.items) e.so_far.items
    → (path : List ℕ) (s : Stored) → has_names path ≡ true → found c (child root path) ≡ Some s → IsWithin last path → (i : Item) × In i e.so_far.items × (i.name ≡ path) × (kind_of s ≡ i.kind)
was_seen c o root w last e there path s named stands within =
    let m = made_of path named in
    let made = m.2 in
    let base : In m.0 ([] ∷ folders w.found.items) = ⊎_elim (λ is. inl (sym is))
    (λ lies.
    let last_ : Contains (parents path) m.0 = from_in m.0 (parents path) (subst (λ (l : List (List ℕ)). In m.0 l) (sym lies) (in_right m.0 (parents m.0) (m.0 ∷ []) (inl refl))) in
    let f : In (folder_at m.0) w.found.items = subst (λ (l : List Found). In (folder_at m.0) l) (sym e.so_far.found) (to_items o root w last e (folder_at m.0) (within m.0 last_)) in
    inr (to_folders m.0 w.found.items f))
    made.lies in
    let listed_ = there.all m.0 m.1 s base made.valid (ap (λ (x : List ℕ). found c (child root x)) (sym made.is) ∙ stands) in
    let i = of_map name_of (under m.0 m.1) e.so_far.items listed_ in
    let is : i.0.name ≡ path = i.2 ∙ sym made.is in
    let t = there.stand i.0 i.1 in
    let same : t.0 ≡ s = same_Some t.0 s (sym t.1 ∙ ap (λ (x : List ℕ). found c (child root x)) is ∙ stands) in
    (i.0, i.1, is, ap kind_of (sym same) ∙ t.2)

is_walk : (c : Content) (o : Option Content) (root : List ℕ) (w : Walked) (last : List Found) (e : IsEnd o root w last) → IsThere c root ([] ∷ folders w.found.items) e.so_far.items → IsWalk c root last w.left
is_walk c o root w last e there = record {
  folder = there.folder (inl refl);
  stand = λ f has. stands_as c root e.so_far.items there.stand f (to_items o root w last e f has);
  all = λ f named s stands kind_ within.
      let i = was_seen c o root w last e there f.path s named stands within in
      of_items o root w last e f (subst (λ (p : List ℕ). In (record { path = p; kind = f.kind }) (founds e.so_far.items)) i.2 (to_founds i.0 f.kind e.so_far.items i.1 (ap entry_kind (sym i.3) ∙ is_kind s f.kind kind_)));
  left = (
    specials e.so_far.items,
    record {
      distinct = from_apart (specials e.so_far.items) (specials_apart e.so_far.items (to_apart (map name_of e.so_far.items) e.so_far.seen.distinct));
      stand = λ path has.
          let i = of_specials path e.so_far.items (to_in path (specials e.so_far.items) has) in
          let t = there.stand i.0 i.1 in
          let s = is_special t.0 (ap entry_kind t.2 ∙ i.3) in (
            subst (λ (p : List ℕ). has_names p ≡ true) i.2 (e.so_far.seen.named i.0 i.1),
            subst (λ (p : List ℕ). IsWithin last p) i.2 (within_all o root w last e i.0 i.1),
            ap (λ (p : List ℕ). found c (child root p)) (sym i.2) ∙ t.1 ∙ ap (λ (x : Stored). Some x) s,
          );
      all = λ path named within stands.
          let i = was_seen c o root w last e there path ASpecial named stands within in
          from_in path (specials e.so_far.items) (subst (λ (p : List ℕ). In p (specials e.so_far.items)) i.2 (to_specials i.0 e.so_far.items i.1 (ap entry_kind (sym i.3))));
    },
    e.so_far.left,
  );
}

pub walks : (o : Option Content) (root : List ℕ) (index : ℕ) (w : Walked) (last : List Found) → length w.found.items ≤ index → IsOn o root index w → IsPermutation w.found.items last → IfSome o (λ c. IsWalk c root last w.left)
walks o root index w last le on p = at o (end_of o root index w last le on p)
  where
    at : (x : Option Content) (e : IsEnd x root w last) → IfSome x (λ c. IsWalk c root last w.left)
    at None e = tt
    at (Some c) e = is_walk c (Some c) root w last e e.so_far.there

-- the folders that were listed are those that were found
pub all_listed : (fs last : List Found) (index : ℕ) → length fs ≤ index → IsPermutation fs last → AreFoldersOf last (folders (take index fs))
all_listed fs last index le p path = (
  λ has. moved fs last p (folder_at path) (from_in (folder_at path) fs (of_folders_at path fs (subst (λ (l : List Found). In path (folders l)) (take_all index fs le) (to_in path (folders (take index fs)) has)))),
  λ has. from_in path (folders (take index fs)) (subst (λ (l : List Found). In path (folders l)) (sym (take_all index fs le)) (to_folders path fs (to_in (folder_at path) fs (moved last fs (IsPermutation-sym fs last p) (folder_at path) has)))),
)
