-- The paths of all entries of a folder in memory, in their order.
use Rattle.std.proofs.Common.{◌≡◌, ◌≢◌, inl, inr, ℕ, ◌+◌, ◌<◌, true, List, [], ◌∷◌, ◌++◌, map, length, take, get_or, Some, Result, IsSome, String, Global, refl, sym, ap, subst, ◌∙◌, arith}
use Rattle.std.specs.Prelude.{All, Contains, OnErr, slice_get}
use Rattle.std.specs.Option.{option_map}
use Rattle.std.specs.String.{string_bytes}
use Rattle.std.specs.Ordering.{nat_cmp, is_eq}
use Rattle.std.specs.Cmp.Lexicographic.{slice_cmp}
use Rattle.std.specs.Map.{keys_of}
use Rattle.std.proofs.lemmas.Bool.{false≢true}
use Rattle.std.proofs.lemmas.List.{map-append, take_more, length-map}
use Rattle.std.proofs.lemmas.List.Elements.{All-nil, All-cons, All-head, All-tail, All-weaker, All-contains}
use Rattle.std.proofs.lemmas.Map.Views.{Contains-keys_from_lookup}
use Rattle.std.proofs.lemmas.Option.{get_or_from_slice_get, slice_get-map}
use Rattle.psb_station.specs.Folder.{Content}
use Rattle.psb_station.specs.Node.{stored_of}
use Rattle.psb_station.specs.Entry.{is_entry_path, ArePaths, Ascend, by_path}
use Rattle.psb_station.specs.MemTree.{content_of, ArePathsOf, HasEntry}
use Rattle.psb_station.specs.declared.node.Node.{Node}
use Rattle.psb_station.proofs.Trees.{same_path, entry_at}
use Rattle.psb_station.proofs.Spans.{of_map}
use Rattle.psb_station.proofs.Places.{Entries, is_within, path_at, found_place}
use Rattle.psb_station.proofs.Listings.{At, at_found, on_any}

-- each path has its entry
entries_behind : (es : Entries) → All (λ (p : List ℕ). (n : Node) × At es p n) (keys_of es)
entries_behind [] = All-nil (λ (p : List ℕ). (n : Node) × At [] p n)
entries_behind (e ∷ es) = All-cons (λ (p : List ℕ). (n : Node) × At (e ∷ es) p n) e.0 (keys_of es) (e.1, inl (refl, refl))
    (All-weaker (λ (p : List ℕ). (n : Node) × At es p n) (λ (p : List ℕ). (n : Node) × At (e ∷ es) p n) (λ p a. (a.0, inr a.1)) (keys_of es) (entries_behind es))

is_below : (path : List ℕ) → is_entry_path path ≡ true → path ≢ []
is_below [] is = λ _. false≢true is
is_below (c ∷ path) is = λ e. absurd (cc)

at_path : (es : Entries) (p : List ℕ) (n : Node) → ArePaths es → At es p n → p ≢ []
at_path [] p n paths at = absurd at
at_path (e ∷ es) p n paths (inl here) = subst (λ (q : List ℕ). q ≢ []) here.0 (is_below e.0 (All-head (λ (x : List ℕ × Node). is_entry_path x.0 ≡ true) e es paths))
at_path (e ∷ es) p n paths (inr there) = at_path es p n (All-tail (λ (x : List ℕ × Node). is_entry_path x.0 ≡ true) e es paths) there

pub paths_are : (es : Entries) (c : Content) → content_of es ≡ c → ArePaths es → Ascend es → ArePathsOf c (keys_of es)
paths_are es c is paths up = record {
  ascend = up;
  below = λ p has. at_path es p (entry p has).0 paths (entry p has).1;
  stand = λ p has.
      let e = entry p has in
      (stored_of e.0, entry_at es c p is (at_path es p e.0 paths e.1) ∙ ap (option_map stored_of) (at_found es p e.0 up e.1));
  all = λ p s some there.
      let found = of_map stored_of (by_path es p) s (sym (entry_at es c p is some) ∙ there) in
      Contains-keys_from_lookup {eq = λ a b. is_eq (slice_cmp nat_cmp a b)} same_path p es (subst IsSome (sym found.1) refl);
}
  where
    entry : (p : List ℕ) → Contains (keys_of es) p → (n : Node) × At es p n
    entry p has = All-contains (λ (q : List ℕ). (n : Node) × At es q n) (keys_of es) p (entries_behind es) has

-- a path more was copied
pub copied : (es : Entries) (i : ℕ) (e : List ℕ × Node) (texts : List (String Global)) (s : String Global) → slice_get es i ≡ Some e → string_bytes s ≡ e.0 → map string_bytes texts ≡ take i (keys_of es) → map string_bytes (texts ++ s ∷ []) ≡ take (i + 1) (keys_of es)
copied es i e texts s at is before =
    map-append string_bytes texts (s ∷ []) ∙ ap (λ (l : List (List ℕ)). l ++ string_bytes s ∷ []) before ∙ ap (λ (p : List ℕ). take i (keys_of es) ++ p ∷ []) (is ∙ here)
    ∙ sym (take_more (keys_of es) i e.0 lt)
  where
    lt : i < length (keys_of es)
    lt = omega (arith, is_within es i e at, length-map es (λ (x : List ℕ × Node). x.0))

    here : e.0 ≡ get_or (keys_of es) i e.0
    here = sym (get_or_from_slice_get (keys_of es) i e.0 e.0 (slice_get-map (λ (x : List ℕ × Node). x.0) es i ∙ ap (option_map (λ (x : List ℕ × Node). x.0)) at))

-- a path that could not be copied stands
pub not_copied : {A B : Type 0} (r : Result A B) (es : Entries) (c : Content) (i : ℕ) (e : List ℕ × Node) → content_of es ≡ c → ArePaths es → Ascend es → slice_get es i ≡ Some e → OnErr r (HasEntry c)
not_copied r es c i e is paths up at = on_any r (HasEntry c) (
    record {
      path = e.0;
      stored = stored_of e.1;
      below = below;
      stands = entry_at es c e.0 is below ∙ ap (option_map stored_of) (found_place es i e.0 e.1 up at);
    })
  where
    below : e.0 ≢ []
    below = is_below e.0 (path_at es i e paths at)
