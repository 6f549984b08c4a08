-- The places of what a walk found, and how long the text of their skeleton is.
use Rattle.std.proofs.Common.{◌≡◌, inl, inr, ℕ, ◌+◌, ◌*◌, List, [], ◌∷◌, ◌++◌, length, flat_map, Some, refl, sym, ◌∙◌, ap, subst, arith, length-append}
use Rattle.std.proofs.lemmas.List.Sums.{sum_by-cons}
use Rattle.psb_bytes.specs.Numbers.{u16_bytes, u32_bytes, u64_bytes}
use Rattle.psb_station.specs.Folder.{Content, Stored, found, child}
use Rattle.rolling_chunks.specs.Cuts.{longest}
use Rattle.rolling_chunks.specs.Spans.{spans}
use Rattle.rolling_chunks.proofs.Covering.{spans_cover, span_sizes}
use Rattle.skeleton.specs.declared.entry.EntryKind.{EntryKind}
use Rattle.skeleton.specs.declared.entry.EntryKind.TheVariants as kind
use Rattle.skeleton.specs.declared.limits.TheConstants.{SKELETON_MARK}
use Rattle.skeleton.specs.Texts.{ref_bytes, path_bytes, entry_bytes}
use Rattle.snapshots.specs.Meaning.{Item, Folder, File, Place, refs_in}
use Rattle.snapshots.specs.Tickets.{refs_of_text, entry_of, skeleton_of_tree}
use Rattle.snapshots.specs.Walks.{entry_len, entries_len, IsKind, StandsAs}
use Rattle.snapshots.specs.WalkSteps.{In}
use Rattle.snapshots.specs.Shapes.{IsOf, AreOf, IsReadAt, AreRead, WalksHavePlaces, SkeletonsAreAsLong}
use Rattle.snapshots.specs.declared.walking.Found.{Found}
use Rattle.snapshots.proofs.Levels.{refs_long}
use Rattle.snapshots.proofs.Members.{from_in}
use Rattle.snapshots.proofs.Tickets.{refs_fit}

-- ---- places

item_at : (content : Content) (root path : List ℕ) (k : EntryKind) (s : Stored) → found content (child root path) ≡ Some s → IsKind k s → (item : Item) × IsOf k item × IsReadAt content root path item
item_at content root path kind.Folder s here is = (Folder, refl, tt)
item_at content root path kind.File s here is = (File is.0, (is.0, refl), here ∙ ap (λ (t : Stored). Some t) is.1)

placed : (content : Content) (root : List ℕ) (fs : List Found) → ((f : Found) → In f fs → StandsAs content root f) → (places : List Place) × AreOf fs places × AreRead content root places
placed content root [] stand = ([], tt, tt)
placed content root (f ∷ fs) stand =
    let here = stand f (inl refl) in
    let item = item_at content root f.path f.kind here.0 here.1 here.2 in
    let rest = placed content root fs (λ g i. stand g (inr i)) in
    (record { path = f.path; item = item.0 } ∷ rest.0, (refl, item.1, rest.1), (item.2, rest.2))

pub walk_has_places : WalksHavePlaces
walk_has_places content root fs left walk = placed content root fs (λ f i. walk.stand f (from_in f fs i))

-- ---- the text

-- what stands at a place, by its kind
folder_long : (path : List ℕ) → length (entry_bytes (entry_of (record { path = path; item = Folder }))) ≡ entry_len (length path) kind.Folder
folder_long path =
    omega (arith, length-append (path_bytes path) [], length-append (u16_bytes (length path)) path)

file_long : (path bytes : List ℕ) → length (entry_bytes (entry_of (record { path = path; item = File bytes }))) ≡ entry_len (length path) kind.File + 68 * length (refs_of_text bytes)
file_long path bytes =
    let rs = refs_of_text bytes in
    let fit = refs_fit bytes 0 (spans longest bytes) (spans_cover longest bytes).0 (span_sizes longest bytes (omega arith)) in
    omega (
      arith,
      refs_long rs fit,
      length-append (path_bytes path) (u64_bytes (length bytes) ++ (u32_bytes (length rs) ++ flat_map ref_bytes rs)),
      length-append (u16_bytes (length path)) path,
      length-append (u64_bytes (length bytes)) (u32_bytes (length rs) ++ flat_map ref_bytes rs),
      length-append (u32_bytes (length rs)) (flat_map ref_bytes rs),
    )

place_long : (path : List ℕ) (k : EntryKind) (item : Item) → IsOf k item → length (entry_bytes (entry_of (record { path = path; item = item }))) ≡ entry_len (length path) k + 68 * length (entry_of (record { path = path; item = item })).refs
place_long path kind.Folder item of =
    subst (λ (i : Item). length (entry_bytes (entry_of (record { path = path; item = i }))) ≡ entry_len (length path) kind.Folder + 68 * length (entry_of (record { path = path; item = i })).refs) (sym of) (omega (arith, folder_long path))
place_long path kind.File item of =
    subst (λ (i : Item). length (entry_bytes (entry_of (record { path = path; item = i }))) ≡ entry_len (length path) kind.File + 68 * length (entry_of (record { path = path; item = i })).refs) (sym of.1) (file_long path of.0)

entries_long : (fs : List Found) (ps : List Place) → AreOf fs ps → length (flat_map entry_bytes (skeleton_of_tree ps)) ≡ entries_len fs + 68 * length (refs_in (skeleton_of_tree ps))
entries_long [] [] of = refl
entries_long [] (p ∷ ps) of = absurd of
entries_long (f ∷ fs) [] of = absurd of
entries_long (f ∷ fs) (p ∷ ps) of =
    let here : length (entry_bytes (entry_of p)) ≡ entry_len (length f.path) f.kind + 68 * length (entry_of p).refs =
    subst (λ (path : List ℕ). length (entry_bytes (entry_of p)) ≡ entry_len (length path) f.kind + 68 * length (entry_of p).refs) of.0 (place_long p.path f.kind p.item of.1) in
    omega (
      arith,
      here,
      entries_long fs ps of.2,
      sum_by-cons (λ (g : Found). entry_len (length g.path) g.kind) f fs,
      length-append (entry_bytes (entry_of p)) (flat_map entry_bytes (skeleton_of_tree ps)),
      length-append (entry_of p).refs (refs_in (skeleton_of_tree ps)),
    )

pub skeleton_is_as_long : SkeletonsAreAsLong
skeleton_is_as_long fs places of =
    let es = skeleton_of_tree places in
    omega (arith, entries_long fs places of, length-append SKELETON_MARK (u32_bytes (length es) ++ flat_map entry_bytes es), length-append (u32_bytes (length es)) (flat_map entry_bytes es))
