-- What was read of the places that were taken is what was got of a ticket.
use Rattle.std.proofs.Common.{◌≡◌, inl, inr, ⊎_elim, ℕ, zero, suc, List, [], ◌∷◌, ◌++◌, refl, sym, ◌∙◌, ap, subst, arith, append_assoc}
use Rattle.psb_bytes.specs.declared.ids.Ref.{Ref}
use Rattle.psb_bytes.specs.declared.ids.Ticket.{Ticket}
use Rattle.convergent_seal.specs.Sealing.{opened}
use Rattle.skeleton.specs.declared.entry.Entry.{Entry}
use Rattle.skeleton.specs.declared.entry.EntryKind.{EntryKind}
use Rattle.skeleton.specs.declared.entry.EntryKind.TheVariants as kind
use Rattle.skeleton.specs.declared.faults.SkelFault.{SkelFault}
use Rattle.snapshots.specs.Meaning.{Place}
use Rattle.snapshots.specs.Got.{Use, AreGot, IsTextGot, IsItemGot, AreItemsGot, IsTreeGot, IsBadGot}
use Rattle.snapshots.proofs.GotReads.{got_more, got_before, text_more, text_before, items_before, item_more}
use Rattle.snapshot_restore.specs.Taken.{Taken, taken_refs, taken_uses, taken_text, AllOpen}
use Rattle.snapshot_restore.specs.Reading.{IsTextRead, IsBadText, refs_of_entry, item_read, AreItemsRead, IsTreeRead}
use Rattle.snapshot_restore.proofs.Lists.{uses-append}

-- the parts of places that all open
pub open_front : (a b : List Taken) → AllOpen (a ++ b) → AllOpen a
open_front [] b o = tt
open_front (t ∷ a) b o = (o.0, open_front a b o.1)

pub open_behind : (a b : List Taken) → AllOpen (a ++ b) → AllOpen b
open_behind [] b o = o
open_behind (t ∷ a) b o = open_behind a b o.1

all_got : (ts : List Taken) → AllOpen ts → AreGot (taken_uses ts) (taken_refs ts) (taken_text ts)
all_got [] o = refl
all_got (t ∷ ts) o =
    let u : Use = record { name = t.reference.name; body = t.body } in (
      opened t.reference t.body,
      taken_text ts,
      record { body = t.body; used_for = (0, omega arith, refl); opens_it = o.0; plain_is = refl },
      got_before (taken_uses ts) (u ∷ []) (taken_refs ts) (taken_text ts) (all_got ts o.1),
      refl,
    )

refs_got : (ts : List Taken) (refs : List Ref) → taken_refs ts ≡ refs → AllOpen ts → AreGot (taken_uses ts) refs (taken_text ts)
refs_got ts refs are o = subst (λ (l : List Ref). AreGot (taken_uses ts) l (taken_text ts)) are (all_got ts o)

-- the same, with more behind them
front_got : (front behind : List Taken) (refs : List Ref) → taken_refs front ≡ refs → AllOpen (front ++ behind) → AreGot (taken_uses (front ++ behind)) refs (taken_text front)
front_got front behind refs are o =
    subst (λ (l : List Use). AreGot l refs (taken_text front)) (sym (uses-append front behind))
    (got_more (taken_uses front) (taken_uses behind) refs (taken_text front) (refs_got front refs are (open_front front behind o)))

text_got : (levels : ℕ) (refs : List Ref) (ts : List Taken) (text : List ℕ) → IsTextRead levels refs ts text → AllOpen ts → IsTextGot (taken_uses ts) levels refs text
text_got zero refs ts text r o = subst (AreGot (taken_uses ts) refs) (sym r.1) (refs_got ts refs r.0.places o)
text_got (suc levels) refs ts text r o =
    let front = r.0 in
    let behind = r.1 in
    let both = subst AllOpen r.3 o in
    subst (λ (l : List Taken). IsTextGot (taken_uses l) (suc levels) refs text) (sym r.3) (
      taken_text front,
      r.2,
      front_got front behind refs r.4.all.places both,
      r.4.reads,
      subst (λ (l : List Use). IsTextGot l levels r.2 text) (sym (uses-append front behind))
          (text_before (taken_uses behind) (taken_uses front) levels r.2 text (text_got levels r.2 behind text r.5 (open_behind front behind both))),
    )

item_got : (k : EntryKind) (refs : List Ref) (ts : List Taken) → taken_refs ts ≡ refs_of_entry k refs → AllOpen ts → IsItemGot (taken_uses ts) k refs (item_read k ts)
item_got kind.Folder refs ts are o = refl
item_got kind.File refs ts are o = (taken_text ts, refs_got ts refs are o, refl)

items_got : (es : List Entry) (ts : List Taken) (places : List Place) → AreItemsRead es ts places → AllOpen ts → AreItemsGot (taken_uses ts) es places
items_got [] ts places r o = r.1
items_got (e ∷ es) ts places r o =
    let front = r.0 in
    let behind = r.1 in
    let both = subst AllOpen r.3 o in
    let item = item_read e.kind front in
    subst (λ (l : List Taken). AreItemsGot (taken_uses l) (e ∷ es) places) (sym r.3) (
      item,
      r.2,
      subst (λ (l : List Use). IsItemGot l e.kind e.refs item) (sym (uses-append front behind))
          (item_more (taken_uses front) (taken_uses behind) e.kind e.refs item (item_got e.kind e.refs front r.4 (open_front front behind both))),
      subst (λ (l : List Use). AreItemsGot l es r.2) (sym (uses-append front behind))
          (items_before (taken_uses behind) (taken_uses front) es r.2 (items_got es behind r.2 r.5 (open_behind front behind both))),
      r.6,
    )

pub tree_got : (t : Ticket) (ts : List Taken) (entries : List Entry) (tree : List Place) → IsTreeRead t ts entries tree → AllOpen ts → (g : IsTreeGot (taken_uses ts) t tree) × (g.entries ≡ entries)
tree_got t ts entries tree r o =
    let front = r.front in
    let behind = r.behind in
    let both = subst AllOpen r.parts o in
    let uses : taken_uses ts ≡ taken_uses front ++ taken_uses behind = ap taken_uses r.parts ∙ uses-append front behind in (
      record {
        text = r.text;
        entries = entries;
        behind = subst (λ (l : List Use). IsTextGot l t.levels (t.reference ∷ []) r.text) (sym uses)
            (text_more (taken_uses front) (taken_uses behind) t.levels (t.reference ∷ []) r.text (text_got t.levels (t.reference ∷ []) front r.text r.reads_text (open_front front behind both)));
        reads = r.reads;
        items = subst (λ (l : List Use). AreItemsGot l entries tree) (sym uses)
            (items_before (taken_uses behind) (taken_uses front) entries tree (items_got entries behind tree r.items (open_behind front behind both)));
      },
      refl,
    )

-- ---- a bad text

got_behind : (pre : List Use) (ts : List Taken) (refs : List Ref) → taken_refs ts ≡ refs → AllOpen ts → AreGot (pre ++ taken_uses ts) refs (taken_text ts)
got_behind pre ts refs are o = got_before (taken_uses ts) pre refs (taken_text ts) (refs_got ts refs are o)

bad_behind : (pre : List Use) (levels : ℕ) (refs : List Ref) (ts : List Taken) (f : SkelFault) (place : ℕ) → IsBadText levels refs ts f place → AllOpen ts → IsBadGot (pre ++ taken_uses ts) levels refs
bad_behind pre zero refs ts f place bad o = ⊎_elim
    (λ long. inl long.long)
    (λ none. inr (taken_text ts, record { fault = f; place = place }, got_behind pre ts refs none.0.places o, none.1))
    bad
bad_behind pre (suc levels) refs ts f place bad o = ⊎_elim
    (λ long. inl long.long)
    (λ rest. ⊎_elim
    (λ none. inr (inl (taken_text ts, record { fault = f; place = place }, got_behind pre ts refs none.0.places o, none.1)))
    (λ m.
    let both = subst AllOpen m.3 o in
    let uses : (pre ++ taken_uses m.0) ++ taken_uses m.1 ≡ pre ++ taken_uses ts = append_assoc pre (taken_uses m.0) (taken_uses m.1) ∙ ap (λ (l : List Use). pre ++ l) (sym (uses-append m.0 m.1)) ∙ ap (λ (l : List Taken). pre ++ taken_uses l) (sym m.3) in
    inr (inr (
      taken_text m.0,
      m.2,
      subst (λ (l : List Use). AreGot l refs (taken_text m.0)) uses (got_more (pre ++ taken_uses m.0) (taken_uses m.1) refs (taken_text m.0) (got_behind pre m.0 refs m.4.all.places (open_front m.0 m.1 both))),
      m.4.reads,
      subst (λ (l : List Use). IsBadGot l levels m.2) uses (bad_behind (pre ++ taken_uses m.0) levels m.2 m.1 f place m.5 (open_behind m.0 m.1 both)),
    )))
    rest)
    bad

pub bad_got : (levels : ℕ) (refs : List Ref) (ts : List Taken) (f : SkelFault) (place : ℕ) → IsBadText levels refs ts f place → AllOpen ts → IsBadGot (taken_uses ts) levels refs
bad_got levels refs ts f place bad o = bad_behind [] levels refs ts f place bad o
