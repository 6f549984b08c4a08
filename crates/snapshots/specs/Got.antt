-- What is read of a ticket by the bodies that were used for the names of its places, whatever else stands under them
-- elsewhere: a relation, where the meaning of a ticket is a function of a map of bodies.
use Rattle.std.specs.Prelude.{◌≡◌, ◌⊎◌, ℕ, zero, suc, ◌<◌, true, List, [], ◌∷◌, ◌++◌, Contains, Some, Ok, Err}
use Rattle.psb_bytes.specs.declared.ids.Ref.{Ref}
use Rattle.psb_bytes.specs.declared.ids.Ticket.{Ticket}
use Rattle.psb_digest.specs.Hashes.{sha}
use Rattle.convergent_seal.specs.Sealing.{opened}
use Rattle.skeleton.specs.declared.entry.Entry.{Entry}
use Rattle.skeleton.specs.declared.entry.EntryKind.{EntryKind}
use Rattle.skeleton.specs.declared.entry.EntryKind.TheVariants as kind
use Rattle.skeleton.specs.declared.faults.FaultAt.{FaultAt}
use Rattle.skeleton.specs.declared.limits.TheConstants.{MOST_TEXT_BYTES}
use Rattle.skeleton.specs.Entries.{total}
use Rattle.skeleton.specs.Reading.{skeleton_of, refs_of}
use Rattle.snapshots.specs.Meaning.{Bodies, opens, Item, Folder, File, Place}

-- a body that was used for a name
pub record Use : Type 0 where
  pub name : List ℕ
  pub body : List ℕ

-- the plain bytes of a ref: those that a body opens to which was used for its name
pub record IsGot (used : List Use) (r : Ref) (plain : List ℕ) : Type 0 where
  pub body : List ℕ
  pub used_for : Contains used (record { name = r.name; body = body })
  pub opens_it : opens r body ≡ true
  pub plain_is : plain ≡ opened r body

-- those of each ref, joined
abbrev pub AreGot : List Use → List Ref → List ℕ → Type 0
AreGot used [] text = text ≡ []
AreGot used (r ∷ rs) text = (front : List ℕ) × (rest : List ℕ) × IsGot used r front × AreGot used rs rest × (text ≡ front ++ rest)

-- the text behind so many lists of refs
abbrev pub IsTextGot : List Use → ℕ → List Ref → List ℕ → Type 0
IsTextGot used zero refs text = AreGot used refs text
IsTextGot used (suc levels) refs text = (list : List ℕ) × (next : List Ref) × AreGot used refs list × (refs_of list ≡ Ok next) × IsTextGot used levels next text

-- a text on the way is none: it would be too long, or it is outside the grammar
abbrev pub IsBadGot : List Use → ℕ → List Ref → Type 0
IsBadGot used zero refs = (MOST_TEXT_BYTES < total refs) ⊎ ((text : List ℕ) × (fault : FaultAt) × AreGot used refs text × (skeleton_of text ≡ Err fault))
IsBadGot used (suc levels) refs =
    (MOST_TEXT_BYTES < total refs)
    ⊎ ((text : List ℕ) × (fault : FaultAt) × AreGot used refs text × (refs_of text ≡ Err fault))
    ⊎ ((text : List ℕ) × (next : List Ref) × AreGot used refs text × (refs_of text ≡ Ok next) × IsBadGot used levels next)

-- what stands at a path, and at the paths of all entries
abbrev pub IsItemGot : List Use → EntryKind → List Ref → Item → Type 0
IsItemGot used kind.Folder refs item = item ≡ Folder
IsItemGot used kind.File refs item = (bytes : List ℕ) × AreGot used refs bytes × (item ≡ File bytes)

abbrev pub AreItemsGot : List Use → List Entry → List Place → Type 0
AreItemsGot used [] places = places ≡ []
AreItemsGot used (e ∷ es) places =
    (item : Item) × (rest : List Place) × IsItemGot used e.kind e.refs item × AreItemsGot used es rest × (places ≡ record { path = e.path; item = item } ∷ rest)

-- the tree that was read of a ticket
pub record IsTreeGot (used : List Use) (t : Ticket) (tree : List Place) : Type 0 where
  pub text : List ℕ
  pub entries : List Entry
  pub behind : IsTextGot used t.levels (t.reference ∷ []) text
  pub reads : skeleton_of text ≡ Ok entries
  pub items : AreItemsGot used entries tree

-- Two unequal texts were met that share a SHA-256: a body that was used for a name, and the one that stands there.
pub record AreMet (bodies : Bodies) (used : List Use) : Type 0 where
  pub name : List ℕ
  pub body : List ℕ
  pub other : List ℕ
  pub used_for : Contains used (record { name = name; body = body })
  pub stands : bodies name ≡ Some other
  pub unequal : ¬ (body ≡ other)
  pub named : sha body ≡ name
  pub other_named : sha other ≡ name
