-- What is read of a ticket by the bodies that were taken: the lists of refs, level by level, then the skeleton, and then
-- the files, in the order of the entries.
use Rattle.std.specs.Prelude.{◌≡◌, ◌⊎◌, ℕ, zero, suc, ◌<◌, ◌≤◌, List, [], ◌∷◌, ◌++◌, Ok, Err, IsTrue}
use Rattle.std.specs.List.{list_all}
use Rattle.psb_bytes.specs.declared.ids.Ref.{Ref}
use Rattle.psb_bytes.specs.declared.ids.Ticket.{Ticket}
use Rattle.skeleton.specs.declared.entry.Entry.{Entry}
use Rattle.skeleton.specs.declared.entry.EntryKind.{EntryKind}
use Rattle.skeleton.specs.declared.entry.EntryKind.TheVariants as kind
use Rattle.skeleton.specs.declared.faults.SkelFault.{SkelFault}
use Rattle.skeleton.specs.declared.faults.SkelFault.TheVariants.{TooLong}
use Rattle.skeleton.specs.declared.limits.TheConstants.{MOST_TEXT_BYTES}
use Rattle.skeleton.specs.Entries.{is_ref, total}
use Rattle.skeleton.specs.Reading.{skeleton_of, refs_of}
use Rattle.snapshots.specs.Meaning.{Item, Folder, File, Place}
use Rattle.snapshot_restore.specs.Taken.{Taken, taken_refs, taken_text}
use Rattle.snapshot_restore.specs.declared.fault.RestoreFault.{RestoreFault}
use Rattle.snapshot_restore.specs.declared.fault.RestoreFault.TheVariants as restore_fault

-- ---- texts

-- all places of a text were read, which is not too long
pub record IsRead (refs : List Ref) (ts : List Taken) : Type 0 where
  pub places : taken_refs ts ≡ refs
  pub fits : total refs ≤ MOST_TEXT_BYTES

-- a list of refs was read of all places that these refs name; each ref of it has the length of a chunk
pub record IsListRead (refs : List Ref) (ts : List Taken) (next : List Ref) : Type 0 where
  pub all : IsRead refs ts
  pub reads : refs_of (taken_text ts) ≡ Ok next
  pub valid : IsTrue (list_all is_ref next)

-- the text behind so many lists of refs was read of these places
abbrev pub IsTextRead : ℕ → List Ref → List Taken → List ℕ → Type 0
IsTextRead zero refs ts text = IsRead refs ts × (text ≡ taken_text ts)
IsTextRead (suc levels) refs ts text = (front : List Taken) × (behind : List Taken) × (next : List Ref) × (ts ≡ front ++ behind) × IsListRead refs front next × IsTextRead levels next behind text

-- these places are the first of a text, which is not too long, and the next ones would be these
pub record AreFirst (refs : List Ref) (ts : List Taken) (next : List Ref) : Type 0 where
  pub places : refs ≡ taken_refs ts ++ next
  pub fits : total refs ≤ MOST_TEXT_BYTES

-- they are the first of the texts
abbrev pub IsInText : ℕ → List Ref → List Taken → List Ref → Type 0
IsInText zero refs ts next = AreFirst refs ts next
IsInText (suc levels) refs ts next =
    AreFirst refs ts next
    ⊎ ((front : List Taken) × (behind : List Taken) × (list : List Ref) × (ts ≡ front ++ behind) × IsListRead refs front list × IsInText levels list behind next)

-- the text of these refs would be too long, which is seen before its first place is read
pub record IsTooLong (refs : List Ref) (ts : List Taken) (fault : SkelFault) (place : ℕ) : Type 0 where
  pub none : ts ≡ []
  pub long : MOST_TEXT_BYTES < total refs
  pub fault_is : fault ≡ TooLong
  pub place_is : place ≡ 0

-- The first text that is outside the grammar is outside it by this fault at this place: the skeleton, or a list.
abbrev pub IsBadText : ℕ → List Ref → List Taken → SkelFault → ℕ → Type 0
IsBadText zero refs ts fault place =
    IsTooLong refs ts fault place
    ⊎ (IsRead refs ts × (skeleton_of (taken_text ts) ≡ Err (record { fault = fault; place = place })))
IsBadText (suc levels) refs ts fault place =
    IsTooLong refs ts fault place
    ⊎ (IsRead refs ts × (refs_of (taken_text ts) ≡ Err (record { fault = fault; place = place })))
    ⊎ ((front : List Taken) × (behind : List Taken) × (next : List Ref) × (ts ≡ front ++ behind) × IsListRead refs front next × IsBadText levels next behind fault place)

-- where it stopped: at a text that is too long or outside the grammar, or at a place of one that is not too long
abbrev pub StopsInText : ℕ → List Ref → List Taken → List Ref → RestoreFault → Type 0
StopsInText levels refs ts next (restore_fault.BadSkeleton fault place) = IsBadText levels refs ts fault place × (next ≡ [])
StopsInText levels refs ts next e = IsInText levels refs ts next

-- ---- the tree

-- the places of an entry: a folder has none
abbrev pub refs_of_entry : EntryKind → List Ref → List Ref
refs_of_entry kind.Folder refs = []
refs_of_entry kind.File refs = refs

abbrev pub refs_of_files : List Entry → List Ref
refs_of_files [] = []
refs_of_files (e ∷ es) = refs_of_entry e.kind e.refs ++ refs_of_files es

-- what stands at a path, by the places that were read for it
abbrev pub item_read : EntryKind → List Taken → Item
item_read kind.Folder ts = Folder
item_read kind.File ts = File (taken_text ts)

-- all entries, in order
abbrev pub AreItemsRead : List Entry → List Taken → List Place → Type 0
AreItemsRead [] ts places = (ts ≡ []) × (places ≡ [])
AreItemsRead (e ∷ es) ts places =
    (front : List Taken) × (behind : List Taken) × (rest : List Place) × (ts ≡ front ++ behind) × (taken_refs front ≡ refs_of_entry e.kind e.refs)
    × AreItemsRead es behind rest × (places ≡ record { path = e.path; item = item_read e.kind front } ∷ rest)

-- The tree that was read of a ticket.
pub record IsTreeRead (t : Ticket) (ts : List Taken) (entries : List Entry) (tree : List Place) : Type 0 where
  pub front : List Taken
  pub behind : List Taken
  pub text : List ℕ
  pub parts : ts ≡ front ++ behind
  pub reads_text : IsTextRead t.levels (t.reference ∷ []) front text
  pub reads : skeleton_of text ≡ Ok entries
  pub items : AreItemsRead entries behind tree

-- The places of a ticket that follow these in the order in which they are read: the next ones of its texts, or of its
-- files.
pub record AreInFiles (t : Ticket) (ts : List Taken) (next : List Ref) : Type 0 where
  pub front : List Taken
  pub behind : List Taken
  pub text : List ℕ
  pub entries : List Entry
  pub parts : ts ≡ front ++ behind
  pub reads_text : IsTextRead t.levels (t.reference ∷ []) front text
  pub reads : skeleton_of text ≡ Ok entries
  pub here : refs_of_files entries ≡ taken_refs behind ++ next

abbrev pub AreNext : Ticket → List Taken → List Ref → Type 0
AreNext t ts next = IsInText t.levels (t.reference ∷ []) ts next ⊎ AreInFiles t ts next

-- before anything was read
abbrev pub IsUnread : List Taken → List Ref → Type 0
IsUnread ts next = (ts ≡ []) × (next ≡ [])

-- Where it stopped. A text that is too long in sum is refused before its first place, so no other answer is given at one.
abbrev pub StopsAt : Ticket → List Taken → List Ref → RestoreFault → Type 0
StopsAt t ts next (restore_fault.BadSkeleton fault place) = IsBadText t.levels (t.reference ∷ []) ts fault place × (next ≡ [])
StopsAt t ts next restore_fault.NotEmpty = IsUnread ts next
StopsAt t ts next restore_fault.Folder = IsUnread ts next ⊎ AreInFiles t ts next
StopsAt t ts next restore_fault.Memory = IsUnread ts next ⊎ AreNext t ts next
StopsAt t ts next e = AreNext t ts next
