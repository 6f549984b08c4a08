-- What a ticket means over bodies: the tree of folders and files that it opens to.
use Rattle.std.specs.Prelude.{ℕ, zero, suc, Bool, ◌&&◌, ◌==◌, if◌then◌else◌, List, [], ◌∷◌, ◌++◌, length, bytes_eq, Option, Some, None, Result, Ok, Err}
use Rattle.psb_bytes.specs.declared.ids.Ref.{Ref}
use Rattle.psb_bytes.specs.declared.ids.Ticket.{Ticket}
use Rattle.psb_digest.specs.Hashes.{sha}
use Rattle.convergent_seal.specs.Sealing.{opened}
use Rattle.skeleton.specs.declared.entry.Entry.{Entry}
use Rattle.skeleton.specs.declared.entry.EntryKind.{EntryKind}
use Rattle.skeleton.specs.declared.entry.EntryKind.TheVariants as kind
use Rattle.skeleton.specs.Reading.{skeleton_of, refs_of}

-- the body that stands under a name, if one does
abbrev pub Bodies : Type 0
Bodies = List ℕ → Option (List ℕ)

-- what follows from what is there
abbrev pub given : {A B : Type 0} → Option A → (A → Option B) → Option B
given None f = None
given (Some x) f = f x

abbrev pub read : {A F : Type 0} → Result A F → Option A
read (Ok x) = Some x
read (Err f) = None

-- the plain bytes of a ref: those that its body opens to, where the body has the ref's name and length
abbrev pub opens : Ref → List ℕ → Bool
opens r body = bytes_eq (sha body) r.name && (length body == r.len)

abbrev pub plain_of : Bodies → Ref → Option (List ℕ)
plain_of bodies r = given (bodies r.name) (λ body. if opens r body then Some (opened r body) else None)

-- those of each ref, joined, where all are there
abbrev pub plains_of : Bodies → List Ref → Option (List ℕ)
plains_of bodies [] = Some []
plains_of bodies (r ∷ rs) = given (plain_of bodies r) (λ front. given (plains_of bodies rs) (λ rest. Some (front ++ rest)))

-- the text behind so many lists of refs
abbrev pub text_behind : Bodies → ℕ → List Ref → Option (List ℕ)
text_behind bodies zero refs = plains_of bodies refs
text_behind bodies (suc levels) refs = given (plains_of bodies refs) (λ text. given (read (refs_of text)) (λ next. text_behind bodies levels next))

-- what stands at a path: a folder, or a file of these bytes
pub data Item : Type 0 where
  Folder : Item
  File : List ℕ → Item

-- a path, and what stands there
pub record Place : Type 0 where
  pub path : List ℕ
  pub item : Item

abbrev pub item_of : Bodies → EntryKind → List Ref → Option Item
item_of bodies kind.Folder refs = Some Folder
item_of bodies kind.File refs = given (plains_of bodies refs) (λ bytes. Some (File bytes))

abbrev pub tree_of : Bodies → List Entry → Option (List Place)
tree_of bodies [] = Some []
tree_of bodies (e ∷ es) =
    given (item_of bodies e.kind e.refs) (λ item. given (tree_of bodies es) (λ rest. Some (record { path = e.path; item = item } ∷ rest)))

-- the tree that a ticket means over these bodies, where each that it needs is there and opens
abbrev pub means : Bodies → Ticket → Option (List Place)
means bodies t = given (text_behind bodies t.levels (t.reference ∷ [])) (λ text. given (read (skeleton_of text)) (tree_of bodies))

-- ---- what it needs

-- the refs of all lists, from the ticket's on
abbrev pub refs_above : Bodies → ℕ → List Ref → Option (List Ref)
refs_above bodies zero refs = Some refs
refs_above bodies (suc levels) refs =
    given (plains_of bodies refs) (λ text. given (read (refs_of text)) (λ next. given (refs_above bodies levels next) (λ rest. Some (refs ++ rest))))

abbrev pub refs_in : List Entry → List Ref
refs_in [] = []
refs_in (e ∷ es) = e.refs ++ refs_in es

-- the refs of all places in the order in which they are read: the ticket's, those of each list, and then
-- those of each file
abbrev pub places : Bodies → Ticket → Option (List Ref)
places bodies t =
    given (refs_above bodies t.levels (t.reference ∷ [])) (λ above.
    given (text_behind bodies t.levels (t.reference ∷ [])) (λ text.
    given (read (skeleton_of text)) (λ entries. Some (above ++ refs_in entries))))
