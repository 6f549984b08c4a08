-- The skeleton and the ticket of a tree: its files are cut and sealed, and so is the skeleton's text; where that has
-- more than one piece, so is the text of their refs, and so on, until one ref is left.
use Rattle.std.specs.Prelude.{ℕ, zero, suc, List, [], ◌∷◌, length, map, Option, Some, None}
use Rattle.psb_bytes.specs.declared.ids.Ref.{Ref}
use Rattle.psb_bytes.specs.declared.ids.Ticket.{Ticket}
use Rattle.convergent_seal.specs.Sealing.{sealed_ref}
use Rattle.rolling_chunks.specs.Cuts.{longest}
use Rattle.rolling_chunks.specs.Spans.{spans}
use Rattle.rolling_chunks.specs.Laws.{part}
use Rattle.skeleton.specs.declared.entry.Entry.{Entry}
use Rattle.skeleton.specs.declared.entry.EntryKind.TheVariants as kind
use Rattle.skeleton.specs.Texts.{skeleton_text, refs_text}
use Rattle.snapshots.specs.Meaning.{given, Folder, File, Place}

-- the pieces of a text, which is cut by its content
abbrev pub chunks_of : List ℕ → List (List ℕ)
chunks_of text = map (part text) (spans longest text)

-- the refs of its pieces
abbrev pub refs_of_text : List ℕ → List Ref
refs_of_text text = map sealed_ref (chunks_of text)

-- ---- the skeleton of a tree

abbrev pub entry_of : Place → Entry
entry_of p = elim p.item [
  | Folder ↦ record { path = p.path; kind = kind.Folder; size = 0; refs = [] }
  | File bytes ↦ record { path = p.path; kind = kind.File; size = length bytes; refs = refs_of_text bytes }
]

abbrev pub skeleton_of_tree : List Place → List Entry
skeleton_of_tree places = map entry_of places

-- ---- the lists of refs above it, of which there are at most so many

abbrev pub one_of : List Ref → Option Ref
one_of [] = None
one_of (r ∷ []) = Some r
one_of (r ∷ q ∷ rest) = None

-- the ticket of a text: the ref of its one piece, or that of the list of their refs, with a level more
abbrev pub ticket_from : ℕ → List ℕ → Option Ticket
ticket_from zero text = given (one_of (refs_of_text text)) (λ r. Some (record { reference = r; levels = 0 }))
ticket_from (suc most) text =
    elim (one_of (refs_of_text text)) [
      | Some r ↦ Some (record { reference = r; levels = 0 })
      | None ↦ given (ticket_from most (refs_text (refs_of_text text))) (λ t. Some (record { reference = t.reference; levels = suc t.levels }))
    ]

abbrev pub most_levels : ℕ
most_levels = 4

-- the ticket of a tree
abbrev pub ticket_of_tree : List Place → Option Ticket
ticket_of_tree places = ticket_from most_levels (skeleton_text (skeleton_of_tree places))
