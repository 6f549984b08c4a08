-- What the ticket of a tree means over the bodies that a backup kept.
use Rattle.std.proofs.Common.{◌≡◌, ℕ, zero, suc, ◌+◌, ◌≤◌, Bool, cond, List, [], ◌∷◌, ◌++◌, length, Option, Some, None, refl, ◌∙◌, ap, subst}
use Rattle.psb_bytes.specs.declared.ids.Ref.{Ref}
use Rattle.psb_bytes.specs.declared.ids.Ticket.{Ticket}
use Rattle.psb_model.specs.State.{own_has, snaps_made}
use Rattle.psb_model.specs.History.{state}
use Rattle.psb_model.specs.Needed.{last_brought, IsValid}
use Rattle.psb_model.specs.declared.change.Change.{Change}
use Rattle.psb_model.proofs.Steady.{steady_state}
use Rattle.model_laws.proofs.Leaving.{snapped_has}
use Rattle.psb_model.proofs.Prefixes.{state_snoc}
use Rattle.psb_machine.specs.Machine.{snapped_with}
use Rattle.psb_machine.specs.declared.snap_note.SnapNote.{SnapNote}
use Rattle.convergent_seal.specs.Sealing.{sealed, sealed_ref}
use Rattle.skeleton.specs.declared.limits.TheConstants.{MOST_TEXT_BYTES}
use Rattle.skeleton.specs.Entries.{IsSkeleton}
use Rattle.skeleton.specs.Texts.{skeleton_text, refs_text}
use Rattle.snapshots.specs.Meaning.{Item, Folder, File, Place, means}
use Rattle.snapshots.specs.Tickets.{chunks_of, refs_of_text, skeleton_of_tree, ticket_of_tree, most_levels}
use Rattle.snapshots.specs.Laws.{AreHeld, HoldsItem, HoldsFiles, HoldsLevels}
use Rattle.snapshots.proofs.Levels.{next_short}
use Rattle.snapshots.proofs.Tickets.{ticket_means}
use Rattle.snapshot_backup.specs.Course.{pieces_in, pieces_of_files, pieces_of_levels, pieces_of}
use Rattle.snapshot_backup.specs.Kept.{own_bodies, IsKept, AreKept}
use Rattle.snapshot_backup.proofs.Keeping.{last_stays}

-- the note of a snapshot leaves the bodies as they are
pub snapped_stays : (h : List Change) (note : SnapNote) (name bytes : List ℕ) → IsValid h → IsKept h name bytes → IsKept (h ++ snapped_with (state h) note ∷ []) name bytes
snapped_stays h note name bytes v k = record {
  own = ap (λ s. own_has s.own name) (state_snoc h (snapped_with (state h) note)) ∙ snapped_has (state h) (snaps_made (state h) + 1) note.ticket note.files note.folders note.bytes note.left note.names name (steady_state h v.lawful) ∙ k.own;
  last = last_stays name h (snapped_with (state h) note) refl ∙ k.last;
}

-- ---- what was kept is held

body_is : (h : List Change) (name bytes : List ℕ) → IsKept h name bytes → own_bodies h name ≡ Some bytes
body_is h name bytes k = ap (λ (b : Bool). cond b (last_brought name h) None) k.own ∙ k.last

are_held : (h : List Change) (ps : List (List ℕ)) → AreKept h ps → AreHeld (own_bodies h) ps
are_held h [] all = tt
are_held h (p ∷ ps) all = (body_is h (sealed_ref p).name (sealed p) all.0, are_held h ps all.1)

pub front_kept : (h : List Change) (ps qs : List (List ℕ)) → AreKept h (ps ++ qs) → AreKept h ps × AreKept h qs
front_kept h [] qs all = (tt, all)
front_kept h (p ∷ ps) qs all = let rest = front_kept h ps qs all.1 in ((all.0, rest.0), rest.1)

item_held : (h : List Change) (item : Item) → AreKept h (pieces_in item) → HoldsItem (own_bodies h) item
item_held h Folder all = tt
item_held h (File bytes) all = are_held h (chunks_of bytes) all

files_held : (h : List Change) (places : List Place) → AreKept h (pieces_of_files places) → HoldsFiles (own_bodies h) places
files_held h [] all = tt
files_held h (p ∷ ps) all =
    let two = front_kept h (pieces_in p.item) (pieces_of_files ps) all in
    (item_held h p.item two.0, files_held h ps two.1)

levels_held : (h : List Change) (most : ℕ) (text : List ℕ) → length text ≤ MOST_TEXT_BYTES → AreKept h (pieces_of_levels most text) → HoldsLevels (own_bodies h) most text
levels_held h zero text short all = (are_held h (chunks_of text) all, short)
levels_held h (suc most) text short all =
    let two = front_kept h (chunks_of text) _ all in (
      are_held h (chunks_of text) two.0,
      short,
      λ none. levels_held h most (refs_text (refs_of_text text)) (next_short text short) (subst (AreKept h) (ap (λ (o : Option Ref). elim o [ Some r ↦ [] | None ↦ pieces_of_levels most (refs_text (refs_of_text text)) ]) none) two.1),
    )

pub kept_means : (h : List Change) (places : List Place) (t : Ticket) → IsSkeleton (skeleton_of_tree places) → length (skeleton_text (skeleton_of_tree places)) ≤ MOST_TEXT_BYTES → ticket_of_tree places ≡ Some t → AreKept h (pieces_of places)
    → means (own_bodies h) t ≡ Some places
kept_means h places t skeleton short ticket all =
    let two = front_kept h (pieces_of_files places) (pieces_of_levels most_levels (skeleton_text (skeleton_of_tree places))) all in
    ticket_means (own_bodies h) places t skeleton ticket (record { files = files_held h places two.0; levels = levels_held h most_levels (skeleton_text (skeleton_of_tree places)) short two.1 })
